-- Every rule opened by one name: what a computed case unfolds. Assumes nothing.
use Rattle.registers.specs.Control.{unsupported_jpeg, unsupported_codes, unsupported}
use Rattle.registers.specs.Map.{register_at}
use Rattle.samples.specs.Samples.{bad_sample, any_bad}
use Rattle.packing.specs.Packing.{width, lane, per_word, kept, joined, with_zeros, zero_filled}
use Rattle.numbers.specs.Numbers.{little}
use Rattle.output.specs.Output.{contents, laid, with_held, holding, fresh_output, with_counts, count_sample, count_word, count_discarded, with_place, count_landed, room, stored, no_landing, lands, oldest_lands, grant, offer, discard, counted, in_memory}
use Rattle.output.specs.WellFormed.{all_zero, bad_depth, bad_fifo, bad_place, bad_counts}
use Rattle.bits.specs.Bits.{raised, lowered}
use Rattle.rules.specs.State.{fresh_capture, fresh_of, with_cr, with_ris, with_ier, with_cwstrt, with_cwsize, with_escr, with_esur, with_registers, with_pins, with_syncs, with_frame, with_rate, with_partial, with_waiting, raise, clear_capture, close_frame}
use Rattle.rules.specs.CropWindow.{one_of, inside}
use Rattle.rules.specs.Capture.{no_word, flagged, working_edge, remember_pins, blanking, vsync_flag, line_flag, sync_flags, window_ended, hsync_after_window, frame_rises, frame_due, padded, end_of, frame_closes, frame_pads, frame_end, rate_period, next_rate, takes, open_frame, starts, start_of, frame_start, line_begins, next_pixel, in_window, captured, packed_bits, pack, pixel, pixel_in, pixel_edge, either_word, at_edge}
use Rattle.codes.specs.Bytes.{waiting_after, released}
use Rattle.codes.specs.Meaning.{agrees, by_line_starts, starts_frame, ends_line, starts_line, unused, ends_frame, meaning}
use Rattle.rules.specs.Codes.{in_line, coded_syncs, seeks, arrived, before, datum, each_datum, byte_in, taken_out, first_place, frame_opens, line_opens, closes, errs, line_start, obeyed, sought, at_code, at_byte}
use Rattle.rules.specs.Sample.{byte_of, edge, capture_sample, next_capture}
use Rattle.rules.specs.WellFormed.{unused_bits, full_partial, excluded, bad_flags, active_disabled, partial_outside, bad_rate, above_samples, malformed}
use Rattle.rules.specs.RegisterCalls.{pin_syncs, shown_syncs, status, masked, value, read_refusal, read, changes_setup, write_refusal, enabling, disabling, switch_enable, capture_rises, switch_capture, write_control, clear_flags, write_register, write_at, write, made, interrupt, rearmed, rearm}
use Rattle.rules.specs.Run.{lose_frame, after_word, complete, after_grant, step, steps, run_refusal, run, sample}

unfoldable pub every_rule : Unit {0}
unfolding unsupported_jpeg unsupported_codes unsupported register_at bad_sample any_bad width lane per_word kept joined with_zeros zero_filled contents laid with_held holding fresh_output with_counts count_sample count_word count_discarded with_place count_landed little room stored no_landing lands oldest_lands grant offer discard all_zero bad_depth bad_fifo bad_place bad_counts fresh_capture fresh_of raised lowered with_cr with_ris with_ier with_cwstrt with_cwsize with_escr with_esur with_registers with_pins with_syncs with_frame with_rate with_partial with_waiting raise clear_capture close_frame no_word flagged working_edge remember_pins blanking vsync_flag line_flag sync_flags window_ended hsync_after_window frame_rises frame_due padded end_of frame_closes frame_pads frame_end rate_period next_rate takes open_frame starts start_of frame_start line_begins next_pixel one_of inside in_window captured packed_bits pack pixel pixel_in pixel_edge either_word at_edge waiting_after released agrees by_line_starts starts_frame ends_line starts_line unused ends_frame meaning in_line coded_syncs seeks arrived before datum each_datum byte_in taken_out first_place frame_opens line_opens closes errs line_start obeyed sought at_code at_byte byte_of edge capture_sample next_capture unused_bits full_partial excluded bad_flags active_disabled partial_outside bad_rate above_samples malformed pin_syncs shown_syncs status masked value read_refusal read changes_setup write_refusal enabling disabling switch_enable capture_rises switch_capture write_control clear_flags write_register write_at write made interrupt rearmed rearm lose_frame after_word complete after_grant counted step steps run_refusal run in_memory sample
every_rule = tt

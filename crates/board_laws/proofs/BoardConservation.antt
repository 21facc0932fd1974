-- From a board made with a depth from 1 to 32 no list of calls, over one memory or two, reaches a malformed one, and completed = landed + held + discarded after every one (W2).
-- The idea: each call keeps a well-formed board so, over two memories sample by sample (TwoKeeps); disabling discards the tags with the held words. Assumes nothing.
use mathlib.Core.Bool.{Bool, true, false, cond}
use mathlib.Core.List.{List, [], ◌∷◌}
use mathlib.Core.Path.{◌≡◌, refl, ap, subst}
use Prim.Native.Nat.{ℕ, ◌+◌, ◌^◌, ◌<◌}
use native.Mathlib.Omega.{arith}
use lib.Dec.{eqb}
use lib.ListN.{drop}
use lib.Pow.{pow_pos}
use Rattle.bits.proofs.Booleans.{or_false, either, both_false}
use Rattle.buffers.specs.declared.Turns.{Turns}
use Rattle.buffers.specs.Turns as turn_rules
use Rattle.buffers.specs.Turns.{fresh_turns, with_turn, with_tags, with_place_b, with_content}
use Rattle.refusals.specs.Refusals.{◌⇒◌, first}
use Rattle.output.specs.declared.Output.{Output}
use Rattle.output.specs.Output.{with_place}
use Rattle.output.specs.WellFormed.{bad_depth}
use Rattle.rules.specs.declared.Device.{Device}
use Rattle.rules.specs.State.{capture_of, fresh_of}
use Rattle.rules.specs.Capture.{enabled}
use Rattle.rules.specs.WellFormed as device_clauses
use Rattle.rules.specs.Run as run_rules
use Rattle.rules.specs.RegisterCalls as register_rules
use Rattle.rules.proofs.WellFormed.{WellFormed, facts, well_formed}
use Rattle.laws.specs.Histories as device_histories
use Rattle.output.specs.Ledger.{Ledger, discarding_entry, numbers}
use Rattle.laws.specs.Ledger.{enter, enter_all}
use Rattle.laws.proofs.Keeps.{fresh_well_formed, run_keeps}
use Rattle.laws.proofs.KeepsSample.{step_keeps}
use Rattle.laws.proofs.KeepsWrites.{write_keeps, rearmed_ok}
use Rattle.laws.proofs.CountsFromHistory.{call_counted}
use Rattle.board_rules.specs.declared.Mode.{Mode}
use Rattle.board_rules.specs.declared.Mode.TheVariants.{One, Two}
use Rattle.board_rules.specs.declared.Board.{Board}
use Rattle.board_rules.specs.State.{is_two, bad_mode, malformed}
use Rattle.board_rules.specs.BoardCalls as board_calls
use Rattle.board_rules.specs.BoardCalls.{mode_after, write, rearmed_mode, rearm, set_mode}
use Rattle.board_rules.specs.BoardRuns.{one_refusal, run, sample, two_refusal, turns_of, opened, run_two, sample_two}
use Rattle.board_rules.specs.TwoBuffers.{two_step, two_steps}
use Rattle.board_rules.proofs.WellFormed.{TurnsOk, turns_facts, turns_well}
use Rattle.board_laws.specs.BoardHistories.{Call, a_write, a_rearming, one_buffer, two_buffers, a_run, a_sample, a_run_two, a_sample_two, after, after_all, reached}
use Rattle.board_laws.proofs.TwoKeeps.{two_step_keeps, two_steps_keep}

-- A board that is not malformed, as facts, and the way back.
abbrev pub ModeOk : Output → Mode → Type 0
ModeOk o One = Unit {0}
ModeOk o (Two t) = TurnsOk o t

pub board_facts : (b : Board) → malformed b ≡ false → WellFormed b.device × ModeOk b.device.core.output b.mode
unfolding malformed
board_facts b e =
    let (d, m) = or_false (device_clauses.malformed b.device) _ e in
    (facts b.device d, go b.mode m)
  where
    go : (m : Mode) → bad_mode b.device.core.output m ≡ false → ModeOk b.device.core.output m
    go One e = tt
    go (Two t) e = turns_facts _ t e

pub board_well : (d : Device) (m : Mode) → WellFormed d → ModeOk d.core.output m → malformed (record { device = d; mode = m }) ≡ false
unfolding malformed
board_well d m f ok = both_false (device_clauses.malformed d) _ (well_formed d f) (go m ok)
  where
    go : (m : Mode) → ModeOk d.core.output m → bad_mode d.core.output m ≡ false
    go One ok = refl
    go (Two t) ok = turns_well _ t ok

-- A register write. Where ENABLE falls, nothing is held after it.
turns_after : (falls : Bool) (o o' : Output) (t : Turns) → enter_all (numbers o) (cond falls (device_histories.disabled ∷ []) []) ≡ numbers o' → TurnsOk o t
    → TurnsOk o' (cond falls (turn_rules.discarded t) t)
unfolding enter_all enter discarding_entry turn_rules.discarded with_turn with_tags
turns_after true o o' t e k =
    let more = pow_pos o'.held in
    record { buffers = more; opening = more; place = omega (arith, k.place, ap (λ (l : Ledger). l.landed) e) }
turns_after false o o' t e k =
    let held = ap (λ (l : Ledger). l.held) e in
    record {
      buffers = subst (λ n. t.in_b < 2 ^ n) held k.buffers;
      opening = subst (λ n. t.opening < 2 ^ n) held k.opening;
      place = omega (arith, k.place, ap (λ (l : Ledger). l.landed) e);
    }

pub write_counted : (d : Device) (offset v : ℕ) → v < 2 ^ 32
    → let d' = (register_rules.write d offset v).device in enter_all (numbers d.core.output) (cond (board_calls.disabled d d') (device_histories.disabled ∷ []) []) ≡ numbers d'.core.output
unfolding board_calls.disabled device_histories.events device_histories.samplings_of device_histories.after device_histories.disabling_of
write_counted d offset v fits = call_counted d (device_histories.a_write offset v fits)

mode_after_ok : (falls : Bool) (o o' : Output) (m : Mode) → enter_all (numbers o) (cond falls (device_histories.disabled ∷ []) []) ≡ numbers o' → ModeOk o m
    → ModeOk o' (mode_after falls m)
unfolding mode_after
mode_after_ok falls o o' One e ok = tt
mode_after_ok falls o o' (Two t) e ok = turns_after falls o o' t e ok

write_well : (d : Device) (m : Mode) (offset v : ℕ) → v < 2 ^ 32 → WellFormed d → ModeOk d.core.output m
    → let d' = (register_rules.write d offset v).device in malformed (record { device = d'; mode = mode_after (board_calls.disabled d d') m }) ≡ false
write_well d m offset v fits f ok =
    let d' = (register_rules.write d offset v).device in
    board_well d' _ (facts d' (write_keeps d offset v fits (well_formed d f)))
    (mode_after_ok (board_calls.disabled d d') d.core.output d'.core.output m (write_counted d offset v fits) ok)

-- Re-arming, and setting the mode.
rearmed_well : (d : Device) (m : Mode) → WellFormed d → ModeOk d.core.output m → malformed (record { device = register_rules.rearmed d; mode = rearmed_mode m }) ≡ false
unfolding rearmed_mode register_rules.rearmed with_place turn_rules.rearmed with_place_b with_content
rearmed_well d One f ok = board_well (register_rules.rearmed d) One (rearmed_ok d f) tt
rearmed_well d (Two t) f ok =
    board_well (register_rules.rearmed d) (Two (turn_rules.rearmed t)) (rearmed_ok d f) (record { buffers = ok.buffers; opening = ok.opening; place = omega arith })

fresh_turns_ok : (o : Output) → TurnsOk o fresh_turns
unfolding fresh_turns
fresh_turns_ok o = let more = pow_pos o.held in record { buffers = more; opening = more; place = omega arith }

set_well : (m : Mode) (b : Board) → ((o : Output) → ModeOk o m) → malformed b ≡ false → malformed (set_mode m b).board ≡ false
unfolding set_mode
set_well m b ok e =
    either (λ (x : Board). malformed x ≡ false) (eqb (first (malformed b ⇒ 1 ∷ enabled (capture_of b.device) ⇒ 6 ∷ [])) 0)
    (board_well (register_rules.rearmed b.device) m (rearmed_ok b.device (board_facts b e).0) (ok _))
    e

-- Samples over one memory, in mode one; over two, in mode two.
one_well : (b : Board) (d' : Device) (number : ℕ) → malformed b ≡ false → WellFormed d'
    → malformed (cond (eqb (cond (malformed b) 1 (cond (is_two b.mode) 16 number)) 0) (record { device = d'; mode = b.mode }) b) ≡ false
one_well b d' number e f = rw e (go b.mode refl)
  where
    go : (m : Mode) → b.mode ≡ m → malformed (cond (eqb (cond (is_two m) 16 number) 0) (record { device = d'; mode = m }) b) ≡ false
    go One is = either (λ (x : Board). malformed x ≡ false) (eqb number 0) (board_well d' One f tt) e
    go (Two t) is = e

pub opened_ok : (o : Output) (m : Mode) → ModeOk o m → TurnsOk o (turns_of m)
unfolding turns_of
opened_ok o One ok = fresh_turns_ok o
opened_ok o (Two t) ok = ok

-- Every call, and every list of calls.
pub call_keeps : (b : Board) (c : Call) → malformed b ≡ false → malformed (after b c) ≡ false
unfolding after write rearm run sample run_two sample_two one_refusal
call_keeps b (a_write offset value fits) e =
    let (f, ok) = board_facts b e in
    let number = cond (malformed b) 1 (register_rules.write b.device offset value).number in
    either (λ (x : Board). malformed x ≡ false) (eqb number 0) (write_well b.device b.mode offset value fits f ok) e
call_keeps b a_rearming e =
    let (f, ok) = board_facts b e in
    either (λ (x : Board). malformed x ≡ false) (eqb (first (malformed b ⇒ 1 ∷ [])) 0) (rearmed_well b.device b.mode f ok) e
call_keeps b one_buffer e = set_well One b (λ o. tt) e
call_keeps b two_buffers e = set_well (Two fresh_turns) b fresh_turns_ok e
call_keeps b (a_run memory start samples) e =
    one_well b _ (run_rules.run_refusal b.device memory start samples) e
    (facts _ (run_keeps b.device memory start samples (well_formed _ (board_facts b e).0)))
call_keeps b (a_sample memory start w) e =
    one_well b _ (run_rules.run_refusal b.device memory start (w ∷ [])) e (step_keeps b.device (drop start memory) w (board_facts b e).0)
call_keeps b (a_run_two lent samples) e =
    let (f, ok) = board_facts b e in
    let x = two_steps (opened b lent) samples in
    let (f', ok') = two_steps_keep (opened b lent) samples f (opened_ok _ b.mode ok) in
    either (λ (y : Board). malformed y ≡ false) (eqb (two_refusal b lent samples) 0) (board_well x.device (Two x.turns) f' ok') e
call_keeps b (a_sample_two lent w) e =
    let (f, ok) = board_facts b e in
    let x = (two_step (opened b lent) w).after in
    let (f', ok') = two_step_keeps (opened b lent) w f (opened_ok _ b.mode ok) in
    either (λ (y : Board). malformed y ≡ false) (eqb (two_refusal b lent (w ∷ [])) 0) (board_well x.device (Two x.turns) f' ok') e

calls_keep : (b : Board) (cs : List Call) → malformed b ≡ false → malformed (after_all b cs) ≡ false
unfolding after_all
calls_keep b [] e = e
calls_keep b (c ∷ cs) e = calls_keep (after b c) cs (call_keeps b c e)

pub fresh_board_well : (depth : ℕ) → bad_depth depth ≡ false → malformed (board_calls.fresh_of depth) ≡ false
fresh_board_well depth sound = board_well (fresh_of depth) One (facts _ (fresh_well_formed depth sound)) tt

-- No accepted call makes a malformed board of one that was made.
pub never_malformed : (depth : ℕ) → bad_depth depth ≡ false → (cs : List Call) → malformed (reached depth cs) ≡ false
never_malformed depth sound cs = calls_keep (board_calls.fresh_of depth) cs (fresh_board_well depth sound)

-- The counts balance.
pub conservation : (depth : ℕ) → bad_depth depth ≡ false → (cs : List Call)
    → let o = (reached depth cs).device.core.output in o.counts.completed ≡ o.counts.landed + o.held + o.counts.discarded
conservation depth sound cs = (board_facts (reached depth cs) (never_malformed depth sound cs)).0.output.equation

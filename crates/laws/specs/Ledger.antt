-- The counts, from the history (document 01, "Memory and counts"): the ledger of the crate `output`, kept by the events of a list of calls alone.
use Rattle.std.specs.Prelude.{Bool, cond, List, [], ◌∷◌, ◌+◌}
use Rattle.output.specs.declared.Packing.{Packing as Packed}
use Rattle.output.specs.declared.Packing.TheVariants.{Nothing as nothing, Completed as completed, Lost as lost}
use Rattle.output.specs.Ledger.{Ledger, blank, sample_entry, landing_entry, discarding_entry}
use Rattle.rules.specs.Sample.{capture_sample}
use Rattle.laws.specs.Histories.{Event, sampled, disabled}

-- Completed is the number of times that rule 9 was reached, by the second answer: the word is held; or it is lost, and the held words and it are thrown away.
unfoldable pub word_entry : Packed → Ledger → Ledger
word_entry nothing l = l
word_entry (completed v) l =
    record { samples = l.samples; completed = l.completed + 1; landed = l.landed; discarded = l.discarded; held = l.held + 1 }
word_entry lost l =
    record { samples = l.samples; completed = l.completed + 1; landed = l.landed; discarded = l.discarded + (l.held + 1); held = 0 }

-- A sample at which ERR rises throws the held words away, after rule 1 (W6). It does not reach rule 9.
unfoldable pub error_entry : Bool → Ledger → Ledger
error_entry rises l = cond rises (discarding_entry l) l

-- What an event enters: a sample, rule 1 before rule 9; disabling, which throws the held words away. All events, in order.
unfoldable pub enter : Ledger → Event → Ledger
enter l (sampled found w landing packed) = error_entry (capture_sample found w).error (word_entry packed (landing_entry landing (sample_entry l)))
enter l disabled = discarding_entry l

unfoldable pub enter_all : Ledger → List Event → Ledger
enter_all l [] = l
enter_all l (e ∷ es) = enter_all (enter l e) es

abbrev pub ledger : List Event → Ledger
ledger es = enter_all blank es

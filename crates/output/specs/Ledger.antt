-- The counts as a ledger (document 01, "Memory and counts"): what a sample, its landing and the discarding of the held words enter. What a module's words and calls enter besides is its own.
use Rattle.std.specs.Prelude.{Option, None, Some, ℕ, ◌+◌, ◌-◌}
use Rattle.output.specs.declared.Output.{Output}

-- The ledger: the four counts, and a number of held words of its own.
pub record Ledger : Type 0 where
  pub samples : ℕ
  pub completed : ℕ
  pub landed : ℕ
  pub discarded : ℕ
  pub held : ℕ

unfoldable pub blank : Ledger
blank = record { samples = 0; completed = 0; landed = 0; discarded = 0; held = 0 }

unfoldable pub sample_entry : Ledger → Ledger
sample_entry l =
    record { samples = l.samples + 1; completed = l.completed; landed = l.landed; discarded = l.discarded; held = l.held }

-- Landed is the number of times that rule 1 was reached, by the sample's first answer: a held word lands, and is held no more.
unfoldable pub landing_entry : Option ℕ → Ledger → Ledger
landing_entry None l = l
landing_entry (Some byte) l =
    record { samples = l.samples; completed = l.completed; landed = l.landed + 1; discarded = l.discarded; held = l.held - 1 }

-- The held words are thrown away.
unfoldable pub discarding_entry : Ledger → Ledger
discarding_entry l =
    record { samples = l.samples; completed = l.completed; landed = l.landed; discarded = l.discarded + l.held; held = 0 }

-- The same numbers, as the output has them.
abbrev pub numbers : Output → Ledger
numbers o =
    record { samples = o.counts.samples; completed = o.counts.completed; landed = o.counts.landed; discarded = o.counts.discarded; held = o.held }

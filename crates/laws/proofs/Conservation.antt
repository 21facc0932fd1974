-- From a device made with a depth from 1 to 32 no list of calls reaches a malformed one, and completed = landed + held + discarded after every one.
-- The idea: each call keeps a well-formed device so, and the equation is one of its facts. Assumes nothing.
use mathlib.Core.Bool.{false}
use mathlib.Core.List.{List, [], ◌∷◌}
use mathlib.Core.Path.{◌≡◌}
use Prim.Native.Nat.{ℕ, ◌+◌}
use Rattle.output.specs.WellFormed.{bad_depth}
use Rattle.rules.specs.declared.Device.{Device}
use Rattle.rules.specs.WellFormed.{malformed}
use Rattle.rules.proofs.WellFormed.{facts}
use Rattle.laws.specs.Histories.{Call, a_write, a_rearming, a_placing, a_run, a_sample, after, after_all, reached}
use Rattle.laws.proofs.Keeps.{fresh_well_formed, run_keeps, sample_keeps}
use Rattle.laws.proofs.KeepsWrites.{write_keeps, placing_keeps, rearm_keeps}

pub call_keeps : (d : Device) (c : Call) → malformed d ≡ false → malformed (after d c) ≡ false
unfolding after
call_keeps d (a_write offset value fits) e = write_keeps d offset value fits e
call_keeps d a_rearming e = rearm_keeps d e
call_keeps d (a_placing k) e = placing_keeps d k e
call_keeps d (a_run memory start samples) e = run_keeps d memory start samples e
call_keeps d (a_sample memory start w) e = sample_keeps d memory start w e

-- What every call keeps, every list of calls keeps.
pub calls_keep : (P : Device → Type 0) → ((d : Device) (c : Call) → P d → P (after d c)) → (d : Device) (cs : List Call) → P d → P (after_all d cs)
unfolding after_all
calls_keep P keeps d [] h = h
calls_keep P keeps d (c ∷ cs) h = calls_keep P keeps (after d c) cs (keeps d c h)

-- No accepted call makes a malformed device of one that was made.
pub never_malformed : (depth : ℕ) → bad_depth depth ≡ false → (cs : List Call) → malformed (reached depth cs) ≡ false
never_malformed depth sound cs = calls_keep (λ d. malformed d ≡ false) call_keeps _ cs (fresh_well_formed depth sound)

-- The counts balance.
pub conservation : (depth : ℕ) → bad_depth depth ≡ false → (cs : List Call)
    → let o = (reached depth cs).core.output in o.counts.completed ≡ o.counts.landed + o.held + o.counts.discarded
conservation depth sound cs = (facts (reached depth cs) (never_malformed depth sound cs)).output.equation

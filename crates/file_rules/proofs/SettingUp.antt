-- The register writes of a file, one after the other: what is left of them leads from the present device to the same end as all from the first.
-- The idea: one write takes the head of what is left; a write keeps a device well-formed and counts no sample. Assumes nothing.
use mathlib.Core.Bool.{Bool, true, false, cond, false≢true}
use mathlib.Core.List.{List, ◌∷◌}
use mathlib.Core.Path.{◌≡◌, refl, sym, ◌∙◌}
use Prim.Native.Nat.{ℕ, suc, ◌+◌, ◌-◌, ◌≤◌, ◌<◌, ◌^◌}
use native.Mathlib.Numerals.{add-one}
use native.Mathlib.Omega.{arith}
use lib.Dec.{eqb}
use Rattle.registers.specs.Map.{register_at}
use Rattle.std.specs.Prelude.{Option, Some, None}
use Rattle.rules.specs.declared.Device.{Device}
use Rattle.rules.specs.State.{fresh_of, fresh}
use Rattle.rules.specs.Answers.{Changed}
use Rattle.output.specs.Output.{usual_depth, OutputState, fresh_output, with_held, holding, with_counts, count_discarded, discard}
use Rattle.output.specs.WellFormed.{bad_depth}
use Rattle.rules.specs.RegisterCalls.{disables, write_refusal, write_at, no_device, write, made}
use Rattle.rules.specs.WellFormed.{malformed}
use Rattle.bits.proofs.Booleans.{either}
use Rattle.laws.proofs.Keeps.{fresh_well_formed}
use Rattle.laws.proofs.KeepsWrites.{write_keeps}
use Rattle.trace_format.specs.declared.Write.{Write}
use Rattle.trace_format.specs.Reading as reading
use Rattle.trace_format.proofs.Walk.{write_place}
use Rattle.registers.specs.declared.Register.{Register}
use Rattle.file_rules.specs.File.{set_up}

found_samples : (d : Device) (r : Option Register) (v : ℕ) → (write_at d r v).core.output.counts.samples ≡ d.core.output.counts.samples
unfolding write_at discard holding with_held count_discarded with_counts
found_samples d None v = refl
found_samples d (Some r) v = either (λ (x : OutputState). x.output.counts.samples ≡ d.core.output.counts.samples) (disables d.core.capture.registers.cr r v) refl refl

pub write_samples : (d : Device) (offset v : ℕ) → (write d offset v).device.core.output.counts.samples ≡ d.core.output.counts.samples
unfolding write
write_samples d offset v =
    either (λ (e : Device). e.core.output.counts.samples ≡ d.core.output.counts.samples) (eqb (write_refusal d offset v) 0) (found_samples d (register_at offset) v) refl

pub record Setting (d₀ : Device) (file : List ℕ) (d : Device) (place : ℕ) : Type 0 where
  pub leads : set_up d (reading.writes_from file place (reading.write_count file - place)) ≡ set_up d₀ (reading.writes_of file)
  pub well : malformed d ≡ false
  pub samples : d.core.output.counts.samples ≡ 0

-- A device made with a depth is such a start.
pub made_ready : (depth : ℕ) → eqb (made depth).number 0 ≡ true → (malformed (made depth).device ≡ false) × ((made depth).device.core.output.counts.samples ≡ 0)
unfolding made fresh_of fresh_output holding with_held
made_ready depth = go (bad_depth depth) refl
  where
    go : (bad : Bool) → bad_depth depth ≡ bad → eqb (cond bad 18 0) 0 ≡ true
        → let d = cond (eqb (cond bad 18 0) 0) (fresh_of depth) no_device in (malformed d ≡ false) × (d.core.output.counts.samples ≡ 0)
    go true e h = absurd (false≢true h)
    go false e h = (fresh_well_formed depth e, refl)

pub fresh_ready : (malformed fresh ≡ false) × (fresh.core.output.counts.samples ≡ 0)
unfolding fresh_of fresh_output holding with_held bad_depth
fresh_ready = (fresh_well_formed usual_depth refl, refl)

module _ {d₀ : Device} {file : List ℕ} {d : Device} {place : ℕ} (s : Setting d₀ file d place) where
  -- A write is taken from the file: the first of what is left.
  next : place < reading.write_count file → (w : Write) → reading.item file place ≡ reading.a_write w
      → reading.writes_from file place (reading.write_count file - place) ≡ w ∷ reading.writes_from file (place + 1) (reading.write_count file - (place + 1))
  unfolding reading.writes_from
  next h w e =
      let n : reading.write_count file - place ≡ suc (reading.write_count file - (place + 1)) = omega arith in
      let told : reading.a_write (reading.write_at file place) ≡ reading.a_write w = sym (write_place file place h) ∙ e in
      let same : reading.write_at file place ≡ w = cc in
      rw (n, add-one, same)

  -- Either way the device is well-formed and has counted no sample.
  pub setting_keeps : (w : Write) (r : Changed) → w.value < 2 ^ 32 → r ≡ write d w.offset w.value → (malformed r.device ≡ false) × (r.device.core.output.counts.samples ≡ 0)
  setting_keeps w r small a = (rw a (write_keeps d w.offset w.value small s.well), rw (a, write_samples) s.samples)

  -- Accepted, the rest of the writes is left.
  pub setting_on : place < reading.write_count file → (w : Write) (r : Changed) → reading.item file place ≡ reading.a_write w → w.value < 2 ^ 32 → r ≡ write d w.offset w.value
      → r.number ≡ 0 → Setting d₀ file r.device (place + 1)
  unfolding set_up
  setting_on inside w r e small a taken =
      let (well, none) = setting_keeps w r small a in
      record { leads = rw (next inside w e, ← a, taken) at s.leads; well = well; samples = none }

  -- Refused, this is the end.
  pub setting_refused : place < reading.write_count file → (w : Write) (r : Changed) → reading.item file place ≡ reading.a_write w → r ≡ write d w.offset w.value → eqb r.number 0 ≡ false
      → r ≡ set_up d₀ (reading.writes_of file)
  unfolding set_up
  setting_refused inside w r e a refused = rw (next inside w e, ← a, refused) at s.leads

  -- No write is left.
  pub setting_end : reading.write_count file ≤ place → set_up d₀ (reading.writes_of file) ≡ record { number = 0; device = d }
  unfolding set_up reading.writes_from
  setting_end h =
      let n : reading.write_count file - place ≡ 0 = omega arith in
      sym (rw n at s.leads)

-- Stretches as the code finds and runs them: what the calls in `run_on` and `run_behind` ask and that their answers are the rules' (`stretch_run`, `behind_run`), and that the samples up to `stretch_end` are a stretch
-- (`stretch_to`). Assumes nothing.
use mathlib.Core.Bool.{Bool, true, false, cond, beq, false≢true}
use mathlib.Core.List.{List, [], ◌∷◌}
use mathlib.Core.Path.{◌≡◌, refl, sym, ap, ◌∙◌}
use Prim.Native.Nat.{ℕ, suc, ◌+◌, ◌≤◌, ◌<◌}
use native.Mathlib.Omega.{arith}
use lib.Dec.{eqb, ltb}
use lib.ListN.{length, get_or, take}
use borrow.Author.Tests.{not-true}
use Rattle.bits.proofs.Booleans.{same_bool, by_cond, either}
use Rattle.registers.specs.Control.{embedded, vspol}
use Rattle.samples.specs.Samples.{vsync_pin, level_run}
use Rattle.samples.proofs.Levels.{run_within}
use Rattle.codes.specs.Bytes.{waiting_count}
use Rattle.buffers.specs.declared.Buffer.{Buffer}
use Rattle.buffers.specs.declared.Buffer.TheVariants.{A, B}
use Rattle.buffers.specs.declared.Turns.{Turns}
use Rattle.buffers.specs.Turns.{oldest_buffer, next_place, oldest_place}
use Rattle.output.specs.declared.Output.{Output}
use Rattle.output.specs.declared.SampleAnswer.{SampleAnswer}
use Rattle.output.specs.WellFormed.{Laid}
use Rattle.rules.specs.declared.Capture.{Capture}
use Rattle.rules.specs.declared.Core.{Core}
use Rattle.rules.specs.declared.Device.{Device}
use Rattle.rules.specs.State.{output_of, is_open}
use Rattle.rules.specs.RegisterCalls as register_rules
use Rattle.rules.specs.Run.{step, Ran, steps}
use Rattle.rules.proofs.WellFormed.{WellFormed}
use Rattle.laws.proofs.KeepsSample.{step_laid}
use Rattle.board_rules.specs.TwoBuffers.{Pair, part, with_part, Two, two_steps}
use Rattle.board_rules.proofs.WellFormed.{TurnsOk}
use Rattle.laws.proofs.KeepsWrites.{placed_ok}
use Rattle.sampling.specs.DataBytes.{data_run}
use Rattle.sampling.specs.Notes.{Noted, noted_steps}
use Rattle.sampling.specs.Answers.{noted}
use Rattle.sampling.proofs.Noted.{same_run}
use Rattle.sampling.proofs.DataBytes.{data_within, data_part}
use Rattle.two_buffers.specs.Answers.{placed}
use Rattle.two_buffers.specs.Stretches.{next_buffer, alone, first_opens, first_place, place_a, turns_after, no_room, turns_behind, runs, AllBlank, AtLevel, Lasts, goes_on, lasting_end, stretch_end}
use Rattle.two_buffers.proofs.OneStep.{placed_laid}
use Rattle.two_buffers.proofs.RunningOn.{run_on, runs_on}
use Rattle.two_buffers.proofs.Behind.{run_behind, runs_behind}

-- The FIFO stays laid out.
steps_laid : (d : Device) (b ws : List ℕ) → Laid (output_of d) → Laid (output_of (steps d b ws).device)
unfolding steps
steps_laid d b [] laid = laid
steps_laid d b (w ∷ ws) laid = steps_laid (step d b w).device (step d b w).buffer ws (step_laid d b w laid)

-- The place of the first word is at most landed.
first_low : (held a n : ℕ) (t : Turns) → a ≤ n → t.place ≤ n → first_place held a t ≤ n
unfolding first_place
first_low held a n t la lb = either (λ (k : ℕ). k ≤ n) (first_opens held t) (omega arith) (go (next_buffer t))
  where
    go : (u : Buffer) → next_place a u t ≤ n
    go A = la
    go B = lb

-- What the run over a buffer, from a place on, leaves.
module _ (x : Two) (laid : Laid (output_of x.device)) (ws : List ℕ) {u u₀ : Buffer} {place p₀ : ℕ} {first : Core} (a₀ : SampleAnswer) (n : Noted) (eu : u ≡ u₀) (ep : place ≡ p₀)
    (ef : first ≡ placed place x.device.core) (en : n ≡ noted_steps (noted first x.device.slots (part u x.buffers) a₀) ws) where
  ran : ◌≡◌ {A = Ran} (record { device = n.device; buffer = n.buffer }) (steps (register_rules.placed p₀ x.device) (part u₀ x.buffers) ws)
  unfolding placed
  ran = ap (λ (m : Noted). record { device = m.device; buffer = m.buffer }) (rw (ef, ep, eu) at en) ∙ same_run _ ws

  pub run_held : n.device.core.output.held ≤ 32
  run_held =
      let after = steps_laid (register_rules.placed p₀ x.device) (part u₀ x.buffers) ws (placed_laid _ x.device laid) in
      rw (ap (λ (r : Ran). r.device) ran) (omega (arith, after.fits, after.within))

-- What the two runs ask, and what they leave.
module _ (x : Two) (well : WellFormed x.device) (turns : TurnsOk x.device.core.output x.turns) (laid : Laid (output_of x.device)) where
  abbrev from : Device
  from = register_rules.placed (first_place x.device.core.output.held x.device.core.output.place x.turns) x.device

  pub run_well : WellFormed from
  run_well = placed_ok _ x.device (first_low x.device.core.output.held x.device.core.output.place _ x.turns well.output.place turns.place) well

  pub run_laid : Laid (output_of from)
  run_laid = placed_laid _ x.device laid

  module _ (ws : List ℕ) (lasts : Lasts (embedded x.device.core.capture.registers.cr) x.device.core.capture ws) {u : Buffer} {place : ℕ} {first : Core} (a₀ : SampleAnswer) (n : Noted) where
    pub stretch_run : {t : Turns} {a : ℕ} (m : Pair) → alone x.device.core.output.held x.turns ≡ true → (eu : u ≡ next_buffer x.turns)
        → (ep : place ≡ first_place x.device.core.output.held x.device.core.output.place x.turns) → (ef : first ≡ placed place x.device.core)
        → (en : n ≡ noted_steps (noted first x.device.slots (part u x.buffers) a₀) ws) → m ≡ with_part u n.buffer x.buffers
        → t ≡ turns_after x.turns x.device.core.output.held x.device.core.output.counts n.device.core.output
        → a ≡ place_a u (ltb x.device.core.output.counts.landed n.device.core.output.counts.landed) n.device.core.output.place x.device.core.output.place
        → ◌≡◌ {A = Two} (record { device = register_rules.placed a n.device; turns = t; buffers = m }) (two_steps x ws)
    unfolding turns_after
    stretch_run m single eu ep ef en em et ea =
        rw (em, et, ea, eu) (ap (λ (r : Ran). run_on x single r) (ran x laid ws a₀ n eu ep ef en) ∙ sym (runs_on x single turns ws lasts))

    pub behind_run : {t : Turns} (m : Pair) → no_room x.device.core.output x.turns (length x.buffers.a) (length x.buffers.b) ≡ true → (eu : u ≡ oldest_buffer x.turns)
        → (ep : place ≡ oldest_place x.device.core.output.place x.turns) → (ef : first ≡ placed place x.device.core)
        → (en : n ≡ noted_steps (noted first x.device.slots (part u x.buffers) a₀) ws) → m ≡ with_part u n.buffer x.buffers
        → t ≡ turns_behind x.device.core.output.held (ltb x.device.core.output.counts.discarded n.device.core.output.counts.discarded) n.device.core.output.held x.turns
        → ◌≡◌ {A = Two} (record { device = register_rules.placed x.device.core.output.place n.device; turns = t; buffers = m }) (two_steps x ws)
    behind_run m stuck eu ep ef en em et =
        rw (em, et, eu) (ap (λ (r : Ran). run_behind x stuck r) (ran x laid ws a₀ n eu ep ef en) ∙ sym (runs_behind x stuck ws lasts))

-- The one way or the other.
pub behind_else : (o : Output) (t : Turns) (a b : ℕ) → runs o t a b ≡ true → alone o.held t ≡ false → no_room o t a b ≡ true
unfolding runs
behind_else o t a b e off = rw off at e

-- Samples up to where VSYNC changes its level.
level_blanks : (level polarity : Bool) (ws : List ℕ) → AllBlank (beq level polarity) polarity (take (level_run level ws) ws)
unfolding level_run AllBlank
level_blanks level polarity [] = tt
level_blanks level polarity (w ∷ ws) =
    by_cond (λ (n : ℕ). AllBlank (beq level polarity) polarity (take n (w ∷ ws))) (beq (vsync_pin w) level) (suc (level_run level ws)) 0
    (λ e. (ap (λ (b : Bool). beq b polarity) (same_bool (vsync_pin w) level e), level_blanks level polarity ws))
    (λ e. tt)

idle_of : (blank in_frame : Bool) → goes_on blank in_frame ≡ true → blank ≡ true → in_frame ≡ false
unfolding goes_on
idle_of true in_frame e is = not-true _ e
idle_of false in_frame e is = absurd (false≢true is)

-- The first samples, as long as they last.
record Part (s : Capture) (ws : List ℕ) (n : ℕ) : Type 0 where
  inside : n ≤ length ws
  lasts : Lasts (embedded s.registers.cr) s (take n ws)

lasting_part : (s : Capture) (ws : List ℕ) → 0 < lasting_end s ws 0 → Part s ws (lasting_end s ws 0)
unfolding lasting_end
lasting_part s ws = go (embedded s.registers.cr) refl
  where
    level : Bool
    level = vsync_pin (get_or ws 0 0)

    polarity : Bool
    polarity = vspol s.registers.cr

    data_end : ℕ
    data_end = cond (eqb (waiting_count s.waiting) 0) (0 + data_run ws) 0

    level_end : ℕ
    level_end = cond (goes_on (beq level polarity) (is_open s.frame)) (0 + level_run level ws) 0

    by_level : 0 < level_end → (level_end ≤ length ws) × AtLevel s (take level_end ws)
    by_level =
        by_cond (λ (n : ℕ). 0 < n → (n ≤ length ws) × AtLevel s (take n ws)) (goes_on (beq level polarity) (is_open s.frame)) _ _
        (λ on some.
        let so_many : 0 + level_run level ws ≡ level_run level ws = omega arith in
        (omega (arith, run_within level ws), rw so_many (record { blank = beq level polarity; levels = level_blanks level polarity ws; idle = idle_of (beq level polarity) (is_open s.frame) on })))
        (λ off some. absurd (omega arith))

    go : (coded : Bool) → embedded s.registers.cr ≡ coded → 0 < cond coded data_end level_end → Part s ws (cond coded data_end level_end)
    go true coded some = record { inside = data_within ws s.waiting data_end refl; lasts = rw coded (data_part ws s.waiting data_end refl some) }
    go false plain some = let (inside, at_level) = by_level some in record { inside = inside; lasts = rw plain at_level }

-- They are a stretch.
pub record Stretch (c : Core) (t : Turns) (a b : ℕ) (ws : List ℕ) (n : ℕ) : Type 0 where
  pub inside : n ≤ length ws
  pub runs : runs c.output t a b ≡ true
  pub lasts : Lasts (embedded c.capture.registers.cr) c.capture (take n ws)

stretch_on : (c : Core) (t : Turns) (a b : ℕ) (ws : List ℕ) → 0 < stretch_end c t a b ws 0 → Stretch c t a b ws (stretch_end c t a b ws 0)
unfolding stretch_end
stretch_on c t a b ws =
    by_cond (λ (n : ℕ). 0 < n → Stretch c t a b ws n) (runs c.output t a b) _ _
    (λ is some.
    let part = lasting_part c.capture ws some in
    record { inside = part.inside; runs = is; lasts = part.lasts })
    (λ e some. absurd (omega arith))

pub stretch_to : {c : Core} {t : Turns} {a b : ℕ} {ws : List ℕ} {n : ℕ} → n ≡ stretch_end c t a b ws 0 → 0 < n → Stretch c t a b ws n
stretch_to {c} {t} {a} {b} {ws} e some = rw e (stretch_on c t a b ws (rw e at some))

-- A sample with two frame buffers: what the calls in it ask, of a well-formed device and turns that fit it; and the sample from what the inner one leaves and answers. Assumes nothing.
use mathlib.Core.Bool.{Bool, true, false, not, ◌&&◌}
use mathlib.Core.List.{List, [], ◌∷◌, ◌++◌}
use Rattle.std.specs.Prelude.{Option, None, Some}
use mathlib.Core.Path.{◌≡◌, refl, ap, ◌∙◌}
use Prim.Native.Nat.{ℕ, ◌+◌, ◌<◌, ◌^◌, ◌≤◌}
use native.Mathlib.Numerals.{add-one}
use native.Mathlib.Omega.{arith}
use lib.Pow.{pow_mono}
use Rattle.bits.proofs.Booleans.{either}
use Rattle.buffers.specs.declared.Buffer.{Buffer}
use Rattle.buffers.specs.Turns.{oldest_buffer, oldest_place}
use Rattle.buffers.specs.Story as story
use Rattle.buffers.specs.Kept.{Kept, keep, keeps}
use Rattle.output.specs.Output.{OutputState, contents, with_place}
use Rattle.output.specs.declared.Packing.{Packing as Packed}
use Rattle.output.specs.declared.SampleAnswer.{SampleAnswer}
use Rattle.output.specs.declared.Packing.TheVariants.{Completed as completed}
use Rattle.output.specs.WellFormed.{Laid}
use Rattle.rules.specs.declared.Capture.{Capture}
use Rattle.rules.specs.declared.Core.{Core}
use Rattle.rules.specs.declared.Device.{Device}
use Rattle.rules.specs.State.{capture_of, output_of, is_open}
use Rattle.rules.specs.Capture.{Captured}
use Rattle.rules.specs.Sample.{capture_sample}
use Rattle.rules.specs.RegisterCalls as register_rules
use Rattle.rules.specs.Run.{complete, after_grant, Stepped, step}
use Rattle.rules.proofs.WellFormed.{WellFormed}
use Rattle.output.specs.Ledger.{numbers}
use Rattle.laws.proofs.Errors.{no_word_in_error}
use Rattle.laws.proofs.KeepsSample.{step_laid}
use Rattle.board_rules.specs.State.{kept_of}
use Rattle.board_rules.specs.TwoBuffers.{landing_event, word_event, frame_event, sample_events, Pair, part, with_part, landing_in, Two, TwoStepped, two_step}
use Rattle.board_rules.proofs.WellFormed.{TurnsOk}
use Rattle.laws.proofs.KeepsWrites.{placed_ok}
use Rattle.board_laws.proofs.TwoKeeps.{keeps_append, two_step_held, Within, oldest_at_most, landing_within}
use Rattle.fifo.specs.Notes.{no_answer}
use Rattle.sampling.specs.Notes.{Noted, noted_steps}
use Rattle.sampling.specs.Answers.{noted}
use Rattle.sampling.proofs.Noted.{one_sample}
use Rattle.two_buffers.specs.Answers.{TagsFit, events, placed}
use Rattle.two_buffers.proofs.Closing.{closing}

-- The device of the inner sample, and that sample.
abbrev pub found : Two → Device
found x = register_rules.placed (oldest_place x.device.core.output.place x.turns) x.device

abbrev pub inner : Two → ℕ → Stepped
inner x w = step (found x) (part (oldest_buffer x.turns) x.buffers) w

-- Where a word was completed ERR did not rise.
quiet : (o : Option ℕ) (c : Captured) (x : OutputState) (v : ℕ) → (c.error ≡ true → o ≡ None) → (complete o c x).packed ≡ completed v → c.error ≡ false
unfolding complete
quiet None c x v alone e = let z : ◌≡◌ {A = ℕ} 0 1 = cc in absurd (omega arith)
quiet (Some v') c x v alone e = go c.error refl
  where
    go : (rises : Bool) → c.error ≡ rises → c.error ≡ false
    go false is = is
    go true is = let n = alone is in let z : ◌≡◌ {A = ℕ} 0 1 = cc in absurd (omega arith)

completed_quiet : (d : Device) (b : List ℕ) (w v : ℕ) → (step d b w).packed ≡ completed v → (capture_sample (capture_of d) w).error ≡ false
unfolding step after_grant
completed_quiet d b w v e = quiet _ (capture_sample (capture_of d) w) _ v (no_word_in_error (capture_of d) w) e

-- The words held after such a sample: one more than after its landing.
frame_held : (k : Kept) (s : Capture) (c : Captured) → c.error ≡ false → (keeps k (frame_event s c)).held ≡ k.held
unfolding frame_event keep keeps
frame_held k s c e =
    rw e (either (λ (es : List story.Event). (keeps k es).held ≡ k.held) (is_open s.frame && not (is_open c.state.frame)) refl refl)

held_more : (k : Kept) (s : Capture) (w : ℕ) (l : Option ℕ) {p : Packed} (v : ℕ) → p ≡ completed v → (capture_sample s w).error ≡ false
    → (keeps k (sample_events s w l p)).held ≡ (keeps k (landing_event l)).held + 1
unfolding sample_events keep keeps
held_more k s w l v e calm =
    rw (e, keeps_append k (landing_event l) (word_event (completed v) ++ frame_event s (capture_sample s w)))
    (frame_held (keep (keeps k (landing_event l)) (story.held v)) s (capture_sample s w) calm)

-- One bit more.
bit_fits : (h x : ℕ) → h < 32 → x < 2 ^ h → x + 2 ^ h < 2 ^ 32
bit_fits h x lt e =
    let twice : 2 ^ (h + 1) ≡ 2 ^ h + 2 ^ h = rw add-one (omega arith) in
    omega (arith, twice, pow_mono {i = h + 1} {j = 32} (omega arith))

-- Another place leaves the FIFO.
pub placed_laid : (k : ℕ) (d : Device) → Laid (output_of d) → Laid (output_of (register_rules.placed k d))
unfolding contents with_place
placed_laid k d laid = record { fits = laid.fits; within = laid.within; slots = laid.slots }

module _ (x : Two) (well : WellFormed x.device) (turns : TurnsOk x.device.core.output x.turns) (laid : Laid (output_of x.device)) where
  within : Within (numbers x.device.core.output) (kept_of x.device x.turns)
  within = record { turns = record { buffers = turns.buffers; opening = turns.opening; place = turns.place }; place = well.output.place }

  oldest_low : oldest_place x.device.core.output.place x.turns ≤ x.device.core.output.counts.landed
  oldest_low = oldest_at_most _ _ x.turns within.place within.turns.place

  pub asks_well : WellFormed (found x)
  asks_well = placed_ok _ x.device oldest_low well

  pub asks_laid : Laid (output_of (found x))
  asks_laid = placed_laid _ x.device laid

  pub asks_place : x.device.core.output.counts.samples + 1 < 2 ^ 32 → oldest_place x.device.core.output.place x.turns + 1 < 2 ^ 32
  asks_place fits = omega (arith, oldest_low, well.output.equation, well.output.completed)

  pub asks_tags : (w v : ℕ) → (inner x w).packed ≡ completed v → TagsFit (keeps (kept_of x.device x.turns) (landing_event (inner x w).landing))
  unfolding two_step with_place
  asks_tags w v e =
      let b = part (oldest_buffer x.turns) x.buffers in
      let k = kept_of x.device x.turns in
      let k₁ = keeps k (landing_event (inner x w).landing) in
      let after = step_laid (found x) b w asks_laid in
      let more = two_step_held x w ∙ held_more k (capture_of x.device) w (inner x w).landing v e (completed_quiet (found x) b w v e) in
      let low : k₁.held < 32 = omega (arith, after.fits, after.within, more) in
      let fits = (landing_within (inner x w).landing (numbers x.device.core.output) k within).turns in
      record { held = low; buffers = bit_fits k₁.held _ low fits.buffers; opening = bit_fits k₁.held _ low fits.opening }

-- What the inner sample leaves and answers, from the notes of a run of one.
pub answers : (x : Two) (w : ℕ) {u : Buffer} {place : ℕ} {first : Core} (n : Noted) {a : SampleAnswer} → u ≡ oldest_buffer x.turns
    → place ≡ oldest_place x.device.core.output.place x.turns → first ≡ placed place x.device.core → a ≡ no_answer
    → n ≡ noted_steps (noted first x.device.slots (part u x.buffers) a) (w ∷ [])
    → ◌≡◌ {A = Stepped} (record { device = n.device; buffer = n.buffer; landing = n.answer.landing; packed = n.answer.packed }) (inner x w)
unfolding placed
answers x w n eu ep ef ea en = one_sample (found x) (part (oldest_buffer x.turns) x.buffers) w (rw (ef, ep, eu, ea) at en)

-- The sample, from that.
abbrev made : Buffer → Kept → Stepped → Pair → TwoStepped
made u k r m =
    record { after = record { device = register_rules.placed k.place_a r.device; turns = k.turns; buffers = m }; landing = landing_in u r.landing; packed = r.packed }

abbrev kept_by : Two → ℕ → Stepped → Kept
kept_by x w r = keeps (kept_of x.device x.turns) (events (capture_of x.device) w r.device.core (record { landing = r.landing; packed = r.packed }))

pub one_step : (x : Two) (w : ℕ) (u : Buffer) (r : Stepped) (m : Pair) → u ≡ oldest_buffer x.turns → r ≡ inner x w → m ≡ with_part u r.buffer x.buffers
    → made u (kept_by x w r) r m ≡ two_step x w
unfolding two_step
one_step x w u r m eu er em =
    let o = oldest_buffer x.turns in
    let b = part o x.buffers in
    ap (λ (z : Pair). made u (kept_by x w r) r z) em
    ∙ ap (λ (z : Buffer). made z (kept_by x w r) r (with_part z r.buffer x.buffers)) eu
    ∙ ap (λ (z : Stepped). made o (kept_by x w z) z (with_part o z.buffer x.buffers)) er
    ∙ ap (λ (k : Kept). made o k (inner x w) (with_part o (inner x w).buffer x.buffers)) (closing (found x) b w (kept_of x.device x.turns))

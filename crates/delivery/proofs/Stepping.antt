-- One sample in each mode (W2), where the words that have not landed are known: the system after it, what is answered, and the memories. By the law of one sample over any place and
-- frame buffer (`step_fits`). Assumes nothing.
use mathlib.Core.Bool.{Bool, cond, ◌&&◌}
use mathlib.Core.List.{List, ◌++◌}
use Rattle.std.specs.Prelude.{Option}
use mathlib.Core.Path.{◌≡◌, refl, sym, ap, ◌∙◌}
use Prim.Native.Nat.{ℕ}
use lib.ListN.{take-append-drop}
use Rattle.buffers.specs.declared.Buffer.{Buffer}
use Rattle.buffers.specs.declared.Buffer.TheVariants.{A, B}
use Rattle.buffers.specs.declared.Turns.{Turns}
use Rattle.buffers.specs.Turns.{oldest_buffer, oldest_place}
use Rattle.buffers.specs.Story.{same_buffer}
use Rattle.buffers.specs.Kept.{Kept, keeps}
use Rattle.output.specs.Output.{contents, with_place}
use Rattle.samples.specs.Samples.{bus_grant}
use Rattle.landing.specs.Landing.{Out, put}
use Rattle.rules.specs.declared.Capture.{Capture}
use Rattle.rules.specs.declared.Device.{Device}
use Rattle.rules.specs.State.{device}
use Rattle.rules.specs.Sample.{capture_sample, next_capture}
use Rattle.rules.specs.RegisterCalls.{placed}
use Rattle.rules.specs.Run.{Stepped}
use Rattle.board_rules.specs.declared.Mode.TheVariants.{One, Two}
use Rattle.board_rules.specs.TwoBuffers.{Pair, part, with_part, sample_events, two_step}
use Rattle.board_rules.specs.BoardRuns.{Lent, Both, lent, frame_buffer, refilled, buffers, filled, turns_of}
use Rattle.delivery.specs.Calls.{one_memory, two_memories, System, stepped}
use Rattle.delivery.specs.Noted.{Noted, words}
use Rattle.delivery.specs.Placed.{with_noted}
use Rattle.delivery.specs.Delivery.{Scenario}
use Rattle.delivery.proofs.Inputs.{input}
use Rattle.delivery.proofs.Following.{answered, leaving, place_after, buffer_after, byte_after, Roomy, step_fits}
use Rattle.delivery.proofs.Stored.{with_noted_append}
use Rattle.delivery.proofs.Chain.{gone}
use Rattle.delivery.proofs.Landings.{First, landing_memory}
use Rattle.delivery.proofs.Sampling.{packs}
use Rattle.delivery.proofs.Standing.{system, told, Fair}

-- The memories changed, their starts kept.
abbrev pub relent : Both → Pair → Both
relent l p = record { a = record { memory = p.a; start = l.a.start }; b = record { memory = p.b; start = l.b.start } }

abbrev pub with_a : List ℕ → Both → Pair
with_a memory l = record { a = memory; b = l.b.memory }

module _ {on : Bool} (c : Capture) (o : Out) (w p : ℕ) (l : Both) (ns : List Noted) (f : Fair on c o w) (e : contents o.state ≡ words ns) where
  abbrev pub out : Option ℕ
  out = leaving (bus_grant w && on) (words ns)

  abbrev pub device' : Device
  device' = device (next_capture c w) (put on o (input c w)).state

  -- The system after a sample, in each mode, and what is answered.
  abbrev pub one_after : System
  one_after = system (placed (place_after p out) device') One (relent l (with_a (refilled l.a (buffer_after p out (frame_buffer l.a))) l))

  pub one_stepped : Roomy (words ns) p (frame_buffer l.a)
      → let s = system (placed p (device c o.state)) One l in
      let t = one_memory l.a.start in
      (stepped t s w ≡ one_after) × (packs t s w ≡ answered (capture_sample c w).word)
  unfolding stepped packs
  one_stepped there =
      let r = step_fits c o (words ns) p (frame_buffer l.a) w f.enabled f.quiet e (f.roomy (words ns) e) there f.space in (
        ap (λ (r : Stepped). system r.device One (relent l (with_a (refilled l.a r.buffer) l))) r,
        ap (λ (r : Stepped). r.packed) r,
      )

  module _ (k : Turns) where
    abbrev pub kept' : Kept
    kept' =
        keeps (record { turns = k; place_a = p; held = o.state.output.held })
        (sample_events c w (byte_after (oldest_place p k) out) (answered (capture_sample c w).word))

    abbrev pub buffers' : Pair
    buffers' = with_part (oldest_buffer k) (buffer_after (oldest_place p k) out (part (oldest_buffer k) (buffers l))) (buffers l)

    abbrev pub two_after : System
    two_after = system (placed kept'.place_a device') (Two kept'.turns) (relent l (filled l buffers'))

    pub two_stepped : Roomy (words ns) (oldest_place p k) (part (oldest_buffer k) (buffers l))
        → let s = system (placed p (device c o.state)) (Two k) l in
        let t = two_memories l.a.start l.b.start in
        (stepped t s w ≡ two_after) × (packs t s w ≡ answered (capture_sample c w).word)
    unfolding stepped packs two_step turns_of with_place
    two_stepped there =
        let r = step_fits c o (words ns) (oldest_place p k) (part (oldest_buffer k) (buffers l)) w f.enabled f.quiet e (f.roomy (words ns) e) there f.space in
        let after : Stepped → System =
        λ r.
        let x = keeps (record { turns = k; place_a = p; held = o.state.output.held }) (sample_events c w r.landing r.packed) in
        system (placed x.place_a r.device) (Two x.turns) (relent l (filled l (with_part (oldest_buffer k) r.buffer (buffers l)))) in
        (ap after r, ap (λ (r : Stepped). r.packed) r)

-- The memories after it.
more_told : (x : Scenario) (u : Buffer) (done more : List Noted) (l : Lent) (memory : List ℕ) → l ≡ told x u done
    → memory ≡ with_noted u l.start more l.memory → record { memory = memory; start = l.start } ≡ told x u (done ++ more)
more_told x u done more l memory e is =
    let start = (lent u x.lent).start in
    let lend : List ℕ → Lent = λ m. record { memory = m; start = start } in
    ap {B = Lent} (λ (m : List ℕ). record { memory = m; start = l.start }) is
    ∙ ap {B = Lent} (λ (l : Lent). record { memory = with_noted u l.start more l.memory; start = l.start }) e
    ∙ ap lend (sym (with_noted_append u start done more (lent u x.lent).memory))

part_with : (u v : Buffer) (f : List ℕ → List ℕ) (p : Pair) → part u (with_part v (f (part v p)) p) ≡ cond (same_buffer u v) (f (part u p)) (part u p)
part_with A A f p = refl
part_with A B f p = refl
part_with B A f p = refl
part_with B B f p = refl

module _ (x : Scenario) (l : Both) (done rest : List Noted) (granted : Bool) (told_so : (u : Buffer) → lent u l ≡ told x u done) where
  abbrev pub more : List Noted
  more = gone granted rest

  pub one_told : (p : ℕ) → First A p rest → (u : Buffer)
      → lent u (relent l (with_a (refilled l.a (buffer_after p (leaving granted (words rest)) (frame_buffer l.a))) l)) ≡ told x u (done ++ more)
  one_told p first A = more_told x A done more l.a _ (told_so A) (landing_memory A A p granted rest l.a first)
  one_told p first B =
      more_told x B done more l.b _ (told_so B) (sym (take-append-drop l.b.start l.b.memory) ∙ landing_memory B A p granted rest l.b first)

  pub two_told : (v : Buffer) (p : ℕ) → First v p rest → (u : Buffer)
      → lent u (relent l (filled l (with_part v (buffer_after p (leaving granted (words rest)) (part v (buffers l))) (buffers l)))) ≡ told x u (done ++ more)
  two_told v p first A =
      more_told x A done more l.a _ (told_so A)
      (ap (refilled l.a) (part_with A v (buffer_after p (leaving granted (words rest))) (buffers l)) ∙ landing_memory A v p granted rest l.a first)
  two_told v p first B =
      more_told x B done more l.b _ (told_so B)
      (ap (refilled l.b) (part_with B v (buffer_after p (leaving granted (words rest))) (buffers l)) ∙ landing_memory B v p granted rest l.b first)

pub buffer_lent : (u : Buffer) (l : Both) (P : List ℕ → Type 0) → P (frame_buffer (lent u l)) → P (part u (buffers l))
buffer_lent A l P h = h
buffer_lent B l P h = h

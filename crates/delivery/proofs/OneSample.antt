-- A sample keeps what stands after the samples before it, in both modes (W2), and answers the word noted at it (`sample_stands`). Assumes nothing.
use mathlib.Core.Bool.{Bool, true, false, ◌&&◌, true≢false, false≢true}
use mathlib.Core.List.{List, ◌++◌, append_assoc, map-append}
use mathlib.Core.Path.{◌≡◌, refl, sym, ap, subst, ◌∙◌}
use Prim.Native.Nat.{ℕ, ◌+◌}
use native.Mathlib.Omega.{arith}
use lib.ListN.{length, drop, length-append, length-map}
use lib.Seq.{drop_at}
use Rattle.buffers.specs.declared.Buffer.{Buffer}
use Rattle.buffers.specs.declared.Buffer.TheVariants.{A, B}
use Rattle.buffers.specs.Turns.{oldest_buffer, oldest_place}
use Rattle.output.specs.Output.{OutputState, contents, count_sample, with_counts}
use Rattle.samples.specs.Samples.{bus_grant}
use Rattle.landing.specs.Landing.{Out, put}
use Rattle.rules.specs.declared.Capture.{Capture}
use Rattle.rules.specs.State.{device}
use Rattle.rules.specs.Sample.{capture_sample, next_capture}
use Rattle.rules.specs.RegisterCalls.{placed}
use Rattle.board_rules.specs.declared.Mode.{Mode}
use Rattle.board_rules.specs.declared.Mode.TheVariants.{One, Two}
use Rattle.board_rules.specs.State.{is_two}
use Rattle.board_rules.specs.BoardRuns.{Both, lent}
use Rattle.delivery.specs.Calls.{Starts, System, stepped}
use Rattle.delivery.specs.Noted.{Turn, word_turn, next_turn, Noted, note, words}
use Rattle.delivery.specs.Delivery.{All, Scenario, starts_in, Room}
use Rattle.delivery.proofs.Inputs.{input}
use Rattle.delivery.proofs.Following.{answered, Roomy}
use Rattle.delivery.proofs.Chain.{chain_note, chain_landing, gone, left, passed, gone_left}
use Rattle.delivery.proofs.Tagged.{retold}
use Rattle.delivery.proofs.Events.{sample_tagged}
use Rattle.delivery.proofs.Landings.{rule_landed, take_in_landed}
use Rattle.delivery.proofs.Sampling.{packs}
use Rattle.delivery.proofs.Standing.{system, Turning, told, Standing, Fair, real_room, lands_first, one_lands}
use Rattle.delivery.proofs.Stepping.{one_stepped, two_stepped, one_told, two_told, buffer_lent}

-- The memories in which words have landed have the scenario's starts.
told_starts : (two : Bool) (x : Scenario) (l : Both) (done : List Noted) → ((u : Buffer) → lent u l ≡ told x u done) → starts_in two l ≡ starts_in two x.lent
told_starts true x l done so = rw (so A, so B)
told_starts false x l done so = rw (so A)

-- What is to be shown of a sample with these starts: it keeps what stands, and answers its word.
abbrev pub Step : Bool → Bool → Starts → Scenario → Capture → Out → Turn → ℕ → ℕ → List Noted → System → Type 0
Step on two from x c o t i w ns s =
    let y = (put on o (input c w)).state in
    let ns' = ns ++ note i (word_turn two t) (capture_sample c w).word in
    y.output.counts.landed + y.output.held ≡ length ns'
    → Standing x two (next_capture c w) y (next_turn two t c (capture_sample c w)) ns' (stepped from s w) × (packs from s w ≡ answered (capture_sample c w).word)

-- One sample, with number i.
module _ {on : Bool} (x : Scenario) (c : Capture) (o : Out) (t : Turn) (i w : ℕ) (f : Fair on c o w) (done rest : List Noted) (rooms : All (Room x) (done ++ rest))
    (e : contents o.state ≡ words rest) (landed : o.state.output.counts.landed ≡ length done) where
  abbrev granted : Bool
  granted = bus_grant w && on

  abbrev y : OutputState
  y = (put on o (input c w)).state

  abbrev done' : List Noted
  done' = done ++ gone granted rest

  abbrev rest' : Bool → List Noted
  rest' two = left granted rest ++ note i (word_turn two t) (capture_sample c w).word

  all_words : (two : Bool) → (done ++ rest) ++ note i (word_turn two t) (capture_sample c w).word ≡ done' ++ rest' two
  all_words two =
      let n = note i (word_turn two t) (capture_sample c w).word in
      append_assoc done rest n
      ∙ ap (λ (r : List Noted). done ++ (r ++ n)) (sym (gone_left granted rest))
      ∙ ap (λ (r : List Noted). done ++ r) (append_assoc (gone granted rest) (left granted rest) n)
      ∙ sym (append_assoc done (gone granted rest) (left granted rest ++ n))

  landed' : y.output.counts.landed ≡ length done'
  unfolding put contents count_sample with_counts
  landed' =
      let counted : OutputState = record { output = count_sample o.state.output; slots = o.state.slots } in
      take_in_landed (capture_sample c w).word _
      ∙ rule_landed (bus_grant w) on counted o.buffer rest e (f.roomy _ refl)
      ∙ rw (landed, length-append)

  stands_in : (two : Bool) (m : Mode) (p : ℕ) (l : Both) (line : Turn) → is_two m ≡ two → Turning m p o.state.output.held line rest t
      → ((u : Buffer) → lent u l ≡ told x u done) → Step on two (starts_in two l) x c o t i w (done ++ rest) (system (placed p (device c o.state)) m l)
  unfolding next_turn
  stands_in true One p l line mode g told_so all = absurd (false≢true mode)
  stands_in false (Two k) p l line mode g told_so all = absurd (true≢false mode)
  stands_in false One p l line mode g told_so all =
      let first = lands_first One p 0 line t rest g in
      let (is, says) = one_stepped c o w p l rest f e (real_room x A p done rest l.a rooms first (told_so A)) in
      let (a, at) = one_lands granted p line t rest g in (
        record {
          place = _;
          mode = One;
          both = _;
          is = is;
          is_mode = refl;
          done = done';
          rest = rest' false;
          whole = all_words false;
          landed = landed';
          line = passed granted line rest;
          turning = (a, at, chain_note false _ t (left granted rest) i _ (chain_landing false granted line t rest g.2));
          told = one_told x l done rest granted told_so p first;
        },
        says,
      )
  stands_in true (Two k) p l line mode g told_so all =
      let u = oldest_buffer k in
      let q = oldest_place p k in
      let first = lands_first (Two k) p _ line t rest g in
      let there = real_room x u q done rest (lent u l) rooms first (told_so u) in
      let (is, says) = two_stepped c o w p l rest f e k (buffer_lent u l (Roomy (words rest) q) there) in
      let h = y.output.held in
      let long : h ≡ length (rest' true) = omega (arith, landed', all, ap length (all_words true) ∙ length-append done' (rest' true)) in
      let g' = sample_tagged c w q i granted _ line t rest f.quiet g in (
        record {
          place = _;
          mode = _;
          both = _;
          is = is;
          is_mode = refl;
          done = done';
          rest = rest' true;
          whole = all_words true;
          landed = landed';
          line = passed granted line rest;
          turning = retold h _ _ (rest' true) _ long g';
          told = two_told x l done rest granted told_so u q first;
        },
        says,
      )

-- The same from what stands after the samples before it, with the scenario's starts.
pub sample_stands : {on two : Bool} (x : Scenario) (c : Capture) (o : Out) (t : Turn) (ns : List Noted) (s : System) (i w : ℕ) → Fair on c o w → All (Room x) ns
    → contents o.state ≡ drop o.state.output.counts.landed (words ns) → Standing x two c o.state t ns s → Step on two (starts_in two x.lent) x c o t i w ns s
sample_stands {on} {two} x c o t ns s i w f rooms held g =
    let done = g.done in
    let rest = g.rest in
    let from = starts_in two x.lent in
    let now = system (placed g.place (device c o.state)) g.mode g.both in
    let long : length (words done) ≡ o.state.output.counts.landed = rw (length-map, g.landed) in
    let e : contents o.state ≡ words rest = held ∙ rw (g.whole, map-append) (drop_at (words done) (words rest) _ long) in
    let step = stands_in x c o t i w f done rest (rw g.whole at rooms) e g.landed two g.mode g.place g.both g.line g.is_mode g.turning g.told in
    let started = subst (λ (from : Starts). Step on two from x c o t i w (done ++ rest) now) (told_starts two x g.both done g.told) step in
    subst (λ (ns : List Noted). Step on two from x c o t i w ns s) (sym g.whole) (subst (λ (s : System). Step on two from x c o t i w (done ++ rest) s) (sym g.is) started)

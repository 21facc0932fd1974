-- A stretch in which the oldest held word has no room runs over its buffer (`runs_behind`): none lands, words that come are held behind the others or lost, and the turns follow from the numbers held
-- before and after it. The idea: tags behind the oldest word leave its own. Assumes nothing.
use mathlib.Core.Bool.{Bool, true, false, cond, not, true≢false}
use mathlib.Core.List.{List}
use Rattle.std.specs.Prelude.{None}
use mathlib.Core.Path.{◌≡◌, refl, sym, ap, ◌∙◌}
use Prim.Native.Nat.{ℕ, zero, suc, ◌+◌, ◌-◌, ◌*◌, ◌/◌, ◌%◌, ◌^◌, ◌≤◌, ◌<◌}
use native.Mathlib.Numerals.{add-one}
use native.Mathlib.Omega.{arith}
use lib.Dec.{eqb, ltb}
use lib.ListN.{length}
use lib.Pow.{pow_pos, pow_mono}
use borrow.Author.Tests.{lt-ltb, lt-leb, ltb-true, ltb-false, not-true}
use Rattle.bits.specs.Bits.{bit}
use Rattle.bits.proofs.Booleans.{and_true, by_cond, either}
use Rattle.registers.specs.Control.{embedded}
use Rattle.buffers.specs.declared.Buffer.{Buffer}
use Rattle.buffers.specs.declared.Buffer.TheVariants.{A, B}
use Rattle.buffers.specs.declared.Turns.{Turns}
use Rattle.buffers.specs.Turns.{is_b, with_turn, with_tags, first_word, word_held, discarded, word_lost, oldest_buffer, oldest_opens, next_place, oldest_place}
use Rattle.buffers.specs.Kept.{keep, keeps}
use Rattle.output.specs.Output.{with_place, room}
use Rattle.output.specs.declared.Packing.{Packing as Packed}
use Rattle.output.specs.declared.Packing.TheVariants.{Nothing as nothing, Completed as completed, Lost as lost}
use Rattle.rules.specs.State.{capture_of}
use Rattle.rules.specs.Sample.{capture_sample}
use Rattle.rules.specs.RegisterCalls.{placed}
use Rattle.rules.specs.Run.{step, Ran, steps}
use Rattle.output.specs.Ledger.{Ledger, sample_entry, landing_entry, numbers}
use Rattle.laws.specs.Ledger.{word_entry}
use Rattle.board_rules.specs.TwoBuffers.{landing_event, word_event, Pair, part, Two, two_steps}
use Rattle.two_buffers.specs.Stretches.{tags_in, long, no_room, opening_behind, words_behind, turns_behind, Lasts}
use Rattle.two_buffers.proofs.Alone.{none_yet}
use Rattle.two_buffers.proofs.Tagging.{again_first, held_more}
use Rattle.two_buffers.proofs.Doing.{first_begun}
use Rattle.two_buffers.proofs.Idle.{place_after, step_place, full_landing}
use Rattle.two_buffers.proofs.Counted.{entered}
use Rattle.two_buffers.proofs.Lasting.{lasts_calm}
use Rattle.two_buffers.proofs.Running.{next, with_own, as_before, numbers_after, run_as, follows}

-- The tags behind some words: with one more, and none of the oldest.
more_behind : (v : Buffer) (h n i : ℕ) → h ≤ n → let k = i + (tags_in v n - tags_in v h) in cond (is_b v) (k + 2 ^ n) k ≡ i + (tags_in v (n + 1) - tags_in v h)
unfolding tags_in
more_behind A h n i le = refl
more_behind B h n i le = rw add-one (omega (arith, pow_mono {i = h} {j = n} le, pow_pos h, pow_pos n))

pub tags_sub : (v : Buffer) (h n : ℕ) {x y : ℕ} → x ≡ tags_in v n → y ≡ tags_in v h → h ≤ n → y ≤ x
unfolding tags_in
tags_sub A h n e f le = omega arith
tags_sub B h n e f le = omega (arith, pow_mono {i = h} {j = n} le)

pub tags_fit : (v : Buffer) (h n i : ℕ) {x y : ℕ} → x ≡ tags_in v n → y ≡ tags_in v h → h ≤ n → n ≤ 32 → i < 2 ^ h → i + (x - y) < 2 ^ 32
unfolding tags_in
tags_fit A h n i e f le fits low = omega (arith, pow_mono {i = h} {j = 32} (omega arith))
tags_fit B h n i e f le fits low = omega (arith, pow_mono {i = h} {j = n} le, pow_mono {i = n} {j = 32} fits, pow_pos h)

pub opening_fit : (begun : Bool) (h i : ℕ) {x : ℕ} → x ≡ opening_behind begun h → h < 32 → i < 2 ^ h → i + x < 2 ^ 32
unfolding opening_behind
opening_fit true h i e fits low = omega (arith, pow_mono {i = h} {j = 32} (omega arith))
opening_fit false h i e fits low =
    let twice : 2 ^ (h + 1) ≡ 2 ^ h + 2 ^ h = rw add-one (omega arith) in
    omega (arith, twice, pow_mono {i = h + 1} {j = 32} (omega arith))

first_behind : (v : Buffer) (h n i : ℕ) → suc h ≤ n → bit 0 (i + (tags_in v n - tags_in v (suc h))) ≡ bit 0 i
unfolding tags_in
first_behind A h n i le = let same : i + (0 - 0) ≡ i = omega arith in ap (λ (k : ℕ). bit 0 k) same
first_behind B h zero i le = absurd (omega arith)
first_behind B h (suc n) i le =
    let even : (i + (2 ^ suc n - 1 - (2 ^ suc h - 1))) / 1 % 2 ≡ i / 1 % 2 = omega (arith, pow_mono {i = h} {j = n} (omega arith), pow_pos h, pow_pos n) in
    ap (λ (k : ℕ). eqb k 1) even

opens_behind : (begun : Bool) (h i : ℕ) → bit 0 (i + opening_behind begun (suc h)) ≡ bit 0 i
unfolding opening_behind
opens_behind true h i = let same : i + 0 ≡ i = omega arith in ap (λ (k : ℕ). bit 0 k) same
opens_behind false h i = let even : (i + 2 ^ suc h) / 1 % 2 ≡ i / 1 % 2 = omega arith in ap (λ (k : ℕ). eqb k 1) even

-- The turns while none is lost.
abbrev held_behind : ℕ → ℕ → Turns → Turns
held_behind h n t = cond (ltb h n) (words_behind h n t) t

-- The oldest word is as it was.
record SameOldest (t s : Turns) : Type 0 where
  buffer : oldest_buffer s ≡ oldest_buffer t
  opens : oldest_opens s ≡ oldest_opens t
  place : s.place ≡ t.place

first_place : (t : Turns) → (first_word t).place ≡ t.place
unfolding first_word with_turn
first_place t = either (λ (s : Turns). s.place ≡ t.place) t.begun refl refl

oldest_behind : (h n : ℕ) (t : Turns) → SameOldest t (held_behind (suc h) n t)
unfolding words_behind with_tags oldest_buffer oldest_opens
oldest_behind h n t =
    by_cond (SameOldest t) (ltb (suc h) n) _ _
    (λ more.
    record {
      buffer = ap (λ (b : Bool). cond b B A) (first_behind (first_word t).turn h n t.in_b (omega (arith, ltb-true (suc h) n more)));
      opens = opens_behind t.begun h t.opening;
      place = first_place t;
    })
    (λ e. record { buffer = refl; opens = refl; place = refl })

some_behind : (h n : ℕ) (t : Turns) → eqb h 0 ≡ false → SameOldest t (held_behind h n t)
some_behind zero n t Some = absurd (true≢false Some)
some_behind (suc h) n t Some = oldest_behind h n t

same_place_of : (a : ℕ) (u : Buffer) (t s : Turns) → s.place ≡ t.place → next_place a u s ≡ next_place a u t
same_place_of a A t s e = refl
same_place_of a B t s e = e

place_behind : (a : ℕ) (t s : Turns) → SameOldest t s → oldest_place a s ≡ oldest_place a t
unfolding oldest_place
place_behind a t s is = rw (is.buffer, is.opens, same_place_of a (oldest_buffer t) t s is.place)

-- A word more.
begun_behind : (h n : ℕ) (t : Turns) → (words_behind h n t).begun ≡ true
unfolding words_behind with_tags
begun_behind h n t = first_begun t

first_tags : (t : Turns) → ((first_word t).in_b ≡ t.in_b) × ((first_word t).opening ≡ t.opening)
unfolding first_word with_turn
first_tags t =
    (either (λ (s : Turns). s.in_b ≡ t.in_b) t.begun refl refl, either (λ (s : Turns). s.opening ≡ t.opening) t.begun refl refl)

-- Behind the words that were held alone.
opens_now : (begun : Bool) (h o : ℕ) → cond begun o (o + 2 ^ h) ≡ o + opening_behind begun h
unfolding opening_behind
opens_now true h o = omega arith
opens_now false h o = refl

tags_now : (v : Buffer) (h i : ℕ) → cond (is_b v) (i + 2 ^ h) i ≡ i + (tags_in v (h + 1) - tags_in v h)
tags_now v h i = let none_yet : i + (tags_in v h - tags_in v h) ≡ i = omega arith in ap (λ (k : ℕ). cond (is_b v) (k + 2 ^ h) k) (sym none_yet) ∙ more_behind v h h i (omega arith)

word_first : (h : ℕ) (t : Turns) → word_held h t ≡ words_behind h (h + 1) t
unfolding word_held words_behind
word_first h t =
    let s = first_word t in
    let (i, o) = first_tags t in
    ap (λ (k : ℕ). with_tags (cond (is_b s.turn) (k + 2 ^ h) k) (cond t.begun s.opening (s.opening + 2 ^ h)) s) i
    ∙ ap (λ (k : ℕ). with_tags (cond (is_b s.turn) (t.in_b + 2 ^ h) t.in_b) (cond t.begun k (k + 2 ^ h)) s) o
    ∙ ap (λ (k : ℕ). with_tags k (cond t.begun t.opening (t.opening + 2 ^ h)) s) (tags_now s.turn h t.in_b)
    ∙ ap (λ (k : ℕ). with_tags (t.in_b + (tags_in s.turn (h + 1) - tags_in s.turn h)) k s) (opens_now t.begun h t.opening)

word_later : (h n : ℕ) (t : Turns) → h ≤ n → word_held n (words_behind h n t) ≡ words_behind h (n + 1) t
unfolding words_behind with_tags
word_later h n t le = held_more n (words_behind h n t) (begun_behind h n t) refl (more_behind (first_word t).turn h n t.in_b le) refl

word_behind : (h n : ℕ) (t : Turns) → h ≤ n → word_held n (held_behind h n t) ≡ held_behind h (n + 1) t
word_behind h n t le = go (ltb h n) refl ∙ ap (λ (b : Bool). cond b (words_behind h (n + 1) t) t) (sym (lt-ltb h (n + 1) (omega arith)))
  where
    go : (b : Bool) → ltb h n ≡ b → word_held n (cond b (words_behind h n t) t) ≡ words_behind h (n + 1) t
    go true e = word_later h n t le
    go false e = let same : n ≡ h = omega (arith, ltb-false h n e) in rw same (word_first h t)

-- A word is lost.
gone_behind : (h n : ℕ) (t : Turns) → discarded (words_behind h n t) ≡ discarded (first_word t)
unfolding words_behind discarded with_tags with_turn
gone_behind h n t = refl

lost_behind : (h n : ℕ) (t : Turns) → word_lost (held_behind h n t) ≡ word_lost t
unfolding word_lost
lost_behind h n t =
    either (λ (s : Turns). discarded (first_word s) ≡ discarded (first_word t)) (ltb h n)
    (ap (λ (s : Turns). discarded s) (again_first (words_behind h n t) (begun_behind h n t)) ∙ gone_behind h n t)
    refl

-- Held and discarded words after a sample in which none lands and none is lost.
entered_kept : (q : Packed) (l : Ledger) → ¬ (q ≡ lost) → ((entered None q l).discarded ≡ l.discarded) × (l.held ≤ (entered None q l).held)
unfolding sample_entry landing_entry word_entry
entered_kept nothing l kept = (refl, omega arith)
entered_kept (completed v) l kept = (refl, omega arith)
entered_kept lost l kept = absurd (kept refl)

-- A run over the oldest word's buffer.
long_part : (u : Buffer) (m : Pair) → long u (length m.a) (length m.b) ≡ length (part u m)
long_part A m = refl
long_part B m = refl

module _ (x : Two) (stuck : no_room x.device.core.output x.turns (length x.buffers.a) (length x.buffers.b) ≡ true) where
  abbrev t : Turns
  t = x.turns

  abbrev u : Buffer
  u = oldest_buffer x.turns

  abbrev h : ℕ
  h = x.device.core.output.held

  abbrev gone : Ledger → Bool
  gone l = ltb x.device.core.output.counts.discarded l.discarded

  abbrev turns_at : Ledger → ℕ → Turns
  turns_at l p = turns_behind h (gone l) l.held t

  abbrev place_at : Ledger → ℕ → ℕ
  place_at l p = x.device.core.output.place

  abbrev first_at : ℕ
  first_at = oldest_place x.device.core.output.place t

  -- Device, turns and buffers, by the run.
  abbrev pub run_behind : Ran → Two
  run_behind r = run_as x u turns_at place_at r

  -- None was lost.
  record On (r : Ran) : Type 0 where
    grown : x.device.core.output.counts.discarded ≤ r.device.core.output.counts.discarded
    none_lost : gone (numbers r.device.core.output) ≡ false
    more : h ≤ r.device.core.output.held
    at : r.device.core.output.place ≡ first_at
    full : room r.device.core.output.place r.buffer ≡ false

  same_turns : (l : Ledger) (p : ℕ) → turns_at (sample_entry l) p ≡ turns_at l p
  unfolding sample_entry
  same_turns l p = refl

  same_place : (l : Ledger) (p : ℕ) → place_at (sample_entry l) p ≡ place_at l p
  same_place l p = refl

  -- The oldest word keeps its buffer and its place.
  oldest : (r : Ran) (n : ℕ) → On r → r.device.core.output.held ≡ suc n
      → let l = numbers r.device.core.output in
      let p = r.device.core.output.place in
      (oldest_buffer (turns_at l p) ≡ u) × (oldest_place (place_at l p) (turns_at l p) ≡ p)
  unfolding turns_behind no_room
  oldest r n on e =
      let l = numbers r.device.core.output in
      let (held, short) = and_true (not (eqb h 0)) _ stuck in
      let is = some_behind h l.held t (not-true _ held) in
      rw on.none_lost (is.buffer, place_behind _ t (held_behind h l.held t) is ∙ sym on.at)

  -- A sample's events.
  events_of : (q : Packed) (l : Ledger) (p : ℕ) → h ≤ l.held → gone l ≡ false → x.device.core.output.counts.discarded ≤ l.discarded
      → keeps (record { turns = turns_at l p; place_a = place_at l p; held = l.held }) (word_event q)
      ≡ record { turns = turns_at (entered None q l) p; place_a = place_at (entered None q l) p; held = (entered None q l).held }
  unfolding keeps keep sample_entry landing_entry word_entry turns_behind
  events_of nothing l p le none_lost grown = refl
  events_of (completed v) l p le none_lost grown =
      rw none_lost (ap (λ (s : Turns). record { turns = s; place_a = x.device.core.output.place; held = l.held + 1 }) (word_behind h l.held t le))
  events_of lost l p le none_lost grown =
      rw (none_lost, lt-ltb x.device.core.output.counts.discarded (l.discarded + (l.held + 1)) (omega arith))
      (ap (λ (s : Turns). record { turns = s; place_a = x.device.core.output.place; held = 0 }) (lost_behind h l.held t))

  events : (r : Ran) (w : ℕ) → On r → (capture_sample (capture_of r.device) w).error ≡ false
      → let R = step r.device r.buffer w in
      let l = numbers r.device.core.output in
      let p = r.device.core.output.place in
      (keeps (keeps (record { turns = turns_at l p; place_a = place_at l p; held = l.held }) (landing_event R.landing)) (word_event R.packed)
      ≡ record { turns = turns_at (entered R.landing R.packed l) (place_after R.landing p); place_a = place_at (entered R.landing R.packed l) (place_after R.landing p); held = (entered R.landing R.packed l).held })
      × (¬ (R.packed ≡ lost) → On (next r w))
  unfolding keeps
  events r w on quiet =
      let R = step r.device r.buffer w in
      let l = numbers r.device.core.output in
      let p = r.device.core.output.place in
      let (none_lands, stays) = full_landing r.device r.buffer w on.full in
      let counts : numbers R.device.core.output ≡ entered None R.packed l = rw none_lands at (numbers_after r.device r.buffer w quiet) in
      let same_at : R.device.core.output.place ≡ p = rw none_lands at (step_place r.device r.buffer w) in (
        rw none_lands (events_of R.packed l p on.more on.none_lost on.grown),
        λ kept.
            let (same_gone, more) = entered_kept R.packed l kept in
            let gone_is : R.device.core.output.counts.discarded ≡ l.discarded = ap (λ (n : Ledger). n.discarded) counts ∙ same_gone in
            let held_is : R.device.core.output.held ≡ (entered None R.packed l).held = ap (λ (n : Ledger). n.held) counts in
            record {
              grown = omega (arith, gone_is, on.grown);
              none_lost = ap (λ (k : ℕ). ltb x.device.core.output.counts.discarded k) gone_is ∙ on.none_lost;
              more = omega (arith, held_is, more, on.more);
              at = same_at ∙ on.at;
              full = ap (λ (k : ℕ). room k R.buffer) same_at ∙ ap (λ (b : List ℕ). room p b) stays ∙ on.full;
            },
      )

  abbrev begin : Ran
  begin = record { device = placed first_at x.device; buffer = part u x.buffers }

  begins : run_behind begin ≡ x
  unfolding with_place turns_behind
  begins =
      let c = x.device.core.output.counts in
      as_before x refl (rw (none_yet c.discarded, none_yet h)) (with_own u x.buffers)

  begins_on : On begin
  unfolding with_place no_room room
  begins_on =
      let (held, short) = and_true (not (eqb h 0)) _ stuck in
      record {
        grown = omega arith;
        none_lost = none_yet x.device.core.output.counts.discarded;
        more = omega arith;
        at = refl;
        full = rw (← long_part u x.buffers) (lt-leb (4 * first_at + 4) (long u (length x.buffers.a) (length x.buffers.b)) (ltb-true (long u (length x.buffers.a) (length x.buffers.b)) (4 * first_at + 4) short));
      }

  -- The law.
  pub runs_behind : (ws : List ℕ) → Lasts (embedded x.device.core.capture.registers.cr) x.device.core.capture ws → two_steps x ws ≡ run_behind (steps (placed first_at x.device) (part u x.buffers) ws)
  runs_behind ws lasts =
      ap (λ (y : Two). two_steps y ws) (sym begins)
      ∙ follows x u turns_at place_at same_turns same_place On oldest events begin ws begins_on (lasts_calm (placed first_at x.device) (part u x.buffers) ws lasts)

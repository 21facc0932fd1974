-- A sample with two frame buffers keeps a well-formed device so, and what is kept for the buffers: the tags of the held words are below 2 ^ held, both places at most landed.
-- The idea: the sample's events do to the number of held words and to landed what the ledger says, and each event keeps tags and places within these numbers. Assumes nothing.
use mathlib.Core.Bool.{Bool, true, false, cond, not, ◌&&◌}
use mathlib.Core.List.{List, [], ◌∷◌, ◌++◌}
use Rattle.std.specs.Prelude.{Option, None, Some}
use mathlib.Core.Path.{◌≡◌, refl, sym, ap, ◌∙◌, subst}
use Prim.Native.Nat.{ℕ, zero, suc, ◌+◌, ◌-◌, ◌/◌, ◌^◌, ◌≤◌, ◌<◌}
use native.Mathlib.Numerals.{add-one}
use native.Mathlib.Omega.{arith}
use lib.Dec.{ltb}
use borrow.Author.Tests.{ltb-true, ltb-false}
use Rattle.bits.proofs.Booleans.{by_cond, either}
use Rattle.buffers.specs.declared.Buffer.{Buffer}
use Rattle.buffers.specs.declared.Buffer.TheVariants.{A, B}
use Rattle.buffers.specs.declared.Content.{Content}
use Rattle.buffers.specs.declared.Content.TheVariants.{Landing, Complete}
use Rattle.buffers.specs.declared.Turns.{Turns}
use Rattle.buffers.specs.Turns as turn_rules
use Rattle.buffers.specs.Turns.{is_b, with_turn, with_tags, with_place_b, with_latest, with_content, content, first_word, word_held, word_lost, oldest_buffer, oldest_opens, next_place, oldest_place, is_landing, frame_over, last_of_frame, word_landed, frame_ended}
use Rattle.buffers.specs.Story as story
use Rattle.buffers.specs.Kept.{Kept, landed_at, keep, keeps}
use Rattle.output.specs.Output.{with_place}
use Rattle.output.specs.declared.Packing.{Packing as Packed}
use Rattle.output.specs.declared.Packing.TheVariants.{Nothing as nothing, Completed as completed, Lost as lost}
use Rattle.rules.specs.declared.Capture.{Capture}
use Rattle.rules.specs.State.{capture_of, is_open}
use Rattle.rules.specs.Sample.{capture_sample}
use Rattle.rules.specs.RegisterCalls.{placed}
use Rattle.rules.specs.Run.{step}
use Rattle.rules.proofs.WellFormed.{WellFormed}
use Rattle.laws.specs.Histories.{sampled}
use Rattle.output.specs.Ledger.{Ledger, sample_entry, landing_entry, discarding_entry, numbers}
use Rattle.laws.specs.Ledger.{word_entry, error_entry, enter}
use Rattle.laws.proofs.KeepsSample.{step_keeps}
use Rattle.laws.proofs.KeepsWrites.{placed_ok}
use Rattle.laws.proofs.CountsFromHistory.{step_counted}
use Rattle.board_rules.specs.State.{kept_of}
use Rattle.board_rules.specs.TwoBuffers.{landing_event, word_event, frame_event, sample_events, part, Two, two_step, two_steps}
use Rattle.board_rules.proofs.WellFormed.{TurnsOk}

pub keeps_append : (k : Kept) (es fs : List story.Event) → keeps k (es ++ fs) ≡ keeps (keeps k es) fs
unfolding keeps
keeps_append k [] fs = refl
keeps_append k (e ∷ es) fs = keeps_append (keep k e) es fs

-- A sample's events in turn.
abbrev in_parts : Kept → Capture → ℕ → Option ℕ → Packed → Kept
in_parts k s v o p = keeps (keeps (keeps k (landing_event o)) (word_event p)) (frame_event s (capture_sample s v))

in_turn : (k : Kept) (s : Capture) (v : ℕ) (o : Option ℕ) (p : Packed) → keeps k (sample_events s v o p) ≡ in_parts k s v o p
unfolding sample_events
in_turn k s v o p =
    keeps_append k (landing_event o) (word_event p ++ frame_event s (capture_sample s v)) ∙ keeps_append (keeps k (landing_event o)) (word_event p) (frame_event s (capture_sample s v))

-- The number of held words: what the ledger's entries say of a sample, its events do.
landing_held : (o : Option ℕ) (l : Ledger) (k : Kept) → k.held ≡ l.held → (keeps k (landing_event o)).held ≡ (landing_entry o l).held
unfolding landing_entry keeps keep landed_at
landing_held None l k e = e
landing_held (Some byte) l k e =
    by_cond (λ (x : Kept). x.held ≡ l.held - 1) (ltb 0 k.held) _ _
    (λ t. at_place (oldest_buffer k.turns) _ ∙ ap (λ h. h - 1) e)
    (λ t. omega (arith, e, ltb-false 0 k.held t))
  where
    at_place : (u : Buffer) (p : ℕ) → (landed_at u p k).held ≡ k.held - 1
    at_place A p = refl
    at_place B p = refl

word_held_as : (p : Packed) (l : Ledger) (k : Kept) → k.held ≡ l.held → (keeps k (word_event p)).held ≡ (word_entry p l).held
unfolding word_entry keeps keep
word_held_as nothing l k e = e
word_held_as (completed v) l k e = ap (λ h. h + 1) e
word_held_as lost l k e = refl

frame_held : (s : Capture) (v : ℕ) (l : Ledger) (k : Kept) → k.held ≡ l.held
    → (keeps k (frame_event s (capture_sample s v))).held ≡ (error_entry (capture_sample s v).error l).held
unfolding error_entry discarding_entry frame_event keeps keep
frame_held s v l k e = go (capture_sample s v).error (is_open s.frame && not (is_open (capture_sample s v).state.frame))
  where
    go : (b c : Bool) → (keeps k (cond b (story.discarded ∷ []) (cond c (story.ended ∷ []) []))).held ≡ (error_entry b l).held
    go true c = refl
    go false true = e
    go false false = e

sample_held : (s : Capture) (v : ℕ) (o : Option ℕ) (p : Packed) (l : Ledger) (k : Kept) → k.held ≡ l.held
    → (keeps k (sample_events s v o p)).held ≡ (enter l (sampled s v o p)).held
unfolding enter sample_entry
sample_held s v o p l k e = rw (in_turn k s v o p) (frame_held s v _ _ (word_held_as p _ _ (landing_held o (sample_entry l) k e)))

-- The device's number of held words after a sample is the one that is kept.
pub two_step_held : (x : Two) (w : ℕ)
    → let d = x.device in
    let r = step (placed (oldest_place d.core.output.place x.turns) d) (part (oldest_buffer x.turns) x.buffers) w in
    (two_step x w).after.device.core.output.held ≡ (keeps (kept_of d x.turns) (sample_events (capture_of d) w r.landing r.packed)).held
unfolding two_step with_place
two_step_held x w =
    let d = x.device in
    let y = placed (oldest_place d.core.output.place x.turns) d in
    let b = part (oldest_buffer x.turns) x.buffers in
    let r = step y b w in
    sym (sample_held (capture_of d) w r.landing r.packed (numbers y.core.output) (kept_of d x.turns) refl ∙ ap (λ (l : Ledger). l.held) (step_counted y b w))

-- What is kept is within these numbers of words held and landed.
pub record Fits (held landed : ℕ) (t : Turns) : Type 0 where
  pub buffers : t.in_b < 2 ^ held
  pub opening : t.opening < 2 ^ held
  pub place : t.place ≤ landed

pub record Within (l : Ledger) (k : Kept) : Type 0 where
  pub turns : Fits k.held l.landed k.turns
  pub place : k.place_a ≤ l.landed

-- A word is completed.
first_fits : {h n : ℕ} (t : Turns) → Fits h n t → Fits h n (first_word t)
unfolding first_word with_turn
first_fits {h} {n} t f = either (Fits h n) t.begun f (record { buffers = f.buffers; opening = f.opening; place = f.place })

double : (h : ℕ) → 2 ^ (h + 1) ≡ 2 ^ h + 2 ^ h
double h = rw add-one (omega arith)

added : (b : Bool) (x h : ℕ) → x < 2 ^ h → cond b (x + 2 ^ h) x < 2 ^ (h + 1)
added true x h e = omega (arith, double h)
added false x h e = omega (arith, double h)

not_added : (b : Bool) (x h : ℕ) → x < 2 ^ h → cond b x (x + 2 ^ h) < 2 ^ (h + 1)
not_added true x h e = omega (arith, double h)
not_added false x h e = omega (arith, double h)

held_fits : {h n : ℕ} (t : Turns) → Fits h n t → Fits (h + 1) n (word_held h t)
unfolding word_held with_tags
held_fits {h} t f =
    let g = first_fits t f in
    record { buffers = added (is_b (first_word t).turn) _ h g.buffers; opening = not_added t.begun _ h g.opening; place = g.place }

discarded_fits : {h n : ℕ} (t : Turns) → Fits h n t → Fits 0 n (turn_rules.discarded t)
unfolding turn_rules.discarded with_turn with_tags
discarded_fits t f = record { buffers = omega arith; opening = omega arith; place = f.place }

-- The oldest held word lands.
halved : (x : ℕ) (h : ℕ) → 0 < h → x < 2 ^ h → x / 2 < 2 ^ (h - 1)
halved x zero pos e = absurd (omega arith)
halved x (suc h) pos e = let z : suc h - 1 ≡ h = omega arith in rw z (omega arith)

content_fits : {h n : ℕ} (u : Buffer) (c : Content) (t : Turns) → Fits h n t → Fits h n (with_content u c t)
unfolding with_content
content_fits A c t f = record { buffers = f.buffers; opening = f.opening; place = f.place }
content_fits B c t f = record { buffers = f.buffers; opening = f.opening; place = f.place }

over_fits : {h n : ℕ} (u : Buffer) (t : Turns) → Fits h n t → Fits h n (frame_over u t)
unfolding frame_over with_latest
over_fits {h} {n} u t f =
    let g = content_fits u Complete t f in
    either (Fits h n) (is_landing (content u t)) (record { buffers = g.buffers; opening = g.opening; place = g.place }) f

landed_fits : {h n : ℕ} (t : Turns) → 0 < h → Fits h n t → Fits (h - 1) n (word_landed h t)
unfolding word_landed with_tags
landed_fits {h} {n} t pos f =
    let u = oldest_buffer t in
    let g = either (Fits h n) (oldest_opens t) (content_fits u Landing t f) f in
    let l : Fits (h - 1) n (with_tags (t.in_b / 2) (t.opening / 2) (cond (oldest_opens t) (with_content u Landing t) t))
    = record { buffers = halved _ h pos f.buffers; opening = halved _ h pos f.opening; place = g.place } in
    either (Fits (h - 1) n) (last_of_frame (h - 1) _) (over_fits u _ l) l

more_landed : {h n : ℕ} {t : Turns} → Fits h n t → Fits h (n + 1) t
more_landed f = record { buffers = f.buffers; opening = f.opening; place = omega (arith, f.place) }

pub oldest_at_most : (n place_a : ℕ) (t : Turns) → place_a ≤ n → t.place ≤ n → oldest_place place_a t ≤ n
unfolding oldest_place
oldest_at_most n place_a t a b = either (λ m. m ≤ n) (oldest_opens t) (omega arith) (go (oldest_buffer t))
  where
    go : (u : Buffer) → next_place place_a u t ≤ n
    go A = a
    go B = b

landed_within : (l : Ledger) (k : Kept) → Within l k → Within (landing_entry (Some 0) l) (keep k story.landed)
unfolding landing_entry keep landed_at with_place_b
landed_within l k w =
    by_cond (λ (x : Kept). Within (landing_entry (Some 0) l) x) (ltb 0 k.held) _ _
    (λ t. lands (oldest_buffer k.turns) _ (landed_fits k.turns (ltb-true 0 k.held t) w.turns) (oldest_at_most _ _ k.turns w.place w.turns.place))
    (λ t. record { turns = more_landed w.turns; place = omega (arith, w.place) })
  where
    lands : (u : Buffer) (p : ℕ) → Fits (k.held - 1) l.landed (word_landed k.held k.turns) → p ≤ l.landed
        → Within (landing_entry (Some 0) l) (landed_at u p k)
    lands A p f le = record { turns = more_landed f; place = omega arith }
    lands B p f le = let g = more_landed f in record { turns = record { buffers = g.buffers; opening = g.opening; place = omega arith }; place = omega (arith, w.place) }

-- The end of a frame.
ended_fits : {h n : ℕ} (held : ℕ) (t : Turns) → Fits h n t → Fits h n (frame_ended held t)
unfolding frame_ended with_turn
ended_fits {h} {n} held t f =
    let g = either (Fits h n) t.begun (either (Fits h n) (ltb 0 held) f (over_fits t.turn t f)) f in
    record { buffers = g.buffers; opening = g.opening; place = g.place }

-- What the ledger's entries say of a sample, its events do.
pub landing_within : (o : Option ℕ) (l : Ledger) (k : Kept) → Within l k → Within (landing_entry o l) (keeps k (landing_event o))
unfolding landing_entry keeps
landing_within None l k w = w
landing_within (Some byte) l k w = landed_within l k w

word_within : (p : Packed) (l : Ledger) (k : Kept) → Within l k → Within (word_entry p l) (keeps k (word_event p))
unfolding word_entry keeps keep word_lost
word_within nothing l k w = w
word_within (completed v) l k w = record { turns = held_fits k.turns w.turns; place = w.place }
word_within lost l k w = record { turns = discarded_fits _ (first_fits k.turns w.turns); place = w.place }

frame_within : (s : Capture) (v : ℕ) (l : Ledger) (k : Kept) → Within l k
    → Within (error_entry (capture_sample s v).error l) (keeps k (frame_event s (capture_sample s v)))
unfolding error_entry discarding_entry frame_event keeps keep
frame_within s v l k w = go (capture_sample s v).error (is_open s.frame && not (is_open (capture_sample s v).state.frame))
  where
    go : (b c : Bool) → Within (error_entry b l) (keeps k (cond b (story.discarded ∷ []) (cond c (story.ended ∷ []) [])))
    go true c = record { turns = discarded_fits k.turns w.turns; place = w.place }
    go false true = record { turns = ended_fits k.held k.turns w.turns; place = w.place }
    go false false = w

sample_within : (s : Capture) (v : ℕ) (o : Option ℕ) (p : Packed) (l : Ledger) (k : Kept) → Within l k
    → Within (enter l (sampled s v o p)) (keeps k (sample_events s v o p))
unfolding enter sample_entry
sample_within s v o p l k w =
    let w' : Within (sample_entry l) k = record { turns = w.turns; place = w.place } in
    rw (in_turn k s v o p) (frame_within s v _ _ (word_within p _ _ (landing_within o (sample_entry l) k w')))

-- A sample keeps device and turns.
pub two_step_keeps : (x : Two) (w : ℕ) → WellFormed x.device → TurnsOk x.device.core.output x.turns
    → WellFormed (two_step x w).after.device × TurnsOk (two_step x w).after.device.core.output (two_step x w).after.turns
unfolding two_step with_place
two_step_keeps x w f t =
    let d = x.device in
    let k = kept_of d x.turns in
    let p = oldest_place d.core.output.place x.turns in
    let y = placed p d in
    let b = part (oldest_buffer x.turns) x.buffers in
    let r = step y b w in
    let k' = keeps k (sample_events (capture_of d) w r.landing r.packed) in
    let h : Within (numbers d.core.output) k =
    record { turns = record { buffers = t.buffers; opening = t.opening; place = t.place }; place = f.output.place } in
    let h' : Within (numbers r.device.core.output) k' =
    subst (λ (l : Ledger). Within l k') (step_counted y b w) (sample_within (capture_of d) w r.landing r.packed (numbers d.core.output) k h) in
    let held = sym (two_step_held x w) in (
      placed_ok k'.place_a r.device h'.place (step_keeps y b w (placed_ok p d (oldest_at_most _ _ x.turns f.output.place t.place) f)),
      record {
        buffers = subst (λ n. k'.turns.in_b < 2 ^ n) held h'.turns.buffers;
        opening = subst (λ n. k'.turns.opening < 2 ^ n) held h'.turns.opening;
        place = h'.turns.place;
      },
    )

pub two_steps_keep : (x : Two) (ws : List ℕ) → WellFormed x.device → TurnsOk x.device.core.output x.turns
    → WellFormed (two_steps x ws).device × TurnsOk (two_steps x ws).device.core.output (two_steps x ws).turns
unfolding two_steps
two_steps_keep x [] f t = (f, t)
two_steps_keep x (w ∷ ws) f t = let (f', t') = two_step_keeps x w f t in two_steps_keep (two_step x w).after ws f' t'

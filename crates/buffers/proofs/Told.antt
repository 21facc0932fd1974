-- W2, over every list of events: a buffer is said to hold a complete frame, of so many words, just if the history says so (`complete_is_history`).
-- The idea: what is kept is at all times what the story's frames tell (`Tells`): the turn, the tags of the held words, and of each buffer what is known and the next place. Each event keeps
-- it so. Assumes nothing.
use mathlib.Core.Bool.{Bool, true, false, cond, not}
use mathlib.Core.List.{List, [], ◌∷◌, map}
use Rattle.std.specs.Prelude.{Option, None, Some}
use mathlib.Core.Path.{◌≡◌, refl, sym, ap, ◌∙◌, subst}
use Prim.Native.Nat.{ℕ, suc, ◌+◌, ◌-◌, ◌/◌, ◌^◌}
use native.Mathlib.Omega.{arith}
use lib.Dec.{eqb, ltb}
use lib.ListN.{length, length-append}
use borrow.Author.Tests.{lt-ltb}
use Rattle.bits.specs.Bits.{bit}
use Rattle.buffers.specs.declared.Buffer.{Buffer}
use Rattle.buffers.specs.declared.Buffer.TheVariants.{A, B}
use Rattle.buffers.specs.declared.Content.{Content}
use Rattle.buffers.specs.declared.Content.TheVariants.{Nothing, Landing, Complete}
use Rattle.buffers.specs.declared.Turns.{Turns}
use Rattle.buffers.specs.Turns as rules
use Rattle.buffers.specs.Turns.{other, is_b, fresh_turns, with_turn, with_tags, with_place_b, with_latest, with_content, content, first_word, word_held, word_lost, oldest_buffer, oldest_opens, next_place, oldest_place, frame_over, last_of_frame, word_landed, frame_ended, is_complete}
use Rattle.buffers.specs.Story.{Event, held, lost, landed, ended, discarded, rearmed, Tale, any_waiting, last_buffer, word_of, landing_of, ending_of, closed_otherwise, armed_anew, tell, story, same_buffer, frame_in, complete_in, word_count}
use Rattle.buffers.specs.Kept.{Kept, start, landed_at, keep, keeps, place_in, complete_of}
use Rattle.buffers.proofs.Frames.{any_open, Sound, eldest, none_lands, open_landing, last_landing, sound_landing, sound_word, open_word, last_word, last_end, sound_end, open_end, open_closed, waiting_closed, last_closed, sound_closed, sound_lost, open_armed, last_armed, sound_armed}
use Rattle.buffers.proofs.Tags.{Tag, in_b, opening, weigh, weigh_append, weigh_rest, weigh_first, tag_of, queue, queue_none, queue_word, queue_landing, next_opens, over, queue_over, queue_end, queue_armed}
use Rattle.buffers.proofs.Sights.{Sight, sight_in, ended_content, sight_word, sight_closed, sight_armed, ended_sight, end_none, sight_end_held, sight_end_over, landed_content, landed_sight, sight_landing, read_off}

-- What is kept of a buffer.
abbrev seen : Buffer → Kept → Sight
seen u k = record { content = content u k.turns; place = place_in u k }

pub record Tells (k : Kept) (fs : List Tale) : Type 0 where
  pub last : k.turns.turn ≡ last_buffer fs
  pub running : k.turns.begun ≡ any_open fs
  pub count : k.held ≡ length (queue fs)
  pub buffers : k.turns.in_b ≡ weigh in_b (queue fs)
  pub openings : k.turns.opening ≡ weigh opening (queue fs)
  pub in_a : seen A k ≡ sight_in A fs
  pub in_b : seen B k ≡ sight_in B fs
  pub sound : Sound fs

-- What the frames tell, but for the latest complete one; with these tags of the held words.
abbrev pub told_with : List Tag → Buffer → List Tale → Kept
told_with ts l fs =
    record {
      turns = record {
        place = (sight_in B fs).place;
        in_b = weigh in_b ts;
        opening = weigh opening ts;
        turn = last_buffer fs;
        begun = any_open fs;
        a = (sight_in A fs).content;
        b = (sight_in B fs).content;
        latest = l;
      };
      place_a = (sight_in A fs).place;
      held = length ts;
    }

abbrev pub told : Buffer → List Tale → Kept
told l fs = told_with (queue fs) l fs

pub is_told : (k : Kept) (fs : List Tale) → Tells k fs → told k.turns.latest fs ≡ k
is_told k fs t =
    sym
    (λ i. record {
      turns = record {
        place = (t.in_b i).place;
        in_b = t.buffers i;
        opening = t.openings i;
        turn = t.last i;
        begun = t.running i;
        a = (t.in_a i).content;
        b = (t.in_b i).content;
        latest = k.turns.latest;
      };
      place_a = (t.in_a i).place;
      held = t.count i;
    })

tells_told : (l : Buffer) (fs : List Tale) → Sound fs → Tells (told l fs) fs
tells_told l fs s = record { last = refl; running = refl; count = refl; buffers = refl; openings = refl; in_a = refl; in_b = refl; sound = s }

-- The first word of a frame switches.
first_of_frame : (p b o : ℕ) (w : Buffer) (n : Bool) (c d : Content) (l : Buffer)
    → first_word (record { place = p; in_b = b; opening = o; turn = w; begun = n; a = c; b = d; latest = l })
    ≡ record { place = p; in_b = b; opening = o; turn = cond n w (other w); begun = true; a = c; b = d; latest = l }
unfolding first_word with_turn
first_of_frame p b o w true c d l = refl
first_of_frame p b o w false c d l = refl

switched : (t : Turns) → first_word t ≡ with_turn (cond t.begun t.turn (other t.turn)) true t
unfolding with_turn
switched t = first_of_frame t.place t.in_b t.opening t.turn t.begun t.a t.b t.latest

-- A word that is held.
otherwise : (b : Bool) (x y : ℕ) → cond b x y ≡ cond (not b) y x
otherwise true x y = refl
otherwise false x y = refl

kept_held : (l : Buffer) (v : ℕ) (fs : List Tale) → Sound fs → Tells (keep (told l fs) (held v)) (word_of (v ∷ []) fs)
unfolding keep word_held with_tags with_turn
kept_held l v fs s =
    let k = told l fs in
    let q = queue fs in
    let t = k.turns in
    let h = length (queue fs) in
    subst
    (λ (x : Turns). Tells (record { turns = with_tags (cond (is_b x.turn) (x.in_b + 2 ^ h) x.in_b) (cond t.begun x.opening (x.opening + 2 ^ h)) x; place_a = k.place_a; held = h + 1 }) (word_of (v ∷ []) fs))
    (sym (switched t))
    (record {
      last = sym (last_word (v ∷ []) fs);
      running = sym (open_word (v ∷ []) fs);
      count = rw (queue_word v fs s, length-append q);
      buffers = rw (queue_word v fs s, weigh_append in_b q, last_word (v ∷ []) fs);
      openings = rw (queue_word v fs s, weigh_append opening q) (otherwise (any_open fs) _ _);
      in_a = sym (sight_word A (v ∷ []) fs);
      in_b = sym (sight_word B (v ∷ []) fs);
      sound = sound_word v fs s;
    })

-- The held words are discarded; a word that is lost switches first.
kept_discarded : (l : Buffer) (fs : List Tale) → Sound fs → Tells (keep (told l fs) discarded) (map closed_otherwise fs)
unfolding keep rules.discarded with_tags with_turn weigh
kept_discarded l fs s =
    let none_held = queue_none (map closed_otherwise fs) (waiting_closed fs) in
    record {
      last = sym (last_closed fs);
      running = sym (open_closed fs);
      count = rw none_held;
      buffers = rw none_held;
      openings = rw none_held;
      in_a = sym (sight_closed A fs);
      in_b = sym (sight_closed B fs);
      sound = sound_closed fs s;
    }

kept_lost : (l : Buffer) (fs : List Tale) → Sound fs → Tells (keep (told l fs) lost) (map closed_otherwise (word_of [] fs))
unfolding keep word_lost rules.discarded with_tags with_turn weigh
kept_lost l fs s =
    let none_held = queue_none (map closed_otherwise (word_of [] fs)) (waiting_closed (word_of [] fs)) in
    let k = told l fs in
    subst (λ (x : Turns). Tells (record { turns = rules.discarded x; place_a = k.place_a; held = 0 }) (map closed_otherwise (word_of [] fs)))
    (sym (switched k.turns))
    (record {
      last = sym (last_closed (word_of [] fs) ∙ last_word [] fs);
      running = sym (open_closed (word_of [] fs));
      count = rw none_held;
      buffers = rw none_held;
      openings = rw none_held;
      in_a = sym (sight_closed A (word_of [] fs) ∙ sight_word A [] fs);
      in_b = sym (sight_closed B (word_of [] fs) ∙ sight_word B [] fs);
      sound = sound_lost fs s;
    })

-- Re-arming.
kept_rearmed : (l : Buffer) (fs : List Tale) → Sound fs → Tells (keep (told l fs) rearmed) (map armed_anew fs)
unfolding keep rules.rearmed with_content with_place_b
kept_rearmed l fs s =
    record {
      last = sym (last_armed fs);
      running = sym (open_armed fs);
      count = rw (queue_armed fs);
      buffers = rw (queue_armed fs);
      openings = rw (queue_armed fs);
      in_a = sym (sight_armed A fs);
      in_b = sym (sight_armed B fs);
      sound = sound_armed fs s;
    }

-- Another content of a buffer; and that of a frame that is over.
abbrev placed : Buffer → Content → Turns → Turns
placed w c t =
    record {
      place = t.place;
      in_b = t.in_b;
      opening = t.opening;
      turn = t.turn;
      begun = t.begun;
      a = cond (is_b w) t.a c;
      b = cond (is_b w) c t.b;
      latest = t.latest;
    }

over_of : (p b o : ℕ) (v : Buffer) (n : Bool) (c d : Content) (l w : Buffer)
    → let t : Turns = record { place = p; in_b = b; opening = o; turn = v; begun = n; a = c; b = d; latest = l } in
    frame_over w t ≡ with_latest (frame_over w t).latest (placed w (ended_content (content w t)) t)
unfolding frame_over with_latest with_content
over_of p b o v n Nothing d l A = refl
over_of p b o v n Landing d l A = refl
over_of p b o v n Complete d l A = refl
over_of p b o v n c Nothing l B = refl
over_of p b o v n c Landing l B = refl
over_of p b o v n c Complete l B = refl

over_is : (w : Buffer) (t : Turns) → frame_over w t ≡ with_latest (frame_over w t).latest (placed w (ended_content (content w t)) t)
over_is w t = over_of t.place t.in_b t.opening t.turn t.begun t.a t.b t.latest w

-- The end by rule 4.
pub held_waiting : (fs : List Tale) (b : Bool) → any_waiting fs ≡ b → ltb 0 (length (queue fs)) ≡ b
held_waiting fs true w = rw (queue_landing fs w) (lt-ltb 0 (suc (length (queue (landing_of fs)))) (omega arith))
held_waiting fs false w = rw (queue_none fs w)

side_a : (w : Buffer) (t : Turns) (p : ℕ)
    → let x : Sight = record { content = t.a; place = p } in
    ◌≡◌ {A = Sight} (record { content = cond (is_b w) t.a (ended_content (content w t)); place = p }) (cond (same_buffer A w) (ended_sight x) x)
side_a A t p = refl
side_a B t p = refl

side_b : (w : Buffer) (t : Turns) (p : ℕ)
    → let y : Sight = record { content = t.b; place = p } in
    ◌≡◌ {A = Sight} (record { content = cond (is_b w) (ended_content (content w t)) t.b; place = p }) (cond (same_buffer B w) (ended_sight y) y)
side_b A t p = refl
side_b B t p = refl

pub choice : (b c : Bool) {b' c' : Bool} (x y : Turns) → b ≡ b' → c ≡ c' → cond b (cond c x y) x ≡ cond b' (cond c' x y) x
choice b c x y e f = rw (e, f)

kept_ended : (l : Buffer) (fs : List Tale) → Sound fs → Tells (keep (told l fs) ended) (ending_of fs)
unfolding keep frame_ended with_turn with_latest
kept_ended l fs s = go (any_open fs) (any_waiting fs) refl refl
  where
    t : Turns
    t = (told l fs).turns

    with_turns : Turns → Kept
    with_turns x = record { turns = with_turn (last_buffer fs) false x; place_a = (sight_in A fs).place; held = length (queue fs) }

    ended_as : (x : Turns) → cond (any_open fs) (cond (ltb 0 (length (queue fs))) t (frame_over (last_buffer fs) t)) t ≡ x → x.in_b ≡ t.in_b → x.opening ≡ t.opening
        → seen A (with_turns x) ≡ sight_in A (ending_of fs) → seen B (with_turns x) ≡ sight_in B (ending_of fs) → Tells (keep (told l fs) ended) (ending_of fs)
    ended_as x e b o p q =
        subst (λ (x : Turns). Tells (with_turns x) (ending_of fs)) {x = x} {y = cond (any_open fs) (cond (ltb 0 (length (queue fs))) t (frame_over (last_buffer fs) t)) t} (sym e)
        (record {
          last = sym (last_end fs);
          running = sym (open_end fs);
          count = rw (queue_end fs);
          buffers = rw (queue_end fs) b;
          openings = rw (queue_end fs) o;
          in_a = p;
          in_b = q;
          sound = sound_end fs s;
        })

    go : (b c : Bool) → any_open fs ≡ b → any_waiting fs ≡ c → Tells (keep (told l fs) ended) (ending_of fs)
    go true true e w =
        ended_as t (choice (any_open fs) _ t _ e (held_waiting fs true w)) refl refl (sym (sight_end_held A fs s w)) (sym (sight_end_held B fs s w))
    go true false e w =
        let over = over_is (last_buffer fs) t in
        let x = frame_over (last_buffer fs) t in
        ended_as _ (choice (any_open fs) _ t x e (held_waiting fs false w) ∙ over) refl refl
        (side_a (last_buffer fs) t (sight_in A fs).place ∙ sym (sight_end_over A fs s e w))
        (side_b (last_buffer fs) t (sight_in B fs).place ∙ sym (sight_end_over B fs s e w))
    go false c e w =
        ended_as t (choice (any_open fs) _ t _ e (held_waiting fs c w)) refl refl (ap (sight_in A) (sym (end_none fs e))) (ap (sight_in B) (sym (end_none fs e)))

-- The oldest held word lands.
abbrev last_content : Bool → Content → Content
last_content last c = cond last (ended_content c) c

landed_turns : (h : ℕ) (t : Turns) (u : Buffer) (o v : Bool) → oldest_buffer t ≡ u → oldest_opens t ≡ o → cond (ltb 0 (h - 1)) (bit 0 (t.opening / 2)) (not t.begun) ≡ v
    → word_landed h t ≡ with_latest (word_landed h t).latest (with_tags (t.in_b / 2) (t.opening / 2) (placed u (last_content v (landed_content o (content u t))) t))
unfolding word_landed last_of_frame with_tags with_content with_latest
landed_turns h t A true true b o v = rw (b, o, v) (over_is A (with_tags (t.in_b / 2) (t.opening / 2) (with_content A Landing t)))
landed_turns h t A true false b o v = rw (b, o, v)
landed_turns h t A false true b o v = rw (b, o, v) (over_is A (with_tags (t.in_b / 2) (t.opening / 2) t))
landed_turns h t A false false b o v = rw (b, o, v)
landed_turns h t B true true b o v = rw (b, o, v) (over_is B (with_tags (t.in_b / 2) (t.opening / 2) (with_content B Landing t)))
landed_turns h t B true false b o v = rw (b, o, v)
landed_turns h t B false true b o v = rw (b, o, v) (over_is B (with_tags (t.in_b / 2) (t.opening / 2) t))
landed_turns h t B false false b o v = rw (b, o, v)

pub last_is : (t : Tag) (q : List Tag) (n : Bool) → cond (ltb 0 (suc (length q) - 1)) (bit 0 (weigh opening (t ∷ q) / 2)) (not n) ≡ next_opens q n
last_is t [] n = refl
last_is t (s ∷ q) n = rw (lt-ltb 0 (suc (suc (length q)) - 1) (omega arith), weigh_rest opening t (s ∷ q)) (weigh_first opening s q)

pub oldest_is : (t : Turns) (u : Buffer) → bit 0 t.in_b ≡ is_b u → oldest_buffer t ≡ u
unfolding oldest_buffer
oldest_is t A e = rw e
oldest_is t B e = rw e

abbrev landed_as : Buffer → ℕ → Turns → Kept → Kept
landed_as u p x k =
    record {
      turns = record {
        place = cond (is_b u) (p + 1) x.place;
        in_b = x.in_b;
        opening = x.opening;
        turn = x.turn;
        begun = x.begun;
        a = x.a;
        b = x.b;
        latest = x.latest;
      };
      place_a = cond (is_b u) k.place_a (p + 1);
      held = k.held - 1;
    }

as_landed : (u : Buffer) (p : ℕ) (k : Kept) → landed_at u p k ≡ landed_as u p (word_landed k.held k.turns) k
unfolding landed_at with_place_b
as_landed A p k = refl
as_landed B p k = refl

lands_a : (u : Buffer) (o v : Bool) (k : Kept)
    → ◌≡◌ {A = Sight}
    (record {
      content = cond (is_b u) k.turns.a (last_content v (landed_content o (content u k.turns)));
      place = cond (is_b u) k.place_a (cond o 0 (next_place k.place_a u k.turns) + 1);
    })
    (cond (same_buffer A u) (landed_sight o v (seen A k)) (seen A k))
lands_a A o v k = refl
lands_a B o v k = refl

lands_b : (u : Buffer) (o v : Bool) (k : Kept)
    → ◌≡◌ {A = Sight}
    (record {
      content = cond (is_b u) (last_content v (landed_content o (content u k.turns))) k.turns.b;
      place = cond (is_b u) (cond o 0 (next_place k.place_a u k.turns) + 1) k.turns.place;
    })
    (cond (same_buffer B u) (landed_sight o v (seen B k)) (seen B k))
lands_b A o v k = refl
lands_b B o v k = refl

lands_as : (k : Kept) (u : Buffer) (o v : Bool) → ltb 0 k.held ≡ true → oldest_buffer k.turns ≡ u → oldest_opens k.turns ≡ o
    → cond (ltb 0 (k.held - 1)) (bit 0 (k.turns.opening / 2)) (not k.turns.begun) ≡ v
    → let t = k.turns in
    let x = with_tags (t.in_b / 2) (t.opening / 2) (placed u (last_content v (landed_content o (content u t))) t) in
    keep k landed ≡ landed_as u (cond o 0 (next_place k.place_a u t)) (with_latest (word_landed k.held t).latest x) k
unfolding keep oldest_place
lands_as k u o v some_held b p e =
    rw (some_held, b, p) (as_landed u _ k)
    ∙ ap (λ (x : Turns). landed_as u (cond o 0 (next_place k.place_a u k.turns)) x k) (landed_turns k.held k.turns u o v b p e)

one_less : (n : ℕ) → suc n - 1 ≡ n
one_less n = omega arith

kept_landed : (l : Buffer) (fs : List Tale) → Sound fs → Tells (keep (told l fs) landed) (landing_of fs)
unfolding keep with_latest with_tags
kept_landed l fs s = go (any_waiting fs) refl
  where
    go : (b : Bool) → any_waiting fs ≡ b → Tells (keep (told l fs) landed) (landing_of fs)
    go true w =
        let g = eldest fs in
        let q = queue (landing_of fs) in
        let k = told_with (tag_of g ∷ q) l fs in
        let u = g.buffer in
        let o = eqb g.landed 0 in
        let is = lands_as k u o (over g) (lt-ltb 0 (suc (length q)) (omega arith)) (oldest_is k.turns u (weigh_first in_b (tag_of g) q)) (unfold oldest_opens in weigh_first opening (tag_of g) q) (last_is (tag_of g) q (any_open fs) ∙ queue_over fs s w) in
        subst (λ (ts : List Tag). Tells (keep (told_with ts l fs) landed) (landing_of fs)) {x = tag_of g ∷ q} {y = queue fs} (sym (queue_landing fs w))
        (subst (λ (x : Kept). Tells x (landing_of fs)) (sym is)
        (record {
          last = sym (last_landing fs);
          running = sym (open_landing fs);
          count = one_less (length q);
          buffers = weigh_rest in_b (tag_of g) q;
          openings = weigh_rest opening (tag_of g) q;
          in_a = lands_a u o (over g) k ∙ sym (sight_landing A fs s w);
          in_b = lands_b u o (over g) k ∙ sym (sight_landing B fs s w);
          sound = sound_landing fs s;
        }))
    go false w = rw (none_lands fs w, held_waiting fs false w) (tells_told l fs s)

-- Every event, and every list of events.
kept_told : (l : Buffer) (fs : List Tale) (e : Event) → Sound fs → Tells (keep (told l fs) e) (tell fs e)
unfolding tell
kept_told l fs (held v) s = kept_held l v fs s
kept_told l fs lost s = kept_lost l fs s
kept_told l fs landed s = kept_landed l fs s
kept_told l fs ended s = kept_ended l fs s
kept_told l fs discarded s = kept_discarded l fs s
kept_told l fs rearmed s = kept_rearmed l fs s

pub kept : (k : Kept) (fs : List Tale) (e : Event) → Tells k fs → Tells (keep k e) (tell fs e)
kept k fs e t = subst (λ (x : Kept). Tells (keep x e) (tell fs e)) (is_told k fs t) (kept_told k.turns.latest fs e t.sound)

pub all_kept : (k : Kept) (fs : List Tale) (es : List Event) → Tells k fs → Tells (keeps k es) (story fs es)
unfolding keeps story
all_kept k fs [] t = t
all_kept k fs (e ∷ es) t = all_kept (keep k e) (tell fs e) es (kept k fs e t)

pub tells_start : Tells start []
unfolding start fresh_turns queue weigh frame_in
tells_start = tells_told A [] tt

-- A buffer is said to hold a complete frame, of so many words, just if the history says so.
pub complete_is_history : (es : List Event) (u : Buffer) → complete_of u (keeps start es) ≡ word_count (complete_in u (story [] es))
unfolding complete_of complete_in
complete_is_history es u = by u ∙ read_off u (story [] es) t.sound
  where
    t : Tells (keeps start es) (story [] es)
    t = all_kept start [] es tells_start

    words : Sight → Option ℕ
    words x = cond (is_complete x.content) (Some x.place) None

    by : (u : Buffer) → words (seen u (keeps start es)) ≡ words (sight_in u (story [] es))
    by A = ap words t.in_a
    by B = ap words t.in_b

-- One word in A; then two in B, of which the last lands after the end; a re-arming between two words; words discarded; a word still held at the end; a third frame, in A again.
pub cases : (complete_of A (keeps start (held 7 ∷ landed ∷ ended ∷ [])) ≡ Some 1)
    × (complete_of A (keeps start (held 7 ∷ ended ∷ held 7 ∷ landed ∷ landed ∷ held 7 ∷ ended ∷ landed ∷ [])) ≡ Some 1)
    × (complete_of B (keeps start (held 7 ∷ ended ∷ held 7 ∷ landed ∷ landed ∷ held 7 ∷ ended ∷ landed ∷ [])) ≡ Some 2)
    × (complete_of A (keeps start (held 7 ∷ held 7 ∷ landed ∷ rearmed ∷ landed ∷ ended ∷ [])) ≡ None)
    × (complete_of A (keeps start (held 7 ∷ held 7 ∷ landed ∷ discarded ∷ ended ∷ [])) ≡ None)
    × (complete_of A (keeps start (held 7 ∷ held 7 ∷ landed ∷ ended ∷ [])) ≡ None)
    × (complete_of A (keeps start (held 7 ∷ landed ∷ ended ∷ held 7 ∷ landed ∷ ended ∷ held 7 ∷ landed ∷ ended ∷ [])) ≡ Some 1)
unfolding start fresh_turns keeps keep complete_of frame_ended with_turn landed_at oldest_buffer word_held with_tags first_word word_landed last_of_frame oldest_opens with_content frame_over with_latest oldest_place with_place_b rules.rearmed rules.discarded
cases = (refl, refl, refl, refl, refl, refl, refl)

-- W2, over every list of events: the latest complete frame is the one that the history says (`latest_is_history`).
-- The idea: words land in order, so that the frame that becomes complete is at that time the newest of which a word has landed. Hence, whenever that one is complete, `latest` is its buffer
-- (`Leads`); and if it is not, only the frame in the other buffer can be. Assumes nothing.
use mathlib.Core.Bool.{Bool, true, false, cond, not, ◌&&◌, ◌||◌, true≢false, false≢true}
use mathlib.Core.List.{List, [], ◌∷◌, map}
use Rattle.std.specs.Prelude.{Option, None, Some}
use mathlib.Core.Path.{◌≡◌, refl, sym, ap, ◌∙◌, subst}
use Prim.Native.Nat.{ℕ, suc, ◌+◌, ◌-◌, ◌/◌, ◌≤◌}
use native.Mathlib.Omega.{arith}
use lib.Dec.{eqb, ltb}
use lib.ListN.{length}
use borrow.Author.Tests.{ltb-true, ltb-false, eqb-true, eqb-false, lt-ltb, le-ltb, ne_eqb}
use Rattle.bits.specs.Bits.{bit}
use Rattle.bits.proofs.Booleans.{and_true, either, and_zero}
use Rattle.buffers.specs.declared.Buffer.{Buffer}
use Rattle.buffers.specs.declared.Buffer.TheVariants.{A, B}
use Rattle.buffers.specs.declared.Content.{Content}
use Rattle.buffers.specs.declared.Content.TheVariants.{Nothing, Landing, Complete}
use Rattle.buffers.specs.declared.Turns.{Turns}
use Rattle.buffers.specs.Turns as rules
use Rattle.buffers.specs.Turns.{other, is_b, fresh_turns, with_turn, with_tags, with_place_b, with_latest, with_content, content, first_word, word_held, word_lost, oldest_buffer, oldest_opens, oldest_place, is_landing, frame_over, last_of_frame, word_landed, frame_ended, is_complete, latest_complete}
use Rattle.buffers.specs.Story.{Event, held, lost, landed, ended, discarded, rearmed, Tale, completed, waiting, any_waiting, last_buffer, running, word_of, landing_of, one_landed, ending_of, closed_otherwise, armed_anew, tell, story, same_buffer, frame_in, complete, if_complete, complete_in, latest_in, which}
use Rattle.buffers.specs.Kept.{Kept, start, landed_at, keep, keeps}
use Rattle.buffers.proofs.Frames.{any_open, Counts, Sound, eldest, eldest_waits, eldest_counts, none_lands}
use Rattle.buffers.proofs.Tags.{Tag, in_b, opening, weigh_first, tag_of, queue, queue_landing, over, is_open, queue_over}
use Rattle.buffers.proofs.Sights.{Sight, state, sight, sight_of, sight_in, skip, same_same, same_is, frame_eldest, ended_content, sight_word, sight_closed, sight_armed, end_none, open_landed, sight_end_held, sight_end_over, landed_content, sight_landing}
use Rattle.buffers.proofs.Told.{Tells, told_with, told, is_told, held_waiting, choice, last_is, oldest_is, kept, tells_start}

-- The buffer of the newest frame of which a word has landed.
unfoldable newest : List Tale → Buffer
newest [] = A
newest (f ∷ fs) = cond (ltb 0 f.landed) f.buffer (newest fs)

newest_word : (vs : List ℕ) (fs : List Tale) → newest (word_of vs fs) ≡ newest fs
unfolding newest word_of
newest_word vs [] = refl
newest_word vs (f ∷ fs) = either (λ (l : List Tale). newest l ≡ newest (f ∷ fs)) (running f) refl refl

newest_closed : (fs : List Tale) → newest (map closed_otherwise fs) ≡ newest fs
unfolding newest
newest_closed [] = refl
newest_closed (f ∷ fs) = ap (λ u. cond (ltb 0 f.landed) f.buffer u) (newest_closed fs)

newest_end : (fs : List Tale) → newest (ending_of fs) ≡ newest fs
unfolding newest ending_of
newest_end [] = refl
newest_end (f ∷ fs) = either (λ (l : List Tale). newest l ≡ newest (f ∷ fs)) (running f) refl refl

-- The open frame, if none waits; and the oldest that waits, when a word of it has landed.
newest_open : (fs : List Tale) → Sound fs → any_open fs ≡ true → any_waiting fs ≡ false → newest fs ≡ last_buffer fs
unfolding newest
newest_open [] s e w = absurd (false≢true e)
newest_open (f ∷ fs) s e w = let c = s.0.filled (is_open f e).1 in rw (lt-ltb 0 f.landed (omega (arith, open_landed f fs s e w)))

newest_landing : (fs : List Tale) → Sound fs → any_waiting fs ≡ true → newest (landing_of fs) ≡ (eldest fs).buffer
unfolding newest landing_of any_waiting eldest
newest_landing [] s e = absurd (false≢true e)
newest_landing (f ∷ fs) s e = go (any_waiting fs) (waiting f) refl (newest_landing fs s.3) e
  where
    go : (b c : Bool) → any_waiting fs ≡ b → (any_waiting fs ≡ true → newest (landing_of fs) ≡ (eldest fs).buffer) → c || b ≡ true
        → newest (cond b (f ∷ landing_of fs) (cond c (one_landed f ∷ fs) (f ∷ fs))) ≡ (cond b (eldest fs) f).buffer
    go true c w rest e = rw (le-ltb 0 f.landed (omega (arith, s.1 w))) (rest w)
    go false true w rest e = rw (lt-ltb 0 (f.landed + 1) (omega arith))
    go false false w rest e = absurd (false≢true e)

-- What is known to be complete is complete.
complete_state : (n l m : ℕ) (e : Bool) → n ≤ l → l ≤ m → is_complete (state n l m e) ≡ e && eqb n m
complete_state n l m e le le' = go (eqb n l) refl
  where
    each : (b : Bool) → is_complete (cond b Complete Landing) ≡ b
    each true = refl
    each false = refl

    go : (b : Bool) → eqb n l ≡ b → is_complete (state n l m e) ≡ e && eqb n m
    go true q = rw (q, eqb-true n l q) (each (e && eqb l m))
    go false q = rw (q, ne_eqb n m (λ z. eqb-false n l q (omega arith)), and_zero e)

complete_sight : (f : Tale) → Counts f → is_complete (sight f).content ≡ complete f
complete_sight f c = complete_state f.since f.landed (completed f) f.ended c.recent c.part

abbrev knows : Buffer → List Tale → Bool
knows u fs = is_complete (sight_in u fs).content

buffer_reads : (u : Buffer) (fs : List Tale) → Sound fs → which (complete_in u fs) ≡ cond (knows u fs) (Some u) None
unfolding complete_in frame_in if_complete which
buffer_reads u [] s = refl
buffer_reads u (f ∷ fs) s = go (same_buffer u f.buffer) (ltb 0 f.landed) refl (buffer_reads u fs s.3)
  where
    known : (b : Bool) → which (cond b (Some f) None) ≡ cond b (Some f.buffer) None
    known true = refl
    known false = refl

    go : (b c : Bool) → same_buffer u f.buffer ≡ b → which (if_complete (frame_in u fs)) ≡ cond (knows u fs) (Some u) None
        → let o = cond (b && c) (Some f) (frame_in u fs) in
        which (if_complete o) ≡ cond (is_complete (sight_of o).content) (Some u) None
    go true true e rest = rw (complete_sight f s.0, same_is u f.buffer e) (known (complete f))
    go true false e rest = rest
    go false c e rest = rest

-- The history's answer, by what is known of the buffer of the newest, and of the other.
abbrev chosen : Buffer → Bool → Bool → Option Buffer
chosen u one else = cond one (Some u) (cond else (Some (other u)) None)

latest_reads : (fs : List Tale) → Sound fs → which (latest_in fs) ≡ chosen (newest fs) (knows (newest fs) fs) (knows (other (newest fs)) fs)
unfolding newest latest_in frame_in which
latest_reads [] s = refl
latest_reads (f ∷ fs) s = go (ltb 0 f.landed) refl (latest_reads fs s.3)
  where
    known : (b : Bool) → which (cond b (Some f) (complete_in (other f.buffer) fs)) ≡ cond b (Some f.buffer) (which (complete_in (other f.buffer) fs))
    known true = unfold which in refl
    known false = refl

    not_other : (u : Buffer) → same_buffer (other u) u ≡ false
    not_other A = refl
    not_other B = refl

    go : (b : Bool) → ltb 0 f.landed ≡ b → which (latest_in fs) ≡ chosen (newest fs) (knows (newest fs) fs) (knows (other (newest fs)) fs)
        → let u = cond b f.buffer (newest fs) in
        which (cond b (cond (complete f) (Some f) (complete_in (other f.buffer) fs)) (latest_in fs))
        ≡ chosen u (knows u (f ∷ fs)) (knows (other u) (f ∷ fs))
    go true e rest =
        rw (e, same_same f.buffer, not_other f.buffer, complete_sight f s.0)
        (known (complete f) ∙ ap (λ (o : Option Buffer). cond (complete f) (Some f.buffer) o) (buffer_reads (other f.buffer) fs s.3))
    go false e rest =
        let z : f.landed ≡ 0 = omega (arith, ltb-false 0 f.landed e) in
        rw (skip (newest fs) f fs z, skip (other (newest fs)) f fs z) rest

-- Where the newest is complete, its buffer is kept as the latest. What is answered is then what the history says.
abbrev Leads : Buffer → List Tale → Type 0
Leads l fs = knows (newest fs) fs ≡ true → l ≡ newest fs

chosen_by : (l n : Buffer) (is : Buffer → Bool) → (is n ≡ true → l ≡ n) → chosen l (is l) (is (other l)) ≡ chosen n (is n) (is (other n))
chosen_by A A is lead = refl
chosen_by A B is lead = go (is A) (is B) lead
  where
    go : (a b : Bool) → (b ≡ true → A ≡ B) → chosen A a b ≡ chosen B b a
    go a true lead = absurd (false≢true (ap is_b (lead refl)))
    go a false lead = refl
chosen_by B A is lead = go (is A) (is B) lead
  where
    go : (a b : Bool) → (a ≡ true → B ≡ A) → chosen B b a ≡ chosen A a b
    go true b lead = absurd (true≢false (ap is_b (lead refl)))
    go false b lead = refl
chosen_by B B is lead = refl

told_content : (u : Buffer) (ts : List Tag) (l : Buffer) (fs : List Tale) → content u (told_with ts l fs).turns ≡ (sight_in u fs).content
told_content A ts l fs = refl
told_content B ts l fs = refl

latest_told : (l : Buffer) (fs : List Tale) → Sound fs → Leads l fs → latest_complete (told l fs).turns ≡ which (latest_in fs)
unfolding latest_complete
latest_told l fs s lead =
    rw (told_content l (queue fs) l fs, told_content (other l) (queue fs) l fs) (chosen_by l (newest fs) (λ u. knows u fs) lead) ∙ sym (latest_reads fs s)

-- What changes neither what is known nor the newest.
leads_on : (l : Buffer) (fs gs : List Tale) → newest gs ≡ newest fs → ((u : Buffer) → sight_in u gs ≡ sight_in u fs) → Leads l fs → Leads l gs
leads_on l fs gs n q lead = λ e. lead (ap (λ (x : Sight). is_complete x.content) (sym (q (newest fs))) ∙ ap (λ u. knows u gs) (sym n) ∙ e) ∙ sym n

first_latest : (t : Turns) → (first_word t).latest ≡ t.latest
unfolding first_word with_turn
first_latest t = either (λ (x : Turns). x.latest ≡ t.latest) t.begun refl refl

leads_held : (l : Buffer) (v : ℕ) (fs : List Tale) → Leads l fs → Leads (keep (told l fs) (held v)).turns.latest (word_of (v ∷ []) fs)
unfolding keep word_held with_tags
leads_held l v fs lead = rw (first_latest (told l fs).turns) (leads_on l fs (word_of (v ∷ []) fs) (newest_word (v ∷ []) fs) (λ u. sight_word u (v ∷ []) fs) lead)

leads_closed : (l : Buffer) (fs : List Tale) → Leads l fs → Leads l (map closed_otherwise fs)
leads_closed l fs lead = leads_on l fs (map closed_otherwise fs) (newest_closed fs) (λ u. sight_closed u fs) lead

leads_lost : (l : Buffer) (fs : List Tale) → Leads l fs → Leads (keep (told l fs) lost).turns.latest (map closed_otherwise (word_of [] fs))
unfolding keep word_lost rules.discarded with_tags with_turn
leads_lost l fs lead =
    rw (first_latest (told l fs).turns)
    (leads_closed l (word_of [] fs) (leads_on l fs (word_of [] fs) (newest_word [] fs) (λ u. sight_word u [] fs) lead))

leads_discarded : (l : Buffer) (fs : List Tale) → Leads l fs → Leads (keep (told l fs) discarded).turns.latest (map closed_otherwise fs)
unfolding keep rules.discarded with_tags with_turn
leads_discarded l fs lead = leads_closed l fs lead

-- Re-arming: nothing is complete.
leads_rearmed : (l : Buffer) (fs : List Tale) → Leads l (map armed_anew fs)
leads_rearmed l fs = λ e. absurd (false≢true (ap (λ (x : Sight). is_complete x.content) (sym (sight_armed (newest (map armed_anew fs)) fs)) ∙ e))

-- A frame that is over: it becomes complete, and the latest, or was.
over_latest : (w : Buffer) (t : Turns) → (frame_over w t).latest ≡ cond (is_landing (content w t)) w t.latest
unfolding frame_over with_latest
over_latest w t = go (is_landing (content w t))
  where
    go : (b : Bool) → (cond b (with_latest w (with_content w Complete t)) t).latest ≡ cond b w t.latest
    go true = refl
    go false = refl

leads_over : (last : Bool) (c : Content) (l w : Buffer) → (is_complete c ≡ true → l ≡ w) → is_complete (cond last (ended_content c) c) ≡ true
    → cond last (cond (is_landing c) w l) l ≡ w
leads_over true Nothing l w lead e = absurd (false≢true e)
leads_over true Landing l w lead e = refl
leads_over true Complete l w lead e = lead refl
leads_over false c l w lead e = lead e

-- The end by rule 4.
leads_ended : (l : Buffer) (fs : List Tale) → Sound fs → Leads l fs → Leads (keep (told l fs) ended).turns.latest (ending_of fs)
unfolding keep frame_ended with_turn
leads_ended l fs s lead = go (any_open fs) (any_waiting fs) refl refl
  where
    t : Turns
    t = (told l fs).turns

    by : (x : Turns) → cond (any_open fs) (cond (ltb 0 (length (queue fs))) t (frame_over (last_buffer fs) t)) t ≡ x → Leads x.latest (ending_of fs)
        → Leads (keep (told l fs) ended).turns.latest (ending_of fs)
    by x e leads = subst (λ (x : Turns). Leads x.latest (ending_of fs)) (sym e) leads

    over : any_open fs ≡ true → any_waiting fs ≡ false → Leads (frame_over (last_buffer fs) t).latest (ending_of fs)
    over e w =
        let u = last_buffer fs in
        let n : newest fs ≡ u = newest_open fs s e w in
        rw (newest_end fs, n, sight_end_over u fs s e w, same_same u, over_latest u t, told_content u (queue fs) l fs)
        (leads_over true (sight_in u fs).content l u (rw n at lead))

    go : (b c : Bool) → any_open fs ≡ b → any_waiting fs ≡ c → Leads (keep (told l fs) ended).turns.latest (ending_of fs)
    go true true e w =
        by t (choice (any_open fs) _ t _ e (held_waiting fs true w)) (leads_on l fs (ending_of fs) (newest_end fs) (λ u. sight_end_held u fs s w) lead)
    go true false e w = by (frame_over (last_buffer fs) t) (choice (any_open fs) _ t _ e (held_waiting fs false w)) (over e w)
    go false c e w =
        by t (choice (any_open fs) _ t (frame_over (last_buffer fs) t) e (held_waiting fs c w)) (subst (Leads l) (sym (end_none fs e)) lead)

-- A landing.
landed_latest : (h : ℕ) (t : Turns) (u : Buffer) (o v : Bool) → oldest_buffer t ≡ u → oldest_opens t ≡ o → cond (ltb 0 (h - 1)) (bit 0 (t.opening / 2)) (not t.begun) ≡ v
    → (word_landed h t).latest ≡ cond v (cond (is_landing (landed_content o (content u t))) u t.latest) t.latest
unfolding word_landed last_of_frame with_tags with_content
landed_latest h t A true true b o v = rw (b, o, v) (over_latest A (with_tags (t.in_b / 2) (t.opening / 2) (with_content A Landing t)))
landed_latest h t A true false b o v = rw (b, o, v)
landed_latest h t A false true b o v = rw (b, o, v) (over_latest A (with_tags (t.in_b / 2) (t.opening / 2) t))
landed_latest h t A false false b o v = rw (b, o, v)
landed_latest h t B true true b o v = rw (b, o, v) (over_latest B (with_tags (t.in_b / 2) (t.opening / 2) (with_content B Landing t)))
landed_latest h t B true false b o v = rw (b, o, v)
landed_latest h t B false true b o v = rw (b, o, v) (over_latest B (with_tags (t.in_b / 2) (t.opening / 2) t))
landed_latest h t B false false b o v = rw (b, o, v)

keep_latest : (k : Kept) → ltb 0 k.held ≡ true → (keep k landed).turns.latest ≡ (word_landed k.held k.turns).latest
unfolding keep landed_at with_place_b
keep_latest k some_held = rw some_held (go (oldest_buffer k.turns))
  where
    go : (u : Buffer) → (landed_at u (oldest_place k.place_a k.turns) k).turns.latest ≡ (word_landed k.held k.turns).latest
    go A = refl
    go B = refl

-- Before it the frame in the buffer of the oldest word, if it is of that frame, is not complete.
not_yet : (fs : List Tale) → Sound fs → any_waiting fs ≡ true → is_complete (landed_content (eqb (eldest fs).landed 0) (sight_in (eldest fs).buffer fs).content) ≡ false
not_yet fs s w = go (eqb (eldest fs).landed 0) refl
  where
    g : Tale
    g = eldest fs

    go : (b : Bool) → eqb (eldest fs).landed 0 ≡ b → is_complete (landed_content b (sight_in (eldest fs).buffer fs).content) ≡ false
    go true z = refl
    go false z =
        let c = eldest_counts fs s w in
        let less = ltb-true g.landed (completed g) (and_true (not g.gone) (ltb g.landed (completed g)) (eldest_waits fs w)).1 in
        rw (frame_eldest fs s w z, complete_sight g c, ne_eqb g.since (completed g) (λ q. omega arith)) (and_zero g.ended)

leads_landed : (l : Buffer) (fs : List Tale) → Sound fs → Leads l fs → Leads (keep (told l fs) landed).turns.latest (landing_of fs)
leads_landed l fs s lead = go (any_waiting fs) refl
  where
    go : (b : Bool) → any_waiting fs ≡ b → Leads (keep (told l fs) landed).turns.latest (landing_of fs)
    go true w =
        let g = eldest fs in
        let q = queue (landing_of fs) in
        let k = told_with (tag_of g ∷ q) l fs in
        let u = g.buffer in
        let o = eqb g.landed 0 in
        let is = landed_latest k.held k.turns u o (over g) (oldest_is k.turns u (weigh_first in_b (tag_of g) q)) (unfold oldest_opens in weigh_first opening (tag_of g) q) (last_is (tag_of g) q (any_open fs) ∙ queue_over fs s w) in
        subst (λ (ts : List Tag). Leads (keep (told_with ts l fs) landed).turns.latest (landing_of fs)) {x = tag_of g ∷ q} {y = queue fs} (sym (queue_landing fs w))
        (rw (keep_latest k (lt-ltb 0 (suc (length q)) (omega arith)), is, newest_landing fs s w, sight_landing u fs s w, same_same u, told_content u (tag_of g ∷ q) l fs)
        (leads_over (over g) (landed_content o (sight_in u fs).content) l u (λ e. absurd (false≢true (sym (not_yet fs s w) ∙ e)))))
    go false w = rw (none_lands fs w) (unfold keep in rw (held_waiting fs false w) lead)

-- Every event, and every list of events.
leads_told : (l : Buffer) (fs : List Tale) (e : Event) → Sound fs → Leads l fs → Leads (keep (told l fs) e).turns.latest (tell fs e)
unfolding tell
leads_told l fs (held v) s lead = leads_held l v fs lead
leads_told l fs lost s lead = leads_lost l fs lead
leads_told l fs landed s lead = leads_landed l fs s lead
leads_told l fs ended s lead = leads_ended l fs s lead
leads_told l fs discarded s lead = leads_discarded l fs lead
leads_told l fs rearmed s lead = leads_rearmed (keep (told l fs) rearmed).turns.latest fs

all_answer : (k : Kept) (fs : List Tale) (es : List Event) → Tells k fs → Leads k.turns.latest fs → latest_complete (keeps k es).turns ≡ which (latest_in (story fs es))
unfolding keeps story
all_answer k fs [] t lead = subst (λ (x : Kept). latest_complete x.turns ≡ which (latest_in fs)) (is_told k fs t) (latest_told k.turns.latest fs t.sound lead)
all_answer k fs (e ∷ es) t lead =
    all_answer (keep k e) (tell fs e) es (kept k fs e t)
    (subst (λ (x : Kept). Leads (keep x e).turns.latest (tell fs e)) (is_told k fs t) (leads_told k.turns.latest fs e t.sound lead))

-- The buffer handed back, if one is, is that of the latest complete frame by the history.
pub latest_is_history : (es : List Event) → latest_complete (keeps start es).turns ≡ which (latest_in (story [] es))
unfolding frame_in
latest_is_history es = all_answer start [] es tells_start (λ e. absurd (false≢true e))

-- Both are complete, and B the latest; then a word is lost, whose turn was A's, and the first word of the next frame lands in B: A is the latest again.
pub latest_cases : (latest_complete (keeps start (held 7 ∷ landed ∷ ended ∷ held 7 ∷ landed ∷ ended ∷ [])).turns ≡ Some B)
    × (latest_complete (keeps start (held 7 ∷ landed ∷ ended ∷ held 7 ∷ landed ∷ ended ∷ lost ∷ held 7 ∷ landed ∷ [])).turns ≡ Some A)
unfolding start fresh_turns keeps keep latest_complete frame_ended with_turn landed_at oldest_buffer word_held word_lost with_tags first_word word_landed last_of_frame oldest_opens with_content frame_over with_latest oldest_place with_place_b rules.discarded
latest_cases = (refl, refl)

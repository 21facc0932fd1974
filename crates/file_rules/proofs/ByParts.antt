-- A trace file by parts, cut in any way, ends as the whole file does: the same number and device, and the memory that the samples before the first refused item leave.
-- The idea: parts are taken as their bytes one after the other; behind a header that passes these are the file's writes and samples.
use mathlib.Core.Bool.{Bool, true, false, cond, not}
use mathlib.Core.List.{List, [], ◌∷◌, ◌++◌}
use mathlib.Core.Path.{◌≡◌, refl, sym, ap, ◌∙◌}
use Prim.Native.Nat.{ℕ, zero, suc, ◌+◌, ◌-◌, ◌/◌, ◌≤◌, ◌<◌, min}
use native.Mathlib.Omega.{arith}
use lib.Dec.{eqb, ltb}
use lib.ListN.{length, take, drop, get_or}
use borrow.Author.Tests.{le-ltb, ne_eqb, eqb-true, eqb-false, ltb-true, ltb-false}
use Rattle.bits.proofs.Booleans.{by_cond, or_false}
use Rattle.samples.specs.Samples.{bad_sample, any_bad}
use Rattle.rules.specs.declared.Device.{Device}
use Rattle.rules.specs.State.{fresh}
use Rattle.rules.specs.Answers.{Changed}
use Rattle.rules.specs.RegisterCalls.{no_device, made}
use Rattle.rules.specs.WellFormed.{malformed}
use Rattle.rules.specs.Run.{RunResult, run, run_refusal, steps}
use Rattle.trace_format.specs.Format.{header_length, sample_size}
use Rattle.trace_format.specs.Reading.{version_of, sample_count, sample_start, whole, header_refusal, form_of, form_refusal, writes_of, samples_from, samples_of}
use Rattle.trace_format.proofs.Rewritten.{length_samples_from}
use Rattle.file_rules.specs.File.{set_up, run_on, run_file, run_file_of}
use Rattle.file_rules.specs.WholeOrder.{or_refused, whole_order}
use Rattle.file_rules.proofs.SettingUp.{made_ready, fresh_ready}
use Rattle.file_rules.proofs.WholeOrder.{made_first, after_writes, count_fits, with_whole_order}
use Rattle.trace_format.proofs.Form.{form_after_header}
use Rattle.file_rules.specs.Parts.{State, Taken, opened, end_refusal, ended, good_from, samples_there, left_by, run_parts, joined}
use Rattle.file_rules.proofs.Taking.{parts_joined}
use Rattle.file_rules.proofs.Singles.{by_bool, singles, good, singles_run, run_none, not_bad}
use Rattle.file_rules.proofs.Header.{Passed, Stopped, all_bytes, by_header}
use Rattle.file_rules.proofs.Finish.{behind, cut_writes, write_refused, count_there, ran, samples_taken}

-- The good samples of a file, from the list of them.
good_samples : (f : List ℕ) (n k : ℕ) → good_from f k n ≡ good (samples_from f k n)
unfolding good_from good samples_from
good_samples f zero k = refl
good_samples f (suc n) k = rw (good_samples f n (suc k))

good_all : (ws : List ℕ) → any_bad ws ≡ false → good ws ≡ ws
unfolding good any_bad
good_all [] e = refl
good_all (w ∷ ws) e =
    let (now, later) = or_false (bad_sample w) (any_bad ws) e in
    rw (now, good_all ws later)

-- Number and device of a run.
abbrev told : RunResult → Changed
told r = record { number = r.number; device = r.device }

-- The end, from what the form checks say.
end_form : (s : State) (m : List ℕ) (start x : ℕ) → form_of s.head s.taken ≡ x → eqb x 0 ≡ false → ended s m start ≡ record { number = x; device = no_device }
unfolding ended end_refusal
end_form s m start x e some = rw (e, some, some)

end_number : (s : State) (m : List ℕ) (start x : ℕ) → form_of s.head s.taken ≡ 0 → s.number ≡ x → eqb x 0 ≡ false → ended s m start ≡ record { number = x; device = no_device }
unfolding ended end_refusal
end_number s m start x e n some = rw (e, n, some, some)

end_fine : (s : State) (m : List ℕ) (start : ℕ) → form_of s.head s.taken ≡ 0 → s.number ≡ 0 → start ≤ length m
    → ended s m start ≡ record { number = 0; device = s.device }
unfolding ended end_refusal
end_fine s m start e n within = rw (e, n, le-ltb _ _ within)

-- With no sample the end finds what a run of none does.
end_none : (s : State) (d : Device) (m : List ℕ) (start : ℕ) → form_of s.head s.taken ≡ 0 → s.number ≡ 0 → s.device ≡ d → malformed d ≡ false → d.core.output.counts.samples + 0 ≤ 4294967295
    → let r = or_refused (run d m start []) in ended s m start ≡ record { number = r.number; device = r.device }
unfolding ended end_refusal run run_refusal any_bad steps
end_none s d m start e n is well fits = rw (e, n, is, well, le-ltb _ _ fits) (go (ltb (length m) start))
  where
    go : (b : Bool)
        → let n : ℕ = cond b 9 0 in
        let r = or_refused (record { number = n; device = cond (eqb n 0) d d; memory = cond (eqb n 0) (take start m ++ drop start m) m }) in ◌≡◌ {A = Changed} (record { number = n; device = cond (eqb n 0) d no_device }) (record { number = r.number; device = r.device })
    go true = refl
    go false = refl

-- Samples as runs of one, and the end: what a run of all of them does.
end_run : (s : State) (start : ℕ) (d : Device) (m ws : List ℕ) → form_of s.head s.taken ≡ 0 → s.number ≡ (singles start d m ws).number → s.device ≡ (singles start d m ws).device
    → malformed d ≡ false → d.core.output.counts.samples + length ws ≤ 4294967295
    → let r = or_refused (run d m start ws) in ended s (singles start d m ws).memory start ≡ record { number = r.number; device = r.device }
unfolding singles
end_run s start d m [] e n is well fits = end_none s d m start e n is well fits
end_run s start d m (w ∷ ws) e n is well fits =
    let same = singles_run start d m (w ∷ ws) fits in
    let some : 0 < length (w ∷ ws) = omega arith in
    by_bool (eqb (run d m start (w ∷ ws)).number 0)
    (λ taken.
    let zero_number = same.number some ∙ eqb-true _ 0 taken in
    end_fine s _ start e (n ∙ zero_number) (same.within zero_number some)
    ∙ (let a : 0 ≡ (run d m start (w ∷ ws)).number = sym (eqb-true (run d m start (w ∷ ws)).number 0 taken) in
    let b : s.device ≡ (run d m start (w ∷ ws)).device = is ∙ ap (λ (r : RunResult). r.device) (same.whole zero_number some) in
    rw taken (λ i. record { number = a i; device = b i })))
    (λ refused. end_number s _ start (run d m start (w ∷ ws)).number e (n ∙ same.number some) refused ∙ rw refused)

-- A file of bytes, on a device that is not malformed and has counted no sample.
module _ (start : ℕ) (d : Device) (m f : List ℕ) (bytes : (i : ℕ) → get_or f i 0 < 256) (well : malformed d ≡ false) (none : d.core.output.counts.samples ≡ 0) where
  -- What the end is to answer, and what memory is left.
  pub record Answers (t : Taken) : Type 0 where
    pub answer : let r = run_on d f m start in ended t.state t.memory start ≡ record { number = r.number; device = r.device }
    pub memory : t.memory ≡ left_by d f m start

  -- The form is refused.
  form_refused : (t : Taken) → form_of t.state.head t.state.taken ≡ form_refusal f → eqb (form_refusal f) 0 ≡ false → t.memory ≡ left_by d f m start → Answers t
  unfolding run_on
  form_refused t form some left = record { answer = end_form t.state t.memory start (form_refusal f) form some ∙ rw (some, some); memory = left }

  header_refused : Stopped start d m f → Answers (all_bytes start d m f)
  unfolding left_by
  header_refused g =
      let whole_form : form_refusal f ≡ header_refusal f (length f) = form_after_header f (length f) ∙ rw g.some in
      form_refused (all_bytes start d m f) (g.form ∙ sym whole_form) (rw whole_form g.some) (rw g.some g.memory)

  module _ (h : List ℕ) (p : Passed h f) (passes : header_refusal f (length f) ≡ 0) (room : header_length (version_of f) ≤ length f) where
    all : Taken
    all = behind start h f p passes d m room

    -- The form checks, behind those of the header.
    form_length : form_refusal f ≡ cond (not (eqb (length f) (whole f))) 13 0
    form_length = form_after_header f (length f) ∙ rw passes

    is_whole : eqb (form_refusal f) 0 ≡ true → length f ≡ whole f
    is_whole fine = by_bool (eqb (length f) (whole f)) (eqb-true (length f) (whole f)) (λ e. absurd (eqb-false (form_refusal f) 0 (rw (form_length, e)) (eqb-true (form_refusal f) 0 fine)))

    ready : Changed
    ready = set_up d (writes_of f)

    -- The file ends among its writes.
    ends_in_writes : length f < sample_start f 0 → Answers all
    unfolding all left_by samples_there good_from
    ends_in_writes short =
        let g = cut_writes start h f p passes d m room short in
        let other : form_refusal f ≡ 13 = form_length ∙ rw (ne_eqb (length f) (whole f) (λ e. absurd (omega arith))) in
        let no_sample : min (sample_count f) ((length f - sample_start f 0) / sample_size) ≡ 0 = omega arith in
        form_refused all g.form (rw other)
        (g.memory ∙ rw (passes, no_sample) (sym (by_cond (λ (l : List ℕ). l ≡ m) (eqb (set_up d (writes_of f)).number 0) _ _ (λ _. run_none _ m start) (λ _. refl))))

    module _ (there : sample_start f 0 ≤ length f) where
      -- A write is refused.
      refuses_write : eqb ready.number 0 ≡ false → Answers all
      unfolding all left_by ready run_on
      refuses_write some =
          let g = write_refused start h f p passes d m room there some in
          let left : all.memory ≡ left_by d f m start = g.memory ∙ rw (passes, some) in
          by_bool (eqb (form_refusal f) 0)
          (λ fine. record { answer = end_number all.state all.memory start ready.number (g.form ∙ eqb-true (form_refusal f) 0 fine) g.number some ∙ rw (fine, some, some); memory = left })
          (λ refused. form_refused all g.form refused left)

      -- The samples are run.
      module _ (taken : ready.number ≡ 0) where
        n : ℕ
        n = count_there start h f p passes d m room there

        fits : (k : ℕ) → k ≤ sample_count f → ready.device.core.output.counts.samples + length (samples_from f 0 k) ≤ 4294967295
        unfolding ready
        fits k low = rw (length_samples_from f 0 k) (omega (arith, (count_fits f bytes d well none).1))

        left : all.memory ≡ left_by d f m start
        unfolding all left_by samples_there ready n count_there ran
        left =
            let g = samples_taken start h f p passes d m room there taken in
            let low : n ≤ sample_count f = omega arith in
            g.memory ∙ (singles_run start ready.device m (samples_from f 0 n) (fits n low)).memory ∙ rw (passes, taken, good_samples f n 0)

        samples_run : Answers all
        unfolding all ready n count_there ran whole_order
        samples_run =
            let g = samples_taken start h f p passes d m room there taken in
            by_bool (eqb (form_refusal f) 0)
            (λ fine.
            let exact : length f ≡ whole f = is_whole fine in
            let every : n ≡ sample_count f = omega arith in
            let ends = end_run all.state start ready.device m (samples_from f 0 n) (g.form ∙ eqb-true (form_refusal f) 0 fine) g.number g.device (after_writes f bytes d well none).well (fits n (omega arith)) in
            record { answer = rw (with_whole_order f bytes d well none (eqb-true _ 0 fine) m start, g.memory, taken) (ends ∙ ap (λ (x : ℕ). told (or_refused (run ready.device m start (samples_from f 0 x)))) every); memory = left })
            (λ refused. form_refused all g.form refused left)

  -- Every length and content.
  pub all_answers : Answers (all_bytes start d m f)
  unfolding behind all ready
  all_answers =
      by_header start d m f header_refused
      (λ g.
      let room = g.room in
      rw g.is
      (by_bool (ltb (length f) (sample_start f 0))
      (λ short. ends_in_writes g.head g.passed g.none room (ltb-true _ _ short))
      (λ long.
      let there : sample_start f 0 ≤ length f = ltb-false _ _ long in
      by_bool (eqb (set_up d (writes_of f)).number 0)
      (λ taken. samples_run g.head g.passed g.none room there (eqb-true _ 0 taken))
      (λ refused. refuses_write g.head g.passed g.none room there refused))))

-- The theorem: for every list of parts, empty ones too, on a device that is not malformed and has counted no sample. Number and device are those of running the whole file; memory is what the
-- samples before the first refused item left, which in an accepted file are all of them.
module _ (d : Device) (parts : List (List ℕ)) (m : List ℕ) (start : ℕ) (bytes : (i : ℕ) → get_or (joined parts) i 0 < 256) (well : malformed d ≡ false) (none : d.core.output.counts.samples ≡ 0) where
  pub by_parts : let r = run_on d (joined parts) m start in
      run_parts d parts m start ≡ record { number = r.number; device = r.device; memory = left_by d (joined parts) m start }
  unfolding run_parts all_bytes
  by_parts =
      let f = joined parts in
      let g = all_answers start d m f bytes well none in
      let a : ended (all_bytes start d m f).state (all_bytes start d m f).memory start ≡ told (run_on d f m start) = g.answer in
      let b : (all_bytes start d m f).memory ≡ left_by d f m start = g.memory in
      ap (λ (t : Taken). left_of t) (parts_joined start (record { state = opened d; memory = m }) parts) ∙ (λ i. record { number = (a i).number; device = (a i).device; memory = b i })
    where
      left_of : Taken → RunResult
      left_of t = record { number = (ended t.state t.memory start).number; device = (ended t.state t.memory start).device; memory = t.memory }

-- An accepted file passes each of its checks.
module _ (d : Device) (f m : List ℕ) (start : ℕ) (bytes : (i : ℕ) → get_or f i 0 < 256) (well : malformed d ≡ false) (none : d.core.output.counts.samples ≡ 0) (taken : (run_on d f m start).number ≡ 0) where
  formed : form_refusal f ≡ 0
  unfolding run_on
  formed = by_bool (eqb (form_refusal f) 0) (eqb-true _ 0) (λ e. absurd (eqb-false (form_refusal f) 0 e (rw (e, e) at taken)))

  passes : header_refusal f (length f) ≡ 0
  passes =
      by_bool (eqb (header_refusal f (length f)) 0) (eqb-true _ 0)
      (λ e. absurd (eqb-false (header_refusal f (length f)) 0 e (sym (form_after_header f (length f) ∙ rw e) ∙ formed)))

  exact : length f ≡ whole f
  exact =
      by_bool (eqb (length f) (whole f)) (eqb-true _ _)
      (λ e. absurd (eqb-false 13 0 refl (sym (form_after_header f (length f) ∙ rw (passes, e)) ∙ formed)))

  ordered : run_on d f m start ≡ whole_order d f m start
  ordered = with_whole_order f bytes d well none formed m start

  whole_taken : (whole_order d f m start).number ≡ 0
  whole_taken = sym (ap (λ (r : RunResult). r.number) ordered) ∙ taken

  written : eqb (set_up d (writes_of f)).number 0 ≡ true
  unfolding whole_order
  written = by_bool (eqb (set_up d (writes_of f)).number 0) (λ e. e) (λ e. absurd (eqb-false (set_up d (writes_of f)).number 0 e (rw e at whole_taken)))

  content : RunResult
  content = run (set_up d (writes_of f)).device m start (samples_of f)

  fine : eqb content.number 0 ≡ true
  unfolding whole_order content
  fine = by_bool (eqb content.number 0) (λ e. e) (λ e. absurd (eqb-false content.number 0 e (rw (written, e) at whole_taken)))

  -- So the memory is that of all samples.
  pub accepted_memory : left_by d f m start ≡ (run_on d f m start).memory
  unfolding left_by samples_there whole_order content
  accepted_memory =
      let every : min (sample_count f) ((length f - sample_start f 0) / sample_size) ≡ sample_count f = omega (arith, exact) in
      let none_bad : any_bad (samples_of f) ≡ false = not_bad _ m start (samples_of f) (eqb-true _ 0 fine) in
      rw (ordered, passes, written, every, good_samples f (sample_count f) 0, good_all (samples_of f) none_bad, fine)

-- On a fresh device, and on one made with a depth (W9).
pub by_parts_file : (parts : List (List ℕ)) (m : List ℕ) (start : ℕ) → ((i : ℕ) → get_or (joined parts) i 0 < 256)
    → let r = run_file (joined parts) m start in run_parts fresh parts m start ≡ record { number = r.number; device = r.device; memory = left_by fresh (joined parts) m start }
by_parts_file parts m start bytes = by_parts fresh parts m start bytes fresh_ready.0 fresh_ready.1

pub by_parts_of : (depth : ℕ) (parts : List (List ℕ)) (m : List ℕ) (start : ℕ) → ((i : ℕ) → get_or (joined parts) i 0 < 256) → eqb (made depth).number 0 ≡ true
    → let d = (made depth).device in let r = run_file_of depth (joined parts) m start in run_parts d parts m start ≡ record { number = r.number; device = r.device; memory = left_by d (joined parts) m start }
by_parts_of depth parts m start bytes taken = rw (made_first depth (joined parts) m start taken) (by_parts (made depth).device parts m start bytes (made_ready depth taken).0 (made_ready depth taken).1)

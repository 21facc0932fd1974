-- The bytes behind a header that passes, to the last: what is left in state and memory, whatever the length.
-- The idea: the writes, the samples that are there whole, then what waits, is counted, or is not wanted.
use mathlib.Core.Bool.{false}
use mathlib.Core.List.{List, [], ◌∷◌}
use mathlib.Core.Path.{◌≡◌, refl, ap, ◌∙◌}
use Prim.Native.Nat.{ℕ, ◌+◌, ◌-◌, ◌*◌, ◌/◌, ◌≤◌, ◌<◌, min}
use native.Mathlib.Decide.{dec_lt}
use native.Mathlib.Nat.{add-zero}
use native.Mathlib.Omega.{arith}
use lib.Dec.{eqb}
use lib.ListN.{length, take, drop, length-drop, take-append-drop}
use lib.Seq.{drop-drop, length-take-le}
use borrow.Author.Tests.{le-ltb, ne_eqb, eqb-true}
use Rattle.bits.proofs.Booleans.{either, and_zero}
use Rattle.rules.specs.declared.Device.{Device}
use Rattle.rules.specs.Run.{RunResult}
use Rattle.trace_format.specs.Format.{header_length, write_size, sample_size, write_start}
use Rattle.trace_format.specs.Reading.{version_of, write_count, sample_count, sample_start, whole, header_refusal, form_of, writes_of, samples_from}
use Rattle.trace.specs.Decoding.{samples_in}
use Rattle.trace.proofs.ManySamples.{samples_here}
use Rattle.file_rules.specs.File.{set_up}
use Rattle.trace_format.proofs.Form.{form_after_header}
use Rattle.file_rules.specs.Parts.{State, Taken, no_item, after_write, write_byte, take_byte, take_bytes}
use Rattle.file_rules.proofs.Taking.{at, bytes_append, write_step, count_step, counts, over}
use Rattle.file_rules.proofs.Items.{part_sample}
use Rattle.file_rules.proofs.Singles.{by_bool, singles}
use Rattle.file_rules.proofs.Content.{all_writes, all_samples}
use Rattle.file_rules.proofs.Header.{Passed}

-- All bytes of the file have come, or one too many: the head is the header's, and the form checks answer as for the file.
pub record Finished (f : List ℕ) (d : Device) (x : ℕ) (m : List ℕ) (t : Taken) : Type 0 where
  pub form : form_of t.state.head t.state.taken ≡ form_of f (length f)
  pub device : t.state.device ≡ d
  pub number : t.state.number ≡ x
  pub memory : t.memory ≡ m

module _ (start : ℕ) (h f : List ℕ) (p : Passed h f) (none : header_refusal f (length f) ≡ 0) where
  whole_same : whole h ≡ whole f
  whole_same = rw (p.samples, p.writes, p.version)

  finished : (n : ℕ) (item : List ℕ) (d : Device) (number : ℕ) (m : List ℕ) → header_length (version_of h) ≤ n → eqb n (whole h) ≡ eqb (length f) (whole f)
      → Finished f d number m (at h n item d number m)
  finished n item d number m low alike =
      record { form = rw (form_after_header h n, form_after_header f (length f), p.passes n low, none, alike); device = refl; number = refl; memory = refl }

  -- Behind a refused item.
  finish_refused : (n : ℕ) (item : List ℕ) (d : Device) (number : ℕ) (m bs : List ℕ) → header_length (version_of h) ≤ n → n ≤ whole h → n + length bs ≡ length f → eqb number 0 ≡ false
      → Finished f d number m (take_bytes start (at h n item d number m) bs)
  finish_refused n item d number m bs low within all some = go (dec_lt (whole h + 1) (length f))
    where
      go : Dec (whole h + 1 < length f) → Finished f d number m (take_bytes start (at h n item d number m) bs)
      go (no short) = rw (counts start h p.passes d m n item number bs low (omega arith) some, all) (finished (length f) item d number m (omega arith) (rw whole_same))
      go (yes long) =
          let k : ℕ = whole h + 1 - n in
          let some_bytes : length (take k bs) ≡ k = length-take-le k bs (omega arith) in
          let last : n + k ≡ whole h + 1 = omega arith in
          rw (
            ← take-append-drop k bs,
            bytes_append start (at h n item d number m) (take k bs) (drop k bs),
            counts start h p.passes d m n item number (take k bs) low (omega arith) some,
            some_bytes,
            last,
            over start h p.passes d m (whole h + 1) item number (drop k bs) (omega arith) (omega arith),
          )
          (finished (whole h + 1) item d number m (omega arith) (rw (ne_eqb (whole h + 1) (whole h) (λ e. absurd (omega arith)), ne_eqb (length f) (whole f) (λ e. absurd (omega (arith, whole_same))))))

  -- Behind the last sample.
  finish_whole : (item : List ℕ) (d : Device) (number : ℕ) (m bs : List ℕ) → header_length (version_of h) ≤ whole h → whole h + length bs ≡ length f
      → Finished f d number m (take_bytes start (at h (whole h) item d number m) bs)
  unfolding take_bytes
  finish_whole item d number m [] low all =
      let there : whole h ≡ length f = omega arith in
      finished (whole h) item d number m low (rw (← there, whole_same))
  finish_whole item d number m (b ∷ bs) low all =
      rw (
        count_step start h p.passes d m (whole h) item number b low (omega arith) (rw (le-ltb (whole h) (whole h) (omega arith)) (and_zero (eqb number 0))),
        over start h p.passes d m (whole h + 1) item number bs (omega arith) (omega arith),
      )
      (finished (whole h + 1) item d number m (omega arith) (rw (ne_eqb (whole h + 1) (whole h) (λ e. absurd (omega arith)), ne_eqb (length f) (whole f) (λ e. absurd (omega (arith, whole_same))))))

  -- A file that ends among its writes.
  record InWrites (m : List ℕ) (n : ℕ) (t : Taken) : Type 0 where
    head : t.state.head ≡ h
    taken : t.state.taken ≡ n
    memory : t.memory ≡ m

  as_at : (n : ℕ) (t : Taken) (m : List ℕ) → InWrites m n t → t ≡ at h n t.state.item t.state.device t.state.number m
  as_at n t m i =
      let a : t.state.head ≡ h = i.head in
      let b : t.state.taken ≡ n = i.taken in
      let c : t.memory ≡ m = i.memory in
      λ x. record { state = record { head = a x; taken = b x; item = t.state.item; device = t.state.device; number = t.state.number }; memory = c x }

  write_stays : (n : ℕ) (item : List ℕ) (d : Device) (m : List ℕ) (place b : ℕ) → InWrites m (n + 1) (record { state = write_byte (at h n item d 0 m).state place b; memory = m })
  unfolding write_byte after_write
  write_stays n item d m place b =
      either (λ (s : State). InWrites m (n + 1) (record { state = s; memory = m })) (eqb (place + 1) write_size)
      (record { head = refl; taken = refl; memory = refl })
      (record { head = refl; taken = refl; memory = refl })

  in-writes : (n : ℕ) (item : List ℕ) (d : Device) (number : ℕ) (m : List ℕ) (b : ℕ) → header_length (version_of h) ≤ n → n < sample_start h 0
      → InWrites m (n + 1) (take_byte start (at h n item d number m) b)
  in-writes n item d number m b low high =
      by_bool (eqb number 0)
      (λ e. rw (eqb-true number 0 e, write_step start h p.passes d m n item b low high) (write_stays n item d m _ b))
      (λ e. rw (count_step start h p.passes d m n item number b low (omega arith) (rw e)) (record { head = refl; taken = refl; memory = refl }))

  among_writes : (bs : List ℕ) (n : ℕ) (t : Taken) (m : List ℕ) → InWrites m n t → header_length (version_of h) ≤ n → n + length bs ≤ sample_start h 0 → InWrites m (n + length bs) (take_bytes start t bs)
  unfolding take_bytes
  among_writes [] n t m i low high = rw (add-zero n) i
  among_writes (b ∷ bs) n t m i low high =
      let one : n + 1 + length bs ≡ n + length (b ∷ bs) = omega arith in
      let here : t ≡ at h n t.state.item t.state.device t.state.number m = as_at n t m i in
      rw (← one) (among_writes bs (n + 1) (take_byte start t b) m (rw here (in-writes n t.state.item t.state.device t.state.number m b low (omega arith))) (omega arith) (omega arith))

  -- The rest of a file behind its header, by where it ends.
  module _ (d : Device) (m : List ℕ) (room : header_length (version_of f) ≤ length f) where
    unfoldable pub behind : Taken
    behind = take_bytes start (at h (header_length (version_of f)) no_item d 0 m) (drop (header_length (version_of f)) f)

    -- Among its writes.
    pub cut_writes : length f < sample_start f 0 → Finished f behind.state.device behind.state.number m behind
    unfolding behind
    cut_writes short =
        let H : ℕ = header_length (version_of f) in
        let same : sample_start h 0 ≡ sample_start f 0 = rw (p.version, p.writes) in
        let long : length (drop H f) ≡ length f - H = length-drop H f in
        let all : H + length (drop H f) ≡ length f = omega arith in
        let low : header_length (version_of h) ≤ H = rw p.version (omega arith) in
        let i = among_writes (drop H f) H (at h H no_item d 0 m) m (record { head = refl; taken = refl; memory = refl }) low (omega arith) in
        record { form = rw (i.head, i.taken, all) (finished (length f) [] d 0 m (omega arith) (rw whole_same)).form; device = refl; number = refl; memory = i.memory }

    module _ (there : sample_start f 0 ≤ length f) where
      same_start : (k : ℕ) → sample_start h k ≡ sample_start f k
      same_start k = rw (p.version, p.writes)

      rest : List ℕ
      rest = drop (sample_start f 0) f

      after_writes : let u = set_up d (writes_of f) in behind ≡ take_bytes start (at h (sample_start h 0) no_item u.device u.number m) rest
      unfolding behind rest
      after_writes =
          let H : ℕ = header_length (version_of f) in
          let none_yet : write_start (version_of f) 0 ≡ H = omega arith in
          let first : H ≡ write_start (version_of h) 0 = rw p.version (omega arith) in
          let long : length (drop H f) ≡ length f - H = length-drop H f in
          let last : H + write_size * write_count f ≡ sample_start f 0 = omega arith in
          let u = set_up d (writes_of f) in
          ap (λ (n : ℕ). take_bytes start (at h n no_item d 0 m) (drop H f)) first
          ∙ all_writes start h f p.passes p.writes m (write_count f) 0 d (drop H f) (omega arith) (rw none_yet) (omega arith)
          ∙ ap (take_bytes start (at h (sample_start h 0) no_item u.device u.number m)) (drop-drop (write_size * write_count f) H f ∙ ap (λ (x : ℕ). drop x f) last)

      rest_length : length rest ≡ length f - sample_start f 0
      unfolding rest
      rest_length = length-drop (sample_start f 0) f

      -- A write is refused.
      pub write_refused : let u = set_up d (writes_of f) in eqb u.number 0 ≡ false → Finished f u.device u.number m behind
      write_refused some =
          let u = set_up d (writes_of f) in
          rw after_writes (finish_refused (sample_start h 0) no_item u.device u.number m rest (omega arith) (omega arith) (omega (arith, rest_length, same_start 0)) some)

      -- How many samples are there whole.
      unfoldable pub count_there : ℕ
      count_there = min (sample_count f) ((length f - sample_start f 0) / sample_size)

      there_fits : (count_there ≤ sample_count f) × (sample_size * count_there ≤ length f - sample_start f 0)
      unfolding count_there
      there_fits = (omega arith, omega arith)

      -- Fewer than all: less than a sample is left.
      there_cut : count_there < sample_count f → length f - sample_start f 0 < sample_size * count_there + 3
      unfolding count_there
      there_cut low = omega arith

      module _ (taken : (set_up d (writes_of f)).number ≡ 0) where
        unfoldable pub ran : RunResult
        ran = singles start (set_up d (writes_of f)).device m (samples_from f 0 count_there)

        left : List ℕ
        left = drop (sample_size * count_there) rest

        after_samples : behind ≡ take_bytes start (at h (sample_start h count_there) no_item ran.device ran.number ran.memory) left
        unfolding ran left rest
        after_samples =
            let e = (set_up d (writes_of f)).device in
            let none_yet : 0 + count_there ≡ count_there = omega arith in
            let same : samples_in count_there rest ≡ samples_from f 0 count_there = samples_here f count_there 0 in
            after_writes
            ∙ ap (λ (x : ℕ). take_bytes start (at h (sample_start h 0) no_item e x m) rest) taken
            ∙ rw (none_yet, same) at (all_samples start h p.passes count_there 0 e m rest (omega (arith, there_fits.0, p.samples)) (omega (arith, rest_length, there_fits.1)))

        left_length : sample_start h count_there + length left ≡ length f
        unfolding left
        left_length = omega (arith, length-drop (sample_size * count_there) rest, rest_length, there_fits.1, same_start count_there)

        -- Less than a sample waits, or all samples are there.
        waits : (item : List ℕ) → Dec (count_there < sample_count f) → Finished f ran.device 0 ran.memory (take_bytes start (at h (sample_start h count_there) item ran.device 0 ran.memory) left)
        waits item (yes low) =
            part_sample start h p.passes ran.device ran.memory count_there (omega (arith, p.samples)) item left (omega (arith, left_length, there_cut low, same_start count_there))
            (Finished f ran.device 0 ran.memory)
            (λ item'. rw left_length (finished (length f) item' ran.device 0 ran.memory (omega (arith, left_length)) (rw whole_same)))
        waits item (no high) =
            let all : sample_start h count_there ≡ whole h = omega (arith, there_fits.0, p.samples) in
            rw all (finish_whole item ran.device 0 ran.memory left (omega arith) (omega (arith, left_length)))

        pub samples_taken : Finished f ran.device ran.number ran.memory behind
        unfolding left
        samples_taken =
            let low : header_length (version_of h) ≤ sample_start h count_there = omega arith in
            rw after_samples
            (by_bool (eqb ran.number 0)
            (λ fine. rw (eqb-true ran.number 0 fine) (waits no_item (dec_lt count_there (sample_count f))))
            (λ some. finish_refused (sample_start h count_there) no_item ran.device ran.number ran.memory left low (omega (arith, there_fits.0, p.samples)) left_length some))

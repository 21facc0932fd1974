-- All writes of a file, and samples from the first byte of one on, behind a header that passes: byte by byte they are `set_up` and runs of one sample.
-- The idea: the first item's bytes do what the item does; the rest by induction. Behind a refused item bytes are counted.
use mathlib.Core.Bool.{false, cond}
use mathlib.Core.List.{List, [], ◌∷◌}
use mathlib.Core.Path.{◌≡◌, refl, sym, ap, ◌∙◌}
use Prim.Native.Nat.{ℕ, zero, suc, ◌+◌, ◌*◌, ◌≤◌}
use native.Mathlib.Numerals.{add-one}
use native.Mathlib.Omega.{arith}
use lib.Dec.{eqb}
use lib.ListN.{length, take, drop, take-append-drop}
use lib.Seq.{drop-drop, length-take-le}
use borrow.Author.Tests.{eqb-true}
use Rattle.numbers.specs.Numbers.{number_at}
use Rattle.rules.specs.declared.Device.{Device}
use Rattle.rules.specs.Answers.{Changed}
use Rattle.rules.specs.RegisterCalls.{write}
use Rattle.rules.specs.Run.{RunResult, run}
use Rattle.trace_format.specs.Format.{header_length, write_size, sample_size, write_start}
use Rattle.trace_format.specs.Reading.{version_of, write_count, sample_count, sample_start, header_refusal, write_at, writes_from}
use Rattle.trace.specs.Decoding.{samples_in}
use Rattle.file_rules.specs.File.{set_up}
use Rattle.file_rules.specs.Parts.{Taken, no_item, take_bytes}
use Rattle.file_rules.proofs.Taking.{at, bytes_append, counts}
use Rattle.file_rules.proofs.Items.{one_write, one_sample}
use Rattle.file_rules.proofs.Singles.{by_bool, singles}

-- A header that passes, whatever follows it.
abbrev pub Passes : List ℕ → Type 0
Passes h = (n : ℕ) → header_length (version_of h) ≤ n → header_refusal h n ≡ 0

-- The write that its bytes are.
write_here : (f : List ℕ) (k a b c x y : ℕ) (r : List ℕ) → drop (write_start (version_of f) k) f ≡ a ∷ b ∷ c ∷ x ∷ y ∷ r
    → write_at f k ≡ record { offset = number_at (a ∷ b ∷ c ∷ x ∷ y ∷ []) 0 1; value = number_at (a ∷ b ∷ c ∷ x ∷ y ∷ []) 1 4 }
unfolding write_at number_at
write_here f k a b c x y r q = rw (← drop-drop 1 (write_start (version_of f) k) f, q)

module _ (start : ℕ) (h f : List ℕ) (passes : Passes h) (same : write_count h ≡ write_count f) (m : List ℕ) where
  -- From write k on, j writes, of whose bytes r begins.
  abbrev Writes : ℕ → ℕ → Device → List ℕ → Type 0
  Writes j k d r =
      let u = set_up d (writes_from f k j) in
      take_bytes start (at h (write_start (version_of h) k) no_item d 0 m) r ≡ take_bytes start (at h (sample_start h 0) no_item u.device u.number m) (drop (write_size * j) r)

  module _ (j k : ℕ) (d : Device) (a b c x y : ℕ) (r : List ℕ) (inside : k + suc j ≡ write_count f)
      (q : drop (write_start (version_of f) k) f ≡ a ∷ b ∷ c ∷ x ∷ y ∷ r) (room : write_size * j ≤ length r) where
    written : Changed
    written = write d (number_at (a ∷ b ∷ c ∷ x ∷ y ∷ []) 0 1) (number_at (a ∷ b ∷ c ∷ x ∷ y ∷ []) 1 4)

    next_write : Taken
    next_write = at h (write_start (version_of h) (k + 1)) no_item written.device written.number m

    one : take_bytes start (at h (write_start (version_of h) k) no_item d 0 m) (a ∷ b ∷ c ∷ x ∷ y ∷ r) ≡ take_bytes start next_write r
    unfolding written next_write
    one =
        bytes_append start (at h (write_start (version_of h) k) no_item d 0 m) (a ∷ b ∷ c ∷ x ∷ y ∷ []) r
        ∙ ap (λ (t : Taken). take_bytes start t r) (one_write start h passes d m k (omega (arith, same)) no_item a b c x y refl)

    -- What is left of the bytes, and of the writes.
    rest_bytes : drop (write_size * suc j) (a ∷ b ∷ c ∷ x ∷ y ∷ r) ≡ drop (write_size * j) r
    rest_bytes =
        let size : write_size * suc j ≡ 5 + write_size * j = omega arith in
        rw size (sym (drop-drop (write_size * j) 5 (a ∷ b ∷ c ∷ x ∷ y ∷ r)))

    there : drop (write_start (version_of f) (k + 1)) f ≡ r
    there =
        let next : write_start (version_of f) k + 5 ≡ write_start (version_of f) (k + 1) = omega arith in
        rw (← next, ← drop-drop 5 (write_start (version_of f) k) f, q)

    set_on : set_up d (writes_from f k (suc j)) ≡ cond (eqb written.number 0) (set_up written.device (writes_from f (k + 1) j)) written
    unfolding set_up writes_from written
    set_on = rw (write_here f k a b c x y r q, add-one k)

    -- Counted to the end of the writes.
    counted : eqb written.number 0 ≡ false → take_bytes start next_write r ≡ take_bytes start (at h (sample_start h 0) no_item written.device written.number m) (drop (write_size * j) r)
    unfolding next_write
    counted refused =
        let some : length (take (write_size * j) r) ≡ write_size * j = length-take-le (write_size * j) r room in
        let end : write_start (version_of h) (k + 1) + write_size * j ≡ sample_start h 0 = omega (arith, same) in
        ap (take_bytes start next_write) (sym (take-append-drop (write_size * j) r))
        ∙ bytes_append start next_write (take (write_size * j) r) (drop (write_size * j) r)
        ∙ ap (λ (t : Taken). take_bytes start t (drop (write_size * j) r))
        (counts start h passes written.device m (write_start (version_of h) (k + 1)) no_item written.number (take (write_size * j) r) (omega arith) (omega arith) refused ∙ rw (some, end))

    write_more : ((d' : Device) → drop (write_start (version_of f) (k + 1)) f ≡ r → Writes j (k + 1) d' r) → Writes (suc j) k d (a ∷ b ∷ c ∷ x ∷ y ∷ r)
    unfolding next_write
    write_more rest =
        by_bool (eqb written.number 0)
        (λ taken.
        rw (set_on, taken, rest_bytes)
        (one ∙ ap (λ (n : ℕ). take_bytes start (at h (write_start (version_of h) (k + 1)) no_item written.device n m) r) (eqb-true written.number 0 taken) ∙ rest written.device there))
        (λ refused. rw (set_on, refused, rest_bytes) (one ∙ counted refused))

  pub all_writes : (j k : ℕ) (d : Device) (r : List ℕ) → k + j ≡ write_count f → drop (write_start (version_of f) k) f ≡ r → write_size * j ≤ length r → Writes j k d r
  unfolding set_up writes_from
  all_writes zero k d r e q room =
      let here : sample_start h 0 ≡ write_start (version_of h) k = omega (arith, same) in
      rw here
  all_writes (suc j) k d [] e q room = absurd (omega arith)
  all_writes (suc j) k d (a ∷ []) e q room = absurd (omega arith)
  all_writes (suc j) k d (a ∷ b ∷ []) e q room = absurd (omega arith)
  all_writes (suc j) k d (a ∷ b ∷ c ∷ []) e q room = absurd (omega arith)
  all_writes (suc j) k d (a ∷ b ∷ c ∷ x ∷ []) e q room = absurd (omega arith)
  all_writes (suc j) k d (a ∷ b ∷ c ∷ x ∷ y ∷ r) e q room = write_more j k d a b c x y r e q (omega arith) (λ d' next. all_writes j (k + 1) d' r (omega arith) next (omega arith))

first_sample : (a b c : ℕ) (r : List ℕ) → number_at (a ∷ b ∷ c ∷ r) 0 sample_size ≡ number_at (a ∷ b ∷ c ∷ []) 0 sample_size
unfolding number_at
first_sample a b c r = refl

module _ (start : ℕ) (h : List ℕ) (passes : Passes h) where
  -- From sample k on, j samples, of whose bytes r begins; the item before may be any.
  abbrev Samples : ℕ → ℕ → List ℕ → Device → List ℕ → List ℕ → List ℕ → Type 0
  Samples j k item d m r after =
      let u = singles start d m (samples_in j r) in
      take_bytes start (at h (sample_start h k) item d 0 m) r ≡ take_bytes start (at h (sample_start h (k + j)) after u.device u.number u.memory) (drop (sample_size * j) r)

  module _ (j k : ℕ) (item : List ℕ) (d : Device) (m : List ℕ) (a b c : ℕ) (r : List ℕ) (inside : k + suc j ≤ sample_count h) (long : length item ≡ 5) (room : sample_size * j ≤ length r) where
    ran : RunResult
    ran = run d m start (number_at (a ∷ b ∷ c ∷ []) 0 sample_size ∷ [])

    next_sample : Taken
    next_sample = at h (sample_start h (k + 1)) no_item ran.device ran.number ran.memory

    one_run : take_bytes start (at h (sample_start h k) item d 0 m) (a ∷ b ∷ c ∷ r) ≡ take_bytes start next_sample r
    unfolding ran next_sample
    one_run =
        bytes_append start (at h (sample_start h k) item d 0 m) (a ∷ b ∷ c ∷ []) r
        ∙ ap (λ (t : Taken). take_bytes start t r) (one_sample start h passes d m k (omega arith) item a b c long)

    rest_samples : drop (sample_size * suc j) (a ∷ b ∷ c ∷ r) ≡ drop (sample_size * j) r
    rest_samples =
        let size : sample_size * suc j ≡ 3 + sample_size * j = omega arith in
        rw size (sym (drop-drop (sample_size * j) 3 (a ∷ b ∷ c ∷ r)))

    run_on : singles start d m (samples_in (suc j) (a ∷ b ∷ c ∷ r)) ≡ cond (eqb ran.number 0) (singles start ran.device ran.memory (samples_in j r)) ran
    unfolding singles samples_in ran
    run_on = rw (first_sample a b c r)

    last : k + suc j ≡ k + 1 + j
    last = omega arith

    counted_on : eqb ran.number 0 ≡ false
        → take_bytes start next_sample r ≡ take_bytes start (at h (sample_start h (k + 1 + j)) no_item ran.device ran.number ran.memory) (drop (sample_size * j) r)
    unfolding next_sample
    counted_on refused =
        let some : length (take (sample_size * j) r) ≡ sample_size * j = length-take-le (sample_size * j) r room in
        let end : sample_start h (k + 1) + sample_size * j ≡ sample_start h (k + 1 + j) = omega arith in
        ap (take_bytes start next_sample) (sym (take-append-drop (sample_size * j) r))
        ∙ bytes_append start next_sample (take (sample_size * j) r) (drop (sample_size * j) r)
        ∙ ap (λ (t : Taken). take_bytes start t (drop (sample_size * j) r))
        (counts start h passes ran.device ran.memory (sample_start h (k + 1)) no_item ran.number (take (sample_size * j) r) (omega arith) (omega arith) refused ∙ rw (some, end))

    sample_more : ((d' : Device) (m' : List ℕ) → Samples j (k + 1) no_item d' m' r no_item) → Samples (suc j) k item d m (a ∷ b ∷ c ∷ r) no_item
    unfolding next_sample
    sample_more rest =
        by_bool (eqb ran.number 0)
        (λ taken.
        rw (run_on, taken, rest_samples, last)
        (one_run ∙ ap (λ (n : ℕ). take_bytes start (at h (sample_start h (k + 1)) no_item ran.device n ran.memory) r) (eqb-true ran.number 0 taken) ∙ rest ran.device ran.memory))
        (λ refused. rw (run_on, refused, rest_samples, last) (one_run ∙ counted_on refused))

  pub all_samples : (j k : ℕ) (d : Device) (m r : List ℕ) → k + j ≤ sample_count h → sample_size * j ≤ length r → Samples j k no_item d m r no_item
  unfolding singles samples_in
  all_samples zero k d m r e room =
      let here : sample_start h (k + 0) ≡ sample_start h k = omega arith in
      rw here
  all_samples (suc j) k d m [] e room = absurd (omega arith)
  all_samples (suc j) k d m (a ∷ []) e room = absurd (omega arith)
  all_samples (suc j) k d m (a ∷ b ∷ []) e room = absurd (omega arith)
  all_samples (suc j) k d m (a ∷ b ∷ c ∷ r) e room = sample_more j k no_item d m a b c r e refl (omega arith) (λ d' m'. all_samples j (k + 1) d' m' r (omega arith) (omega arith))

  -- From any item on: the first sample's bytes overwrite it.
  pub some_samples : (j k : ℕ) (item : List ℕ) (d : Device) (m r : List ℕ) → length item ≡ 5 → k + suc j ≤ sample_count h → sample_size * suc j ≤ length r → Samples (suc j) k item d m r no_item
  some_samples j k item d m [] long e room = absurd (omega arith)
  some_samples j k item d m (a ∷ []) long e room = absurd (omega arith)
  some_samples j k item d m (a ∷ b ∷ []) long e room = absurd (omega arith)
  some_samples j k item d m (a ∷ b ∷ c ∷ r) long e room = sample_more j k item d m a b c r e long (omega arith) (λ d' m'. all_samples j (k + 1) d' m' r (omega arith) (omega arith))

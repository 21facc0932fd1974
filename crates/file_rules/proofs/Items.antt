-- The bytes of one write, and of one sample, behind a header that passes: all of them do what the whole item does, fewer leave device and memory.
use mathlib.Core.List.{List, [], ◌∷◌}
use mathlib.Core.Path.{◌≡◌, ◌∙◌}
use Prim.Native.Nat.{ℕ, ◌+◌, ◌-◌, ◌%◌, ◌≤◌, ◌<◌}
use native.Mathlib.Omega.{arith}
use lib.ListN.{length, set}
use borrow.Author.Tests.{ne_eqb}
use Rattle.numbers.specs.Numbers.{number_at}
use Rattle.rules.specs.declared.Device.{Device}
use Rattle.rules.specs.RegisterCalls.{write}
use Rattle.rules.specs.Run.{run}
use Rattle.trace_format.specs.Format.{header_length, write_size, sample_size, write_start}
use Rattle.trace_format.specs.Reading.{version_of, write_count, sample_count, sample_start, header_refusal}
use Rattle.file_rules.specs.Parts.{Taken, no_item, after_write, after_sample, write_byte, sample_byte, take_byte, take_bytes}
use Rattle.file_rules.proofs.Taking.{at, write_step, sample_step}

-- Five bytes, as a list.
pub five_of : (P : List ℕ → Type 0) (l : List ℕ) → length l ≡ 5 → ((a b c d e : ℕ) → P (a ∷ b ∷ c ∷ d ∷ e ∷ [])) → P l
five_of P [] h f = absurd (omega arith)
five_of P (a ∷ []) h f = absurd (omega arith)
five_of P (a ∷ b ∷ []) h f = absurd (omega arith)
five_of P (a ∷ b ∷ c ∷ []) h f = absurd (omega arith)
five_of P (a ∷ b ∷ c ∷ d ∷ []) h f = absurd (omega arith)
five_of P (a ∷ b ∷ c ∷ d ∷ e ∷ []) h f = f a b c d e
five_of P (a ∷ b ∷ c ∷ d ∷ e ∷ g ∷ l) h f = absurd (omega arith)

module _ (start : ℕ) (h : List ℕ) (passes : (n : ℕ) → header_length (version_of h) ≤ n → header_refusal h n ≡ 0) (d : Device) (m : List ℕ) where
  -- Byte number j of write number k.
  module _ (k : ℕ) (inside : k < write_count h) where
    write_fills : (j : ℕ) (item : List ℕ) (b : ℕ) → j < 4 → take_byte start (at h (write_start (version_of h) k + j) item d 0 m) b ≡ at h (write_start (version_of h) k + (j + 1)) (set item j b) d 0 m
    unfolding write_byte
    write_fills j item b low =
        let n = write_start (version_of h) k + j in
        let place : (n - header_length (version_of h)) % write_size ≡ j = omega arith in
        let one : n + 1 ≡ write_start (version_of h) k + (j + 1) = omega arith in
        write_step start h passes d m n item b (omega arith) (omega arith)
        ∙ rw (place, ne_eqb (j + 1) write_size (λ e. absurd (omega arith)), one)

    write_ends : (item : List ℕ) (b : ℕ) → take_byte start (at h (write_start (version_of h) k + 4) item d 0 m) b ≡ record { state = after_write (at h (write_start (version_of h) (k + 1)) (set item 4 b) d 0 m).state; memory = m }
    unfolding write_byte
    write_ends item b =
        let n = write_start (version_of h) k + 4 in
        let place : (n - header_length (version_of h)) % write_size ≡ 4 = omega arith in
        let one : n + 1 ≡ write_start (version_of h) (k + 1) = omega arith in
        write_step start h passes d m n item b (omega arith) (omega arith)
        ∙ rw (place, one)

    -- All five of them: the write.
    pub one_write : (item : List ℕ) (a b c e g : ℕ) → length item ≡ 5
        → let bs = a ∷ b ∷ c ∷ e ∷ g ∷ [] in let r = write d (number_at bs 0 1) (number_at bs 1 4) in
        take_bytes start (at h (write_start (version_of h) k) item d 0 m) bs ≡ at h (write_start (version_of h) (k + 1)) no_item r.device r.number m
    unfolding take_bytes after_write
    one_write item a b c e g long =
        five_of
        (λ (l : List ℕ). let bs = a ∷ b ∷ c ∷ e ∷ g ∷ [] in let r = write d (number_at bs 0 1) (number_at bs 1 4) in
        take_bytes start (at h (write_start (version_of h) k) l d 0 m) bs ≡ at h (write_start (version_of h) (k + 1)) no_item r.device r.number m)
        item long
        (λ i₀ i₁ i₂ i₃ i₄.
        let first : write_start (version_of h) k ≡ write_start (version_of h) k + 0 = omega arith in
        rw (
          first,
          write_fills 0 (i₀ ∷ i₁ ∷ i₂ ∷ i₃ ∷ i₄ ∷ []) a (omega arith),
          write_fills 1 (a ∷ i₁ ∷ i₂ ∷ i₃ ∷ i₄ ∷ []) b (omega arith),
          write_fills 2 (a ∷ b ∷ i₂ ∷ i₃ ∷ i₄ ∷ []) c (omega arith),
          write_fills 3 (a ∷ b ∷ c ∷ i₃ ∷ i₄ ∷ []) e (omega arith),
          write_ends (a ∷ b ∷ c ∷ e ∷ i₄ ∷ []) g,
        ))

  -- Byte number j of sample number k.
  module _ (k : ℕ) (inside : k < sample_count h) where
    sample_fills : (j : ℕ) (item : List ℕ) (b : ℕ) → j < 2 → take_byte start (at h (sample_start h k + j) item d 0 m) b ≡ at h (sample_start h k + (j + 1)) (set item j b) d 0 m
    unfolding sample_byte
    sample_fills j item b low =
        let n = sample_start h k + j in
        let place : (n - sample_start h 0) % sample_size ≡ j = omega arith in
        let one : n + 1 ≡ sample_start h k + (j + 1) = omega arith in
        sample_step start h passes d m n item b (omega arith) (omega arith)
        ∙ rw (place, ne_eqb (j + 1) sample_size (λ e. absurd (omega arith)), one)

    sample_ends : (item : List ℕ) (b : ℕ) → take_byte start (at h (sample_start h k + 2) item d 0 m) b ≡ after_sample start (at h (sample_start h (k + 1)) (set item 2 b) d 0 m).state m
    unfolding sample_byte
    sample_ends item b =
        let n = sample_start h k + 2 in
        let place : (n - sample_start h 0) % sample_size ≡ 2 = omega arith in
        let one : n + 1 ≡ sample_start h (k + 1) = omega arith in
        sample_step start h passes d m n item b (omega arith) (omega arith)
        ∙ rw (place, one)

    -- All three of them: a run of the sample.
    pub one_sample : (item : List ℕ) (a b c : ℕ) → length item ≡ 5
        → let r = run d m start (number_at (a ∷ b ∷ c ∷ []) 0 sample_size ∷ []) in
        take_bytes start (at h (sample_start h k) item d 0 m) (a ∷ b ∷ c ∷ []) ≡ at h (sample_start h (k + 1)) no_item r.device r.number r.memory
    unfolding take_bytes after_sample number_at
    one_sample item a b c long =
        five_of
        (λ (l : List ℕ). let r = run d m start (number_at (a ∷ b ∷ c ∷ []) 0 sample_size ∷ []) in
        take_bytes start (at h (sample_start h k) l d 0 m) (a ∷ b ∷ c ∷ []) ≡ at h (sample_start h (k + 1)) no_item r.device r.number r.memory)
        item long
        (λ i₀ i₁ i₂ i₃ i₄.
        let first : sample_start h k ≡ sample_start h k + 0 = omega arith in
        rw (
          first,
          sample_fills 0 (i₀ ∷ i₁ ∷ i₂ ∷ i₃ ∷ i₄ ∷ []) a (omega arith),
          sample_fills 1 (a ∷ i₁ ∷ i₂ ∷ i₃ ∷ i₄ ∷ []) b (omega arith),
          sample_ends (a ∷ b ∷ i₂ ∷ i₃ ∷ i₄ ∷ []) c,
        ))

    -- Fewer than three: they wait.
    pub part_sample : (item bs : List ℕ) → length bs < 3 → (P : Taken → Type 0) → ((item' : List ℕ) → P (at h (sample_start h k + length bs) item' d 0 m))
        → P (take_bytes start (at h (sample_start h k) item d 0 m) bs)
    unfolding take_bytes
    part_sample item [] low P p =
        let none : sample_start h k + 0 ≡ sample_start h k = omega arith in
        rw none at (p item)
    part_sample item (a ∷ []) low P p =
        let first : sample_start h k ≡ sample_start h k + 0 = omega arith in
        rw (first, sample_fills 0 item a (omega arith)) (p (set item 0 a))
    part_sample item (a ∷ b ∷ []) low P p =
        let first : sample_start h k ≡ sample_start h k + 0 = omega arith in
        rw (first, sample_fills 0 item a (omega arith), sample_fills 1 (set item 0 a) b (omega arith)) (p (set (set item 0 a) 1 b))
    part_sample item (a ∷ b ∷ c ∷ bs) low P p = absurd (omega arith)

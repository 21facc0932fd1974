-- The bytes of a header, one after the other: as far as they have come, the head has them, and answers as the file does.
-- The idea: the head agrees with the file on the bytes that have come, and the checks of a header read no others. Assumes nothing.
use mathlib.Core.Bool.{Bool, true, false, cond, not, ◌||◌, false≢true}
use mathlib.Core.List.{List, [], ◌∷◌}
use mathlib.Core.Path.{◌≡◌, refl, sym, ap, ◌∙◌}
use Prim.Native.Nat.{ℕ, zero, suc, ◌+◌, ◌≤◌, ◌<◌}
use native.Mathlib.Decide.{dec_lt}
use native.Mathlib.Numerals.{add-one}
use native.Mathlib.Omega.{arith}
use lib.Dec.{eqb, ltb}
use lib.ListN.{length, take, drop, get_or, set, length-set, replicate, take-append-drop}
use lib.Seq.{take-suc, drop-length, get_or-set_same, get_or-set_other}
use borrow.Author.Tests.{lt-ltb, le-ltb, ltb-true, ltb-false, leb-true, eqb-true}
use Rattle.numbers.specs.Numbers.{number_at}
use Rattle.rules.specs.declared.Device.{Device}
use Rattle.trace_format.specs.Format.{version_for, count_size, header_length, mark}
use Rattle.trace_format.specs.Reading.{same, version_of, write_count, sample_count, whole, header_refusal, form_of}
use Rattle.numbers.proofs.NumberAt.{number_at_suc}
use Rattle.trace_format.proofs.Form.{count_sizes, form_after_header, mark_bytes}
use Rattle.file_rules.specs.Parts.{Taken, no_item, opened, wants, take_byte, take_bytes}
use Rattle.file_rules.proofs.Taking.{at, bytes_append, header_step, unwanted}
use Rattle.file_rules.proofs.Singles.{by_bool}
use Rattle.file_rules.proofs.Content.{Passes}

-- A header that passes, and has the numbers of a file.
pub record Passed (h f : List ℕ) : Type 0 where
  pub passes : Passes h
  pub version : version_of h ≡ version_of f
  pub writes : write_count h ≡ write_count f
  pub samples : sample_count h ≡ sample_count f

-- Two lists agree on their first k bytes.
abbrev pub Agree : ℕ → List ℕ → List ℕ → Type 0
Agree k h f = (i : ℕ) → i < k → get_or h i 0 ≡ get_or f i 0

pub number_at_same : (k : ℕ) (h f : List ℕ) → Agree k h f → (n at : ℕ) → at + n ≤ k → number_at h at n ≡ number_at f at n
unfolding number_at
number_at_same k h f same zero at low = refl
number_at_same k h f same (suc n) at low = rw (number_at_suc h at n, number_at_suc f at n, same at (omega arith), number_at_same k h f same n (at + 1) (omega arith))

pub mark_same : (h f : List ℕ) → Agree 3 h f → same (take 3 h) mark ≡ same (take 3 f) mark
mark_same h f same = rw (mark_bytes h, mark_bytes f, same 0 (omega arith), same 1 (omega arith), same 2 (omega arith))

-- k bytes of the file have come, all of the header.
pub record Heading (start : ℕ) (d : Device) (m f : List ℕ) (k : ℕ) (t : Taken) : Type 0 where
  pub head : List ℕ
  pub long : length head ≡ 10
  pub agree : Agree k head f
  pub is : t ≡ at head k no_item d 0 m

module _ (start : ℕ) (d : Device) (m f : List ℕ) where
  heading_on : (k : ℕ) (t : Taken) (g : Heading start d m f k t) → header_refusal g.head k ≡ 13 → k < header_length (version_of g.head) → k < 10
      → Heading start d m f (k + 1) (take_byte start t (get_or f k 0))
  heading_on k t g short inside low =
      record {
        head = set g.head k (get_or f k 0);
        long = length-set g.head k (get_or f k 0) ∙ g.long;
        agree = λ i h. same i h (dec_lt i k);
        is = rw g.is (header_step start g.head k no_item d 0 m (get_or f k 0) short inside);
      }
    where
      same : (i : ℕ) → i < k + 1 → Dec (i < k) → get_or (set g.head k (get_or f k 0)) i 0 ≡ get_or f i 0
      same i h (yes e) = get_or-set_other g.head k i (get_or f k 0) 0 (λ z. absurd (omega arith)) ∙ g.agree i e
      same i h (no e) =
          let here : i ≡ k = omega arith in
          rw here (get_or-set_same g.head k (get_or f k 0) 0 (rw g.long low))

  -- Mark and version passed: what of a header longer than eight bytes is known once eight are there.
  pub record Known : Type 0 where
    pub marked : same (take 3 f) mark ≡ true
    pub known : eqb (version_of f) 1 || eqb (version_of f) 2 ≡ true

  -- What the head says of the file.
  head_mark : (k : ℕ) (h : List ℕ) → Agree k h f → 3 ≤ k → same (take 3 h) mark ≡ same (take 3 f) mark
  head_mark k h agree low = mark_same h f (λ i b. agree i (omega arith))

  head_version : (k : ℕ) (h : List ℕ) → Agree k h f → 5 ≤ k → version_of h ≡ version_of f
  head_version k h agree low = number_at_same k h f agree 2 3 low

  short_header : (k : ℕ) (t : Taken) (g : Heading start d m f k t) → k < 8 → (header_refusal g.head k ≡ 13) × (k < header_length (version_of g.head))
  unfolding header_refusal
  short_header k t g low = (rw (lt-ltb _ _ low), omega (arith, (count_sizes (version_of g.head)).0))

  long_header : (k : ℕ) (t : Taken) (g : Heading start d m f k t) → Known → 8 ≤ k → k < header_length (version_of f) → (header_refusal g.head k ≡ 13) × (k < header_length (version_of g.head))
  unfolding header_refusal
  long_header k t g known eight low =
      let v = head_version k g.head g.agree (omega arith) in
      (rw (le-ltb _ _ eight, head_mark k g.head g.agree (omega arith), known.marked, v, known.known, lt-ltb _ _ low), rw v low)

  unfoldable pub first_bytes : ℕ → Taken
  first_bytes k = take_bytes start (record { state = opened d; memory = m }) (take k f)

  none_yet : Heading start d m f 0 (first_bytes 0)
  unfolding take_bytes opened first_bytes
  none_yet = record { head = replicate 10 0; long = refl; agree = λ i h. absurd (omega arith); is = refl }

  one_byte_more : (k : ℕ) → k < length f → first_bytes (suc k) ≡ take_byte start (first_bytes k) (get_or f k 0)
  unfolding take_bytes first_bytes
  one_byte_more k low = rw (take-suc f k 0 low) (bytes_append start (record { state = opened d; memory = m }) (take k f) (get_or f k 0 ∷ []))

  reads : (k : ℕ) → Dec (k < 8) → (8 ≤ k → Known × (k < header_length (version_of f))) → (t : Taken) (g : Heading start d m f k t)
      → (header_refusal g.head k ≡ 13) × (k < header_length (version_of g.head)) × (k < 10)
  reads k (yes h) more t g = let (a, b) = short_header k t g h in (a, b, omega arith)
  reads k (no h) more t g =
      let (known, inside) = more (omega arith) in
      let (a, b) = long_header k t g known (omega arith) inside in
      (a, b, omega (arith, (count_sizes (version_of f)).1))

  one_more : (k : ℕ) → k < length f → (8 ≤ k → Known × (k < header_length (version_of f))) → Heading start d m f k (first_bytes k) → Heading start d m f (suc k) (first_bytes (suc k))
  one_more k low more before =
      let (a, b, c) = reads k (dec_lt k 8) more (first_bytes k) before in
      rw (one_byte_more k low, ← add-one k) (heading_on k (first_bytes k) before a b c)

  -- The bytes of the header, as far as it may be read.
  headed_on : (k : ℕ) → k ≤ length f → ((j : ℕ) → j < k → 8 ≤ j → Known × (j < header_length (version_of f))) → Heading start d m f k (first_bytes k)
  headed_on zero low more = none_yet
  headed_on (suc k) low more = one_more k (omega arith) (more k (omega arith)) (headed_on k (omega arith) (λ j h. more j (omega arith)))

  unfoldable pub all_bytes : Taken
  all_bytes = take_bytes start (record { state = opened d; memory = m }) f

  rest_after : (k : ℕ) → all_bytes ≡ take_bytes start (first_bytes k) (drop k f)
  unfolding all_bytes first_bytes
  rest_after k = ap (take_bytes start (record { state = opened d; memory = m })) (sym (take-append-drop k f)) ∙ bytes_append start (record { state = opened d; memory = m }) (take k f) (drop k f)

  -- A header that is refused: no item is taken, and the end answers as the file's form checks do.
  pub record Stopped : Type 0 where
    pub memory : all_bytes.memory ≡ m
    pub form : form_of all_bytes.state.head all_bytes.state.taken ≡ header_refusal f (length f)
    pub some : eqb (header_refusal f (length f)) 0 ≡ false

  stopped : (k x : ℕ) (g : Heading start d m f k (first_bytes k)) → header_refusal g.head k ≡ x → header_refusal f (length f) ≡ x → eqb x 0 ≡ false
      → take_bytes start (at g.head k no_item d 0 m) (drop k f) ≡ at g.head k no_item d 0 m → Stopped
  stopped k x g here there some stays =
      let all : all_bytes ≡ at g.head k no_item d 0 m = rest_after k ∙ ap (λ (t : Taken). take_bytes start t (drop k f)) g.is ∙ stays in
      record { memory = rw all; form = rw all (form_after_header g.head k ∙ rw (here, some, there)); some = rw there some }

  -- Refused by 10, 11 or 12: no byte more is wanted.
  refuses : (k x : ℕ) (g : Heading start d m f k (first_bytes k)) → header_refusal g.head k ≡ x → header_refusal f (length f) ≡ x → eqb x 0 ≡ false → eqb x 13 ≡ false → Stopped
  unfolding wants
  refuses k x g here there some other = stopped k x g here there some (unwanted start (at g.head k no_item d 0 m) (drop k f) (rw (here, some, other)))

  -- The file ends within its header.
  ends : (g : Heading start d m f (length f) (first_bytes (length f))) → header_refusal g.head (length f) ≡ 13 → header_refusal f (length f) ≡ 13 → Stopped
  unfolding take_bytes
  ends g here there = stopped (length f) 13 g here there refl (rw (drop-length f))

  -- A header that passes, and the bytes behind it.
  pub record Started : Type 0 where
    pub head : List ℕ
    pub passed : Passed head f
    pub room : header_length (version_of f) ≤ length f
    pub none : header_refusal f (length f) ≡ 0
    pub is : all_bytes ≡ take_bytes start (at head (header_length (version_of f)) no_item d 0 m) (drop (header_length (version_of f)) f)

  too_short : length f < 8 → Stopped
  unfolding header_refusal
  too_short low =
      let g = headed_on (length f) (omega arith) (λ j h e. absurd (omega arith)) in
      ends g (short_header (length f) (first_bytes (length f)) g low).0 (rw (lt-ltb _ _ low))

  eight : 8 ≤ length f → Heading start d m f 8 (first_bytes 8)
  eight low = headed_on 8 low (λ j h e. absurd (omega arith))

  bad_mark : 8 ≤ length f → same (take 3 f) mark ≡ false → Stopped
  unfolding header_refusal
  bad_mark low e =
      let g = eight low in
      refuses 8 10 g (rw (head_mark 8 g.head g.agree (omega arith), e)) (rw (le-ltb _ _ low, e)) refl refl

  bad_version : 8 ≤ length f → same (take 3 f) mark ≡ true → eqb (version_of f) 1 || eqb (version_of f) 2 ≡ false → Stopped
  unfolding header_refusal
  bad_version low e v =
      let g = eight low in
      refuses 8 11 g (rw (head_mark 8 g.head g.agree (omega arith), e, head_version 8 g.head g.agree (omega arith), v)) (rw (le-ltb _ _ low, e, v)) refl refl

  cut_header : 8 ≤ length f → Known → length f < header_length (version_of f) → Stopped
  unfolding header_refusal
  cut_header low known short =
      let g = headed_on (length f) (omega arith) (λ j h e. (known, omega arith)) in
      ends g (long_header (length f) (first_bytes (length f)) g known low short).0 (rw (le-ltb _ _ low, known.marked, known.known, lt-ltb _ _ short))

  -- The whole header has come.
  module _ (known : Known) (room : header_length (version_of f) ≤ length f) where
    whole_header : Heading start d m f (header_length (version_of f)) (first_bytes (header_length (version_of f)))
    whole_header = headed_on (header_length (version_of f)) room (λ j h e. (known, h))

    h : List ℕ
    h = whole_header.head

    agrees : Agree (header_length (version_of f)) h f
    unfolding h
    agrees = whole_header.agree

    version : version_of h ≡ version_of f
    version = head_version (header_length (version_of f)) h agrees (omega (arith, (count_sizes (version_of f)).0))

    writes : write_count h ≡ write_count f
    writes = number_at_same (header_length (version_of f)) h f agrees 1 5 (omega (arith, (count_sizes (version_of f)).0))

    samples_number : number_at h 6 (count_size (version_of f)) ≡ sample_count f
    samples_number = number_at_same (header_length (version_of f)) h f agrees (count_size (version_of f)) 6 (omega arith)

    samples : sample_count h ≡ sample_count f
    samples = rw version samples_number

    checks : (n : ℕ) → header_length (version_of f) ≤ n → header_refusal h n ≡ cond (not (eqb (version_of f) (version_for (sample_count f)))) 12 0
    unfolding header_refusal
    checks n low =
        rw (
          le-ltb n 8 (omega (arith, (count_sizes (version_of f)).0)),
          head_mark (header_length (version_of f)) h agrees (omega (arith, (count_sizes (version_of f)).0)),
          known.marked,
          version,
          known.known,
          le-ltb _ _ low,
          samples_number,
        )

    file_checks : header_refusal f (length f) ≡ cond (not (eqb (version_of f) (version_for (sample_count f)))) 12 0
    unfolding header_refusal
    file_checks = rw (le-ltb (length f) 8 (omega (arith, (count_sizes (version_of f)).0)), known.marked, known.known, le-ltb _ _ room)

    bad_count : eqb (version_of f) (version_for (sample_count f)) ≡ false → Stopped
    unfolding h
    bad_count e = refuses (header_length (version_of f)) 12 whole_header (checks (header_length (version_of f)) (omega arith) ∙ rw e) (file_checks ∙ rw e) refl refl

    started : eqb (version_of f) (version_for (sample_count f)) ≡ true → Started
    unfolding h
    started e =
        record {
          head = h;
          passed = record { passes = λ n low. checks n (rw version at low) ∙ rw e; version = version; writes = writes; samples = samples };
          room = room;
          none = file_checks ∙ rw e;
          is = rest_after (header_length (version_of f)) ∙ ap (λ (t : Taken). take_bytes start t (drop (header_length (version_of f)) f)) whole_header.is;
        }

  -- Either the header is refused, or the rest of the bytes are its items'.
  pub by_header : {A : Type 0} → (Stopped → A) → (Started → A) → A
  by_header refused passes =
      by_bool (ltb (length f) 8)
      (λ low. refused (too_short (ltb-true _ _ low)))
      (λ high.
      let room : 8 ≤ length f = ltb-false _ _ high in
      by_bool (same (take 3 f) mark)
      (λ marked.
      by_bool (eqb (version_of f) 1 || eqb (version_of f) 2)
      (λ version.
      let known : Known = record { marked = marked; known = version } in
      by_bool (ltb (length f) (header_length (version_of f)))
      (λ cut. refused (cut_header room known (ltb-true _ _ cut)))
      (λ there.
      by_bool (eqb (version_of f) (version_for (sample_count f)))
      (λ count. passes (started known (ltb-false _ _ there) count))
      (λ count. refused (bad_count known (ltb-false _ _ there) count))))
      (λ version. refused (bad_version room marked version)))
      (λ marked. refused (bad_mark room marked)))

-- Behind the header its checks no longer depend on the length; a byte is wanted there if they pass and no byte too many has come.
behind_header : List ℕ → ℕ
behind_header h = cond (not (same (take 3 h) mark)) 10 (cond (not (eqb (version_of h) 1 || eqb (version_of h) 2)) 11 (cond (not (eqb (version_of h) (version_for (sample_count h)))) 12 0))

checks_behind : (h : List ℕ) (n : ℕ) → header_length (version_of h) ≤ n → header_refusal h n ≡ behind_header h
unfolding header_refusal behind_header
checks_behind h n low = rw (le-ltb n 8 (omega (arith, (count_sizes (version_of h)).0)), le-ltb _ _ low)

never_short : (h : List ℕ) → eqb (behind_header h) 13 ≡ false
unfolding behind_header
never_short h = go (same (take 3 h) mark) (eqb (version_of h) 1 || eqb (version_of h) 2) (eqb (version_of h) (version_for (sample_count h)))
  where
    go : (a b c : Bool) → eqb (cond (not a) 10 (cond (not b) 11 (cond (not c) 12 0))) 13 ≡ false
    go false b c = refl
    go true false c = refl
    go true true false = refl
    go true true true = refl

pub wants_within : (h : List ℕ) (n : ℕ) → wants h n ≡ true → header_length (version_of h) ≤ n → (header_refusal h n ≡ 0) × (n ≤ whole h)
unfolding wants
wants_within h n e low =
    by_bool (eqb (header_refusal h n) 0)
    (λ passes. (eqb-true _ 0 passes, leb-true n (whole h) (rw passes at e)))
    (λ refused. absurd (false≢true (sym (ap (λ (x : ℕ). eqb x 13) (checks_behind h n low) ∙ never_short h) ∙ (rw refused at e))))

-- A header that passes once passes whatever follows.
pub passes_on : (h : List ℕ) (n : ℕ) → header_refusal h n ≡ 0 → header_length (version_of h) ≤ n → Passes h
passes_on h n e low k high = checks_behind h k high ∙ sym (checks_behind h n low) ∙ e

pub header_ten : (h : List ℕ) → header_length (version_of h) ≤ 10
header_ten h = omega (arith, (count_sizes (version_of h)).1)

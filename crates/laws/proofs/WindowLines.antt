-- The end of the window's last line, by the lines begun and HSYNC (request W1): where it ends, that it never runs on, and how often FRAME has risen by then. The idea: every case
-- is one of numbers and truth values. Assumes nothing.
use mathlib.Core.Bool.{Bool, true, false, cond, not, ◌&&◌, ◌||◌}
use mathlib.Core.Path.{◌≡◌, refl}
use Prim.Native.Nat.{ℕ, ◌+◌, ◌<◌}
use native.Mathlib.Decide.{dec_lt}
use native.Mathlib.Omega.{arith}
use lib.Dec.{eqb, ltb, leb}
use borrow.Author.Tests.{lt-ltb, le-ltb, le-leb, lt-leb, eqb-true}
use Rattle.bits.proofs.Booleans.{or_false, or_true, or_unit, and_zero, by_cond}
use Rattle.rules.specs.declared.Scan.{Scan}
use Rattle.rules.specs.declared.Capture.{Capture}
use Rattle.rules.specs.Capture.{line_begins, next_pixel}

-- The line has ended, by the lines up to the window's last, the lines begun, and whether HSYNC blanked last. Once begun it ends where HSYNC blanks.
abbrev pub over : ℕ → ℕ → Bool → Bool
over n lines blanked = leb n lines && (ltb n lines || blanked)

pub over_blanks : (n lines : ℕ) (blanked : Bool) → over n lines true ≡ over n lines blanked || (leb n lines && true)
over_blanks n lines blanked = go (leb n lines) (ltb n lines) blanked
  where
    go : (begun more blanked : Bool) → begun && (more || true) ≡ begun && (more || blanked) || (begun && true)
    go false more blanked = refl
    go true true blanked = refl
    go true false true = refl
    go true false false = refl

-- A pixel begins the next line if HSYNC blanked last, or the first; a line that has ended never runs on.
pub over_begins : (n lines : ℕ) → over n (lines + 1) false ≡ over n lines true || (leb n lines && false)
over_begins n lines = go (dec_lt lines n)
  where
    go : Dec (lines < n) → over n (lines + 1) false ≡ over n lines true || (leb n lines && false)
    go (yes fewer) = rw (le-ltb n (lines + 1) (omega arith), and_zero (leb n (lines + 1)), lt-leb n lines fewer)
    go (no fewer) = rw (lt-ltb n (lines + 1) (omega arith), le-leb n (lines + 1) (omega arith), le-leb n lines (omega arith), or_true (ltb n lines))

over_first : (n lines : ℕ) → 0 < n → lines ≡ 0 → over n (lines + 1) false ≡ over n lines false || (leb n lines && false)
over_first n lines pos e = rw (e, le-ltb n 1 (omega arith), and_zero (leb n 1), lt-leb n 0 pos)

pub over_pixel : (n : ℕ) (s : Capture) (f : Scan) → 0 < n
    → over n (next_pixel s f).lines false ≡ over n f.lines s.syncs.hsync || (leb n f.lines && false)
unfolding next_pixel line_begins
over_pixel n s f pos =
    by_cond (λ (g : Scan). over n g.lines false ≡ over n f.lines s.syncs.hsync || (leb n f.lines && false))
    (s.syncs.hsync || eqb f.lines 0)
    _ _
    (begins s.syncs.hsync)
    (λ on. rw ((or_false s.syncs.hsync (eqb f.lines 0) on).0, and_zero (leb n f.lines), or_unit (over n f.lines false)))
  where
    begins : (blanked : Bool) → blanked || eqb f.lines 0 ≡ true → over n (f.lines + 1) false ≡ over n f.lines blanked || (leb n f.lines && false)
    begins true e = over_begins n f.lines
    begins false e = over_first n f.lines pos (eqb-true f.lines 0 e)

-- FRAME rises where the line ends, in a taken frame with CROP 1: `ended` is of before the edge, `begun` of the line, `blanks` of HSYNC.
pub risen_on : (taken cropped ended begun blanks : Bool) (n : ℕ) → n ≡ cond (taken && (cropped && ended)) 1 0
    → cond (taken && cond cropped (not ended && (begun && blanks || false)) false) (n + 1) n ≡ cond (taken && (cropped && (ended || (begun && blanks)))) 1 0
risen_on false cropped ended begun blanks n e = e
risen_on true false ended begun blanks n e = e
risen_on true true true begun blanks n e = e
risen_on true true false false blanks n e = e
risen_on true true false true false n e = e
risen_on true true false true true n e = rw e

-- And at frame end, if it has not risen.
pub risen_by_end : (taken cropped ended after : Bool) (n : ℕ) → n ≡ cond (taken && (cropped && ended)) 1 0
    → cond (taken && cond cropped (not ended && (after || true)) true) (n + 1) n ≡ cond taken 1 0
risen_by_end false cropped ended after n e = e
risen_by_end true false ended after n e = rw e
risen_by_end true true true after n e = e
risen_by_end true true false after n e = rw (or_true after, e)

-- Line VST + VLINE has begun if more lines than that have.
pub last_begun : (first more lines : ℕ) → ltb (first + more) lines ≡ leb (first + (more + 1)) lines
last_begun first more lines = go (dec_lt (first + more) lines)
  where
    go : Dec (first + more < lines) → ltb (first + more) lines ≡ leb (first + (more + 1)) lines
    go (yes h) = rw (lt-ltb _ _ h, le-leb (first + (more + 1)) lines (omega arith))
    go (no h) = rw (le-ltb (first + more) lines (omega arith), lt-leb (first + (more + 1)) lines (omega arith))

-- Before any line, and HSYNC blanking or not, it has not ended.
pub over_none : (n : ℕ) (blanked : Bool) → 0 < n → over n 0 blanked ≡ false
over_none n blanked pos = rw (lt-leb n 0 pos)

-- Nor in the first line.
pub over_first_line : (n : ℕ) → 0 < n → over n 1 false ≡ false
over_first_line n pos = rw (le-ltb n 1 (omega arith), and_zero (leb n 1))

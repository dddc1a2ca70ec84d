-- The part's greatest end compared with its length, and each record's end compared with its parent's end, or with the length where there is
-- no parent, as the cell rules had it before: both accept the same parts. By induction on the words, four at a time. Assumes nothing.
use mathlib.Core.Path.{◌≡◌, refl, sym, ap}
use mathlib.Core.Bool.{Bool, true, false, ◌&&◌}
use mathlib.Core.List.{List, [], ◌∷◌}
use Prim.Native.Nat.{ℕ, ◌+◌, max, ◌≤◌}
use native.Mathlib.Omega.{arith}
use native.Mathlib.Decide.{dec_le}
use borrow.Author.Tests.{le-leb, lt-leb, leb-true}
use lib.Dec.{leb}
use Rattle.part.specs.Part.{greatest_end, part_check}
use Rattle.rules.specs.PartLowest.{Around, still, earliest, ends_inside, ranges, is_accepted, part_kept}
use Rattle.rules.proofs.Tests.{and_none}

-- the parent's end; the part's length l where there is no parent
unfoldable pub bound : (l : ℕ) → List Around → ℕ
bound l [] = l
bound l (a ∷ outer) = a.end

-- the ranges of the records from the offset off on, each within its parent or, without one, within the length l
unfoldable pub ranges_within : (l off lo : ℕ) → List Around → List ℕ → Bool
ranges_within l off lo outer [] = true
ranges_within l off lo outer (i ∷ []) = true
ranges_within l off lo outer (i ∷ s ∷ []) = true
ranges_within l off lo outer (i ∷ s ∷ e ∷ []) = true
ranges_within l off lo outer (i ∷ s ∷ e ∷ x ∷ ws) =
    leb (earliest off lo outer) s
    && (leb e (bound l (still off outer))
    && ranges_within l (off + 4) s (record { stop = x; end = e } ∷ still off outer) ws)

-- all records around end at l or before it
abbrev Ended : (l : ℕ) → List Around → Type 0
Ended l [] = Unit {0}
Ended l (a ∷ outer) = (a.end ≤ l) × Ended l outer

ended_still : (l off : ℕ) (outer : List Around) → Ended l outer → Ended l (still off outer)
unfolding still
ended_still l off [] h = h
ended_still l off (a ∷ outer) h = go (leb a.stop off) (ended_still l off outer h.1)
  where
    go : (b : Bool) → Ended l (still off outer) → Ended l (elim b [ true ↦ still off outer | false ↦ a ∷ outer ])
    go true r = r
    go false r = h

leb_max : (a b l : ℕ) → leb (max a b) l ≡ (leb a l && leb b l)
leb_max a b l = go (dec_le a l) (dec_le b l)
  where
    go : Dec (a ≤ l) → Dec (b ≤ l) → leb (max a b) l ≡ (leb a l && leb b l)
    go (yes x) (yes y) = rw (le-leb (max a b) l (omega arith), le-leb a l x, le-leb b l y)
    go (yes x) (no y) = rw (lt-leb (max a b) l (omega arith), le-leb a l x, lt-leb b l (omega arith))
    go (no x) y = rw (lt-leb (max a b) l (omega arith), lt-leb a l (omega arith))

-- within the parent or the length is within the length and within the parent
leb_bound : (l e : ℕ) (outer : List Around) → Ended l outer → leb e (bound l outer) ≡ (leb e l && ends_inside e outer)
unfolding bound ends_inside
leb_bound l e [] h = go (leb e l)
  where
    go : (b : Bool) → b ≡ (b && true)
    go true = refl
    go false = refl
leb_bound l e (a ∷ outer) h = go (dec_le e l)
  where
    go : Dec (e ≤ l) → leb e a.end ≡ (leb e l && ends_inside e (a ∷ outer))
    go (yes x) = rw (le-leb e l x)
    go (no x) = rw (lt-leb e l (omega arith), lt-leb e a.end (omega (arith, h.0)))

-- the length's test stands before those of the record
move : (a b c d : Bool) → a && (b && (c && d)) ≡ c && (a && (b && d))
move true true c d = refl
move true false c d = sym (and_none c)
move false b c d = sym (and_none c)

-- where all records around end at l or before it, both forms say the same of the records that follow
within_exactly : (l off lo : ℕ) (outer : List Around) (ws : List ℕ) → Ended l outer → ranges_within l off lo outer ws ≡ (leb (greatest_end ws) l && ranges off lo outer ws)
unfolding ranges_within ranges greatest_end
within_exactly l off lo outer [] h = rw (le-leb 0 l (omega arith))
within_exactly l off lo outer (i ∷ []) h = rw (le-leb 0 l (omega arith))
within_exactly l off lo outer (i ∷ s ∷ []) h = rw (le-leb 0 l (omega arith))
within_exactly l off lo outer (i ∷ s ∷ e ∷ []) h = rw (le-leb 0 l (omega arith))
within_exactly l off lo outer (i ∷ s ∷ e ∷ x ∷ ws) h =
    rw (leb_bound l e (still off outer) (ended_still l off outer h), leb_max e (greatest_end ws) l)
    (go (leb e l) (λ q. within_exactly l (off + 4) s (record { stop = x; end = e } ∷ still off outer) ws (leb-true e l q, ended_still l off outer h)) refl)
  where
    inside : Bool
    inside = ends_inside e (still off outer)

    rest_within : Bool
    rest_within = ranges_within l (off + 4) s (record { stop = x; end = e } ∷ still off outer) ws

    rest : Bool
    rest = ranges (off + 4) s (record { stop = x; end = e } ∷ still off outer) ws

    go : (b : Bool) → (leb e l ≡ true → rest_within ≡ (leb (greatest_end ws) l && rest)) → leb e l ≡ b
        → leb (earliest off lo outer) s && ((b && inside) && rest_within) ≡ (b && leb (greatest_end ws) l) && (leb (earliest off lo outer) s && (inside && rest))
    go true r q = rw (r q) (move (leb (earliest off lo outer) s) inside (leb (greatest_end ws) l) rest)
    go false r q = and_none (leb (earliest off lo outer) s)

-- The cell rules mean what they meant: the part passes 16 to 20 and each of its records ends within its parent, or within the part's length.
pub kept_as_before : (T l : ℕ) (ws : List ℕ) → part_kept T l ws ≡ (is_accepted (part_check ws T) && ranges_within l 0 0 [] ws)
unfolding part_kept
kept_as_before T l ws = ap (λ b. is_accepted (part_check ws T) && b) (sym (within_exactly l 0 0 [] ws tt))

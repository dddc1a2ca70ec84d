-- The greatest end and the deepest nesting, one record further. Assumes nothing.
use mathlib.Core.Path.{◌≡◌, refl}
use mathlib.Core.List.{List, [], ◌∷◌}
use Prim.Native.Nat.{ℕ, suc, ◌+◌, ◌-◌, ◌*◌, ◌/◌, max, ◌≤◌, ◌<◌}
use native.Mathlib.Omega.{arith}
use lib.ListN.{length, drop, length-drop}
use Rattle.words.specs.Words.{end_of}
use Rattle.words.proofs.Runs.{four_at}
use Rattle.part.specs.Part.{greatest_end, enclosing, deepest_from}

greatest_step : (w : List ℕ) (i : ℕ) → i * 4 + 4 ≤ length w → greatest_end (drop (i * 4) w) ≡ max (end_of w i) (greatest_end (drop ((i + 1) * 4) w))
unfolding greatest_end
greatest_step w i l = rw (four_at w i l)

greatest_short : (w : List ℕ) → length w < 4 → greatest_end w ≡ 0
unfolding greatest_end
greatest_short [] l = refl
greatest_short (a ∷ []) l = refl
greatest_short (a ∷ b ∷ []) l = refl
greatest_short (a ∷ b ∷ c ∷ []) l = refl
greatest_short (a ∷ b ∷ c ∷ d ∷ rest) l = absurd (omega arith)

deepest_step : (w : List ℕ) (i n : ℕ) → i < n → deepest_from w i (n - i) ≡ max (enclosing w i (i * 4) + 1) (deepest_from w (i + 1) (n - (i + 1)))
unfolding deepest_from
deepest_step w i n l =
    let e : n - i ≡ suc (n - (i + 1)) = omega arith in
    rw e

deepest_end : (w : List ℕ) (i n : ℕ) → n ≤ i → deepest_from w i (n - i) ≡ 0
unfolding deepest_from
deepest_end w i n l =
    let e : n - i ≡ 0 = omega arith in
    rw e

-- The counts of the records before record i, and those of the rest, make up the whole's.
pub record Counted (w : List ℕ) (i greatest deepest : ℕ) : Type 0 where
  pub ends : greatest_end w ≡ max greatest (greatest_end (drop (i * 4) w))
  pub nests : deepest_from w 0 (length w / 4) ≡ max deepest (deepest_from w i (length w / 4 - i))

pub counted_none : (w : List ℕ) → Counted w 0 0 0
counted_none w =
    let e : length w / 4 - 0 ≡ length w / 4 = omega arith in
    record { ends = omega arith; nests = rw e (omega arith) }

module _ (w : List ℕ) (i greatest deepest : ℕ) (c : Counted w i greatest deepest) where
  pub counted_next : (g d : ℕ) → i * 4 + 4 ≤ length w → g ≡ max greatest (end_of w i) → d ≡ max deepest (enclosing w i (i * 4) + 1) → Counted w (i + 1) g d
  counted_next g d l p q = record {
    ends = omega (arith, c.ends, greatest_step w i l);
    nests = omega (arith, c.nests, deepest_step w i (length w / 4) (omega arith));
  }

  pub counted_greatest : length w / 4 ≤ i → greatest ≡ greatest_end w
  counted_greatest l = omega (arith, c.ends, greatest_short (drop (i * 4) w) (rw length-drop (omega arith)))

  pub counted_deepest : length w / 4 ≤ i → deepest ≡ deepest_from w 0 (length w / 4)
  counted_deepest l = omega (arith, c.nests, deepest_end w i (length w / 4) l)

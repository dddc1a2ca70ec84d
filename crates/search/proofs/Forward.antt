-- The choice at a match, and at one record more, by the steps that are left. Assumes nothing.
use mathlib.Core.Path.{◌≡◌, refl, sym, ap, ◌∙◌}
use mathlib.Core.List.{List, ◌∷◌}
use mathlib.Core.Bool.{Bool, true, false}
use Rattle.std.specs.Prelude.{Option, None, Some}
use Prim.Native.Nat.{ℕ, suc, ◌<◌, ◌+◌, ◌-◌}
use native.Mathlib.Omega.{arith}
use lib.IntN.{ℤ, pos}
use lib.ListN.{get_or}
use lib.Signed.{lt_z}
use mir.Val.{to_z, of_z, SFits}
use mir.Syntax.{w8}
use mir.Facts.{to_z-of_z}
use Rattle.search.specs.Search.{way, way_to, choose, matching, child}
use Rattle.search.specs.Way.{Linked}
use Rattle.search.proofs.Walk.{Ahead, way_step, choose_first, choose_later, choose_miss}

module _ (w : List ℕ) (from to : ℕ) (linked : Linked w from to) where
  -- one record further
  pub way_next : (at f n : ℕ) → at < to → Ahead w to at f → n ≡ get_or w (at + 3) 0 → way w f at to ≡ at ∷ way w (f - 1) n to
  way_next at f n l a e =
      let s : f ≡ suc (f - 1) = omega (arith, a.enough) in
      rw e (ap (λ (k : ℕ). way w k at to) s ∙ way_step w (f - 1) at to l)

-- The choice at one element more: what is found after the element, `e`, is the element itself where the search goes on past a match.
pub choose_on : (test : ℕ → Bool) (forward : Bool) (d : Option ℕ) (a : ℕ) (l : List ℕ) (e : Option ℕ)
    → (test a ≡ true → (forward ≡ false) × (e ≡ Some a)) → (test a ≡ false → e ≡ d) → choose test forward d (a ∷ l) ≡ choose test forward e l
choose_on test forward d a l e hit miss = go (test a) refl
  where
    go : (t : Bool) → test a ≡ t → choose test forward d (a ∷ l) ≡ choose test forward e l
    go true k = choose_later test forward d a l k (hit k).0 ∙ ap (λ (o : Option ℕ). choose test forward o l) (sym (hit k).1)
    go false k = choose_miss test forward d a l k ∙ ap (λ (o : Option ℕ). choose test forward o l) (sym (miss k))

pub first_forward : (w : List ℕ) (from to : ℕ) (direction : ℤ) (position base : ℕ) (side : ℤ) (at f : ℕ) (d : Option ℕ) → Linked w from to → SFits w8 direction → SFits w8 side → at < to → Ahead w to at f → choose (matching w position base (to_z w8 (of_z w8 side))) (lt_z (pos 0) (to_z w8 (of_z w8 direction))) None (way_to w from to) ≡ choose (matching w position base (to_z w8 (of_z w8 side))) (lt_z (pos 0) (to_z w8 (of_z w8 direction))) d (way w f at to) → true ≡ matching w position base (to_z w8 (of_z w8 side)) at → lt_z (pos 0) (to_z w8 (of_z w8 direction)) ≡ true → child w from to direction position base side ≡ Some at
unfolding child
first_forward w from to direction position base side at f d linked dfits sfits below ahead same hit forward =
    let step = ap (choose (matching w position base (to_z w8 (of_z w8 side))) (lt_z (pos 0) (to_z w8 (of_z w8 direction))) d) (way_next w from to linked at f (get_or w (at + 3) 0) below ahead refl) in
    let whole = same ∙ step ∙ choose_first (matching w position base (to_z w8 (of_z w8 side))) (lt_z (pos 0) (to_z w8 (of_z w8 direction))) d at (way w (f - 1) (get_or w (at + 3) 0) to) (sym hit) forward in
    rw (to_z-of_z dfits, to_z-of_z sfits) at whole

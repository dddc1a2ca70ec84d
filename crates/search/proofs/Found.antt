-- The choice at a match: a forward search ends there. Assumes nothing.
use mathlib.Core.Path.{◌≡◌, sym, ap, ◌∙◌}
use mathlib.Core.List.{List, ◌∷◌}
use mathlib.Core.Bool.{Bool, true}
use Rattle.search.specs.declared.Way.{Way}
use Rattle.std.specs.Prelude.{Option, None, Some}
use Prim.Native.Nat.{ℕ}
use lib.IntN.{ℤ, pos}
use lib.Signed.{lt_z}
use mir.Val.{to_z, of_z, SFits}
use mir.Syntax.{w8}
use mir.Facts.{to_z-of_z}
use Rattle.search.specs.Search.{way_to, choose, matching, child}
use Rattle.search.proofs.Walk.{choose_first}

module _ (w : List ℕ) (position base : ℕ) (direction side : ℤ) where
  abbrev test : ℕ → Bool
  test = matching w position base (to_z w8 (of_z w8 side))

  abbrev forward : Bool
  forward = lt_z (pos 0) (to_z w8 (of_z w8 direction))

pub found_forward : (w : List ℕ) (from to : ℕ) (direction : ℤ) (position base : ℕ) (side : ℤ) (at : ℕ) (s t : Way) (d : Option ℕ) → way_to s.words.now s.at s.to ≡ at ∷ way_to t.words.now t.at t.to → choose (test w position base direction side) (forward w position base direction side) None (way_to w from to) ≡ choose (test w position base direction side) (forward w position base direction side) d (way_to s.words.now s.at s.to) → true ≡ matching w position base (to_z w8 (of_z w8 side)) at → lt_z (pos 0) (to_z w8 (of_z w8 direction)) ≡ true → SFits w8 direction → SFits w8 side → child w from to direction position base side ≡ Some at
unfolding child
found_forward w from to direction position base side at s t d step same hit forward_true dfits sfits =
    let on = ap (choose (test w position base direction side) (forward w position base direction side) d) step in
    let whole = same ∙ on ∙ choose_first (test w position base direction side) (forward w position base direction side) d at (way_to t.words.now t.at t.to) (sym hit) forward_true in
    rw (to_z-of_z dfits, to_z-of_z sfits) at whole

-- The kind of a cell in the store is that of the cell's type under the set. Assumes nothing.
use mathlib.Core.Path.{◌≡◌, refl, ap₂, ◌∙◌}
use mathlib.Core.Bool.{Bool, true, false}
use Rattle.std.specs.Prelude.{Option, None, Some}
use Prim.Native.Nat.{ℕ, zero, suc}
use native.Mathlib.Omega.{arith}
use borrow.Author.Tests.{ne_eqb}
use Rattle.tree.specs.Cells.{kind, id_word}
use Rattle.tree.specs.Balance.{in_set}
use Rattle.store.specs.Store.{stored_kind}
use Rattle.balance.specs.Steps.{kind_stored}

kind_of : (f : Bool) (t : Option ℕ) → kind_stored f (kind t) (id_word t) ≡ stored_kind (in_set f t)
unfolding kind id_word
kind_of false t = refl
kind_of true None = refl
kind_of true (Some zero) = refl
kind_of true (Some (suc i)) = rw (ne_eqb (suc i) 0 (λ e. omega arith))

-- of a cell whose kind and id are those of a type
pub kind_as : (f : Bool) (t : Option ℕ) {k i : ℕ} → k ≡ kind t → i ≡ id_word t → kind_stored f k i ≡ stored_kind (in_set f t)
kind_as f t ek ei = ap₂ (kind_stored f) ek ei ∙ kind_of f t

-- and of none
pub none_kind : (f : Bool) → 3 ≡ stored_kind (in_set f None)
unfolding kind
none_kind false = refl
none_kind true = refl

-- Types as nodes tell them: nodes compare as their types do under the set, and a node's cell has its type again. Assumes nothing.
use mathlib.Core.Path.{◌≡◌, refl, sym, ap, ◌∙◌}
use mathlib.Core.Bool.{Bool, true, false, cond}
use mathlib.Core.List.{List}
use Rattle.std.specs.Prelude.{Option, None, Some}
use Prim.Native.Nat.{ℕ, zero, suc, ◌+◌, ◌%◌}
use native.Mathlib.Omega.{arith}
use lib.Dec.{eqb}
use lib.ListN.{get_or}
use Rattle.tree.specs.Cells.{kind, id_word}
use Rattle.tree.specs.Balance.{in_set, equal_types, same_type}
use Rattle.store.specs.Store.{stored_kind, kind_written, typed}

pub type_same : (t u : Option ℕ) → kind t ≡ kind u → id_word t ≡ id_word u → t ≡ u
unfolding kind id_word
type_same None None k i = refl
type_same None (Some b) k i = absurd (omega arith)
type_same (Some a) None k i = absurd (omega arith)
type_same (Some a) (Some b) k i = ap Some i

pub not_part : (t : Option ℕ) → kind t ≡ 2 → ⊥
unfolding kind
not_part None k = omega arith
not_part (Some a) k = omega arith

pub no_part_kind : (f : Bool) (t : Option ℕ) → stored_kind (in_set f t) ≡ 2 → ⊥
no_part_kind false t k = not_part t k
no_part_kind true None k = omega arith
no_part_kind true (Some zero) k = omega arith
no_part_kind true (Some (suc i)) k = omega arith

-- the cell of a node has the kind of the node's type
pub kind_back : (f : Bool) (t : Option ℕ) → kind_written (stored_kind (in_set f t)) ≡ kind t
unfolding kind
kind_back false None = refl
kind_back false (Some i) = refl
kind_back true None = refl
kind_back true (Some zero) = refl
kind_back true (Some (suc i)) = refl

-- so a node's kind and id tell one type, whatever the set
pub stored_same : (f g : Bool) (t u : Option ℕ) → stored_kind (in_set f t) ≡ stored_kind (in_set g u) → id_word t ≡ id_word u → t ≡ u
stored_same f g t u k i = type_same t u (sym (kind_back f t) ∙ (ap kind_written k ∙ kind_back g u)) i

-- nodes compare as types do under the set
compared : (f : Bool) (t u : Option ℕ)
    → cond (eqb (stored_kind (in_set f u) % 4) (stored_kind (in_set f t) % 4)) (eqb (id_word t) (id_word u)) false ≡ same_type (in_set f t) u
unfolding kind id_word equal_types
compared false None None = refl
compared false None (Some i) = refl
compared false (Some r) None = refl
compared false (Some r) (Some i) = refl
compared true None None = refl
compared true None (Some zero) = refl
compared true None (Some (suc i)) = refl
compared true (Some zero) None = refl
compared true (Some zero) (Some zero) = refl
compared true (Some zero) (Some (suc i)) = refl
compared true (Some (suc r)) None = refl
compared true (Some (suc r)) (Some zero) = refl
compared true (Some (suc r)) (Some (suc i)) = refl

pub typed_is : (f : Bool) (t u : Option ℕ) (w : List ℕ) (n : ℕ) → get_or w n 0 ≡ stored_kind (in_set f u) → get_or w (n + 1) 0 ≡ id_word u
    → typed w n (stored_kind (in_set f t)) (id_word t) ≡ same_type (in_set f t) u
typed_is f t u w n k i = rw (k, i) (compared f t u)

-- a part's node is of no type
not_two : (f : Bool) (t : Option ℕ) → eqb 2 (stored_kind (in_set f t) % 4) ≡ false
unfolding kind
not_two false None = refl
not_two false (Some i) = refl
not_two true None = refl
not_two true (Some zero) = refl
not_two true (Some (suc i)) = refl

pub typed_part : (f : Bool) (t : Option ℕ) (w : List ℕ) (n : ℕ) → get_or w n 0 ≡ 2 → typed w n (stored_kind (in_set f t)) (id_word t) ≡ false
typed_part f t w n k = rw (k, not_two f t)

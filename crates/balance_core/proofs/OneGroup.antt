-- Under a share above its size a row is one group, so that group's size is the row's. Assumes nothing.
use mathlib.Core.Path.{◌≡◌, sym, ap, ◌∙◌}
use mathlib.Core.Bool.{true}
use mathlib.Core.List.{List, [], ◌∷◌}
use Prim.Native.Nat.{ℕ, ◌+◌, ◌≤◌, ◌<◌}
use native.Mathlib.Omega.{arith}
use borrow.Author.Tests.{lt-ltb}
use Rattle.tree.specs.Trees.{Trees, nil, tree, part, ◌⊕◌, siblings}
use Rattle.tree.specs.Balance.{SetType, total, groups, groups_from}
use Rattle.tree.proofs.ListingLaws.{⊕-nil, ⊕-assoc}
use Rattle.tree.proofs.FuelLaws.{total-⊕}
use Rattle.balance_core.specs.Rows.{Row, Grouped}
use Rattle.balance_core.proofs.Growth.{from_tree, from_part, one_part}

module _ (t : SetType) (m : ℕ) where
  one_from : (cur : Trees) (n : ℕ) (ts : Trees) → n + total t ts < m → groups_from t m cur n ts ≡ (cur ⊕ ts) ∷ []
  unfolding groups_from ◌⊕◌
  one_from cur n nil l = ap (λ (x : Trees). x ∷ []) (sym (⊕-nil cur))
  one_from cur n (tree u s k kids rest) l =
      let c : Trees = tree u s k kids nil in
      let e = total-⊕ t c rest in
      from_tree t m cur n u s k kids rest true (lt-ltb (n + total t c) m (omega arith))
      ∙ one_from (cur ⊕ c) (n + total t c) rest (omega arith)
      ∙ ap (λ (x : Trees). x ∷ []) (⊕-assoc cur c rest)
  one_from cur n (part s k ws rest) l =
      let c : Trees = part s k ws nil in
      let e = total-⊕ t c rest in
      let o = one_part t s k ws in
      from_part t m cur n s k ws rest true (lt-ltb (n + 1) m (omega arith))
      ∙ one_from (cur ⊕ c) (n + 1) rest (omega arith)
      ∙ ap (λ (x : Trees). x ∷ []) (⊕-assoc cur c rest)

  one_group : (us : Trees) → 1 ≤ siblings us → total t us < m → groups t m us ≡ us ∷ []
  unfolding groups siblings ◌⊕◌
  one_group nil s l = absurd (omega arith)
  one_group (tree u s k kids rest) p l =
      let c : Trees = tree u s k kids nil in
      one_from c (total t c) rest (omega (arith, total-⊕ t c rest))
  one_group (part s k ws rest) p l =
      let c : Trees = part s k ws nil in
      one_from c 1 rest (omega (arith, total-⊕ t c rest, one_part t s k ws))

first_is : (g h : Trees) (gs hs : List Trees) → g ∷ gs ≡ h ∷ hs → g ≡ h
first_is g h gs hs e = cc

pub row_sized : (w : List ℕ) (node k kd i m : ℕ) (p : Row w node k kd i) (count sum next end : ℕ) → m ≡ 4294967295 → 1 ≤ k
    → Grouped w node k kd i m p count sum next end → sum ≡ total p.type p.us
row_sized w node k kd i m p count sum next end e some g =
    let one = one_group p.type m p.us (omega (arith, p.counted)) (omega (arith, p.few, e)) in
    sym g.sum_is ∙ ap (total p.type) (first_is g.first p.us (groups p.type m g.rest) [] (sym g.groups_is ∙ one))

-- Laws of siblings side by side. Assumes nothing.
use mathlib.Core.Path.{◌≡◌, refl}
use mathlib.Core.Bool.{Bool, true, false, ◌&&◌}
use mathlib.Core.List.{List}
use Rattle.std.specs.Prelude.{Option}
use Prim.Native.Nat.{ℕ, suc, ◌+◌, ◌≤◌}
use native.Mathlib.Omega.{arith}
use Rattle.tree.specs.Trees.{Trees, nil, tree, part, ◌⊕◌, siblings, last_end}
use Rattle.tree.specs.Balance.{SetType, same_type, all_of, total}

pub siblings-⊕ : (ts us : Trees) → siblings (ts ⊕ us) ≡ siblings ts + siblings us
unfolding siblings ◌⊕◌
siblings-⊕ nil us = omega arith
siblings-⊕ (tree t s l kids rest) us = omega (arith, siblings-⊕ rest us)
siblings-⊕ (part s l ws rest) us = omega (arith, siblings-⊕ rest us)

pub siblings_none : (ts : Trees) → siblings ts ≡ 0 → ts ≡ nil
unfolding siblings
siblings_none nil e = refl
siblings_none (tree t s l kids rest) e = absurd (omega arith)
siblings_none (part s l ws rest) e = absurd (omega arith)

pub siblings_total : (t : SetType) (ts : Trees) → siblings ts ≤ total t ts
unfolding siblings total
siblings_total t nil = omega arith
siblings_total t (tree u s l kids rest) = go (same_type t u && all_of t kids) (siblings_total t rest)
  where
    go : (x : Bool) → siblings rest ≤ total t rest → suc (siblings rest) ≤ elim x [ true ↦ suc (total t kids) | false ↦ 1 ] + total t rest
    go true h = omega arith
    go false h = omega arith
siblings_total t (part s l ws rest) = omega (arith, siblings_total t rest)

pub end_tree : (e : ℕ) (ts : Trees) (t : Option ℕ) (s l : ℕ) (kids : Trees) → last_end e (ts ⊕ tree t s l kids nil) ≡ s + l
unfolding last_end ◌⊕◌
end_tree e nil t s l kids = refl
end_tree e (tree t' s' l' kids' rest) t s l kids = end_tree (s' + l') rest t s l kids
end_tree e (part s' l' ws rest) t s l kids = end_tree (s' + l') rest t s l kids

pub end_part : (e : ℕ) (ts : Trees) (s l : ℕ) (ws : List ℕ) → last_end e (ts ⊕ part s l ws nil) ≡ s + l
unfolding last_end ◌⊕◌
end_part e nil s l ws = refl
end_part e (tree t' s' l' kids' rest) s l ws = end_part (s' + l') rest s l ws
end_part e (part s' l' ws' rest) s l ws = end_part (s' + l') rest s l ws

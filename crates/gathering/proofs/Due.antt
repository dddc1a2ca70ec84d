-- What is due under a repeat id, each way that a tree gathers. Assumes nothing.
use mathlib.Core.Path.{◌≡◌, refl}
use mathlib.Core.Bool.{Bool, true, false}
use mathlib.Core.List.{List}
use Rattle.std.specs.Prelude.{Option, Some}
use Prim.Native.Nat.{ℕ, suc, ◌+◌, ◌-◌, ◌≤◌}
use native.Mathlib.Omega.{arith}
use lib.Dec.{leb}
use Rattle.tree.specs.Trees.{nil, tree, part, ◌⊕◌, is_nil}
use Rattle.tree.specs.Items.{Items, same}
use Rattle.tree.specs.Pack.{run_part}
use Rattle.tree.specs.Balance.{in_set, same_type, total}
use Rattle.tree.specs.Groups.{Gathered, fresh, gather, close, pass, rest_closed, finish}
use Rattle.tree.proofs.OwnLaws.{own-total-⊕, own_finish, total_group}
use Rattle.gathering.specs.Gathering.{due}
use Rattle.tree.specs.Well.{own_total}

module _ (own : Option ℕ) where
  pub due_fresh : (e : ℕ) → due own (fresh e) ≡ 0
  unfolding due fresh own_total total
  due_fresh e = refl

  -- a group is one unit over the children that it takes
  pub due_close : (i s : ℕ) (g : Gathered) → due own (close i s g) ≤ suc (due own g)
  unfolding due close own_total
  due_close i s g = omega (arith, total_group (in_set false own) (Some i) s (g.edge - s) g.loose g.groups)

  pub due_pass : (b i e : ℕ) (g : Gathered) → due own (pass b i e g) ≤ suc (due own g)
  unfolding pass
  due_pass b i e g = go (leb (e + b) g.edge)
    where
      go : (x : Bool) → due own (elim x [ true ↦ close i e g | false ↦ g ]) ≤ suc (due own g)
      go true = due_close i e g
      go false = omega arith

  pub total_closed : (i s : ℕ) (g : Gathered) → total (in_set false own) (rest_closed i s g).groups ≤ suc (due own g)
  unfolding rest_closed close due
  total_closed i s g = go (is_nil g.loose)
    where
      go : (x : Bool) → total (in_set false own) (elim x as (λ y. Gathered) [ true ↦ g | false ↦ close i s g ]).groups ≤ suc (own_total (in_set false own) g.loose + total (in_set false own) g.groups)
      go true = omega arith
      go false = total_group (in_set false own) (Some i) s (g.edge - s) g.loose g.groups

  -- children that are no trees of the own type leave what is due as it is
  pub due_part : (s l : ℕ) (ws : List ℕ) (g : Gathered) → due own (gather (part s l ws) g) ≡ due own g
  unfolding due gather own_total
  due_part s l ws g = refl

  pub due_run : (F i s e : ℕ) (kids more : Items) (g : Gathered) → due own (gather (run_part F i s e kids more) g) ≡ due own g
  unfolding due gather run_part own_total
  due_run F i s e kids more g = refl

  pub due_tree : (F i s e : ℕ) (inner g : Gathered) → same own i ≡ false → due own (gather (λ ts. finish F i s e inner ⊕ ts) g) ≡ due own g
  unfolding due gather
  due_tree F i s e inner g h =
      omega (arith, own-total-⊕ (in_set false own) (finish F i s e inner) g.loose, own_finish own F i s e inner h)

  no_size : (own_total (in_set false own) nil ≡ 0) × (total (in_set false own) nil ≡ 0)
  unfolding own_total total
  no_size = (refl, refl)

  -- a leaf is at most one unit
  pub due_leaf : (t : Option ℕ) (s l : ℕ) (g : Gathered) → due own (gather (tree t s l nil) g) ≤ suc (due own g)
  unfolding due gather own_total
  due_leaf t s l g = go (same_type (in_set false own) t)
    where
      one : total (in_set false own) (tree t s l nil nil) ≤ 1
      one = omega (arith, total_group (in_set false own) t s l nil nil, no_size.0, no_size.1)

      go : (x : Bool) → (elim x [ true ↦ total (in_set false own) (tree t s l nil nil) | false ↦ 0 ] + own_total (in_set false own) g.loose) + total (in_set false own) g.groups
          ≤ suc (own_total (in_set false own) g.loose + total (in_set false own) g.groups)
      go true = omega (arith, one)
      go false = omega arith

-- What a tree has gathered, listed: groups, the leftover group and balancing leave the lines as they are. Assumes
-- nothing.
use mathlib.Core.Path.{◌≡◌, refl, sym, subst}
use mathlib.Core.Bool.{Bool, true, false, ◌||◌}
use mathlib.Core.List.{List, [], ◌++◌, append_assoc, append-nil}
use Rattle.std.specs.Prelude.{Some}
use Prim.Native.Nat.{ℕ, ◌+◌, ◌-◌, ◌≤◌}
use native.Mathlib.Omega.{arith}
use lib.Dec.{T, ltb, leb}
use Rattle.records.specs.Forest.{line, depth_below}
use Rattle.tree.specs.Trees.{Trees, nil, tree, part, ◌⊕◌, is_nil}
use Rattle.tree.specs.Listing.{node_line, node_below}
use Rattle.tree.specs.Balance.{in_set, balance}
use Rattle.tree.specs.Groups.{Gathered, fresh, gather, close, pass, rest_closed, finish}
use Rattle.tree.proofs.ListingLaws.{view, view-⊕, view_nil, view_tree}
use Rattle.tree.proofs.PackLaws.{line_repeat, below_repeat}
use Rattle.tree.proofs.BalanceLaws.{view_hidden, view_balance}

-- the listing of what is gathered
unfoldable pub gview : (F d : ℕ) → Gathered → List ℕ
gview F d g = view F d g.loose ++ view F d g.groups

pub gview_fresh : (F d e : ℕ) → gview F d (fresh e) ≡ []
unfolding gview fresh
gview_fresh F d e = rw view_nil

-- a child in front
pub gview_gather : (F d : ℕ) (f : Trees → Trees) (g : Gathered) (ls : List ℕ)
    → ((ts : Trees) → view F d (f ts) ≡ ls ++ view F d ts) → gview F d (gather f g) ≡ ls ++ gview F d g
unfolding gview gather
gview_gather F d f g ls h = rw (h g.loose) (append_assoc ls _ _)

module _ (F d : ℕ) where
  gview_close : (i s : ℕ) (g : Gathered) → ltb i F ≡ false → gview F d (close i s g) ≡ gview F d g
  unfolding gview close
  gview_close i s g h = rw (view_nil, view_hidden F d (Some i) s (g.edge - s) g.loose g.groups h)

  pub gview_pass : (b i e : ℕ) (g : Gathered) → ltb i F ≡ false → gview F d (pass b i e g) ≡ gview F d g
  unfolding pass
  gview_pass b i e g h = go (leb (e + b) g.edge)
    where
      go : (x : Bool) → gview F d (elim x [ true ↦ close i e g | false ↦ g ]) ≡ gview F d g
      go true = gview_close i e g h
      go false = refl

  view_is_nil : (ts : Trees) → is_nil ts ≡ true → view F d ts ≡ []
  unfolding is_nil
  view_is_nil nil h = view_nil F d
  view_is_nil (tree t s l kids rest) h = absurd (subst T (sym h) tt)
  view_is_nil (part s l ws rest) h = absurd (subst T (sym h) tt)

  view_rest_closed : (i s : ℕ) (g : Gathered) → ltb i F ≡ false → view F d (rest_closed i s g).groups ≡ gview F d g
  unfolding rest_closed gview close
  view_rest_closed i s g h = go (is_nil g.loose) refl
    where
      go : (x : Bool) → is_nil g.loose ≡ x → view F d (elim x as (λ y. Gathered) [ true ↦ g | false ↦ close i s g ]).groups ≡ gview F d g
      go true e = rw (view_is_nil g.loose e)
      go false e = view_hidden F d (Some i) s (g.edge - s) g.loose g.groups h

  pub view_finish : (i s e : ℕ) (g : Gathered) → s ≤ e → view F d (finish F i s e g) ≡ line F d i s e ++ gview F (depth_below F d i) g
  unfolding finish gview node_line node_below
  view_finish i s e g h = go (ltb i F) (is_nil g.groups) refl
    where
      plain : view F d (tree (Some i) s (e - s) (g.loose ⊕ g.groups) nil) ≡ line F d i s e ++ gview F (depth_below F d i) g
      plain =
          let end : s + (e - s) ≡ e = omega arith in
          rw (view_tree F d (Some i) s (e - s) (g.loose ⊕ g.groups) nil, end, view-⊕, view_nil) (append-nil _)

      go : (x y : Bool) → ltb i F ≡ x
          → view F d (elim (x || y) [ true ↦ tree (Some i) s (e - s) (g.loose ⊕ g.groups) nil | false ↦ balance (in_set false (Some i)) (in_set false (Some i)) s (e - s) (rest_closed i s g).groups ])
          ≡ line F d i s e ++ gview F (depth_below F d i) g
      go true y x = plain
      go false true x = plain
      go false false x =
          rw (line_repeat F d i s e x, below_repeat F d i x, view_balance F d (Some i) x s (e - s) (rest_closed i s g).groups) (view_rest_closed i s g x)

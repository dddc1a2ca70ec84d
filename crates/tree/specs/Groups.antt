-- What a tree gathers while its records are read from the last one back, and the tree that it becomes.
use Rattle.std.specs.Prelude.{true, false, ◌||◌, ℕ, ◌+◌, ◌-◌, ltb, leb}
use Rattle.std.specs.Prelude.{Some}
use Rattle.tree.specs.Trees.{Trees, nil, tree, ◌⊕◌, is_nil}
use Rattle.tree.specs.Balance.{in_set, balance}

-- the groups made, the children since then, and the last group end, each in order
pub record Gathered : Type 0 where
  pub groups : Trees
  pub loose : Trees
  pub edge : ℕ

-- nothing yet: the last group end is "at first the tree's end"
unfoldable pub fresh : (e : ℕ) → Gathered
fresh e = record { groups = nil; loose = nil; edge = e }

-- one more child: `f` puts it in front
unfoldable pub gather : (f : Trees → Trees) → Gathered → Gathered
gather f g = record { groups = g.groups; loose = f g.loose; edge = g.edge }

-- "the children since then form a tree of that id from there to the last group end"
unfoldable pub close : (i s : ℕ) → Gathered → Gathered
close i s g = record { groups = tree (Some i) s (g.edge - s) g.loose g.groups; loose = nil; edge = s }

-- A record of the tree's own id i that ends at e is passed over: "If such a record's end + b is at most the last group
-- end", a group is made.
unfoldable pub pass : (b i e : ℕ) → Gathered → Gathered
pass b i e g = elim (leb (e + b) g.edge) [ true ↦ close i e g | false ↦ g ]

-- "Children left over after a first group form one from the tree's start."
unfoldable pub rest_closed : (i s : ℕ) → Gathered → Gathered
rest_closed i s g = elim (is_nil g.loose) [ true ↦ g | false ↦ close i s g ]

-- The tree of a record from s to e: "Any group: balance", by the repeat tree's own type, under a set without none. The trees of a
-- build are all of an id, so on either set it is the same (proofs/EitherSet).
unfoldable pub finish : (F i s e : ℕ) → Gathered → Trees
finish F i s e g =
    elim (ltb i F || is_nil g.groups) [
      | true ↦ tree (Some i) s (e - s) (g.loose ⊕ g.groups) nil
      | false ↦ balance (in_set false (Some i)) (in_set false (Some i)) s (e - s) (rest_closed i s g).groups
    ]

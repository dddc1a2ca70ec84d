-- The cells still to be written, from the lists at hand: one node's cell at a time. Assumes nothing.
use mathlib.Core.Path.{◌≡◌, refl}
use mathlib.Core.List.{List, [], ◌∷◌, ◌++◌, append_assoc}
use Prim.Native.Nat.{ℕ, suc, ◌+◌, ◌-◌, ◌≤◌}
use native.Mathlib.Omega.{arith}
use lib.ListN.{length, length-append}
use Rattle.tree.specs.Trees.{Trees, nil, tree, part, nodes, siblings}
use Rattle.tree.proofs.CellLaws.{packed_relative}
use Rattle.tree.specs.Cells.{packed, kind, id_word, relative, cells, unless_none}

pub relative_nodes : (q : ℕ) (ts : Trees) → nodes (relative q ts) ≡ nodes ts
unfolding nodes relative
relative_nodes q nil = refl
relative_nodes q (tree t s l kids rest) = rw (relative_nodes s kids, relative_nodes q rest)
relative_nodes q (part s l ws rest) = rw (relative_nodes q rest)

relative_siblings : (q : ℕ) (ts : Trees) → siblings (relative q ts) ≡ siblings ts
unfolding siblings relative
relative_siblings q nil = refl
relative_siblings q (tree t s l kids rest) = rw (relative_siblings q rest)
relative_siblings q (part s l ws rest) = rw (relative_siblings q rest)

relative_none : (q n : ℕ) (ts : Trees) → unless_none (relative q ts) n ≡ unless_none ts n
unfolding unless_none relative
relative_none q n nil = refl
relative_none q n (tree t s l kids rest) = refl
relative_none q n (part s l ws rest) = refl

pub siblings_few : (ts : Trees) → siblings ts ≤ nodes ts
unfolding siblings nodes
siblings_few nil = omega arith
siblings_few (tree t s l kids rest) = omega (arith, siblings_few rest)
siblings_few (part s l ws rest) = omega (arith, siblings_few rest)

-- lists that are still to be written, each with its parent's start
pub data Later : Type 0 where
  end : Later
  more : (q : ℕ) (ts : Trees) (later : Later) → Later

unfoldable pub flow : (c w : ℕ) → Later → List ℕ
flow c w end = []
flow c w (more q ts later) = cells c w (relative q ts) ++ flow (c + nodes ts) (w + length (packed ts)) later

unfoldable pub parts : Later → List ℕ
parts end = []
parts (more q ts later) = packed ts ++ parts later

unfoldable pub left : Later → ℕ
left end = 0
left (more q ts later) = nodes ts + left later

pub flow_nil : (c w q : ℕ) (later : Later) → flow c w (more q nil later) ≡ flow c w later
unfolding flow cells relative nodes packed
flow_nil c w q later =
    let e : c + 0 ≡ c = omega arith in
    let f : w + 0 ≡ w = omega arith in
    rw (e, f)

pub flow_tree : (c w q : ℕ) (t : _) (s l : ℕ) (kids rest : Trees) (later : Later)
    → flow c w (more q (tree t s l kids rest) later)
    ≡ kind t ∷ id_word t ∷ (s - q) ∷ l ∷ unless_none kids (suc c) ∷ siblings kids ∷ unless_none rest (suc c + nodes kids)
    ∷ flow (suc c) w (more s kids (more q rest later))
unfolding flow cells relative nodes packed
flow_tree c w q t s l kids rest later =
    let e : c + suc (nodes kids) ≡ suc c + nodes kids = omega arith in
    let f : c + suc (nodes kids + nodes rest) ≡ suc c + nodes kids + nodes rest = omega arith in
    let g : w + (length (packed kids) + length (packed rest)) ≡ w + length (packed kids) + length (packed rest) = omega arith in
    rw (
      relative_nodes s kids,
      relative_siblings s kids,
      packed_relative s kids,
      relative_none s (suc c) kids,
      e,
      relative_none q (suc c + nodes kids) rest,
      length-append (packed kids) (packed rest),
      f,
      g,
      append_assoc (cells (suc c) w (relative s kids)) (cells (suc c + nodes kids) (w + length (packed kids)) (relative q rest)) (flow (suc c + nodes kids + nodes rest) (w + length (packed kids) + length (packed rest)) later),
    )

pub flow_part : (c w q s l : ℕ) (ws : List ℕ) (rest : Trees) (later : Later)
    → flow c w (more q (part s l ws rest) later)
    ≡ 2 ∷ 0 ∷ (s - q) ∷ l ∷ w ∷ length ws ∷ unless_none rest (suc c)
    ∷ flow (suc c) (w + length ws) (more q rest later)
unfolding flow cells relative nodes packed
flow_part c w q s l ws rest later =
    let f : c + suc (nodes rest) ≡ suc c + nodes rest = omega arith in
    let g : w + (length ws + length (packed rest)) ≡ w + length ws + length (packed rest) = omega arith in
    rw (relative_none q (suc c) rest, length-append ws (packed rest), f, g)

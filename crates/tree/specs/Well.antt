-- Trees in order and nested, as predicates: the cell rules that speak of ids, ranges and parts. Cited by laws and by the contracts of
-- internal functions alone.
use Rattle.std.specs.Prelude.{◌≡◌, List, [], ◌∷◌, ◌++◌, true, false, ℕ, ◌+◌, ◌-◌, ◌*◌, ◌≤◌, ◌<◌}
use Rattle.std.specs.Prelude.{Option, None, Some}
use Rattle.words.specs.Words.{record_width}
use Rattle.tree.specs.Trees.{Trees, nil, tree, part, nodes}
use Rattle.tree.specs.Materialise.{unpack}
use Rattle.tree.specs.Cells.{id_word}
use Rattle.tree.specs.Balance.{SetType, same_type, total}
use Rattle.tree.specs.Groups.{Gathered}

-- a type's id is below T
abbrev pub Known : (T : ℕ) → Option ℕ → Type 0
Known T None = Unit {0}
Known T (Some i) = i < T

-- Siblings from `lo` to `hi`: each starts at or after the end of the one before it, and holds its children; `Inside`
-- is what is asked of a part's start, length and words.
abbrev pub Well : (T : ℕ) (Inside : ℕ → ℕ → List ℕ → Type 0) (lo hi : ℕ) → Trees → Type 0
Well T Inside lo hi nil = lo ≤ hi
Well T Inside lo hi (tree t s l kids later) =
    record { known : Known T t; starts : lo ≤ s; inner : Well T Inside s (s + l) kids; rest : Well T Inside (s + l) hi later }
Well T Inside lo hi (part s l ws later) = record { starts : lo ≤ s; inner : Inside s l ws; rest : Well T Inside (s + l) hi later }

-- without parts
abbrev pub Plain : (T lo hi : ℕ) → Trees → Type 0
Plain T lo hi ts = Well T (λ s l ws. ⊥) lo hi ts

-- words of 16 bits
abbrev pub Short : List ℕ → Type 0
Short [] = Unit {0}
Short (w ∷ ws) = (w < 65536) × Short ws

-- The words of trees in a part that starts at p, from word offset `off` on. (Parts hold no parts.)
unfoldable pub spelled : (p off : ℕ) → Trees → List ℕ
spelled p off nil = []
spelled p off (tree t s l kids rest) =
    let n = off + record_width + record_width * nodes kids in
    id_word t ∷ (s - p) ∷ ((s + l) - p) ∷ n ∷ (spelled p (off + record_width) kids ++ spelled p n rest)
spelled p off (part s l ws rest) = spelled p off rest

-- a part's words are those of its trees: rules 16, 19 and 20; its records nest, are in order and end within its length,
-- and its words have 16 bits
abbrev pub Parts : (T s l : ℕ) → List ℕ → Type 0
Parts T s l ws = record { whole : spelled s 0 (unpack s 0 ws) ≡ ws; ranges : Plain T s (s + l) (unpack s 0 ws); words : Short ws }

abbrev pub Sound : (T lo hi : ℕ) → Trees → Type 0
Sound T lo hi ts = Well T (Parts T) lo hi ts

-- what is gathered stands from `lo` to `hi`
pub record Gathers (T : ℕ) (Inside : ℕ → ℕ → List ℕ → Type 0) (lo hi : ℕ) (g : Gathered) : Type 0 where
  pub loose : Well T Inside lo g.edge g.loose
  pub groups : Well T Inside g.edge hi g.groups

-- the sizes of the siblings that are trees of the type t
unfoldable pub own_total : (t : SetType) → Trees → ℕ
own_total t nil = 0
own_total t (tree u s l kids rest) = elim (same_type t u) [ true ↦ total t (tree u s l kids nil) | false ↦ 0 ] + own_total t rest
own_total t (part s l ws rest) = own_total t rest

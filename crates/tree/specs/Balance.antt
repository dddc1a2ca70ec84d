-- Balancing.
use Rattle.std.specs.Prelude.{Bool, true, false, ◌&&◌, List, [], ◌∷◌, ℕ, zero, suc, ◌+◌, ◌-◌, ◌*◌, ◌/◌, ltb, leb, eqb}
use Rattle.std.specs.Prelude.{Option, None, Some}
use Rattle.tree.specs.Trees.{Trees, nil, tree, part, ◌⊕◌, siblings, kids_of, first_start, last_end}

-- A type, and whether place 0 of its set is none. "The set now says whether its place 0 is none."
pub record SetType : Type 0 where
  pub none_first : Bool
  pub type : Option ℕ

abbrev pub in_set : (none_first : Bool) (type : Option ℕ) → SetType
in_set f t = record { none_first = f; type = t }

-- The type that a tree counts as under a set: kind 3 is none; id 0 is none where place 0 of the set is; any other is its id.
abbrev pub type_under : (none_first : Bool) → Option ℕ → Option ℕ
type_under false t = t
type_under true None = None
type_under true (Some zero) = None
type_under true (Some (suc i)) = Some (suc i)

-- are two types equal?
unfoldable pub equal_types : Option ℕ → Option ℕ → Bool
equal_types None None = true
equal_types None (Some i) = false
equal_types (Some r) None = false
equal_types (Some r) (Some i) = eqb r i

-- Is a tree of the type u one of the type t, "wherever balancing compares types"?
abbrev pub same_type : (t : SetType) → Option ℕ → Bool
same_type t u = equal_types (type_under t.none_first t.type) (type_under t.none_first u)

-- are the siblings all trees of the type t?
unfoldable pub all_of : (t : SetType) → Trees → Bool
all_of t nil = true
all_of t (tree u s l kids rest) = same_type t u && all_of t rest
all_of t (part s l ws rest) = false

-- The balanced sizes of the siblings, summed. "Balanced size: 1, or, for a tree of the balance type with children that
-- are all trees of it, 1 plus their sizes."
unfoldable pub total : (t : SetType) → Trees → ℕ
total t nil = 0
total t (tree u s l kids rest) =
    elim (same_type t u && all_of t kids) [ true ↦ suc (total t kids) | false ↦ 1 ] + total t rest
total t (part s l ws rest) = suc (total t rest)

-- "Share: 3 × total ÷ 16 rounded up."
unfoldable pub share : (n : ℕ) → ℕ
share n = (3 * n + 15) / 16

-- "A group grows while its sum plus the next is below the share": a group of sum n under the share m, before a child of
-- size w.
unfoldable pub grows : (n w m : ℕ) → Bool
grows n w m = ltb (n + w) m

-- Groups of siblings under the share m. The group at hand is `cur`, its sum n.
unfoldable pub groups_from : (t : SetType) (m : ℕ) (cur : Trees) (n : ℕ) → Trees → List Trees
groups_from t m cur n nil = cur ∷ []
groups_from t m cur n (tree u s l kids rest) =
    let c = tree u s l kids nil in
    let w = total t c in
    elim (grows n w m) [ true ↦ groups_from t m (cur ⊕ c) (n + w) rest | false ↦ cur ∷ groups_from t m c w rest ]
groups_from t m cur n (part s l ws rest) =
    let c = part s l ws nil in
    elim (grows n 1 m) [ true ↦ groups_from t m (cur ⊕ c) (n + 1) rest | false ↦ cur ∷ groups_from t m c 1 rest ]

unfoldable pub groups : (t : SetType) (m : ℕ) → Trees → List Trees
groups t m nil = []
groups t m (tree u s l kids rest) = let c = tree u s l kids nil in groups_from t m c (total t c) rest
groups t m (part s l ws rest) = groups_from t m (part s l ws nil) 1 rest

-- is there no second sibling?
unfoldable pub lone : Trees → Bool
lone nil = true
lone (tree u s l kids nil) = true
lone (tree u s l kids (tree u' s' l' kids' rest)) = false
lone (tree u s l kids (part s' l' ws' rest)) = false
lone (part s l ws nil) = true
lone (part s l ws (tree u' s' l' kids' rest)) = false
lone (part s l ws (part s' l' ws' rest)) = false

-- is this one tree alone, of the type t, that starts at s with the length l?
unfoldable pub is_tree : (t : SetType) (s l : ℕ) → Trees → Bool
is_tree t s l nil = false
is_tree t s l (tree u s' l' kids rest) = lone (tree u s' l' kids rest) && (same_type t u && (eqb s s' && eqb l l'))
is_tree t s l (part s' l' ws rest) = false

-- A tree of the type t over children: "A result with one tree at 0 of equal type and length becomes that tree."
unfoldable pub joined : (t : SetType) (s l : ℕ) → Trees → Trees
joined t s l kids = elim (is_tree t s l kids) [ true ↦ kids | false ↦ tree t.type s l kids nil ]

-- What a group becomes under the share m; `again m' ts` are siblings divided under the share m'. "A lone child stays,
-- or is divided in place if above the share. Several become an inner tree, balanced in turn over its own total. It runs
-- from its first child's start to its last one's end and has the balance type."
unfoldable pub placed : (again : ℕ → Trees → Trees) (t : SetType) (m : ℕ) → Trees → Trees
placed again t m g =
    elim (lone g) [
      | true ↦ elim (ltb m (total t g)) [ true ↦ again m (kids_of g) | false ↦ g ]
      | false ↦ joined t (first_start g) (last_end 0 g - first_start g) (again (share (total t g)) g)
    ]

-- what the groups become, one after the other
unfoldable pub each : (Trees → Trees) → List Trees → Trees
each f [] = nil
each f (g ∷ gs) = f g ⊕ each f gs

-- Siblings divided under the share m; t is the balance type. `fuel` bounds how deep groups are divided in turn; any
-- number above the total gives the same (proofs/FuelLaws).
unfoldable pub divide : (fuel : ℕ) (t : SetType) (m : ℕ) → Trees → Trees
divide zero t m ts = ts
divide (suc n) t m ts = each (placed (λ m' ts'. divide n t m' ts') t m) (groups t m ts)

-- a balanced tree over children: `top` is its type, t the balance type
unfoldable pub balance : (top t : SetType) (s l : ℕ) → Trees → Trees
balance top t s l ts = joined top s l (divide (suc (total t ts)) t (share (total t ts)) ts)

-- `Tree::balance` of a whole tree: the balance type is `NodeType::none`, and it "leaves up to 8 children untouched". "Inner trees
-- made by the balance call are still written as kind 3."
unfoldable pub balanced : (none_first : Bool) → Trees → Trees
balanced f nil = nil
balanced f (tree t s l kids rest) =
    elim (leb (siblings kids) 8) [ true ↦ tree t s l kids rest | false ↦ balance (in_set f t) (in_set f None) s l kids ⊕ rest ]
balanced f (part s l ws rest) = part s l ws rest

-- How the first group of a row grows. Assumes nothing.
use mathlib.Core.Path.{◌≡◌, refl, sym, ap, ◌∙◌}
use mathlib.Core.Bool.{Bool, true, false}
use mathlib.Core.List.{List, ◌∷◌}
use Rattle.std.specs.Prelude.{Option}
use Prim.Native.Nat.{ℕ, ◌+◌, ◌≤◌, ◌<◌}
use native.Mathlib.Omega.{arith}
use borrow.Author.Tests.{lt-ltb, le-ltb}
use lib.Dec.{ltb}
use lib.ListN.{get_or}
use Rattle.tree.specs.Trees.{Trees, nil, tree, part, ◌⊕◌, siblings, last_end}
use Rattle.tree.specs.Cells.{id_word}
use Rattle.tree.specs.Balance.{SetType, total, grows, groups, groups_from}
use Rattle.store.specs.Store.{Holds, stored_kind, word}
use Rattle.balance_core.specs.Rows.{sized, Sizable, Ends, Row, Grouped}
use Rattle.tree.proofs.ListingLaws.{⊕-assoc}
use Rattle.tree.proofs.FuelLaws.{total-⊕}
use Rattle.balance_core.proofs.Lists.{siblings-⊕, siblings_none, end_tree, end_part}
use Rattle.balance_core.proofs.Sizes.{size_tree, size_part, sizable}

ends-⊕ : (ts us : Trees) → Ends (ts ⊕ us) → Ends us
unfolding ◌⊕◌
ends-⊕ nil us h = h
ends-⊕ (tree t s l kids rest) us h = ends-⊕ rest us h.after
ends-⊕ (part s l ws rest) us h = ends-⊕ rest us h.after

pub ends_front : (ts us : Trees) → Ends (ts ⊕ us) → Ends ts
unfolding ◌⊕◌
ends_front nil us h = tt
ends_front (tree t s l kids rest) us h = record { own = h.own; inner = h.inner; after = ends_front rest us h.after }
ends_front (part s l ws rest) us h = record { own = h.own; after = ends_front rest us h.after }

pub ends_back : (ts us : Trees) → Ends (ts ⊕ us) → Ends us
ends_back = ends-⊕

pub from_tree : (t : SetType) (m : ℕ) (cur : Trees) (n : ℕ) (u : Option ℕ) (s l : ℕ) (kids rest : Trees) (x : Bool) → ltb (n + total t (tree u s l kids nil)) m ≡ x
    → groups_from t m cur n (tree u s l kids rest)
    ≡ elim x [ true ↦ groups_from t m (cur ⊕ tree u s l kids nil) (n + total t (tree u s l kids nil)) rest | false ↦ cur ∷ groups_from t m (tree u s l kids nil) (total t (tree u s l kids nil)) rest ]
unfolding groups_from grows
from_tree t m cur n u s l kids rest x e =
    ap (λ (b : Bool). elim b [ true ↦ groups_from t m (cur ⊕ tree u s l kids nil) (n + total t (tree u s l kids nil)) rest | false ↦ cur ∷ groups_from t m (tree u s l kids nil) (total t (tree u s l kids nil)) rest ]) e

pub from_part : (t : SetType) (m : ℕ) (cur : Trees) (n : ℕ) (s l : ℕ) (ws : List ℕ) (rest : Trees) (x : Bool) → ltb (n + 1) m ≡ x
    → groups_from t m cur n (part s l ws rest)
    ≡ elim x [ true ↦ groups_from t m (cur ⊕ part s l ws nil) (n + 1) rest | false ↦ cur ∷ groups_from t m (part s l ws nil) 1 rest ]
unfolding groups_from grows
from_part t m cur n s l ws rest x e =
    ap (λ (b : Bool). elim b [ true ↦ groups_from t m (cur ⊕ part s l ws nil) (n + 1) rest | false ↦ cur ∷ groups_from t m (part s l ws nil) 1 rest ]) e

pub one_part : (t : SetType) (s n : ℕ) (ws : List ℕ) → total t (part s n ws nil) ≡ 1
unfolding total
one_part t s n ws = refl

-- the first tree of the row
pub row_sizable : {w : List ℕ} {node k kd i : ℕ} (p : Row w node k kd i) → 1 ≤ k → Sizable w node kd i
row_sizable {w} {node} p l =
    let some_tree : 1 ≤ siblings (p.us ⊕ p.tail) = omega (arith, siblings-⊕ p.us p.tail, p.counted) in
    rw (p.kind_is, p.id_is) (sizable p.type w p.base p.top p.low node (p.us ⊕ p.tail) p.inside some_tree p.holds)

module _ {w : List ℕ} {node k kd i : ℕ} (m : ℕ) (p : Row w node k kd i) where
  pub record Growing (count size next end : ℕ) (first rest : Trees) : Type 0 where
    pub split : p.us ≡ first ⊕ rest
    pub from : groups p.type m p.us ≡ groups_from p.type m first size rest
    pub some : 1 ≤ count
    pub count_is : siblings first ≡ count
    pub sum_is : total p.type first ≡ size
    pub next_is : Holds p.type.none_first w p.base p.top p.low next (rest ⊕ p.tail)
    pub end_is : last_end 0 first ≡ end
    pub small : 2 ≤ count → size < m

  abbrev Started : (size end next : ℕ) → Type 0
  Started size end next = (first : Trees) × (rest : Trees) × Growing 1 size next end first rest

  start_at : (us : Trees) (size end next : ℕ) → 1 ≤ k → p.us ≡ us → Holds p.type.none_first w p.base p.top p.low node (us ⊕ p.tail)
      → total p.type us < 4294967295 → Ends us → siblings us ≡ k
      → groups p.type m p.us ≡ groups p.type m us
      → size ≡ sized w node (stored_kind p.type) (id_word p.type.type) → end ≡ word (get_or w (node + 2) 0 + get_or w (node + 3) 0) → next ≡ get_or w (node + 5) 0 → Started size end next
  unfolding siblings ◌⊕◌ groups last_end
  start_at nil size end next l e h few ends counted f es ee en = absurd (omega arith)
  start_at (tree u s n kids rest) size end next l e h few ends counted f es ee en =
      let c : Trees = tree u s n kids nil in
      let x = size_tree p.type w p.base p.top p.low node u s n kids (rest ⊕ p.tail) h in
      let y = total-⊕ p.type c rest in
      let z : size ≡ total p.type c = omega (arith, x, y, es) in (
        c,
        rest,
        record {
          split = e;
          from = f ∙ ap (λ (v : ℕ). groups_from p.type m c v rest) (sym z);
          some = omega arith;
          count_is = refl;
          sum_is = sym z;
          next_is = rw en h.next;
          end_is = omega (arith, ee, h.node.start_at, h.node.length_at, ends.own);
          small = λ b. absurd (omega arith);
        },
      )
  start_at (part s n ws rest) size end next l e h few ends counted f es ee en =
      let c : Trees = part s n ws nil in
      let x = size_part p.type w p.base p.top p.low node s n ws (rest ⊕ p.tail) h in
      let z : size ≡ 1 = es ∙ x in (
        c,
        rest,
        record {
          split = e;
          from = f ∙ ap (λ (v : ℕ). groups_from p.type m c v rest) (sym z);
          some = omega arith;
          count_is = refl;
          sum_is = part_one s n ws ∙ sym z;
          next_is = rw en h.next;
          end_is = omega (arith, ee, h.node.start_at, h.node.length_at, ends.own);
          small = λ b. absurd (omega arith);
        },
      )
    where
      part_one : (s n : ℕ) (ws : List ℕ) → total p.type (part s n ws nil) ≡ 1
      part_one s n ws = one_part p.type s n ws

  pub growing_start : {size end next : ℕ} → 1 ≤ k → size ≡ sized w node kd i → end ≡ word (get_or w (node + 2) 0 + get_or w (node + 3) 0) → next ≡ get_or w (node + 5) 0
      → Started size end next
  growing_start {size} {end = end} {next = next} l es ee en =
      start_at p.us size end next l refl p.holds p.few p.ends p.counted refl (es ∙ rw (p.kind_is, p.id_is)) ee en

  sized_is : (n : ℕ) → sized w n kd i ≡ sized w n (stored_kind p.type) (id_word p.type.type)
  sized_is n = rw (p.kind_is, p.id_is)

  -- the next tree is one too much
  stop : (size next : ℕ) (first rest : Trees) (x grown : ℕ) → Holds p.type.none_first w p.base p.top p.low next (rest ⊕ p.tail) → 1 ≤ siblings rest
      → size + total p.type rest < 4294967295
      → x ≡ sized w next (stored_kind p.type) (id_word p.type.type) → grown ≡ word (size + x) → m ≤ grown
      → groups_from p.type m first size rest ≡ first ∷ groups p.type m rest
  unfolding groups groups_from siblings ◌⊕◌
  stop size next first nil x grown h q few ex eg over = absurd (omega arith)
  stop size next first (tree u s n kids rest) x grown h q few ex eg over =
      let c : Trees = tree u s n kids nil in
      let y = size_tree p.type w p.base p.top p.low next u s n kids (rest ⊕ p.tail) h in
      from_tree p.type m first size u s n kids rest false (le-ltb (size + total p.type c) m (omega (arith, ex, eg, y)))
  stop size next first (part s n ws rest) x grown h q few ex eg over =
      let y = size_part p.type w p.base p.top p.low next s n ws (rest ⊕ p.tail) h in
      from_part p.type m first size s n ws rest false (le-ltb (size + 1) m (omega (arith, ex, eg, y)))

  -- the next tree joins the group
  abbrev Grown : (count grown next' end' : ℕ) → Type 0
  Grown count grown next' end' = (first : Trees) × (rest : Trees) × Growing (count + 1) grown next' end' first rest

  step : (count size next end : ℕ) (first rest : Trees) → Growing count size next end first rest → (x grown next' end' : ℕ)
      → Holds p.type.none_first w p.base p.top p.low next (rest ⊕ p.tail) → Ends rest → 1 ≤ siblings rest
      → size + total p.type rest < 4294967295
      → x ≡ sized w next (stored_kind p.type) (id_word p.type.type) → grown ≡ word (size + x) → grown < m → m ≤ 4294967295
      → end' ≡ word (get_or w (next + 2) 0 + get_or w (next + 3) 0) → next' ≡ get_or w (next + 5) 0
      → p.us ≡ first ⊕ rest → groups p.type m p.us ≡ groups_from p.type m first size rest → Grown count grown next' end'
  unfolding groups_from siblings ◌⊕◌
  step count size next end first nil g x grown next' end' h ends q few ex eg under fits ee en sp fr = absurd (omega arith)
  step count size next end first (tree u s n kids rest) g x grown next' end' h ends q few ex eg under fits ee en sp fr =
      let c : Trees = tree u s n kids nil in
      let y = size_tree p.type w p.base p.top p.low next u s n kids (rest ⊕ p.tail) h in
      let v = total-⊕ p.type c rest in
      let z : grown ≡ size + total p.type c = omega (arith, ex, eg, y, v) in (
        first ⊕ c,
        rest,
        record {
          split = sp ∙ sym (⊕-assoc first c rest);
          from = fr ∙ from_tree p.type m first size u s n kids rest true (lt-ltb (size + total p.type c) m (omega arith))
              ∙ (ap (λ (b : ℕ). groups_from p.type m (first ⊕ c) b rest) (sym z));
          some = omega arith;
          count_is = siblings-⊕ first c ∙ omega (arith, g.count_is);
          sum_is = total-⊕ p.type first c ∙ omega (arith, g.sum_is);
          next_is = rw en h.next;
          end_is = end_tree 0 first u s n kids ∙ omega (arith, ee, h.node.start_at, h.node.length_at, ends.own);
          small = λ b. under;
        },
      )
  step count size next end first (part s n ws rest) g x grown next' end' h ends q few ex eg under fits ee en sp fr =
      let c : Trees = part s n ws nil in
      let y = size_part p.type w p.base p.top p.low next s n ws (rest ⊕ p.tail) h in
      let v = total-⊕ p.type c rest in
      let o = one_part p.type s n ws in
      let z : grown ≡ size + 1 = omega (arith, ex, eg, y, v, o) in (
        first ⊕ c,
        rest,
        record {
          split = sp ∙ sym (⊕-assoc first c rest);
          from = fr ∙ from_part p.type m first size s n ws rest true (lt-ltb (size + 1) m (omega arith))
              ∙ (ap (λ (b : ℕ). groups_from p.type m (first ⊕ c) b rest) (sym z));
          some = omega arith;
          count_is = siblings-⊕ first c ∙ omega (arith, g.count_is);
          sum_is = total-⊕ p.type first c ∙ omega (arith, g.sum_is);
          next_is = rw en h.next;
          end_is = end_part 0 first s n ws ∙ omega (arith, ee, h.node.start_at, h.node.length_at, ends.own);
          small = λ b. under;
        },
      )

  module _ {count size next end : ℕ} {first rest : Trees} (g : Growing count size next end first rest) where
    left_over : count + siblings rest ≡ k
    left_over = omega (arith, p.counted, ap siblings g.split, siblings-⊕ first rest, g.count_is)

    sums : size + total p.type rest < 4294967295
    sums = omega (arith, p.few, ap (total p.type) g.split, total-⊕ p.type first rest, g.sum_is)

    ends_rest : Ends rest
    ends_rest = ends-⊕ first rest (rw g.split at p.ends)

    pub growing_sizable : count < k → Sizable w next kd i
    growing_sizable l =
        let some_tree : 1 ≤ siblings (rest ⊕ p.tail) = omega (arith, left_over, siblings-⊕ rest p.tail) in
        rw (p.kind_is, p.id_is) (sizable p.type w p.base p.top p.low next (rest ⊕ p.tail) p.inside some_tree g.next_is)

    -- the group is the whole row
    pub growing_end : k ≤ count → Grouped w node k kd i m p count size next end
    unfolding groups groups_from
    growing_end l =
        let e : rest ≡ nil = siblings_none rest (omega (arith, left_over)) in
        record {
          first = first;
          rest = rest;
          split = g.split;
          groups_is = g.from ∙ rw e refl;
          some = g.some;
          count_is = g.count_is;
          sum_is = g.sum_is;
          next_is = g.next_is;
          end_is = g.end_is;
          small = g.small;
        }

    pub growing_stop : count < k → {x grown : ℕ} → x ≡ sized w next kd i → grown ≡ word (size + x) → m ≤ grown → Grouped w node k kd i m p count size next end
    growing_stop l {x} {grown} ex eg over = record {
      first = first;
      rest = rest;
      split = g.split;
      groups_is = g.from ∙ stop size next first rest x grown g.next_is (omega (arith, left_over)) sums (ex ∙ sized_is next) eg over;
      some = g.some;
      count_is = g.count_is;
      sum_is = g.sum_is;
      next_is = g.next_is;
      end_is = g.end_is;
      small = g.small;
    }

    pub growing_step : count < k → {x grown next' end' : ℕ} → x ≡ sized w next kd i → grown ≡ word (size + x) → grown < m → m ≤ 4294967295
        → end' ≡ word (get_or w (next + 2) 0 + get_or w (next + 3) 0) → next' ≡ get_or w (next + 5) 0 → Grown count grown next' end'
    growing_step l {x} {grown} {next' = next'} {end' = end'} ex eg under fits ee en =
        step count size next end first rest g x grown next' end' g.next_is ends_rest (omega (arith, left_over)) sums (ex ∙ sized_is next) eg
        under fits ee en g.split g.from

-- The pass that adds the nodes, from the last cell back: where the links of a cell lead, nodes stand already. Assumes nothing.
use mathlib.Core.Path.{◌≡◌, sym, ap, subst, ◌∙◌}
use mathlib.Core.Bool.{Bool}
use mathlib.Core.List.{List}
use mathlib.Core.Logic.{inl, inr, ⊎_elim}
use Prim.Native.Nat.{ℕ, ◌+◌, ◌-◌, ◌*◌, ◌≤◌, ◌<◌}
use native.Mathlib.Omega.{arith}
use native.Mathlib.Decide.{ℕ_discrete}
use borrow.Author.Tests.{eq-eqb, ne_eqb}
use lib.ListN.{length, get_or}
use Rattle.tree.specs.Cells.{cell_kind, cell_id, cell_position, cell_length, cell_first, cell_count, cell_next}
use Rattle.tree.specs.Trees.{Trees, nil}
use Rattle.store.specs.Store.{Holds, Staged, Same, Readable, PushedTree, PushedPart}
use Rattle.store.proofs.Frame.{same_less, staged_frame, frame}
use Rattle.store.proofs.Types.{not_part}
use Rattle.rules.specs.Calls.{handed_in}
use Rattle.balance.specs.Steps.{bases, onwards, kind_stored, address, Building}
use Rattle.balance.proofs.Sites.{Leads, TreeAt, PartAt, Site}
use Rattle.balance.proofs.Handed.{Handed, handed}
use Rattle.balance.proofs.Noting.{leads_in}
use Rattle.balance.proofs.Typing.{kind_as}

pub address_none : (high x : ℕ) → x ≡ 0 → address high x ≡ 0
unfolding address
address_none high x e = rw (eq-eqb x 0 e)

pub address_some : (high x : ℕ) → (x ≡ 0 → ⊥) → address high x ≡ high - x * 10
unfolding address
address_some high x e = rw (ne_eqb x 0 e)

module _ {f : Bool} {held cs ws : List ℕ} {n high low i : ℕ} (b : Building f held cs ws n high low i) where
  abbrev bs : List ℕ
  bs = bases 0 (handed_in cs ws)

  abbrev us : List Trees
  us = onwards (handed_in cs ws)

  abbrev h : Handed cs ws n
  h = handed cs ws n b.given

  -- the trees that a link of a cell before leads to
  pub link_held : (k q : ℕ) (ts : Trees) (x : ℕ) → i ≤ k + 1 → Leads cs ws bs us n k q ts x → Holds f held n (high - i * 10) low (address high x) ts
  link_held k q ts x l (inl e) = subst (Holds f held n (high - i * 10) low (address high x)) (sym e.0) (address_none high x e.1)
  link_held k q ts x l (inr e) =
      let y : ℕ = e.0 in
      let a : address high x ≡ high - (y + 1) * 10 = address_some high x (λ o. omega (arith, e.1)) ∙ omega (arith, e.1) in
      rw a (subst (Holds f held n (high - i * 10) low (high - (y + 1) * 10)) e.2.trees_at (b.built y (omega (arith, e.2.later)) e.2.within))

module _ {f : Bool} {held cs ws : List ℕ} {n high low : ℕ} (i : ℕ) (l : i < n) (b : Building f held cs ws n high low (i + 1)) where
  abbrev bs₁ : List ℕ
  bs₁ = bases 0 (handed_in cs ws)

  abbrev us₁ : List Trees
  us₁ = onwards (handed_in cs ws)

  abbrev h₁ : Handed cs ws n
  h₁ = handed cs ws n b.given

  abbrev site : Site cs ws bs₁ us₁ n i
  site = h₁.site i l

  pub start_fits : get_or held i 0 + cell_position cs i ≤ 4294967295
  start_fits = ⊎_elim (λ (t : TreeAt cs ws bs₁ us₁ n i). omega (arith, b.based i l, t.start_is, t.small))
      (λ (t : PartAt cs ws bs₁ us₁ n i). omega (arith, b.based i l, t.start_is, t.small)) site.own

  pub next_in : cell_next cs i ≤ n
  next_in = ⊎_elim (λ (t : TreeAt cs ws bs₁ us₁ n i). leads_in b.given i (get_or bs₁ i 0) t.rest (cell_next cs i) t.next_is)
      (λ (t : PartAt cs ws bs₁ us₁ n i). leads_in b.given i (get_or bs₁ i 0) t.rest (cell_next cs i) t.next_is) site.own

  -- a number names an address that can be read
  pub address_readable : (x : ℕ) → x ≤ n → Readable held (address high x)
  address_readable x m z = go (ℕ_discrete x 0)
    where
      go : Dec (x ≡ 0) → address high x + 10 ≤ length held
      go (yes e) = absurd (z (address_none high x e))
      go (no e) = omega (arith, address_some high x e, b.high_is, b.under, b.inside)

  module _ (two : cell_kind cs i ≡ 2) where
    pub part_site : PartAt cs ws bs₁ us₁ n i
    part_site = ⊎_elim (λ (t : TreeAt cs ws bs₁ us₁ n i). absurd (not_part t.type (sym t.kind_is ∙ two))) (λ t. t) site.own

    pub words_fit : low + cell_first cs i ≤ 4294967295
    words_fit = omega (arith, part_site.inside, b.fits)

  module _ (other : cell_kind cs i ≡ 2 → ⊥) where
    pub tree_site : TreeAt cs ws bs₁ us₁ n i
    tree_site = ⊎_elim (λ t. t) (λ (t : PartAt cs ws bs₁ us₁ n i). absurd (other t.kind_is)) site.own

    pub first_in : cell_first cs i ≤ n
    first_in = leads_in b.given i tree_site.start tree_site.kids (cell_first cs i) tree_site.first_is

  -- A node more: all that was there stays.
  module _ (held' : List ℕ) (top r : ℕ) (top_is : top ≡ high - (i + 1) * 10) (s : Same held held' 0 top (top + 10)) (at : r ≡ top) where
    up : top ≤ high - i * 10
    up = omega (arith, b.high_is)

    same : Same held held' n (high - (i + 1) * 10) low
    same = same_less held held' 0 top (top + 10) n (high - (i + 1) * 10) low (omega arith) (omega arith) (omega (arith, b.high_is, b.under)) s

    built_more : Holds f held' n (top + 10) low r (get_or us₁ i nil) → Building f held' cs ws n high low i
    built_more new = record {
      given = b.given;
      high_is = b.high_is;
      under = b.under;
      inside = omega (arith, b.inside, s.size);
      fits = b.fits;
      based = λ k m. s.below k (omega arith) (omega (arith, b.high_is)) ∙ b.based k m;
      staged = staged_frame f held held' n (high - (i + 1) * 10) low (high - (i + 1) * 10) low (omega arith) (omega arith) same low ws b.staged;
      built = λ k m o. go k m o (ℕ_discrete i k);
    }
      where
        go : (k : ℕ) → i ≤ k → k < n → Dec (i ≡ k) → Holds f held' n (high - i * 10) low (high - (k + 1) * 10) (get_or us₁ k nil)
        go k m o (yes e) =
            let a : high - i * 10 ≡ top + 10 = omega (arith, b.high_is) in
            let c : high - (k + 1) * 10 ≡ r = omega (arith, b.high_is) in
            rw (a, c) (subst (λ (j : ℕ). Holds f held' n (top + 10) low r (get_or us₁ j nil)) e new)
        go k m o (no e) =
            frame f held held' n (high - (i + 1) * 10) low (high - i * 10) low (omega arith) (omega arith) same (high - (k + 1) * 10) (get_or us₁ k nil) (b.built k (omega arith) o)

  module _ {held' : List ℕ} {top start next r : ℕ} (top_is : top ≡ high - (i + 1) * 10) (start_is : start ≡ get_or held i 0 + cell_position cs i)
      (next_is : next ≡ address high (cell_next cs i)) where
    pub pushed_part : cell_kind cs i ≡ 2 → {from : ℕ} → from ≡ low + cell_first cs i
        → PushedPart held held' top start (cell_length cs i) from (cell_count cs i) next r → Building f held' cs ws n high low i
    pushed_part two {from = from} from_is p =
        let t = part_site two in
        let starts : start ≡ t.start = omega (arith, start_is, b.based i l, t.start_is) in
        let later : Holds f held n top low next t.rest = rw (next_is, top_is) (link_held b i (get_or bs₁ i 0) t.rest (cell_next cs i) (omega arith) t.next_is) in
        let staged : Staged held low from t.held = record {
          above = omega (arith, from_is);
          within = omega (arith, from_is, t.inside, b.staged.within);
          same = λ k m.
              let z : from + k ≡ low + (cell_first cs i + k) = omega (arith, from_is) in
              ap (λ (j : ℕ). get_or held j 0) z ∙ b.staged.same (cell_first cs i + k) (omega (arith, t.inside)) ∙ t.words_at k m;
          narrow = λ k m. omega (arith, t.words_at k m, b.staged.narrow (cell_first cs i + k) (omega (arith, t.inside)));
        } in
        let new = p.holds f n low t.held t.rest (omega (arith, l)) (omega (arith, top_is, b.high_is)) (omega (arith, top_is, b.high_is, b.under)) t.count_is staged later in
        built_more held' top r top_is p.kept p.address (rw (t.here, ← starts, ← t.len_is) new)

    pub pushed_tree : (cell_kind cs i ≡ 2 → ⊥) → {first : ℕ} → first ≡ address high (cell_first cs i) → {k : ℕ} → k ≡ kind_stored f (cell_kind cs i) (cell_id cs i)
        → PushedTree held held' top k (cell_id cs i) start (cell_length cs i) first next r → Building f held' cs ws n high low i
    pushed_tree other {first = first} first_is kind_is p =
        let t = tree_site other in
        let starts : start ≡ t.start = omega (arith, start_is, b.based i l, t.start_is) in
        let later : Holds f held n top low next t.rest = rw (next_is, top_is) (link_held b i (get_or bs₁ i 0) t.rest (cell_next cs i) (omega arith) t.next_is) in
        let inner : Holds f held n top low first t.kids = rw (first_is, top_is) (link_held b i t.start t.kids (cell_first cs i) (omega arith) t.first_is) in
        let new = p.holds f n low t.type t.kids t.rest (omega (arith, l)) (omega (arith, top_is, b.high_is)) (omega (arith, top_is, b.high_is, b.under)) (kind_is ∙ kind_as f t.type t.kind_is t.id_is) t.id_is inner later in
        built_more held' top r top_is p.kept p.address (rw (t.here, ← starts, ← t.len_is) new)

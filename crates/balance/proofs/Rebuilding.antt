-- The top's children, balanced or left as they are: the tree that then stands in the store, with space to write it out. Assumes nothing.
use mathlib.Core.Path.{◌≡◌, refl, sym, ap, subst, ◌∙◌}
use mathlib.Core.Bool.{Bool}
use mathlib.Core.List.{List}
use Rattle.std.specs.Prelude.{Option, None, Some}
use mathlib.Core.Logic.{⊎_elim}
use Prim.Native.Nat.{ℕ, ◌+◌, ◌-◌, ◌*◌, ◌/◌, ◌≤◌, ◌<◌}
use native.Mathlib.Omega.{arith}
use borrow.Author.Tests.{lt-leb}
use lib.ListN.{length, get_or}
use Rattle.tree.specs.Trees.{Trees, nil, tree, part, ◌⊕◌, nodes, siblings}
use Rattle.tree.specs.Cells.{packed, kind, id_word}
use Rattle.tree.specs.Balance.{in_set, total, balance, balanced}
use Rattle.tree.proofs.ListingLaws.{⊕-nil}
use Rattle.tree.proofs.BalancedLaws.{untouched, balanced_is, packed_balanced, total_nodes, few_balanced}
use Rattle.store.specs.Store.{Holds}
use Rattle.balance_core.specs.Rows.{Row}
use Rattle.balance_core.specs.Ready.{BalanceReady, Balanced}
use Rattle.rules.specs.Calls.{handed_in}
use Rattle.balance.specs.Steps.{bases, onwards, kind_stored, address, Building, Standing}
use Rattle.balance.proofs.Sites.{Leads, TreeAt, PartAt}
use Rattle.balance.proofs.Handed.{Handed, handed}
use Rattle.balance.proofs.Noting.{leads_in}
use Rattle.balance.proofs.Pushing.{link_held}
use Rattle.balance.proofs.Typing.{kind_as, none_kind}

divides : (f : Bool) (t : Option ℕ) (s l : ℕ) (kids rest : Trees) → 8 < siblings kids
    → balanced f (tree t s l kids rest) ≡ balance (in_set f t) (in_set f None) s l kids ⊕ rest
unfolding balanced
divides f t s l kids rest h = rw (lt-leb (siblings kids) 8 h, balanced)

-- the first node of a list that is not empty
root_live : (f : Bool) (w : List ℕ) (base top low n : ℕ) (ts : Trees) → 1 ≤ nodes ts → Holds f w base top low n ts → (n ≡ 0 → ⊥) × (n + 10 ≤ top)
unfolding nodes
root_live f w base top low n nil m h = absurd (omega arith)
root_live f w base top low n (tree t s l kids rest) m h = ((λ e. omega (arith, h.node.live)), omega (arith, h.node.below))
root_live f w base top low n (part s l ws rest) m h = ((λ e. omega (arith, h.node.live)), omega (arith, h.node.below))

module _ {f : Bool} {held cs ws : List ℕ} {n high low : ℕ} (b : Building f held cs ws n high low 0) (room : n * 35 ≤ low) where
  abbrev bs : List ℕ
  bs = bases 0 (handed_in cs ws)

  abbrev us : List Trees
  us = onwards (handed_in cs ws)

  abbrev h : Handed cs ws n
  h = handed cs ws n b.given

  abbrev whole : Trees
  whole = tree (Some h.top) 0 h.len h.kids nil

  first_tree : get_or us 0 nil ≡ whole
  unfolding onwards
  first_tree = ap (λ (t : Trees). get_or (onwards t) 0 nil) h.tree_is

  -- what the first cell says of the top
  record Top : Type 0 where
    id_is : get_or cs 1 0 ≡ h.top
    len_is : get_or cs 3 0 ≡ h.len
    count_is : get_or cs 5 0 ≡ siblings h.kids
    leads : Leads cs ws bs us n 0 0 h.kids (get_or cs 4 0)

  top : Top
  unfolding id_word
  top = ⊎_elim as_tree as_part (h.site 0 (omega (arith, h.count))).own
    where
      as_tree : TreeAt cs ws bs us n 0 → Top
      as_tree t =
          let e : tree t.type t.start t.len t.kids t.rest ≡ whole = sym t.here ∙ first_tree in
          let types : t.type ≡ Some h.top = cc in
          let starts : t.start ≡ 0 = cc in
          let lens : t.len ≡ h.len = cc in
          let inner : t.kids ≡ h.kids = cc in
          record {
            id_is = t.id_is ∙ ap id_word types;
            len_is = t.len_is ∙ lens;
            count_is = t.count_is ∙ ap siblings inner;
            leads = subst (λ (ts : Trees). Leads cs ws bs us n 0 0 ts (get_or cs 4 0)) inner (subst (λ (s : ℕ). Leads cs ws bs us n 0 s t.kids (get_or cs 4 0)) starts t.first_is);
          }

      as_part : PartAt cs ws bs us n 0 → Top
      as_part t =
          let e : part t.start t.len t.held t.rest ≡ whole = sym t.here ∙ first_tree in
          let bad : ◌≡◌ {A = ℕ} 0 1 = cc in
          absurd (omega arith)

  pub cells_inside : 7 ≤ length cs
  cells_inside = omega (arith, h.size, h.count)

  pub ten : 10 ≤ high
  ten = omega (arith, b.high_is, h.count)

  pub first_in : get_or cs 4 0 ≤ n
  first_in = leads_in b.given 0 0 h.kids (get_or cs 4 0) top.leads

  root_held : Holds f held n high low (high - 10) (handed_in cs ws)
  root_held =
      let a : high - 0 * 10 ≡ high = omega arith in
      let c : high - (0 + 1) * 10 ≡ high - 10 = omega arith in
      let d : get_or us 0 nil ≡ handed_in cs ws = first_tree ∙ sym h.tree_is in
      subst (Holds f held n high low (high - 10)) d (subst (λ (r : ℕ). Holds f held n high low r (get_or us 0 nil)) c (subst (λ (t : ℕ). Holds f held n t low (high - (0 + 1) * 10) (get_or us 0 nil)) a (b.built 0 (omega arith) (omega (arith, h.count)))))

  kids_held : Holds f held n high low (address high (get_or cs 4 0)) h.kids
  kids_held =
      let a : high - 0 * 10 ≡ high = omega arith in
      subst (λ (t : ℕ). Holds f held n t low (address high (get_or cs 4 0)) h.kids) a (link_held b 0 0 h.kids (get_or cs 4 0) (omega arith) top.leads)

  -- the balanced tree: how many cells, which words
  few : nodes (balanced f (handed_in cs ws)) ≤ 2 * nodes h.kids + 1
  few = rw h.tree_is (few_balanced f (Some h.top) 0 h.len h.kids)

  some_node : 1 ≤ nodes (balanced f (handed_in cs ws))
  unfolding nodes
  some_node = rw (h.tree_is, balanced_is f (Some h.top) 0 h.len h.kids nil) (omega arith)

  words_same : packed (balanced f (handed_in cs ws)) ≡ ws
  words_same = packed_balanced f (handed_in cs ws) ∙ h.words_are

  -- it stands in the store as it is left
  standing : (held' : List ℕ) (rtop rnode : ℕ) → length held' ≡ length held → Holds f held' n rtop low rnode (balanced f (handed_in cs ws)) → rtop + 2 * nodes (balanced f (handed_in cs ws)) ≤ low
      → Standing held' rtop rnode (balanced f (handed_in cs ws))
  standing held' rtop rnode size holds free =
      let live = root_live f held' n rtop low rnode (balanced f (handed_in cs ws)) some_node holds in
      record {
        none_first = f;
        base = n;
        low = low;
        holds = holds;
        free = free;
        inside = omega (arith, size, b.inside);
        few = omega (arith, few, h.count, room, b.fits);
        narrow = omega (arith, ap length words_same, b.fits);
        live = live.0;
        deep = omega (arith, live.1, size, b.inside, free);
      }

  pub left_standing : get_or cs 5 0 ≤ 8 → Standing held high (high - 10) (balanced f (handed_in cs ws))
  left_standing m =
      let e : balanced f (handed_in cs ws) ≡ handed_in cs ws = ap (balanced f) h.tree_is ∙ untouched f (Some h.top) 0 h.len h.kids nil (omega (arith, top.count_is)) ∙ sym h.tree_is in
      standing held high (high - 10) refl (subst (Holds f held n high low (high - 10)) (sym e) root_held) (omega (arith, few, h.count, room, b.high_is))

  module _ (many : 8 < get_or cs 5 0) {kids : ℕ} (kids_is : kids ≡ address high (get_or cs 4 0)) where
    row_held : Holds f held n high low kids (h.kids ⊕ nil)
    row_held = rw (⊕-nil h.kids, kids_is) kids_held

    row_small : total (in_set f None) h.kids < n
    row_small = omega (arith, total_nodes (in_set f None) h.kids, h.count)

    abbrev row : Row held kids (get_or cs 5 0) 3 0
    unfolding kind id_word
    row = record {
      base = n;
      top = high;
      low = low;
      type = in_set f None;
      us = h.kids;
      tail = nil;
      inside = omega (arith, b.under, b.inside);
      holds = row_held;
      counted = sym top.count_is;
      kind_is = none_kind f;
      id_is = refl;
      few = omega (arith, row_small, room, b.fits);
      ends = h.ends;
    }

    pub row_there : Row held kids (get_or cs 5 0) 3 0
    row_there = row

    pub row_total : {r : ℕ} → ((p : Row held kids (get_or cs 5 0) 3 0) → r ≡ total p.type p.us) → r ≡ total (in_set f None) h.kids
    unfolding row
    row_total f = f row

    module _ {size okd : ℕ} (size_is : size ≡ total (in_set f None) h.kids) (kind_is : okd ≡ kind_stored f 1 (get_or cs 1 0)) where
      abbrev ready : BalanceReady held high low kids (get_or cs 5 0) 3 0 okd (get_or cs 1 0) size 0
      unfolding kind id_word
      ready = record {
        own = Some h.top;
        own_kind = kind_is ∙ kind_as f (Some h.top) refl top.id_is;
        own_id = top.id_is;
        row = record {
          base = n;
          low = low;
          type = in_set f None;
          us = h.kids;
          tail = nil;
          rest = nil;
          live = omega (arith, h.count);
          above = omega (arith, b.high_is);
          room = omega (arith, row_small, size_is, room, b.high_is);
          under = omega arith;
          inside = b.inside;
          fits = omega (arith, b.fits);
          kind_is = none_kind f;
          id_is = refl;
          holds = row_held;
          onto = refl;
          counted = sym top.count_is;
          some = omega arith;
          size_is = sym size_is;
          few = omega (arith, row_small, size_is, room, b.fits);
          ends = h.ends;
          share_is = refl;
        };
      }

      pub range_ready : BalanceReady held high low kids (get_or cs 5 0) 3 0 okd (get_or cs 1 0) size 0
      range_ready = ready

      pub divided_standing : {held' : List ℕ} {rtop rnode : ℕ} → Balanced held held' high low kids (get_or cs 5 0) 3 0 okd (get_or cs 1 0) 0 (get_or cs 3 0) size 0 rtop rnode
          → Standing held' rtop rnode (balanced f (handed_in cs ws))
      unfolding ready
      divided_standing {held' = held'} {rtop = rtop} {rnode = rnode} p =
          let e : balance (in_set f (Some h.top)) (in_set f None) 0 (get_or cs 3 0) h.kids ⊕ nil ≡ balanced f (handed_in cs ws) =
          ap (λ (l : ℕ). balance (in_set f (Some h.top)) (in_set f None) 0 l h.kids ⊕ nil) top.len_is
          ∙ sym (ap (balanced f) h.tree_is ∙ divides f (Some h.top) 0 h.len h.kids nil (omega (arith, top.count_is))) in
          standing held' rtop rnode p.kept.size (subst (Holds f held' n rtop low rnode) e (p.holds ready)) (omega (arith, p.used, few, row_small, size_is, h.count, room, b.high_is))

-- up to 8 children stay as they are; `low` stands in a premise, where a tactic finds it
pub left_alone : (f : Bool) (held cs ws : List ℕ) (high : ℕ) → (low : ℕ) × (Building f held cs ws (length cs / 7) high low 0 × (length cs / 7 * 35 ≤ low)) → get_or cs 5 0 ≤ 8
    → Standing held high (high - 10) (balanced f (handed_in cs ws))
left_alone f held cs ws high b m = left_standing b.1.0 b.1.1 m

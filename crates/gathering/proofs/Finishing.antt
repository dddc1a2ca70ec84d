-- A finished tree: one over its loose children, or its groups balanced. Assumes nothing.
use mathlib.Core.Path.{◌≡◌, refl, sym, ap, ◌∙◌}
use mathlib.Core.Bool.{Bool, true, false, ◌||◌}
use mathlib.Core.List.{List}
use Rattle.std.specs.Prelude.{Option, None, Some}
use Prim.Native.Nat.{ℕ, ◌+◌, ◌-◌, ◌*◌, ◌≤◌, ◌<◌}
use native.Mathlib.Omega.{arith}
use native.Mathlib.Decide.{dec_le}
use borrow.Author.Tests.{le-ltb}
use lib.Dec.{ltb}
use lib.ListN.{length}
use Rattle.tree.specs.Trees.{Trees, nil, tree, part, ◌⊕◌, siblings, is_nil}
use Rattle.tree.specs.Cells.{kind, id_word}
use Rattle.tree.specs.Balance.{in_set, total, balance}
use Rattle.tree.specs.Items.{repeats}
use Rattle.tree.specs.Groups.{Gathered, rest_closed, finish}
use Rattle.tree.proofs.ListingLaws.{⊕-nil}
use Rattle.tree.proofs.OwnLaws.{total_rest_closed}
use Rattle.tree.proofs.WellLaws.{well_rest_closed}
use Rattle.store.specs.Store.{Readable, told}
use Rattle.store.proofs.Frame.{same_less, frame, readable, tells_trees}
use Rattle.balance_core.specs.Rows.{Row}
use Rattle.balance_core.specs.Ready.{BalanceReady, Balanced}
use Rattle.balance_core.proofs.Lists.{siblings_total}
use Rattle.gathering.specs.Gathering.{due, RestClosed, GroupsReady, GroupsBalanced, FinishReady, Finished}
use Rattle.gathering.proofs.Due.{total_closed}
use Rattle.gathering.proofs.Ends.{ends_well}
use Rattle.gathering.proofs.Passing.{some_at}
use Rattle.tree.specs.Well.{Parts}

siblings_some : (ts : Trees) → is_nil ts ≡ false → 1 ≤ siblings ts
unfolding is_nil siblings
siblings_some nil h = let z : ◌≡◌ {A = ℕ} 0 1 = cc in absurd (omega arith)
siblings_some (tree t s l kids rest) h = omega arith
siblings_some (part s l ws rest) h = omega arith

-- a tree of an id has kind 1
pub kind_some : (i : ℕ) → 1 ≡ kind (Some i)
unfolding kind
kind_some i = refl

pub id_some : (i : ℕ) → i ≡ id_word (Some i)
unfolding id_word
id_some i = refl

-- groups to be balanced
module _ {w : List ℕ} {stack top i s e groups next : ℕ} where
  pub groups_node : GroupsReady w stack top i s e groups next → Readable w groups
  groups_node p = readable false w p.base top p.low groups p.us (omega (arith, p.room, p.under, p.inside)) p.holds

  module _ {k : ℕ} (ek : k ≡ told w groups 8) where
    pub counted : (p : GroupsReady w stack top i s e groups next) → siblings p.us ≡ k
    counted p =
        omega (arith, ek ∙ tells_trees false w p.base top p.low groups p.us p.holds, siblings_total (in_set false (Some i)) p.us, p.room, p.under, p.fits)

    pub some_row : (p : GroupsReady w stack top i s e groups next) → 1 ≤ k
    some_row p = omega (arith, counted p, siblings_some p.us p.some_group)

    abbrev pub groups_row : GroupsReady w stack top i s e groups next → Row w groups k 1 i
    groups_row p = record {
      base = p.base;
      top = top;
      low = p.low;
      type = in_set false (Some i);
      us = p.us;
      tail = nil;
      inside = omega (arith, p.room, p.under, p.inside);
      holds = rw (⊕-nil p.us) p.holds;
      counted = counted p;
      kind_is = kind_some i;
      id_is = id_some i;
      few = omega (arith, p.room, p.under, p.fits);
      ends = p.ends;
    }

    module _ {size : ℕ} (es : (p : Row w groups k 1 i) → size ≡ total p.type p.us) where
      abbrev pub groups_ready : GroupsReady w stack top i s e groups next → BalanceReady w top stack groups k 1 i 1 i size next
      groups_ready p = record {
        own = Some i;
        own_kind = kind_some i;
        own_id = id_some i;
        row = record {
          base = p.base;
          low = p.low;
          type = in_set false (Some i);
          us = p.us;
          tail = nil;
          rest = p.rest;
          live = p.live;
          above = p.above;
          room = omega (arith, es (groups_row p), p.room);
          under = p.under;
          inside = p.inside;
          fits = p.fits;
          kind_is = kind_some i;
          id_is = id_some i;
          holds = rw (⊕-nil p.us) p.holds;
          onto = p.onto;
          counted = counted p;
          some = some_row p;
          size_is = sym (es (groups_row p));
          few = omega (arith, es (groups_row p), p.room, p.under, p.fits);
          ends = p.ends;
          share_is = refl;
        };
      }

      pub groups_balanced : {len : ℕ} → len ≡ e - s → {w' : List ℕ} {rtop rnode : ℕ}
          → Balanced w w' top stack groups k 1 i 1 i s len size next rtop rnode → GroupsBalanced w w' stack top i s e groups next rtop rnode
      groups_balanced el b = record {
        grown = b.grown;
        kept = b.kept;
        used = λ p. omega (arith, b.used, es (groups_row p));
        holds = λ p. rw (← el) (b.holds (groups_ready p));
      }

-- what `finish` gives without groups, and with groups
or_true : (x y : Bool) → y ≡ true → x || y ≡ true
or_true true y e = refl
or_true false y e = e

is_nil_nil : (ts : Trees) → ts ≡ nil → is_nil ts ≡ true
unfolding is_nil
is_nil_nil ts e = rw e

-- with no groups: the tree of the loose children
pub finish_loose : (F i s e : ℕ) (g : Gathered) (rest : Trees) → g.groups ≡ nil → finish F i s e g ⊕ rest ≡ tree (Some i) s (e - s) g.loose rest
unfolding finish ◌⊕◌
finish_loose F i s e g rest h =
    let t : (ltb i F || is_nil g.groups) ≡ true = or_true (ltb i F) (is_nil g.groups) (is_nil_nil g.groups h) in
    let kids : g.loose ⊕ g.groups ≡ g.loose = ap (λ (ts : Trees). g.loose ⊕ ts) h ∙ ⊕-nil g.loose in
    ap (λ (x : Bool). elim x as (λ y. Trees) [ true ↦ tree (Some i) s (e - s) (g.loose ⊕ g.groups) nil | false ↦ balance (in_set false (Some i)) (in_set false (Some i)) s (e - s) (rest_closed i s g).groups ] ⊕ rest) t
    ∙ ap (λ (ts : Trees). tree (Some i) s (e - s) ts rest) kids

not_plain : (F i : ℕ) (ts : Trees) → (i < F → ts ≡ nil) → is_nil ts ≡ false → (ltb i F || is_nil ts) ≡ false
unfolding is_nil
not_plain F i ts h q = go (dec_le F i)
  where
    go : Dec (F ≤ i) → (ltb i F || is_nil ts) ≡ false
    go (yes a) = rw (le-ltb i F a) q
    go (no a) = let z : ◌≡◌ {A = Bool} true false = sym (is_nil_nil ts (h (omega arith))) ∙ q in let y : ◌≡◌ {A = ℕ} 0 1 = cc in absurd (omega arith)

-- a tree with groups is a repeat tree
own_repeat : (F i : ℕ) (ts : Trees) → (i < F → ts ≡ nil) → is_nil ts ≡ false → repeats F i ≡ Some i
unfolding repeats
own_repeat F i ts h q = go (dec_le F i)
  where
    go : Dec (F ≤ i) → repeats F i ≡ Some i
    go (yes a) = ap (λ (x : Bool). elim x as (λ y. Option ℕ) [ true ↦ None | false ↦ Some i ]) (le-ltb i F a)
    go (no a) = let z : ◌≡◌ {A = Bool} true false = sym (is_nil_nil ts (h (omega arith))) ∙ q in let y : ◌≡◌ {A = ℕ} 0 1 = cc in absurd (omega arith)

finish_groups : (F i s e : ℕ) (g : Gathered) → (i < F → g.groups ≡ nil) → is_nil g.groups ≡ false
    → finish F i s e g ≡ balance (in_set false (Some i)) (in_set false (Some i)) s (e - s) (rest_closed i s g).groups
unfolding finish
finish_groups F i s e g h q =
    ap (λ (x : Bool). elim x as (λ y. Trees) [ true ↦ tree (Some i) s (e - s) (g.loose ⊕ g.groups) nil | false ↦ balance (in_set false (Some i)) (in_set false (Some i)) s (e - s) (rest_closed i s g).groups ])
    (not_plain F i g.groups h q)

pub nil_total : (ts : Trees) → 1 ≤ total (in_set false None) ts → is_nil ts ≡ false
unfolding total is_nil
nil_total nil h = absurd (omega arith)
nil_total (tree t s l kids rest) h = refl
nil_total (part s l ws rest) h = refl

module _ {w : List ℕ} {stack top i s e groups loose edge next : ℕ} where
  pub finish_room : FinishReady w stack top i s e groups loose edge next → top + 34 ≤ length w
  finish_room p = omega (arith, p.room, p.under, p.inside)

  pub finish_loose_node : FinishReady w stack top i s e groups loose edge next → Readable w loose
  finish_loose_node p = readable false w p.base top p.low loose p.g.loose (omega (arith, finish_room p)) p.holds.loose_at

  pub finish_groups_node : FinishReady w stack top i s e groups loose edge next → Readable w groups
  finish_groups_node p = readable false w p.base top p.low groups p.g.groups (omega (arith, finish_room p)) p.holds.groups_at

  pub finish_next : FinishReady w stack top i s e groups loose edge next → Readable w next
  finish_next p = readable false w p.base top p.low next p.rest (omega (arith, finish_room p)) p.onto

  -- groups, after the children left over
  module _ (left : groups ≡ 0 → ⊥) {w₁ : List ℕ} {rtop rgroups rloose redge : ℕ} (c : RestClosed w w₁ top i s groups loose edge rtop rgroups rloose redge) where
    pub some_group : (p : FinishReady w stack top i s e groups loose edge next) → is_nil p.g.groups ≡ false
    some_group p = some_at w p.base top p.low groups p.g.groups p.holds.groups_at left

    pub due_own : (p : FinishReady w stack top i s e groups loose edge next) → due (repeats p.F i) p.g ≡ due (Some i) p.g
    due_own p = ap (λ (own : Option ℕ). due own p.g) (own_repeat p.F i p.g.groups p.plain (some_group p))

    pub room_closed : (p : FinishReady w stack top i s e groups loose edge next) → rtop + 24 * total (in_set false (Some i)) (rest_closed i s p.g).groups ≤ stack
    room_closed p = omega (arith, p.room, c.few, total_closed (Some i) i s p.g, due_own p)

    abbrev pub balance_ready : FinishReady w stack top i s e groups loose edge next → GroupsReady w₁ stack rtop i s e rgroups next
    balance_ready p = record {
      base = p.base;
      low = p.low;
      us = (rest_closed i s p.g).groups;
      rest = p.rest;
      live = p.live;
      above = omega (arith, p.above, c.grown);
      under = p.under;
      inside = omega (arith, p.inside, c.kept.size);
      fits = p.fits;
      holds = (c.holds p.base p.low p.g p.live p.above (omega (arith, p.room, p.under)) p.holds).groups_at;
      onto =
          frame false w w₁ p.base top p.low rtop p.low c.grown (omega arith)
          (same_less w w₁ 0 top (top + 10) p.base top p.low (omega arith) (omega arith) (omega (arith, p.room, p.under)) c.kept) next p.rest p.onto;
      some_group = nil_total (rest_closed i s p.g).groups (total_rest_closed (in_set false None) i s p.g (some_group p));
      ends = ends_well p.T (Parts p.T) s e (rest_closed i s p.g).groups (well_rest_closed p.T (Parts p.T) i s e p.g p.known p.gathers) p.last;
      room = room_closed p;
    }

    pub finished_groups : FinishReady w stack top i s e groups loose edge next → {w₂ : List ℕ} {high rnode : ℕ}
        → GroupsBalanced w₁ w₂ stack rtop i s e rgroups next high rnode
        → Finished w w₂ stack top i s e groups loose edge next high rnode
    finished_groups q b = record {
      grown = omega (arith, c.grown, b.grown);
      kept = record {
        size = b.kept.size ∙ c.kept.size;
        below = λ j l m. b.kept.below j l (omega (arith, c.grown)) ∙ c.kept.below j l m;
        above = λ j l. b.kept.above j l ∙ c.kept.above j (omega (arith, q.room));
      };
      used = λ p. omega (arith, b.used (balance_ready p), c.few, total_closed (Some i) i s p.g, due_own p);
      holds = λ p. rw (finish_groups p.F i s e p.g p.plain (some_group p)) (b.holds (balance_ready p));
    }

-- A tree over a list, or the list where it is that tree. Assumes nothing.
use mathlib.Core.Path.{◌≡◌, refl, sym, ap, ◌∙◌}
use mathlib.Core.Bool.{Bool, true, false, cond, ◌&&◌}
use mathlib.Core.List.{List}
use Rattle.std.specs.Prelude.{Option}
use Prim.Native.Nat.{ℕ, ◌+◌, ◌≤◌}
use native.Mathlib.Omega.{arith}
use borrow.Author.Tests.{eq-eqb, ne_eqb}
use lib.Dec.{eqb}
use lib.ListN.{length, get_or}
use Rattle.tree.specs.Trees.{Trees, nil, tree, part, ◌⊕◌, siblings}
use Rattle.tree.specs.Cells.{id_word}
use Rattle.tree.specs.Balance.{SetType, same_type, lone, is_tree, joined}
use Rattle.store.specs.Store.{Holds, Readable, PushedTree, stored_kind}
use Rattle.store.proofs.Types.{typed_is, typed_part}
use Rattle.store.proofs.Frame.{readable}
use Rattle.balance_core.specs.Ready.{CopyReady, Copied, JoinReady, Joined, alone}
use Rattle.tree.proofs.ListingLaws.{⊕-nil}

four : (a b d e : Bool) → cond a (cond b (cond d (cond e true false) false) false) false ≡ (a && (b && (d && e)))
four false b d e = refl
four true false d e = refl
four true true false e = refl
four true true true false = refl
four true true true true = refl

no_type : (a : Bool) → cond a false false ≡ false
no_type true = refl
no_type false = refl

lone_next : (f : Bool) (w : List ℕ) (base top low n : ℕ) (t : Option ℕ) (s l : ℕ) (kids rest : Trees) → Holds f w base top low n rest → eqb n 0 ≡ lone (tree t s l kids rest)
unfolding lone
lone_next f w base top low n t s l kids nil h = eq-eqb n 0 h
lone_next f w base top low n t s l kids (tree u s' l' ks more) h = ne_eqb n 0 (λ e. omega (arith, h.node.live))
lone_next f w base top low n t s l kids (part s' l' ws more) h = ne_eqb n 0 (λ e. omega (arith, h.node.live))

pub alone_is : (t : SetType) (w : List ℕ) (base top low n s l : ℕ) (ts : Trees) → Holds t.none_first w base top low n ts
    → alone w n (stored_kind t) (id_word t.type) s l ≡ is_tree t s l ts
unfolding is_tree
alone_is t w base top low n s l nil h = rw (eq-eqb n 0 h)
alone_is t w base top low n s l (part s' l' ws rest) h =
    rw (ne_eqb n 0 (λ e. omega (arith, h.node.live)), typed_part t.none_first t.type w n h.node.kind_at) (no_type (eqb (get_or w (n + 5) 0) 0))
alone_is t w base top low n s l (tree u s' l' kids rest) h =
    rw (
      ne_eqb n 0 (λ e. omega (arith, h.node.live)),
      typed_is t.none_first t.type u w n h.node.kind_at h.node.id_at,
      h.node.start_at,
      h.node.length_at,
      lone_next t.none_first w base top low _ u s' l' kids rest h.next,
    )
    (four (lone (tree u s' l' kids rest)) (same_type t u) (eqb s s') (eqb l l'))

and_first : (a b : Bool) → (a && b) ≡ true → a ≡ true
and_first true b e = refl
and_first false b e = e

lone_one : (t : Option ℕ) (s l : ℕ) (kids rest : Trees) → lone (tree t s l kids rest) ≡ true → siblings (tree t s l kids rest) ≡ 1
unfolding lone siblings
lone_one t s l kids nil e = refl
lone_one t s l kids (tree u s' l' ks more) e = let z : ◌≡◌ {A = Bool} true false = sym e in let y : ◌≡◌ {A = ℕ} 0 1 = cc in absurd (omega arith)
lone_one t s l kids (part s' l' ws more) e = let z : ◌≡◌ {A = Bool} true false = sym e in let y : ◌≡◌ {A = ℕ} 0 1 = cc in absurd (omega arith)

pub is_one : (t : SetType) (s l : ℕ) (ts : Trees) → is_tree t s l ts ≡ true → siblings ts ≡ 1
unfolding is_tree
is_one t s l nil e = let y : ◌≡◌ {A = ℕ} 0 1 = cc in absurd (omega arith)
is_one t s l (part s' l' ws rest) e = let y : ◌≡◌ {A = ℕ} 0 1 = cc in absurd (omega arith)
is_one t s l (tree u s' l' kids rest) e = lone_one u s' l' kids rest (and_first _ _ e)

joined_same : (t : SetType) (s l : ℕ) (ts : Trees) → is_tree t s l ts ≡ true → joined t s l ts ≡ ts
unfolding joined
joined_same t s l ts e = ap (λ (b : Bool). elim b [ true ↦ ts | false ↦ tree t.type s l ts nil ]) e

joined_new : (t : SetType) (s l : ℕ) (ts rest : Trees) → is_tree t s l ts ≡ false → joined t s l ts ⊕ rest ≡ tree t.type s l ts rest
unfolding joined ◌⊕◌
joined_new t s l ts rest e = ap (λ (b : Bool). elim b [ true ↦ ts | false ↦ tree t.type s l ts nil ] ⊕ rest) e

module _ {w : List ℕ} {top node kd i next : ℕ} where
  pub join_node : JoinReady w top node kd i next → Readable w node
  join_node p = readable p.type.none_first w p.base top p.low node p.ts (omega (arith, p.room, p.inside)) p.holds

  pub join_next : JoinReady w top node kd i next → Readable w next
  join_next p = readable p.type.none_first w p.base top p.low next p.rest (omega (arith, p.room, p.inside)) p.onto

  pub join_room : JoinReady w top node kd i next → top + 10 ≤ length w
  join_room p = omega (arith, p.room, p.inside)

  pub join_fits : JoinReady w top node kd i next → top + 10 ≤ 4294967295
  join_fits p = omega (arith, p.room, p.fits)

-- by the test's answer
module _ (s l : ℕ) {w : List ℕ} {node kd i : ℕ} {x : Bool} (e : x ≡ alone w node kd i s l) where
  pub is_at : {top next : ℕ} (p : JoinReady w top node kd i next) → is_tree p.type s l p.ts ≡ x
  is_at {top} p = sym (e ∙ rw (p.kind_is, p.id_is) (alone_is p.type w p.base top p.low node s l p.ts p.holds))

  abbrev pub join_copy : x ≡ true → {top next : ℕ} → JoinReady w top node kd i next → CopyReady w top node next
  join_copy y p = record {
    none_first = p.type.none_first;
    base = p.base;
    low = p.low;
    first = p.ts;
    tail = nil;
    rest = p.rest;
    live = p.live;
    above = p.above;
    room = p.room;
    inside = p.inside;
    fits = p.fits;
    one = is_one p.type s l p.ts (is_at p ∙ y);
    holds = rw (⊕-nil p.ts) p.holds;
    onto = p.onto;
  }

  pub join_copied : x ≡ true → {w' : List ℕ} {top next rtop rnode : ℕ} → Copied w w' top node next rtop rnode
      → Joined w w' top node kd i s l next rtop rnode
  join_copied y c = record {
    top_is = c.top_is;
    kept = c.kept;
    holds = λ p. rw (joined_same p.type s l p.ts (is_at p ∙ y)) (c.holds (join_copy y p));
  }

  pub join_pushed : x ≡ false → {w' : List ℕ} {top next r : ℕ} → PushedTree w w' top kd i s l node next r
      → Joined w w' top node kd i s l next (top + 10) r
  join_pushed y q = record {
    top_is = refl;
    kept = q.kept;
    holds = λ p. rw (joined_new p.type s l p.ts p.rest (is_at p ∙ y))
        (q.holds p.type.none_first p.base p.low p.type.type p.ts p.rest p.live p.above p.room p.kind_is p.id_is p.holds p.onto);
  }

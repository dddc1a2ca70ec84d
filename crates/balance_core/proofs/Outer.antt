-- A balanced tree from its divided children. Assumes nothing.
use mathlib.Core.Path.{◌≡◌, refl, sym, ap, ◌∙◌}
use mathlib.Core.List.{List}
use Prim.Native.Nat.{ℕ, suc, ◌+◌, ◌≤◌}
use native.Mathlib.Omega.{arith}
use Rattle.tree.specs.Trees.{Trees, nil, ◌⊕◌}
use Rattle.tree.specs.Balance.{in_set, total, share, divide, balance}
use Rattle.tree.proofs.ListingLaws.{⊕-nil}
use Rattle.store.specs.Store.{Holds}
use Rattle.store.proofs.Frame.{same_less, frame}
use Rattle.balance_core.specs.Ready.{JoinReady, Joined, DivideReady, Divided, BalanceReady, Balanced}

module _ {w : List ℕ} {top stack node k kd i okd oi size next m : ℕ} (em : m ≡ share size) where
  abbrev pub inner_ready : BalanceReady w top stack node k kd i okd oi size next → DivideReady w top stack node k kd i m size 0
  inner_ready p = record {
    base = p.row.base;
    low = p.row.low;
    type = p.row.type;
    us = p.row.us;
    tail = p.row.tail;
    rest = nil;
    live = p.row.live;
    above = p.row.above;
    room = p.row.room;
    under = p.row.under;
    inside = p.row.inside;
    fits = p.row.fits;
    kind_is = p.row.kind_is;
    id_is = p.row.id_is;
    holds = p.row.holds;
    onto = refl;
    counted = p.row.counted;
    some = p.row.some;
    size_is = p.row.size_is;
    few = p.row.few;
    ends = p.row.ends;
    share_is = em;
  }

  -- the children as the definition has them
  abbrev pub kids_of_row : BalanceReady w top stack node k kd i okd oi size next → Trees
  kids_of_row p = divide (suc (total p.row.type p.row.us)) p.row.type (share (total p.row.type p.row.us)) p.row.us

  module _ {w₁ : List ℕ} {high kids : ℕ} (d : Divided w w₁ top stack node k kd i m size 0 high kids) where
    pub stack_room : (p : BalanceReady w top stack node k kd i okd oi size next) → high + 10 ≤ stack
    stack_room p = omega (arith, d.used, p.row.room)

    pub next_held : (p : BalanceReady w top stack node k kd i okd oi size next) → Holds p.row.type.none_first w₁ p.row.base high p.row.low next p.row.rest
    next_held p =
        frame p.row.type.none_first w w₁ p.row.base top p.row.low high p.row.low d.grown (omega arith)
        (same_less w w₁ 0 top stack p.row.base top p.row.low (omega arith) (omega arith) p.row.under d.kept) next p.row.rest p.row.onto

    pub kids_made : (p : BalanceReady w top stack node k kd i okd oi size next) → Holds p.row.type.none_first w₁ p.row.base high p.row.low kids (kids_of_row p)
    kids_made p =
        let e : m ≡ share (total p.row.type p.row.us) = em ∙ ap share (sym p.row.size_is) in
        let us : Trees = p.row.us in
        let f : divide (suc (total p.row.type us)) p.row.type m us ⊕ nil ≡ kids_of_row p =
        ⊕-nil _ ∙ ap (λ (x : ℕ). divide (suc (total p.row.type us)) p.row.type x us) e in
        rw f at (d.holds (inner_ready p))

    abbrev pub join_ready : BalanceReady w top stack node k kd i okd oi size next → JoinReady w₁ high kids okd oi next
    join_ready p = record {
      base = p.row.base;
      low = p.row.low;
      type = in_set p.row.type.none_first p.own;
      ts = kids_of_row p;
      rest = p.row.rest;
      live = p.row.live;
      above = omega (arith, p.row.above, d.grown);
      room = omega (arith, stack_room p, p.row.under);
      inside = omega (arith, p.row.inside, d.kept.size);
      fits = p.row.fits;
      kind_is = p.own_kind;
      id_is = p.own_id;
      holds = kids_made p;
      onto = next_held p;
    }

    pub balanced : BalanceReady w top stack node k kd i okd oi size next
        → {s l : ℕ} {w₂ : List ℕ} {rtop rnode : ℕ} → Joined w₁ w₂ high kids okd oi s l next rtop rnode
        → Balanced w w₂ top stack node k kd i okd oi s l size next rtop rnode
    unfolding balance
    balanced p j = record {
      grown = omega (arith, d.grown, j.top_is);
      kept = record {
        size = j.kept.size ∙ d.kept.size;
        below = λ a b c. j.kept.below a b (omega (arith, d.grown)) ∙ d.kept.below a b c;
        above = λ a b. j.kept.above a (omega (arith, stack_room p)) ∙ d.kept.above a b;
      };
      used = omega (arith, d.used, j.top_is);
      used_many = λ x. omega (arith, d.used_many x, j.top_is);
      holds = λ q. rw j.top_is (j.holds (join_ready q));
    }

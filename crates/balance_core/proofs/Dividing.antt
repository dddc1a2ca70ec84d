-- Dividing a row: the groups that wait, placed before what stands already, are always the divided row. The room for the
-- nodes to come and for the groups that wait lasts, since each group placed saves one node of the two that a unit of
-- size may take. Assumes nothing.
use mathlib.Core.Path.{◌≡◌, refl, sym, ap, ◌∙◌}
use mathlib.Core.List.{List, [], ◌∷◌}
use Prim.Native.Nat.{ℕ, suc, ◌+◌, ◌-◌, ◌*◌, ◌≤◌, ◌<◌}
use native.Mathlib.Omega.{arith}
use lib.ListN.{length, get_or}
use Rattle.tree.specs.Trees.{Trees, nil, ◌⊕◌, siblings, kids_of, first_start, last_end}
use Rattle.tree.specs.Balance.{total, share, groups, placed, each, divide, balance}
use Rattle.tree.proofs.ListingLaws.{⊕-nil}
use Rattle.tree.proofs.FuelLaws.{total_kids, share-≤, divided_by, divided_again}
use Rattle.tree.proofs.BalanceLaws.{share_pos}
use Rattle.tree.proofs.SizeLaws.{some_group, two_groups}
use Rattle.store.specs.Store.{Holds, Same, Readable, told}
use Rattle.store.proofs.Frame.{same_less, frame, tells_trees, readable}
use Rattle.balance_core.specs.Pending.{GroupAt, Pending, stacked, PushReady, Pushed}
use Rattle.balance_core.specs.Ready.{CopyReady, Copied, DivideReady, Divided, BalanceReady, Balanced}
use Rattle.balance_core.proofs.Lists.{siblings-⊕, siblings_total}
use Rattle.balance_core.proofs.Copies.{inside_node}
use Rattle.balance_core.proofs.Placing.{one_lone, many_lone, placed_kept, placed_inner, placed_several, kids_ends, kids_held, start_held}
use Rattle.balance_core.proofs.Stack.{unwound, unwound_stacked, unwound_none, unwound_step, pending_deep, pending_some, pending_frame}
use Rattle.balance_core.proofs.Stack.{weight, weight_none, weight_more, weight_stacked, weight_groups, length_stacked}

module _ {w₀ : List ℕ} {top₀ stack node k kd i m size next : ℕ} (p : DivideReady w₀ top₀ stack node k kd i m size next) where
  abbrev f : Trees → Trees
  f g = placed (divided_by p.type) p.type m g

  size_pos : 1 ≤ size
  size_pos = omega (arith, siblings_total p.type p.us, p.counted, p.some, p.size_is)

  pub pos : 1 ≤ m
  pos = rw p.share_is (share_pos size size_pos)

  pub share_le : m ≤ size
  share_le = omega (arith, p.share_is, share-≤ size)

  any : 1 ≤ length (groups p.type m p.us)
  any = some_group p.type m p.us (omega (arith, p.size_is, size_pos))

  two : 2 ≤ k → 2 ≤ length (groups p.type m p.us)
  two l = let e : m ≡ share (total p.type p.us) = p.share_is ∙ ap share (sym p.size_is) in rw e (two_groups p.type p.us (many_lone p.us (omega (arith, p.counted))))

  abbrev Waits : (w : List ℕ) (high sp : ℕ) → List Trees → Type 0
  Waits w high sp gs = Pending w p.base high p.low p.type m sp stack gs

  -- the groups `gs` wait from sp on, of the size `left`; the siblings `ts` stand at `done`
  pub record Dividing (w : List ℕ) (high done left sp : ℕ) (gs : List Trees) (ts : Trees) : Type 0 where
    pub kept : Same w₀ w 0 top₀ stack
    pub grown : top₀ ≤ high
    pub waits : Waits w high sp gs
    pub onto : Holds p.type.none_first w p.base high p.low done ts
    pub whole : unwound f gs ts ≡ divided_by p.type m p.us ⊕ p.rest
    pub left_is : weight p.type gs ≡ left
    pub less : left ≤ size
    pub used : high + 20 * left + 10 * length (groups p.type m p.us) ≤ top₀ + 20 * size + 10 * length gs

  abbrev pub first_ready : PushReady w₀ stack node k kd i m
  first_ready = record {
    base = p.base;
    top = top₀;
    low = p.low;
    bottom = stack;
    type = p.type;
    us = p.us;
    tail = p.tail;
    below = [];
    room = omega (arith, p.room, p.size_is);
    under = p.under;
    inside = p.inside;
    holds = p.holds;
    counted = p.counted;
    kind_is = p.kind_is;
    id_is = p.id_is;
    few = omega (arith, p.few, p.size_is);
    ends = p.ends;
    pending = refl;
  }

  pub dividing_start : {w : List ℕ} {sp : ℕ} → Pushed w₀ w stack node k kd i m sp → Dividing w top₀ next size sp (stacked (groups p.type m p.us) []) p.rest
  dividing_start {w} {sp} h =
      let gs : List Trees = groups p.type m p.us in
      let above = h.above first_ready in
      let s : Same w₀ w p.base top₀ p.low = same_less w₀ w 0 sp stack p.base top₀ p.low (omega arith) above p.under h.kept in
      record {
        kept = same_less w₀ w 0 sp stack 0 top₀ stack (omega arith) above (omega arith) h.kept;
        grown = omega arith;
        waits = h.waits first_ready;
        onto = frame p.type.none_first w₀ w p.base top₀ p.low top₀ p.low (omega arith) (omega arith) s next p.rest p.onto;
        whole = unwound_stacked f gs [] p.rest ∙ unwound_none f (each f gs ⊕ p.rest)
            ∙ ap (λ (x : Trees). x ⊕ p.rest) (sym (divided_again p.type m p.us pos (omega (arith, share_le, p.size_is))));
        left_is = omega (arith, weight_stacked p.type gs [], weight_groups p.type m p.us, weight_none p.type, p.size_is);
        less = omega arith;
        used = omega (arith, length_stacked gs []);
      }

  -- nothing waits
  pub dividing_end : {w : List ℕ} {high done left sp : ℕ} {gs : List Trees} {ts : Trees} → Dividing w high done left sp gs ts → left ≤ 0
      → Holds p.type.none_first w p.base high p.low done (divide (suc (total p.type p.us)) p.type m p.us ⊕ p.rest)
  unfolding divided_by
  dividing_end {gs = []} {ts = ts} d z = rw (sym (unwound_none f ts) ∙ d.whole) at d.onto
  dividing_end {w = w} {high = high} {sp = sp} {gs = g ∷ gs} d z =
      absurd (omega (arith, d.left_is, pending_some w p.base high p.low p.type m sp stack (g ∷ gs) d.waits))

  end_used : {w : List ℕ} {high done left sp : ℕ} {gs : List Trees} {ts : Trees} → Dividing w high done left sp gs ts → left ≤ 0
      → high + 10 * length (groups p.type m p.us) ≤ top₀ + 20 * size
  end_used {w} {high} {done} {left} {sp} {gs} d z = omega (arith, d.used, d.left_is, pending_some w p.base high p.low p.type m sp stack gs d.waits)

  -- so the room is as promised
  pub divided_all : {w : List ℕ} {high done left sp : ℕ} {gs : List Trees} {ts : Trees} → Dividing w high done left sp gs ts → left ≤ 0
      → ((q : DivideReady w₀ top₀ stack node k kd i m size next) → Holds q.type.none_first w q.base high q.low done (divide (suc (total q.type q.us)) q.type m q.us ⊕ q.rest))
      → Divided w₀ w top₀ stack node k kd i m size next high done
  divided_all d z all =
      let u = end_used d z in
      record {
        grown = d.grown;
        kept = d.kept;
        used = omega (arith, u, any);
        used_many = λ l. omega (arith, u, two l);
        holds = all;
      }

  -- something waits
  pub dividing_some : {w : List ℕ} {high done left sp : ℕ} {gs : List Trees} {ts : Trees} → Dividing w high done left sp gs ts → 0 < left
      → (g : Trees) × (below : List Trees) × Dividing w high done left sp (g ∷ below) ts
  dividing_some {gs = []} d pos = absurd (omega (arith, d.left_is, weight_none p.type))
  dividing_some {gs = g ∷ gs} d pos = (g, gs, d)

  -- at a group
  module _ {w : List ℕ} {high done left sp : ℕ} {g : Trees} {gs : List Trees} {ts : Trees} (d : Dividing w high done left sp (g ∷ gs) ts) where
    pub deep : sp + 4 ≤ stack
    deep = d.waits.deep

    few_groups : sp + 4 * suc (length gs) ≡ stack
    few_groups = omega (arith, pending_deep w p.base high p.low p.type m sp stack (g ∷ gs) d.waits)

    weights : total p.type g + weight p.type gs ≡ left
    weights = sym (weight_more p.type g gs) ∙ d.left_is

    each_some : length gs ≤ weight p.type gs
    each_some = pending_some w p.base high p.low p.type m (sp + 4) stack gs d.waits.below

    pub length_same : length w ≡ length w₀
    length_same = d.kept.size

    pub inside_sp : sp + 4 ≤ length w
    inside_sp = omega (arith, deep, p.under, p.inside, length_same)

    pub fits_sp : sp + 4 ≤ 4294967295
    fits_sp = omega (arith, deep, p.under, p.fits)

    module _ {first count sum end : ℕ} (e : GroupAt w sp first count sum end) where
      pub count_is : siblings g ≡ count
      count_is = d.waits.counted ∙ sym e.count_is

      pub sum_is : total p.type g ≡ sum
      sum_is = d.waits.sized ∙ sym e.size_is

      end_is : last_end 0 g ≡ end
      end_is = d.waits.ended ∙ sym e.end_is

      pub held : Holds p.type.none_first w p.base high p.low first (g ⊕ d.waits.tail)
      held = rw e.node_is d.waits.holds

      pub sum_some : 1 ≤ sum
      sum_some = omega (arith, sum_is, siblings_total p.type g, d.waits.some)

      pub sum_le : sum ≤ left
      sum_le = omega (arith, sum_is, weights)

      pub room : high + 24 * sum ≤ sp + 4
      room = omega (arith, d.used, p.room, few_groups, weights, sum_is, each_some, any, d.less, sum_some)

      pub several : (count ≡ 1 → ⊥) → 2 ≤ count
      several o = omega (arith, count_is, d.waits.some, o)

      pub sum_small : (count ≡ 1 → ⊥) → sum < size
      sum_small o = omega (arith, sum_is, d.waits.small (omega (arith, count_is, several o)), share_le)

      pub low_sp : sp + 4 ≤ p.low
      low_sp = omega (arith, deep, p.under)

      high_inside : high ≤ length w
      high_inside = omega (arith, room, inside_sp)

      pub node_inside : first + 10 ≤ length w
      node_inside = inside_node p.type.none_first w p.base high p.low first (g ⊕ d.waits.tail) high_inside (omega (arith, siblings-⊕ g d.waits.tail, d.waits.some)) held

      -- a list that a call left before what stood
      module _ (w' : List ℕ) (high' done' : ℕ) (up : high ≤ high') (s : Same w w' 0 high (sp + 4)) (us : Trees) where
        still : Same w₀ w' 0 top₀ stack
        still = record {
          size = s.size ∙ d.kept.size;
          below = λ j l n. s.below j l (omega (arith, d.grown)) ∙ d.kept.below j l n;
          above = λ j l. s.above j (omega (arith, deep)) ∙ d.kept.above j l;
        }

        pub placed_one : high' + 10 ≤ high + 20 * sum → us ≡ f g → Holds p.type.none_first w' p.base high' p.low done' (us ⊕ ts) → Dividing w' high' done' (left - sum) (sp + 4) gs (us ⊕ ts)
        placed_one used eq h = record {
          kept = still;
          grown = omega (arith, d.grown);
          waits = pending_frame w p.base high p.low p.type m w' high' (sp + 4) (sp + 4) stack gs up (omega arith) low_sp s p.under d.waits.below;
          onto = h;
          whole = ap (λ (x : Trees). unwound f gs (x ⊕ ts)) eq ∙ sym (unwound_step f g gs ts) ∙ d.whole;
          left_is = omega (arith, weights, sum_is);
          less = omega (arith, d.less);
          used = omega (arith, d.used, sum_le);
        }

      -- a lone child that stays
      module _ (o : count ≡ 1) (l : sum ≤ m) where
        abbrev pub copy_ready : CopyReady w high first done
        copy_ready = record {
          none_first = p.type.none_first;
          base = p.base;
          low = p.low;
          first = g;
          tail = d.waits.tail;
          rest = ts;
          live = p.live;
          above = omega (arith, p.above, d.grown);
          room = omega (arith, room, sum_some, low_sp);
          inside = omega (arith, p.inside, length_same);
          fits = p.fits;
          one = count_is ∙ o;
          holds = held;
          onto = d.onto;
        }

        pub dividing_kept : {w' : List ℕ} {rtop rnode : ℕ} → Copied w w' high first done rtop rnode → Dividing w' rtop rnode (left - sum) (sp + 4) gs (g ⊕ ts)
        dividing_kept {w'} {rtop} {rnode} c =
            placed_one w' rtop rnode (omega (arith, c.top_is))
            (same_less w w' 0 high (high + 10) 0 high (sp + 4) (omega arith) (omega arith) (omega (arith, room, sum_some)) c.kept) g
            (omega (arith, c.top_is, sum_some)) (sym (placed_kept p.type m g (count_is ∙ o) (omega (arith, sum_is)))) (rw c.top_is (c.holds copy_ready))

      -- several trees
      module _ (o : count ≡ 1 → ⊥) where
        abbrev pub many_ready : BalanceReady w high (sp + 4) first count kd i kd i sum done
        many_ready = record {
          own = p.type.type;
          own_kind = p.kind_is;
          own_id = p.id_is;
          row = record {
            base = p.base;
            low = p.low;
            type = p.type;
            us = g;
            tail = d.waits.tail;
            rest = ts;
            live = p.live;
            above = omega (arith, p.above, d.grown);
            room = room;
            under = low_sp;
            inside = omega (arith, p.inside, length_same);
            fits = p.fits;
            kind_is = p.kind_is;
            id_is = p.id_is;
            holds = held;
            onto = d.onto;
            counted = count_is;
            some = omega (arith, several o);
            size_is = sum_is;
            few = omega (arith, p.few, sum_le, d.less);
            ends = d.waits.ends;
            share_is = refl;
          };
        }

        pub dividing_many : {start len : ℕ} → start ≡ get_or w (first + 2) 0 → len ≡ end - start → {w' : List ℕ} {rtop rnode : ℕ}
            → Balanced w w' high (sp + 4) first count kd i kd i start len sum done rtop rnode
            → Dividing w' rtop rnode (left - sum) (sp + 4) gs (balance p.type p.type start len g ⊕ ts)
        dividing_many {start} {len} es el {w'} {rtop} {rnode} c =
            let fs : first_start g ≡ start = start_held p.type.none_first w p.base high p.low first g d.waits.tail d.waits.some held ∙ sym es in
            let fl : last_end 0 g - first_start g ≡ len = omega (arith, end_is, fs, el) in
            let eq : balance p.type p.type start len g ≡ f g =
            sym (placed_several p.type m g (omega (arith, count_is, several o))
            ∙ ap (λ (x : ℕ). balance p.type p.type (first_start g) x g) fl ∙ ap (λ (x : ℕ). balance p.type p.type x len g) fs) in
            placed_one w' rtop rnode c.grown c.kept (balance p.type p.type start len g) (c.used_many (several o)) eq (c.holds many_ready)

      -- a lone child above the share
      module _ (o : count ≡ 1) (l : m < sum) where
        pub kids_size : suc (total p.type (kids_of g)) ≡ sum
        kids_size = total_kids p.type g (omega (arith, sum_is, pos)) (one_lone g (count_is ∙ o)) ∙ sum_is

        pub kids_at : Holds p.type.none_first w p.base high p.low (get_or w (first + 4) 0) (kids_of g)
        kids_at = kids_held p.type.none_first w p.base high p.low first p.type g d.waits.tail (count_is ∙ o) (omega (arith, sum_is, pos)) held

        pub kids_read : Readable w (get_or w (first + 4) 0)
        kids_read = readable p.type.none_first w p.base high p.low _ (kids_of g) high_inside kids_at

        module _ {n : ℕ} (en : n ≡ told w (get_or w (first + 4) 0) 8) where
          pub kids_count : siblings (kids_of g) ≡ n
          kids_count = omega (arith, en, tells_trees p.type.none_first w p.base high p.low _ (kids_of g) kids_at, siblings_total p.type (kids_of g), kids_size, p.few, sum_le, d.less)

          abbrev pub kids_ready : PushReady w (sp + 4) (get_or w (first + 4) 0) n kd i m
          kids_ready = record {
            base = p.base;
            top = high;
            low = p.low;
            bottom = stack;
            type = p.type;
            us = kids_of g;
            tail = nil;
            below = gs;
            room = omega (arith, room, kids_size);
            under = p.under;
            inside = omega (arith, p.inside, length_same);
            holds = rw (⊕-nil (kids_of g)) kids_at;
            counted = kids_count;
            kind_is = p.kind_is;
            id_is = p.id_is;
            few = omega (arith, p.few, sum_le, d.less, kids_size);
            ends = kids_ends g d.waits.ends;
            pending = d.waits.below;
          }

          pub dividing_inner : {w' : List ℕ} {sp' : ℕ} → Pushed w w' (sp + 4) (get_or w (first + 4) 0) n kd i m sp'
              → Dividing w' high done (left - 1) sp' (stacked (groups p.type m (kids_of g)) gs) ts
          dividing_inner {w'} {sp'} h =
              let inner : List Trees = groups p.type m (kids_of g) in
              let above = h.above kids_ready in
              let s : Same w w' 0 high (sp + 4) = same_less w w' 0 sp' (sp + 4) 0 high (sp + 4) (omega arith) above (omega arith) h.kept in
              let s_low : Same w w' p.base high p.low = same_less w w' 0 high (sp + 4) p.base high p.low (omega arith) (omega arith) low_sp s in
              let some = some_group p.type m (kids_of g) (omega (arith, kids_size, l, pos)) in
              let inner-is = placed_inner p.type m g (count_is ∙ o) (omega (arith, sum_is)) pos in
              record {
                kept = still w' high done (omega arith) s ts;
                grown = d.grown;
                waits = h.waits kids_ready;
                onto = frame p.type.none_first w w' p.base high p.low high p.low (omega arith) (omega arith) s_low done ts d.onto;
                whole = unwound_stacked f inner gs ts ∙ ap (λ (x : Trees). unwound f gs (x ⊕ ts)) (sym inner-is) ∙ sym (unwound_step f g gs ts) ∙ d.whole;
                left_is = omega (arith, weight_stacked p.type inner gs, weight_groups p.type m (kids_of g), weights, kids_size, sum_is);
                less = omega (arith, d.less);
                used = omega (arith, d.used, length_stacked inner gs, some, sum_le, sum_some);
              }

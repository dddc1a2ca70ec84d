-- The groups of a row wait one after the other: what is put already, and the groups of the rest of the row. Assumes nothing.
use mathlib.Core.Path.{◌≡◌, refl, sym, ap, ◌∙◌}
use mathlib.Core.List.{List, [], ◌∷◌}
use Prim.Native.Nat.{ℕ, ◌+◌, ◌-◌, ◌*◌, ◌≤◌, ◌<◌}
use native.Mathlib.Omega.{arith}
use lib.ListN.{length, get_or}
use Rattle.words.specs.Words.{put}
use Rattle.words.proofs.Stores.{put_in}
use Rattle.tree.specs.Trees.{Trees, nil, ◌⊕◌, siblings}
use Rattle.tree.specs.Balance.{total, groups}
use Rattle.tree.proofs.ListingLaws.{⊕-assoc}
use Rattle.tree.proofs.FuelLaws.{total-⊕}
use Rattle.store.specs.Store.{Holds, Same}
use Rattle.store.proofs.Frame.{same_less, same_put, frame}
use Rattle.balance_core.specs.Rows.{Ends, Row, Grouped}
use Rattle.balance_core.specs.Pending.{Pending, stacked, PushReady}
use Rattle.balance_core.proofs.Lists.{siblings_none, siblings-⊕, siblings_total}
use Rattle.balance_core.proofs.Growth.{ends_front, ends_back}
use Rattle.balance_core.proofs.Stack.{pending_deep, pending_frame}

stacked_nil : (t : _) (m : ℕ) (cur : List Trees) → stacked (groups t m nil) cur ≡ cur
unfolding stacked groups
stacked_nil t m cur = refl

stacked_cons : (g : Trees) (gs cur : List Trees) → stacked (g ∷ gs) cur ≡ stacked gs (g ∷ cur)
unfolding stacked
stacked_cons g gs cur = refl

module _ {w₀ : List ℕ} {stack node k kd i m : ℕ} (p : PushReady w₀ stack node k kd i m) where
  -- the groups `cur` wait from sp on, and those of `rest`, which stands at `at`, are still to come
  pub record Pushing (w : List ℕ) (sp at left : ℕ) (rest : Trees) (cur : List Trees) : Type 0 where
    pub kept : Same w₀ w 0 sp stack
    pub down : sp ≤ stack
    pub room : p.top + 4 * total p.type rest ≤ sp
    pub holds : Holds p.type.none_first w p.base p.top p.low at (rest ⊕ p.tail)
    pub counted : siblings rest ≡ left
    pub few : total p.type rest < 4294967295
    pub ends : Ends rest
    pub pending : Pending w p.base p.top p.low p.type m sp p.bottom cur
    pub whole : stacked (groups p.type m rest) cur ≡ stacked (groups p.type m p.us) p.below

  pub pushing_start : Pushing w₀ stack node k p.us p.below
  pushing_start = record {
    kept = record { size = refl; below = λ j l n. refl; above = λ j l. refl };
    down = omega arith;
    room = p.room;
    holds = p.holds;
    counted = p.counted;
    few = p.few;
    ends = p.ends;
    pending = p.pending;
    whole = refl;
  }

  module _ {w : List ℕ} {sp at left : ℕ} {rest : Trees} {cur : List Trees} (h : Pushing w sp at left rest cur) where
    pub sp_bottom : sp ≤ p.bottom
    sp_bottom = omega (arith, pending_deep w p.base p.top p.low p.type m sp p.bottom cur h.pending)

    abbrev pub row_left : Row w at left kd i
    row_left = record {
      base = p.base;
      top = p.top;
      low = p.low;
      type = p.type;
      us = rest;
      tail = p.tail;
      inside = omega (arith, h.room, sp_bottom, p.under, p.inside, h.kept.size);
      holds = h.holds;
      counted = h.counted;
      kind_is = p.kind_is;
      id_is = p.id_is;
      few = h.few;
      ends = h.ends;
    }

    module _ {count sum next end : ℕ} (g : Grouped w at left kd i m row_left count sum next end) where
      counts : count + siblings g.rest ≡ left
      counts = omega (arith, h.counted, ap siblings g.split, siblings-⊕ g.first g.rest, g.count_is)

      pub count_le : count ≤ left
      count_le = omega (arith, counts)

      sums : sum + total p.type g.rest ≡ total p.type rest
      sums = omega (arith, ap (total p.type) g.split, total-⊕ p.type g.first g.rest, g.sum_is)

      sum_some : 1 ≤ sum
      sum_some = omega (arith, siblings_total p.type g.first, g.sum_is, g.count_is, g.some)

      pub four : 4 ≤ sp
      four = omega (arith, h.room, sums, sum_some)

      pub inside_sp : sp ≤ length w
      inside_sp = omega (arith, sp_bottom, p.under, p.inside, h.kept.size)

      module _ {w' : List ℕ} (sp' : ℕ) (e : sp' + 4 ≡ sp) (f : w' ≡ put w sp' (at ∷ count ∷ sum ∷ end ∷ [])) where
        inside : sp' + 4 ≤ length w
        inside = omega (arith, inside_sp)

        same : Same w w' 0 sp' sp
        same = rw (f, ← e) (same_put w sp' (at ∷ count ∷ sum ∷ end ∷ []) inside)

        top_le : p.top + 4 * total p.type g.rest ≤ sp'
        top_le = omega (arith, h.room, sums, sum_some)

        low_le : sp ≤ p.low
        low_le = omega (arith, sp_bottom, p.under)

        same_low : Same w w' p.base p.top p.low
        same_low = same_less w w' 0 sp' sp p.base p.top p.low (omega arith) (omega (arith, top_le)) low_le same

        word : (j : ℕ) → j < 4 → get_or w' (sp' + j) 0 ≡ get_or (at ∷ count ∷ sum ∷ end ∷ []) j 0
        word j l = rw f (put_in w sp' (at ∷ count ∷ sum ∷ end ∷ []) inside j l)

        node_at : get_or w' sp' 0 ≡ at
        node_at = let z : sp' + 0 ≡ sp' = omega arith in rw z at (word 0 (omega arith))

        held : Holds p.type.none_first w' p.base p.top p.low at (g.first ⊕ (g.rest ⊕ p.tail))
        held =
            let q : rest ⊕ p.tail ≡ g.first ⊕ (g.rest ⊕ p.tail) = ap (λ (x : Trees). x ⊕ p.tail) g.split ∙ ⊕-assoc g.first g.rest p.tail in
            rw q at (frame p.type.none_first w w' p.base p.top p.low p.top p.low (omega arith) (omega arith) same_low at (rest ⊕ p.tail) h.holds)

        waits : Pending w' p.base p.top p.low p.type m sp p.bottom cur
        waits = pending_frame w p.base p.top p.low p.type m w' p.top sp sp p.bottom cur (omega arith) (omega arith) low_le
            (same_less w w' 0 sp' sp 0 p.top sp (omega arith) (omega (arith, top_le)) (omega arith) same) p.under h.pending

        pub pushing_next : Pushing w' sp' next (left - count) g.rest (g.first ∷ cur)
        pushing_next = record {
          kept = record {
            size = same.size ∙ h.kept.size;
            below = λ j l n. same.below j l n ∙ h.kept.below j l (omega arith);
            above = λ j l. same.above j (omega (arith, h.down)) ∙ h.kept.above j l;
          };
          down = omega (arith, h.down);
          room = top_le;
          holds = frame p.type.none_first w w' p.base p.top p.low p.top p.low (omega arith) (omega arith) same_low next (g.rest ⊕ p.tail) g.next_is;
          counted = omega (arith, counts);
          few = omega (arith, h.few, sums);
          ends = ends_back g.first g.rest (rw g.split at h.ends);
          pending = record {
            deep = omega (arith, sp_bottom);
            tail = g.rest ⊕ p.tail;
            holds = rw node_at held;
            counted = g.count_is ∙ sym (word 1 (omega arith));
            sized = g.sum_is ∙ sym (word 2 (omega arith));
            ended = g.end_is ∙ sym (word 3 (omega arith));
            some = omega (arith, g.count_is, g.some);
            small = λ l. rw g.sum_is (g.small (omega (arith, g.count_is)));
            ends = ends_front g.first g.rest (rw g.split at h.ends);
            below = rw e waits;
          };
          whole = sym (stacked_cons g.first (groups p.type m g.rest) cur) ∙ ap (λ (x : List Trees). stacked x cur) (sym g.groups_is) ∙ h.whole;
        }

    -- nothing is left of the row
    pub pushing_end : left ≤ 0 → Pending w p.base p.top p.low p.type m sp p.bottom (stacked (groups p.type m p.us) p.below)
    pushing_end z =
        let e : rest ≡ nil = siblings_none rest (omega (arith, h.counted)) in
        let f : cur ≡ stacked (groups p.type m p.us) p.below = sym (ap (λ (x : Trees). stacked (groups p.type m x) cur) e ∙ stacked_nil p.type m cur) ∙ h.whole in
        rw (← f) h.pending

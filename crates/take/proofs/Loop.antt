-- The steps of the take loop put together: each goes on to the same end, and each leaves fewer records or trees. Assumes nothing.
use mathlib.Core.Path.{◌≡◌, refl, sym, ap, subst, ◌∙◌}
use mathlib.Core.Bool.{Bool, true, false, true≢false}
use mathlib.Core.List.{List, [], ◌∷◌}
use Rattle.std.specs.Prelude.{Option}
use Prim.Native.Nat.{ℕ, zero, suc, ◌+◌, ◌-◌, ◌≤◌, ◌<◌}
use native.Mathlib.Omega.{arith}
use borrow.Author.Tests.{leb-true, leb-false}
use lib.Dec.{leb}
use lib.ListN.{length}
use Rattle.words.specs.Words.{id_of}
use Rattle.tree.specs.Items.{same}
use Rattle.take.specs.Going.{Outer, deep, own_under, Going}
use Rattle.take.specs.Steps.{Passes, Passed, Closes, Closed, Opens, Opened, Deepens, Deepened}
use Rattle.take.specs.Starting.{Starts, Started}
use Rattle.take.specs.Loop.{own_at, WithPart, TookRecord, Unfinished, Stepped, ended, all_gathered, BeginsAt, Begins, TakenAll}
use Rattle.take.specs.declared.BuiltNode.{BuiltNode}
use Rattle.take.specs.declared.PendingNode.{PendingNode}
use Rattle.take.specs.declared.StartedNode.TheVariants.{Built, Pending}
use Rattle.take.specs.declared.State.{State}
use Rattle.take.proofs.Ways.{going_end}

module _ {F b : ℕ} {own : Option ℕ} {w l l₁ : List ℕ} {s : State} (q₀ : Starts F b own w l s) where
  -- a part
  module _ (x : BuiltNode) (started : (q : Starts F b own w l s) → Started F b own w l l₁ s q (Built x)) where
    pub part_fits : (s.children.top + 10 < 4294967296) × (x.p < 4294967296)
    part_fits =
        let go = q₀.going in
        (omega (arith, go.room, go.inside, go.fits, q₀.some_record), omega (arith, (started q₀).less, go.shallow, go.few))

    pub took_part : {t : State} → WithPart s x t → TookRecord F b own w l l₁ s t
    took_part p = rw p.is (record { going = λ q. (started q).going p.m p.fresh; less = omega (arith, (started q₀).less) })

  module _ (y : PendingNode) (started : (q : Starts F b own w l s) → Started F b own w l l₁ s q (Pending y)) where
    -- a tree deeper than 2,500
    pub deep_asks : 2500 < s.depth → Deepens F b w l₁ s y.node y.memo
    deep_asks d =
        let v = started q₀ in
        subst (λ (x : List ℕ). Deepens F b w x s y.node y.memo) (sym v.0) (record { T = q₀.T; whole = q₀.whole; going = q₀.going; unpacked = v.1; too_deep_is = d })

    pub took_deep : 2500 < s.depth → {l' : List ℕ} {t : State} → Deepened F b w l₁ l' s y.node y.memo t → TookRecord F b own w l l' s t
    took_deep d {l'} {t} v = record {
      going = λ q.
          let e = started q in
          let v' = subst (λ (x : List ℕ). Deepened F b w x l' s y.node y.memo t) e.0 v in
          v'.going (record { T = q.T; whole = q.whole; going = q.going; unpacked = e.1; too_deep_is = d });
      less = omega (arith, v.less, v.depth);
    }

    -- a tree to be read
    pub open_asks : s.depth ≤ 2500 → Opens w l₁ s y.node y.memo
    open_asks d =
        let v = started q₀ in
        subst (λ (x : List ℕ). Opens w x s y.node y.memo) (sym v.0) (record { F = F; T = q₀.T; b = b; whole = q₀.whole; going = q₀.going; unpacked = v.1; shallow = d })

    pub took_open : s.depth ≤ 2500 → {l' : List ℕ} {t : State} → Opened w l₁ l' s y.node y.memo t → TookRecord F b own w l l' s t
    took_open d {l'} {t} v = record {
      going = λ q.
          let e = started q in
          let v' = subst (λ (x : List ℕ). Opened w x l' s y.node y.memo t) e.0 v in
          v'.going (record { F = F; T = q.T; b = b; whole = q.whole; going = q.going; unpacked = e.1; shallow = d });
      less = omega (arith, v.less, v.depth);
    }

-- what the present tree's children stand under, by the depth
own_deep : (F : ℕ) (ks : List Outer) (d i : ℕ) → d ≡ deep ks → own_at F d i ≡ own_under F ks i
unfolding deep
own_deep F [] zero i h = refl
own_deep F [] (suc d) i h = absurd (omega arith)
own_deep F (k ∷ ks) zero i h = absurd (omega arith)
own_deep F (k ∷ ks) (suc d) i h = refl

module _ {F b : ℕ} {w l : List ℕ} {s : State} where
  abbrev pub closing : Unfinished F b w l s → s.p ≤ s.tree.floor → Closes w l s
  closing q h = record { F = F; T = q.T; b = b; whole = q.whole; going = q.going; deeper = q.more h; ended = h }

  pub closed_step : s.p ≤ s.tree.floor → {l' : List ℕ} {t : State} → Closed w l l' s t → Stepped F b w l l' s t
  closed_step h v = record { going = λ q. v.going (closing q h); less = omega (arith, v.same_place, v.depth) }

  module _ {own : Option ℕ} (own_is : own ≡ own_at F s.depth s.tree.id) {id : ℕ} (id_is : id ≡ id_of w (s.p - 1)) (inside : s.tree.floor < s.p) where
    pub own_same : (q : Unfinished F b w l s) → own ≡ own_under F q.going.stack s.tree.id
    own_same q = own_is ∙ own_deep F q.going.stack s.depth s.tree.id q.going.depth_is

    abbrev pub passing : same own id ≡ true → Unfinished F b w l s → Passes w l b s
    passing h q = record {
      F = F;
      T = q.T;
      whole = q.whole;
      going = q.going;
      some_record = inside;
      alone = ap (λ x. same (own_under F q.going.stack s.tree.id) x) (sym id_is) ∙ (ap (λ (x : Option ℕ). same x id) (sym (own_same q)) ∙ h);
    }

    pub passed_step : same own id ≡ true → {l' : List ℕ} {t : State} → Passed w l l' b s t → Stepped F b w l l' s t
    passed_step h v = record { going = λ q. v.going (passing h q); less = omega (arith, v.less, v.depth) }

    abbrev pub starting : same own id ≡ false → Unfinished F b w l s → Starts F b own w l s
    starting h q = record {
      T = q.T;
      whole = q.whole;
      going = q.going;
      some_record = inside;
      own_is = own_same q;
      other = ap (λ x. same own x) (sym id_is) ∙ h;
    }

    pub took_step : same own id ≡ false → {l' : List ℕ} {t : State} → TookRecord F b own w l l' s t → Stepped F b w l l' s t
    took_step h v = record { going = λ q. v.going (starting h q); less = v.less }

-- the end
ended_is : (s : State) → ended s ≡ true → (s.depth ≡ 0) × (s.p ≤ s.tree.floor)
ended_is s h = go s.depth refl h
  where
    go : (d : ℕ) → s.depth ≡ d → elim d as (λ x. Bool) [ zero ↦ leb s.p s.tree.floor | suc k ↦ false ] ≡ true → (s.depth ≡ 0) × (s.p ≤ s.tree.floor)
    go zero e h = (e, leb-true s.p s.tree.floor h)
    go (suc k) e h = absurd (true≢false (sym h))

more_left : (s : State) → ended s ≡ false → s.p ≤ s.tree.floor → 0 < s.depth
more_left s h p = go s.depth refl h
  where
    go : (d : ℕ) → s.depth ≡ d → elim d as (λ x. Bool) [ zero ↦ leb s.p s.tree.floor | suc k ↦ false ] ≡ false → 0 < s.depth
    go zero e h = absurd (omega (arith, leb-false s.p s.tree.floor h))
    go (suc k) e h = omega arith

-- what the loop keeps
module _ (F b : ℕ) (w l₀ : List ℕ) (s₀ : State) where
  pub record Kept (l : List ℕ) (s : State) : Type 0 where
    pub size : length l ≡ length l₀
    pub going : (S : ℕ) (q : BeginsAt F b S w l₀ s₀) → Going F q.T b w l (all_gathered F b S w) s

  pub kept_asks : Begins F b w l₀ s₀ → (l : List ℕ) (s : State) → Kept l s → ended s ≡ false → Unfinished F b w l s
  kept_asks p l s k h =
      let q = p.begins in
      record { T = q.T; whole = all_gathered F b p.S w; going = k.going p.S q; more = more_left s h }

  pub kept_step : (l l' : List ℕ) (s t : State) → length l' ≡ length l → Kept l s → ended s ≡ false → Stepped F b w l l' s t → Kept l' t
  kept_step l l' s t size k h v = record {
    size = size ∙ k.size;
    going = λ S q. v.going (record { T = q.T; whole = all_gathered F b S w; going = k.going S q; more = more_left s h });
  }

  pub kept_end : (l : List ℕ) (s : State) → Kept l s → ended s ≡ true → (S : ℕ) (q : BeginsAt F b S w l₀ s₀) → TakenAll F b S w l s.children.top s.low s.children.loose
  kept_end l s k h S q = let e = ended_is s h in going_end F q.T b S w l s (k.going S q) e.0 e.1

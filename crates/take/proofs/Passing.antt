-- A record of the present tree's own id is passed over. Assumes nothing.
use mathlib.Core.Path.{◌≡◌, refl, sym, ap, subst, ◌∙◌}
use mathlib.Core.Bool.{true, false, true≢false}
use mathlib.Core.List.{List}
use Rattle.std.specs.Prelude.{Option, None}
use Prim.Native.Nat.{ℕ, ◌+◌, ◌-◌, ◌*◌, ◌≤◌, ◌<◌}
use native.Mathlib.Omega.{arith}
use lib.ListN.{get_or}
use Rattle.tree.specs.Items.{Items, mark, same}
use Rattle.tree.specs.Groups.{Gathered, pass}
use Rattle.tree.specs.Build.{walk}
use Rattle.tree.proofs.FlatLaws.{floor-≤}
use Rattle.tree.proofs.WellLaws.{gathers_down, gathers_pass}
use Rattle.words.specs.Words.{id_of, end_of}
use Rattle.store.specs.Store.{Readable}
use Rattle.store.proofs.Frame.{same_less, readable}
use Rattle.cursor.proofs.Spelled.{stands_past}
use Rattle.gathering.specs.declared.Gathering.{Gathering}
use Rattle.gathering.specs.Gathering.{PassedOver}
use Rattle.gathering.proofs.Due.{due_pass}
use Rattle.scan.proofs.Memory.{remembered_lower, remembered_past_mark}
use Rattle.take.specs.Going.{deep, own_under, Level, Going}
use Rattle.take.specs.Steps.{Passes, Passed}
use Rattle.take.specs.declared.State.{State}
use Rattle.take.proofs.Steps.{going_on, own_item}
use Rattle.tree.specs.Ordered.{floor}
use Rattle.tree.specs.Well.{Parts}

walk_mark : (F b i s e n : ℕ) (rest : Items) (d : ℕ) (own : Option ℕ) (g : Gathered) → walk F b rest d 0 own (pass b i e g) ≡ walk F b (mark i s e n rest) d 0 own g
unfolding walk
walk_mark F b i s e n rest d own g = refl

-- nothing stands alone where there is no repeat tree
not_alone : (own : Option ℕ) (i : ℕ) → same own i ≡ true → own ≡ None → ⊥
unfolding same
not_alone own i h n = true≢false (sym h ∙ ap (λ (o : Option ℕ). same o i) n)

module _ (F T b : ℕ) (w l l' : List ℕ) (whole : Gathered) (s : State) (go : Going F T b w l whole s) where
  abbrev own : Option ℕ
  own = own_under F go.stack s.tree.id

  abbrev g : Gathered
  g = go.g

  module _ (id end : ℕ) (c : Gathering) (inside : s.tree.floor < s.p) (id_is : id ≡ get_or w ((s.p - 1) * 4) 0) (end_is : end ≡ get_or w ((s.p - 1) * 4 + 2) 0) (alone : same own id ≡ true)
      (passed : PassedOver l l' s.children.top id end b s.children.groups s.children.loose s.children.edge c.top c.groups c.loose c.edge) where
    abbrev Now : (its : Items) (g' : Gathered) (p hi top : ℕ) (k : List ℕ) (c : Gathering) → Type 0
    Now its g' p hi top k c =
        Level F T b w k go.base top s.low own s.tree.floor p its g' c.groups c.loose c.edge s.tree.start hi hi s.tree.end s.memo

    passed_level : (i a e n : ℕ) (rest : Items) → Now (mark i a e n rest) g s.p go.hi s.children.top l s.children → Now rest (pass b i e g) (s.p - 1) (floor n a e) c.top l' c
    passed_level i a e n rest h =
        let f = h.fits in
        let low = floor-≤ n a e f.ordered in
        let fit : s.children.top + 10 ≤ s.low = omega (arith, go.room, inside) in
        let i_is : id ≡ i = id_is ∙ h.stands.spells.id in
        let e_is : end ≡ e = end_is ∙ h.stands.spells.end in
        record {
          stands = stands_past F own w s.tree.floor s.p i a e n rest h.stands;
          fits = f.rest;
          gathers = gathers_down T (Parts T) e (floor n a e) s.tree.end (pass b i e g) low (gathers_pass T (Parts T) b i e go.hi s.tree.end g f.known f.ends h.gathers);
          holds = rw (i_is, e_is) at (passed.holds go.base s.low g (omega (arith, go.base_is)) go.above fit h.holds);
          plain = λ q. absurd (not_alone own i h.stands.marked.alone q);
          remembered = remembered_lower (s.p - 1) rest (go.hi - b) (floor n a e - b) s.memo (omega (arith, f.ends)) (remembered_past_mark s.p i a e n rest (go.hi - b) s.memo (omega (arith, inside)) h.remembered);
        }

    pub going_pass : Going F T b w l' whole (record { p = s.p - 1; depth = s.depth; low = s.low; tree = s.tree; children = c; memo = s.memo })
    going_pass =
        let it = own_item F own w s.tree.floor s.p id go.its go.level.stands inside id_is alone in
        let level = subst (λ (x : Items). Now x g s.p go.hi s.children.top l s.children) it.is go.level in
        going_on F T b w l whole s go l' (s.p - 1) s.low c s.memo it.rest (pass b it.i it.e g) (floor it.n it.s it.e) (omega arith) (omega (arith, floor-≤ it.n it.s it.e level.fits.ordered, level.fits.ends))
        (same_less l l' 0 s.children.top (s.children.top + 10) 0 s.children.top s.low (omega arith) (omega arith) (omega (arith, go.room, inside)) passed.kept)
        passed.grown (omega arith)
        (passed_level it.i it.s it.e it.n it.rest level)
        (walk_mark F b it.i it.s it.e it.n it.rest (deep go.stack) own g ∙ ap (λ (x : Items). walk F b x (deep go.stack) 0 own g) (sym it.is))
        (omega (arith, due_pass own b it.i it.e g, passed.few, inside))

module _ (w l : List ℕ) (b : ℕ) (s : State) (q : Passes w l b s) where
  abbrev go : Going q.F q.T b w l q.whole s
  go = q.going

  pub pass_asks : Readable l s.children.groups × Readable l s.children.loose
  pass_asks =
      let room : s.children.top + 10 ≤ s.low = omega (arith, go.room, q.some_record) in
      let h = go.level.holds in (
        readable false l go.base s.children.top s.low s.children.groups go.g.groups (omega (arith, room, go.inside)) h.groups_at,
        readable false l go.base s.children.top s.low s.children.loose go.g.loose (omega (arith, room, go.inside)) h.loose_at,
      )

  pub passed_on : (l' : List ℕ) (last id end : ℕ) (c : Gathering) → last ≡ s.p - 1 → id ≡ id_of w last → end ≡ end_of w last
      → PassedOver l l' s.children.top id end b s.children.groups s.children.loose s.children.edge c.top c.groups c.loose c.edge
      → Passed w l l' b s (record { p = last; depth = s.depth; low = s.low; tree = s.tree; children = c; memo = s.memo })
  passed_on l' last id end c last_is id_is end_is over = rw last_is (record {
    going = λ q. going_pass q.F q.T b w l l' q.whole s q.going id end c q.some_record (rw last_is at id_is) (rw last_is at end_is) (ap (λ x. same (own_under q.F q.going.stack s.tree.id) x) (rw last_is at id_is) ∙ q.alone) over;
    less = omega (arith, q.some_record);
    depth = refl;
  })

-- The check answers 9 at record i exactly where 1 to 5 and 11 do not apply, no record before i has a fault of 6 to 9, none of 6
-- to 8 applies to record i, and its span begins inside an earlier record's span without covering it whole (specs/Nine).
-- By one record of the definition after the other.
-- Assumes nothing.
use mathlib.Core.Path.{◌≡◌, refl, sym, ap, subst, ◌∙◌}
use mathlib.Core.List.{List, []}
use mathlib.Core.Bool.{Bool, true, false, cond, not, ◌||◌, true≢false}
use mathlib.Core.Logic.{◌↔◌}
use Rattle.std.specs.Prelude.{Option, None, Some}
use Prim.Native.Nat.{ℕ, zero, suc, ◌+◌, ◌-◌, ◌*◌, ◌/◌, ◌%◌, ◌≤◌, ◌<◌}
use native.Mathlib.Decide.{ℕ_discrete}
use native.Mathlib.Omega.{arith}
use borrow.Author.Tests.{le-ltb, lt-leb, eq-eqb, ltb-false, leb-false, eqb-true, not-false}
use lib.Dec.{leb, ltb, eqb}
use lib.ListN.{length}
use Rattle.words.specs.Outcome.{Outcome, accepted, refused, unless_refused}
use Rattle.words.specs.Words.{id_of, start_of, end_of, last_of}
use Rattle.words.proofs.Outcomes.{never}
use Rattle.records.specs.Forest.{empty}
use Rattle.records.specs.Check.{fills, own_fault, records_check, list_range_fault, range_outcome, list_check, check}
use Rattle.records.specs.Nine.{Crosses, Whole, Nine}
use Rattle.records.specs.Taking.{finished, fault_at}
use Rattle.records.proofs.ParseLaws.{own_fine}
use Rattle.records.proofs.Spelling.{span}
use Rattle.records.proofs.Progress.{Progress, progress_none, own_refused, sized, crossing_refused, progress_next, no_fault}
use Rattle.records.proofs.Crossing.{crossed_exactly}

-- 6 to 8 as inequalities
fine_whole : (T : ℕ) (ws : List ℕ) (i : ℕ) → fault_at T ws i ≡ 0 → Whole T ws i
fine_whole T ws i h =
    let f = own_fine T i _ _ _ _ h in
    record { known = f.0; ordered = f.1; large = omega (arith, f.2); fours = omega (arith, f.2); small = omega (arith, f.3) }

whole_fine : (T : ℕ) (ws : List ℕ) (i : ℕ) → Whole T ws i → fault_at T ws i ≡ 0
unfolding own_fault
whole_fine T ws i w =
    rw (
      lt-leb T (id_of ws i) w.known,
      le-ltb (end_of ws i) (start_of ws i) w.ordered,
      le-ltb (last_of ws i) 4 w.large,
      eq-eqb (last_of ws i % 4) 0 w.fours,
      le-ltb (4 * suc i) (last_of ws i) (omega (arith, w.small)),
    )
    refl

-- 9 is none of 6 to 8
own_not_9 : (T c i s e n : ℕ) → own_fault T c i s e n ≡ 9 → ⊥
unfolding own_fault
own_not_9 T c i s e n = go (leb T i) (ltb e s) (ltb n 4 || (not (eqb (n % 4) 0) || ltb (4 * suc c) n))
  where
    go : (x y z : Bool) → ◌≡◌ {A = ℕ} (cond x 6 (cond y 7 (cond z 8 0))) 9 → ⊥
    go true y z h = omega arith
    go false true z h = omega arith
    go false false true h = omega arith
    go false false false h = omega arith

same_number : (r p r' p' : ℕ) → refused r p ≡ refused r' p' → r ≡ r'
same_number r p r' p' h = cc

same_place : (r p r' p' : ℕ) → refused r p ≡ refused r' p' → p ≡ p'
same_place r p r' p' h = cc

-- record i has no fault of 6 to 9
abbrev Clear : (T : ℕ) (ws : List ℕ) (i : ℕ) → Type 0
Clear T ws i = Whole T ws i × (Crosses ws i → ⊥)

module _ (T : ℕ) (ws : List ℕ) (n : ℕ) (size : length ws ≡ n * 4) where
  -- record p, to which none of 6 to 8 applies, where the records before it have no fault
  module _ (p : ℕ) (l : p < n) (g : Progress T ws p) (own : fault_at T ws p ≡ 0) where
    room : p * 4 + 4 ≤ length ws
    room = omega arith

    crossed : (fills (finished ws p) (span ws p - 1) ≡ false) ↔ Crosses ws p
    crossed =
        let z = sized T ws p g room 0 (sym own) refl (span ws p) refl in
        crossed_exactly ws p (span ws p - 1) g.sound z.few z.span_of

    here : Crosses ws p → records_check T empty ws ≡ refused 9 p
    here x = crossing_refused T ws p g room 0 (sym own) refl (span ws p) refl (crossed.1 x)

    next : (Crosses ws p → ⊥) → Progress T ws (p + 1)
    next h = go (fills (finished ws p) (span ws p - 1)) refl
      where
        go : (t : Bool) → fills (finished ws p) (span ws p - 1) ≡ t → Progress T ws (p + 1)
        go true e = (progress_next T ws p g room 0 (sym own) refl (span ws p) refl e).0
        go false e = absurd (h (crossed.0 e))

  -- the records before i have no fault
  reach : (i : ℕ) → i ≤ n → ((j : ℕ) → j < i → Clear T ws j) → Progress T ws i
  reach zero l h = progress_none T ws
  reach (suc i) l h =
      let c = h i (omega arith) in
      let e : i + 1 ≡ suc i = omega arith in
      subst (Progress T ws) e (next i (omega arith) (reach i (omega arith) (λ j m. h j (omega arith))) (whole_fine T ws i c.0) c.1)

  reached : (i : ℕ) → i < n → ((j : ℕ) → j < i → Clear T ws j) → Whole T ws i → Crosses ws i → records_check T empty ws ≡ refused 9 i
  reached i l h w x = here i l (reach i (omega arith) h) (whole_fine T ws i w) x

  -- what 9 at record i says of the records up to it
  record Found (i : ℕ) : Type 0 where
    listed : i < n
    before : (j : ℕ) → j < i → Clear T ws j
    whole : Whole T ws i
    crosses : Crosses ws i

  one_more : (p : ℕ) → ((j : ℕ) → j < p → Clear T ws j) → Clear T ws p → (j : ℕ) → j < p + 1 → Clear T ws j
  one_more p h c j l = go (ℕ_discrete p j)
    where
      go : Dec (p ≡ j) → Clear T ws j
      go (yes e) = subst (Clear T ws) e c
      go (no e) = h j (omega arith)

  -- from record p on, `left` records
  find : (left p i : ℕ) → p + left ≡ n → Progress T ws p → ((j : ℕ) → j < p → Clear T ws j) → records_check T empty ws ≡ refused 9 i → Found i
  find zero p i e g h r =
      let q : p ≡ n = omega arith in
      absurd (never 9 i [] (sym r ∙ no_fault T ws n size (subst (Progress T ws) q g)))
  find (suc left) p i e g h r =
      go (ℕ_discrete (fault_at T ws p) 0) (λ g' h'. find left (p + 1) i (omega arith) g' h' r)
    where
      l : p < n
      l = omega arith

      own : fault_at T ws p ≡ 0 → (Progress T ws (p + 1) → ((j : ℕ) → j < p + 1 → Clear T ws j) → Found i) → Found i
      own z rest = by (fills (finished ws p) (span ws p - 1)) refl
        where
          at : Whole T ws p
          at = fine_whole T ws p z

          by : (t : Bool) → fills (finished ws p) (span ws p - 1) ≡ t → Found i
          by false f =
              let x = (crossed p l g z).0 f in
              let q : p ≡ i = same_place 9 p 9 i (sym (here p l g z x) ∙ r) in
              subst Found q (record { listed = l; before = h; whole = at; crosses = x })
          by true f =
              let clear : Crosses ws p → ⊥ = λ x. true≢false (sym f ∙ (crossed p l g z).1 x) in
              rest (next p l g z clear) (one_more p h (at, clear))

      go : Dec (fault_at T ws p ≡ 0) → (Progress T ws (p + 1) → ((j : ℕ) → j < p + 1 → Clear T ws j) → Found i) → Found i
      go (yes z) rest = own z rest
      go (no z) rest =
          let q = sym (own_refused T ws p g (omega arith) (fault_at T ws p) refl z) ∙ r in
          absurd (own_not_9 T p _ _ _ _ (same_number (fault_at T ws p) p 9 i q))

-- 10 comes after 6 to 9
list_nine : (T S : ℕ) (ws : List ℕ) (i : ℕ) → list_check T S ws ≡ refused 9 i → records_check T empty ws ≡ refused 9 i
unfolding list_check
list_nine T S ws i = go (records_check T empty ws) (list_range_fault S ws)
  where
    go : (o : Outcome) (q : Option ℕ) → unless_refused o (range_outcome (length ws / 4) q) ≡ refused 9 i → o ≡ refused 9 i
    go (refused r c) q h = h
    go (accepted counts) None h = absurd (never 9 i _ (sym h))
    go (accepted counts) (Some c) h = let z = same_number 10 c 9 i h in absurd (omega arith)

-- a test that refuses with another number did not hold
other : (t : Bool) (r i : ℕ) (rest : Outcome) → (r ≡ 9 → ⊥) → cond t (refused r 0) rest ≡ refused 9 i → (t ≡ false) × (rest ≡ refused 9 i)
other true r i rest n h = absurd (n (same_number r 0 9 i h))
other false r i rest n h = (refl, h)

module _ (T b top S work : ℕ) (ws : List ℕ) (i : ℕ) where
  whole_list : length ws % 4 ≡ 0 → length ws ≡ length ws / 4 * 4
  whole_list h = omega arith

  there : check T b top S work ws ≡ refused 9 i → Nine T b top work ws i
  unfolding check
  there h =
      let a = other (ltb 65536 T) 1 i _ (λ z. omega arith) h in
      let a₂ = other (ltb 65535 b) 2 i _ (λ z. omega arith) a.1 in
      let a₃ = other (leb T top) 3 i _ (λ z. omega arith) a₂.1 in
      let a₄ = other (not (eqb (length ws % 4) 0)) 4 i _ (λ z. omega arith) a₃.1 in
      let a₅ = other (ltb 1048576 (length ws / 4)) 5 i _ (λ z. omega arith) a₄.1 in
      let a₆ = other (ltb work (96 * (length ws / 4) + 96)) 11 i _ (λ z. omega arith) a₅.1 in
      let fours : length ws % 4 ≡ 0 = eqb-true _ _ (not-false _ a₄.0) in
      let f = find T ws (length ws / 4) (whole_list fours) (length ws / 4) 0 i (omega arith) (progress_none T ws) (λ j l. absurd (omega arith)) (list_nine T S ws i a₆.1) in
      record {
        admitted = record {
          types = ltb-false 65536 T a.0;
          bound = ltb-false 65535 b a₂.0;
          top_known = leb-false T top a₃.0;
          fours = fours;
          few = ltb-false 1048576 (length ws / 4) a₅.0;
          room = ltb-false work (96 * (length ws / 4) + 96) a₆.0;
        };
        listed = f.listed;
        before = f.before;
        whole = f.whole;
        crosses = f.crosses;
      }

  back : Nine T b top work ws i → check T b top S work ws ≡ refused 9 i
  unfolding check list_check
  back x =
      let a = x.admitted in
      rw (
        le-ltb 65536 T a.types,
        le-ltb 65535 b a.bound,
        lt-leb T top a.top_known,
        eq-eqb (length ws % 4) 0 a.fours,
        le-ltb 1048576 (length ws / 4) a.few,
        le-ltb work (96 * (length ws / 4) + 96) a.room,
      )
      (ap (λ (o : Outcome). unless_refused o (range_outcome (length ws / 4) (list_range_fault S ws)))
      (reached T ws (length ws / 4) (whole_list a.fours) i x.listed x.before x.whole x.crosses))

  pub nine_exactly : (check T b top S work ws ≡ refused 9 i) ↔ Nine T b top work ws i
  nine_exactly = (there, back)

-- What the check says of a list that it accepts: the list is the words of one forest only, and that forest has ids below T
-- and ranges nested and ordered. By induction on the words, and on the forest for the ranges.
-- Assumes nothing.
use mathlib.Core.Path.{Path, ◌≡◌, refl, sym, ap, ◌∙◌}
use mathlib.Core.Bool.{Bool, true, false, cond, ◌&&◌, not}
use mathlib.Core.List.{List, [], ◌∷◌}
use Rattle.std.specs.Prelude.{Option, None, Some}
use Rattle.std.proofs.lemmas.Option.{none-some}
use Prim.Native.Nat.{ℕ, zero, suc, ◌+◌, ◌-◌, ◌*◌, ◌/◌, ◌%◌, ◌≤◌, ◌<◌}
use native.Mathlib.Omega.{arith}
use lib.Dec.{T as So, ltb, leb, eqb, leb→le}
use lib.ListN.{length}
use borrow.Author.Tests.{ltb-false, leb-false, eqb-true, not-false, le-ltb, lt-leb, eq-eqb}
use Rattle.words.specs.Outcome.{Outcome, accepted, refused, number_of, unless_refused}
use Rattle.words.proofs.Outcomes.{never}
use Rattle.records.specs.Forest.{Forest, empty, add, count, postfix, behind, Nested}
use Rattle.records.specs.Parse.{descendants, nearest, farther, parse_from, parse}
use Rattle.records.specs.Check.{record_fault, records_check, in_place, or_else, range_fault, list_range_fault, range_outcome, list_check, check, Accepted}
use Rattle.records.proofs.ParseLaws.{and_left, and_right, fine, first_fine, parse_postfix, postfix_parse}

-- every record has an id below T, and starts at or before its end
abbrev pub Ranged : (T : ℕ) → Forest → Type 0
Ranged T empty = Unit {0}
Ranged T (add before i s e kids) = record { known : i < T; ordered : s ≤ e; inner : Ranged T kids; earlier : Ranged T before }

ranged_nearest : (T : ℕ) (f : Forest) (k : ℕ) → Ranged T f → Ranged T (nearest f k)
unfolding nearest
ranged_nearest T empty k r = tt
ranged_nearest T (add before i s e kids) zero r = tt
ranged_nearest T (add before i s e kids) (suc k) r =
    record { known = r.known; ordered = r.ordered; inner = r.inner; earlier = ranged_nearest T before (k - count kids) r.earlier }

ranged_farther : (T : ℕ) (f : Forest) (k : ℕ) → Ranged T f → Ranged T (farther f k)
unfolding farther
ranged_farther T empty k r = tt
ranged_farther T (add before i s e kids) zero r = r
ranged_farther T (add before i s e kids) (suc k) r = ranged_farther T before (k - count kids) r.earlier

ranged_parse_from : (T : ℕ) (ws : List ℕ) (done : Forest) → records_check T done ws ≡ accepted [] → Ranged T done → Ranged T (parse_from done ws)
unfolding parse_from records_check
ranged_parse_from T [] done h r = r
ranged_parse_from T (i ∷ []) done h r = r
ranged_parse_from T (i ∷ s ∷ []) done h r = r
ranged_parse_from T (i ∷ s ∷ e ∷ []) done h r = r
ranged_parse_from T (i ∷ s ∷ e ∷ n ∷ ws) done h r =
    let k = descendants n in
    let next = add (farther done k) i s e (nearest done k) in
    let (ok, others) = first_fine (record_fault T done i s e n) (count done) (records_check T next ws) [] h in
    let good = fine T done i s e n ok in
    ranged_parse_from T ws next others
    (record { known = good.known; ordered = good.ordered; inner = ranged_nearest T done k r; earlier = ranged_farther T done k r })

or_none : (o o' : Option ℕ) → or_else o o' ≡ None → (o ≡ None) × (o' ≡ None)
unfolding or_else
or_none None o' h = (refl, h)
or_none (Some n) o' h = absurd (none-some n (sym h))

-- ranges end where the last sibling does
pub nested_to : (T lo hi hi' : ℕ) (f : Forest) → behind lo f ≤ hi' → Nested T lo hi f → Nested T lo hi' f
unfolding behind
nested_to T lo hi hi' empty h n = h
nested_to T lo hi hi' (add before i s e kids) h n = record { known = n.known; ordered = n.ordered; ends = h; inner = n.inner; earlier = n.earlier }

placed : (t : Bool) (c : ℕ) → Path (Option ℕ) (elim t [ true ↦ None | false ↦ Some c ]) None → So t
placed true c h = tt
placed false c h = absurd (none-some c (sym h))

stands : (lo hi after s e : ℕ) → So (in_place lo hi after s e) → (after ≤ s) × (e ≤ hi)
unfolding in_place
stands lo hi after s e t =
    let both = and_right (leb lo s) (leb after s && leb e hi) t in
    (leb→le after s (and_left (leb after s) (leb e hi) both), leb→le e hi (and_right (leb after s) (leb e hi) both))

-- where 10 applies to no record, ranges are nested and ordered
pub ranges_nested : (T : ℕ) (f : Forest) (lo hi c : ℕ) → lo ≤ hi → Ranged T f → range_fault lo hi c f ≡ None → Nested T lo hi f
unfolding range_fault
ranges_nested T empty lo hi c l r h = l
ranges_nested T (add before i s e kids) lo hi c l r h =
    let c' = c + count before in
    let test = in_place lo hi (behind lo before) s e in
    let last : Option ℕ = elim test [ true ↦ None | false ↦ Some (c' + count kids) ] in
    let (first, more) = or_none (range_fault lo hi c before) (or_else (range_fault s e c' kids) last) h in
    let (inside, own) = or_none (range_fault s e c' kids) last more in
    let (starts, ends) = stands lo hi (behind lo before) s e (placed test (c' + count kids) own) in
    record {
      known = r.known;
      ordered = r.ordered;
      ends = ends;
      inner = ranges_nested T kids s e c' r.ordered r.inner inside;
      earlier = nested_to T lo hi s before starts (ranges_nested T before lo hi c l r.earlier first);
    }

-- where 6 to 9 give number 0, they refuse nothing
records_number : (T : ℕ) (ws : List ℕ) (done : Forest) → number_of (records_check T done ws) ≡ 0 → records_check T done ws ≡ accepted []
unfolding records_check
records_number T [] done h = refl
records_number T (i ∷ []) done h = refl
records_number T (i ∷ s ∷ []) done h = refl
records_number T (i ∷ s ∷ e ∷ []) done h = refl
records_number T (i ∷ s ∷ e ∷ n ∷ ws) done h =
    let k = descendants n in
    go (record_fault T done i s e n) (records_check T (add (farther done k) i s e (nearest done k)) ws)
    (records_number T ws (add (farther done k) i s e (nearest done k))) h
  where
    go : (r : ℕ) (others : Outcome) → (number_of others ≡ 0 → others ≡ accepted [])
        → number_of (elim r [ suc r ↦ refused (suc r) (count done) | zero ↦ others ]) ≡ 0
        → elim r [ suc r ↦ refused (suc r) (count done) | zero ↦ others ] ≡ accepted []
    go (suc r) others rest h = absurd (omega arith)
    go zero others rest h = rest h

list_accepted : (T S : ℕ) (ws : List ℕ) → number_of (list_check T S ws) ≡ 0 → (records_check T empty ws ≡ accepted []) × (list_range_fault S ws ≡ None)
unfolding list_check
list_accepted T S ws = go (records_check T empty ws) (list_range_fault S ws) refl refl
  where
    go : (o : Outcome) (q : Option ℕ) → records_check T empty ws ≡ o → list_range_fault S ws ≡ q
        → number_of (unless_refused o (range_outcome (length ws / 4) q)) ≡ 0
        → (records_check T empty ws ≡ accepted []) × (list_range_fault S ws ≡ None)
    go (refused r c) q e f h = absurd (never r c [] (sym e ∙ records_number T ws empty (ap number_of e ∙ h)))
    go (accepted counts) (Some c) e f h = absurd (omega arith)
    go (accepted counts) None e f h = (records_number T ws empty (ap number_of e), f)

-- a test that refuses did not hold
passed : (t : Bool) (k : ℕ) (rest : Outcome) → number_of (cond t (refused (suc k) 0) rest) ≡ 0 → (t ≡ false) × (number_of rest ≡ 0)
passed true k rest h = absurd (omega arith)
passed false k rest h = (refl, h)

module _ (T b top S work : ℕ) (ws : List ℕ) where
  pub check_accepted : number_of (check T b top S work ws) ≡ 0 → Accepted T b top S ws
  unfolding check
  check_accepted h =
      let a = passed (ltb 65536 T) 0 _ h in
      let a₂ = passed (ltb 65535 b) 1 _ a.1 in
      let a₃ = passed (leb T top) 2 _ a₂.1 in
      let a₄ = passed (not (eqb (length ws % 4) 0)) 3 _ a₃.1 in
      let a₅ = passed (ltb 1048576 (length ws / 4)) 4 _ a₄.1 in
      let a₆ = passed (ltb work (96 * (length ws / 4) + 96)) 10 _ a₅.1 in
      let l = list_accepted T S ws a₆.1 in
      record {
        types = ltb-false 65536 T a.0;
        bound = ltb-false 65535 b a₂.0;
        top_known = leb-false T top a₃.0;
        whole = eqb-true _ _ (not-false _ a₄.0);
        few = ltb-false 1048576 (length ws / 4) a₅.0;
        records = l.0;
        ranges = l.1;
      }

  -- and the work slice is large enough
  pub check_room : number_of (check T b top S work ws) ≡ 0 → 96 * (length ws / 4) + 96 ≤ work
  unfolding check
  check_room h =
      let a = passed (ltb 65536 T) 0 _ h in
      let a₂ = passed (ltb 65535 b) 1 _ a.1 in
      let a₃ = passed (leb T top) 2 _ a₂.1 in
      let a₄ = passed (not (eqb (length ws % 4) 0)) 3 _ a₃.1 in
      let a₅ = passed (ltb 1048576 (length ws / 4)) 4 _ a₄.1 in
      ltb-false work (96 * (length ws / 4) + 96) (passed (ltb work (96 * (length ws / 4) + 96)) 10 _ a₅.1).0

  -- an accepted list with a work slice that is large enough is not refused
  pub accepted_check : Accepted T b top S ws → 96 * (length ws / 4) + 96 ≤ work → check T b top S work ws ≡ accepted (length ws / 4 ∷ [])
  unfolding check list_check
  accepted_check a room =
      rw (
        le-ltb 65536 T a.types,
        le-ltb 65535 b a.bound,
        lt-leb T top a.top_known,
        eq-eqb (length ws % 4) 0 a.whole,
        le-ltb 1048576 (length ws / 4) a.few,
        le-ltb work (96 * (length ws / 4) + 96) room,
      )
      (ap (λ (o : Outcome). unless_refused o (range_outcome (length ws / 4) (list_range_fault S ws))) a.records
      ∙ ap (range_outcome (length ws / 4)) a.ranges)

module _ (T b top S : ℕ) (ws : List ℕ) (a : Accepted T b top S ws) where
  -- an accepted list is the words of its forest
  pub accepted_list : postfix (parse ws) ≡ ws
  accepted_list = postfix_parse T ws a.whole a.records

  -- and of no other
  pub accepted_unique : (f : Forest) → postfix f ≡ ws → f ≡ parse ws
  accepted_unique f e = sym (parse_postfix f) ∙ ap parse e

  -- ids are below T, ranges nested and ordered
  pub accepted_nested : S ≤ 4294967295 → Nested T S 4294967295 (parse ws)
  unfolding parse list_range_fault
  accepted_nested l = ranges_nested T (parse ws) S 4294967295 0 l (ranged_parse_from T ws empty a.records tt) a.ranges

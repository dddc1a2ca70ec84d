-- The walk over the children of a record from the last one back: what is known where `left` records are still to be judged, and
-- one child more. By the law of the last sibling.
-- Assumes nothing.
use mathlib.Core.Path.{◌≡◌, refl, sym, ap, ◌∙◌}
use mathlib.Core.List.{List}
use mathlib.Core.Bool.{Bool, true, cond, true≢false}
use Prim.Native.Nat.{ℕ, zero, suc, ◌+◌, ◌-◌, ◌/◌, ◌≤◌, ◌<◌, min}
use native.Mathlib.Decide.{dec_le}
use native.Mathlib.Omega.{arith}
use Rattle.words.specs.Words.{start_of, end_of}
use Rattle.records.specs.Forest.{Forest, empty, add, count, behind}
use Rattle.records.specs.Parse.{nearest}
use Rattle.records.specs.Check.{fills, in_place}
use Rattle.records.specs.OneRecord.{record_of}
use Rattle.records.specs.declared.Record.{Record}
use Rattle.records.specs.Taking.{finished, Spelt, judged}
use Rattle.records.proofs.OneRecord.{start_is, end_is, size_is}
use Rattle.records.proofs.Spelling.{span, Last, last, fills_stop, fills_step}

judged_zero : (d lo hi : ℕ) (f : Forest) → judged d lo hi f 0 ≡ d
unfolding judged
judged_zero d lo hi empty = refl
judged_zero d lo hi (add before i s e kids) = refl

judged_add : (before : Forest) (i s e : ℕ) (kids : Forest) (m : ℕ) → m ≡ suc (count kids) → (k d lo hi q : ℕ) → m ≤ k → count before + count kids ≡ q
    → judged d lo hi (add before i s e kids) k ≡ judged (cond (in_place lo hi (behind lo (nearest before (k - m))) s e) d (min d q)) lo hi before (k - m)
unfolding judged
judged_add before i s e kids m z zero d lo hi q h n = absurd (omega arith)
judged_add before i s e kids m z (suc k) d lo hi q h n =
    let f : suc k - m ≡ k - count kids = omega arith in
    rw (f, ← n)

-- those still to judge are the last `left` of the first p records
pub record Judging (ws : List ℕ) (i k lo hi d p left low : ℕ) : Type 0 where
  pub sound : Spelt ws p
  pub few : left ≤ p
  pub fill : fills (finished ws p) left ≡ true
  pub judge : judged d lo hi (finished ws i) k ≡ judged low lo hi (finished ws p) left

module _ {ws : List ℕ} {i k lo hi d p left low : ℕ} (t : Judging ws i k lo hi d p left low) where
  pub judging_end : left ≤ 0 → low ≡ judged d lo hi (finished ws i) k
  judging_end h =
      let z : left ≡ 0 = omega arith in
      sym (t.judge ∙ (ap (judged low lo hi (finished ws p)) z ∙ judged_zero low lo hi (finished ws p)))

  module _ (pos : 0 < left) {r : Record} (is : r ≡ record_of ws (p - 1)) {m : ℕ} (spans : m ≡ r.size / 4) where
    here : m ≡ span ws (p - 1)
    here = spans ∙ ap (λ (k : ℕ). k / 4) (size_is _ _ is)

    the_last : Last ws p
    the_last = last ws p t.sound (omega (arith, t.few))

    -- the child's span: not empty, within what is left
    pub child_some : 0 < m
    child_some = omega (arith, here, the_last.sized)

    pub child_within : m ≤ left
    child_within = go (dec_le m left)
      where
        go : Dec (m ≤ left) → m ≤ left
        go (yes l) = l
        go (no l) = absurd (true≢false (sym t.fill ∙ fills_stop ws p t.sound left pos t.few (omega (arith, here))))

    pub child_fits : m ≤ p
    child_fits = omega (arith, here, the_last.fits)

    pub child_earlier : Spelt ws (p - m)
    child_earlier = rw here the_last.earlier

    pub judging_next : {after : ℕ} {good : Bool} {low' : ℕ} → after ≡ behind lo (nearest (finished ws (p - m)) (left - m))
        → good ≡ in_place lo hi after r.start r.end → low' ≡ cond good low (min low (p - 1))
        → Judging ws i k lo hi d (p - m) (left - m) low'
    judging_next {after} {good} {low'} a b₀ l =
        let b : good ≡ in_place lo hi after (start_of ws (p - 1)) (end_of ws (p - 1)) = rw (start_is _ _ is, end_is _ _ is) at b₀ in
        let n = the_last in
        record {
          sound = child_earlier;
          few = omega (arith, t.few);
          fill = rw here (sym (fills_step ws p t.sound left pos t.few (omega (arith, child_within, here))) ∙ t.fill);
          judge =
              t.judge
              ∙ (ap (λ (g : Forest). judged low lo hi g left) n.is
              ∙ (judged_add _ _ _ _ n.kids (span ws (p - 1)) n.sized left low lo hi (p - 1) (omega (arith, child_within, here)) n.numbered ∙ rw (l, b, a, here)));
        }

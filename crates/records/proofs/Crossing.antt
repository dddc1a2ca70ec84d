-- One record and the spans before it: where the records before record i have no fault, no siblings fill its span exactly where
-- the span begins inside an earlier record's span without covering it whole.
-- By induction on the siblings from the last one back, and on the forest for the spans inside one.
-- Assumes nothing.
use mathlib.Core.Path.{◌≡◌, refl, sym, ap, ◌∙◌}
use mathlib.Core.List.{List, [], ◌∷◌, ◌++◌, append_assoc}
use mathlib.Core.Bool.{Bool, true, false, true≢false}
use mathlib.Core.Logic.{◌↔◌}
use Prim.Native.Nat.{ℕ, zero, suc, ◌+◌, ◌-◌, ◌*◌, ◌≤◌, ◌<◌}
use native.Mathlib.Decide.{dec_le, dec_lt, ℕ_discrete}
use native.Mathlib.Omega.{arith}
use lib.ListN.{length, length-append}
use Rattle.words.specs.Words.{last_of}
use Rattle.records.specs.Forest.{Forest, empty, add, count, postfix}
use Rattle.records.specs.Check.{fills}
use Rattle.records.specs.Nine.{Crosses}
use Rattle.records.specs.Taking.{finished, Spelt}
use Rattle.records.proofs.Spelling.{words_of, counted, whole_list, word_at, span, last, Last, fills_stop, fills_step, fills_zero}

regroup_before : (a b c d e : List ℕ) → (a ++ b) ++ ((c ++ d) ++ e) ≡ (a ++ (b ++ (c ++ d))) ++ e
regroup_before a b c d e = simp append_assoc

regroup_kids : (a b c d e : List ℕ) → ((a ++ b) ++ c) ++ (d ++ e) ≡ (a ++ (b ++ (c ++ d))) ++ e
regroup_kids a b c d e = simp append_assoc

-- the span of record q: whole records, from record c on
pub record Span (ws : List ℕ) (c q : ℕ) : Type 0 where
  pub from : c + span ws q ≤ q + 1
  pub whole : last_of ws q ≡ 4 * span ws q

-- where the words of f begin at record c, its spans do not reach before c
spans_inside : (f : Forest) (ws xs ys : List ℕ) (c q : ℕ) → (xs ++ postfix f) ++ ys ≡ ws → length xs ≡ c * 4 → c ≤ q → q < c + count f → Span ws c q
unfolding postfix count
spans_inside empty ws xs ys c q w l lo hi = absurd (omega arith)
spans_inside (add before i s e kids) ws xs ys c q w l lo hi =
    go (dec_lt q (c + count before)) (dec_lt q (c + count before + count kids))
    (λ h. spans_inside before ws xs ((postfix kids ++ own) ++ ys) c q (regroup_before xs (postfix before) (postfix kids) own ys ∙ w) l lo h)
    (λ h k. spans_inside kids ws (xs ++ postfix before) (own ++ ys) (c + count before) q (regroup_kids xs (postfix before) (postfix kids) own ys ∙ w) l₁ h k)
  where
    own : List ℕ
    own = i ∷ s ∷ e ∷ 4 * suc (count kids) ∷ []

    l₁ : length (xs ++ postfix before) ≡ (c + count before) * 4
    l₁ = length-append xs (postfix before) ∙ omega (arith, words_of before)

    l₂ : length ((xs ++ postfix before) ++ postfix kids) ≡ (c + count before + count kids) * 4
    l₂ = length-append (xs ++ postfix before) (postfix kids) ∙ omega (arith, l₁, words_of kids)

    size : last_of ws (c + count before + count kids) ≡ 4 * suc (count kids)
    size = word_at ((xs ++ postfix before) ++ postfix kids) (own ++ ys) ws ((c + count before + count kids) * 4) 3 (regroup_kids xs (postfix before) (postfix kids) own ys ∙ w) l₂

    go : Dec (q < c + count before) → Dec (q < c + count before + count kids)
        → (q < c + count before → Span ws c q) → (c + count before ≤ q → q < c + count before + count kids → Span ws (c + count before) q)
        → Span ws c q
    go (yes h) k f g = f h
    go (no h) (yes k) f g = let s = g (omega arith) k in record { from = omega (arith, s.from); whole = s.whole }
    go (no h) (no k) f g =
        let e : q ≡ c + count before + count kids = omega arith in
        rw e (record { from = omega (arith, size); whole = omega (arith, size) })

-- every span of the first p records
pub spans : (ws : List ℕ) (p : ℕ) → Spelt ws p → (q : ℕ) → q < p → Span ws 0 q
spans ws p sp q l = spans_inside (finished ws p) ws [] _ 0 q (whole_list ws p sp) refl (omega arith) (omega (arith, counted ws p sp))

-- one of the first p records has a span that begins before record b and ends behind it
abbrev Crossed : (ws : List ℕ) (p b : ℕ) → Type 0
Crossed ws p b = (q : ℕ) × (q < p) × (q + 1 - span ws q < b) × (b < q + 1)

-- the spans of the last sibling's records begin in it
inside_last : (ws : List ℕ) (p : ℕ) (l : Last ws p) (q : ℕ) → 0 < p → p - span ws (p - 1) ≤ q → q < p → p - span ws (p - 1) ≤ q + 1 - span ws q
inside_last ws p l q pos lo hi = go (ℕ_discrete q (p - 1))
  where
    n : length (postfix (finished ws (p - span ws (p - 1)))) ≡ (p - span ws (p - 1)) * 4
    n = omega (arith, words_of (finished ws (p - span ws (p - 1))), l.numbered, l.sized)

    go : Dec (q ≡ p - 1) → p - span ws (p - 1) ≤ q + 1 - span ws q
    go (yes e) = rw e (omega arith)
    go (no e) =
        let s = spans_inside l.kids ws (postfix (finished ws (p - span ws (p - 1)))) l.tail (p - span ws (p - 1)) q l.split n lo (omega (arith, l.sized, l.fits)) in
        omega (arith, s.from)

abbrev Claim : (ws : List ℕ) (p k : ℕ) → Type 0
Claim ws p k = (fills (finished ws p) k ≡ true → Crossed ws p (p - k) → ⊥) × (fills (finished ws p) k ≡ false → Crossed ws p (p - k))

claim_none : (ws : List ℕ) (p k : ℕ) → k ≡ 0 → Claim ws p k
claim_none ws p k z = (
  λ f x. omega (arith, x.1, x.3),
  λ f. absurd (true≢false (sym (ap (fills (finished ws p)) z ∙ fills_zero (finished ws p)) ∙ f)),
)

claim_stop : (ws : List ℕ) (p k : ℕ) → Spelt ws p → 0 < k → k ≤ p → k < span ws (p - 1) → Claim ws p k
claim_stop ws p k sp pos few h =
    let l = last ws p sp (omega arith) in (
      λ f x. absurd (true≢false (sym f ∙ fills_stop ws p sp k pos few h)),
      λ f. (p - 1, omega arith, omega (arith, l.fits), omega arith),
    )

claim_step : (ws : List ℕ) (p k : ℕ) → Spelt ws p → 0 < k → k ≤ p → span ws (p - 1) ≤ k → Claim ws (p - span ws (p - 1)) (k - span ws (p - 1)) → Claim ws p k
claim_step ws p k sp pos few h rest = (
  λ f x. never f x (dec_lt x.0 (p - span ws (p - 1))),
  λ f. let x = rest.1 (sym (fills_step ws p sp k pos few h) ∙ f) in (x.0, omega (arith, x.1), omega (arith, x.2), omega (arith, x.3)),
)
  where
    never : fills (finished ws p) k ≡ true → (x : Crossed ws p (p - k)) → Dec (x.0 < p - span ws (p - 1)) → ⊥
    never f x (yes less) = rest.0 (sym (fills_step ws p sp k pos few h) ∙ f) (x.0, less, omega (arith, x.2), omega (arith, x.3))
    never f x (no more) =
        omega (arith, inside_last ws p (last ws p sp (omega arith)) x.0 (omega arith) (omega arith) x.1, x.2)

crossing : (m : ℕ) (ws : List ℕ) (p k : ℕ) → p ≤ m → Spelt ws p → k ≤ p → Claim ws p k
crossing zero ws p k pm sp few = claim_none ws p k (omega arith)
crossing (suc m) ws p k pm sp few =
    go (ℕ_discrete k 0) (dec_le (span ws (p - 1)) k) (λ p' k' pm' sp' few'. crossing m ws p' k' pm' sp' few')
  where
    go : Dec (k ≡ 0) → Dec (span ws (p - 1) ≤ k) → ((p' k' : ℕ) → p' ≤ m → Spelt ws p' → k' ≤ p' → Claim ws p' k') → Claim ws p k
    go (yes z) b rest = claim_none ws p k z
    go (no z) (no b) rest = claim_stop ws p k sp (omega arith) few (omega arith)
    go (no z) (yes b) rest =
        let l = last ws p sp (omega arith) in
        claim_step ws p k sp (omega arith) few b
        (rest (p - span ws (p - 1)) (k - span ws (p - 1)) (omega (arith, l.sized)) l.earlier (omega arith))

-- the two ways to count
module _ (ws : List ℕ) (i k : ℕ) (sp : Spelt ws i) (few : k ≤ i) (size : last_of ws i ≡ 4 * suc k) where
  in_words : Crossed ws i (i - k) → Crosses ws i
  in_words x =
      let s = spans ws i sp x.0 x.1 in
      record {
        other = x.0;
        earlier = x.1;
        inside = (omega (arith, x.2, s.whole, s.from), omega (arith, x.3));
        uncovered = λ h. omega (arith, h.0, x.2, s.whole, s.from);
      }

  in_records : Crosses ws i → Crossed ws i (i - k)
  in_records x =
      let s = spans ws i sp x.other x.earlier in
      (x.other, x.earlier, in_order (dec_lt (x.other + 1 - span ws x.other) (i - k)) s, omega (arith, x.inside.1))
    where
      in_order : Dec (x.other + 1 - span ws x.other < i - k) → Span ws 0 x.other → x.other + 1 - span ws x.other < i - k
      in_order (yes l) s = l
      in_order (no l) s = absurd (x.uncovered (omega (arith, s.whole, s.from), omega (arith, x.earlier)))

  pub crossed_exactly : (fills (finished ws i) k ≡ false) ↔ Crosses ws i
  crossed_exactly = (λ f. in_words (claim.1 f), λ x. back x (fills (finished ws i) k) refl)
    where
      claim : Claim ws i k
      claim = crossing i ws i k (omega arith) sp few

      back : Crosses ws i → (t : Bool) → fills (finished ws i) k ≡ t → fills (finished ws i) k ≡ false
      back x false e = e
      back x true e = absurd (claim.0 e (in_records x))

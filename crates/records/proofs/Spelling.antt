-- A prefix of the list and the forest that it spells: what its last record is, and what one record more makes of it.
-- From the laws of the parse: a prefix that is the words of a forest has that forest.
-- Assumes nothing.
use mathlib.Core.Path.{◌≡◌, refl, sym, ap, subst, ◌∙◌}
use mathlib.Core.List.{List, [], ◌∷◌, ◌++◌, append_assoc}
use mathlib.Core.Bool.{true, false}
use Prim.Native.Nat.{ℕ, zero, suc, ◌+◌, ◌-◌, ◌*◌, ◌/◌, ◌≤◌, ◌<◌}
use native.Mathlib.Omega.{arith}
use borrow.Author.Tests.{le-leb, lt-leb}
use lib.Dec.{T as So}
use lib.ListN.{length, get_or, take, drop, length-append, length-drop, take-append-drop}
use lib.Seq.{take_at, drop-cons, get_or-append-add, length-take-le}
use Rattle.words.specs.Words.{id_of, start_of, end_of, last_of}
use Rattle.records.specs.Forest.{Forest, empty, add, count, behind, postfix}
use Rattle.records.specs.Parse.{parse, nearest, farther}
use Rattle.records.specs.Check.{fills}
use Rattle.records.proofs.ParseLaws.{parse_postfix, nearest_all, count_nearest, count_split, postfix_split}
use Rattle.records.specs.Taking.{finished, Spelt}

-- four words a record
pub words_of : (f : Forest) → length (postfix f) ≡ count f * 4
unfolding postfix count
words_of empty = refl
words_of (add before i s e kids) =
    simp length-append (omega (arith, words_of before, words_of kids))

-- a list that begins with the words of f has f as its first records
pub finished_is : (ws rest : List ℕ) (f : Forest) (p : ℕ) → count f ≡ p → postfix f ++ rest ≡ ws → finished ws p ≡ f
unfolding finished
finished_is ws rest f p c e =
    let l : length (postfix f) ≡ p * 4 = omega (arith, words_of f) in
    let t : take (p * 4) ws ≡ postfix f = ap (take (p * 4)) (sym e) ∙ take_at (postfix f) rest (p * 4) l in
    ap parse t ∙ parse_postfix f

pub spelt_is : (ws rest : List ℕ) (f : Forest) (p : ℕ) → count f ≡ p → postfix f ++ rest ≡ ws → Spelt ws p
spelt_is ws rest f p c e =
    let l : length (postfix f) ≡ p * 4 = omega (arith, words_of f) in
    let t : take (p * 4) ws ≡ postfix f = ap (take (p * 4)) (sym e) ∙ take_at (postfix f) rest (p * 4) l in
    record {
      within = omega (arith, ap length e, length-append (postfix f) rest);
      spelt = ap postfix (finished_is ws rest f p c e) ∙ sym t;
    }

pub counted : (ws : List ℕ) (p : ℕ) → Spelt ws p → count (finished ws p) ≡ p
counted ws p s = omega (arith, words_of (finished ws p), ap length s.spelt, length-take-le (p * 4) ws s.within)

pub whole_list : (ws : List ℕ) (p : ℕ) → Spelt ws p → postfix (finished ws p) ++ drop (p * 4) ws ≡ ws
whole_list ws p s = ap (λ (l : List ℕ). l ++ drop (p * 4) ws) s.spelt ∙ take-append-drop (p * 4) ws

pub word_at : (xs ys ws : List ℕ) (q n : ℕ) → xs ++ ys ≡ ws → length xs ≡ q → get_or ws (q + n) 0 ≡ get_or ys n 0
word_at xs ys ws q n e l = rw (← e, ← l) (get_or-append-add xs ys n 0)

-- how many records the span of record q holds
abbrev pub span : List ℕ → ℕ → ℕ
span ws q = last_of ws q / 4

-- the last of the first p records, and the siblings before it
pub record Last (ws : List ℕ) (p : ℕ) : Type 0 where
  pub kids : Forest
  pub is : finished ws p ≡ add (finished ws (p - span ws (p - 1))) (id_of ws (p - 1)) (start_of ws (p - 1)) (end_of ws (p - 1)) kids
  pub sized : span ws (p - 1) ≡ suc (count kids)
  pub numbered : count (finished ws (p - span ws (p - 1))) + count kids ≡ p - 1
  pub fits : span ws (p - 1) ≤ p
  pub earlier : Spelt ws (p - span ws (p - 1))
  pub tail : List ℕ
  pub split : (postfix (finished ws (p - span ws (p - 1))) ++ postfix kids) ++ tail ≡ ws

pub last : (ws : List ℕ) (p : ℕ) → Spelt ws p → 0 < p → Last ws p
unfolding count postfix
last ws p sp pos = go (finished ws p) refl
  where
    go : (f : Forest) → finished ws p ≡ f → Last ws p
    go empty h = absurd (omega (arith, counted ws p sp, ap count h))
    go (add before i s e kids) h =
        let own : List ℕ = i ∷ s ∷ e ∷ 4 * suc (count kids) ∷ [] in
        let rest : List ℕ = drop (p * 4) ws in
        let n : suc (count kids + count before) ≡ p = sym (ap count h) ∙ counted ws p sp in
        let all : (postfix before ++ (postfix kids ++ own)) ++ rest ≡ ws = ap (λ (f : Forest). postfix f ++ rest) (sym h) ∙ whole_list ws p sp in
        let one : postfix before ++ ((postfix kids ++ own) ++ rest) ≡ ws = sym (append_assoc (postfix before) (postfix kids ++ own) rest) ∙ all in
        let two : (postfix before ++ postfix kids) ++ (own ++ rest) ≡ ws =
        append_assoc (postfix before) (postfix kids) (own ++ rest) ∙ (ap (λ (l : List ℕ). postfix before ++ l) (sym (append_assoc (postfix kids) own rest)) ∙ one) in
        let l : length (postfix before ++ postfix kids) ≡ (p - 1) * 4 =
        length-append (postfix before) (postfix kids) ∙ omega (arith, words_of before, words_of kids) in
        let at : (p - 1) * 4 ≡ (p - 1) * 4 + 0 = omega arith in
        let w₀ : id_of ws (p - 1) ≡ i = ap (λ (k : ℕ). get_or ws k 0) at ∙ word_at (postfix before ++ postfix kids) (own ++ rest) ws ((p - 1) * 4) 0 two l in
        let w₁ : start_of ws (p - 1) ≡ s = word_at (postfix before ++ postfix kids) (own ++ rest) ws ((p - 1) * 4) 1 two l in
        let w₂ : end_of ws (p - 1) ≡ e = word_at (postfix before ++ postfix kids) (own ++ rest) ws ((p - 1) * 4) 2 two l in
        let w₃ : last_of ws (p - 1) ≡ 4 * suc (count kids) = word_at (postfix before ++ postfix kids) (own ++ rest) ws ((p - 1) * 4) 3 two l in
        let z : span ws (p - 1) ≡ suc (count kids) = omega (arith, w₃) in
        let c : count before ≡ p - span ws (p - 1) = omega arith in
        let b : finished ws (p - span ws (p - 1)) ≡ before = finished_is ws ((postfix kids ++ own) ++ rest) before (p - span ws (p - 1)) c one in
        record {
          kids = kids;
          is = rw (w₀, w₁, w₂, b) h;
          sized = z;
          numbered = rw b (omega arith);
          fits = omega arith;
          earlier = spelt_is ws ((postfix kids ++ own) ++ rest) before (p - span ws (p - 1)) c one;
          tail = own ++ rest;
          split = rw b two;
        }

-- Of siblings, the last of which holds m records, k records are taken: none where m is larger, else m and k - m of the others.
module _ (before : Forest) (i s e : ℕ) (kids : Forest) (m : ℕ) (z : m ≡ suc (count kids)) where
  fills_small : (k : ℕ) → 0 < k → k < m → fills (add before i s e kids) k ≡ false
  unfolding fills
  fills_small zero pos h = absurd (omega arith)
  fills_small (suc k) pos h = rw (lt-leb (count kids) k (omega arith))

  fills_add : (k : ℕ) → m ≤ k → fills (add before i s e kids) k ≡ fills before (k - m)
  unfolding fills
  fills_add zero h = absurd (omega arith)
  fills_add (suc k) h =
      let f : suc k - m ≡ k - count kids = omega arith in
      rw (f, le-leb (count kids) k (omega arith))

  behind_add : (k lo : ℕ) → 0 < k → behind lo (nearest (add before i s e kids) k) ≡ e
  unfolding behind nearest
  behind_add zero lo h = absurd (omega arith)
  behind_add (suc k) lo h = refl

-- One step of taking up k of the first p records: the last sibling is too large, or it is taken.
module _ (ws : List ℕ) (p : ℕ) (sp : Spelt ws p) (k : ℕ) (pos : 0 < k) (few : k ≤ p) where
  pub fills_stop : k < span ws (p - 1) → fills (finished ws p) k ≡ false
  fills_stop h =
      let l = last ws p sp (omega arith) in
      ap (λ (g : Forest). fills g k) l.is ∙ fills_small _ _ _ _ l.kids (span ws (p - 1)) l.sized k pos h

  pub fills_step : span ws (p - 1) ≤ k → fills (finished ws p) k ≡ fills (finished ws (p - span ws (p - 1))) (k - span ws (p - 1))
  fills_step h =
      let l = last ws p sp (omega arith) in
      ap (λ (g : Forest). fills g k) l.is ∙ fills_add _ _ _ _ l.kids (span ws (p - 1)) l.sized k h

  -- where the last sibling ends, of which at least one is taken
  pub behind_last : (lo : ℕ) → behind lo (nearest (finished ws p) k) ≡ end_of ws (p - 1)
  behind_last lo =
      let l = last ws p sp (omega arith) in
      ap (λ (g : Forest). behind lo (nearest g k)) l.is ∙ behind_add _ _ _ _ l.kids (span ws (p - 1)) l.sized k lo pos

pub behind_none : (f : Forest) (lo : ℕ) → behind lo (nearest f 0) ≡ lo
unfolding behind nearest
behind_none empty lo = refl
behind_none (add before i s e kids) lo = refl

-- where the last of all the siblings ends
pub behind_all : (ws : List ℕ) (p : ℕ) → Spelt ws p → (lo : ℕ) → behind lo (nearest (finished ws p) p) ≡ behind lo (finished ws p)
behind_all ws p sp lo = ap (behind lo) (ap (nearest (finished ws p)) (sym (counted ws p sp)) ∙ nearest_all (finished ws p))

pub fills_zero : (f : Forest) → fills f 0 ≡ true
unfolding fills
fills_zero empty = refl
fills_zero (add before i s e kids) = refl

pub fills_all : (f : Forest) → fills f (count f) ≡ true
unfolding fills count
fills_all empty = refl
fills_all (add before i s e kids) =
    let c : count kids + count before - count kids ≡ count before = omega arith in
    rw (le-leb (count kids) (count kids + count before) (omega arith), c) (fills_all before)

word_more : (ws : List ℕ) (j j' : ℕ) → j < length ws → j' ≡ suc j → drop j ws ≡ get_or ws j 0 ∷ drop j' ws
word_more ws j j' h e = rw e (drop-cons ws j 0 h)

pub four_more : (ws : List ℕ) (i : ℕ) → i * 4 + 4 ≤ length ws
    → drop (i * 4) ws ≡ id_of ws i ∷ start_of ws i ∷ end_of ws i ∷ last_of ws i ∷ drop ((i + 1) * 4) ws
four_more ws i h =
    word_more ws (i * 4) (i * 4 + 1) (omega arith) (omega arith)
    ∙ ap (λ (l : List ℕ). id_of ws i ∷ l)
    (word_more ws (i * 4 + 1) (i * 4 + 2) (omega arith) (omega arith)
    ∙ ap (λ (l : List ℕ). start_of ws i ∷ l)
    (word_more ws (i * 4 + 2) (i * 4 + 3) (omega arith) (omega arith)
    ∙ ap (λ (l : List ℕ). end_of ws i ∷ l) (word_more ws (i * 4 + 3) ((i + 1) * 4) (omega arith) (omega arith))))

-- the forest after record i, which takes up the k records before it
abbrev pub grown : List ℕ → ℕ → ℕ → Forest
grown ws i k =
    add (farther (finished ws i) k) (id_of ws i) (start_of ws i) (end_of ws i) (nearest (finished ws i) k)

module _ (ws : List ℕ) (i k : ℕ) (sp : Spelt ws i) (h : i * 4 + 4 ≤ length ws) (z : last_of ws i ≡ 4 * suc k) (c : fills (finished ws i) k ≡ true) where
  spelt_more : postfix (grown ws i k) ++ drop ((i + 1) * 4) ws ≡ ws
  unfolding postfix
  spelt_more =
      let done : Forest = finished ws i in
      let n : count (nearest done k) ≡ k = count_nearest done k (subst So (sym c) tt) in
      let own : List ℕ = id_of ws i ∷ start_of ws i ∷ end_of ws i ∷ last_of ws i ∷ [] in
      let y : 4 * suc (count (nearest done k)) ≡ last_of ws i = omega arith in
      rw y
      (ap (λ (l : List ℕ). l ++ drop ((i + 1) * 4) ws) (sym (append_assoc (postfix (farther done k)) (postfix (nearest done k)) own) ∙ ap (λ (l : List ℕ). l ++ own) (postfix_split done k))
      ∙ (append_assoc (postfix done) own (drop ((i + 1) * 4) ws) ∙ (ap (λ (l : List ℕ). postfix done ++ l) (sym (four_more ws i h)) ∙ whole_list ws i sp)))

  count_more : count (grown ws i k) ≡ i + 1
  count_more =
      omega (arith, words_of (grown ws i k), ap length spelt_more, length-append (postfix (grown ws i k)) (drop ((i + 1) * 4) ws), length-drop ((i + 1) * 4) ws)

  pub finished_more : finished ws (i + 1) ≡ grown ws i k
  finished_more = finished_is ws (drop ((i + 1) * 4) ws) (grown ws i k) (i + 1) count_more spelt_more

  pub spelt_next : Spelt ws (i + 1)
  spelt_next = spelt_is ws (drop ((i + 1) * 4) ws) (grown ws i k) (i + 1) count_more spelt_more

-- the siblings before those that fill k records are the first records of the list
pub spelt_farther : (ws : List ℕ) (p : ℕ) → Spelt ws p → (k : ℕ) → fills (finished ws p) k ≡ true → (from : ℕ) → from ≡ count (finished ws p) - k
    → Spelt ws from × (finished ws from ≡ farther (finished ws p) k)
spelt_farther ws p sp k t from is =
    let f : Forest = finished ws p in
    let c : count (farther f k) ≡ from = omega (arith, count_split f k, count_nearest f k (subst So (sym t) tt)) in
    let e : postfix (farther f k) ++ (postfix (nearest f k) ++ drop (p * 4) ws) ≡ ws =
    sym (append_assoc (postfix (farther f k)) (postfix (nearest f k)) (drop (p * 4) ws)) ∙ (ap (λ (l : List ℕ). l ++ drop (p * 4) ws) (postfix_split f k) ∙ whole_list ws p sp) in
    (spelt_is ws (postfix (nearest f k) ++ drop (p * 4) ws) (farther f k) from c e, finished_is ws (postfix (nearest f k) ++ drop (p * 4) ws) (farther f k) from c e)

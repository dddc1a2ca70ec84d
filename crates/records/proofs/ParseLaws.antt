-- Reading a list of words as a forest undoes writing one, and a list to which none of 6 to 9 applies is the list of its forest.
-- By induction on the forest, and on the words behind any forest of finished records.
-- Assumes nothing.
use mathlib.Core.Path.{◌≡◌, refl, sym, ap, subst, ◌∙◌}
use mathlib.Core.Bool.{Bool, true, false, cond, ◌&&◌, ◌||◌, not}
use mathlib.Core.List.{List, [], ◌∷◌, ◌++◌, append_assoc, append-nil}
use Prim.Native.Nat.{ℕ, zero, suc, ◌+◌, ◌-◌, ◌*◌, ◌%◌, ◌≤◌, ◌<◌}
use native.Mathlib.Omega.{arith}
use lib.Dec.{T as So, ltb, leb, eqb, leb→le}
use lib.ListN.{length}
use borrow.Author.Tests.{ltb-false, leb-false, eqb-true}
use Rattle.words.specs.Outcome.{Outcome, accepted, refused}
use Rattle.words.proofs.Outcomes.{never}
use Rattle.records.specs.Forest.{Forest, empty, add, count, postfix}
use Rattle.records.specs.Parse.{descendants, nearest, farther, parse_from, parse}
use Rattle.records.specs.Check.{fills, own_fault, record_fault, records_check}

-- siblings one after the other
infixl 50 ◌⊞◌
◌⊞◌ : Forest → Forest → Forest
f ⊞ empty = f
f ⊞ (add before i s e kids) = add (f ⊞ before) i s e kids

cancel : (a b : ℕ) → (a + b) - a ≡ b
cancel a b = omega arith

pub nearest_zero : (f : Forest) → nearest f 0 ≡ empty
unfolding nearest
nearest_zero empty = refl
nearest_zero (add before i s e kids) = refl

pub farther_zero : (f : Forest) → farther f 0 ≡ f
unfolding farther
farther_zero empty = refl
farther_zero (add before i s e kids) = refl

nearest-⊞ : (done f : Forest) → nearest (done ⊞ f) (count f) ≡ f
unfolding ◌⊞◌ nearest count
nearest-⊞ done empty = nearest_zero done
nearest-⊞ done (add before i s e kids) = rw (cancel (count kids) (count before)) (ap (λ b. add b i s e kids) (nearest-⊞ done before))

farther-⊞ : (done f : Forest) → farther (done ⊞ f) (count f) ≡ done
unfolding ◌⊞◌ farther count
farther-⊞ done empty = farther_zero done
farther-⊞ done (add before i s e kids) = rw (cancel (count kids) (count before)) (farther-⊞ done before)

parse_postfix_from : (f done : Forest) (ws : List ℕ) → parse_from done (postfix f ++ ws) ≡ parse_from (done ⊞ f) ws
unfolding postfix ◌⊞◌ parse_from
parse_postfix_from empty done ws = refl
parse_postfix_from (add before i s e kids) done ws =
    let own = i ∷ s ∷ e ∷ 4 * suc (count kids) ∷ [] in
    let k : descendants (4 * suc (count kids)) ≡ count kids = omega arith in
    rw (
      append_assoc (postfix before) (postfix kids ++ own) ws,
      parse_postfix_from before done ((postfix kids ++ own) ++ ws),
      append_assoc (postfix kids) own ws,
      parse_postfix_from kids (done ⊞ before) (own ++ ws),
      k,
      nearest-⊞ (done ⊞ before) kids,
      farther-⊞ (done ⊞ before) kids,
    )

empty-⊞ : (f : Forest) → empty ⊞ f ≡ f
unfolding ◌⊞◌
empty-⊞ empty = refl
empty-⊞ (add before i s e kids) = ap (λ b. add b i s e kids) (empty-⊞ before)

-- all the siblings are taken
pub nearest_all : (f : Forest) → nearest f (count f) ≡ f
nearest_all f = rw empty-⊞ at (nearest-⊞ empty f)

pub farther_all : (f : Forest) → farther f (count f) ≡ empty
farther_all f = rw empty-⊞ at (farther-⊞ empty f)

pub parse_postfix : (f : Forest) → parse (postfix f) ≡ f
unfolding parse parse_from
parse_postfix f = rw append-nil at (parse_postfix_from f empty []) ∙ empty-⊞ f

-- two forests with the same words are the same
pub postfix_unique : (f g : Forest) → postfix f ≡ postfix g → f ≡ g
postfix_unique f g e = sym (parse_postfix f) ∙ (ap parse e ∙ parse_postfix g)

pub and_left : (x y : Bool) → So (x && y) → So x
and_left true y h = tt
and_left false y h = absurd h

pub and_right : (x y : Bool) → So (x && y) → So y
and_right true y h = h
and_right false y h = absurd h

-- the siblings that fill k records hold k
pub count_nearest : (f : Forest) (k : ℕ) → So (fills f k) → count (nearest f k) ≡ k
unfolding fills nearest count
count_nearest empty zero h = refl
count_nearest empty (suc k) h = absurd h
count_nearest (add before i s e kids) zero h = refl
count_nearest (add before i s e kids) (suc k) h =
    let le = leb→le (count kids) k (and_left (leb (count kids) k) _ h) in
    let rest = count_nearest before (k - count kids) (and_right (leb (count kids) k) _ h) in
    omega arith

pub count_split : (f : Forest) (k : ℕ) → count (farther f k) + count (nearest f k) ≡ count f
unfolding farther nearest count
count_split empty k = refl
count_split (add before i s e kids) zero = omega arith
count_split (add before i s e kids) (suc k) = omega (arith, count_split before (k - count kids))

pub postfix_split : (f : Forest) (k : ℕ) → postfix (farther f k) ++ postfix (nearest f k) ≡ postfix f
unfolding farther nearest postfix
postfix_split empty k = refl
postfix_split (add before i s e kids) zero = append-nil _
postfix_split (add before i s e kids) (suc k) =
    let own = postfix kids ++ (i ∷ s ∷ e ∷ 4 * suc (count kids) ∷ []) in
    sym (append_assoc (postfix (farther before (k - count kids))) (postfix (nearest before (k - count kids))) own)
    ∙ ap (λ l. l ++ own) (postfix_split before (k - count kids))

-- what a record satisfies to which none of 6 to 8 applies
pub own_fine : (T c i s e n : ℕ) → own_fault T c i s e n ≡ 0 → (i < T) × (s ≤ e) × (n ≡ 4 * suc (descendants n)) × (n ≤ 4 * suc c)
unfolding own_fault
own_fine T c i s e n = go (leb T i) (ltb e s) (ltb n 4) (eqb (n % 4) 0) (ltb (4 * suc c) n) refl refl refl refl refl
  where
    go : (v w x y z : Bool) → leb T i ≡ v → ltb e s ≡ w → ltb n 4 ≡ x → eqb (n % 4) 0 ≡ y → ltb (4 * suc c) n ≡ z
        → ◌≡◌ {A = ℕ} (cond v 6 (cond w 7 (cond (x || (not y || z)) 8 0))) 0
        → (i < T) × (s ≤ e) × (n ≡ 4 * suc (descendants n)) × (n ≤ 4 * suc c)
    go true w x y z a b d f g h = absurd (omega arith)
    go false true x y z a b d f g h = absurd (omega arith)
    go false false true y z a b d f g h = absurd (omega arith)
    go false false false false z a b d f g h = absurd (omega arith)
    go false false false true true a b d f g h = absurd (omega arith)
    go false false false true false a b d f g h =
        let four : 4 ≤ n = ltb-false n 4 d in
        let mult : n % 4 ≡ 0 = eqb-true (n % 4) 0 f in
        (leb-false T i a, ltb-false e s b, omega arith, ltb-false (4 * suc c) n g)

-- what a record after `done` satisfies to which none of 6 to 9 applies
pub record Fine (T : ℕ) (done : Forest) (i s e n : ℕ) : Type 0 where
  pub known : i < T
  pub ordered : s ≤ e
  pub sized : n ≡ 4 * suc (descendants n)
  pub small : n ≤ 4 * suc (count done)
  pub covered : So (fills done (descendants n))

pub fine : (T : ℕ) (done : Forest) (i s e n : ℕ) → record_fault T done i s e n ≡ 0 → Fine T done i s e n
unfolding record_fault
fine T done i s e n = go (own_fault T (count done) i s e n) (fills done (descendants n)) refl refl
  where
    go : (r : ℕ) (z : Bool) → own_fault T (count done) i s e n ≡ r → fills done (descendants n) ≡ z
        → ◌≡◌ {A = ℕ} (elim r [ suc r ↦ suc r | zero ↦ cond z 0 9 ]) 0
        → Fine T done i s e n
    go (suc r) z a b h = absurd (omega arith)
    go zero false a b h = absurd (omega arith)
    go zero true a b h =
        let own = own_fine T (count done) i s e n a in
        record { known = own.0; ordered = own.1; sized = own.2; small = own.3; covered = subst So (sym b) tt }

-- where a list is not refused, neither is its first record nor the others
pub first_fine : (r c : ℕ) (others : Outcome) (counts : List ℕ) → elim r [ suc k ↦ refused (suc k) c | zero ↦ others ] ≡ accepted counts → (r ≡ 0) × (others ≡ accepted counts)
first_fine zero c others counts h = (refl, h)
first_fine (suc r) c others counts h = absurd (never (suc r) c counts h)

-- a list without faults is the list of its forest
postfix_parse_from : (T : ℕ) (ws : List ℕ) (done : Forest) → length ws % 4 ≡ 0 → records_check T done ws ≡ accepted [] → postfix (parse_from done ws) ≡ postfix done ++ ws
unfolding parse_from records_check postfix
postfix_parse_from T [] done l h = sym (append-nil _)
postfix_parse_from T (i ∷ []) done l h = absurd (omega arith)
postfix_parse_from T (i ∷ s ∷ []) done l h = absurd (omega arith)
postfix_parse_from T (i ∷ s ∷ e ∷ []) done l h = absurd (omega arith)
postfix_parse_from T (i ∷ s ∷ e ∷ n ∷ ws) done l h =
    let k = descendants n in
    let next = add (farther done k) i s e (nearest done k) in
    let (ok, others) = first_fine (record_fault T done i s e n) (count done) (records_check T next ws) [] h in
    let good = fine T done i s e n ok in
    let size : 4 * suc (count (nearest done k)) ≡ n = omega (arith, good.sized, count_nearest done k good.covered) in
    postfix_parse_from T ws next (omega arith) others
    ∙ rw (size, ← append_assoc (postfix (farther done k)) (postfix (nearest done k)) (i ∷ s ∷ e ∷ n ∷ []), postfix_split done k) (append_assoc (postfix done) (i ∷ s ∷ e ∷ n ∷ []) ws)

pub postfix_parse : (T : ℕ) (ws : List ℕ) → length ws % 4 ≡ 0 → records_check T empty ws ≡ accepted [] → postfix (parse ws) ≡ ws
unfolding parse postfix
postfix_parse T ws l h = postfix_parse_from T ws empty l h

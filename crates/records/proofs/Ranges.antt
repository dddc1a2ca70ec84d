-- Refusal 10 as a least number: of the records below the first level, and of the siblings of one level. By induction on the
-- forest. Assumes nothing.
use mathlib.Core.Path.{◌≡◌, refl, ◌∙◌}
use mathlib.Core.Bool.{Bool, true, false, cond}
use Rattle.std.specs.Prelude.{Option, None, Some}
use Prim.Native.Nat.{ℕ, zero, suc, ◌+◌, ◌-◌, ◌≤◌, ◌<◌, min}
use native.Mathlib.Omega.{arith}
use Rattle.records.specs.Forest.{Forest, empty, add, count, behind}
use Rattle.records.specs.Parse.{nearest, farther}
use Rattle.records.specs.Check.{in_place, or_else, range_fault}
use Rattle.records.specs.Taking.{judged}
use Rattle.records.proofs.ParseLaws.{count_split}

-- the number of an answer, d for none
abbrev pub least : ℕ → Option ℕ → ℕ
least d None = d
least d (Some n) = min d n

-- an answer is none, or from a up and below b
abbrev pub Between : (a b : ℕ) → Option ℕ → Type 0
Between a b None = a ≤ b
Between a b (Some n) = (a ≤ n) × (n < b)

between_or : (a m b : ℕ) (o o' : Option ℕ) → Between a m o → Between m b o' → Between a b (or_else o o')
unfolding or_else
between_or a m b None None x y = omega arith
between_or a m b None (Some n) x y = (omega arith, omega arith)
between_or a m b (Some n) None x y = (omega arith, omega arith)
between_or a m b (Some n) (Some n') x y = (omega arith, omega arith)

least_or : (d a m b : ℕ) (o o' : Option ℕ) → Between a m o → Between m b o' → least d (or_else o o') ≡ min (least d o) (least d o')
unfolding or_else
least_or d a m b None None x y = omega arith
least_or d a m b None (Some n) x y = omega arith
least_or d a m b (Some n) None x y = omega arith
least_or d a m b (Some n) (Some n') x y = omega arith

own_between : (t : Bool) (a n : ℕ) → a ≤ n → Between a (suc n) (elim t [ true ↦ None | false ↦ Some n ])
own_between true a n h = omega arith
own_between false a n h = (h, omega arith)

pub range_between : (f : Forest) (lo hi c : ℕ) → Between c (c + count f) (range_fault lo hi c f)
unfolding range_fault count
range_between empty lo hi c = omega arith
range_between (add before i s e kids) lo hi c =
    let m = c + count before in
    let m' = c + count before + count kids in
    let n : suc (c + count before + count kids) ≡ c + suc (count kids + count before) = omega arith in
    between_or c (c + count before) (c + suc (count kids + count before)) (range_fault lo hi c before) _
    (range_between before lo hi c)
    (between_or (c + count before) (c + count before + count kids) (c + suc (count kids + count before)) (range_fault s e (c + count before) kids) _
    (range_between kids s e (c + count before))
    (rw (← n) (own_between (in_place lo hi (behind lo before) s e) (c + count before + count kids) (c + count before + count kids) (omega arith))))

-- the lowest offender below the first level
unfoldable pub inner : (d c : ℕ) → Forest → ℕ
inner d c empty = d
inner d c (add before i s e kids) = min (inner d c before) (least d (range_fault s e (c + count before) kids))

-- the lowest offender of the first level
unfoldable pub level : (d lo hi c : ℕ) → Forest → ℕ
level d lo hi c empty = d
level d lo hi c (add before i s e kids) =
    min (level d lo hi c before) (cond (in_place lo hi (behind lo before) s e) d (c + count before + count kids))

own_least : (t : Bool) (d n : ℕ) → n < d → least d (elim t [ true ↦ None | false ↦ Some n ]) ≡ cond t d n
own_least true d n h = refl
own_least false d n h = omega arith

pub range_least : (f : Forest) (d lo hi c : ℕ) → c + count f ≤ d → least d (range_fault lo hi c f) ≡ min (inner d c f) (level d lo hi c f)
unfolding range_fault count inner level
range_least empty d lo hi c h = omega arith
range_least (add before i s e kids) d lo hi c h =
    let t : Bool = in_place lo hi (behind lo before) s e in
    let m : ℕ = c + count before in
    let q : ℕ = c + count before + count kids in
    let earlier : Option ℕ = range_fault lo hi c before in
    let inside : Option ℕ = range_fault s e (c + count before) kids in
    let own : Option ℕ = elim t [ true ↦ None | false ↦ Some q ] in
    let o : Between q (suc q) own = own_between t q q (omega arith) in
    let i' : Between m q inside = range_between kids s e m in
    let one : least d (or_else earlier (or_else inside own)) ≡ min (least d earlier) (least d (or_else inside own)) =
    least_or d c m (suc q) earlier (or_else inside own) (range_between before lo hi c) (between_or m q (suc q) inside own i' o) in
    let two : least d (or_else inside own) ≡ min (least d inside) (least d own) = least_or d m q (suc q) inside own i' o in
    let three : least d own ≡ cond t d q = own_least t d q (omega arith) in
    let rest = range_least before d lo hi c (omega arith) in
    one ∙ omega (arith, two, three, rest)

pub inner_most : (f : Forest) (d c : ℕ) → inner d c f ≤ d
unfolding inner
inner_most empty d c = omega arith
inner_most (add before i s e kids) d c = omega (arith, inner_most before d c)

-- the lowest offender below the first level, in two parts
pub inner_split : (f : Forest) (k d c : ℕ) → inner d c f ≡ min (inner d c (farther f k)) (inner d (c + count (farther f k)) (nearest f k))
unfolding inner farther nearest count
inner_split empty k d c = omega arith
inner_split (add before i s e kids) zero d c = omega (arith, inner_most (add before i s e kids) d c)
inner_split (add before i s e kids) (suc k) d c =
    let b = inner_split before (k - count kids) d c in
    let n : c + count (farther before (k - count kids)) + count (nearest before (k - count kids)) ≡ c + count before = omega (arith, count_split before (k - count kids)) in
    rw n (omega arith)

own_low_min : (t : Bool) (d n q l : ℕ) → d ≤ n → min (cond t d (min d q)) l ≡ min d (min l (cond t n q))
own_low_min true d n q l h = omega arith
own_low_min false d n q l h = omega arith

own_low_most : (t : Bool) (d n q : ℕ) → d ≤ n → cond t d (min d q) ≤ n
own_low_most true d n q h = h
own_low_most false d n q h = omega arith

-- what the walk over siblings finds
pub judged_level : (f : Forest) (k d n lo hi : ℕ) → d ≤ n → judged d lo hi f k ≡ min d (level n lo hi (count (farther f k)) (nearest f k))
unfolding judged level farther nearest count
judged_level empty k d n lo hi h = omega arith
judged_level (add before i s e kids) zero d n lo hi h = omega arith
judged_level (add before i s e kids) (suc k) d n lo hi h =
    let k' : ℕ = k - count kids in
    let t : Bool = in_place lo hi (behind lo (nearest before (k - count kids))) s e in
    let c : count (farther before (k - count kids)) + count (nearest before (k - count kids)) ≡ count before = count_split before (k - count kids) in
    judged_level before (k - count kids) (cond t d (min d (count before + count kids))) n lo hi (own_low_most t d n (count before + count kids) h)
    ∙ rw c (own_low_min t d n (count before + count kids) (level n lo hi (count (farther before (k - count kids))) (nearest before (k - count kids))) h)

-- A record after `done` takes up k records: the lowest offender below the first level then.
pub inner_grown : (done : Forest) (k d i s e : ℕ) → count done ≤ d
    → inner d 0 (add (farther done k) i s e (nearest done k)) ≡ judged (inner d 0 done) s e done k
unfolding inner
inner_grown done k d i s e h =
    let a = range_least (nearest done k) d s e (count (farther done k)) (omega (arith, count_split done k)) in
    let z : 0 + count (farther done k) ≡ count (farther done k) = omega arith in
    let b = rw z at (inner_split done k d 0) in
    let j = judged_level done k (inner d 0 done) d s e (inner_most done d 0) in
    rw z (omega (arith, a, b, j))

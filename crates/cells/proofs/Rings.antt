-- The records around the present one of a part: their end indices in one slice, their ends in another. Assumes nothing.
use mathlib.Core.Path.{◌≡◌, refl, ◌∙◌}
use mathlib.Core.Bool.{not, cond}
use mathlib.Core.List.{List, [], ◌∷◌}
use Prim.Native.Nat.{ℕ, zero, suc, ◌+◌, ◌-◌, ◌≤◌, ◌<◌}
use native.Mathlib.Omega.{arith}
use native.Mathlib.Numerals.{add-one}
use native.Mathlib.Decide.{dec_le, ℕ_discrete}
use borrow.Author.Tests.{le-ltb, lt-ltb, le-leb, lt-leb, ne_eqb}
use lib.Dec.{ltb, leb}
use lib.ListN.{length, get_or, set}
use lib.Seq.{get_or-set_same, get_or-set_other}
use Rattle.part.specs.Open.{Innermost}
use Rattle.rules.specs.PartLowest.{Around, still, earliest, ends_inside}
use Rattle.cells.specs.Parts.{past_parent}

-- the first t records around, innermost first
unfoldable pub rings : (indices ends : List ℕ) (t : ℕ) → List Around
rings indices ends zero = []
rings indices ends (suc t) = record { stop = get_or indices t 0; end = get_or ends t 0 } ∷ rings indices ends t

still_on : (off : ℕ) (a : Around) (outer : List Around) → off < a.stop → still off (a ∷ outer) ≡ a ∷ outer
unfolding still
still_on off a outer h = rw (lt-leb a.stop off h, still)

still_off : (off : ℕ) (a : Around) (outer : List Around) → a.stop ≤ off → still off (a ∷ outer) ≡ still off outer
unfolding still
still_off off a outer h = rw (le-leb a.stop off h, still)

earliest_on : (off lo : ℕ) (a : Around) (outer : List Around) → off < a.stop → earliest off lo (a ∷ outer) ≡ lo
unfolding earliest
earliest_on off lo a outer h = rw (lt-leb a.stop off h, earliest)

earliest_off : (off lo : ℕ) (a : Around) (outer : List Around) → a.stop ≤ off → earliest off lo (a ∷ outer) ≡ earliest off a.end outer
unfolding earliest
earliest_off off lo a outer h = rw (le-leb a.stop off h, earliest)

module _ (indices ends : List ℕ) (off : ℕ) where
  -- those that stay open are the records around that go on past the offset
  pub staying : (top r : ℕ) → Innermost indices top off r → still off (rings indices ends top) ≡ rings indices ends r
  unfolding rings still
  staying zero r m = let e : r ≡ 0 = omega (arith, m.below) in rw e
  staying (suc t) r m = go (dec_le r t) (λ l. staying t r (record { below = l; closed = λ k a b. m.closed k a (omega arith); innermost = m.innermost }))
    where
      go : Dec (r ≤ t) → (r ≤ t → still off (rings indices ends t) ≡ rings indices ends r) → still off (rings indices ends (suc t)) ≡ rings indices ends r
      go (yes l) rest = still_off off _ (rings indices ends t) (m.closed t l (omega arith)) ∙ rest l
      go (no l) rest =
          let e : r ≡ suc t = omega (arith, m.below) in
          let q : r - 1 ≡ t = omega arith in
          rw e (still_on off _ (rings indices ends t) (rw q at (m.innermost (omega arith))))

  -- the earliest start is the end of the outermost one that ended
  pub starting : (top r lo : ℕ) → Innermost indices top off r → earliest off lo (rings indices ends top) ≡ cond (ltb r top) (get_or ends r 0) lo
  unfolding rings earliest
  starting zero r lo m = rw (le-ltb r 0 (omega arith))
  starting (suc t) r lo m =
      go (dec_le r t) (ℕ_discrete r t) (λ l. starting t r (get_or ends t 0) (record { below = l; closed = λ k a b. m.closed k a (omega arith); innermost = m.innermost }))
    where
      go : Dec (r ≤ t) → Dec (r ≡ t) → (r ≤ t → earliest off (get_or ends t 0) (rings indices ends t) ≡ cond (ltb r t) (get_or ends r 0) (get_or ends t 0))
          → earliest off lo (rings indices ends (suc t)) ≡ cond (ltb r (suc t)) (get_or ends r 0) lo
      go (yes l) (yes e) rest =
          earliest_off off lo _ (rings indices ends t) (m.closed t l (omega arith)) ∙ (rest l ∙ rw (lt-ltb r (suc t) (omega arith), le-ltb r t (omega arith), e))
      go (yes l) (no e) rest =
          earliest_off off lo _ (rings indices ends t) (m.closed t l (omega arith)) ∙ (rest l ∙ rw (lt-ltb r (suc t) (omega arith), lt-ltb r t (omega arith)))
      go (no l) e rest =
          let q : r - 1 ≡ t = omega (arith, m.below) in
          rw (le-ltb r (suc t) (omega arith)) (earliest_on off lo _ (rings indices ends t) (rw q at (m.innermost (omega arith))))

-- a record that ends past its parent
pub parent_past : (indices ends : List ℕ) (t e : ℕ) → not (ends_inside e (rings indices ends t)) ≡ past_parent ends t e
unfolding rings ends_inside past_parent
parent_past indices ends zero e = refl
parent_past indices ends (suc t) e =
    let q : suc t - 1 ≡ t = omega arith in
    rw (ne_eqb (suc t) 0 (λ z. omega arith), q) (flip (dec_le e (get_or ends t 0)))
  where
    flip : Dec (e ≤ get_or ends t 0) → not (leb e (get_or ends t 0)) ≡ ltb (get_or ends t 0) e
    flip (yes l) = rw (le-leb e (get_or ends t 0) l, le-ltb (get_or ends t 0) e l)
    flip (no l) = rw (lt-leb e (get_or ends t 0) (omega arith), lt-ltb (get_or ends t 0) e (omega arith))

-- one record around more
rings_set : (indices ends : List ℕ) (t j x e : ℕ) → t ≤ j → rings (set indices j x) (set ends j e) t ≡ rings indices ends t
unfolding rings
rings_set indices ends zero j x e a = refl
rings_set indices ends (suc t) j x e a =
    rw (get_or-set_other indices j t x 0 (λ q. omega arith), get_or-set_other ends j t e 0 (λ q. omega arith), rings_set indices ends t j x e (omega arith))

pub rings_push : (indices ends : List ℕ) (t x e : ℕ) → t < length indices → t < length ends
    → rings (set indices t x) (set ends t e) (t + 1) ≡ record { stop = x; end = e } ∷ rings indices ends t
unfolding rings
rings_push indices ends t x e a b =
    rw (add-one t, get_or-set_same indices t x 0 a, get_or-set_same ends t e 0 b, rings_set indices ends t t x e (omega arith))

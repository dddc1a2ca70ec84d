-- Laws of the first place for which a test holds: one step of a walk, and what the answer says. Assumes nothing.
use mathlib.Core.Path.{◌≡◌, refl}
use mathlib.Core.List.{List, [], ◌∷◌}
use mathlib.Core.Bool.{Bool, true, false, cond}
use Rattle.std.specs.Prelude.{None, Some}
use Prim.Native.Nat.{ℕ, zero, suc, ◌+◌, ◌-◌, ◌≤◌, ◌<◌}
use native.Mathlib.Omega.{arith}
use native.Mathlib.Decide.{ℕ_discrete}
use Rattle.words.specs.First.{first_from, first_in}

module _ (test : ℕ → Bool) (i n : ℕ) where
  -- one number more at the front, for a walk from the last one back
  pub from_step : i < n → first_from test i (n - i) ≡ cond (test i) (Some i) (first_from test (i + 1) (n - (i + 1)))
  unfolding first_from
  from_step l = let e : n - i ≡ suc (n - (i + 1)) = omega arith in rw e

  pub from_end : n ≤ i → first_from test i (n - i) ≡ None
  unfolding first_from
  from_end l = let e : n - i ≡ 0 = omega arith in rw e

-- where there is none, the test fails at each
pub none_from : (test : ℕ → Bool) (i left : ℕ) → first_from test i left ≡ None → (j : ℕ) → i ≤ j → j < i + left → test j ≡ false
unfolding first_from
none_from test i zero h j l m = absurd (omega arith)
none_from test i (suc left) h j l m = go (test i) refl (ℕ_discrete i j) (λ k. none_from test (i + 1) left k j)
  where
    go : (t : Bool) → test i ≡ t → Dec (i ≡ j) → (first_from test (i + 1) left ≡ None → i + 1 ≤ j → j < i + 1 + left → test j ≡ false) → test j ≡ false
    go true e q rest = let k = rw e at h in let z : ◌≡◌ {A = ℕ} 0 1 = cc in absurd (omega arith)
    go false e (yes q) rest = rw (← q) e
    go false e (no q) rest = rest (rw e at h) (omega arith) (omega arith)

-- one that is found is in range
pub some_from : (test : ℕ → Bool) (i left at : ℕ) → first_from test i left ≡ Some at → at < i + left
unfolding first_from
some_from test i zero at h = let z : ◌≡◌ {A = ℕ} 0 1 = cc in absurd (omega arith)
some_from test i (suc left) at h = go (test i) refl (some_from test (i + 1) left at)
  where
    go : (t : Bool) → test i ≡ t → (first_from test (i + 1) left ≡ Some at → at < i + 1 + left) → at < i + suc left
    go true e rest = let k = rw e at h in let z : i ≡ at = cc in omega arith
    go false e rest = omega (arith, rest (rw e at h))

pub in_none : (test : ℕ → Bool) → first_in test [] ≡ None
unfolding first_in
in_none test = refl

module _ (test : ℕ → Bool) (a : ℕ) (l : List ℕ) where
  pub in_hit : test a ≡ true → first_in test (a ∷ l) ≡ Some a
  unfolding first_in
  in_hit h = rw h

  pub in_miss : test a ≡ false → first_in test (a ∷ l) ≡ first_in test l
  unfolding first_in
  in_miss h = rw h

-- a test that fails everywhere
pub in_all_miss : (test : ℕ → Bool) (l : List ℕ) → ((a : ℕ) → test a ≡ false) → first_in test l ≡ None
unfolding first_in
in_all_miss test [] h = refl
in_all_miss test (a ∷ l) h = rw (h a) (in_all_miss test l h)

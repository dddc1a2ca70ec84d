-- What a conjunction that holds and a disjunction that does not say of their sides; a list of length 0. Assumes nothing.
use mathlib.Core.Path.{◌≡◌, refl, sym}
use mathlib.Core.Bool.{Bool, true, false, ◌&&◌, ◌||◌, not, true≢false}
use mathlib.Core.List.{List, [], ◌∷◌}
use native.Mathlib.Omega.{arith}
use lib.ListN.{length}

pub both : (x y : Bool) → x && y ≡ true → (x ≡ true) × (y ≡ true)
both true y h = (refl, h)
both false y h = absurd (true≢false (sym h))

pub neither : (x y : Bool) → x || y ≡ false → (x ≡ false) × (y ≡ false)
neither false y h = (refl, h)
neither true y h = absurd (true≢false h)

-- a disjunction that holds, holds on one side
pub either : (x y : Bool) (A : Type 0) → x || y ≡ true → (x ≡ true → A) → (y ≡ true → A) → A
either true y A h f g = f refl
either false y A h f g = g h

pub and_none : (x : Bool) → x && false ≡ false
and_none true = refl
and_none false = refl

pub or_true : (x : Bool) → x || true ≡ true
or_true true = refl
or_true false = refl

pub untrue : (x : Bool) → not x ≡ true → x ≡ false
untrue true h = absurd (true≢false (sym h))
untrue false h = refl

pub none_left : {A : Type 0} (l : List A) → length l ≡ 0 → l ≡ []
none_left [] h = refl
none_left (x ∷ l) h = absurd (omega arith)

-- A slice after its part from an offset on was lent to be written at that part's front. Assumes nothing.
use mathlib.Core.Path.{◌≡◌, ap, ◌∙◌}
use mathlib.Core.List.{List, [], ◌++◌, append-nil}
use Prim.Native.Nat.{ℕ, ◌-◌}
use native.Mathlib.Omega.{arith}
use lib.ListN.{length, take, drop, length-drop}
use Rattle.std.proofs.lemmas.List.{drop-drop, take_all, drop_all}
use borrow.Rule.Slice.PartMut.{put_mid}
use Rattle.words.specs.Words.{put, front}

pub lent_front : (xs vs ys : List ℕ) (at : ℕ) → ys ≡ front vs (take (length xs - at) (drop at xs)) → put_mid at (length xs - at) xs ys ≡ put xs at vs
lent_front xs vs ys at e =
    let k : ℕ = length xs - at in
    let whole : take k (drop at xs) ≡ drop at xs = take_all k (drop at xs) (omega (arith, length-drop at xs)) in
    let past : drop k (drop at xs) ≡ [] = drop_all k (drop at xs) (omega (arith, length-drop at xs)) in
    ap (λ (r : List ℕ). take at xs ++ (ys ++ r)) past
    ∙ ap (λ (r : List ℕ). take at xs ++ r) (append-nil ys ∙ e ∙ ap (λ (r : List ℕ). front vs r) whole)
    ∙ ap (λ (r : List ℕ). take at xs ++ (vs ++ r)) (drop-drop (length vs) at xs)

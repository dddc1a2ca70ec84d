-- What an accepted build counts stands in the slices it was lent. Assumes nothing.
use mathlib.Core.Path.{◌≡◌, refl, sym, ap, ◌∙◌}
use mathlib.Core.List.{List, [], ◌∷◌}
use Rattle.std.specs.Prelude.{Option}
use Prim.Native.Nat.{ℕ, ◌*◌, ◌≤◌}
use native.Mathlib.Omega.{arith}
use borrow.Author.Tests.{ltb-false}
use lib.Dec.{ltb}
use lib.ListN.{length, get_or}
use Rattle.words.specs.Outcome.{Outcome, accepted, refused, unless_refused, counts_of, Result, settled}
use Rattle.words.proofs.Outcomes.{never, passed}
use Rattle.records.specs.Check.{check}
use Rattle.records.specs.Parse.{parse}
use Rattle.tree.specs.Trees.{nodes}
use Rattle.tree.specs.Build.{build}
use Rattle.tree.specs.Cells.{cell_width}
use Rattle.tree.specs.Calls.{written, room, build_call}

outcome_settled : (o : Outcome) (after before : List (List ℕ)) → (settled o after before).outcome ≡ o
outcome_settled (accepted counts) after before = refl
outcome_settled (refused number place) after before = refl

later_accepted : (o next : Outcome) (counts : List ℕ) → unless_refused o next ≡ accepted counts → next ≡ accepted counts
later_accepted (accepted more) next counts h = h
later_accepted (refused number place) next counts h = absurd (never number place counts h)

count_is : (i : ℕ) (a b : List ℕ) → accepted a ≡ accepted b → get_or a i 0 ≡ get_or b i 0
count_is i a b e = ap (λ (o : Outcome). get_or (counts_of o) i 0) e

room_fits : (k w cells words n m : ℕ) → room k w cells words ≡ accepted (n ∷ m ∷ []) → (cell_width * n ≤ cells) × (m ≤ words)
unfolding room
room_fits k w cells words n m h =
    let one = passed (ltb cells (cell_width * k)) 12 0 _ _ h in
    let two = passed (ltb words w) 13 0 _ _ one.1 in
    let a : k ≡ n = count_is 0 (k ∷ w ∷ []) (n ∷ m ∷ []) two.1 in
    let b : w ≡ m = count_is 1 (k ∷ w ∷ []) (n ∷ m ∷ []) two.1 in
    let c = ltb-false cells (cell_width * k) one.0 in
    let d = ltb-false words w two.0 in
    (omega arith, omega arith)

pub build_fits : (T F b S top : ℕ) (given : Option ℕ) (work : ℕ) (records cells words : List ℕ) (x : Result) (n m : ℕ)
    → x ≡ build_call T F b S top given work records cells words → x.outcome ≡ accepted (n ∷ m ∷ []) → (cell_width * n ≤ length cells) × (m ≤ length words)
unfolding build_call
build_fits T F b S top given work records cells words x n m e h =
    let t = build F b S top given (parse records) in
    let o = unless_refused (check T b top S work records) (room (nodes t) (length (written S t).words) (length cells) (length words)) in
    let is : o ≡ accepted (n ∷ m ∷ []) = sym (outcome_settled o _ _) ∙ (ap (λ (r : Result). r.outcome) (sym e) ∙ h) in
    room_fits (nodes t) (length (written S t).words) (length cells) (length words) n m (later_accepted (check T b top S work records) _ _ is)

-- The call: the refusals of the check, or the build of an accepted list. Assumes nothing.
use mathlib.Core.Path.{◌≡◌, refl, sym, ap, ◌∙◌}
use mathlib.Core.List.{List, [], ◌∷◌}
use Rattle.std.specs.Prelude.{Option}
use Prim.Native.Nat.{ℕ, ◌+◌, ◌*◌, ◌/◌, ◌≤◌}
use lib.ListN.{length}
use Rattle.words.specs.Outcome.{Outcome, accepted, refused, number_of, place_of, Result}
use Rattle.records.specs.Check.{check, Accepted}
use Rattle.words.specs.Refusal.{refused_by}
use Rattle.words.specs.declared.refusal.Refusal.{Refusal}
use Rattle.words.proofs.Refusals.{told}
use Rattle.records.proofs.AcceptLaws.{check_accepted, check_room, accepted_check}
use Rattle.tree.specs.Calls.{written, build_call}
use Rattle.build.specs.Building.{Listed, built}

first_count : Outcome → ℕ
first_count (accepted []) = 0
first_count (accepted (x ∷ xs)) = x
first_count (refused n p) = 0

first_of : (a c : ℕ) → accepted (a ∷ []) ≡ accepted (c ∷ []) → a ≡ c
unfolding first_count
first_of a c e = ap first_count e

module _ (T F b S top : ℕ) (given : Option ℕ) (work : ℕ) (w cells words : List ℕ) where
  pub refuses : (r : Refusal) → refused_by r ≡ check T b top S work w → record { outcome = refused_by r; outputs = cells ∷ words ∷ [] } ≡ build_call T F b S top given work w cells words
  unfolding build_call
  refuses r is =
      let e : check T b top S work w ≡ refused (number_of (refused_by r)) (place_of (refused_by r)) = sym is ∙ told r in
      rw (told r, e) refl

  module _ (count : ℕ) (is : accepted (count ∷ []) ≡ check T b top S work w) where
    checked : check T b top S work w ≡ accepted (count ∷ [])
    checked = sym is

    passes : number_of (check T b top S work w) ≡ 0
    passes = ap number_of checked

    list_accepted : Accepted T b top S w
    list_accepted = check_accepted T b top S work w passes

    room : 96 * (length w / 4) + 96 ≤ work
    room = check_room T b top S work w passes

    pub counted : count ≡ length w / 4
    counted = first_of count (length w / 4) (sym checked ∙ accepted_check T b top S work w list_accepted room)

    pub front_fits : 96 * count + 96 ≤ work
    front_fits = rw counted room

    pub few_counted : count ≤ 1048576
    few_counted = rw counted list_accepted.few

    pub listed : S ≤ 4294967295 → (size : ℕ) → size ≡ 96 * count + 96 → Listed b S w size
    listed s size e = record { T = T; top = top; accepted = list_accepted; start_fits = s; size = rw counted at e }

    pub builds : (x : Result) → x ≡ built F b S top given w cells words → x ≡ build_call T F b S top given work w cells words
    unfolding build_call written
    builds x e = rw checked e

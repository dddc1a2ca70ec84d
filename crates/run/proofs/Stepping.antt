-- The calls of `run` in turn, by the answer of each. Assumes nothing.
use mathlib.Core.Path.{◌≡◌, refl, sym, ap, ◌∙◌}
use mathlib.Core.List.{List, [], ◌∷◌}
use Rattle.std.specs.Prelude.{Option}
use Prim.Native.Nat.{ℕ, ◌*◌}
use lib.ListN.{take}
use Rattle.words.specs.Outcome.{Outcome, accepted, refused, number_of, place_of, Result}
use Rattle.tree.specs.Cells.{cell_width}
use Rattle.tree.specs.Calls.{build_call}
use Rattle.rules.specs.Calls.{list_call}
use Rattle.words.specs.Refusal.{refused_by}
use Rattle.words.specs.declared.refusal.Refusal.{Refusal}
use Rattle.words.proofs.Refusals.{told}
use Rattle.run.specs.Running.{Steps, one_work, none_left, followed, on_built, list_steps, run_call}

-- an outcome with outputs
abbrev pub result : Outcome → List (List ℕ) → Result
result o outputs = record { outcome = o; outputs = outputs }

abbrev pub steps : Outcome → ℕ → List (List ℕ) → Steps
steps o calls outputs = record { outcome = o; calls = calls; outputs = outputs }

module _ (T F b S top : ℕ) (given : Option ℕ) (work : ℕ) (records cells words lines : List ℕ) where
  -- the run by the result of the build
  abbrev from_built : Result → Steps
  from_built x = on_built x (λ cs ws. list_steps T F S cs ws work lines) (lines ∷ [])

  run_from : (x : Result) → x ≡ build_call T F b S top given work records cells words → from_built x ≡ run_call T F b S top given (one_work work) records cells words lines
  unfolding run_call
  run_from x is = ap from_built is

  -- the outputs after the build
  module _ (cells' words' : List ℕ) where
    pub run_refused : (r : Refusal) → result (refused_by r) (cells' ∷ words' ∷ []) ≡ build_call T F b S top given work records cells words
        → steps (refused_by r) 0 (cells' ∷ words' ∷ lines ∷ []) ≡ run_call T F b S top given (one_work work) records cells words lines
    run_refused r is =
        ap (λ (o : Outcome). steps o 0 (cells' ∷ words' ∷ lines ∷ [])) (told r)
        ∙ run_from (result (refused (number_of (refused_by r)) (place_of (refused_by r))) (cells' ∷ words' ∷ [])) (ap (λ (o : Outcome). result o (cells' ∷ words' ∷ [])) (sym (told r)) ∙ is)

    -- what listing answers comes after the counts of the build
    pub run_listed : (n m : ℕ) → result (accepted (n ∷ m ∷ [])) (cells' ∷ words' ∷ []) ≡ build_call T F b S top given work records cells words
        → (lent : ℕ) → lent ≡ work → (o : Outcome) (lines' : List ℕ) → result o (lines' ∷ []) ≡ list_call T F S (take (cell_width * n) cells') (take m words') lent lines
        → followed (accepted (n ∷ m ∷ [])) (cells' ∷ words' ∷ []) (followed o (lines' ∷ []) none_left []) (lines ∷ []) ≡ run_call T F b S top given (one_work work) records cells words lines
    unfolding list_steps
    run_listed n m is lent same o lines' listed =
        let here = listed ∙ ap (λ (k : ℕ). list_call T F S (take (cell_width * n) cells') (take m words') k lines) same in
        ap (λ (x : Result). followed (accepted (n ∷ m ∷ [])) (cells' ∷ words' ∷ []) (followed x.outcome x.outputs none_left []) (lines ∷ [])) here
        ∙ run_from (result (accepted (n ∷ m ∷ [])) (cells' ∷ words' ∷ [])) is

    -- a refusal of listing, after the build
    pub list_refused : (n m : ℕ) (r : Refusal) (lines' : List ℕ)
        → steps (refused_by r) 1 (cells' ∷ words' ∷ lines' ∷ []) ≡ followed (accepted (n ∷ m ∷ [])) (cells' ∷ words' ∷ []) (followed (refused_by r) (lines' ∷ []) none_left []) (lines ∷ [])
    list_refused n m r lines' = let e = told r in rw e refl

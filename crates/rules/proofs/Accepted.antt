-- Refusal 15 does not apply exactly when the cells and words are those of a tree that keeps the rules; so what build writes is
-- accepted by materialise and by listing, and what materialise writes by listing. Assumes nothing.
use mathlib.Core.Path.{◌≡◌, sym, ap, ◌∙◌}
use mathlib.Core.Bool.{Bool, false}
use mathlib.Core.List.{List, []}
use Rattle.std.specs.Prelude.{Option, None}
use mathlib.Core.Logic.{◌↔◌}
use Prim.Native.Nat.{ℕ, ◌+◌, ◌-◌, ◌*◌, ◌≤◌}
use native.Mathlib.Omega.{arith}
use lib.ListN.{length}
use Rattle.records.specs.Forest.{behind}
use Rattle.records.specs.Parse.{parse}
use Rattle.records.specs.Check.{Accepted}
use Rattle.tree.specs.Trees.{nodes}
use Rattle.tree.specs.Well.{Short}
use Rattle.tree.specs.Cells.{cell_width, decode}
use Rattle.tree.specs.Calls.{Written, build_cells, materialise_cells, balance_cells, list_cells}
use Rattle.tree.proofs.CellLaws.{length_cells}
use Rattle.tree.proofs.KeptLaws.{Kept, build_kept, materialise_kept, ends_fit, materialise_keeps, listed_in_turn}
use Rattle.tree.proofs.BalancedLaws.{balance_keeps}
use Rattle.tree.proofs.BalanceLists.{list_counted, balance_lists, balance_lists_counted}
use Rattle.rules.specs.Rules.{Place}
use Rattle.rules.specs.Lowest.{bad_cell}
use Rattle.rules.proofs.Decoded.{accepted_kept, accepted_decode}
use Rattle.rules.proofs.Encoded.{kept_accepted}
use Rattle.rules.proofs.SamePlace.{same_none}

-- Refusal 15 does not apply exactly when the cells and words are those of a tree that keeps the rules.
pub accepted_exactly : (T S : ℕ) (cs ws : List ℕ) → T ≤ 65536 → S ≤ 4294967295 → Short ws → bad_cell T S cs ws ≡ None ↔ Kept T (4294967295 - S) cs ws
accepted_exactly T S cs ws types fits short = (
  (λ h. accepted_kept T S ws short fits cs h),
  (λ k. kept_accepted T S (4294967295 - S) cs ws types (omega arith) k),
)

-- The same by the rules one by one: no cell breaks one exactly when the cells and words are those of such a tree.
pub kept_exactly : (T S : ℕ) (cs ws : List ℕ) → T ≤ 65536 → S ≤ 4294967295 → Short ws → ((c : ℕ) → Place T S cs ws c → ⊥) ↔ Kept T (4294967295 - S) cs ws
kept_exactly T S cs ws types fits short =
    let (a, b) = accepted_exactly T S cs ws types fits short in
    let (x, y) = same_none T S cs ws in
    ((λ h. a (y h)), (λ k. x (b k)))

-- What materialise makes of accepted cells is accepted without packed words, from the same S.
pub materialised_accepted : (T S : ℕ) (cs ws : List ℕ) → T ≤ 65536 → S ≤ 4294967295 → Short ws → bad_cell T S cs ws ≡ None → bad_cell T S (materialise_cells cs ws) [] ≡ None
materialised_accepted T S cs ws types fits short h =
    kept_accepted T S (4294967295 - S) (materialise_cells cs ws) [] types (omega arith)
    (materialise_keeps T (4294967295 - S) cs ws (accepted_kept T S ws short fits cs h) types)

-- It lists as they do.
pub materialised_lists : (T F S : ℕ) (cs ws : List ℕ) → T ≤ 65536 → S ≤ 4294967295 → Short ws → bad_cell T S cs ws ≡ None
    → list_cells F S (materialise_cells cs ws) [] ≡ list_cells F S cs ws
materialised_lists T F S cs ws types fits short h = listed_in_turn T (4294967295 - S) F S types cs ws (accepted_kept T S ws short fits cs h)

-- What balance makes of accepted cells is accepted too.
pub balanced_accepted : (f : Bool) (T S : ℕ) (cs ws : List ℕ) → T ≤ 65536 → S ≤ 4294967295 → Short ws → bad_cell T S cs ws ≡ None
    → bad_cell T S (balance_cells f cs ws).cells (balance_cells f cs ws).words ≡ None
balanced_accepted f T S cs ws types fits short h =
    kept_accepted T S (4294967295 - S) (balance_cells f cs ws).cells (balance_cells f cs ws).words types (omega arith)
    (balance_keeps f T (4294967295 - S) cs ws (accepted_kept T S ws short fits cs h))

-- It lists the same; where place 0 of the set is none, with id 0 left out of lines and of depth.
pub balanced_lists : (T F S : ℕ) (cs ws : List ℕ) → S ≤ 4294967295 → Short ws → bad_cell T S cs ws ≡ None
    → list_cells F S (balance_cells false cs ws).cells (balance_cells false cs ws).words ≡ list_cells F S cs ws
balanced_lists T F S cs ws fits short h = balance_lists T (4294967295 - S) cs ws (accepted_kept T S ws short fits cs h) F S

pub balanced_lists_counted : (f : Bool) (T F S : ℕ) (cs ws : List ℕ) → S ≤ 4294967295 → Short ws → bad_cell T S cs ws ≡ None
    → list_counted f F S (balance_cells f cs ws).cells (balance_cells f cs ws).words ≡ list_counted f F S cs ws
balanced_lists_counted f T F S cs ws fits short h = balance_lists_counted f T (4294967295 - S) cs ws (accepted_kept T S ws short fits cs h) F S

-- accepted cells are as many as the trees and parts that they are read as
pub accepted_size : (T S : ℕ) (cs ws : List ℕ) → S ≤ 4294967295 → Short ws → bad_cell T S cs ws ≡ None → length cs ≡ cell_width * nodes (decode ws cs)
accepted_size T S cs ws fits short h = ap length (sym (accepted_decode T S ws short fits cs h).0) ∙ length_cells 1 0 (decode ws cs)

-- What build writes of an accepted list is accepted by materialise, and from S by listing; so is what materialise writes of it.
module _ (T F b S top : ℕ) (given : Option ℕ) (list : List ℕ) (fits : S ≤ 4294967295) (a : Accepted T b top S list) where
  abbrev built : Written
  built = build_cells F b S top given (parse list)

  ends : S + (behind S (parse list) - S) ≤ 4294967295
  ends = omega (arith, (ends_fit T F b S top given list fits a).1)

  pub build_accepted : bad_cell T 0 built.cells built.words ≡ None
  build_accepted =
      kept_accepted T 0 (behind S (parse list) - S) built.cells built.words a.types (omega (arith, ends))
      (build_kept T F b S top given list fits a)

  pub built_listable : bad_cell T S built.cells built.words ≡ None
  built_listable = kept_accepted T S (behind S (parse list) - S) built.cells built.words a.types ends (build_kept T F b S top given list fits a)

  pub materialise_accepted : bad_cell T S (materialise_cells built.cells built.words) [] ≡ None
  materialise_accepted =
      kept_accepted T S (behind S (parse list) - S) (materialise_cells built.cells built.words) [] a.types ends
      (materialise_kept T F b S top given list fits a)

-- A run of demand 3 by its calls, in either form: lent what 11, 12 and 14 ask, neither materialise on what the build wrote nor listing on
-- what materialise or the build wrote is refused, and they write the cells and lines of the run. Assumes nothing.
use mathlib.Core.Path.{◌≡◌, ap, ◌∙◌}
use mathlib.Core.List.{List, [], ◌∷◌}
use Prim.Native.Nat.{ℕ, ◌+◌, ◌*◌, ◌/◌, ◌≤◌}
use native.Mathlib.Omega.{arith}
use lib.ListN.{length}
use Rattle.words.specs.Outcome.{accepted}
use Rattle.words.specs.Words.{front}
use Rattle.tree.specs.Trees.{nodes}
use Rattle.tree.specs.Materialise.{materialise}
use Rattle.tree.specs.Cells.{cell_width}
use Rattle.tree.specs.Calls.{materialise_cells}
use Rattle.tree.specs.Run.{Run, Form, materialising, straight, built, materialised, listed}
use Rattle.tree.proofs.CellLaws.{length_tree_cells}
use Rattle.tree.proofs.RunLaws.{materialised_cells, listed_lines}
use Rattle.tree.specs.Listing.{line_width}
use Rattle.rules.specs.Calls.{items, handed_in, materialise_call, list_call}
use Rattle.rules.proofs.CallLaws.{run_materialises, run_lists, run_lists_straight}

module _ (F S : ℕ) (fits : S ≤ 4294967295) (r : Run F S) where
  -- a cell is written for each tree
  sized : length (materialised F S r) ≡ cell_width * nodes (materialise (handed_in (built F S r).cells (built F S r).words))
  unfolding materialised materialise_cells handed_in
  sized = length_tree_cells 0 (materialise (handed_in (built F S r).cells (built F S r).words))

  pub run_materialised : (work : ℕ) (out : List ℕ) → 96 * items (built F S r).cells (built F S r).words + 96 ≤ work → length (materialised F S r) ≤ length out
      → materialise_call r.types (built F S r).cells (built F S r).words work out ≡ record {
        outcome = accepted (length (materialised F S r) / cell_width ∷ 0 ∷ []);
        outputs = front (materialised F S r) out ∷ [];
      }
  unfolding materialised built
  run_materialised work out lent room =
      let n = nodes (materialise (handed_in (built F S r).cells (built F S r).words)) in
      let same : n ≡ length (materialised F S r) / cell_width = omega (arith, sized) in
      run_materialises r.types F r.bound S r.top r.given r.records fits r.accepted work out lent
      (omega (arith, sized, materialised_cells F S fits r, r.accepted.few)) (omega (arith, sized))
      ∙ ap (λ (k : ℕ). record { outcome = accepted (k ∷ 0 ∷ []); outputs = front (materialised F S r) out ∷ [] }) same

  -- the lines are no more than the records, which are at most 1,048,576
  few_listed : (f : Form) → length (listed F S r f) / line_width ≤ 4294967295
  few_listed f = omega (arith, listed_lines F S fits r f, r.accepted.few)

  pub run_listed : (work : ℕ) (out : List ℕ) → 96 * items (materialised F S r) [] + 96 ≤ work → length (listed F S r materialising) ≤ length out
      → list_call r.types F S (materialised F S r) [] work out ≡ record {
        outcome = accepted (length (listed F S r materialising) / line_width ∷ []);
        outputs = front (listed F S r materialising) out ∷ [];
      }
  unfolding listed materialised built
  run_listed work out lent room =
      run_lists r.types F r.bound S r.top r.given r.records fits r.accepted work out lent (few_listed materialising) room

  pub run_listed_straight : (work : ℕ) (out : List ℕ) → 96 * items (built F S r).cells (built F S r).words + 96 ≤ work → length (listed F S r straight) ≤ length out
      → list_call r.types F S (built F S r).cells (built F S r).words work out ≡ record {
        outcome = accepted (length (listed F S r straight) / line_width ∷ []);
        outputs = front (listed F S r straight) out ∷ [];
      }
  unfolding listed built
  run_listed_straight work out lent room =
      run_lists_straight r.types F r.bound S r.top r.given r.records fits r.accepted work out lent (few_listed straight) room

-- Demand 3. Two runs, each with its own type count, length bound, top id, given length and accepted list nested at most
-- 2,503 levels, and with the same first repeat id F and build start S. By the theorem on trees and the laws of cells.
-- Assumes nothing.
use mathlib.Core.Path.{◌≡◌, sym, ap₂, ◌∙◌}
use mathlib.Core.Logic.{◌↔◌}
use Prim.Native.Nat.{ℕ, ◌≤◌}
use Rattle.records.specs.Parse.{parse}
use Rattle.records.proofs.AcceptLaws.{accepted_nested}
use Rattle.tree.specs.Calls.{list_cells}
use Rattle.tree.specs.Run.{Run, Form, materialising, straight, built, materialised, listed, read}
use Rattle.tree.proofs.BuiltReading.{tree_lines, lines_are_reading}
use Rattle.tree.proofs.KeptLaws.{cells_give_lines, trees_give_lines}

module _ (F S : ℕ) (fits : S ≤ 4294967295) where
  -- the lines of the built tree are the reading of the list
  tree_reads : (r : Run F S) → tree_lines F r.bound S r.top r.given (parse r.records) ≡ read F S r
  unfolding read
  tree_reads r =
      let n = accepted_nested r.types r.bound r.top S r.records r.accepted fits in
      lines_are_reading r.types F r.bound S r.top r.given (parse r.records) 4294967295 n r.nested

  -- each listing is the reading of its own list, in either form of the run
  pub one_run : (r : Run F S) (f : Form) → listed F S r f ≡ read F S r
  unfolding listed materialised built
  one_run r materialising = trees_give_lines r.types F r.bound S r.top r.given r.records fits r.accepted ∙ tree_reads r
  one_run r straight = cells_give_lines r.types F r.bound S r.top r.given r.records fits r.accepted ∙ tree_reads r

  -- the same cells and packed words give the same lines
  same_built : (A B : Run F S) → (built F S A).cells ≡ (built F S B).cells → (built F S A).words ≡ (built F S B).words → listed F S A straight ≡ listed F S B straight
  unfolding listed
  same_built A B c w = ap₂ (list_cells F S) c w

  -- Two runs, each in a form of its own: each listing is the reading of its own list; the lines are the same exactly when the readings
  -- are; and where the readings differ, the cells and packed words that the builds wrote are not the same.
  pub two_runs : (A B : Run F S) (f g : Form)
      → (listed F S A f ≡ read F S A) × (listed F S B g ≡ read F S B)
      × ((listed F S A f ≡ listed F S B g) ↔ (read F S A ≡ read F S B))
      × ((read F S A ≡ read F S B → ⊥) → ((built F S A).cells ≡ (built F S B).cells) × ((built F S A).words ≡ (built F S B).words) → ⊥)
  two_runs A B f g =
      let one = one_run A f in
      let two = one_run B g in (
        one,
        two,
        (λ e. sym one ∙ (e ∙ two), λ e. one ∙ (e ∙ sym two)),
        λ differ same. differ (sym (one_run A straight) ∙ (same_built A B same.0 same.1 ∙ one_run B straight)),
      )

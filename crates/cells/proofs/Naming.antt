-- A cell by its number, 0 for none. Assumes nothing.
use Rattle.std.proofs.Common.{◌≡◌, ℕ, ◌+◌, None, Some}
use mathlib.Core.Path.{ap, ◌∙◌, refl}
use native.Mathlib.Numerals.{unary_clauses}
use Rattle.cells.specs.Steps.{cell_or_none}

pub named_none : {c : ℕ} → 0 ≡ c → None ≡ cell_or_none c
unfolding cell_or_none
named_none e = ap cell_or_none e

pub named_some : (i : ℕ) {c : ℕ} → i + 1 ≡ c → Some (i + 1) ≡ cell_or_none c
unfolding cell_or_none
named_some i e = step ∙ ap cell_or_none e
  where
    step : Some (i + 1) ≡ cell_or_none (i + 1)
    step = simp unary_clauses refl

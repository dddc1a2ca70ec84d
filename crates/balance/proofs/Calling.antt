-- The call where none of its first three tests refuses: too many items, and what it writes. Assumes nothing.
use mathlib.Core.Path.{◌≡◌, refl, sym, ◌∙◌}
use mathlib.Core.Bool.{Bool}
use mathlib.Core.List.{List, [], ◌∷◌}
use Prim.Native.Nat.{ℕ, ◌+◌, ◌/◌, ◌≤◌, ◌<◌}
use native.Mathlib.Omega.{arith}
use lib.ListN.{length, get_or}
use Rattle.tree.specs.Cells.{cell_width}
use Rattle.words.specs.Outcome.{refused, Result}
use Rattle.tree.specs.Balance.{balanced}
use Rattle.tree.specs.Calls.{written, balance_cells}
use Rattle.rules.specs.Calls.{items, most_items, handed_in, balance_call}
use Rattle.rules.proofs.CallLaws.{balance_many, balance_settles}
use Rattle.cells.specs.Accept.{Passed}
use Rattle.balance.specs.Steps.{settled_tree, Lent}

pub items_are : (cs ws : List ℕ) → items cs ws ≡ length cs / cell_width + length ws / 4
unfolding items
items_are cs ws = refl

module _ (T : ℕ) (f : Bool) (cs ws : List ℕ) (work : ℕ) (out words : List ℕ) where
  module _ (p : Passed T 0 cs ws work) where
    pub refuses_many : most_items < length cs / cell_width + length ws / 4 → record { outcome = refused 12 0; outputs = out ∷ words ∷ [] } ≡ balance_call T f cs ws work out words
    refuses_many h = sym (balance_many T p.types cs ws work out f words p.cells p.lent (omega (arith, items_are cs ws)))

    module _ (few : length cs / cell_width + length ws / 4 ≤ most_items) where
      most : items cs ws ≤ most_items
      most = omega (arith, items_are cs ws)

      pub ready : (room : ℕ) → room ≡ work → ((j : ℕ) → get_or ws j 0 < 65536) → Lent cs ws room
      ready room e short = record {
        given = record { types = T; accepted = p.cells; short = short; whole = refl };
        most = few;
        lent = omega (arith, p.lent, items_are cs ws);
      }

      pub settles : (r : Result) → r ≡ settled_tree (balanced f (handed_in cs ws)) out words → r ≡ balance_call T f cs ws work out words
      unfolding settled_tree balance_cells written handed_in
      settles r e = e ∙ sym (balance_settles T p.types cs ws work out f words p.cells p.lent most)

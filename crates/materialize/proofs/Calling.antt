-- The call where none of its first three tests refuses: 12, and what it writes. Assumes nothing.
use mathlib.Core.Path.{◌≡◌, sym}
use mathlib.Core.Bool.{false}
use mathlib.Core.List.{List, [], ◌∷◌}
use Rattle.std.specs.Prelude.{None}
use Prim.Native.Nat.{ℕ, ◌+◌, ◌*◌, ◌/◌, ◌≤◌, ◌<◌}
use native.Mathlib.Omega.{arith}
use borrow.Author.Tests.{ltb-false}
use lib.Dec.{ltb}
use lib.ListN.{length, get_or}
use mir.Val.{Fits}
use mir.Syntax.{w16}
use Rattle.rules.proofs.PartRead.{short_of}
use Rattle.words.specs.Outcome.{accepted, refused}
use Rattle.words.specs.Words.{front}
use Rattle.tree.specs.Trees.{nodes}
use Rattle.tree.specs.Materialise.{materialise}
use Rattle.tree.specs.Cells.{cells, cell_width}
use Rattle.rules.specs.Lowest.{bad_cell}
use Rattle.rules.specs.Calls.{items, result_room, handed_in, materialise_call}
use Rattle.rules.proofs.CallLaws.{not_refused, unnumbered_cells, few_cells, materialise_writes}
use Rattle.cells.specs.Accept.{Passed}
use Rattle.materialize.specs.Steps.{cells_before, unpacked, ahead, Ready}
use Rattle.materialize.proofs.Accepting.{typed_at, parts_fit, total_is, total_few, written_is}

call_refused : (T : ℕ) (cs ws : List ℕ) (work : ℕ) (out : List ℕ) → T ≤ 65536 → 96 * items cs ws + 96 ≤ work → bad_cell T 0 cs ws ≡ None
    → result_room (nodes (materialise (handed_in cs ws))) 0 (length out) 0 ≡ refused 12 0
    → materialise_call T cs ws work out ≡ record { outcome = refused 12 0; outputs = out ∷ [] }
unfolding materialise_call
call_refused T cs ws work out types lent ok r =
    rw (not_refused T 0 cs ws work (result_room (nodes (materialise (handed_in cs ws))) 0 (length out) 0) types lent ok, r)

cells_few : (cs ws : List ℕ) → length cs / cell_width ≤ items cs ws
unfolding items
cells_few cs ws = omega arith

module _ (T : ℕ) (cs ws : List ℕ) (work : ℕ) (out : List ℕ) where
  -- what the call hands back with a refusal
  abbrev Refuses : (number place : ℕ) → Type 0
  Refuses number place = record { outcome = refused number place; outputs = out ∷ [] } ≡ materialise_call T cs ws work out

  module _ (p : Passed T 0 cs ws work) where
    abbrev total : ℕ
    total = cells_before cs (length cs / cell_width)

    n_is : total ≡ nodes (materialise (handed_in cs ws))
    n_is = total_is T cs ws p.cells

    -- more cells than 32-bit words can number
    pub many_cells : 4294967295 < total → Refuses 12 0
    many_cells h = sym (call_refused T cs ws work out p.types p.lent p.cells (unnumbered_cells (nodes (materialise (handed_in cs ws))) 0 (length out) 0 (omega (arith, n_is))))

    module _ (words : (j : ℕ) → Fits w16 (get_or ws j 0)) where
      total_fits : total + length cs / cell_width ≤ work
      total_fits = omega (arith, total_few T cs ws p.cells (short_of ws (λ j. omega (arith, words j))), p.lent, cells_few cs ws)

      pub total_small : work ≤ 18446744073709551615 → total ≤ 18446744073709551615
      total_small h = omega (arith, total_fits)

      pub total_inside : (size n : ℕ) → size ≡ work → n ≡ total → n ≤ size
      total_inside size n e h = omega (arith, total_fits)

    module _ (few : total ≤ 4294967295) where
      pub little_room : length out / cell_width < total → Refuses 12 0
      little_room h =
          sym (call_refused T cs ws work out p.types p.lent p.cells (few_cells (nodes (materialise (handed_in cs ws))) 0 (length out) 0 (omega (arith, n_is)) (omega (arith, n_is))))

      module _ {n : ℕ} (n_total : n ≡ total) (room : n ≤ length out / cell_width) where
        pub all_written : (out₂ : List ℕ) → out₂ ≡ front (cells 1 0 (unpacked (ahead cs ws 0))) out
            → record { outcome = accepted (n ∷ 0 ∷ []); outputs = out₂ ∷ [] } ≡ materialise_call T cs ws work out
        all_written out₂ e =
            rw (e, written_is T cs ws p.cells, n_total, n_is) (sym (materialise_writes T p.types cs ws work out p.cells p.lent (omega (arith, n_is)) (omega (arith, n_is))))

        pub ready : ((j : ℕ) → Fits w16 (get_or ws j 0)) → {size : ℕ} → size ≡ work → (roots marks : List ℕ) → length roots ≡ n → length marks + n ≡ size → Ready roots marks out cs ws
        ready words {size} same roots marks e f = record {
          total_is = omega arith;
          room = record { wide = omega arith; deep = omega arith; few = omega arith };
          deep = omega (arith, total_fits words);
          parts = parts_fit T cs ws p.cells;
          typed = typed_at T cs ws p.cells;
        }

-- more cells than 32-bit words can number
pub many_refused : (T : ℕ) (cs ws : List ℕ) (work : ℕ) (out : List ℕ) → T ≤ 65536 → ltb work (96 * items cs ws + 96) ≡ false → bad_cell T 0 cs ws ≡ None
    → 4294967295 < cells_before cs (length cs / cell_width) → record { outcome = refused 12 0; outputs = out ∷ [] } ≡ materialise_call T cs ws work out
many_refused T cs ws work out types enough ok h =
    many_cells T cs ws work out (record { types = types; lent = ltb-false work (96 * items cs ws + 96) enough; cells = ok }) h

-- The call `list` where none of its first three tests refuses: 14, and what it writes. Assumes nothing.
use mathlib.Core.Path.{◌≡◌, sym}
use mathlib.Core.Bool.{false}
use mathlib.Core.List.{List, [], ◌∷◌}
use Rattle.std.specs.Prelude.{None}
use Prim.Native.Nat.{ℕ, ◌+◌, ◌-◌, ◌*◌, ◌/◌, ◌≤◌, ◌<◌}
use native.Mathlib.Omega.{arith}
use borrow.Author.Tests.{ltb-false}
use lib.Dec.{ltb}
use lib.ListN.{length, get_or}
use mir.Val.{Fits}
use mir.Syntax.{w16}
use Rattle.rules.proofs.PartRead.{short_of}
use Rattle.tree.specs.Cells.{cell_width}
use Rattle.tree.specs.Well.{Short}
use Rattle.words.specs.Outcome.{accepted, refused, Result}
use Rattle.words.specs.Words.{front}
use Rattle.tree.specs.Calls.{list_cells}
use Rattle.rules.specs.Lowest.{bad_cell}
use Rattle.rules.specs.Calls.{items, lines_room, list_call}
use Rattle.rules.proofs.CallLaws.{not_refused, many_lines, few_lines, list_writes}
use Rattle.cells.specs.Accept.{Passed}
use Rattle.part_lines.specs.Steps.{listed_in}
use Rattle.listing.specs.Steps.{lines_from, Lent}
use Rattle.listing.proofs.Begins.{Begun, begun, line_count}

module _ (T F S : ℕ) (cs ws : List ℕ) (work : ℕ) (out : List ℕ) where
  -- what the call hands back with a refusal
  abbrev Refuses : (number place : ℕ) → Type 0
  Refuses number place = ◌≡◌ {A = Result} (record { outcome = refused number place; outputs = out ∷ [] }) (list_call T F S cs ws work out)

  module _ (p : Passed T S cs ws work) where
    pub notes_inside : (size : ℕ) → size ≡ work → length cs / cell_width * 2 ≤ size
    unfolding items
    notes_inside size e = omega (arith, p.lent)

    module _ (fits : S < 4294967296) (words : (j : ℕ) → Fits w16 (get_or ws j 0)) where
      short : Short ws
      short = short_of ws (λ j. omega (arith, words j))

      abbrev begins : Begun T F S cs ws
      begins = begun T F S cs ws p.types (omega arith) short p.cells

      whole_cells : length cs / cell_width * cell_width ≡ length cs
      whole_cells = omega (arith, begins.size)

      -- the lines of the cells and those of the packed records
      abbrev total : ℕ
      total = lines_from F cs 1 (length cs / cell_width - 1) + listed_in F ws

      size_is : length (list_cells F S cs ws) ≡ total * 4
      size_is = line_count T F S cs ws begins (length cs / cell_width) whole_cells

      refuses : lines_room (length (list_cells F S cs ws)) (length out) ≡ refused 14 0 → Refuses 14 0
      unfolding list_call
      refuses h = rw (not_refused T S cs ws work (lines_room (length (list_cells F S cs ws)) (length out)) p.types p.lent p.cells, h)

      pub too_many : 4294967295 < total → Refuses 14 0
      too_many h = refuses (many_lines (length (list_cells F S cs ws)) (length out) (omega (arith, size_is)))

      pub little_room : length out / 4 < total → Refuses 14 0
      little_room h = refuses (few_lines (length (list_cells F S cs ws)) (length out) (omega (arith, size_is)))

      module _ {count : ℕ} (counted : count ≡ total) (few : count ≤ 4294967295) (room : count ≤ length out / 4) where
        pub all_written : (out' : List ℕ) → out' ≡ front (list_cells F S cs ws) out
            → ◌≡◌ {A = Result} (record { outcome = accepted (count ∷ []); outputs = out' ∷ [] }) (list_call T F S cs ws work out)
        all_written out' h =
            let e : length (list_cells F S cs ws) / 4 ≡ count = omega (arith, size_is) in
            sym (rw (e, sym h) at (list_writes T p.types cs ws work out F S p.cells p.lent (omega (arith, size_is)) (omega (arith, size_is))))

        pub all_lent : {size notes ends : ℕ} → size ≡ work → notes ≡ length cs / cell_width * 2 → ends + length cs / cell_width * 2 ≡ size → Lent F S cs ws notes ends (length out)
        unfolding items
        all_lent same e f = record {
          types = T;
          types_fit = p.types;
          fits = omega arith;
          short = short;
          whole = whole_cells;
          accepted = p.cells;
          notes_fit = omega arith;
          ends_fit = omega (arith, p.lent);
          few = omega (arith, size_is);
          lines_fit = omega (arith, size_is);
        }

-- more lines than the slice has room for
pub room_refused : (T F S : ℕ) (cs ws : List ℕ) (work : ℕ) (out : List ℕ) → T ≤ 65536 → ltb work (96 * items cs ws + 96) ≡ false → S < 4294967296
    → ((j : ℕ) → Fits w16 (get_or ws j 0)) → bad_cell T S cs ws ≡ None → length out / 4 < lines_from F cs 1 (length cs / 7 - 1) + listed_in F ws
    → record { outcome = refused 14 0; outputs = out ∷ [] } ≡ list_call T F S cs ws work out
room_refused T F S cs ws work out types enough fits words ok h =
    little_room T F S cs ws work out (record { types = types; lent = ltb-false work (96 * items cs ws + 96) enough; cells = ok }) fits words h

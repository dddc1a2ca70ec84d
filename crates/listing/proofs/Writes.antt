-- One cell's lines counted and written, and the pass that writes the lines from its beginning to its end. Assumes nothing.
use mathlib.Core.Path.{◌≡◌, sym, ap, ◌∙◌}
use mathlib.Core.Bool.{Bool, true, false, cond}
use mathlib.Core.List.{List, [], ◌∷◌}
use Prim.Native.Nat.{ℕ, zero, suc, ◌+◌, ◌-◌, ◌*◌, ◌/◌, ◌≤◌, ◌<◌}
use native.Mathlib.Omega.{arith}
use lib.ListN.{length, get_or, length-append}
use Rattle.tree.specs.Cells.{cell_width, cell_kind, cell_id, cell_position, cell_length, cell_next, part_at}
use Rattle.tree.specs.Calls.{list_cells}
use Rattle.words.specs.Words.{put, front}
use Rattle.words.proofs.Runs.{Fronted, fronted_none, fronted_length, fronted_next, fronted_all}
use Rattle.rules.proofs.PartRead.{short_parts}
use Rattle.part_lines.proofs.Counts.{length_listed}
use Rattle.listing.specs.Steps.{is_listed, own_line, cell_lines, lines_from, noted, child_of, links_noted, Ready, PartLinesReady, CellReady, Lent}
use Rattle.listing.proofs.Lines.{lines_other, lines_part}
use Rattle.listing.proofs.Turns.{State, Turn, PartHere, turn, state_end, noted_length}
use Rattle.listing.proofs.Begins.{Begun, begun, first_room, state_first}

-- one step of the count
module _ (F : ℕ) (cs : List ℕ) (i n : ℕ) where
  lines_step : i < n → lines_from F cs i (n - i) ≡ cond (is_listed F cs i) (lines_from F cs (i + 1) (n - (i + 1)) + 1) (lines_from F cs (i + 1) (n - (i + 1)))
  unfolding lines_from
  lines_step l = let e : n - i ≡ suc (n - (i + 1)) = omega arith in rw e

  pub count_hit : i < n → is_listed F cs i ≡ true → lines_from F cs i (n - i) ≡ lines_from F cs (i + 1) (n - (i + 1)) + 1
  count_hit l h = rw h at (lines_step l)

  pub count_miss : i < n → is_listed F cs i ≡ false → lines_from F cs i (n - i) ≡ lines_from F cs (i + 1) (n - (i + 1))
  count_miss l h = rw h at (lines_step l)

  pub count_end : n ≤ i → lines_from F cs i (n - i) ≡ 0
  unfolding lines_from
  count_end l = let e : n - i ≡ 0 = omega arith in rw e

-- at most one for each cell
pub lines_few : (F : ℕ) (cs : List ℕ) (i left : ℕ) → lines_from F cs i left ≤ left
unfolding lines_from
lines_few F cs i zero = omega arith
lines_few F cs i (suc left) = go (is_listed F cs i) (lines_few F cs (i + 1) left)
  where
    go : (x : Bool) → lines_from F cs (i + 1) left ≤ left → cond x (lines_from F cs (i + 1) left + 1) (lines_from F cs (i + 1) left) ≤ suc left
    go true h = omega arith
    go false h = omega arith

-- the line of one cell
module _ (F : ℕ) (cs : List ℕ) (i q d : ℕ) where
  pub own_some : is_listed F cs i ≡ true → own_line F cs i q d ≡ d ∷ cell_id cs i ∷ (q + cell_position cs i) ∷ (q + cell_position cs i + cell_length cs i) ∷ []
  unfolding own_line
  own_some h = rw h

  own_none : is_listed F cs i ≡ false → own_line F cs i q d ≡ []
  unfolding own_line
  own_none h = rw h

  pub four_words : is_listed F cs i ≡ true → length (own_line F cs i q d) ≡ 4
  four_words h = ap length (own_some h)

  pub no_words : is_listed F cs i ≡ false → length (own_line F cs i q d) ≡ 0
  no_words h = ap length (own_none h)

  pub front_none : (out : List ℕ) → is_listed F cs i ≡ false → out ≡ front (own_line F cs i q d) out
  front_none out h = ap (λ (v : List ℕ). front v out) (sym (own_none h))

-- The pass before cell i, with `at` words written; m words are for notes.
pub record Pass (F S : ℕ) (cs ws out₀ out held : List ℕ) (m ends at i : ℕ) : Type 0 where
  pub lent : Lent F S cs ws m ends (length out₀)
  pub rest : List ℕ
  pub written : Fronted (list_cells F S cs ws) out₀ out rest at
  pub state : State lent.types F cs ws held m at i rest
  pub sized : length held ≡ m

module _ {F S : ℕ} {cs ws : List ℕ} {notes ends room : ℕ} (lent : Lent F S cs ws notes ends room) where
  abbrev begins : Begun lent.types F S cs ws
  begins = begun lent.types F S cs ws lent.types_fit lent.fits lent.short lent.accepted

  pub top_fits : 7 ≤ length cs
  top_fits = omega (arith, begins.size)

  pub first_fits : get_or cs 4 0 * 2 ≤ notes
  first_fits = omega (arith, first_room lent.types F S cs ws begins, lent.whole, lent.notes_fit)

pub pass_first : {F S : ℕ} {cs ws : List ℕ} {notes ends : ℕ} (out held : List ℕ) {held' : List ℕ} → Lent F S cs ws notes ends (length out)
    → held' ≡ noted held (get_or cs 4 0) S 0 → length held ≡ notes → get_or cs 4 0 ≤ 4294967295 → Pass F S cs ws out out held' notes ends 0 1
pass_first {F} {S} {cs} {ws} {notes} out held lent h e k =
    rw h (record {
      lent = lent;
      rest = list_cells F S cs ws;
      written = fronted_none (list_cells F S cs ws) out;
      state = state_first lent.types F S cs ws (begins lent) held notes (omega (arith, e)) (first_fits lent) k;
      sized = noted_length held (get_or cs 4 0) S 0 ∙ e;
    })

-- What a turn at cell i finds: q and d are the words noted for it.
pub record Found (F S : ℕ) (cs ws out₀ out held : List ℕ) (m ends at i q d : ℕ) : Type 0 where
  pub notes_fit : i * 2 + 2 ≤ m
  pub ready : Ready cs i q d
  pub cell_ready : (room : ℕ) → room ≡ length out - at → CellReady F cs ws i q d ends room
  pub links_fit : (child_of cs i * 2 ≤ m) × (cell_next cs i * 2 ≤ m)
  pub goes_on : (out' held' : List ℕ) (at' : ℕ) → at' ≡ at + length (cell_lines F cs ws i q d) → out' ≡ put out at (cell_lines F cs ws i q d)
      → held' ≡ links_noted F cs held i q d → child_of cs i ≤ 4294967295 → cell_next cs i ≤ 4294967295 → Pass F S cs ws out₀ out' held' m ends at' (i + 1)

links_length : (F : ℕ) (cs held : List ℕ) (i q d : ℕ) → length (links_noted F cs held i q d) ≡ length held
unfolding links_noted
links_length F cs held i q d =
    noted_length (noted held (cell_next cs i) q d) (child_of cs i) (q + cell_position cs i) (cond (is_listed F cs i) (d + 1) d)
    ∙ noted_length held (cell_next cs i) q d

module _ {F S : ℕ} {cs ws : List ℕ} {notes ends : ℕ} {out₀ out held : List ℕ} {at i : ℕ} (p : Pass F S cs ws out₀ out held notes ends at i) where
  abbrev T : ℕ
  T = p.lent.types

  -- what is written and what is still to be written have room
  fills : at + length p.rest ≡ length (list_cells F S cs ws)
  fills =
      let w = p.written in
      let e = sym (length-append w.done p.rest) ∙ ap length w.joined in
      omega (arith, e, w.size)

  pub out_length : length out ≡ length out₀
  out_length = fronted_length (list_cells F S cs ws) out₀ out p.rest at p.written (omega (arith, fills, p.lent.lines_fit))

  pub at_fits : at ≤ length out
  at_fits = omega (arith, fills, p.lent.lines_fit, out_length)

  pub pass_end : length cs / cell_width ≤ i → out ≡ front (list_cells F S cs ws) out₀
  pass_end l = fronted_all (list_cells F S cs ws) out₀ out p.rest at p.written (state_end T F cs ws held notes at i p.rest (omega (arith, p.lent.whole)) p.state)

  module _ (l : i < length cs / cell_width) where
    abbrev q : ℕ
    q = get_or held (i * 2) 0

    abbrev d : ℕ
    d = get_or held (i * 2 + 1) 0

    abbrev found : Turn T F cs ws held notes at i p.rest q d
    found = turn T F cs ws held notes at i p.rest (omega (arith, p.lent.whole)) p.state

    split : length p.rest ≡ length (cell_lines F cs ws i q d) + length found.later
    split = ap length found.splits ∙ length-append (cell_lines F cs ws i q d) found.later

    ready_here : Ready cs i q d
    ready_here = record { inside = omega (arith, p.lent.whole); ends = found.ends; shallow = found.shallow }

    part_ready : cell_kind cs i ≡ 2 → PartLinesReady F cs ws i q d ends (length out - at)
    part_ready is =
        let here : PartHere T cs ws i = found.packed_here is in
        let same = ap length (lines_part F cs ws i q d is) ∙ length_listed F (q + cell_position cs i) d (part_at cs ws i) in
        record {
          is = is;
          ready = ready_here;
          inside = here.inside;
          lent = record {
            types = T;
            len = cell_length cs i;
            parts = λ at'. short_parts T at' (cell_length cs i) (part_at cs ws i) here.short here.kept;
            end_fits = found.ends;
            ends_fit = omega (arith, here.few, p.lent.ends_fit);
            lines_fit = omega (arith, same, split, fills, p.lent.lines_fit, out_length);
            shallow = omega (arith, same, split, fills, p.lent.few, found.above);
          };
        }

    pub pass_turn : Found F S cs ws out₀ out held notes ends at i q d
    pass_turn =
        let first : child_of cs i * 2 ≤ notes = omega (arith, found.first_room, p.lent.whole, p.lent.notes_fit) in
        let next : cell_next cs i * 2 ≤ notes = omega (arith, found.next_room, p.lent.whole, p.lent.notes_fit) in
        record {
          notes_fit = found.notes_fit;
          ready = ready_here;
          cell_ready = λ room e. rw e (record {
            inside = ready_here.inside;
            line = λ other. record { ready = ready_here; fits = omega (arith, ap length (lines_other F cs ws i q d other), split, fills, p.lent.lines_fit, out_length) };
            packed = part_ready;
          });
          links_fit = (first, next);
          goes_on = λ out' held' at' a o h m₁ m₂.
              rw h (record {
                lent = p.lent;
                rest = found.later;
                written = fronted_next (list_cells F S cs ws) out₀ out p.rest at p.written (cell_lines F cs ws i q d) found.later out' at' (sym a) found.splits o;
                state = found.goes_on at' a (omega (arith, p.sized)) first next m₁ m₂;
                sized = links_length F cs held i q d ∙ p.sized;
              });
        }

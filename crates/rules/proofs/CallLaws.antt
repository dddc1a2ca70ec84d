-- The tree calls, refusal by refusal in their order; and that a run is refused nowhere: what build writes of an accepted list goes
-- through listing and through materialise, and what that writes through listing, where enough is lent. Assumes nothing.
use mathlib.Core.Path.{◌≡◌, refl, sym, ap, ◌∙◌}
use mathlib.Core.Bool.{Bool, true, false, cond}
use mathlib.Core.List.{List, [], ◌∷◌}
use Rattle.std.specs.Prelude.{Option, None, Some}
use Prim.Native.Nat.{ℕ, ◌+◌, ◌*◌, ◌/◌, ◌≤◌, ◌<◌}
use native.Mathlib.Omega.{arith}
use borrow.Author.Tests.{le-ltb, lt-ltb}
use lib.Dec.{ltb}
use lib.ListN.{length}
use Rattle.words.specs.Outcome.{Outcome, accepted, refused, settled, Result, number_of, place_of}
use Rattle.words.specs.Words.{front}
use Rattle.words.specs.Refusal.{refused_by}
use Rattle.words.specs.declared.refusal.Refusal.{Refusal}
use Rattle.words.proofs.Refusals.{told}
use Rattle.records.specs.Parse.{parse}
use Rattle.records.specs.Check.{Accepted}
use Rattle.tree.specs.Trees.{nodes}
use Rattle.tree.specs.Materialise.{materialise}
use Rattle.tree.specs.Balance.{balanced}
use Rattle.tree.specs.Cells.{cell_width}
use Rattle.tree.specs.Calls.{Written, build_cells, materialise_cells, balance_cells, list_cells}
use Rattle.rules.specs.Lowest.{bad_cell}
use Rattle.tree.specs.Listing.{line_width}
use Rattle.rules.specs.Calls.{items, unless_bad, result_room, lines_room, handed_in, materialise_call, most_items, balance_room, balance_call, list_call}
use Rattle.rules.proofs.Accepted.{build_accepted, built_listable, materialise_accepted}
use Rattle.tree.proofs.CallLaws.{cells_short, words_short, room_enough}

-- the refusals that all tree calls have
module _ (T S : ℕ) (cs ws : List ℕ) (work : ℕ) (next : Outcome) where
  pub types_refused : 65536 < T → unless_bad T S cs ws work next ≡ refused 1 0
  unfolding unless_bad
  types_refused h = rw (lt-ltb 65536 T h)

  module _ (types : T ≤ 65536) where
    pub work_refused : work < 96 * items cs ws + 96 → unless_bad T S cs ws work next ≡ refused 11 0
    unfolding unless_bad
    work_refused h = rw (le-ltb 65536 T types, lt-ltb work (96 * items cs ws + 96) h)

    module _ (lent : 96 * items cs ws + 96 ≤ work) where
      pub cell_refused : (c : ℕ) → bad_cell T S cs ws ≡ Some c → unless_bad T S cs ws work next ≡ refused 15 c
      unfolding unless_bad
      cell_refused c h = rw (le-ltb 65536 T types, le-ltb work (96 * items cs ws + 96) lent, h)

      pub not_refused : bad_cell T S cs ws ≡ None → unless_bad T S cs ws work next ≡ next
      unfolding unless_bad
      not_refused h = rw (le-ltb 65536 T types, le-ltb work (96 * items cs ws + 96) lent, h)

-- the size of the result decides 12, 13 and 14
pub unnumbered_cells : (n w cells words : ℕ) → 4294967295 < n → result_room n w cells words ≡ refused 12 0
unfolding result_room
unnumbered_cells n w cells words h = rw (lt-ltb 4294967295 n h)

pub few_cells : (n w cells words : ℕ) → n ≤ 4294967295 → cells < cell_width * n → result_room n w cells words ≡ refused 12 0
unfolding result_room
few_cells n w cells words m h = rw (le-ltb 4294967295 n m) (cells_short n w cells words h)

pub few_words : (n w cells words : ℕ) → n ≤ 4294967295 → cell_width * n ≤ cells → words < w → result_room n w cells words ≡ refused 13 0
unfolding result_room
few_words n w cells words m h k = rw (le-ltb 4294967295 n m) (words_short n w cells words h k)

pub enough : (n w cells words : ℕ) → n ≤ 4294967295 → cell_width * n ≤ cells → w ≤ words → result_room n w cells words ≡ accepted (n ∷ w ∷ [])
unfolding result_room
enough n w cells words m h k = rw (le-ltb 4294967295 n m) (room_enough n w cells words h k)

pub many_items : (f : Bool) (cs ws : List ℕ) (cells words : ℕ) → most_items < items cs ws → balance_room f cs ws cells words ≡ refused 12 0
unfolding balance_room
many_items f cs ws cells words h = rw (lt-ltb most_items (items cs ws) h)

pub few_items : (f : Bool) (cs ws : List ℕ) (cells words : ℕ) → items cs ws ≤ most_items
    → balance_room f cs ws cells words ≡ result_room (nodes (balanced f (handed_in cs ws))) (length (balance_cells f cs ws).words) cells words
unfolding balance_room
few_items f cs ws cells words h = rw (le-ltb most_items (items cs ws) h)

-- more lines than 32 bits can number
pub many_lines : (n out : ℕ) → 4294967295 < n / line_width → lines_room n out ≡ refused 14 0
unfolding lines_room
many_lines n out h = rw (lt-ltb 4294967295 (n / line_width) h)

pub few_lines : (n out : ℕ) → out < n → lines_room n out ≡ refused 14 0
unfolding lines_room
few_lines n out h = go (ltb 4294967295 (n / line_width))
  where
    go : (b : Bool) → cond b (refused 14 0) (cond (ltb out n) (refused 14 0) (accepted (n / line_width ∷ []))) ≡ refused 14 0
    go true = refl
    go false = rw (lt-ltb out n h)

pub enough_lines : (n out : ℕ) → n / line_width ≤ 4294967295 → n ≤ out → lines_room n out ≡ accepted (n / line_width ∷ [])
unfolding lines_room
enough_lines n out m h = rw (le-ltb 4294967295 (n / line_width) m, le-ltb out n h)

-- a call that is refused leaves its outputs as they were
module _ (T : ℕ) (cs ws : List ℕ) (work : ℕ) (out : List ℕ) (number place : ℕ) where
  pub materialise_refused : ((o : Outcome) → unless_bad T 0 cs ws work o ≡ refused number place)
      → materialise_call T cs ws work out ≡ record { outcome = refused number place; outputs = out ∷ [] }
  unfolding materialise_call
  materialise_refused h = rw (h (result_room (nodes (materialise (handed_in cs ws))) 0 (length out) 0))

  pub list_refused : (F S : ℕ) → ((o : Outcome) → unless_bad T S cs ws work o ≡ refused number place)
      → list_call T F S cs ws work out ≡ record { outcome = refused number place; outputs = out ∷ [] }
  unfolding list_call
  list_refused F S h = rw (h (lines_room (length (list_cells F S cs ws)) (length out)))

  pub balance_refused : (f : Bool) (words : List ℕ) → ((o : Outcome) → unless_bad T 0 cs ws work o ≡ refused number place)
      → balance_call T f cs ws work out words ≡ record { outcome = refused number place; outputs = out ∷ words ∷ [] }
  unfolding balance_call
  balance_refused f words h = rw (h (balance_room f cs ws (length out) (length words)))

-- the same of a refusal as the code has it
module _ (T : ℕ) (cs ws : List ℕ) (work : ℕ) (out : List ℕ) (r : Refusal) where
  abbrev number : ℕ
  number = number_of (refused_by r)

  abbrev place : ℕ
  place = place_of (refused_by r)

  -- what a call hands back with the refusal
  back : (outputs : List (List ℕ)) → ◌≡◌ {A = Result} (record { outcome = refused number place; outputs = outputs }) (record { outcome = refused_by r; outputs = outputs })
  back outputs = ap {B = Result} (λ (o : Outcome). record { outcome = o; outputs = outputs }) (sym (told r))

  pub materialise_refused_by : ((o : Outcome) → unless_bad T 0 cs ws work o ≡ refused_by r)
      → materialise_call T cs ws work out ≡ record { outcome = refused_by r; outputs = out ∷ [] }
  materialise_refused_by h = materialise_refused T cs ws work out number place (λ o. h o ∙ told r) ∙ back (out ∷ [])

  pub list_refused_by : (F S : ℕ) → ((o : Outcome) → unless_bad T S cs ws work o ≡ refused_by r)
      → list_call T F S cs ws work out ≡ record { outcome = refused_by r; outputs = out ∷ [] }
  list_refused_by F S h = list_refused T cs ws work out number place F S (λ o. h o ∙ told r) ∙ back (out ∷ [])

  pub balance_refused_by : (f : Bool) (words : List ℕ) → ((o : Outcome) → unless_bad T 0 cs ws work o ≡ refused_by r)
      → balance_call T f cs ws work out words ≡ record { outcome = refused_by r; outputs = out ∷ words ∷ [] }
  balance_refused_by f words h = balance_refused T cs ws work out number place f words (λ o. h o ∙ told r) ∙ back (out ∷ words ∷ [])

-- a call on accepted cells with what it asks lent
module _ (T : ℕ) (types : T ≤ 65536) (cs ws : List ℕ) (work : ℕ) (out : List ℕ) where
  pub materialise_writes : (ok : bad_cell T 0 cs ws ≡ None) → 96 * items cs ws + 96 ≤ work
      → nodes (materialise (handed_in cs ws)) ≤ 4294967295 → cell_width * nodes (materialise (handed_in cs ws)) ≤ length out
      → materialise_call T cs ws work out ≡ record {
        outcome = accepted (nodes (materialise (handed_in cs ws)) ∷ 0 ∷ []);
        outputs = front (materialise_cells cs ws) out ∷ [];
      }
  unfolding materialise_call
  materialise_writes ok lent few room =
      let n = nodes (materialise (handed_in cs ws)) in
      rw (not_refused T 0 cs ws work (result_room n 0 (length out) 0) types lent ok, enough n 0 (length out) 0 few room (omega arith))

  pub list_writes : (F S : ℕ) (ok : bad_cell T S cs ws ≡ None) → 96 * items cs ws + 96 ≤ work
      → length (list_cells F S cs ws) / line_width ≤ 4294967295 → length (list_cells F S cs ws) ≤ length out
      → list_call T F S cs ws work out ≡ record {
        outcome = accepted (length (list_cells F S cs ws) / line_width ∷ []);
        outputs = front (list_cells F S cs ws) out ∷ [];
      }
  unfolding list_call
  list_writes F S ok lent few room =
      let n = length (list_cells F S cs ws) in
      rw (not_refused T S cs ws work (lines_room n (length out)) types lent ok, enough_lines n (length out) few room)

  -- balance with what all tree calls ask: its own refusals are left
  module _ (f : Bool) (words : List ℕ) (ok : bad_cell T 0 cs ws ≡ None) (lent : 96 * items cs ws + 96 ≤ work) where
    pub balance_many : most_items < items cs ws → balance_call T f cs ws work out words ≡ record { outcome = refused 12 0; outputs = out ∷ words ∷ [] }
    unfolding balance_call
    balance_many many =
        let e : balance_room f cs ws (length out) (length words) ≡ refused 12 0 = many_items f cs ws (length out) (length words) many in
        rw (not_refused T 0 cs ws work (balance_room f cs ws (length out) (length words)) types lent ok, e)

    pub balance_settles : items cs ws ≤ most_items
        → balance_call T f cs ws work out words
        ≡ settled (result_room (nodes (balanced f (handed_in cs ws))) (length (balance_cells f cs ws).words) (length out) (length words))
        (front (balance_cells f cs ws).cells out ∷ front (balance_cells f cs ws).words words ∷ []) (out ∷ words ∷ [])
    unfolding balance_call
    balance_settles most =
        rw (
          not_refused T 0 cs ws work (balance_room f cs ws (length out) (length words)) types lent ok,
          few_items f cs ws (length out) (length words) most,
        )

  pub balance_writes : (f : Bool) (words : List ℕ) (ok : bad_cell T 0 cs ws ≡ None) → 96 * items cs ws + 96 ≤ work → items cs ws ≤ most_items
      → nodes (balanced f (handed_in cs ws)) ≤ 4294967295 → cell_width * nodes (balanced f (handed_in cs ws)) ≤ length out → length (balance_cells f cs ws).words ≤ length words
      → balance_call T f cs ws work out words ≡ record {
        outcome = accepted (nodes (balanced f (handed_in cs ws)) ∷ length (balance_cells f cs ws).words ∷ []);
        outputs = front (balance_cells f cs ws).cells out ∷ front (balance_cells f cs ws).words words ∷ [];
      }
  balance_writes f words ok lent most few room wide =
      let n = nodes (balanced f (handed_in cs ws)) in
      let m = length (balance_cells f cs ws).words in
      rw (enough n m (length out) (length words) few room wide) at (balance_settles f words ok lent most)

-- A run: build, materialise on what it wrote, listing on what materialise wrote; or build and listing on what it wrote.
module _ (T F b S top : ℕ) (given : Option ℕ) (list : List ℕ) (fits : S ≤ 4294967295) (a : Accepted T b top S list) where
  abbrev built : Written
  built = build_cells F b S top given (parse list)

  abbrev cells_made : List ℕ
  cells_made = materialise_cells built.cells built.words

  pub run_materialises : (space : ℕ) (out : List ℕ) → 96 * items built.cells built.words + 96 ≤ space
      → nodes (materialise (handed_in built.cells built.words)) ≤ 4294967295 → cell_width * nodes (materialise (handed_in built.cells built.words)) ≤ length out
      → materialise_call T built.cells built.words space out ≡ record {
        outcome = accepted (nodes (materialise (handed_in built.cells built.words)) ∷ 0 ∷ []);
        outputs = front cells_made out ∷ [];
      }
  run_materialises space out = materialise_writes T a.types built.cells built.words space out (build_accepted T F b S top given list fits a)

  pub run_lists : (space : ℕ) (out : List ℕ) → 96 * items cells_made [] + 96 ≤ space
      → length (list_cells F S cells_made []) / line_width ≤ 4294967295 → length (list_cells F S cells_made []) ≤ length out
      → list_call T F S cells_made [] space out ≡ record {
        outcome = accepted (length (list_cells F S cells_made []) / line_width ∷ []);
        outputs = front (list_cells F S cells_made []) out ∷ [];
      }
  run_lists space out = list_writes T a.types cells_made [] space out F S (materialise_accepted T F b S top given list fits a)

  pub run_lists_straight : (space : ℕ) (out : List ℕ) → 96 * items built.cells built.words + 96 ≤ space
      → length (list_cells F S built.cells built.words) / line_width ≤ 4294967295 → length (list_cells F S built.cells built.words) ≤ length out
      → list_call T F S built.cells built.words space out ≡ record {
        outcome = accepted (length (list_cells F S built.cells built.words) / line_width ∷ []);
        outputs = front (list_cells F S built.cells built.words) out ∷ [];
      }
  run_lists_straight space out = list_writes T a.types built.cells built.words space out F S (built_listable T F b S top given list fits a)

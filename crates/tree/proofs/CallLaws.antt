-- The call `build`: when it is refused and when it writes. Assumes nothing.
use mathlib.Core.Path.{◌≡◌, refl, ap, ◌∙◌}
use mathlib.Core.List.{List, [], ◌∷◌, ◌++◌}
use Rattle.std.specs.Prelude.{Option}
use Prim.Native.Nat.{ℕ, suc, ◌+◌, ◌*◌, ◌/◌, ◌≤◌, ◌<◌}
use native.Mathlib.Omega.{arith}
use borrow.Author.Tests.{le-ltb, lt-ltb}
use lib.ListN.{length, length-append}
use Rattle.words.specs.Outcome.{Outcome, accepted, refused, unless_refused, settled}
use Rattle.words.specs.Words.{front}
use Rattle.records.specs.Forest.{Forest, empty, add, count, postfix}
use Rattle.records.specs.Parse.{parse}
use Rattle.records.specs.Check.{check, Accepted}
use Rattle.records.proofs.AcceptLaws.{accepted_check, accepted_list}
use Rattle.tree.specs.Trees.{Trees, nodes}
use Rattle.tree.specs.Build.{build}
use Rattle.tree.specs.Cells.{cell_width, packed, tree_cells}
use Rattle.tree.specs.Calls.{written, room, build_call}
use Rattle.tree.proofs.CountLaws.{few_cells}
use Rattle.tree.proofs.WordLaws.{few_words}

-- four words a record
pub length_postfix : (f : Forest) → length (postfix f) ≡ 4 * count f
unfolding postfix count
length_postfix empty = refl
length_postfix (add before i s e kids) =
    let own = i ∷ s ∷ e ∷ 4 * suc (count kids) ∷ [] in
    omega (arith, length-append (postfix before) (postfix kids ++ own), length-append (postfix kids) own, length_postfix before, length_postfix kids)

-- the size of the result decides 12 and 13
pub cells_short : (n w cells words : ℕ) → cells < cell_width * n → room n w cells words ≡ refused 12 0
unfolding room
cells_short n w cells words h = rw (lt-ltb cells (cell_width * n) h)

pub words_short : (n w cells words : ℕ) → cell_width * n ≤ cells → words < w → room n w cells words ≡ refused 13 0
unfolding room
words_short n w cells words h k = rw (le-ltb cells (cell_width * n) h, lt-ltb words w k)

pub room_enough : (n w cells words : ℕ) → cell_width * n ≤ cells → w ≤ words → room n w cells words ≡ accepted (n ∷ w ∷ [])
unfolding room
room_enough n w cells words h k = rw (le-ltb cells (cell_width * n) h, le-ltb words w k)

module _ (T F b S top : ℕ) (given : Option ℕ) (work : ℕ) (records cells words : List ℕ) where
  abbrev t : Trees
  t = build F b S top given (parse records)

  -- where the check refuses, so does the build, and its outputs are unchanged
  pub build_refused : (number place : ℕ) → check T b top S work records ≡ refused number place
      → build_call T F b S top given work records cells words ≡ record { outcome = refused number place; outputs = cells ∷ words ∷ [] }
  unfolding build_call
  build_refused number place h =
      ap (λ (o : Outcome). settled (unless_refused o (room (nodes t) (length (written S t).words) (length cells) (length words)))
      (front (written S t).cells cells ∷ front (written S t).words words ∷ []) (cells ∷ words ∷ [])) h

  module _ (a : Accepted T b top S records) (lent : 96 * (length records / 4) + 96 ≤ work) where
    -- where it does not, the size of the result decides
    by_size : build_call T F b S top given work records cells words
        ≡ settled (room (nodes t) (length (written S t).words) (length cells) (length words))
        (front (written S t).cells cells ∷ front (written S t).words words ∷ []) (cells ∷ words ∷ [])
    unfolding build_call
    by_size =
        ap (λ (o : Outcome). settled (unless_refused o (room (nodes t) (length (written S t).words) (length cells) (length words)))
        (front (written S t).cells cells ∷ front (written S t).words words ∷ []) (cells ∷ words ∷ [])) (accepted_check T b top S work records a lent)

    -- 12: too little space for the cells
    pub build_12 : length cells < cell_width * nodes t
        → build_call T F b S top given work records cells words ≡ record { outcome = refused 12 0; outputs = cells ∷ words ∷ [] }
    unfolding room
    build_12 h = by_size ∙ rw (lt-ltb (length cells) (cell_width * nodes t) h)

    -- 13: too little space for the packed words
    pub build_13 : cell_width * nodes t ≤ length cells → length words < length (packed t)
        → build_call T F b S top given work records cells words ≡ record { outcome = refused 13 0; outputs = cells ∷ words ∷ [] }
    unfolding room written
    build_13 h k = by_size ∙ rw (le-ltb (length cells) (cell_width * nodes t) h, lt-ltb (length words) (length (packed t)) k)

    -- else the counts, and the front of each output written
    pub build_writes : cell_width * nodes t ≤ length cells → length (packed t) ≤ length words
        → build_call T F b S top given work records cells words ≡ record {
          outcome = accepted (nodes t ∷ length (packed t) ∷ []);
          outputs = front (tree_cells S t) cells ∷ front (packed t) words ∷ [];
        }
    unfolding room written
    build_writes h k = by_size ∙ rw (le-ltb (length cells) (cell_width * nodes t) h, le-ltb (length words) (length (packed t)) k)

    -- who lends 2 n + 1 cells and 4 n words for n records meets neither 12 nor 13
    pub count_records : count (parse records) ≡ length records / 4
    count_records = omega (arith, ap length (accepted_list T b top S records a), length_postfix (parse records))

    pub lent_enough : cell_width * (2 * (length records / 4) + 1) ≤ length cells → 4 * (length records / 4) ≤ length words
        → build_call T F b S top given work records cells words ≡ record {
          outcome = accepted (nodes t ∷ length (packed t) ∷ []);
          outputs = front (tree_cells S t) cells ∷ front (packed t) words ∷ [];
        }
    lent_enough h k =
        build_writes (omega (arith, few_cells F b S top given (parse records), count_records)) (omega (arith, few_words F b S top given (parse records), count_records))

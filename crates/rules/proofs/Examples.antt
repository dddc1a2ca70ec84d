-- Refusal 15 on the trees of document 01's examples and on damaged ones, by computation. Assumes nothing.
use mathlib.Core.Path.{◌≡◌, refl}
use mathlib.Core.List.{List, [], ◌∷◌}
use Rattle.std.specs.Prelude.{Option, None, Some}
use Prim.Native.Nat.{ℕ}
use Rattle.words.specs.Outcome.{accepted}
use Rattle.part.specs.Part.{greatest_end, part_check, faults_from, fault, own_fault, crosses, enclosing, deepest_from}
use Rattle.rules.specs.Cell.{cells_of, first_child}
use Rattle.rules.specs.Rules.{Place}
use Rattle.rules.specs.PartLowest.{still, earliest, ends_inside, ranges, part_kept}
use Rattle.rules.specs.Lowest.{chain, chains, any_part, named, top_broken, kind_broken, id_broken, link_broken, count_broken, place_broken, order_broken, inside_broken, end_broken, part_broken, stray_broken, any_of, broken, next_named, first_named, words_end, lowest_from, top_named, bad_cell}
use Rattle.rules.proofs.SamePlace.{same_place}

-- refusal 15 with all that it takes to compute it
unfoldable says : (T S : ℕ) (cs ws : List ℕ) → Option ℕ
unfolding bad_cell cells_of first_child chain chains any_part named top_broken kind_broken id_broken link_broken count_broken place_broken order_broken inside_broken end_broken part_broken stray_broken any_of broken next_named first_named words_end lowest_from top_named part_kept greatest_end ranges ends_inside earliest still part_check faults_from fault own_fault crosses
says T S cs ws = bad_cell T S cs ws

-- P, b 1,024, of document 01, its words, and P with b 1
abbrev packed_cells : List ℕ
packed_cells = 1 ∷ 0 ∷ 0 ∷ 6 ∷ 2 ∷ 1 ∷ 0 ∷ 2 ∷ 0 ∷ 0 ∷ 6 ∷ 0 ∷ 12 ∷ 0 ∷ []

abbrev packed_words : List ℕ
packed_words = 3 ∷ 0 ∷ 6 ∷ 12 ∷ 1 ∷ 0 ∷ 2 ∷ 8 ∷ 2 ∷ 3 ∷ 5 ∷ 12 ∷ []

p_1024 : says 4 0 packed_cells packed_words ≡ None
unfolding says
p_1024 = refl

-- its part passes 16 to 20 and its greatest end is 6, its first record's: the length above, but past the length 5, at which its last record ends
part_past_its_length :
    (part_check packed_words 4 ≡ accepted (3 ∷ 6 ∷ 2 ∷ []))
    × (says 4 0 (1 ∷ 0 ∷ 0 ∷ 6 ∷ 2 ∷ 1 ∷ 0 ∷ 2 ∷ 0 ∷ 0 ∷ 5 ∷ 0 ∷ 12 ∷ 0 ∷ []) packed_words ≡ Some 2)
unfolding says part_check faults_from fault own_fault crosses greatest_end enclosing deepest_from
part_past_its_length = (refl, refl)

-- without the words that its part lies in
words_missing : says 4 0 packed_cells [] ≡ Some 2
unfolding says
words_missing = refl

-- ids of kinds 2 and 3 are 0
id_of_kind_3 : says 4 0 (1 ∷ 0 ∷ 0 ∷ 0 ∷ 2 ∷ 1 ∷ 0 ∷ 3 ∷ 1 ∷ 0 ∷ 0 ∷ 0 ∷ 0 ∷ 0 ∷ []) [] ≡ Some 2
unfolding says
id_of_kind_3 = refl

-- P with b 1; next of cell 3 set to 0: the chain of cell 2 has one cell, not two
four_cells : says 4 0 (1 ∷ 0 ∷ 0 ∷ 6 ∷ 2 ∷ 1 ∷ 0 ∷ 1 ∷ 3 ∷ 0 ∷ 6 ∷ 3 ∷ 2 ∷ 0 ∷ 1 ∷ 1 ∷ 0 ∷ 2 ∷ 0 ∷ 0 ∷ 4 ∷ 1 ∷ 2 ∷ 3 ∷ 2 ∷ 0 ∷ 0 ∷ 0 ∷ []) [] ≡ None
unfolding says
four_cells = refl

chain_cut : says 4 0 (1 ∷ 0 ∷ 0 ∷ 6 ∷ 2 ∷ 1 ∷ 0 ∷ 1 ∷ 3 ∷ 0 ∷ 6 ∷ 3 ∷ 2 ∷ 0 ∷ 1 ∷ 1 ∷ 0 ∷ 2 ∷ 0 ∷ 0 ∷ 0 ∷ 1 ∷ 2 ∷ 3 ∷ 2 ∷ 0 ∷ 0 ∷ 0 ∷ []) [] ≡ Some 2
unfolding says
chain_cut = refl

-- a last sibling whose next is past the last cell
past_the_last : says 4 0 (1 ∷ 0 ∷ 0 ∷ 0 ∷ 2 ∷ 1 ∷ 0 ∷ 1 ∷ 0 ∷ 0 ∷ 0 ∷ 0 ∷ 0 ∷ 3 ∷ []) [] ≡ Some 2
unfolding says
past_the_last = refl

-- first names a later cell than the next: cell 2 is unreached
first_jumps : says 4 0 (1 ∷ 0 ∷ 0 ∷ 6 ∷ 3 ∷ 1 ∷ 0 ∷ 3 ∷ 0 ∷ 1 ∷ 5 ∷ 3 ∷ 1 ∷ 0 ∷ 3 ∷ 0 ∷ 0 ∷ 5 ∷ 0 ∷ 0 ∷ 0 ∷ []) [] ≡ Some 2
unfolding says
first_jumps = refl

-- next jumps over cells while the count still fits: cell 3 is unreached
next_jumps : says 4 0 (1 ∷ 0 ∷ 0 ∷ 0 ∷ 2 ∷ 2 ∷ 0 ∷ 3 ∷ 0 ∷ 0 ∷ 0 ∷ 0 ∷ 0 ∷ 4 ∷ 3 ∷ 0 ∷ 0 ∷ 0 ∷ 4 ∷ 1 ∷ 0 ∷ 3 ∷ 0 ∷ 0 ∷ 0 ∷ 0 ∷ 0 ∷ 0 ∷ []) [] ≡ Some 3
unfolding says
next_jumps = refl

-- an extra cell is unreached; words past the last part count against its cell, or cell 1; the slice itself
extra_cell : says 4 0 (1 ∷ 0 ∷ 0 ∷ 6 ∷ 2 ∷ 1 ∷ 0 ∷ 2 ∷ 0 ∷ 0 ∷ 6 ∷ 0 ∷ 12 ∷ 0 ∷ 0 ∷ 0 ∷ 0 ∷ 0 ∷ 0 ∷ 0 ∷ 0 ∷ []) packed_words ≡ Some 3
unfolding says
extra_cell = refl

stray_words : says 4 0 packed_cells (3 ∷ 0 ∷ 6 ∷ 12 ∷ 1 ∷ 0 ∷ 2 ∷ 8 ∷ 2 ∷ 3 ∷ 5 ∷ 12 ∷ 0 ∷ []) ≡ Some 2
unfolding says
stray_words = refl

stray_words_alone : says 4 0 (1 ∷ 0 ∷ 0 ∷ 6 ∷ 0 ∷ 0 ∷ 0 ∷ []) (0 ∷ []) ≡ Some 1
unfolding says
stray_words_alone = refl

empty_slice : says 4 0 [] [] ≡ Some 0
unfolding says
empty_slice = refl

six_words : says 4 0 (1 ∷ 0 ∷ 0 ∷ 0 ∷ 0 ∷ 0 ∷ []) [] ≡ Some 0
unfolding says
six_words = refl

-- the last end that fits 32 bits; the top's own length is free
ends_fit : says 4 4294967289 (1 ∷ 0 ∷ 0 ∷ 4294967295 ∷ 2 ∷ 1 ∷ 0 ∷ 1 ∷ 0 ∷ 1 ∷ 5 ∷ 0 ∷ 0 ∷ 0 ∷ []) [] ≡ None
unfolding says
ends_fit = refl

ends_past : says 4 4294967290 (1 ∷ 0 ∷ 0 ∷ 4294967295 ∷ 2 ∷ 1 ∷ 0 ∷ 1 ∷ 0 ∷ 1 ∷ 5 ∷ 0 ∷ 0 ∷ 0 ∷ []) [] ≡ Some 2
unfolding says
ends_past = refl

-- the same places by the rules one by one
past_the_last_place : Place 4 0 (1 ∷ 0 ∷ 0 ∷ 0 ∷ 2 ∷ 1 ∷ 0 ∷ 1 ∷ 0 ∷ 0 ∷ 0 ∷ 0 ∷ 0 ∷ 3 ∷ []) [] 2
unfolding says
past_the_last_place = (same_place 4 0 (1 ∷ 0 ∷ 0 ∷ 0 ∷ 2 ∷ 1 ∷ 0 ∷ 1 ∷ 0 ∷ 0 ∷ 0 ∷ 0 ∷ 0 ∷ 3 ∷ []) [] 2).0 past_the_last

first_jumps_place : Place 4 0 (1 ∷ 0 ∷ 0 ∷ 6 ∷ 3 ∷ 1 ∷ 0 ∷ 3 ∷ 0 ∷ 1 ∷ 5 ∷ 3 ∷ 1 ∷ 0 ∷ 3 ∷ 0 ∷ 0 ∷ 5 ∷ 0 ∷ 0 ∷ 0 ∷ []) [] 2
unfolding says
first_jumps_place = (same_place 4 0 (1 ∷ 0 ∷ 0 ∷ 6 ∷ 3 ∷ 1 ∷ 0 ∷ 3 ∷ 0 ∷ 1 ∷ 5 ∷ 3 ∷ 1 ∷ 0 ∷ 3 ∷ 0 ∷ 0 ∷ 5 ∷ 0 ∷ 0 ∷ 0 ∷ []) [] 2).0 first_jumps

next_jumps_place : Place 4 0 (1 ∷ 0 ∷ 0 ∷ 0 ∷ 2 ∷ 2 ∷ 0 ∷ 3 ∷ 0 ∷ 0 ∷ 0 ∷ 0 ∷ 0 ∷ 4 ∷ 3 ∷ 0 ∷ 0 ∷ 0 ∷ 4 ∷ 1 ∷ 0 ∷ 3 ∷ 0 ∷ 0 ∷ 0 ∷ 0 ∷ 0 ∷ 0 ∷ []) [] 3
unfolding says
next_jumps_place =
    (same_place 4 0 (1 ∷ 0 ∷ 0 ∷ 0 ∷ 2 ∷ 2 ∷ 0 ∷ 3 ∷ 0 ∷ 0 ∷ 0 ∷ 0 ∷ 0 ∷ 4 ∷ 3 ∷ 0 ∷ 0 ∷ 0 ∷ 4 ∷ 1 ∷ 0 ∷ 3 ∷ 0 ∷ 0 ∷ 0 ∷ 0 ∷ 0 ∷ 0 ∷ []) [] 3).0 next_jumps

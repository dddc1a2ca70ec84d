-- The starred examples of document 01 about builds, which are rows of the table in crates/starred_table; and those about listings and
-- balancing by what the calls write, which that table has by the whole calls. Here the edits of these definitions meet them.
-- Computed. Assumes nothing.
use mathlib.Core.Path.{◌≡◌, refl}
use mathlib.Core.Bool.{false}
use mathlib.Core.List.{List, [], ◌∷◌}
use Rattle.std.specs.Prelude.{None, Some}
use Prim.Native.Nat.{ℕ, zero, suc, ◌+◌}
use lib.ListN.{get_or}
use Rattle.words.specs.Outcome.{accepted, refused, Result}
use Rattle.records.specs.Forest.{count, behind, line, depth_below, reading}
use Rattle.records.specs.Parse.{nearest, farther, parse_from, parse}
use Rattle.records.specs.Check.{own_fault, fills, record_fault, records_check, in_place, or_else, range_fault, list_range_fault, list_check, check}
use Rattle.tree.specs.Trees.{Trees, nil, tree, ◌⊕◌, nodes, siblings, is_nil, kids_of, first_start, last_end}
use Rattle.tree.specs.Items.{repeats, same, items, records, first, leftmost}
use Rattle.tree.specs.Pack.{width, words, stopped, early, scan, long, packs, run_from, entry, pack, run_part}
use Rattle.tree.specs.Balance.{equal_types, all_of, total, share, grows, groups_from, groups, lone, is_tree, joined, placed, each, divide, balance, balanced}
use Rattle.tree.specs.Groups.{fresh, gather, close, pass, rest_closed, finish}
use Rattle.tree.specs.Flat.{flattened, flat_words, held_end, flat_part, hold, limit, full, ends, too_deep, flat}
use Rattle.tree.specs.Build.{walk, first_level, build}
use Rattle.tree.specs.Materialise.{within, beyond, unpack, materialise}
use Rattle.tree.specs.Listing.{node_line, node_below, listing, lines}
use Rattle.tree.specs.Cells.{relative, absolute, packed, unless_none, kind, id_word, cells, tree_cells, leading, following, cell_tree, decode_from, decode}
use Rattle.tree.specs.Calls.{written, build_cells, materialise_cells, balance_cells, list_cells, room, build_call}

-- what an output slice of n words holds before a call
unfoldable pub nines : (n : ℕ) → List ℕ
nines zero = []
nines (suc n) = 9 ∷ nines n

-- "records P = (1,0,2,4) (2,3,5,4) (3,0,6,12)"
abbrev pub P : List ℕ
P = 1 ∷ 0 ∷ 2 ∷ 4 ∷ 2 ∷ 3 ∷ 5 ∷ 4 ∷ 3 ∷ 0 ∷ 6 ∷ 12 ∷ []

-- "T 4, F 4, S 0, top 0", length bound b, with room for 28 words of cells and 12 packed words
abbrev pub build_p : (b : ℕ) → Result
build_p b = build_call 4 4 b 0 0 None 384 P (nines 28) (nines 12)

-- the lines of what a build wrote: materialise on its cells and words, listing on the cells of that
abbrev pub listed_from : (F S : ℕ) (cells words : List ℕ) → List ℕ
listed_from F S cells words = list_cells F S (materialise_cells cells words) []

-- the cells and words of P with b 1,024, 5 and 1
abbrev pub cells_1024 : List ℕ
cells_1024 = 1 ∷ 0 ∷ 0 ∷ 6 ∷ 2 ∷ 1 ∷ 0 ∷ 2 ∷ 0 ∷ 0 ∷ 6 ∷ 0 ∷ 12 ∷ 0 ∷ []

abbrev pub words_1024 : List ℕ
words_1024 = 3 ∷ 0 ∷ 6 ∷ 12 ∷ 1 ∷ 0 ∷ 2 ∷ 8 ∷ 2 ∷ 3 ∷ 5 ∷ 12 ∷ []

abbrev pub cells_5 : List ℕ
cells_5 = 1 ∷ 0 ∷ 0 ∷ 6 ∷ 2 ∷ 1 ∷ 0 ∷ 1 ∷ 3 ∷ 0 ∷ 6 ∷ 3 ∷ 1 ∷ 0 ∷ 2 ∷ 0 ∷ 0 ∷ 5 ∷ 0 ∷ 8 ∷ 0 ∷ []

abbrev pub words_5 : List ℕ
words_5 = 1 ∷ 0 ∷ 2 ∷ 4 ∷ 2 ∷ 3 ∷ 5 ∷ 8 ∷ []

abbrev pub cells_1 : List ℕ
cells_1 = 1 ∷ 0 ∷ 0 ∷ 6 ∷ 2 ∷ 1 ∷ 0 ∷ 1 ∷ 3 ∷ 0 ∷ 6 ∷ 3 ∷ 2 ∷ 0 ∷ 1 ∷ 1 ∷ 0 ∷ 2 ∷ 0 ∷ 0 ∷ 4 ∷ 1 ∷ 2 ∷ 3 ∷ 2 ∷ 0 ∷ 0 ∷ 0 ∷ []

-- "Each lists 0,3,0,6 / 1,1,0,2 / 1,2,3,5."
abbrev pub lines_p : List ℕ
lines_p = 0 ∷ 3 ∷ 0 ∷ 6 ∷ 1 ∷ 1 ∷ 0 ∷ 2 ∷ 1 ∷ 2 ∷ 3 ∷ 5 ∷ []

-- "T 3, F 2, b 2: (1,0,2,4) (2,0,2,8) (1,2,4,4) (2,2,4,8) (2,0,4,20): six cells"
abbrev pub repeat_list : List ℕ
repeat_list = 1 ∷ 0 ∷ 2 ∷ 4 ∷ 2 ∷ 0 ∷ 2 ∷ 8 ∷ 1 ∷ 2 ∷ 4 ∷ 4 ∷ 2 ∷ 2 ∷ 4 ∷ 8 ∷ 2 ∷ 0 ∷ 4 ∷ 20 ∷ []

abbrev pub six_cells : List ℕ
six_cells =
    1 ∷ 0 ∷ 0 ∷ 4 ∷ 2 ∷ 1 ∷ 0 ∷ 1 ∷ 2 ∷ 0 ∷ 4 ∷ 3 ∷ 2 ∷ 0 ∷ 1 ∷ 2 ∷ 0 ∷ 2 ∷ 4 ∷ 1 ∷ 5
    ∷ 1 ∷ 1 ∷ 0 ∷ 2 ∷ 0 ∷ 0 ∷ 0 ∷ 1 ∷ 2 ∷ 2 ∷ 2 ∷ 6 ∷ 1 ∷ 0 ∷ 1 ∷ 1 ∷ 0 ∷ 2 ∷ 0 ∷ 0 ∷ 0 ∷ []

-- n leaf trees of length 1 from s on
unfoldable pub leaves : (n s : ℕ) → Trees
leaves zero s = nil
leaves (suc n) s = tree (Some 1) s 1 nil (leaves n (s + 1))

-- how many children the balanced tree of n leaf trees has: the count in its first cell
unfoldable pub children : (n : ℕ) → ℕ
children n = get_or (balance_cells false (tree_cells 0 (tree (Some 0) 0 n (leaves n 0) nil)) []).cells 5 0

-- the rows about builds
abbrev pub Builds : Type 0
Builds =
    -- b 1,024: two cells, twelve words
    (build_p 1024 ≡ record {
      outcome = accepted (2 ∷ 12 ∷ []);
      outputs = (1 ∷ 0 ∷ 0 ∷ 6 ∷ 2 ∷ 1 ∷ 0 ∷ 2 ∷ 0 ∷ 0 ∷ 6 ∷ 0 ∷ 12 ∷ 0 ∷ nines 14) ∷ words_1024 ∷ [];
    })
    -- b 5: three cells, part 1,0,2,4, 2,3,5,8
    × (build_p 5 ≡ record {
      outcome = accepted (3 ∷ 8 ∷ []);
      outputs = (1 ∷ 0 ∷ 0 ∷ 6 ∷ 2 ∷ 1 ∷ 0 ∷ 1 ∷ 3 ∷ 0 ∷ 6 ∷ 3 ∷ 1 ∷ 0 ∷ 2 ∷ 0 ∷ 0 ∷ 5 ∷ 0 ∷ 8 ∷ 0 ∷ nines 7) ∷ (1 ∷ 0 ∷ 2 ∷ 4 ∷ 2 ∷ 3 ∷ 5 ∷ 8 ∷ nines 4) ∷ [];
    })
    -- b 1: four cells, no words
    × (build_p 1 ≡ record { outcome = accepted (4 ∷ 0 ∷ []); outputs = cells_1 ∷ nines 12 ∷ [] })
    -- (1,5,7,4), S 5: two cells; S 6: 10 at record 0, outputs unchanged
    × (build_call 4 4 1024 5 0 None 192 (1 ∷ 5 ∷ 7 ∷ 4 ∷ []) (nines 14) [] ≡ record {
      outcome = accepted (2 ∷ 0 ∷ []);
      outputs = (1 ∷ 0 ∷ 0 ∷ 2 ∷ 2 ∷ 1 ∷ 0 ∷ 1 ∷ 1 ∷ 0 ∷ 2 ∷ 0 ∷ 0 ∷ 0 ∷ []) ∷ [] ∷ [];
    })
    × (build_call 4 4 1024 6 0 None 192 (1 ∷ 5 ∷ 7 ∷ 4 ∷ []) (nines 14) [] ≡ record { outcome = refused 10 0; outputs = nines 14 ∷ [] ∷ [] })
    -- T 3, F 2, b 2: six cells
    × (build_call 3 2 2 0 0 None 576 repeat_list (nines 42) [] ≡ record { outcome = accepted (6 ∷ 0 ∷ []); outputs = six_cells ∷ [] ∷ [] })
    -- no records: one cell, length 0
    × (build_call 4 4 1024 0 0 None 96 [] (nines 7) [] ≡ record { outcome = accepted (1 ∷ 0 ∷ []); outputs = (1 ∷ 0 ∷ 0 ∷ 0 ∷ 0 ∷ 0 ∷ 0 ∷ []) ∷ [] ∷ [] })

pub builds : Builds
unfolding nines count behind nearest farther parse_from parse own_fault fills record_fault records_check in_place or_else range_fault list_range_fault list_check check ◌⊕◌ nodes siblings is_nil kids_of first_start last_end repeats same items records first leftmost width words stopped early scan long packs run_from entry pack run_part equal_types all_of total share grows groups_from groups lone is_tree joined placed each divide balance fresh gather close pass rest_closed finish flattened flat_words held_end flat_part hold limit full ends too_deep flat walk first_level build relative packed unless_none kind id_word cells tree_cells written build_cells room build_call
builds = (refl, refl, refl, refl, refl, refl, refl)

-- what materialising and listing, and listing alone, write of each build of P: its ordinary reading
abbrev pub Listings : Type 0
Listings =
    (listed_from 4 0 cells_1024 words_1024 ≡ lines_p)
    × (listed_from 4 0 cells_5 words_5 ≡ lines_p)
    × (listed_from 4 0 cells_1 [] ≡ lines_p)
    × (list_cells 4 0 cells_1024 words_1024 ≡ lines_p)
    × (list_cells 4 0 cells_5 words_5 ≡ lines_p)
    × (list_cells 4 0 cells_1 [] ≡ lines_p)
    × (reading 4 0 (parse P) ≡ lines_p)

pub listings : Listings
unfolding reading line depth_below count nearest farther parse_from parse ◌⊕◌ nodes siblings kids_of within beyond unpack materialise node_line node_below listing lines relative absolute packed unless_none kind id_word cells tree_cells leading following cell_tree decode_from decode materialise_cells list_cells
listings = (refl, refl, refl, refl, refl, refl, refl)

-- ten leaf trees balance to ten children, eleven to six
pub balances : (children 10 ≡ 10) × (children 11 ≡ 6)
unfolding leaves children ◌⊕◌ nodes siblings kids_of first_start last_end equal_types all_of total share grows groups_from groups lone is_tree joined placed each divide balance balanced relative absolute packed unless_none kind id_word cells tree_cells leading following cell_tree decode_from decode written balance_cells
balances = (refl, refl)

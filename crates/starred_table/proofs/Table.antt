-- The starred examples of document 01, computed from the definitions that the public contracts cite. Assumes nothing.
use mathlib.Core.Path.{◌≡◌, refl}
use mathlib.Core.Bool.{false}
use mathlib.Core.List.{List, [], ◌∷◌, ◌++◌}
use Prim.Native.Nat.{ℕ, zero, suc, ◌+◌}
use Rattle.words.specs.Outcome.{accepted, refused, Result}
use Rattle.words.specs.First.{first_from}
use Rattle.part.specs.Part.{greatest_end, part_check, faults_from, fault, own_fault, crosses}
use Rattle.part.specs.Rebased.{rebased}
use Rattle.slicing.specs.Slice.{sliced, slice_outcome, slice_part}
use Rattle.records.specs.Forest.{count, behind, line, depth_below, reading}
use Rattle.records.specs.Parse.{nearest, farther, parse_from, parse}
use Rattle.records.specs.Check as list
use Rattle.tree.specs.Trees.{◌⊕◌, nodes, siblings, kids_of, first_start, last_end}
use Rattle.tree.specs.Materialise.{within, beyond, unpack, materialise}
use Rattle.tree.specs.Balance.{equal_types, all_of, total, share, grows, groups_from, groups, lone, is_tree, joined, placed, each, divide, balance, balanced}
use Rattle.tree.specs.Listing.{node_line, node_below, listing, lines}
use Rattle.tree.specs.Cells.{cell, relative, absolute, packed, unless_none, kind, id_word, cells, leading, following, cell_tree, decode_from, decode, tree_cells}
use Rattle.tree.specs.Calls.{room as tree-room, written, materialise_cells, balance_cells, list_cells}
use Rattle.tree.proofs.Table as trees
use Rattle.rules.specs.Cell.{cells_of, first_child}
use Rattle.rules.specs.PartLowest.{still, earliest, ends_inside, ranges, part_kept}
use Rattle.rules.specs.Lowest.{chain, chains, any_part, named, top_broken, kind_broken, id_broken, link_broken, count_broken, place_broken, order_broken, inside_broken, end_broken, part_broken, stray_broken, any_of, broken, next_named, first_named, words_end, lowest_from, top_named, bad_cell}
use Rattle.rules.specs.Calls.{items, unless_bad, result_room, lines_room, handed_in, materialise_call, balance_room, balance_call, list_call}

-- T 4, F 4, S 0, top 0: "records P = (1,0,2,4) (2,3,5,4) (3,0,6,12)"
abbrev P : List ℕ
P = 1 ∷ 0 ∷ 2 ∷ 4 ∷ 2 ∷ 3 ∷ 5 ∷ 4 ∷ 3 ∷ 0 ∷ 6 ∷ 12 ∷ []

-- b 1,024: "words 3,0,6,12, 1,0,2,8, 2,3,5,12"
abbrev part_of_p : List ℕ
part_of_p = 3 ∷ 0 ∷ 6 ∷ 12 ∷ 1 ∷ 0 ∷ 2 ∷ 8 ∷ 2 ∷ 3 ∷ 5 ∷ 12 ∷ []

-- T 3, F 2, b 2: "(1,0,2,4) (2,0,2,8) (1,2,4,4) (2,2,4,8) (2,0,4,20)"
abbrev repeats : List ℕ
repeats = 1 ∷ 0 ∷ 2 ∷ 4 ∷ 2 ∷ 0 ∷ 2 ∷ 8 ∷ 1 ∷ 2 ∷ 4 ∷ 4 ∷ 2 ∷ 2 ∷ 4 ∷ 8 ∷ 2 ∷ 0 ∷ 4 ∷ 20 ∷ []

-- an output slice of eight words
abbrev room : List ℕ
room = 9 ∷ 9 ∷ 9 ∷ 9 ∷ 9 ∷ 9 ∷ 9 ∷ 9 ∷ []

-- The lists are accepted, with work slices of 96 × records + 96 words, but for "(1,5,7,4), .. S 6: 10 at record 0"; and the ordinary
-- reading of P is "0,3,0,6 / 1,1,0,2 / 1,2,3,5".
abbrev pub Lists : Type 0
Lists =
    (list.check 4 1024 0 0 384 P ≡ accepted (3 ∷ []))
    × (list.check 4 1024 0 5 192 (1 ∷ 5 ∷ 7 ∷ 4 ∷ []) ≡ accepted (1 ∷ []))
    × (list.check 4 1024 0 6 192 (1 ∷ 5 ∷ 7 ∷ 4 ∷ []) ≡ refused 10 0)
    × (list.check 3 2 0 0 576 repeats ≡ accepted (5 ∷ []))
    × (list.check 4 1024 0 0 96 [] ≡ accepted (0 ∷ []))
    × (reading 4 0 (parse P) ≡ 0 ∷ 3 ∷ 0 ∷ 6 ∷ 1 ∷ 1 ∷ 0 ∷ 2 ∷ 1 ∷ 2 ∷ 3 ∷ 5 ∷ [])

lists : Lists
unfolding list.check list.list_check list.list_range_fault list.range_fault list.or_else list.in_place list.records_check list.record_fault list.fills list.own_fault parse parse_from nearest farther reading line depth_below behind count
lists = (refl, refl, refl, refl, refl, refl)

-- "Slicing the first part 4 to 12, base 0: length 5; 0 to 8: 19 at 0; base 1 from 4: 23 at 4"
abbrev pub Slices : Type 0
Slices =
    (slice_part part_of_p 4 4 12 0 room ≡ record { outcome = accepted (8 ∷ 5 ∷ []); outputs = (1 ∷ 0 ∷ 2 ∷ 4 ∷ 2 ∷ 3 ∷ 5 ∷ 8 ∷ []) ∷ [] })
    × (slice_part part_of_p 4 0 8 0 room ≡ record { outcome = refused 19 0; outputs = room ∷ [] })
    × (slice_part part_of_p 4 4 12 1 room ≡ record { outcome = refused 23 4; outputs = room ∷ [] })

slices : Slices
unfolding first_from part_check faults_from fault own_fault crosses greatest_end rebased sliced slice_outcome slice_part
slices = (refl, refl, refl)

-- what list gives with an output slice of 13 words: "0,3,0,6 / 1,1,0,2 / 1,2,3,5", and one word is left over
abbrev pub three_lines : Result
three_lines = record { outcome = accepted (3 ∷ []); outputs = (0 ∷ 3 ∷ 0 ∷ 6 ∷ 1 ∷ 1 ∷ 0 ∷ 2 ∷ 1 ∷ 2 ∷ 3 ∷ 5 ∷ 9 ∷ []) ∷ [] }

-- "Each lists 0,3,0,6 / 1,1,0,2 / 1,2,3,5": materialise on the cells and words of each of the three builds writes the same four
-- cells, and list on these the three lines; and list writes them straight from the cells and words of each build. The work slices have
-- 96 × items + 96 words.
abbrev pub Listings : Type 0
Listings =
    (materialise_call 4 trees.cells_1024 trees.words_1024 576 (trees.nines 29) ≡ record { outcome = accepted (4 ∷ 0 ∷ []); outputs = (trees.cells_1 ++ (9 ∷ [])) ∷ [] })
    × (materialise_call 4 trees.cells_5 trees.words_5 576 (trees.nines 29) ≡ record { outcome = accepted (4 ∷ 0 ∷ []); outputs = (trees.cells_1 ++ (9 ∷ [])) ∷ [] })
    × (materialise_call 4 trees.cells_1 [] 480 (trees.nines 29) ≡ record { outcome = accepted (4 ∷ 0 ∷ []); outputs = (trees.cells_1 ++ (9 ∷ [])) ∷ [] })
    × (list_call 4 4 0 trees.cells_1 [] 480 (trees.nines 13) ≡ three_lines)
    × (list_call 4 4 0 trees.cells_5 trees.words_5 576 (trees.nines 13) ≡ three_lines)
    × (list_call 4 4 0 trees.cells_1024 trees.words_1024 576 (trees.nines 13) ≡ three_lines)

listings : Listings
unfolding trees.nines materialise_call list_call items unless_bad result_room tree-room lines_room handed_in bad_cell cells_of first_child chain chains any_part named top_broken kind_broken id_broken link_broken count_broken place_broken order_broken inside_broken end_broken part_broken stray_broken any_of broken next_named first_named words_end lowest_from top_named part_kept greatest_end ranges ends_inside earliest still part_check faults_from fault own_fault crosses ◌⊕◌ nodes siblings kids_of within beyond unpack materialise node_line node_below listing lines line depth_below relative absolute packed unless_none kind id_word cells leading following cell_tree decode_from decode tree_cells materialise_cells list_cells
listings = (refl, refl, refl, refl, refl, refl)

-- The cells of n leaf trees of id 1 and length 1, one after the other from the position s on; the first is cell c.
unfoldable pub leaf_cells : (n c s : ℕ) → List ℕ
leaf_cells zero c s = []
leaf_cells (suc zero) c s = cell 1 1 s 1 0 0 0
leaf_cells (suc (suc n)) c s = cell 1 1 s 1 0 0 (c + 1) ++ leaf_cells (suc n) (c + 1) (s + 1)

-- a top of so many leaf trees
abbrev pub leaf_tree : (n : ℕ) → List ℕ
leaf_tree n = cell 1 0 0 n 2 n 0 ++ leaf_cells n 2 0

-- cell c is an inner tree of two leaf trees, from the position s on
abbrev pub pair_cells : (c s next : ℕ) → List ℕ
pair_cells c s next = cell 3 0 s 2 (c + 1) 2 next ++ leaf_cells 2 (c + 1) 0

-- a top of five such pairs and one leaf tree
abbrev pub six_children : List ℕ
six_children =
    cell 1 0 0 11 2 6 0
    ++ (pair_cells 2 0 5 ++ (pair_cells 5 2 8 ++ (pair_cells 8 4 11 ++ (pair_cells 11 6 14 ++ (pair_cells 14 8 17 ++ cell 1 1 10 1 0 0 0)))))

-- "Ten leaf trees balance to ten children, eleven to six"
abbrev pub Balances : Type 0
Balances =
    (balance_call 2 false (leaf_tree 10) [] 1152 (trees.nines 77) [] ≡ record { outcome = accepted (11 ∷ 0 ∷ []); outputs = leaf_tree 10 ∷ [] ∷ [] })
    × (balance_call 2 false (leaf_tree 11) [] 1248 (trees.nines 119) [] ≡ record { outcome = accepted (17 ∷ 0 ∷ []); outputs = six_children ∷ [] ∷ [] })

balances : Balances
unfolding trees.nines leaf_cells balance_call balance_room items unless_bad result_room tree-room handed_in bad_cell cells_of first_child chain chains any_part named top_broken kind_broken id_broken link_broken count_broken place_broken order_broken inside_broken end_broken part_broken stray_broken any_of broken next_named first_named words_end lowest_from top_named part_kept ◌⊕◌ nodes siblings kids_of first_start last_end equal_types all_of total share grows groups_from groups lone is_tree joined placed each divide balance balanced relative absolute packed unless_none kind id_word cells leading following cell_tree decode_from decode tree_cells written balance_cells
balances = (refl, refl)

-- The whole table; the rows about builds stand beside the definitions that they are computed from.
pub table : Lists × trees.Builds × Listings × Slices × Balances
table = (lists, trees.builds, listings, slices, balances)

-- The tree calls on document 01's first example, by computation: what is lent decides, and one word less is refused. Assumes
-- nothing.
use mathlib.Core.Path.{◌≡◌, refl, ap, ◌∙◌}
use mathlib.Core.Bool.{false}
use mathlib.Core.List.{List, [], ◌∷◌}
use Prim.Native.Nat.{ℕ}
use lib.ListN.{replicate}
use Rattle.words.specs.Outcome.{accepted, refused, number_of, Result}
use Rattle.part.specs.Part.{greatest_end, part_check, faults_from, fault, own_fault, crosses}
use Rattle.records.specs.Forest.{line, depth_below}
use Rattle.tree.specs.Trees.{◌⊕◌, nodes, kids_of, siblings}
use Rattle.tree.specs.Materialise.{within, beyond, unpack, materialise}
use Rattle.tree.specs.Balance.{balanced}
use Rattle.tree.specs.Listing.{node_line, node_below, listing, lines}
use Rattle.tree.specs.Cells.{relative, absolute, packed, unless_none, kind, id_word, cells, leading, following, cell_tree, decode_from, decode, tree_cells}
use Rattle.tree.specs.Calls.{room, written, materialise_cells, balance_cells, list_cells}
use Rattle.rules.specs.Cell.{cells_of, first_child}
use Rattle.rules.specs.PartLowest.{still, earliest, ends_inside, ranges, part_kept}
use Rattle.rules.specs.Lowest.{chain, chains, any_part, named, top_broken, kind_broken, id_broken, link_broken, count_broken, place_broken, order_broken, inside_broken, end_broken, part_broken, stray_broken, any_of, broken, next_named, first_named, words_end, lowest_from, top_named, bad_cell}
use Rattle.rules.specs.Calls.{items, unless_bad, result_room, lines_room, handed_in, materialise_call, balance_room, balance_call, list_call}
use Rattle.rules.proofs.ListedInTurn.{Taken, cells_out}

-- the calls with all that it takes to compute them
unfoldable pub materialised : (T : ℕ) (cs ws : List ℕ) (work : ℕ) (out : List ℕ) → Result
unfolding bad_cell cells_of first_child chain chains any_part named top_broken kind_broken id_broken link_broken count_broken place_broken order_broken inside_broken end_broken part_broken stray_broken any_of broken next_named first_named words_end lowest_from top_named part_kept greatest_end ranges ends_inside earliest still part_check faults_from fault own_fault crosses items unless_bad result_room room handed_in materialise_call ◌⊕◌ nodes within beyond unpack materialise relative absolute packed unless_none kind id_word cells leading following cell_tree decode_from decode tree_cells siblings materialise_cells
materialised T cs ws work out = materialise_call T cs ws work out

unfoldable balances : (T : ℕ) (cs ws : List ℕ) (work : ℕ) (out words : List ℕ) → Result
unfolding bad_cell cells_of first_child chain chains any_part named top_broken kind_broken id_broken link_broken count_broken place_broken order_broken inside_broken end_broken part_broken stray_broken any_of broken next_named first_named words_end lowest_from top_named part_kept greatest_end ranges ends_inside earliest still part_check faults_from fault own_fault crosses items unless_bad result_room room handed_in balance_room balance_call nodes relative absolute packed unless_none kind id_word cells leading following cell_tree decode_from decode tree_cells siblings balanced balance_cells written
balances T cs ws work out words = balance_call T false cs ws work out words

unfoldable pub listed : (T F S : ℕ) (cs ws : List ℕ) (work : ℕ) (out : List ℕ) → Result
unfolding bad_cell cells_of first_child chain chains any_part named top_broken kind_broken id_broken link_broken count_broken place_broken order_broken inside_broken end_broken part_broken stray_broken any_of broken next_named first_named words_end lowest_from top_named part_kept greatest_end ranges ends_inside earliest still part_check faults_from fault own_fault crosses items unless_bad lines_room list_call ◌⊕◌ nodes within beyond unpack materialise absolute leading following cell_tree decode_from decode lines list_cells listing node_line node_below line depth_below kids_of
listed T F S cs ws work out = list_call T F S cs ws work out

-- P with b 1,024 and with b 1
abbrev part_cells : List ℕ
part_cells = 1 ∷ 0 ∷ 0 ∷ 6 ∷ 2 ∷ 1 ∷ 0 ∷ 2 ∷ 0 ∷ 0 ∷ 6 ∷ 0 ∷ 12 ∷ 0 ∷ []

abbrev part_words : List ℕ
part_words = 3 ∷ 0 ∷ 6 ∷ 12 ∷ 1 ∷ 0 ∷ 2 ∷ 8 ∷ 2 ∷ 3 ∷ 5 ∷ 12 ∷ []

abbrev tree_of_four : List ℕ
tree_of_four = 1 ∷ 0 ∷ 0 ∷ 6 ∷ 2 ∷ 1 ∷ 0 ∷ 1 ∷ 3 ∷ 0 ∷ 6 ∷ 3 ∷ 2 ∷ 0 ∷ 1 ∷ 1 ∷ 0 ∷ 2 ∷ 0 ∷ 0 ∷ 4 ∷ 1 ∷ 2 ∷ 3 ∷ 2 ∷ 0 ∷ 0 ∷ 0 ∷ []

-- two cells and a quarter of twelve words are five items: 576 words of work
part_unpacked : materialised 4 part_cells part_words 576 (replicate 29 9) ≡ record {
  outcome = accepted (4 ∷ 0 ∷ []);
  outputs = (1 ∷ 0 ∷ 0 ∷ 6 ∷ 2 ∷ 1 ∷ 0 ∷ 1 ∷ 3 ∷ 0 ∷ 6 ∷ 3 ∷ 2 ∷ 0 ∷ 1 ∷ 1 ∷ 0 ∷ 2 ∷ 0 ∷ 0 ∷ 4 ∷ 1 ∷ 2 ∷ 3 ∷ 2 ∷ 0 ∷ 0 ∷ 0 ∷ 9 ∷ []) ∷ [];
}
unfolding materialised
part_unpacked = refl

work_short : materialised 4 part_cells part_words 575 (replicate 28 9) ≡ record { outcome = refused 11 0; outputs = replicate 28 9 ∷ [] }
unfolding materialised
work_short = refl

cells_short : materialised 4 part_cells part_words 576 (replicate 27 9) ≡ record { outcome = refused 12 0; outputs = replicate 27 9 ∷ [] }
unfolding materialised
cells_short = refl

-- a quarter of thirteen words is three; 15 comes after 11, and 1 before both
quarter_down : materialised 4 part_cells (3 ∷ 0 ∷ 6 ∷ 12 ∷ 1 ∷ 0 ∷ 2 ∷ 8 ∷ 2 ∷ 3 ∷ 5 ∷ 12 ∷ 0 ∷ []) 576 [] ≡ record { outcome = refused 15 2; outputs = [] ∷ [] }
unfolding materialised
quarter_down = refl

work_before_cells : materialised 4 part_cells (0 ∷ []) 287 [] ≡ record { outcome = refused 11 0; outputs = [] ∷ [] }
unfolding materialised
work_before_cells = refl

types_first : materialised 65537 [] [] 0 [] ≡ record { outcome = refused 1 0; outputs = [] ∷ [] }
unfolding materialised
types_first = refl

-- up to 8 children are left as they are, and the packed words are written
few_children : balances 4 part_cells part_words 576 (replicate 15 9) (replicate 12 9) ≡ record {
  outcome = accepted (2 ∷ 12 ∷ []);
  outputs = (1 ∷ 0 ∷ 0 ∷ 6 ∷ 2 ∷ 1 ∷ 0 ∷ 2 ∷ 0 ∷ 0 ∷ 6 ∷ 0 ∷ 12 ∷ 0 ∷ 9 ∷ []) ∷ part_words ∷ [];
}
unfolding balances
few_children = refl

words_short : balances 4 part_cells part_words 576 (replicate 14 9) (replicate 11 9) ≡ record { outcome = refused 13 0; outputs = replicate 14 9 ∷ replicate 11 9 ∷ [] }
unfolding balances
words_short = refl

-- three lines with S added, of cells without words
three_lines : listed 4 4 10 tree_of_four [] 480 (replicate 13 9) ≡ record {
  outcome = accepted (3 ∷ []);
  outputs = (0 ∷ 3 ∷ 10 ∷ 16 ∷ 1 ∷ 1 ∷ 10 ∷ 12 ∷ 1 ∷ 2 ∷ 13 ∷ 15 ∷ 9 ∷ []) ∷ [];
}
unfolding listed
three_lines = refl

lines_short : listed 4 4 0 tree_of_four [] 480 (replicate 11 9) ≡ record { outcome = refused 14 0; outputs = replicate 11 9 ∷ [] }
unfolding listed
lines_short = refl

-- the same lines straight from the packed part, whose five items ask 576 words of work
part_listed : listed 4 4 10 part_cells part_words 576 (replicate 13 9) ≡ record {
  outcome = accepted (3 ∷ []);
  outputs = (0 ∷ 3 ∷ 10 ∷ 16 ∷ 1 ∷ 1 ∷ 10 ∷ 12 ∷ 1 ∷ 2 ∷ 13 ∷ 15 ∷ 9 ∷ []) ∷ [];
}
unfolding listed
part_listed = refl

part_work_short : listed 4 4 10 part_cells part_words 575 (replicate 13 9) ≡ record { outcome = refused 11 0; outputs = replicate 13 9 ∷ [] }
unfolding listed
part_work_short = refl

part_lines_short : listed 4 4 10 part_cells part_words 576 (replicate 11 9) ≡ record { outcome = refused 14 0; outputs = replicate 11 9 ∷ [] }
unfolding listed
part_lines_short = refl

-- so the conditions of the law that both ways list the same are met: here by P, with three slices of just the work that 11 asks
both_ways :
    Taken (list_call 4 4 10 part_cells part_words 576 (replicate 13 9)) × Taken (materialise_call 4 part_cells part_words 576 (replicate 29 9))
    × Taken (list_call 4 4 10 (cells_out (materialise_call 4 part_cells part_words 576 (replicate 29 9))) [] 480 (replicate 13 9))
unfolding materialised listed
both_ways = (
  ap (λ (r : Result). number_of r.outcome) part_listed,
  ap (λ (r : Result). number_of r.outcome) part_unpacked,
  ap (λ (r : Result). number_of (list_call 4 4 10 (cells_out r) [] 480 (replicate 13 9)).outcome) part_unpacked
      ∙ ap (λ (r : Result). number_of r.outcome) three_lines,
)

-- a part without its words
words_missing : listed 4 4 0 part_cells [] 480 [] ≡ record { outcome = refused 15 2; outputs = [] ∷ [] }
unfolding listed
words_missing = refl

-- an empty part of length 1 ends at S + 1, though it has no line; a top's own length is free
empty_part_past : listed 4 4 4294967295 (1 ∷ 0 ∷ 0 ∷ 1 ∷ 2 ∷ 1 ∷ 0 ∷ 2 ∷ 0 ∷ 0 ∷ 1 ∷ 0 ∷ 0 ∷ 0 ∷ []) [] 288 [] ≡ record { outcome = refused 15 2; outputs = [] ∷ [] }
unfolding listed
empty_part_past = refl

empty_part_fits : listed 4 4 4294967294 (1 ∷ 0 ∷ 0 ∷ 1 ∷ 2 ∷ 1 ∷ 0 ∷ 2 ∷ 0 ∷ 0 ∷ 1 ∷ 0 ∷ 0 ∷ 0 ∷ []) [] 288 [] ≡ record { outcome = accepted (0 ∷ []); outputs = [] ∷ [] }
unfolding listed
empty_part_fits = refl

top_free : listed 4 4 4294967295 (1 ∷ 0 ∷ 0 ∷ 1 ∷ 0 ∷ 0 ∷ 0 ∷ []) [] 192 [] ≡ record { outcome = accepted (0 ∷ []); outputs = [] ∷ [] }
unfolding listed
top_free = refl

-- a part of length 6 whose one record ends at 2: its end is counted by its own length
abbrev sooner_cells : List ℕ
sooner_cells = 1 ∷ 0 ∷ 0 ∷ 6 ∷ 2 ∷ 1 ∷ 0 ∷ 2 ∷ 0 ∷ 0 ∷ 6 ∷ 0 ∷ 4 ∷ 0 ∷ []

part_end_past : listed 4 4 4294967290 sooner_cells (1 ∷ 0 ∷ 2 ∷ 4 ∷ []) 384 (replicate 4 9) ≡ record { outcome = refused 15 2; outputs = replicate 4 9 ∷ [] }
unfolding listed
part_end_past = refl

part_end_fits : listed 4 4 4294967289 sooner_cells (1 ∷ 0 ∷ 2 ∷ 4 ∷ []) 384 (replicate 4 9) ≡ record {
  outcome = accepted (1 ∷ []);
  outputs = (0 ∷ 1 ∷ 4294967289 ∷ 4294967291 ∷ []) ∷ [];
}
unfolding listed
part_end_fits = refl

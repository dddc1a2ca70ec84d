-- "Directly under a repeat tree, a record of its id counts alone, its start is not tested": a walk goes on past such a
-- record although it starts before the limit. Computed. Assumes nothing.
use mathlib.Core.Path.{◌≡◌, refl}
use mathlib.Core.List.{[], ◌∷◌}
use Rattle.std.specs.Prelude.{None, Some}
use Rattle.records.specs.Forest.{count, behind}
use Rattle.records.specs.Parse.{nearest, farther, parse_from, parse}
use Rattle.tree.specs.Trees.{nil, tree, part, ◌⊕◌, is_nil, last_end}
use Rattle.tree.specs.Items.{repeats, same, items, records, first, leftmost}
use Rattle.tree.specs.Pack.{width, words, stopped, early, scan, long, packs, run_from, entry, pack, run_part}
use Rattle.tree.specs.Groups.{fresh, gather, close, pass, finish}
use Rattle.tree.specs.Flat.{flattened, flat_words, held_end, flat_part, hold, limit, full, ends, too_deep, flat}
use Rattle.tree.specs.Build.{walk, first_level, build}

-- F 2, b 4: (1,6,8,4) (2,0,8,8) (1,8,10,4) (2,0,10,16). The limit of the run that ends at 10 is 6; the record of id 2
-- from 0 to 8 is passed over, and the span before it is in the run.
pub alone_start :
    build 2 4 0 0 None (parse (1 ∷ 6 ∷ 8 ∷ 4 ∷ 2 ∷ 0 ∷ 8 ∷ 8 ∷ 1 ∷ 8 ∷ 10 ∷ 4 ∷ 2 ∷ 0 ∷ 10 ∷ 16 ∷ []))
    ≡ tree (Some 0) 0 10 (tree (Some 2) 0 10 (part 6 4 (1 ∷ 0 ∷ 2 ∷ 4 ∷ 1 ∷ 2 ∷ 4 ∷ 8 ∷ []) nil) nil) nil
unfolding count behind nearest farther parse_from parse ◌⊕◌ is_nil last_end repeats same items records first leftmost width words stopped early scan long packs run_from entry pack run_part fresh gather close pass finish flattened flat_words held_end flat_part hold limit full ends too_deep flat walk first_level build
alone_start = refl

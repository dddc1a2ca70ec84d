-- Constants of the tree calls from both sides: one less or one more in the definition would break a law here. 96 stands in
-- CallExamples. By computation.
-- Assumes nothing.
use mathlib.Core.Path.{◌≡◌, refl}
use mathlib.Core.List.{List, [], ◌∷◌}
use Prim.Native.Nat.{ℕ, suc, ◌+◌, ◌*◌, ◌≤◌, ◌<◌}
use native.Mathlib.Omega.{arith}
use Rattle.words.specs.Outcome.{accepted, refused}
use Rattle.rules.specs.Calls.{result_room, lines_room, most_items}
use Rattle.rules.proofs.CallExamples.{materialised, listed}
use Rattle.tree.specs.Calls.{room}

-- a top of id 65,535 alone
abbrev pub top_alone : List ℕ
top_alone = 1 ∷ 65535 ∷ 0 ∷ 0 ∷ 0 ∷ 0 ∷ 0 ∷ []

-- "1: T above 65,536"
pub type_limits :
    (materialised 65536 top_alone [] 192 top_alone ≡ record { outcome = accepted (1 ∷ 0 ∷ []); outputs = top_alone ∷ [] })
    × (materialised 65537 top_alone [] 192 top_alone ≡ record { outcome = refused 1 0; outputs = top_alone ∷ [] })
unfolding materialised
type_limits = (refl, refl)

-- a top over one child of length 1
abbrev pub short_child : List ℕ
short_child = 1 ∷ 0 ∷ 0 ∷ 0 ∷ 2 ∷ 1 ∷ 0 ∷ 1 ∷ 0 ∷ 0 ∷ 1 ∷ 0 ∷ 0 ∷ 0 ∷ []

-- "Absolute ends, counted from S in listing .., fit 32 bits": 4,294,967,295 does; the top's own is free
pub end_limits :
    (listed 1 1 4294967294 short_child [] 288 [] ≡ record { outcome = refused 14 0; outputs = [] ∷ [] })
    × (listed 1 1 4294967295 short_child [] 288 [] ≡ record { outcome = refused 15 2; outputs = [] ∷ [] })
unfolding listed
end_limits = (refl, refl)

-- "12, 13": seven words a cell, and no more cells than 32 bits can number
pub cell_limits :
    (result_room 4294967295 0 30064771065 0 ≡ accepted (4294967295 ∷ 0 ∷ [])) × (result_room 4294967295 0 30064771064 0 ≡ refused 12 0)
    × (result_room 4294967296 0 30064771072 0 ≡ refused 12 0)
    × (result_room 1 5 7 5 ≡ accepted (1 ∷ 5 ∷ [])) × (result_room 1 5 7 4 ≡ refused 13 0)
unfolding result_room room
cell_limits = (refl, refl, refl, refl, refl)

-- "14": four words a line, and no more lines than 32 bits can number
pub line_limits :
    (lines_room 8 8 ≡ accepted (2 ∷ [])) × (lines_room 8 7 ≡ refused 14 0)
    × (lines_room 17179869180 17179869180 ≡ accepted (4294967295 ∷ [])) × (lines_room 17179869184 17179869184 ≡ refused 14 0)
unfolding lines_room
line_limits = (refl, refl, refl, refl)

-- the words of work that balance's most items ask can be named by 32 bits, those of one item more cannot
pub item_limits : (96 * most_items + 96 ≤ 4294967295) × (4294967295 < 96 * suc most_items + 96)
item_limits = (omega arith, omega arith)

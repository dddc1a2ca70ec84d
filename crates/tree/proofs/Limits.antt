-- The examples of document 01 at its limits: chains of one range, 2,503 and 2,504 levels deep, and empty siblings,
-- 16,383 and 16,384 of them. Computed. Assumes nothing.
use mathlib.Core.Path.{◌≡◌, refl}
use Rattle.std.specs.Prelude.{None}
use Prim.Native.Nat.{ℕ, zero, suc}
use lib.ListN.{length}
use Rattle.records.specs.Forest.{Forest, empty, add, count, behind}
use Rattle.tree.specs.Trees.{◌⊕◌, nodes, is_nil, last_end}
use Rattle.tree.specs.Items.{repeats, same, items, records, first, leftmost}
use Rattle.tree.specs.Pack.{width, words, stopped, early, scan, long, packs, run_from, entry, pack, run_part}
use Rattle.tree.specs.Groups.{fresh, gather, pass, finish}
use Rattle.tree.specs.Flat.{flattened, flat_words, held_end, flat_part, hold, limit, full, ends, too_deep, flat}
use Rattle.tree.specs.Build.{walk, first_level, build}
use Rattle.tree.specs.Materialise.{within, beyond, unpack, materialise}
use Rattle.tree.specs.Cells.{packed}

-- n records of id 1 from 0 to e, each in the next
unfoldable pub chain : (n e : ℕ) → Forest
chain zero e = empty
chain (suc n) e = add empty 1 0 e (chain n e)

-- how many trees there are once it is built with F 4 and b 1,024 and materialised, the top among them
unfoldable pub chain_nodes : (n e : ℕ) → ℕ
chain_nodes n e = nodes (materialise (build 4 1024 0 0 None (chain n e)))

-- how many packed words it has
unfoldable pub chain_words : (n e : ℕ) → ℕ
chain_words n e = length (packed (build 4 1024 0 0 None (chain n e)))

-- "A chain of ranges 0 to 2,000, b 1,024: 2,503 levels all listed, the last in a part; 2,504 lose one. Ranges 0 to
-- 70,000: 2,503 levels all listed, the last a tree."
pub chains :
    (chain_nodes 2503 2000 ≡ 2504) × (chain_words 2503 2000 ≡ 4)
    × (chain_nodes 2504 2000 ≡ 2504)
    × (chain_nodes 2503 70000 ≡ 2504) × (chain_words 2503 70000 ≡ 0)
unfolding chain chain_nodes chain_words packed behind ◌⊕◌ nodes is_nil last_end repeats same items count records first leftmost width words stopped early scan long packs run_from entry pack run_part fresh gather pass finish flattened flat_words held_end flat_part hold limit full ends too_deep flat walk first_level build within beyond unpack materialise
chains = (refl, refl, refl, refl, refl)

-- n records of id 1 from 0 to 0, one after the other
unfoldable pub empties : (n : ℕ) → Forest
empties zero = empty
empties (suc n) = add (empties n) 1 0 0 empty

-- "16,383 empty siblings make one part; 16,384 a part and a tree": the top among the nodes
pub empty_siblings : (nodes (build 4 1024 0 0 None (empties 16383)) ≡ 2) × (nodes (build 4 1024 0 0 None (empties 16384)) ≡ 3)
unfolding empties behind ◌⊕◌ nodes is_nil last_end repeats same items count records first leftmost width words stopped early scan long packs run_from entry pack run_part fresh gather pass finish flattened flat_words held_end flat_part hold limit full ends too_deep flat walk first_level build
empty_siblings = (refl, refl)

-- Constants of document 01 from both sides: one less or one more in the definition would break a law here. Those of flat parts
-- stand in FlatLimits, 2,500 and 65,532 in Limits.
-- Assumes nothing.
use mathlib.Core.Path.{◌≡◌, refl}
use mathlib.Core.List.{List, [], ◌∷◌}
use Rattle.std.specs.Prelude.{Option, None, Some}
use mathlib.Core.Bool.{false, ◌||◌}
use Prim.Native.Nat.{ℕ, ◌+◌, ◌-◌, ◌*◌, ◌≤◌, ◌<◌}
use native.Mathlib.Omega.{arith}
use lib.Dec.{ltb}
use Rattle.records.specs.Forest.{levels}
use Rattle.records.specs.Parse.{parse}
use Rattle.records.specs.Check.{Accepted}
use Rattle.tree.specs.Trees.{Trees, nil, tree, ◌⊕◌, siblings, kids_of, first_start, last_end}
use Rattle.tree.specs.Balance.{equal_types, all_of, total, share, grows, groups_from, groups, lone, is_tree, joined, placed, each, divide, balance, balanced}
use Rattle.tree.specs.Flat.{Record, rec, hold, limit, full, ends}
use Rattle.tree.specs.Run.{Run}
use Rattle.tree.proofs.Table.{leaves}

-- "Share: 3 × total ÷ 16 rounded up": the least number that 16 times is 3 × total or more
pub share_least : (n : ℕ) → (3 * n ≤ 16 * share n) × (16 * share n < 3 * n + 16)
unfolding share
share_least n = (omega arith, omega arith)

-- n leaf trees, and behind them a tree of `NodeType::none` that holds three of its kind
abbrev pub one_wide : (n : ℕ) → Trees
one_wide n = tree (Some 0) 0 (n + 3) (leaves n 0 ⊕ tree None n 3 (tree None n 1 nil (tree None (n + 1) 1 nil (tree None (n + 2) 1 nil nil))) nil) nil

-- `Tree::balance` "leaves up to 8 children untouched": eight stay, nine become six
pub eight_untouched : (balanced false (one_wide 7) ≡ one_wide 7) × (siblings (kids_of (balanced false (one_wide 8))) ≡ 6)
unfolding leaves ◌⊕◌ siblings kids_of first_start last_end equal_types all_of total share grows groups_from groups lone is_tree joined placed each divide balance balanced
eight_untouched = (refl, refl)

-- "records above 4 words are dropped; 4-word records .. go to a flat part": one of 4 words is held, sets the limit and may end a
-- part, one of 5 words does nothing of the kind
pub held_of_4_words : (b i s e stop : ℕ) (held : List Record)
    → (hold (rec i s e 4) held ≡ rec i s e 4 ∷ held) × (hold (rec i s e 5) held ≡ held)
    × (limit b (rec i s e 4) [] stop ≡ e - b) × (limit b (rec i s e 5) [] stop ≡ 0)
    × (ends (rec i s e 4) held stop ≡ (full held || ltb s stop)) × (ends (rec i s e 5) held stop ≡ (full held || false))
unfolding hold limit ends
held_of_4_words b i s e stop held = (refl, refl, refl, refl, refl, refl)

-- demand 3 is for lists nested up to 2,503 levels: an accepted one of 2,503 has its run
pub run_of_2503 : (F S T b top : ℕ) (given : Option ℕ) (ws : List ℕ) → Accepted T b top S ws → levels (parse ws) ≡ 2503 → Run F S
run_of_2503 F S T b top given ws a deep =
    record { types = T; bound = b; top = top; given = given; records = ws; accepted = a; nested = omega arith }

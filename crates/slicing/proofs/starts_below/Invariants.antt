-- `slicing::starts_below` meets its contract. The invariant: the first such record from record i on is the first of all. Assumes nothing.
use mathlib.Core.Bool.{Bool}
use mathlib.Core.Path.{◌≡◌}
use mathlib.Core.List.{List}
use Prim.Native.Nat.{ℕ, ◌-◌, ◌/◌}
use lib.ListN.{length}
use lib.Dec.{ltb}
use Rattle.words.specs.Words.{start_of}
use Rattle.words.specs.First.{first_from}
use Rattle.slicing.proofs.starts_below.Given as goal

-- does record i start below the base?
abbrev pub below : List ℕ → ℕ → ℕ → Bool
below cut base i = ltb (start_of cut i) base

abbrev pub invariant-loop-i : goal.invariant-loop-i
invariant-loop-i l = first_from (below l.cut l.base) 0 (length l.cut / 4) ≡ first_from (below l.cut l.base) l.i (length l.cut / 4 - l.i)

-- What a tree has gathered, in the store, after other words changed. Assumes nothing.
use mathlib.Core.Bool.{false}
use mathlib.Core.List.{List}
use Prim.Native.Nat.{ℕ, ◌≤◌}
use Rattle.tree.specs.Groups.{Gathered}
use Rattle.store.specs.Store.{Same}
use Rattle.store.proofs.Frame.{frame}
use Rattle.gathering.specs.Gathering.{HoldsGathered}

pub gathered_frame : (w w' : List ℕ) (base top low top' low' : ℕ) → top ≤ top' → low' ≤ low → Same w w' base top low
    → (groups loose edge : ℕ) (g : Gathered) → HoldsGathered w base top low groups loose edge g → HoldsGathered w' base top' low' groups loose edge g
gathered_frame w w' base top low top' low' up down s groups loose edge g h = record {
  groups_at = frame false w w' base top low top' low' up down s groups g.groups h.groups_at;
  loose_at = frame false w w' base top low top' low' up down s loose g.loose h.loose_at;
  edge_is = h.edge_is;
}

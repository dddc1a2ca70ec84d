-- Trees in order and nested up to the largest word have ends that fit a word. Assumes nothing.
use mathlib.Core.List.{List}
use Prim.Native.Nat.{ℕ, ◌+◌, ◌≤◌}
use native.Mathlib.Omega.{arith}
use Rattle.tree.specs.Trees.{Trees, nil, tree, part}
use Rattle.tree.proofs.WellLaws.{well-≤}
use Rattle.balance_core.specs.Rows.{Ends}
use Rattle.tree.specs.Well.{Well}

module _ (T : ℕ) (Inside : ℕ → ℕ → List ℕ → Type 0) where
  pub ends_well : (lo hi : ℕ) (ts : Trees) → Well T Inside lo hi ts → hi ≤ 4294967295 → Ends ts
  ends_well lo hi nil w h = tt
  ends_well lo hi (tree t s l kids rest) w h =
      let near : s + l ≤ hi = well-≤ T Inside (s + l) hi rest w.rest in
      record {
        own = omega arith;
        inner = ends_well s (s + l) kids w.inner (omega arith);
        after = ends_well (s + l) hi rest w.rest h;
      }
  ends_well lo hi (part s l ws rest) w h =
      let near : s + l ≤ hi = well-≤ T Inside (s + l) hi rest w.rest in
      record { own = omega arith; after = ends_well (s + l) hi rest w.rest h }

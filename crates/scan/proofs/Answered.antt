-- What a caller knows of an answer: the run is measured. Assumes nothing.
use mathlib.Core.Path.{◌≡◌, refl}
use Rattle.std.specs.Prelude.{Option, None, Some, Ok}
use Prim.Native.Nat.{ℕ, ◌-◌}
use native.Mathlib.Omega.{arith}
use Rattle.tree.specs.Items.{Items, span, first, leftmost}
use Rattle.tree.specs.Pack.{words}
use Rattle.tree.proofs.RecordCounts.{words_records}
use Rattle.scan.specs.Found.{measured, Found}
use Rattle.scan.specs.declared.BufferScan.{BufferScan}

module _ (F start : ℕ) (run : Items) where
  pub measured_ordinary : (measured F start run).size - (measured F start run).skip ≡ words F run
  unfolding measured
  measured_ordinary = omega (arith, words_records F run)

module _ (F at limit i s e : ℕ) (kids rest : Items) where
  pub answered_run : (o : Option ℕ) (t : BufferScan) → Found F at limit i s e kids rest o (Ok t)
      → (k : ℕ) × (o ≡ Some k) × (t ≡ measured F (leftmost s (first k rest)) (span i s e kids (first k rest)))
  answered_run None t h = let x = h.1 in absurd cc
  answered_run (Some k) t h = (k, refl, cc)

-- A cut that passes its check, and has no room: refused with 13. Assumes nothing.
use mathlib.Core.Path.{◌≡◌, sym}
use mathlib.Core.List.{List, [], ◌∷◌}
use Rattle.std.specs.Prelude.{None}
use Prim.Native.Nat.{ℕ, ◌-◌, ◌/◌, ◌%◌, ◌≤◌, ◌<◌}
use lib.ListN.{length}
use Rattle.words.specs.Outcome.{accepted, refused}
use Rattle.words.specs.Words.{run}
use Rattle.part.specs.Part.{faults_from, part_check}
use Rattle.part.specs.Rebased.{rebased}
use Rattle.slicing.specs.Slice.{starts_below, slice_part}
use Rattle.slicing.proofs.Cases.{no_room}

pub lacks_room : (w : List ℕ) (types from to base : ℕ) (out counts figures : List ℕ) → accepted counts ≡ part_check w types → from ≤ to → to ≤ length w → from % 4 ≡ 0 → to % 4 ≡ 0 → None ≡ starts_below (run w from to) base → accepted figures ≡ faults_from (rebased from 0 (run w from to)) types 0 (length (run w from to) / 4) → length out < to - from → slice_part w types from to base out ≡ record { outcome = refused 13 0; outputs = out ∷ [] }
lacks_room w types from to base out counts figures ok a b x y high good l =
    sym (no_room w types from to base out counts (sym ok) a b x y (sym high) figures (sym good) l)

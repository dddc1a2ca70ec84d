-- Rebasing record by record into the front of an output. Assumes nothing.
use mathlib.Core.Path.{◌≡◌}
use mathlib.Core.List.{List}
use Prim.Native.Nat.{ℕ, ◌+◌, ◌*◌, ◌/◌, ◌≤◌}
use native.Mathlib.Omega.{arith}
use lib.ListN.{length, drop, length-drop}
use Rattle.words.specs.Words.{put, front}
use Rattle.words.proofs.Runs.{Fronted, fronted_none, fronted_length, fronted_next, fronted_all}
use Rattle.part.specs.Rebased.{rebased}
use Rattle.part.proofs.Rebased.{record_at, rebased_step, rebased_end}

-- the first i records stand rebased at the front of the output
abbrev pub Done : (from base : ℕ) (cut out₀ out : List ℕ) (i : ℕ) → Type 0
Done from base cut out₀ out i = Fronted (rebased from base cut) out₀ out (rebased from base (drop (i * 4) cut)) (i * 4)

pub done_none : (from base : ℕ) (cut out : List ℕ) → Done from base cut out out 0
done_none from base cut out = fronted_none (rebased from base cut) out

module _ (from base : ℕ) (cut out₀ out : List ℕ) (i : ℕ) (h : Done from base cut out₀ out i) where
  pub done_length : i * 4 ≤ length out₀ → length out ≡ length out₀
  done_length l = fronted_length _ out₀ out _ (i * 4) h l

  pub done_next : (out' : List ℕ) → i * 4 + 4 ≤ length cut → out' ≡ put out (i * 4) (record_at from base cut i) → Done from base cut out₀ out' (i + 1)
  done_next out' l e = fronted_next _ out₀ out _ (i * 4) h (record_at from base cut i) _ out' ((i + 1) * 4) (omega arith) (rebased_step from base cut i l) e

  pub done_all : length cut / 4 ≤ i → out ≡ front (rebased from base cut) out₀
  done_all l = fronted_all _ out₀ out _ (i * 4) h (rebased_end from base (drop (i * 4) cut) (rw length-drop (omega arith)))

-- A base that leaves room for an end of 16 bits: no record on the way ends past 32 bits. Assumes nothing.
use mathlib.Core.Path.{◌≡◌}
use mathlib.Core.List.{List}
use Rattle.std.specs.Prelude.{None}
use Prim.Native.Nat.{ℕ, ◌+◌, ◌≤◌}
use native.Mathlib.Omega.{arith}
use borrow.Author.Tests.{le-ltb}
use lib.ListN.{get_or}
use mir.Val.{Fits}
use mir.Syntax.{w16}
use Rattle.search.specs.Search.{way_to, too_far, beyond}
use Rattle.words.proofs.Firsts.{in_all_miss}

pub none_beyond : (w : List ℕ) (from to base : ℕ) → ((i : ℕ) → Fits w16 (get_or w i 0)) → base ≤ 4294901760 → beyond w from to base ≡ None
unfolding beyond
none_beyond w from to base fits low =
    in_all_miss (too_far w base) (way_to w from to) (λ k. le-ltb 4294967295 (base + get_or w (k + 2) 0) (omega (arith, low, fits (k + 2))))

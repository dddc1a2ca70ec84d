-- A part that the part check accepts, record by record over the list of its words, with the end indices that are still open
-- beside it: what each record satisfies. Assumes nothing.
use mathlib.Core.Path.{◌≡◌, refl}
use mathlib.Core.Bool.{Bool, true, false, cond, ◌||◌, not}
use mathlib.Core.List.{List, []}
use Prim.Native.Nat.{ℕ, ◌+◌, ◌%◌, ◌≤◌, ◌<◌}
use native.Mathlib.Omega.{arith}
use borrow.Author.Tests.{le-ltb, eq-eqb, ltb-false, leb-false, eqb-true, not-false}
use lib.Dec.{ltb, leb, eqb}
use lib.ListN.{length}
use Rattle.words.specs.Outcome.{accepted}
use Rattle.part.specs.Part.{part_check}
use Rattle.part.proofs.Faults.{passes}
use Rattle.tree.proofs.PartForms.{past_enclosing, entry_fault, entries_fault, part_fault, accepted_part}
use Rattle.rules.proofs.Tests.{neither}

-- a chain of tests that ends in 0 took none of its branches
branches : (a b c : Bool) (r : ℕ) → ◌≡◌ {A = ℕ} (cond a 17 (cond b 18 (cond c 19 r))) 0 → (a ≡ false) × (b ≡ false) × (c ≡ false) × (r ≡ 0)
branches true b c r h = absurd (omega arith)
branches false true c r h = absurd (omega arith)
branches false false true r h = absurd (omega arith)
branches false false false r h = (refl, refl, refl, h)

-- what a record without a fault satisfies
pub record Fine (T n off : ℕ) (ends : List ℕ) (i s e x : ℕ) : Type 0 where
  pub known : i < T
  pub ordered : s ≤ e
  pub after : off + 4 ≤ x
  pub fits : x ≤ n
  pub whole : x % 4 ≡ 0
  pub under : past_enclosing x ends ≡ 0

pub fine : (T n off : ℕ) (ends : List ℕ) (i s e x : ℕ) → entry_fault T n off ends i s e x ≡ 0 → Fine T n off ends i s e x
unfolding entry_fault
fine T n off ends i s e x h =
    let (a, b, c, d) = branches (leb T i) (ltb e s) (ltb x (off + 4) || (ltb n x || not (eqb (x % 4) 0))) (past_enclosing x ends) h in
    let (c₀, c₁) = neither (ltb x (off + 4)) _ c in
    let (c₂, c₃) = neither (ltb n x) _ c₁ in
    record {
      known = leb-false T i a;
      ordered = ltb-false e s b;
      after = ltb-false x (off + 4) c₀;
      fits = ltb-false n x c₂;
      whole = eqb-true (x % 4) 0 (not-false _ c₃);
      under = d;
    }

-- an accepted part has no fault in its records
pub no_fault : (T : ℕ) (ws counts : List ℕ) → part_check ws T ≡ accepted counts → (entries_fault T (length ws) 0 [] ws).0 ≡ 0
unfolding part_fault
no_fault T ws counts h =
    let p = passes ws T counts h in
    rw (le-ltb 65536 T p.few_types, eq-eqb (length ws % 4) 0 p.whole) at (accepted_part T ws counts h)

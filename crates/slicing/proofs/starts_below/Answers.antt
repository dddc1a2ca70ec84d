-- `slicing::starts_below` meets its contract. The invariant: the first such record from record i on is the first of all. Assumes nothing.
use mathlib.Core.Bool.{Bool, cond}
use mathlib.Core.Path.{◌≡◌, sym, ap, ◌∙◌}
use Rattle.std.specs.Prelude.{Some}
use native.Mathlib.Omega.{arith}
use borrow.Author.Tests.{le-ltb, lt-ltb}
use Prim.Native.Nat.{ℕ, ◌+◌, ◌-◌, ◌/◌}
use lib.ListN.{length}
use Rattle.words.specs.Words.{start_of}
use Rattle.words.specs.First.{first_from}
use Rattle.words.proofs.Firsts.{from_step, from_end}
use Rattle.slicing.proofs.starts_below.Invariants.{below}
use Rattle.slicing.proofs.starts_below.Goals.{After-from}
use Rattle.slicing.proofs.starts_below.Goals as goal

-- one turn of the definition
module _ (c : After-from) where
  abbrev test₁ : ℕ → Bool
  test₁ = below c.args.cut.now c.args.base

  abbrev n₁ : ℕ
  n₁ = length c.args.cut.now / 4

  step_at : first_from test₁ 0 n₁ ≡ cond (test₁ c.loop-i.i) (Some c.loop-i.i) (first_from test₁ (c.loop-i.i + 1) (n₁ - (c.loop-i.i + 1)))
  step_at = c.loop-i.invariant ∙ from_step test₁ c.loop-i.i n₁ c.loop-i-test.true

pub loop-i-init : goal.loop-i-init
loop-i-init c = ap (first_from (below c.args.cut.now c.args.base) 0) (omega arith)

pub returns-then-from-base : goal.returns-then-from-base
returns-then-from-base c =
    let start = start_of c.args.cut.now c.loop-i.i in
    sym (step_at (goal.at.returns-then-from-base c).After-from ∙ rw (lt-ltb start c.args.base (omega (arith, c.from.ensures, c.if-from-base.true))))

pub loop-i-preserved : goal.loop-i-preserved
loop-i-preserved c =
    let start = start_of c.args.cut.now c.loop-i.i in
    step_at (goal.at.loop-i-preserved c).After-from ∙ rw (le-ltb start c.args.base (omega (arith, c.from.ensures, c.if-from-base.false)))

pub returns : goal.returns
returns c =
    sym (c.loop-i.invariant ∙ from_end (below c.args.cut.now c.args.base) c.loop-i.i (length c.args.cut.now / 4) c.loop-i-test.false)

-- What `accept` promises: the first three tests of the calls that take a tree, by the definition `unless_bad` of crate `rules`. Only internal
-- functions cite this.
use Rattle.std.specs.Prelude.{◌≡◌, List, ℕ, ◌+◌, ◌*◌, ◌≤◌, None}
use Rattle.std.specs.declared.result.Result.{Result}
use Rattle.std.specs.declared.result.Result.TheVariants.{Ok, Err}
use Rattle.words.specs.Outcome.{Outcome}
use Rattle.words.specs.Refusal.{refused_by}
use Rattle.words.specs.declared.refusal.Refusal.{Refusal}
use Rattle.rules.specs.Lowest.{bad_cell}
use Rattle.rules.specs.Calls.{items, unless_bad}

-- none of 1, 11 and 15 applies
pub record Passed (T S : ℕ) (cs ws : List ℕ) (work : ℕ) : Type 0 where
  pub types : T ≤ 65536
  pub lent : 96 * items cs ws + 96 ≤ work
  pub cells : bad_cell T S cs ws ≡ None

-- Refused, the call is refused by the same, whatever would follow; else none of the three applies.
abbrev pub Tested : {A : Type 0} → (T S : ℕ) (cs ws : List ℕ) (work : ℕ) → Result A Refusal → Type 0
Tested T S cs ws work (Ok a) = Passed T S cs ws work
Tested T S cs ws work (Err r) = (next : Outcome) → unless_bad T S cs ws work next ≡ refused_by r

-- What the part check's internal functions promise about the ends of the open records, and about one record more. Only internal
-- functions cite these.
use Rattle.std.specs.Prelude.{◌≡◌, List, cond, ℕ, zero, suc, ◌+◌, ◌-◌, ◌*◌, ◌/◌, ◌≤◌, ◌<◌, min, max, ltb, length, get_or, set}
use Rattle.words.specs.Words.{end_of, record_width}
use Rattle.part.specs.Part.{end_index, fault, enclosing}
use Rattle.part.specs.declared.Progress.{Progress}
use Rattle.part.specs.Answer.{number_or_none}
use Rattle.std.specs.declared.result.Result.{Result}
use Rattle.std.specs.Result.{IfOk}
use Rattle.words.specs.declared.refusal.PackedFault.{PackedFault}

-- r of the first `top` ends stay open at an offset: those from r on are not above it, and the one below r is
pub record Innermost (ends : List ℕ) (top at r : ℕ) : Type 0 where
  pub below : r ≤ top
  pub closed : (k : ℕ) → r ≤ k → k < top → get_or ends k 0 ≤ at
  pub innermost : 0 < r → at < get_or ends (r - 1) 0

-- how many of the first `top` ends are above an offset
unfoldable pub above : List ℕ → (top at : ℕ) → ℕ
above ends zero at = 0
above ends (suc t) at = cond (ltb at (get_or ends t 0)) 1 0 + above ends t at

-- The first `top` ends are end indices of the first i records, none above the one below it; every one of those that encloses record i is
-- among them, and as many are above an offset from record i on as there are records that enclose it.
pub record Stack (w ends : List ℕ) (i top : ℕ) : Type 0 where
  pub room : min (length w / record_width) 16383 ≤ length ends
  pub few : top ≤ i
  pub sound : (k : ℕ) → k < top → (j : ℕ) × (j < i) × (get_or ends k 0 ≡ end_index w j)
  pub complete : (j : ℕ) → j < i → i * record_width < end_index w j → (k : ℕ) × (k < top) × (get_or ends k 0 ≡ end_index w j)
  pub falling : (a b : ℕ) → a ≤ b → b < top → get_or ends b 0 ≤ get_or ends a 0
  pub counted : (at : ℕ) → i * record_width ≤ at → enclosing w i at ≡ above ends top at

-- record i has no fault: of the ends `still` stay open, its end index is put on them, and its end and its nesting are counted in
pub record Passed (w : List ℕ) (i : ℕ) (ends ends' : List ℕ) (s r : Progress) : Type 0 where
  pub still : ℕ
  pub innermost : Innermost ends s.top (i * record_width) still
  pub room : still < length ends
  pub top_is : r.top ≡ still + 1
  pub ends_are : ends' ≡ set ends still (end_index w i)
  pub greatest_is : r.greatest ≡ max s.greatest (end_of w i)
  pub deepest_is : r.deepest ≡ max s.deepest (enclosing w i (i * record_width) + 1)
  pub stack : Stack w ends' (i + 1) r.top

-- record i was tested
pub record Tested (w : List ℕ) (types i : ℕ) (ends ends' : List ℕ) (s : Progress) (r : Result Progress PackedFault) : Type 0 where
  pub fault_is : number_or_none r ≡ fault w types i
  pub passed : IfOk r (Passed w i ends ends' s)

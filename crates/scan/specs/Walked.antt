-- How far a scan's walk has got, and what it remembers for the next scan under the same parent. Only internal functions cite
-- these.
use Rattle.std.specs.Prelude.{◌≡◌, List, ℕ, zero, suc, ◌+◌, ◌-◌, ◌≤◌, ◌<◌, Option, None, Some}
use Rattle.std.specs.Option.{option_map}
use Rattle.tree.specs.Items.{Items, nil, mark, span, records, first, leftmost}
use Rattle.cursor.specs.Spells.{Stands}
use Rattle.scan.specs.Counted.{Counted}
use Rattle.scan.specs.declared.Memo.{Memo}

-- there are k items, and the spans among them start at or after the limit
abbrev pub Near : (limit k : ℕ) → Items → Type 0
Near limit zero its = Unit {0}
Near limit (suc k) nil = ⊥
Near limit (suc k) (mark i s e n rest) = Near limit k rest
Near limit (suc k) (span i s e kids rest) = (limit ≤ s) × Near limit k rest

-- how many items stand before the last mark among the first k, which is the run noted last
unfoldable pub last_mark : (k : ℕ) → Items → Option ℕ
last_mark zero its = None
last_mark (suc k) nil = None
last_mark (suc k) (mark i s e n rest) = elim (last_mark k rest) [ None ↦ Some 0 | Some j ↦ Some (suc j) ]
last_mark (suc k) (span i s e kids rest) = option_map suc (last_mark k rest)

-- the place where the run noted last ends, and where its leftmost span starts; a place not before `at` says that none is noted
abbrev pub Noted : (at d : ℕ) → Items → Option ℕ → (place edge : ℕ) → Type 0
Noted at d its None place edge = at ≤ place
Noted at d its (Some j) place edge = (place + records (first j its) ≡ at) × (edge ≡ leftmost d (first j its))

-- A walk from `at` back over the first k items has got as far as the memo says.
pub record Walked (at : ℕ) (its : Items) (limit : ℕ) (m : Memo) : Type 0 where
  pub k : ℕ
  pub d : ℕ
  pub near : Near limit k its
  pub reached : m.place + records (first k its) ≡ at
  pub starts : m.start ≡ leftmost d (first k its)
  pub noted : Noted at d its (last_mark k its) m.mark m.edge

-- what an earlier scan has walked of these items; nothing where its place is not before `at`
abbrev pub Remembered : (at : ℕ) → Items → (limit : ℕ) → Memo → Type 0
Remembered at its limit m = m.place < at → Walked at its limit m

-- What a scan from behind record at - 1 takes: the span there and the items before it, the counts, and a memo of a scan whose
-- limit was no lower.
pub record Scans (F : ℕ) (own : Option ℕ) (w l : List ℕ) (lo at bound : ℕ) (memo : Memo) (i s e : ℕ) (kids rest : Items) : Type 0 where
  pub stands : Stands F own w lo at (span i s e kids rest)
  pub counted : Counted F w l at
  pub small : at < 4294967296
  pub limit : ℕ
  pub falls : e - bound ≤ limit
  pub remembered : Remembered at (span i s e kids rest) limit memo

-- there are such items
pub record Scannable (own : Option ℕ) (w l : List ℕ) (lo at bound : ℕ) (memo : Memo) : Type 0 where
  pub F : ℕ
  pub i : ℕ
  pub s : ℕ
  pub e : ℕ
  pub kids : Items
  pub rest : Items
  pub scans : Scans F own w l lo at bound memo i s e kids rest

-- What the functions behind the check promise. Nothing here is needed to read what the check itself promises.
use Rattle.std.specs.Prelude.{◌≡◌, List, [], Bool, true, false, cond, ◌&&◌, ℕ, zero, suc, ◌+◌, ◌-◌, ◌*◌, ◌≤◌, min, leb, ltb, eqb, length, get_or, take}
use Rattle.std.specs.Prelude.{None}
use Rattle.words.specs.Outcome.{accepted}
use Rattle.words.specs.Words.{id_of, start_of, end_of, last_of, record_width}
use Rattle.records.specs.Forest.{Forest, empty, add, count, behind, postfix}
use Rattle.records.specs.Parse.{parse, nearest}
use Rattle.records.specs.Check.{own_fault, records_check, in_place, list_range_fault}
use Rattle.std.specs.declared.result.Result.{Result}
use Rattle.std.specs.declared.result.Result.TheVariants.{Ok, Err}
use Rattle.words.specs.Refusal.{refused_by}
use Rattle.words.specs.declared.refusal.Refusal.{Refusal}

-- the first p records as a forest: its first level are those that no record among them has inside its span
unfoldable pub finished : List ℕ → ℕ → Forest
finished ws p = parse (take (p * record_width) ws)

-- the first p records have no fault: they are the list of that forest
pub record Spelt (ws : List ℕ) (p : ℕ) : Type 0 where
  pub within : p * record_width ≤ length ws
  pub spelt : postfix (finished ws p) ≡ take (p * record_width) ws

-- the first of 6 to 8 that applies to record i, or 0
abbrev pub fault_at : (T : ℕ) → List ℕ → ℕ → ℕ
fault_at T ws i = own_fault T i (id_of ws i) (start_of ws i) (end_of ws i) (last_of ws i)

-- a record from s to e reaches over its children, which begin at `first` and end at `last`
unfoldable pub reaches : (s e first last : ℕ) → Bool
reaches s e first last = leb s first && leb last e

-- Two tables hold the first-level siblings of a forest: word b of `levels` is the number, from 0, of the sibling whose span begins
-- at record b; `siblings` has two words for each sibling, this record number and its start.
abbrev pub Stacked : (levels siblings : List ℕ) → Forest → (height : ℕ) → Type 0
Stacked v w empty h = h ≡ 0
Stacked v w (add before i s e kids) h =
    record {
      under : ℕ;
      is : h ≡ suc under;
      begins : get_or w (under * 2) 0 ≡ count before;
      starts : get_or w (under * 2 + 1) 0 ≡ s;
      level : get_or v (count before) 0 ≡ under;
      earlier : Stacked v w before under;
    }

-- sibling number `level`, below the height, has a span that begins at record `from`
unfoldable pub begins_at : (siblings : List ℕ) → (level from height : ℕ) → Bool
begins_at w level from height = ltb level height && eqb (get_or w (level * 2) 0) from

-- what the scan answers: 6 to 9 refuse; or they do not, and 10 does not either; or they do not
abbrev pub Says : (T S : ℕ) → List ℕ → Result Bool Refusal → Type 0
Says T S ws (Err r) = records_check T empty ws ≡ refused_by r
Says T S ws (Ok true) = (records_check T empty ws ≡ accepted []) × (list_range_fault S ws ≡ None)
Says T S ws (Ok false) = records_check T empty ws ≡ accepted []

-- none of 6 to 9 applies, under some type count
pub record Faultless (ws : List ℕ) : Type 0 where
  pub types : ℕ
  pub clear : records_check types empty ws ≡ accepted []

-- The lowest of d and the last siblings of a forest, those that hold k records with their descendants, to which 10 applies
-- under a parent from lo to hi.
unfoldable pub judged : (d lo hi : ℕ) → Forest → (k : ℕ) → ℕ
judged d lo hi empty k = d
judged d lo hi (add before i s e kids) zero = d
judged d lo hi (add before i s e kids) (suc k) =
    let good = in_place lo hi (behind lo (nearest before (k - count kids))) s e in
    judged (cond good d (min d (count before + count kids))) lo hi before (k - count kids)

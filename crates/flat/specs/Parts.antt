-- What staging a flat part asks of the work slice and leaves in it. Nothing here is needed to read what a call promises.
use Rattle.std.specs.Prelude.{◌≡◌, List, [], ◌∷◌, true, false, ℕ, ◌+◌, ◌-◌, ◌*◌, ◌≤◌, ◌<◌, length, Option}
use Rattle.words.specs.Words.{record_width, id_of, start_of, end_of}
use Rattle.tree.specs.Trees.{Trees}
use Rattle.tree.specs.Groups.{Gathered, gather}
use Rattle.tree.specs.Flat.{flat_words, flat_part, flat}
use Rattle.store.specs.Store.{Staged, Same, Holds, Readable}
use Rattle.flat.specs.Back.{from_back, held_in}
use Rattle.flat.specs.declared.FlatNode.{FlatNode}
use Rattle.tree.specs.Well.{Short}
use Rattle.tree.specs.Ordered.{Sorted}

-- record number j can be staged in a part that starts at q, with this end index: its words have 16 bits
pub record RecordReady (w l : List ℕ) (j q index low : ℕ) : Type 0 where
  pub within : j * record_width + record_width ≤ length w
  pub room : record_width ≤ low
  pub inside : low ≤ length l
  pub id : id_of w j < 65536
  pub start : start_of w j - q < 65536
  pub end : end_of w j - q < 65536
  pub last : index < 65536

-- its four words stand below those that stood from `low` on
pub record StagedRecord (w l l' : List ℕ) (j q index low r : ℕ) : Type 0 where
  pub address : r + record_width ≡ low
  pub kept : Same l l' 0 r low
  pub holds : (ws : List ℕ) → Staged l low low ws
      → Staged l' r r (id_of w j ∷ (start_of w j - q) ∷ (end_of w j - q) ∷ index ∷ ws)

-- the held ones of the records from `to` up to p can be staged in a part that starts at q
pub record StageReady (w l : List ℕ) (p to q count low : ℕ) : Type 0 where
  pub within : p * record_width ≤ length w
  pub below : to ≤ p
  pub counted : count ≡ length (held_in w to (p - to))
  pub few : count ≤ 16383
  pub short : Short (flat_words q 0 (held_in w to (p - to)))
  pub room : record_width * count ≤ low
  pub inside : low ≤ length l

-- their words stand from r up to `low`
pub record StagedFlat (w l l' : List ℕ) (p to q low r : ℕ) : Type 0 where
  pub address : r + record_width * length (held_in w to (p - to)) ≡ low
  pub kept : Same l l' 0 r low
  pub staged : Staged l' r r (flat_words q 0 (held_in w to (p - to)))

-- the records from lo up to `at.p`, at least one, for a flat part before the list `at.loose`: 14 words for each are free
pub record NodeReady (w l : List ℕ) (lo b : ℕ) (at : FlatNode) : Type 0 where
  pub T : ℕ
  pub s : ℕ
  pub e : ℕ
  pub types : T ≤ 65536
  pub bound : b ≤ 65535
  pub sorted : Sorted T s e (from_back w lo (at.p - lo))
  pub within : at.p * record_width ≤ length w
  pub some_record : lo < at.p
  pub room : at.top + 14 * (at.p - lo) ≤ at.low
  pub inside : at.low ≤ length l
  pub fits : at.low ≤ 4294967295
  pub readable : Readable l at.loose

-- a flat part of the records from `r.p` up to `at.p` stands before that list, or a leaf, or nothing where none is held
pub record TookFlat (w l l' : List ℕ) (lo b : ℕ) (at r : FlatNode) : Type 0 where
  pub above : lo ≤ r.p
  pub further : r.p < at.p
  pub grown : at.top ≤ r.top
  pub lower : r.low ≤ at.low
  pub used : r.top + at.low ≤ r.low + at.top + 14 * (at.p - r.p)
  pub kept : Same l l' 0 at.top at.low
  pub holds : (base : ℕ) (ts : Trees) → 0 < base → base ≤ at.top → Holds false l base at.top at.low at.loose ts
      → Holds false l' base r.top r.low r.loose (flat_part (held_in w r.p (at.p - r.p)) ts)
  pub flat_is : (own : Option ℕ) (g : Gathered) → flat b own (from_back w lo (at.p - lo)) true [] 0 g
      ≡ flat b own (from_back w lo (r.p - lo)) false [] 0 (gather (flat_part (held_in w r.p (at.p - r.p))) g)

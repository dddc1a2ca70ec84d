-- Records by number, from the last one back, and those that a flat part holds. Nothing here is needed to read what a call
-- promises.
use Rattle.std.specs.Prelude.{◌≡◌, List, [], ◌∷◌, true, false, ℕ, zero, suc, ◌+◌, ◌-◌, ◌≤◌, ◌<◌, length, Option}
use Rattle.words.specs.Words.{id_of, start_of, end_of, last_of}
use Rattle.tree.specs.Groups.{Gathered, gather}
use Rattle.tree.specs.Flat.{Record, rec, hold, held_end, flat_part, flat}
use Rattle.tree.specs.Ordered.{Room}
use Rattle.flat.specs.declared.Extent.{Extent}

-- record number j
abbrev pub record_at : (w : List ℕ) (j : ℕ) → Record
record_at w j = rec (id_of w j) (start_of w j) (end_of w j) (last_of w j)

-- k records from number lo on, the last one first
unfoldable pub from_back : (w : List ℕ) (lo k : ℕ) → List Record
from_back w lo zero = []
from_back w lo (suc k) = record_at w (lo + k) ∷ from_back w lo k

-- those of k records from number q on that a flat part holds, in order
unfoldable pub held_in : (w : List ℕ) (q k : ℕ) → List Record
held_in w q zero = []
held_in w q (suc k) = hold (record_at w q) (held_in w (suc q) k)

-- One flat part takes up the records from number `x.p` up to p and holds `x.count` of them; the leftmost one is number `x.first`,
-- and the first one held ends at `x.end`.
pub record Extends (w : List ℕ) (p lo b : ℕ) (x : Extent) : Type 0 where
  pub above : lo ≤ x.p
  pub below : x.p ≤ p
  pub further : lo < p → x.p < p
  pub counted : x.count ≡ length (held_in w x.p (p - x.p))
  pub ended : x.end ≡ held_end 0 (held_in w x.p (p - x.p))
  pub within : 1 ≤ x.count → x.first < p
  pub head : 1 ≤ x.count → (more : List Record) × (held_in w x.p (p - x.p) ≡ record_at w x.first ∷ more)
  pub room : Room b (held_in w x.p (p - x.p)) (held_end 0 (held_in w x.p (p - x.p)) - b)
  pub flat_is : (own : Option ℕ) (g : Gathered) → flat b own (from_back w lo (p - lo)) true [] 0 g
      ≡ flat b own (from_back w lo (x.p - lo)) false [] 0 (gather (flat_part (held_in w x.p (p - x.p))) g)

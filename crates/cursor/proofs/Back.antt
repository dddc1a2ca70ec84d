-- One record back, whatever it is: the records inside a span follow it as items of their own. For copying and for flat parts.
-- And the walk of the build behind a run.
use mathlib.Core.Path.{◌≡◌, refl, ap}
use mathlib.Core.List.{List, [], ◌∷◌}
use Rattle.std.specs.Prelude.{Option}
use Prim.Native.Nat.{ℕ, zero, suc, ◌+◌, ◌-◌, ◌*◌, ◌≤◌, ◌<◌}
use native.Mathlib.Omega.{arith}
use lib.ListN.{get_or}
use Rattle.tree.specs.Items.{Items, mark, span, records}
use Rattle.tree.proofs.Reading.{after}
use Rattle.tree.specs.Flat.{Record, rec, flattened}
use Rattle.tree.specs.Groups.{Gathered}
use Rattle.tree.specs.Build.{walk}
use Rattle.cursor.specs.Spells.{Spells}

-- items behind others
unfoldable pub onto : Items → Items → Items
onto Items.nil b = b
onto (mark i s e n rest) b = mark i s e n (onto rest b)
onto (span i s e kids rest) b = span i s e kids (onto rest b)

pub spells_onto : (w : List ℕ) (lo m p : ℕ) (a b : Items) → lo ≤ m → Spells w m p a → Spells w lo m b → Spells w lo p (onto a b)
unfolding onto
spells_onto w lo m p Items.nil b h x y = rw x at y
spells_onto w lo m p (mark i s e n rest) b h x y =
    record { room = omega (arith, x.room); id = x.id; start = x.start; end = x.end; size = x.size; rest = spells_onto w lo m (p - 1) rest b h x.rest y }
spells_onto w lo m p (span i s e kids rest) b h x y =
    record {
      room = omega (arith, x.room);
      id = x.id;
      start = x.start;
      end = x.end;
      size = x.size;
      inner = x.inner;
      rest = spells_onto w lo m (p - suc (records kids)) rest b h x.rest y;
    }

pub flattened_onto : (a b : Items) (acc : List Record) → flattened (onto a b) acc ≡ flattened a (flattened b acc)
unfolding onto flattened
flattened_onto Items.nil b acc = refl
flattened_onto (mark i s e n rest) b acc = ap (λ (rs : List Record). rec i s e n ∷ rs) (flattened_onto rest b acc)
flattened_onto (span i s e kids rest) b acc =
    ap (λ (rs : List Record). rec i s e (4 * suc (records kids)) ∷ flattened kids rs) (flattened_onto rest b acc)

-- the last record of all, and what stands before it
pub record Back (w : List ℕ) (lo p : ℕ) (its : Items) : Type 0 where
  pub left : Items
  pub spells : Spells w lo (p - 1) left
  pub flat : flattened its []
      ≡ rec (get_or w ((p - 1) * 4) 0) (get_or w ((p - 1) * 4 + 1) 0) (get_or w ((p - 1) * 4 + 2) 0) (get_or w ((p - 1) * 4 + 3) 0) ∷ flattened left []

pub back : (w : List ℕ) (lo p : ℕ) (its : Items) → Spells w lo p its → lo < p → Back w lo p its
unfolding flattened
back w lo p Items.nil h some_record = absurd (omega arith)
back w lo p (mark i s e n rest) h some_record =
    record { left = rest; spells = h.rest; flat = rw (h.id, h.start, h.end, h.size) }
back w lo p (span i s e kids rest) h some_record =
    record {
      left = onto kids rest;
      spells = spells_onto w lo (p - suc (records kids)) (p - 1) kids rest (omega (arith, h.room)) h.inner h.rest;
      flat = rw (h.id, h.start, h.end, h.size, flattened_onto kids rest []);
    }

-- what the build walks behind a part: the items after those of the part
pub walk_after : (F b : ℕ) (its : Items) (d k : ℕ) (own : Option ℕ) (g : Gathered) → walk F b its d k own g ≡ walk F b (after k its) d 0 own g
unfolding walk after
walk_after F b its d zero own g = refl
walk_after F b Items.nil d (suc k) own g = refl
walk_after F b (mark i s e n rest) d (suc k) own g = walk_after F b rest d k own g
walk_after F b (span i s e kids rest) d (suc k) own g = walk_after F b rest d k own g

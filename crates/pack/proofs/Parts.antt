-- Parts of lists that are lent to a call: the front of the records and the front of a packed part. Assumes nothing.
use mathlib.Core.Path.{◌≡◌, sym, ap, ◌∙◌}
use mathlib.Core.List.{List, ◌++◌}
use Prim.Native.Nat.{ℕ, suc, ◌-◌, ◌*◌, ◌≤◌, ◌<◌}
use native.Mathlib.Omega.{arith}
use lib.ListN.{length, get_or, take, drop}
use lib.Seq.{take-append-le, drop_at, take-take, length-take-le, get_or-take}
use Rattle.tree.specs.Items.{Items, mark, span, records}
use Rattle.cursor.specs.Spells.{Spells}
use Rattle.pack.specs.Copying.{behind, Ready}

-- The list c is the front of w, up to q.
pub record Front (w c : List ℕ) (q : ℕ) : Type 0 where
  pub size : length c ≡ q
  pub within : q ≤ length w
  pub same : (j : ℕ) → j < q → get_or c j 0 ≡ get_or w j 0

pub front_take : (w : List ℕ) (q : ℕ) → q ≤ length w → Front w (take q w) q
front_take w q h = record { size = length-take-le q w h; within = h; same = λ j l. get_or-take q w j 0 l }

-- items stand on the words before them alone
pub spells_agree : (w w' : List ℕ) (lo p : ℕ) (its : Items) → ((j : ℕ) → j < p * 4 → get_or w' j 0 ≡ get_or w j 0) → Spells w lo p its → Spells w' lo p its
spells_agree w w' lo p Items.nil h s = s
spells_agree w w' lo p (mark i s e n rest) h t =
    record {
      room = t.room;
      id = h _ (omega (arith, t.room)) ∙ t.id;
      start = h _ (omega (arith, t.room)) ∙ t.start;
      end = h _ (omega (arith, t.room)) ∙ t.end;
      size = h _ (omega (arith, t.room)) ∙ t.size;
      rest = spells_agree w w' lo (p - 1) rest (λ j l. h j (omega arith)) t.rest;
    }
spells_agree w w' lo p (span i s e kids rest) h t =
    record {
      room = t.room;
      id = h _ (omega (arith, t.room)) ∙ t.id;
      start = h _ (omega (arith, t.room)) ∙ t.start;
      end = h _ (omega (arith, t.room)) ∙ t.end;
      size = h _ (omega (arith, t.room)) ∙ t.size;
      inner = spells_agree w w' (p - suc (records kids)) (p - 1) kids (λ j l. h j (omega arith)) t.inner;
      rest = spells_agree w w' lo (p - suc (records kids)) rest (λ j l. h j (omega arith)) t.rest;
    }

module _ (F : ℕ) (w c : List ℕ) (q : ℕ) (f : Front w c q) (start lo off : ℕ) (its : Items) where
  pub ready_cut : (p at : ℕ) → p * 4 ≤ q → Ready F w start lo off its p at → Ready F c start lo off its p at
  ready_cut p at h r =
      record {
        within = omega (arith, f.size);
        spells = spells_agree w c lo p its (λ j l. f.same j (omega arith)) r.spells;
        passed = r.passed;
        from = r.from;
        place = r.place;
      }

  pub ready_uncut : (p at : ℕ) → Ready F c start lo off its p at → Ready F w start lo off its p at
  ready_uncut p at r =
      record {
        within = omega (arith, r.within, f.size, f.within);
        spells = spells_agree c w lo p its (λ j l. sym (f.same j (omega (arith, r.within, f.size)))) r.spells;
        passed = r.passed;
        from = r.from;
        place = r.place;
      }

pub behind_cut : (F : ℕ) (w c : List ℕ) (q : ℕ) → Front w c q → 4 ≤ q → behind F c (length c) ≡ behind F w q
behind_cut F w c q f h =
    let a : get_or c (q - 4) 0 ≡ get_or w (q - 4) 0 = f.same (q - 4) (omega arith) in
    let b : get_or c (q - 1) 0 ≡ get_or w (q - 1) 0 = f.same (q - 1) (omega arith) in
    ap (behind F c) f.size ∙ rw (a, b)

-- A list that ends with c behind its first k words, which are those of l.
module _ (l l₁ c : List ℕ) (k : ℕ) (h : k ≤ length l) (is : l₁ ≡ take k l ++ c) where
  pub rear_front : (j : ℕ) → j ≤ k → take j l₁ ≡ take j l
  rear_front j m =
      ap (take j) is ∙ (take-append-le j (take k l) c (omega (arith, length-take-le k l h)) ∙ take-take j k l m)

  pub rear_drop : drop k l₁ ≡ c
  rear_drop = ap (drop k) is ∙ drop_at (take k l) c k (length-take-le k l h)

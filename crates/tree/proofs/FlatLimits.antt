-- The two numbers of flat parts, from both sides: a flat part holds 16,383 records and not 16,384, and a record held alone goes to a
-- part with a length of 65,535 and becomes a tree with one of 65,536. By induction on the records.
-- Assumes nothing.
use mathlib.Core.Path.{◌≡◌, refl, ap, ◌∙◌}
use mathlib.Core.List.{List, [], ◌∷◌, append-nil}
use mathlib.Core.Bool.{Bool, true, false}
use Rattle.std.specs.Prelude.{None, Some}
use Prim.Native.Nat.{ℕ, zero, suc, ◌+◌, ◌-◌, ◌*◌, ◌≤◌, ◌<◌}
use native.Mathlib.Omega.{arith}
use borrow.Author.Tests.{le-leb, lt-leb, le-ltb, lt-ltb}
use lib.ListN.{length, length-append}
use Rattle.tree.specs.Trees.{Trees, nil, tree, part, siblings}
use Rattle.tree.specs.Items.{Items, same, items, records}
use Rattle.tree.specs.Groups.{Gathered, fresh, gather}
use Rattle.tree.specs.Flat.{Record, rec, flattened, flat_words, held_end, flat_part, hold, limit, full, ends, flat}
use Rattle.tree.specs.Cells.{packed}
use Rattle.tree.proofs.Limits.{empties}

-- n records of id 1 from 0 to 0, of 4 words each
unfoldable leaf_records : ℕ → List Record
leaf_records zero = []
leaf_records (suc n) = rec 1 0 0 4 ∷ leaf_records n

-- they are those of n empty siblings
flattened_empties : (F n : ℕ) → flattened (items F None (empties n) Items.nil) [] ≡ leaf_records n
unfolding empties items same flattened records leaf_records
flattened_empties F zero = refl
flattened_empties F (suc n) = ap (λ (l : List Record). rec 1 0 0 4 ∷ l) (flattened_empties F n)

leaf_length : (n : ℕ) → length (leaf_records n) ≡ n
unfolding leaf_records
leaf_length zero = refl
leaf_length (suc n) = ap suc (leaf_length n)

not_full : (n : ℕ) → n < 16383 → full (leaf_records n) ≡ false
unfolding full
not_full n l = rw leaf_length (lt-leb 16383 n l)

is_full : (n : ℕ) → 16383 ≤ n → full (leaf_records n) ≡ true
unfolding full
is_full n l = rw leaf_length (le-leb 16383 n l)

-- one record more where a part is at hand: it is held, or it begins the next part
module _ (b i s e n : ℕ) (rs held : List Record) (stop : ℕ) (g : Gathered) where
  step_held : ends (rec i s e n) held stop ≡ false
      → flat b None (rec i s e n ∷ rs) true held stop g ≡ flat b None rs true (hold (rec i s e n) held) (limit b (rec i s e n) held stop) g
  unfolding flat
  step_held h = rw (h, flat)

  step_next : ends (rec i s e n) held stop ≡ true
      → flat b None (rec i s e n ∷ rs) true held stop g ≡ flat b None rs true (hold (rec i s e n) []) (limit b (rec i s e n) [] 0) (gather (flat_part held) g)
  unfolding flat same
  step_next h = rw (h, flat)

module _ (b : ℕ) where
  none_less : 0 - b ≡ 0
  none_less = omega arith

  -- the limit of starts stays 0
  limit_zero : (k : ℕ) → limit b (rec 1 0 0 4) (leaf_records k) 0 ≡ 0
  unfolding limit leaf_records
  limit_zero zero = none_less
  limit_zero (suc k) = refl

  -- a part ends where it is full
  ends_full : (k : ℕ) (t : Bool) → full (leaf_records k) ≡ t → ends (rec 1 0 0 4) (leaf_records k) 0 ≡ t
  unfolding ends
  ends_full k true h = rw h
  ends_full k false h = rw h

  -- the first record begins a part
  begins : (n : ℕ) (g : Gathered) → flat b None (leaf_records (suc n)) false [] 0 g ≡ flat b None (leaf_records n) true (leaf_records 1) 0 (gather (flat_part []) g)
  unfolding flat leaf_records same hold limit
  begins n g = rw none_less

  -- one more is held
  holds : (n k : ℕ) (g : Gathered) → k < 16383 → flat b None (leaf_records (suc n)) true (leaf_records k) 0 g ≡ flat b None (leaf_records n) true (leaf_records (suc k)) 0 g
  unfolding leaf_records hold
  holds n k g l = step_held b 1 0 0 4 (leaf_records n) (leaf_records k) 0 g (ends_full k false (not_full k l)) ∙ rw (limit_zero k)

  -- the part is full, and the next one begins
  begins_next : (n k : ℕ) (g : Gathered) → 16383 ≤ k
      → flat b None (leaf_records (suc n)) true (leaf_records k) 0 g ≡ flat b None (leaf_records n) true (leaf_records 1) 0 (gather (flat_part (leaf_records k)) g)
  unfolding leaf_records hold limit
  begins_next n k g l = step_next b 1 0 0 4 (leaf_records n) (leaf_records k) 0 g (ends_full k true (is_full k l)) ∙ rw none_less

  -- n more are held, before m others
  all_held : (n m k : ℕ) (g : Gathered) → n + k ≤ 16383 → flat b None (leaf_records (n + m)) true (leaf_records k) 0 g ≡ flat b None (leaf_records m) true (leaf_records (n + k)) 0 g
  all_held zero m k g l = let e : 0 + m ≡ m = omega arith in let f : 0 + k ≡ k = omega arith in rw (e, f)
  all_held (suc n) m k g l =
      let e : suc n + m ≡ suc (n + m) = omega arith in
      let f : suc n + k ≡ n + suc k = omega arith in
      rw (e, f) (holds (n + m) k g (omega arith) ∙ all_held n m (suc k) g (omega arith))

  -- no record is left
  ended : (held : List Record) (g : Gathered) → flat b None (leaf_records 0) true held 0 g ≡ gather (flat_part held) g
  unfolding flat leaf_records
  ended held g = refl

  all_in_one : (n : ℕ) (g : Gathered) → n < 16383 → flat b None (leaf_records (suc n)) false [] 0 g ≡ gather (flat_part (leaf_records (suc n))) (gather (flat_part []) g)
  all_in_one n g l =
      let z : n + 0 ≡ n = omega arith in
      let s : n + 1 ≡ suc n = omega arith in
      begins n g ∙ rw (z, s) at (all_held n 0 1 (gather (flat_part []) g) (omega arith)) ∙ ended (leaf_records (suc n)) (gather (flat_part []) g)

  one_too_many : (n : ℕ) (g : Gathered) → n ≡ 16382
      → flat b None (leaf_records (suc (suc n))) false [] 0 g ≡ gather (flat_part (leaf_records 1)) (gather (flat_part (leaf_records (suc n))) (gather (flat_part []) g))
  one_too_many n g l =
      let s : n + 1 ≡ suc n = omega arith in
      let h = gather (flat_part []) g in
      begins (suc n) g
      ∙ rw s at (all_held n 1 1 h (omega arith))
      ∙ begins_next 0 (suc n) h (omega arith)
      ∙ ended (leaf_records 1) (gather (flat_part (leaf_records (suc n))) h)

-- where the last of such records ends
end_zero : (n : ℕ) → held_end 0 (leaf_records n) ≡ 0
unfolding held_end leaf_records
end_zero zero = refl
end_zero (suc n) = end_zero n

-- they make one part
part_of : (n : ℕ) (ts : Trees) → flat_part (leaf_records (suc n)) ts ≡ part 0 0 (flat_words 0 0 (leaf_records (suc n))) ts
unfolding flat_part leaf_records held_end flat_words
part_of zero ts = refl
part_of (suc n) ts = rw (end_zero n)

words_of : (n p off : ℕ) → length (flat_words p off (leaf_records n)) ≡ 4 * n
unfolding flat_words leaf_records
words_of zero p off = refl
words_of (suc n) p off = let e = words_of n p (off + 4) in omega arith

-- what n empty siblings under a tree deeper than 2,500 become
abbrev pub below_cut : (F b n : ℕ) → Trees
below_cut F b n = (flat b None (flattened (items F None (empties n) Items.nil) []) false [] 0 (fresh 0)).loose

module _ (F b : ℕ) where
  one_part : (n : ℕ) → n < 16383 → below_cut F b (suc n) ≡ part 0 0 (flat_words 0 0 (leaf_records (suc n))) nil
  unfolding gather fresh flat_part
  one_part n l =
      ap (λ (rs : List Record). (flat b None rs false [] 0 (fresh 0)).loose) (flattened_empties F (suc n))
      ∙ ap (λ (g : Gathered). g.loose) (all_in_one b n (fresh 0) l)
      ∙ part_of n nil

  two_parts : (n : ℕ) → n ≡ 16382 → below_cut F b (suc (suc n)) ≡ part 0 0 (flat_words 0 0 (leaf_records 1)) (part 0 0 (flat_words 0 0 (leaf_records (suc n))) nil)
  unfolding gather fresh flat_part
  two_parts n l =
      ap (λ (rs : List Record). (flat b None rs false [] 0 (fresh 0)).loose) (flattened_empties F (suc (suc n)))
      ∙ ap (λ (g : Gathered). g.loose) (one_too_many b n (fresh 0) l)
      ∙ part_of 0 _
      ∙ ap (part 0 0 (flat_words 0 0 (leaf_records 1))) (part_of n nil)

  one_sized : (n : ℕ) → n < 16383 → (siblings (below_cut F b (suc n)) ≡ 1) × (length (packed (below_cut F b (suc n))) ≡ 4 * suc n)
  unfolding siblings packed
  one_sized n l = rw (one_part n l, append-nil) (refl, words_of (suc n) 0 0)

  two_sized : (n : ℕ) → n ≡ 16382 → (siblings (below_cut F b (suc (suc n))) ≡ 2) × (length (packed (below_cut F b (suc (suc n)))) ≡ 4 * suc (suc n))
  unfolding siblings packed
  two_sized n l =
      rw (two_parts n l, append-nil, length-append)
      (refl, omega (arith, words_of 1 0 0, words_of (suc n) 0 0))

  -- "4-word records .. go to a flat part until 16,383 are held": 16,383 empty siblings make one part, 16,384 two
  pub flat_part_holds :
      (siblings (below_cut F b 16383) ≡ 1) × (length (packed (below_cut F b 16383)) ≡ 65532)
      × (siblings (below_cut F b 16384) ≡ 2) × (length (packed (below_cut F b 16384)) ≡ 65536)
  flat_part_holds =
      let one = one_sized 16382 (omega arith) in
      let two = two_sized 16382 refl in
      (one.0, one.1, two.0, two.1)

-- what a record of 4 words from s on, of length l, becomes where it is the only one
abbrev pub held_alone : (b i s l : ℕ) → Trees
held_alone b i s l = (flat b None (rec i s (s + l) 4 ∷ []) false [] 0 (fresh (s + l))).loose

module _ (b i s : ℕ) where
  alone : (l : ℕ) → held_alone b i s l ≡ flat_part (rec i s (s + l) 4 ∷ []) nil
  unfolding flat same hold gather fresh flat_part
  alone l = refl

  lone_part : (l : ℕ) → l ≤ 65535 → held_alone b i s l ≡ part s l (i ∷ 0 ∷ l ∷ 4 ∷ []) nil
  unfolding flat_part flat_words
  lone_part l h =
      let size : s + l - s ≡ l = omega arith in
      let none_before : s - s ≡ 0 = omega arith in
      alone l ∙ rw (le-ltb 65535 (s + l - s) (omega arith), flat_part) (rw (size, none_before))

  lone_tree : (l : ℕ) → 65535 < l → held_alone b i s l ≡ tree (Some i) s l nil nil
  unfolding flat_part
  lone_tree l h =
      let size : s + l - s ≡ l = omega arith in
      alone l ∙ rw (lt-ltb 65535 (s + l - s) (omega arith), flat_part) (rw size)

  -- "One held alone and longer than 65,535 becomes a tree instead": a length of 65,535 goes to a part, one of 65,536 does not
  pub lone_record : (held_alone b i s 65535 ≡ part s 65535 (i ∷ 0 ∷ 65535 ∷ 4 ∷ []) nil) × (held_alone b i s 65536 ≡ tree (Some i) s 65536 nil nil)
  lone_record = (lone_part 65535 (omega arith), lone_tree 65536 (omega arith))

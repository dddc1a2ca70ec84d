-- Records and words counted: the items of a forest, what stands behind a run, the words of runs and of flat parts.
-- Assumes nothing.
use mathlib.Core.Path.{◌≡◌, refl}
use mathlib.Core.Bool.{Bool, true, false}
use mathlib.Core.List.{List, [], ◌∷◌, ◌++◌}
use Rattle.std.specs.Prelude.{Option}
use Prim.Native.Nat.{ℕ, zero, suc, ◌+◌, ◌-◌, ◌*◌, ◌≤◌}
use native.Mathlib.Omega.{arith}
use native.Mathlib.Nat.{le_refl}
use lib.Dec.{ltb, leb}
use lib.ListN.{length, length-append}
use Rattle.records.specs.Forest.{Forest, empty, add, count}
use Rattle.tree.specs.Items.{Items, mark, span, same, repeats, items, records, first}
use Rattle.tree.specs.Pack.{width, words, entry, pack}
use Rattle.tree.specs.Flat.{Record, rec, flattened, flat_words, hold}
use Rattle.tree.proofs.Reading.{after}

pub records_items : (F : ℕ) (own : Option ℕ) (f : Forest) (acc : Items) → records (items F own f acc) ≡ count f + records acc
unfolding items records count
records_items F own empty acc = omega arith
records_items F own (add before i s e kids) acc =
    go (same own i) (records_items F own before acc) (records_items F own kids (items F own before acc)) (records_items F (repeats F i) kids Items.nil)
  where
    go : (x : Bool) → records (items F own before acc) ≡ count before + records acc
        → records (items F own kids (items F own before acc)) ≡ count kids + records (items F own before acc)
        → records (items F (repeats F i) kids Items.nil) ≡ count kids + 0
        → records (elim x [
          | true ↦ mark i s e (4 * suc (count kids)) (items F own kids (items F own before acc))
          | false ↦ span i s e (items F (repeats F i) kids Items.nil) (items F own before acc)
        ]) ≡ suc (count kids + count before) + records acc
    go true b m k = omega arith
    go false b m k = omega arith

pub records_after : (k : ℕ) (its : Items) → records (after k its) ≤ records its
unfolding records after
records_after zero its = le_refl (records its)
records_after (suc k) Items.nil = le_refl 0
records_after (suc k) (mark i s e n rest) = omega (arith, records_after k rest)
records_after (suc k) (span i s e kids rest) = omega (arith, records_after k rest)

pub records_split : (k : ℕ) (its : Items) → records (first k its) + records (after k its) ≡ records its
unfolding records first after
records_split zero its = omega arith
records_split (suc k) Items.nil = refl
records_split (suc k) (mark i s e n rest) = omega (arith, records_split k rest)
records_split (suc k) (span i s e kids rest) = omega (arith, records_split k rest)

pub length_flattened : (its : Items) (acc : List Record) → length (flattened its acc) ≡ records its + length acc
unfolding flattened records
length_flattened Items.nil acc = omega arith
length_flattened (mark i s e n rest) acc = omega (arith, length_flattened rest acc)
length_flattened (span i s e kids rest) acc = omega (arith, length_flattened rest acc, length_flattened kids (flattened rest acc))

pub length_hold : (i s e n : ℕ) (held : List Record) → length (hold (rec i s e n) held) ≤ suc (length held)
unfolding hold
length_hold i s e n held = go (leb n 4)
  where
    go : (x : Bool) → length {A = Record} (elim x [ true ↦ rec i s e n ∷ held | false ↦ held ]) ≤ suc (length held)
    go true = omega arith
    go false = omega arith

pub length_flat_words : (p off : ℕ) (rs : List Record) → length (flat_words p off rs) ≡ 4 * length rs
unfolding flat_words
length_flat_words p off [] = refl
length_flat_words p off (rec i s e n ∷ rs) = omega (arith, length_flat_words p (off + 4) rs)

length_entry : (F p off i s e n : ℕ) → length (entry F p off i s e n) ≡ width F i
unfolding entry width
length_entry F p off i s e n = go (ltb i F)
  where
    go : (x : Bool) → length {A = ℕ} (elim x [ true ↦ i ∷ (s - p) ∷ (e - p) ∷ (off + 4 + n) ∷ [] | false ↦ [] ]) ≡ elim x [ true ↦ 4 | false ↦ 0 ]
    go true = refl
    go false = refl

width-≤ : (F i : ℕ) → width F i ≤ 4
unfolding width
width-≤ F i = go (ltb i F)
  where
    go : (x : Bool) → elim x [ true ↦ 4 | false ↦ 0 ] ≤ 4
    go true = le_refl 4
    go false = omega arith

pub length_pack : (F p off : ℕ) (its : Items) → length (pack F p off its) ≡ words F its
unfolding pack words
length_pack F p off Items.nil = refl
length_pack F p off (mark i s e n rest) = length_pack F p off rest
length_pack F p off (span i s e kids rest) =
    let at = off + words F rest in
    let own = entry F p at i s e (words F kids) in
    let inner = pack F p (at + width F i) kids in
    omega (
      arith,
      length-append (pack F p off rest) (own ++ inner),
      length-append own inner,
      length_entry F p at i s e (words F kids),
      length_pack F p off rest,
      length_pack F p (at + width F i) kids,
    )

pub words_records : (F : ℕ) (its : Items) → words F its ≤ 4 * records its
unfolding words records
words_records F Items.nil = le_refl 0
words_records F (mark i s e n rest) = omega (arith, words_records F rest)
words_records F (span i s e kids rest) = omega (arith, words_records F rest, words_records F kids, width-≤ F i)

-- a run has at most four words for each of its records
pub run_short : (F p : ℕ) (its : Items) → length (pack F p 0 its) ≤ 4 * records its
run_short F p its = omega (arith, length_pack F p 0 its, words_records F its)

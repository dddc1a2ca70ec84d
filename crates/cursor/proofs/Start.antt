-- An accepted list spells the items of its forest: this is where the build begins. Assumes nothing.
use mathlib.Core.Path.{◌≡◌, refl, sym, ap, ◌∙◌}
use mathlib.Core.Bool.{Bool, true, false}
use mathlib.Core.List.{List, [], ◌∷◌, ◌++◌, append_assoc, append-nil}
use Rattle.std.specs.Prelude.{Option, None, Some}
use Prim.Native.Nat.{ℕ, suc, ◌+◌, ◌-◌, ◌*◌, ◌/◌, ◌≤◌}
use native.Mathlib.Omega.{arith}
use borrow.Author.Tests.{ltb-false, eqb-true}
use lib.Dec.{ltb}
use lib.ListN.{length, get_or, length-append}
use Rattle.records.specs.Forest.{Forest, empty, add, count, postfix}
use Rattle.tree.specs.Items.{Items, mark, span, same, repeats, items, records}
use Rattle.tree.proofs.RecordCounts.{records_items}
use Rattle.records.specs.Parse.{parse}
use Rattle.records.specs.Check.{Accepted}
use Rattle.records.proofs.AcceptLaws.{accepted_list}
use Rattle.records.proofs.Spelling.{words_of, word_at}
use Rattle.cursor.specs.Spells.{Spells, Marked, Stands}
use Rattle.cursor.proofs.Spelled.{spells_count}

no_records : records Items.nil ≡ 0
unfolding records
no_records = refl

-- the repeat id is one
abbrev pub Above : (F : ℕ) → Option ℕ → Type 0
Above F None = Unit {0}
Above F (Some r) = F ≤ r

pub above_repeats : (F i : ℕ) → Above F (repeats F i)
unfolding repeats
above_repeats F i = go (ltb i F) refl
  where
    go : (x : Bool) → ltb i F ≡ x → Above F (elim x [ true ↦ None | false ↦ Some i ])
    go true e = tt
    go false e = ltb-false i F e

above_same : (F : ℕ) (own : Option ℕ) (i : ℕ) → Above F own → same own i ≡ true → F ≤ i
unfolding same
above_same F None i a h = absurd cc
above_same F (Some r) i a h = omega (arith, a, eqb-true r i h)

pub marked_items : (F : ℕ) (own : Option ℕ) (f : Forest) (acc : Items) → Above F own → Marked F own acc → Marked F own (items F own f acc)
unfolding items
marked_items F own empty acc a m = m
marked_items F own (add before i s e kids) acc a m =
    let b = marked_items F own before acc a m in
    go (same own i) refl b (marked_items F own kids (items F own before acc) a b) (marked_items F (repeats F i) kids Items.nil (above_repeats F i) tt)
  where
    go : (x : Bool) → same own i ≡ x → Marked F own (items F own before acc) → Marked F own (items F own kids (items F own before acc))
        → Marked F (repeats F i) (items F (repeats F i) kids Items.nil)
        → Marked F own (elim x [
          | true ↦ mark i s e (4 * suc (count kids)) (items F own kids (items F own before acc))
          | false ↦ span i s e (items F (repeats F i) kids Items.nil) (items F own before acc)
        ])
    go true h b k n = record { alone = h; repeat = above_same F own i a h; rest = k }
    go false h b k n = record { other = h; inner = n; rest = b }

-- the four words of record q
record Four (w : List ℕ) (q i s e n : ℕ) : Type 0 where
  id : get_or w (q * 4) 0 ≡ i
  start : get_or w (q * 4 + 1) 0 ≡ s
  end : get_or w (q * 4 + 2) 0 ≡ e
  size : get_or w (q * 4 + 3) 0 ≡ n

four_at : (w xs ys : List ℕ) (q i s e n : ℕ) → xs ++ (i ∷ s ∷ e ∷ n ∷ ys) ≡ w → length xs ≡ q * 4 → Four w q i s e n
four_at w xs ys q i s e n h l =
    let z : q * 4 + 0 ≡ q * 4 = omega arith in
    let ws : List ℕ = i ∷ s ∷ e ∷ n ∷ ys in
    record {
      id = rw z at (word_at xs ws w (q * 4) 0 h l);
      start = word_at xs ws w (q * 4) 1 h l;
      end = word_at xs ws w (q * 4) 2 h l;
      size = word_at xs ws w (q * 4) 3 h l;
    }

spells_mark : (w : List ℕ) (lo p q i s e n : ℕ) (rest : Items) → p ≡ suc q → lo ≤ q → Four w q i s e n → Spells w lo q rest → Spells w lo p (mark i s e n rest)
spells_mark w lo p q i s e n rest h l f r =
    let z : p - 1 ≡ q = omega arith in
    rw z (record { room = omega arith; id = f.id; start = f.start; end = f.end; size = f.size; rest = r })

spells_span : (w : List ℕ) (lo p q m i s e : ℕ) (kids rest : Items) → p ≡ suc q → lo ≤ m → m + records kids ≡ q → Four w q i s e (4 * suc (records kids))
    → Spells w m q kids → Spells w lo m rest → Spells w lo p (span i s e kids rest)
spells_span w lo p q m i s e kids rest h l c f k r =
    let z : p - 1 ≡ q = omega arith in
    let y : p - suc (records kids) ≡ m = omega arith in
    rw (y, z) (record { room = omega arith; id = f.id; start = f.start; end = f.end; size = f.size; inner = k; rest = r })

spells-≤ : (w : List ℕ) (lo p : ℕ) (its : Items) → Spells w lo p its → lo ≤ p
spells-≤ w lo p its h = omega (arith, spells_count w lo p its h)

pub spells_items : (F : ℕ) (w : List ℕ) (f : Forest) (own : Option ℕ) (lo p : ℕ) (xs ys : List ℕ) (acc : Items)
    → xs ++ (postfix f ++ ys) ≡ w → length xs ≡ p * 4 → Spells w lo p acc → Spells w lo (p + count f) (items F own f acc)
unfolding items count postfix
spells_items F w empty own lo p xs ys acc h l a = let z : p + 0 ≡ p = omega arith in rw z a
spells_items F w (add before i s e kids) own lo p xs ys acc h l a =
    let four : List ℕ = i ∷ s ∷ e ∷ 4 * suc (count kids) ∷ [] in
    let one : xs ++ (postfix before ++ ((postfix kids ++ four) ++ ys)) ≡ w = ap (λ (t : List ℕ). xs ++ t) (sym (append_assoc (postfix before) (postfix kids ++ four) ys)) ∙ h in
    let two : (xs ++ postfix before) ++ (postfix kids ++ (four ++ ys)) ≡ w =
    append_assoc xs (postfix before) (postfix kids ++ (four ++ ys)) ∙ (ap (λ (t : List ℕ). xs ++ (postfix before ++ t)) (sym (append_assoc (postfix kids) four ys)) ∙ one) in
    let three : ((xs ++ postfix before) ++ postfix kids) ++ (four ++ ys) ≡ w = append_assoc (xs ++ postfix before) (postfix kids) (four ++ ys) ∙ two in
    let l₁ : length (xs ++ postfix before) ≡ (p + count before) * 4 = length-append xs (postfix before) ∙ omega (arith, words_of before) in
    let l₂ : length ((xs ++ postfix before) ++ postfix kids) ≡ (p + count before + count kids) * 4 =
    length-append (xs ++ postfix before) (postfix kids) ∙ omega (arith, words_of kids) in
    let b = spells_items F w before own lo p xs ((postfix kids ++ four) ++ ys) acc one l a in
    let k₁ = spells_items F w kids own lo (p + count before) (xs ++ postfix before) (four ++ ys) (items F own before acc) two l₁ b in
    let k₂ = spells_items F w kids (repeats F i) (p + count before) (p + count before) (xs ++ postfix before) (four ++ ys) Items.nil two l₁ refl in
    let f = four_at w ((xs ++ postfix before) ++ postfix kids) ys (p + count before + count kids) i s e (4 * suc (count kids)) three l₂ in
    let r : records (items F (repeats F i) kids Items.nil) ≡ count kids = records_items F (repeats F i) kids Items.nil ∙ none_more (count kids) in
    go (same own i) b k₁ k₂ f r
  where
    none_more : (n : ℕ) → n + records Items.nil ≡ n
    none_more n = rw no_records (omega arith)

    go : (x : Bool)
        → Spells w lo (p + count before) (items F own before acc)
        → Spells w lo (p + count before + count kids) (items F own kids (items F own before acc))
        → Spells w (p + count before) (p + count before + count kids) (items F (repeats F i) kids Items.nil)
        → Four w (p + count before + count kids) i s e (4 * suc (count kids))
        → records (items F (repeats F i) kids Items.nil) ≡ count kids
        → Spells w lo (p + suc (count kids + count before)) (elim x [
          | true ↦ mark i s e (4 * suc (count kids)) (items F own kids (items F own before acc))
          | false ↦ span i s e (items F (repeats F i) kids Items.nil) (items F own before acc)
        ])
    go true b k₁ k₂ f r =
        spells_mark w lo (p + suc (count kids + count before)) (p + count before + count kids) i s e (4 * suc (count kids)) (items F own kids (items F own before acc)) (omega arith)
        (spells-≤ w lo (p + count before + count kids) (items F own kids (items F own before acc)) k₁) f k₁
    go false b k₁ k₂ f r =
        spells_span w lo (p + suc (count kids + count before)) (p + count before + count kids) (p + count before) i s e (items F (repeats F i) kids Items.nil) (items F own before acc) (omega arith)
        (spells-≤ w lo (p + count before) (items F own before acc) b) (omega arith) (rw r f) k₂ b

-- An accepted list spells the items of its forest: this is where the build begins.
pub stands_accepted : (T F b top S : ℕ) (w : List ℕ) → Accepted T b top S w → Stands F None w 0 (length w / 4) (items F None (parse w) Items.nil)
stands_accepted T F b top S w a =
    let e = accepted_list T b top S w a in
    let h : [] ++ (postfix (parse w) ++ []) ≡ w = append-nil (postfix (parse w)) ∙ e in
    let c : 0 + count (parse w) ≡ length w / 4 = omega (arith, words_of (parse w), ap length e) in
    record {
      within = omega (arith, words_of (parse w), ap length e);
      spells = rw c at (spells_items F w (parse w) None 0 0 [] [] Items.nil h refl refl);
      marked = marked_items F None (parse w) Items.nil tt tt;
    }

-- Copying: what one node more adds to a part, and that the words copied are the definition's. Assumes nothing.
use mathlib.Core.Path.{◌≡◌, refl, sym, ap, ◌∙◌}
use mathlib.Core.List.{List, [], ◌∷◌, ◌++◌, append_assoc, append-nil}
use Prim.Native.Nat.{ℕ, suc, ◌+◌, ◌-◌, ◌*◌, ◌/◌, ◌%◌, ◌≤◌, ◌<◌}
use native.Mathlib.Omega.{arith}
use native.Mathlib.Decide.{dec_le}
use borrow.Author.Tests.{le-ltb, lt-ltb, le-leb, lt-leb}
use lib.ListN.{length, get_or, take, drop, length-append}
use lib.Seq.{take-length, take-take, length-take-le}
use Rattle.words.specs.Words.{put}
use Rattle.tree.specs.Items.{Items, mark, span, records}
use Rattle.tree.specs.Pack.{width, words, entry, pack}
use Rattle.cursor.specs.Spells.{Passed}
use Rattle.cursor.proofs.Spelled.{spells_none}
use Rattle.cursor.proofs.Back.{onto, spells_onto}
use Rattle.pack.specs.Copying.{span_start, behind, packed_record, Ready, Copyable, Copies}
use Rattle.pack.proofs.Parts.{Front, ready_cut, ready_uncut, behind_cut, rear_front, rear_drop}
use Rattle.tree.specs.Ordered.{From}

words_onto : (F : ℕ) (a b : Items) → words F (onto a b) ≡ words F b + words F a
unfolding onto words
words_onto F Items.nil b = omega arith
words_onto F (mark i s e n rest) b = words_onto F rest b
words_onto F (span i s e kids rest) b = omega (arith, words_onto F rest b)

pack_onto : (F start off : ℕ) (a b : Items) → pack F start off (onto a b) ≡ pack F start off b ++ pack F start (off + words F b) a
unfolding onto words pack
pack_onto F start off Items.nil b = sym (append-nil (pack F start off b))
pack_onto F start off (mark i s e n rest) b = pack_onto F start off rest b
pack_onto F start off (span i s e kids rest) b =
    let z : off + words F (onto rest b) ≡ off + words F b + words F rest = omega (arith, words_onto F rest b) in
    let own = entry F start (off + words F b + words F rest) i s e (words F kids) ++ pack F start (off + words F b + words F rest + width F i) kids in
    rw (z, pack_onto F start off rest b) (append_assoc (pack F start off b) (pack F start (off + words F b) rest) own)

passed_onto : (F : ℕ) (a b : Items) → Passed F a → Passed F b → Passed F (onto a b)
unfolding onto
passed_onto F Items.nil b x y = y
passed_onto F (mark i s e n rest) b x y = record { repeat = x.repeat; rest = passed_onto F rest b x.rest y }
passed_onto F (span i s e kids rest) b x y = record { inner = x.inner; rest = passed_onto F rest b x.rest y }

from_onto : (start : ℕ) (a b : Items) → From start a → From start b → From start (onto a b)
unfolding onto
from_onto start Items.nil b x y = y
from_onto start (mark i s e n rest) b x y = from_onto start rest b x y
from_onto start (span i s e kids rest) b x y = (x.0, x.1, x.2, from_onto start rest b x.3 y)

entry_own : (F start off i s e n : ℕ) → i < F → entry F start off i s e n ≡ i ∷ (s - start) ∷ (e - start) ∷ (off + 4 + n) ∷ []
unfolding entry
entry_own F start off i s e n h = rw (lt-ltb i F h, entry)

entry_repeat : (F start off i s e n : ℕ) → F ≤ i → entry F start off i s e n ≡ []
unfolding entry
entry_repeat F start off i s e n h = rw (le-ltb i F h, entry)

width_own : (F i : ℕ) → i < F → width F i ≡ 4
unfolding width
width_own F i h = rw (lt-ltb i F h, width)

width_repeat : (F i : ℕ) → F ≤ i → width F i ≡ 0
unfolding width
width_repeat F i h = rw (le-ltb i F h, width)

pub pack_nil : (F start off : ℕ) → pack F start off Items.nil ≡ []
unfolding pack
pack_nil F start off = refl

pub words_nil : (F : ℕ) → words F Items.nil ≡ 0
unfolding words
words_nil F = refl

joined : (l l₁ a b : List ℕ) (k₁ k₂ : ℕ) (us vs : List ℕ) → b ≡ take k₂ a ++ us → take k₂ a ≡ take k₂ l → drop k₁ l₁ ≡ vs → b ++ drop k₁ l₁ ≡ take k₂ l ++ (us ++ vs)
joined l l₁ a b k₁ k₂ us vs is front rest = rw (is, front, rest) (append_assoc (take k₂ l) us vs)

-- One node more: the call got the front of the records and the first k₁ words of the part.
pub copies_more : (F : ℕ) (w c : List ℕ) (q : ℕ) → Front w c q → (start lo off : ℕ) (its : Items) (l : List ℕ) (p₁ k₁ : ℕ) (l₁ : List ℕ) (p₂ k₂ : ℕ) (a b l₂ : List ℕ)
    → (d : Copies F w start lo off its l p₁ k₁ l₁) → a ≡ take k₁ l₁ → Copies F c start lo off d.left a p₂ k₂ b → l₂ ≡ b ++ drop k₁ l₁
    → Copies F w start lo off its l p₂ k₂ l₂
copies_more F w c q f start lo off its l p₁ k₁ l₁ p₂ k₂ a b l₂ d lent e back =
    let h : k₁ ≤ length l = omega (arith, d.room) in
    let n : length a ≡ k₁ = ap length (lent ∙ rear_front l l₁ d.copied k₁ h d.rear k₁ (omega arith)) ∙ length-take-le k₁ l h in
    let m : k₂ ≤ k₁ = omega (arith, e.room) in
    let front : take k₂ a ≡ take k₂ l = ap (take k₂) (lent ∙ rear_front l l₁ d.copied k₁ h d.rear k₁ (omega arith)) ∙ take-take k₂ k₁ l m in
    record {
      left = e.left;
      ready = ready_uncut F w c q f start lo off e.left p₂ k₂ e.ready;
      copied = e.copied ++ d.copied;
      packed = d.packed ∙ (ap (λ (x : List ℕ). x ++ d.copied) e.packed ∙ append_assoc (pack F start off e.left) e.copied d.copied);
      room = omega (arith, e.room, d.room, length-append e.copied d.copied);
      rear = back ∙ joined l l₁ a b k₁ k₂ e.copied d.copied e.rear front (rear_drop l l₁ d.copied k₁ h d.rear);
    }

-- A record that counts alone, or a repeat record with its children: nothing is copied of it.
skip_mark : (F : ℕ) (w : List ℕ) (start lo off i s e n : ℕ) (rest : Items) (p : ℕ) (l : List ℕ)
    → Ready F w start lo off (mark i s e n rest) p (length l) → Copies F w start lo off (mark i s e n rest) l (p - 1) (length l) l
unfolding words pack
skip_mark F w start lo off i s e n rest p l r =
    record {
      left = rest;
      ready = record { within = omega (arith, r.within); spells = r.spells.rest; passed = r.passed.rest; from = r.from; place = r.place };
      copied = [];
      packed = sym (append-nil (pack F start off rest));
      room = omega arith;
      rear = sym (append-nil (take (length l) l) ∙ take-length l);
    }

skip_span : (F : ℕ) (w : List ℕ) (start lo off i s e : ℕ) (kids rest : Items) (p : ℕ) (l : List ℕ)
    → Ready F w start lo off (span i s e kids rest) p (length l) → F ≤ i → Copies F w start lo off (span i s e kids rest) l (p - 1) (length l) l
unfolding words pack
skip_span F w start lo off i s e kids rest p l r h =
    let z : off + words F rest + width F i ≡ off + words F rest = omega (arith, width_repeat F i h) in
    record {
      left = onto kids rest;
      ready = record {
        within = omega (arith, r.within);
        spells = spells_onto w lo (p - suc (records kids)) (p - 1) kids rest (omega (arith, r.spells.room)) r.spells.inner r.spells.rest;
        passed = passed_onto F kids rest r.passed.inner r.passed.rest;
        from = from_onto start kids rest r.from.2 r.from.3;
        place = omega (arith, r.place, words_onto F kids rest, width_repeat F i h);
      };
      copied = [];
      packed =
          rw (z, entry_repeat F start (off + words F rest) i s e (words F kids) h)
          (sym (append-nil (pack F start off (onto kids rest)) ∙ pack_onto F start off kids rest));
      room = omega arith;
      rear = sym (append-nil (take (length l) l) ∙ take-length l);
    }

-- An ordinary record: its children, and then its own four words below theirs.
own_kids : (F : ℕ) (w : List ℕ) (start lo off i s e : ℕ) (kids rest : Items) (p at : ℕ)
    → Ready F w start lo off (span i s e kids rest) p at → i < F → Ready F w start (p - suc (records kids)) (off + words F rest + 4) kids (p - 1) at
unfolding words
own_kids F w start lo off i s e kids rest p at r h =
    record {
      within = omega (arith, r.within);
      spells = r.spells.inner;
      passed = r.passed.inner;
      from = r.from.2;
      place = omega (arith, r.place, width_own F i h);
    }

own_whole : (F : ℕ) (w : List ℕ) (start lo off i s e : ℕ) (kids rest : Items) (p : ℕ) (l : List ℕ)
    → Ready F w start lo off (span i s e kids rest) p (length l) → i < F
    → (l₁ l₂ : List ℕ) (k q : ℕ) (four : List ℕ)
    → Copies F w start (p - suc (records kids)) (off + words F rest + 4) kids l q k l₁ → q ≤ p - suc (records kids)
    → four ≡ i ∷ (s - start) ∷ (e - start) ∷ length l ∷ []
    → l₂ ≡ put l₁ (k - 4) four → Copies F w start lo off (span i s e kids rest) l (p - suc (records kids)) (k - 4) l₂
unfolding words pack
own_whole F w start lo off i s e kids rest p l r h l₁ l₂ k q four c done is st =
    let none : c.left ≡ Items.nil = spells_none w (p - suc (records kids)) q c.left c.ready.spells done in
    let k_is : k ≡ off + words F rest + 4 =
    c.ready.place ∙ ap (λ (x : ℕ). off + words F rest + 4 + x) (ap (words F) none ∙ words_nil F) ∙ omega arith in
    let all : c.copied ≡ pack F start (off + words F rest + 4) kids =
    sym (c.packed ∙ ap (λ (x : List ℕ). x ++ c.copied) (ap (pack F start (off + words F rest + 4)) none ∙ pack_nil F start (off + words F rest + 4))) in
    let n : length four ≡ 4 = ap length is in
    let back : k - 4 + length four ≡ k = omega arith in
    let m_is : length l ≡ off + words F rest + 4 + words F kids = omega (arith, r.place, width_own F i h) in
    let wide : off + words F rest + width F i ≡ off + words F rest + 4 = omega (arith, width_own F i h) in
    let own : entry F start (off + words F rest) i s e (words F kids) ≡ four =
    entry_own F start (off + words F rest) i s e (words F kids) h ∙ (ap (λ (x : ℕ). i ∷ (s - start) ∷ (e - start) ∷ x ∷ []) (sym m_is) ∙ sym is) in
    let fits : k ≤ length l = omega (arith, c.room) in
    record {
      left = rest;
      ready = record {
        within = omega (arith, r.within);
        spells = r.spells.rest;
        passed = r.passed.rest;
        from = r.from.3;
        place = omega arith;
      };
      copied = four ++ c.copied;
      packed = rw (wide, own, all);
      room = omega (arith, c.room, length-append four c.copied);
      rear = st ∙ (rw (back, rear_front l l₁ c.copied k fits c.rear (k - 4) (omega arith), rear_drop l l₁ c.copied k fits c.rear));
    }

-- What is known of the record that ends the first q words, where items stand.
pub record Step (F : ℕ) (w : List ℕ) (q : ℕ) : Type 0 where
  pub some_record : 4 ≤ q
  pub within : q ≤ length w
  pub size : get_or w (q - 4) 0 < F → get_or w (q - 1) 0 ≤ q
  pub whole : behind F w q % 4 ≡ 0
  pub less : behind F w q < q

step_repeat : (F : ℕ) (w : List ℕ) (q : ℕ) → 4 ≤ q → q ≤ length w → q % 4 ≡ 0 → F ≤ get_or w (q - 4) 0 → Step F w q
step_repeat F w q a b c h =
    let z : behind F w q ≡ q - 4 = rw (le-leb _ _ h) in
    record { some_record = a; within = b; size = λ l. absurd (omega arith); whole = rw z (omega arith); less = rw z (omega arith) }

step_own : (F : ℕ) (w : List ℕ) (q n : ℕ) → 4 ≤ q → q ≤ length w → q % 4 ≡ 0 → get_or w (q - 4) 0 < F → get_or w (q - 1) 0 ≡ 4 * suc n → 4 * suc n ≤ q → Step F w q
step_own F w q n a b c h size room =
    let z : behind F w q ≡ q - 4 * suc n = rw (lt-leb _ _ h, size) in
    record { some_record = a; within = b; size = λ l. omega arith; whole = rw z (omega arith); less = rw z (omega arith) }

pub ready_step : (F : ℕ) (w : List ℕ) (start lo off : ℕ) (its : Items) (q at : ℕ) → Ready F w start lo off its (q / 4) at → q % 4 ≡ 0 → lo < q / 4 → Step F w q
ready_step F w start lo off Items.nil q at r whole some = absurd (omega (arith, r.spells))
ready_step F w start lo off (mark i s e n rest) q at r whole some =
    let z : q - 4 ≡ (q / 4 - 1) * 4 = omega arith in
    let id : get_or w (q - 4) 0 ≡ i = ap (λ (x : ℕ). get_or w x 0) z ∙ r.spells.id in
    step_repeat F w q (omega arith) (omega (arith, r.within)) whole (omega (arith, r.passed.repeat))
ready_step F w start lo off (span i s e kids rest) q at r whole some = go (dec_le F i)
  where
    id : get_or w (q - 4) 0 ≡ i
    id = let z : q - 4 ≡ (q / 4 - 1) * 4 = omega arith in ap (λ (x : ℕ). get_or w x 0) z ∙ r.spells.id

    size : get_or w (q - 1) 0 ≡ 4 * suc (records kids)
    size = let z : q - 1 ≡ (q / 4 - 1) * 4 + 3 = omega arith in ap (λ (x : ℕ). get_or w x 0) z ∙ r.spells.size

    go : Dec (F ≤ i) → Step F w q
    go (yes h) = step_repeat F w q (omega arith) (omega (arith, r.within)) whole (omega (arith, id))
    go (no h) = step_own F w q (records kids) (omega arith) (omega (arith, r.within)) whole (omega (arith, id, h)) size (omega (arith, r.spells.room))

-- Of a repeat record nothing is copied.
pub copies_repeat : (F : ℕ) (w : List ℕ) (start lo off : ℕ) (its : Items) (l : List ℕ) → length w % 4 ≡ 0 → Ready F w start lo off its (length w / 4) (length l)
    → lo < length w / 4 → F ≤ get_or w (length w - 4) 0 → Copies F w start lo off its l (behind F w (length w) / 4) (length l) l
copies_repeat F w start lo off its l whole r some h = rw (le-leb _ _ h, back) (go its r)
  where
    back : (length w - 4) / 4 ≡ length w / 4 - 1
    back = omega arith

    at : length w - 4 ≡ (length w / 4 - 1) * 4
    at = omega arith

    go : (its : Items) → Ready F w start lo off its (length w / 4) (length l) → Copies F w start lo off its l (length w / 4 - 1) (length l) l
    go Items.nil r = absurd (omega (arith, r.spells))
    go (mark i s e n rest) r = skip_mark F w start lo off i s e n rest (length w / 4) l r
    go (span i s e kids rest) r =
        skip_span F w start lo off i s e kids rest (length w / 4) l r (omega (arith, ap (λ (x : ℕ). get_or w x 0) at ∙ r.spells.id))

-- what is known of an ordinary record before its children are copied, and afterwards
pub record Inside (F : ℕ) (w : List ℕ) (start lo off : ℕ) (its : Items) (l : List ℕ) : Type 0 where
  pub offs : ℕ
  pub kids : Items
  pub four : 4 ≤ offs
  pub size : get_or w (length w - 1) 0 ≤ length w
  pub begins : span_start w (length w) % 4 ≡ 0
  pub starts : start ≤ get_or w (length w - 3) 0
  pub ends : start ≤ get_or w (length w - 2) 0
  pub ready : Ready F w start (span_start w (length w) / 4) offs kids ((length w - 4) / 4) (length l)
  pub whole : (l₁ l₂ : List ℕ) (k q : ℕ) → Copies F w start (span_start w (length w) / 4) offs kids l (q / 4) k l₁ → q ≤ span_start w (length w)
      → l₂ ≡ put l₁ (k - 4) (packed_record w start (length l)) → Copies F w start lo off its l (behind F w (length w) / 4) (k - 4) l₂

pub go_inside : (F : ℕ) (w : List ℕ) (start lo off : ℕ) (its : Items) (l : List ℕ) → length w % 4 ≡ 0 → Ready F w start lo off its (length w / 4) (length l)
    → lo < length w / 4 → get_or w (length w - 4) 0 < F → Inside F w start lo off its l
go_inside F w start lo off Items.nil l whole r some h = absurd (omega (arith, r.spells))
go_inside F w start lo off (mark i s e n rest) l whole r some h =
    let z : length w - 4 ≡ (length w / 4 - 1) * 4 = omega arith in
    absurd (omega (arith, ap (λ (x : ℕ). get_or w x 0) z ∙ r.spells.id, r.passed.repeat))
go_inside F w start lo off (span i s e kids rest) l whole r some h =
    let at : (j k : ℕ) → k + j ≡ 4 → length w - k ≡ (length w / 4 - 1) * 4 + j = λ j k e. omega arith in
    let n = length w / 4 in
    let z : length w - 4 ≡ (n - 1) * 4 = omega arith in
    let id : get_or w (length w - 4) 0 ≡ i = ap (λ (x : ℕ). get_or w x 0) z ∙ r.spells.id in
    let from : get_or w (length w - 3) 0 ≡ s = ap (λ (x : ℕ). get_or w x 0) (at 1 3 refl) ∙ r.spells.start in
    let to : get_or w (length w - 2) 0 ≡ e = ap (λ (x : ℕ). get_or w x 0) (at 2 2 refl) ∙ r.spells.end in
    let size : get_or w (length w - 1) 0 ≡ 4 * suc (records kids) = ap (λ (x : ℕ). get_or w x 0) (at 3 1 refl) ∙ r.spells.size in
    let less : i < F = omega (arith, id) in
    let floor : span_start w (length w) / 4 ≡ n - suc (records kids) = omega (arith, size, r.spells.room) in
    let back : (length w - 4) / 4 ≡ n - 1 = omega arith in
    record {
      offs = off + words F rest + 4;
      kids = kids;
      four = omega arith;
      size = omega (arith, size, r.spells.room);
      begins = omega (arith, size, r.spells.room);
      starts = omega (arith, from, r.from.0);
      ends = omega (arith, to, r.from.0, r.from.1);
      ready = rw (floor, back) (own_kids F w start lo off i s e kids rest n (length l) r less);
      whole = λ l₁ l₂ k q c done st.
          rw (lt-leb _ _ h, floor)
          (own_whole F w start lo off i s e kids rest n l r less l₁ l₂ k (q / 4) (packed_record w start (length l)) (rw floor at c) (omega (arith, floor, done))
          (rw (id, from, to)) st);
    }

pub copies_length : (F : ℕ) (w : List ℕ) (start lo off : ℕ) (its : Items) (l : List ℕ) (p k : ℕ) (l' : List ℕ) → Copies F w start lo off its l p k l' → length l' ≡ length l
copies_length F w start lo off its l p k l' d =
    ap length d.rear ∙ (length-append (take k l) d.copied ∙ omega (arith, d.room, length-take-le k l (omega (arith, d.room))))

-- A call that copies the last of the items left, and what it leaves.
module _ (F : ℕ) (w c : List ℕ) (q : ℕ) (f : Front w c q) (start lo off : ℕ) (its : Items) (l l₁ : List ℕ) (k : ℕ) (whole : q % 4 ≡ 0)
    (d : Copies F w start lo off its l (q / 4) k l₁) (some : lo < q / 4) where
  fits : k ≤ length l
  fits = omega (arith, d.room)

  lent_length : length (take k l₁) ≡ k
  lent_length = ap length (rear_front l l₁ d.copied k fits d.rear k (omega arith)) ∙ length-take-le k l fits

  lent_ready : Ready F c start lo off d.left (length c / 4) (length (take k l₁))
  lent_ready = rw (f.size, lent_length) (ready_cut F w c q f start lo off d.left (q / 4) k (omega arith) d.ready)

  pub copyable_cut : length l ≤ 65532 → Copyable F c start (take k l₁)
  copyable_cut short =
      record {
        lo = lo;
        off = off;
        its = d.left;
        whole = omega (arith, f.size);
        ready = lent_ready;
        some_record = omega (arith, f.size);
        short = omega (arith, lent_length, fits);
      }

  pub copies_again : (r : ℕ) (b : List ℕ)
      → ((lo off : ℕ) (its : Items) → Ready F c start lo off its (length c / 4) (length (take k l₁)) → lo < length c / 4
      → Copies F c start lo off its (take k l₁) (behind F c (length c) / 4) r b)
      → Copies F w start lo off its l (behind F w q / 4) r (b ++ drop k l₁)
  copies_again r b e =
      let some' : lo < length c / 4 = omega (arith, f.size) in
      copies_more F w c q f start lo off its l (q / 4) k l₁ (behind F w q / 4) r (take k l₁) b (b ++ drop k l₁) d refl
      (rw (behind_cut F w c q f (omega arith)) at (e lo off d.left lent_ready some')) refl

-- All is copied: the part holds the words of the items.
pub copies_all : (F : ℕ) (w : List ℕ) (start lo : ℕ) (its : Items) (l : List ℕ) (p k : ℕ) (l' : List ℕ)
    → Copies F w start lo 0 its l p k l' → p ≤ lo → l' ≡ pack F start 0 its
copies_all F w start lo its l p k l' d done =
    let none : d.left ≡ Items.nil = spells_none w lo p d.left d.ready.spells done in
    let zero : k ≡ 0 = omega (arith, d.ready.place, ap (words F) none ∙ words_nil F) in
    let all : pack F start 0 its ≡ d.copied = d.packed ∙ ap (λ (x : List ℕ). x ++ d.copied) (ap (pack F start 0) none ∙ pack_nil F start 0) in
    d.rear ∙ (ap (λ (n : ℕ). take n l ++ d.copied) zero ∙ sym all)

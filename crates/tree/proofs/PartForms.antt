-- The part check over the list of words, with the ends of the records around the present one beside it: it finds the
-- same fault as the part check by record number (crate `part`), at the same place. Assumes nothing.
use mathlib.Core.Path.{◌≡◌, refl, sym, ap, subst, ◌∙◌}
use mathlib.Core.Bool.{Bool, true, false, cond, not, ◌||◌, true≢false}
use mathlib.Core.Logic.{◌⊎◌, inl, inr}
use mathlib.Core.List.{List, [], ◌∷◌}
use Prim.Native.Nat.{ℕ, zero, suc, ◌+◌, ◌*◌, ◌/◌, ◌%◌, ◌≤◌, ◌<◌}
use native.Mathlib.Decide.{dec_le, dec_lt, ℕ_discrete}
use native.Mathlib.Omega.{arith}
use borrow.Author.Tests.{leb-false, le-ltb, lt-ltb, eq-eqb, ne_eqb, eqb-true}
use lib.Dec.{T as So, ltb, leb, eqb, leb→le}
use lib.ListN.{length, drop}
use lib.Seq.{drop-length}
use Rattle.words.specs.Outcome.{Outcome, accepted, refused}
use Rattle.words.specs.Words.{id_of, start_of, end_of}
use Rattle.words.proofs.Runs.{four_at}
use Rattle.words.proofs.Outcomes.{never}
use Rattle.part.specs.Part.{end_index, own_fault, crosses, fault, part_counts, faults_from, part_check}
use Rattle.part.proofs.Faults.{crosses_none, crosses_some}

-- a number and a place; (0, 0) for none
abbrev pub Fault : Type 0
Fault = ℕ × ℕ

-- of the ends of the records around, innermost first, those past the offset `off`
unfoldable pub open_ends : (off : ℕ) → List ℕ → List ℕ
open_ends off [] = []
open_ends off (e ∷ es) = elim (leb e off) [ true ↦ open_ends off es | false ↦ e ∷ es ]

-- 20: an end index above an enclosing record's
unfoldable pub past_enclosing : (x : ℕ) → List ℕ → ℕ
past_enclosing x [] = 0
past_enclosing x (p ∷ ps) = elim (ltb p x) [ true ↦ 20 | false ↦ 0 ]

-- the first of 17 to 20 that applies to a record at the offset `off` of a part of n words, or 0
unfoldable pub entry_fault : (T n off : ℕ) (ends : List ℕ) (i s e x : ℕ) → ℕ
entry_fault T n off ends i s e x =
    cond (leb T i) 17
    (cond (ltb e s) 18
    (cond (ltb x (off + 4) || (ltb n x || not (eqb (x % 4) 0))) 19 (past_enclosing x ends)))

-- the first fault of the records from the offset `off` on
unfoldable pub entries_fault : (T n off : ℕ) (ends : List ℕ) → List ℕ → Fault
entries_fault T n off ends [] = (0, 0)
entries_fault T n off ends (i ∷ []) = (0, 0)
entries_fault T n off ends (i ∷ s ∷ []) = (0, 0)
entries_fault T n off ends (i ∷ s ∷ e ∷ []) = (0, 0)
entries_fault T n off ends (i ∷ s ∷ e ∷ x ∷ ws) =
    let around = open_ends off ends in
    elim (entry_fault T n off around i s e x) [ zero ↦ entries_fault T n (off + 4) (x ∷ around) ws | suc r ↦ (suc r, off) ]

-- 1 and 16 to 20
unfoldable pub part_fault : (T : ℕ) → List ℕ → Fault
part_fault T ws = cond (ltb 65536 T) (1, 0) (cond (not (eqb (length ws % 4) 0)) (16, 0) (entries_fault T (length ws) 0 [] ws))

-- the outcome for a part with these counts
abbrev pub fault_outcome : (counts : List ℕ) → Fault → Outcome
fault_outcome counts f = elim f.0 [ zero ↦ accepted counts | suc r ↦ refused (suc r) f.1 ]

-- What the ends say of the records before record i of a part.
abbrev pub In : ℕ → List ℕ → Type 0
In x [] = ⊥
In x (e ∷ es) = (x ≡ e) ⊎ In x es

abbrev pub Rising : ℕ → List ℕ → Type 0
Rising lo [] = Unit {0}
Rising lo (e ∷ es) = (lo ≤ e) × Rising e es

record Around (w : List ℕ) (i : ℕ) (ends : List ℕ) : Type 0 where
  sound : (x : ℕ) → In x ends → (j : ℕ) × (j < i) × (x ≡ end_index w j)
  complete : (j : ℕ) → j < i → i * 4 < end_index w j → In (end_index w j) ends
  rising : Rising 0 ends

rising_down : (lo lo' : ℕ) (es : List ℕ) → lo' ≤ lo → Rising lo es → Rising lo' es
rising_down lo lo' [] h r = tt
rising_down lo lo' (e ∷ es) h r = (omega (arith, r.0), r.1)

pub rising_in : (lo x : ℕ) (es : List ℕ) → Rising lo es → In x es → lo ≤ x
rising_in lo x [] r m = absurd m
rising_in lo x (e ∷ es) r (inl q) = omega (arith, r.0, q)
rising_in lo x (e ∷ es) r (inr m) = omega (arith, r.0, rising_in e x es r.1 m)

-- opening leaves out the ends that are passed
pub opened_rising : (off lo : ℕ) (es : List ℕ) → Rising lo es → Rising lo (open_ends off es)
unfolding open_ends
opened_rising off lo [] r = tt
opened_rising off lo (e ∷ es) r = go (leb e off) (rising_down e lo (open_ends off es) r.0 (opened_rising off e es r.1))
  where
    go : (x : Bool) → Rising lo (open_ends off es) → Rising lo (elim x [ true ↦ open_ends off es | false ↦ e ∷ es ])
    go true h = h
    go false h = r

opened_in : (off x : ℕ) (es : List ℕ) → In x (open_ends off es) → In x es
unfolding open_ends
opened_in off x [] = λ m. m
opened_in off x (e ∷ es) = go (leb e off) (opened_in off x es)
  where
    go : (b : Bool) → (In x (open_ends off es) → In x es) → In x (elim b [ true ↦ open_ends off es | false ↦ e ∷ es ]) → In x (e ∷ es)
    go true h m = inr (h m)
    go false h m = m

pub in_opened : (off x : ℕ) (es : List ℕ) → off < x → In x es → In x (open_ends off es)
unfolding open_ends
in_opened off x [] l m = m
in_opened off x (e ∷ es) l m = go (leb e off) refl m (in_opened off x es l)
  where
    go : (b : Bool) → leb e off ≡ b → In x (e ∷ es) → (In x es → In x (open_ends off es)) → In x (elim b [ true ↦ open_ends off es | false ↦ e ∷ es ])
    go true q (inl p) h = absurd (omega (arith, leb→le e off (subst So (sym q) tt), p))
    go true q (inr k) h = h k
    go false q k h = k

-- every end that is left is past the offset
opened_past : (off x : ℕ) (es : List ℕ) (lo : ℕ) → Rising lo es → In x (open_ends off es) → off < x
unfolding open_ends
opened_past off x [] lo r = λ m. absurd m
opened_past off x (e ∷ es) lo r = go (leb e off) refl (λ m. opened_past off x es e r.1 m)
  where
    go : (b : Bool) → leb e off ≡ b → (In x (open_ends off es) → off < x) → In x (elim b [ true ↦ open_ends off es | false ↦ e ∷ es ]) → off < x
    go true q h m = h m
    go false q h m = omega (arith, leb-false e off q, rising_in lo x (e ∷ es) r m, inside m)
      where
        inside : In x (e ∷ es) → e ≤ x
        inside (inl p) = omega (arith, p)
        inside (inr k) = rising_in e x es r.1 k

pub rising_up : (x : ℕ) (es : List ℕ) → ((y : ℕ) → In y es → x ≤ y) → Rising 0 es → Rising x es
rising_up x [] h r = tt
rising_up x (e ∷ es) h r = (h e (inl refl), r.1)

module _ (w : List ℕ) (i : ℕ) where
  opened : (ends : List ℕ) → Around w i ends → Around w i (open_ends (i * 4) ends)
  opened ends a = record {
    sound = λ x m. a.sound x (opened_in (i * 4) x ends m);
    complete = λ j l above. in_opened (i * 4) (end_index w j) ends above (a.complete j l above);
    rising = opened_rising (i * 4) 0 ends a.rising;
  }

  module _ (ends : List ℕ) (a : Around w i ends) (past : (y : ℕ) → In y ends → i * 4 < y) where
    -- 20, by the innermost end
    crossing : (x : ℕ) → past_enclosing x ends ≡ cond (crosses w i (i * 4) x) 20 0
    unfolding past_enclosing
    crossing x = go ends a past
      where
        go : (es : List ℕ) → Around w i es → ((y : ℕ) → In y es → i * 4 < y) → past_enclosing x es ≡ cond (crosses w i (i * 4) x) 20 0
        go [] a p = rw (crosses_none w i (i * 4) x (λ j l above. absurd (a.complete j l above)))
        go (e ∷ es) a p = inner (dec_lt e x)
          where
            inner : Dec (e < x) → ◌≡◌ {A = ℕ} (elim (ltb e x) [ true ↦ 20 | false ↦ 0 ]) (cond (crosses w i (i * 4) x) 20 0)
            inner (yes l) =
                let f = a.sound e (inl refl) in
                rw (lt-ltb e x l, crosses_some w i (i * 4) x f.0 f.1 (omega (arith, p e (inl refl), f.2)) (omega (arith, f.2)))
            inner (no l) =
                rw (
                  le-ltb e x (omega arith),
                  crosses_none w i (i * 4) x (λ j k above. least (end_index w j) (a.complete j k above)),
                )
              where
                least : (y : ℕ) → In y (e ∷ es) → x ≤ y
                least y (inl q) = omega (arith, q)
                least y (inr m) = omega (arith, rising_in e y es a.rising.1 m)

    -- one record more
    pushed : (x : ℕ) → x ≡ end_index w i → crosses w i (i * 4) x ≡ false → Around w (i + 1) (x ∷ ends)
    pushed x is none = record {
      sound = λ y m. sound' y m;
      complete = λ j l above. complete' j l above (ℕ_discrete j i);
      rising = (omega arith, rising_up x ends low a.rising);
    }
      where
        low : (y : ℕ) → In y ends → x ≤ y
        low y m = go (dec_le x y)
          where
            go : Dec (x ≤ y) → x ≤ y
            go (yes l) = l
            go (no l) =
                let f = a.sound y m in
                absurd (true≢false (sym (crosses_some w i (i * 4) x f.0 f.1 (omega (arith, past y m, f.2)) (omega (arith, f.2))) ∙ none))

        sound' : (y : ℕ) → In y (x ∷ ends) → (j : ℕ) × (j < i + 1) × (y ≡ end_index w j)
        sound' y (inl q) = (i, omega arith, q ∙ is)
        sound' y (inr m) = let f = a.sound y m in (f.0, omega arith, f.2)

        complete' : (j : ℕ) → j < i + 1 → (i + 1) * 4 < end_index w j → Dec (j ≡ i) → In (end_index w j) (x ∷ ends)
        complete' j l above (yes q) = inl (ap (end_index w) q ∙ sym is)
        complete' j l above (no q) = inr (a.complete j (omega arith) (omega arith))

    -- the fault of a record is the same
    entry_is : (T : ℕ) → entry_fault T (length w) (i * 4) ends (id_of w i) (start_of w i) (end_of w i) (end_index w i) ≡ fault w T i
    unfolding entry_fault fault own_fault
    entry_is T =
        go (leb T (id_of w i)) (ltb (end_of w i) (start_of w i)) (ltb (end_index w i) (i * 4 + 4)) (ltb (length w) (end_index w i)) (eqb (end_index w i % 4) 0)
        (crosses w i (i * 4) (end_index w i)) (past_enclosing (end_index w i) ends) (crossing (end_index w i))
      where
        go : (a b c d f k : Bool) (p : ℕ) → p ≡ cond k 20 0
            → cond a 17 (cond b 18 (cond (c || (d || not f)) 19 p))
            ≡ cond (eqb (cond a 17 (cond b 18 (cond c 19 (cond d 19 (cond (not f) 19 0))))) 0) (cond k 20 0) (cond a 17 (cond b 18 (cond c 19 (cond d 19 (cond (not f) 19 0)))))
        go true b c d f k p q = refl
        go false true c d f k p q = refl
        go false false true d f k p q = refl
        go false false false true f k p q = refl
        go false false false false false k p q = refl
        go false false false false true k p q = q

-- where a record has no fault, nothing around it ends before it
no_crossing : (w : List ℕ) (T i : ℕ) → fault w T i ≡ 0 → crosses w i (i * 4) (end_index w i) ≡ false
unfolding fault
no_crossing w T i = go (eqb (own_fault w T i) 0) refl (crosses w i (i * 4) (end_index w i))
  where
    go : (x : Bool) → eqb (own_fault w T i) 0 ≡ x → (k : Bool) → cond x (cond k 20 0) (own_fault w T i) ≡ 0 → k ≡ false
    go true q true h = absurd (omega arith)
    go true q false h = refl
    go false q k h = absurd (true≢false (sym (eq-eqb (own_fault w T i) 0 h) ∙ q))

-- a record's own fault, or that of the others
abbrev pub chosen : (r : ℕ) → Fault → (off : ℕ) → Fault
chosen r more off = elim r [ zero ↦ more | suc q ↦ (suc q, off) ]

pub entries_step : (T n off : ℕ) (ends : List ℕ) (i s e x : ℕ) (ws : List ℕ)
    → entries_fault T n off ends (i ∷ s ∷ e ∷ x ∷ ws)
    ≡ chosen (entry_fault T n off (open_ends off ends) i s e x) (entries_fault T n (off + 4) (x ∷ open_ends off ends) ws) off
unfolding entries_fault
entries_step T n off ends i s e x ws = refl

module _ (w : List ℕ) (T : ℕ) where
  abbrev N : List ℕ
  N = part_counts w

  step : (i r : ℕ) (more : Outcome) (faults : Fault) → (r ≡ 0 → more ≡ fault_outcome N faults)
      → cond (eqb r 0) more (refused r (i * 4)) ≡ fault_outcome N (chosen r faults (i * 4))
  step i zero more faults h = h refl
  step i (suc r) more faults h = rw (ne_eqb (suc r) 0 (λ z. omega arith))

  forms_from : (left i : ℕ) (ends : List ℕ) → (i + left) * 4 ≡ length w → Around w i ends
      → faults_from w T i left ≡ fault_outcome N (entries_fault T (length w) (i * 4) ends (drop (i * 4) w))
  unfolding faults_from entries_fault
  forms_from zero i ends l a =
      let e : i * 4 ≡ length w = omega arith in
      rw (e, drop-length w)
  forms_from (suc left) i ends l a =
      let around = open_ends (i * 4) ends in
      let b = opened w i ends a in
      let past : (y : ℕ) → In y around → i * 4 < y = λ y m. opened_past (i * 4) y ends 0 a.rising m in
      let e : i * 4 + 4 ≡ (i + 1) * 4 = omega arith in
      let more = entries_fault T (length w) ((i + 1) * 4) (end_index w i ∷ around) (drop ((i + 1) * 4) w) in
      let now : entries_fault T (length w) (i * 4) ends (drop (i * 4) w) ≡ chosen (fault w T i) more (i * 4) =
      ap (entries_fault T (length w) (i * 4) ends) (four_at w i (omega arith))
      ∙ (entries_step T (length w) (i * 4) ends (id_of w i) (start_of w i) (end_of w i) (end_index w i) (drop ((i + 1) * 4) w)
      ∙ (ap (λ (k : ℕ). chosen (entry_fault T (length w) (i * 4) around (id_of w i) (start_of w i) (end_of w i) (end_index w i)) (entries_fault T (length w) k (end_index w i ∷ around) (drop ((i + 1) * 4) w)) (i * 4)) e
      ∙ ap (λ (r : ℕ). chosen r more (i * 4)) (entry_is w i around b past T))) in
      step i (fault w T i) (faults_from w T (i + 1) left) more
      (λ z. forms_from left (i + 1) (end_index w i ∷ around) (omega arith) (pushed w i around b past (end_index w i) refl (no_crossing w T i z)))
      ∙ ap (fault_outcome N) (sym now)

-- The two forms of the part check find the same.
pub part_forms : (T : ℕ) (ws : List ℕ) → part_check ws T ≡ fault_outcome (part_counts ws) (part_fault T ws)
unfolding part_check part_fault
part_forms T ws = go (ltb 65536 T) (eqb (length ws % 4) 0) refl
  where
    go : (x y : Bool) → eqb (length ws % 4) 0 ≡ y
        → cond x (refused 1 0) (cond (not y) (refused 16 0) (faults_from ws T 0 (length ws / 4)))
        ≡ fault_outcome (part_counts ws) (cond x (1, 0) (cond (not y) (16, 0) (entries_fault T (length ws) 0 [] ws)))
    go true y q = refl
    go false false q = refl
    go false true q =
        let whole : length ws % 4 ≡ 0 = eqb-true (length ws % 4) 0 q in
        forms_from ws T (length ws / 4) 0 [] (omega arith)
        (record { sound = λ x m. absurd m; complete = λ j l above. absurd (omega arith); rising = tt })

-- accepted exactly when there is no fault
pub part_accepted : (T : ℕ) (ws : List ℕ) → (part_fault T ws).0 ≡ 0 → part_check ws T ≡ accepted (part_counts ws)
part_accepted T ws h = part_forms T ws ∙ go (part_fault T ws) h
  where
    go : (f : Fault) → f.0 ≡ 0 → fault_outcome (part_counts ws) f ≡ accepted (part_counts ws)
    go (zero, at) h = refl
    go (suc r, at) h = absurd (omega arith)

pub accepted_part : (T : ℕ) (ws counts : List ℕ) → part_check ws T ≡ accepted counts → (part_fault T ws).0 ≡ 0
accepted_part T ws counts h = go (part_fault T ws) (sym (part_forms T ws) ∙ h)
  where
    go : (f : Fault) → fault_outcome (part_counts ws) f ≡ accepted counts → f.0 ≡ 0
    go (zero, at) h = refl
    go (suc r, at) h = absurd (never (suc r) at counts h)

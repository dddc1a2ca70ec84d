-- The records one by one: what is known before record i where none of 6 to 9 applies to the records before it, and what the
-- definition says of record i. By one step of the definition.
-- Assumes nothing.
use mathlib.Core.Path.{◌≡◌, refl, sym, ap, subst, ◌∙◌}
use mathlib.Core.List.{List, [], ◌∷◌}
use mathlib.Core.Bool.{Bool, true, false, cond}
use Prim.Native.Nat.{ℕ, zero, suc, ◌+◌, ◌-◌, ◌*◌, ◌≤◌, ◌<◌}
use native.Mathlib.Omega.{arith}
use lib.Dec.{T as So}
use lib.ListN.{length, drop, drop_of_length-le}
use lib.Seq.{take_all}
use Rattle.words.specs.Outcome.{Outcome, accepted, refused}
use Rattle.words.specs.Words.{id_of, start_of, end_of, last_of}
use Rattle.records.specs.Forest.{Forest, empty, add, count, postfix}
use Rattle.records.specs.Parse.{descendants, parse, parse_from, nearest, farther}
use Rattle.records.specs.Check.{fills, own_fault, record_fault, records_check}
use Rattle.records.specs.Taking.{finished, Spelt, fault_at}
use Rattle.records.proofs.ParseLaws.{own_fine, Fine, fine, first_fine}
use Rattle.records.proofs.Spelling.{counted, span, grown, four_more, finished_more, spelt_next}

-- before record i: the records before it have no fault
pub record Progress (T : ℕ) (ws : List ℕ) (i : ℕ) : Type 0 where
  pub sound : Spelt ws i
  pub faults : records_check T empty ws ≡ records_check T (finished ws i) (drop (i * 4) ws)

pub progress_none : (T : ℕ) (ws : List ℕ) → Progress T ws 0
unfolding finished parse parse_from postfix
progress_none T ws = record { sound = record { within = omega arith; spelt = refl }; faults = refl }

-- one record of the definition
step_fault : (T : ℕ) (done : Forest) (i s e n : ℕ) (ws : List ℕ) → (record_fault T done i s e n ≡ 0 → ⊥)
    → records_check T done (i ∷ s ∷ e ∷ n ∷ ws) ≡ refused (record_fault T done i s e n) (count done)
unfolding records_check
step_fault T done i s e n ws =
    go (record_fault T done i s e n) (records_check T (add (farther done (descendants n)) i s e (nearest done (descendants n))) ws)
  where
    go : (r : ℕ) (others : Outcome) → (r ≡ 0 → ⊥) → elim r [ suc r ↦ refused (suc r) (count done) | zero ↦ others ] ≡ refused r (count done)
    go zero others h = absurd (h refl)
    go (suc r) others h = refl

step_clear : (T : ℕ) (done : Forest) (i s e n : ℕ) (ws : List ℕ) → record_fault T done i s e n ≡ 0
    → records_check T done (i ∷ s ∷ e ∷ n ∷ ws) ≡ records_check T (add (farther done (descendants n)) i s e (nearest done (descendants n))) ws
unfolding records_check
step_clear T done i s e n ws =
    go (record_fault T done i s e n) (records_check T (add (farther done (descendants n)) i s e (nearest done (descendants n))) ws)
  where
    go : (r : ℕ) (others : Outcome) → r ≡ 0 → elim r [ suc r ↦ refused (suc r) (count done) | zero ↦ others ] ≡ others
    go zero others h = refl
    go (suc r) others h = absurd (omega arith)

own_first : (T : ℕ) (done : Forest) (i s e n : ℕ) → (own_fault T (count done) i s e n ≡ 0 → ⊥) → record_fault T done i s e n ≡ own_fault T (count done) i s e n
unfolding record_fault
own_first T done i s e n = go (own_fault T (count done) i s e n)
  where
    go : (r : ℕ) → (r ≡ 0 → ⊥) → ◌≡◌ {A = ℕ} (elim r [ suc r ↦ suc r | zero ↦ cond (fills done (descendants n)) 0 9 ]) r
    go zero h = absurd (h refl)
    go (suc r) h = refl

own_clear : (T : ℕ) (done : Forest) (i s e n : ℕ) (t : Bool) → own_fault T (count done) i s e n ≡ 0 → fills done (descendants n) ≡ t
    → record_fault T done i s e n ≡ cond t 0 9
unfolding record_fault
own_clear T done i s e n t h f = go (own_fault T (count done) i s e n) h
  where
    go : (r : ℕ) → r ≡ 0 → ◌≡◌ {A = ℕ} (elim r [ suc r ↦ suc r | zero ↦ cond (fills done (descendants n)) 0 9 ]) (cond t 0 9)
    go zero h = ap (λ (b : Bool). cond {A = ℕ} b 0 9) f
    go (suc r) h = absurd (omega arith)

-- the size of a record to which none of 6 to 8 applies: its span holds m records
pub record Sized (ws : List ℕ) (i m : ℕ) : Type 0 where
  pub span_of : last_of ws i ≡ 4 * suc (m - 1)
  pub taken_of : descendants (last_of ws i) ≡ m - 1
  pub some_span : 0 < m
  pub few : m - 1 ≤ i

module _ (T : ℕ) (ws : List ℕ) (i : ℕ) (g : Progress T ws i) (room : i * 4 + 4 ≤ length ws) where
  abbrev done : Forest
  done = finished ws i

  abbrev whole_fault : ℕ
  whole_fault = record_fault T done (id_of ws i) (start_of ws i) (end_of ws i) (last_of ws i)

  own_is : own_fault T (count done) (id_of ws i) (start_of ws i) (end_of ws i) (last_of ws i) ≡ fault_at T ws i
  own_is = ap (λ (c : ℕ). own_fault T c (id_of ws i) (start_of ws i) (end_of ws i) (last_of ws i)) (counted ws i g.sound)

  -- the definition at record i
  from_here : records_check T empty ws ≡ records_check T done (id_of ws i ∷ start_of ws i ∷ end_of ws i ∷ last_of ws i ∷ drop ((i + 1) * 4) ws)
  from_here = g.faults ∙ ap (records_check T done) (four_more ws i room)

  refuse : (r : ℕ) → (r ≡ 0 → ⊥) → whole_fault ≡ r → records_check T empty ws ≡ refused r i
  refuse r h e = from_here ∙ (step_fault T done _ _ _ _ _ (λ z. h (sym e ∙ z)) ∙ rw (e, counted ws i g.sound))

  -- 6 to 8
  pub own_refused : (r : ℕ) → r ≡ fault_at T ws i → (r ≡ 0 → ⊥) → records_check T empty ws ≡ refused r i
  own_refused r e h = refuse r h (own_first T done _ _ _ _ (λ z. h (e ∙ (sym own_is ∙ z))) ∙ (own_is ∙ sym e))

  -- none of 6 to 9
  module _ (m : ℕ) (z : Sized ws i m) (clear : whole_fault ≡ 0) (f : fills (finished ws i) (m - 1) ≡ true) where
    more : finished ws (i + 1) ≡ grown ws i (m - 1)
    more = finished_more ws i (m - 1) g.sound room z.span_of f

    next : Progress T ws (i + 1)
    next = record {
      sound = spelt_next ws i (m - 1) g.sound room z.span_of f;
      faults =
          from_here
          ∙ (step_clear T done _ _ _ _ _ clear
          ∙ (ap (λ (k : ℕ). records_check T (grown ws i k) (drop ((i + 1) * 4) ws)) z.taken_of ∙ ap (λ (f : Forest). records_check T f (drop ((i + 1) * 4) ws)) (sym more)));
    }

  module _ (r : ℕ) (is : r ≡ fault_at T ws i) (none-own : r ≡ 0) where
    pub own_sound : (id_of ws i < T) × (start_of ws i ≤ end_of ws i)
    own_sound = let f = own_fine T i _ _ _ _ (sym is ∙ none-own) in (f.0, f.1)

    pub sized : (m : ℕ) → m ≡ span ws i → Sized ws i m
    sized m spans =
        let f = own_fine T i _ _ _ _ (sym is ∙ none-own) in
        record { span_of = omega (arith, f.2); taken_of = omega (arith, f.2); some_span = omega (arith, f.2); few = omega (arith, f.2, f.3) }

    module _ (m : ℕ) (spans : m ≡ span ws i) where
      -- 9
      pub crossing_refused : fills (finished ws i) (m - 1) ≡ false → records_check T empty ws ≡ refused 9 i
      crossing_refused c =
          refuse 9 (λ z. omega arith) (own_clear T done _ _ _ _ false (own_is ∙ (sym is ∙ none-own)) (ap (fills done) (sized m spans).taken_of ∙ c))

      -- one record more
      pub progress_next : fills (finished ws i) (m - 1) ≡ true → Progress T ws (i + 1) × (finished ws (i + 1) ≡ grown ws i (m - 1))
      progress_next f =
          let z = sized m spans in
          let clear : whole_fault ≡ 0 = own_clear T done _ _ _ _ true (own_is ∙ (sym is ∙ none-own)) (ap (fills done) z.taken_of ∙ f) in
          (next m z clear f, more m z clear f)

  -- where the whole list has no fault
  module _ (all : records_check T empty ws ≡ accepted []) where
    faultless : Fine T done (id_of ws i) (start_of ws i) (end_of ws i) (last_of ws i)
    unfolding records_check
    faultless =
        let h = sym from_here ∙ all in
        fine T done _ _ _ _ (first_fine whole_fault (count done) _ [] h).0

    clear_here : whole_fault ≡ 0
    unfolding records_check
    clear_here = (first_fine whole_fault (count done) _ [] (sym from_here ∙ all)).0

    module _ (m : ℕ) (spans : m ≡ span ws i) where
      pub sized_here : Sized ws i m
      sized_here =
          let f = faultless in
          record {
            span_of = omega (arith, f.sized);
            taken_of = omega (arith, f.sized);
            some_span = omega (arith, f.sized);
            few = omega (arith, f.sized, f.small, counted ws i g.sound);
          }

      pub fills_here : fills (finished ws i) (m - 1) ≡ true
      fills_here = go (fills done (descendants (last_of ws i))) refl faultless.covered
        where
          go : (t : Bool) → fills done (descendants (last_of ws i)) ≡ t → So (fills done (descendants (last_of ws i))) → fills (finished ws i) (m - 1) ≡ true
          go true e c = ap (fills done) (sym sized_here.taken_of) ∙ e
          go false e c = absurd (subst So e c)

      pub next_here : Progress T ws (i + 1) × (finished ws (i + 1) ≡ grown ws i (m - 1))
      next_here = (next m sized_here clear_here fills_here, more m sized_here clear_here fills_here)

-- after the last record
module _ (T : ℕ) (ws : List ℕ) (n : ℕ) (size : length ws ≡ n * 4) where
  pub no_fault : Progress T ws n → records_check T empty ws ≡ accepted []
  unfolding records_check
  no_fault g = g.faults ∙ ap (records_check T (finished ws n)) (drop_of_length-le ws {i = n * 4} (omega arith))

  pub all_parsed : finished ws n ≡ parse ws
  unfolding finished
  all_parsed = ap parse (take_all (n * 4) ws (omega arith))

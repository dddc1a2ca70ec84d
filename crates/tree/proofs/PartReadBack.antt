-- An accepted part is the words of the trees that it is read back to: each record's end index is where a tree ends, so
-- that materialising moves no record out of another. By induction on the words. Assumes nothing.
use mathlib.Core.Path.{◌≡◌, refl, sym, ap, ap₂, ◌∙◌}
use mathlib.Core.Bool.{Bool, true, false, cond, not, ◌||◌}
use mathlib.Core.Logic.{inl, inr, ◌↔◌}
use mathlib.Core.List.{List, [], ◌∷◌, ◌++◌}
use Rattle.std.specs.Prelude.{None, Some}
use Prim.Native.Nat.{ℕ, zero, suc, ◌+◌, ◌-◌, ◌*◌, ◌/◌, ◌%◌, ◌≤◌, ◌<◌}
use native.Mathlib.Decide.{ℕ_discrete}
use native.Mathlib.Omega.{arith}
use borrow.Author.Tests.{leb-false, ltb-false, eqb-true}
use lib.Dec.{ltb, leb, eqb}
use lib.ListN.{length}
use Rattle.words.specs.Outcome.{accepted}
use Rattle.part.specs.Part.{part_counts, part_check}
use Rattle.part.proofs.Faults.{part_whole}
use Rattle.tree.specs.Trees.{Trees, nil, tree, part, ◌⊕◌, nodes}
use Rattle.tree.specs.Materialise.{within, beyond, unpack}
use Rattle.tree.specs.Cells.{id_word}
use Rattle.tree.proofs.PackLaws.{within_zero}
use Rattle.tree.proofs.PartForms.{Fault, open_ends, past_enclosing, entry_fault, entries_fault, part_fault, accepted_part, chosen, entries_step, In, Rising, rising_in, opened_rising, in_opened, rising_up}
use Rattle.tree.proofs.SpellLaws.{NoParts, spelled-⊕}
use Rattle.tree.proofs.MaterialiseLaws.{Typed, typed_within, typed_unpack}
use Rattle.tree.proofs.PartLaws.{parts_accepted}
use Rattle.tree.specs.Well.{Plain, Short, Parts, spelled}

-- the first trees hold just n
abbrev Cuts : Trees → (n : ℕ) → Type 0
Cuts ts n = nodes (within ts n) ≡ n

pub within_beyond : (ts : Trees) (n : ℕ) → within ts n ⊕ beyond ts n ≡ ts
unfolding within beyond ◌⊕◌
within_beyond nil n = refl
within_beyond (tree t s l kids rest) zero = refl
within_beyond (tree t s l kids rest) (suc n) = ap (tree t s l kids) (within_beyond rest (n - nodes kids))
within_beyond (part s l ws rest) zero = refl
within_beyond (part s l ws rest) (suc n) = ap (part s l ws) (within_beyond rest n)

cuts_beyond : (ts : Trees) (k j : ℕ) → Cuts ts k → Cuts ts j → k ≤ j → Cuts (beyond ts k) (j - k)
unfolding within beyond nodes
cuts_beyond nil k j a b h = omega arith
cuts_beyond (tree t s l kids rest) zero j a b h = let e : j - 0 ≡ j = omega arith in rw e b
cuts_beyond (tree t s l kids rest) (suc k) zero a b h = absurd (omega arith)
cuts_beyond (tree t s l kids rest) (suc k) (suc j) a b h =
    let e : suc j - suc k ≡ (j - nodes kids) - (k - nodes kids) = omega (arith, a, b) in
    rw e (cuts_beyond rest (k - nodes kids) (j - nodes kids) (omega (arith, a)) (omega (arith, b)) (omega arith))
cuts_beyond (part s l ws rest) zero j a b h = let e : j - 0 ≡ j = omega arith in rw e b
cuts_beyond (part s l ws rest) (suc k) zero a b h = absurd (omega arith)
cuts_beyond (part s l ws rest) (suc k) (suc j) a b h =
    let e : suc j - suc k ≡ j - k = omega arith in
    rw e (cuts_beyond rest k j (omega (arith, a)) (omega (arith, b)) (omega arith))

no_parts : (ts : Trees) → Typed ts → NoParts ts
no_parts nil a = tt
no_parts (tree None s l kids rest) a = absurd a
no_parts (tree (Some i) s l kids rest) a = (no_parts kids a.0, no_parts rest a.1)
no_parts (part s l ws rest) a = absurd a

-- an accepted part has no fault in its records
no_entry : (T : ℕ) (ws counts : List ℕ) → part_check ws T ≡ accepted counts → (entries_fault T (length ws) 0 [] ws).0 ≡ 0
unfolding part_fault
no_entry T ws counts h = go (ltb 65536 T) (eqb (length ws % 4) 0) (accepted_part T ws counts h)
  where
    go : (x y : Bool) → (cond x (1, 0) (cond (not y) (16, 0) (entries_fault T (length ws) 0 [] ws))).0 ≡ 0 → (entries_fault T (length ws) 0 [] ws).0 ≡ 0
    go true y h = absurd (omega arith)
    go false false h = absurd (omega arith)
    go false true h = h

-- what a record without a fault satisfies
record Fine (T N off : ℕ) (es : List ℕ) (i s e x : ℕ) : Type 0 where
  known : i < T
  ordered : s ≤ e
  later : off + 4 ≤ x
  within_part : x ≤ N
  whole : x % 4 ≡ 0
  inside : past_enclosing x es ≡ 0

entry_sound : (T N off : ℕ) (es : List ℕ) (i s e x : ℕ) → entry_fault T N off es i s e x ≡ 0 → Fine T N off es i s e x
unfolding entry_fault
entry_sound T N off es i s e x =
    go (leb T i) (ltb e s) (ltb x (off + 4)) (ltb N x) (eqb (x % 4) 0) refl refl refl refl refl
  where
    go : (a b c d f : Bool) → leb T i ≡ a → ltb e s ≡ b → ltb x (off + 4) ≡ c → ltb N x ≡ d → eqb (x % 4) 0 ≡ f
        → ◌≡◌ {A = ℕ} (cond a 17 (cond b 18 (cond (c || (d || not f)) 19 (past_enclosing x es)))) 0 → Fine T N off es i s e x
    go true b c d f p₁ p₂ p₃ p₄ p₅ h = absurd (omega arith)
    go false true c d f p₁ p₂ p₃ p₄ p₅ h = absurd (omega arith)
    go false false true d f p₁ p₂ p₃ p₄ p₅ h = absurd (omega arith)
    go false false false true f p₁ p₂ p₃ p₄ p₅ h = absurd (omega arith)
    go false false false false false p₁ p₂ p₃ p₄ p₅ h = absurd (omega arith)
    go false false false false true p₁ p₂ p₃ p₄ p₅ h =
        record {
          known = leb-false T i p₁;
          ordered = ltb-false e s p₂;
          later = ltb-false x (off + 4) p₃;
          within_part = ltb-false N x p₄;
          whole = eqb-true (x % 4) 0 p₅;
          inside = h;
        }

below_all : (x : ℕ) (es : List ℕ) → past_enclosing x es ≡ 0 → Rising 0 es → (y : ℕ) → In y es → x ≤ y
unfolding past_enclosing
below_all x [] h r y m = absurd m
below_all x (e ∷ es) h r y m = go (ltb e x) refl h
  where
    least : In y (e ∷ es) → e ≤ y
    least (inl q) = omega (arith, q)
    least (inr k) = rising_in e y es r.1 k

    go : (b : Bool) → ltb e x ≡ b → ◌≡◌ {A = ℕ} (elim b [ true ↦ 20 | false ↦ 0 ]) 0 → x ≤ y
    go true q h = absurd (omega arith)
    go false q h = omega (arith, ltb-false e x q, least m)

-- a first record without a fault, and the others
clear : (r : ℕ) (more : Fault) (off : ℕ) → (chosen r more off).0 ≡ 0 → (r ≡ 0) × (more.0 ≡ 0)
clear zero more off h = (refl, h)
clear (suc r) more off h = absurd (omega arith)

module _ (T N p : ℕ) where
  -- At each end that is still open a tree ends; the records behind one begin at a tree.
  Ends : (ws : List ℕ) (off : ℕ) (ends : List ℕ) → Type 0
  Ends ws off ends = (y : ℕ) → In y ends → off < y → y ≤ N → y % 4 ≡ 0 → Cuts (unpack p off ws) ((y - off) / 4)

  ends_at : (ws : List ℕ) (off : ℕ) (ends : List ℕ) → Ends ws off ends → (y : ℕ) → In y ends → off ≤ y → y ≤ N → y % 4 ≡ 0 → Cuts (unpack p off ws) ((y - off) / 4)
  unfolding Ends nodes
  ends_at ws off ends c y m l le w = go (ℕ_discrete off y)
    where
      go : Dec (off ≡ y) → Cuts (unpack p off ws) ((y - off) / 4)
      go (no n) = c y m (omega arith) le w
      go (yes q) = let z : (y - off) / 4 ≡ 0 = omega arith in rw (z, within_zero (unpack p off ws))

  -- one record of a part without faults, and what follows from it
  module _ (off : ℕ) (ends : List ℕ) (i s e x : ℕ) (ws : List ℕ) (h : (entries_fault T N off ends (i ∷ s ∷ e ∷ x ∷ ws)).0 ≡ 0) (r : Rising 0 ends) where
    abbrev around : List ℕ
    around = open_ends off ends

    parted : (entry_fault T N off around i s e x ≡ 0) × ((entries_fault T N (off + 4) (x ∷ around) ws).0 ≡ 0)
    parted = clear (entry_fault T N off around i s e x) (entries_fault T N (off + 4) (x ∷ around) ws) off
        (sym (ap (λ (f : Fault). f.0) (entries_step T N off ends i s e x ws)) ∙ h)

    first : Fine T N off around i s e x
    first = entry_sound T N off around i s e x parted.0

    low : (y : ℕ) → In y around → x ≤ y
    low = below_all x around first.inside (opened_rising off 0 ends r)

    stacked : Rising 0 (x ∷ around)
    stacked = (omega arith, rising_up x around low (opened_rising off 0 ends r))

    -- the trees behind it
    abbrev ts : Trees
    ts = unpack p (off + 4) ws

    abbrev k : ℕ
    k = (x - (off + 4)) / 4

    module _ (c : Ends ws (off + 4) (x ∷ around)) where
      own_cut : Cuts ts k
      own_cut = ends_at ws (off + 4) (x ∷ around) c x (inl refl) first.later first.within_part first.whole

      cuts_more : off % 4 ≡ 0 → Ends (i ∷ s ∷ e ∷ x ∷ ws) off ends
      unfolding Ends unpack within nodes
      cuts_more z y m lt le w =
          let m' = in_opened off y ends lt m in
          let above = low y m' in
          let j = (y - (off + 4)) / 4 in
          let cj : Cuts ts j = ends_at ws (off + 4) (x ∷ around) c y (inr m') (omega (arith, first.later)) le w in
          let b = cuts_beyond ts k j own_cut cj (omega (arith, first.later)) in
          let n : (y - off) / 4 ≡ suc j = omega (arith, first.later) in
          rw (n, own_cut) (omega (arith, b, first.later))

      -- the words of the record and of what follows it
      spelled_more : off % 4 ≡ 0 → spelled p (off + 4) ts ≡ ws → spelled p off (unpack p off (i ∷ s ∷ e ∷ x ∷ ws)) ≡ i ∷ s ∷ e ∷ x ∷ ws
      unfolding spelled unpack id_word
      spelled_more z others =
          let a : (p + s) - p ≡ s = omega arith in
          let b : ((p + s) + (e - s)) - p ≡ e = omega (arith, first.ordered) in
          let n : off + 4 + 4 * nodes (within ts k) ≡ x = omega (arith, own_cut, first.later, first.whole) in
          let all : spelled p (off + 4) (within ts k) ++ spelled p (off + 4 + 4 * nodes (within ts k)) (beyond ts k) ≡ ws =
          sym (spelled-⊕ p (off + 4) (within ts k) (beyond ts k) (no_parts (within ts k) (typed_within ts k (typed_unpack p (off + 4) ws))))
          ∙ (ap (spelled p (off + 4)) (within_beyond ts k) ∙ others) in
          rw (a, b) (ap₂ (λ (m : ℕ) (vs : List ℕ). i ∷ s ∷ e ∷ m ∷ vs) n all)

  cuts_all : (ws : List ℕ) (off : ℕ) (ends : List ℕ) → (entries_fault T N off ends ws).0 ≡ 0 → off + length ws ≡ N → off % 4 ≡ 0 → length ws % 4 ≡ 0 → Rising 0 ends → Ends ws off ends
  unfolding Ends unpack
  cuts_all [] off ends h l z q r = λ y m lt le w. absurd (omega arith)
  cuts_all (i ∷ []) off ends h l z q r = absurd (omega arith)
  cuts_all (i ∷ s ∷ []) off ends h l z q r = absurd (omega arith)
  cuts_all (i ∷ s ∷ e ∷ []) off ends h l z q r = absurd (omega arith)
  cuts_all (i ∷ s ∷ e ∷ x ∷ ws) off ends h l z q r =
      cuts_more off ends i s e x ws h r (cuts_all ws (off + 4) (x ∷ open_ends off ends) (parted off ends i s e x ws h r).1 (omega arith) (omega arith) (omega arith) (stacked off ends i s e x ws h r)) z

  spelled_all : (ws : List ℕ) (off : ℕ) (ends : List ℕ) → (entries_fault T N off ends ws).0 ≡ 0 → off + length ws ≡ N → off % 4 ≡ 0 → length ws % 4 ≡ 0 → Rising 0 ends
      → spelled p off (unpack p off ws) ≡ ws
  unfolding spelled unpack
  spelled_all [] off ends h l z q r = refl
  spelled_all (i ∷ []) off ends h l z q r = absurd (omega arith)
  spelled_all (i ∷ s ∷ []) off ends h l z q r = absurd (omega arith)
  spelled_all (i ∷ s ∷ e ∷ []) off ends h l z q r = absurd (omega arith)
  spelled_all (i ∷ s ∷ e ∷ x ∷ ws) off ends h l z q r =
      let others = (parted off ends i s e x ws h r).1 in
      let up = stacked off ends i s e x ws h r in
      let around = x ∷ open_ends off ends in
      spelled_more off ends i s e x ws h r (cuts_all ws (off + 4) around others (omega arith) (omega arith) (omega arith) up) z
      (spelled_all ws (off + 4) around others (omega arith) (omega arith) (omega arith) up)

-- a part that the part check accepts
pub accepted_spelled : (T p : ℕ) (ws counts : List ℕ) → part_check ws T ≡ accepted counts → spelled p 0 (unpack p 0 ws) ≡ ws
accepted_spelled T p ws counts h =
    spelled_all T (length ws) p ws 0 [] (no_entry T ws counts h) (omega arith) refl (part_whole ws T counts h) tt

-- So a part keeps the cell rules exactly when the part check accepts it, its records nest and order by range and end
-- within its length, and its words have 16 bits.
pub parts_exactly : (T s l : ℕ) (ws : List ℕ) → T ≤ 65536
    → Parts T s l ws ↔ ((part_check ws T ≡ accepted (part_counts ws)) × Plain T s (s + l) (unpack s 0 ws) × Short ws)
parts_exactly T s l ws types = (
  (λ h. (parts_accepted T s l ws types h, h.ranges, h.words)),
  (λ h. record { whole = accepted_spelled T s ws (part_counts ws) h.0; ranges = h.1; words = h.2 }),
)

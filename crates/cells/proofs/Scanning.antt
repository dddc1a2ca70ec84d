-- The loop over a part's records: what is left of the part gives the answer. Assumes nothing.
use mathlib.Core.Path.{◌≡◌, refl, sym, ap, ◌∙◌}
use mathlib.Core.Bool.{Bool, true, false, ◌&&◌, not, true≢false}
use mathlib.Core.List.{List, [], ◌∷◌}
use Prim.Native.Nat.{ℕ, ◌+◌, ◌-◌, ◌*◌, ◌/◌, ◌%◌, ◌≤◌, ◌<◌}
use native.Mathlib.Omega.{arith}
use borrow.Author.Tests.{le-ltb, le-leb, lt-leb, eq-eqb, ne_eqb}
use lib.Dec.{leb}
use lib.ListN.{length, drop, drop_of_length-le}
use Rattle.words.specs.Words.{start_of, end_of, last_of}
use Rattle.words.proofs.Runs.{four_at}
use Rattle.part.specs.Part.{greatest_end, fault, faults_from, part_check}
use Rattle.part.proofs.Faults.{from_fault, from_clear, from_end}
use Rattle.rules.specs.PartLowest.{Around, still, earliest, ends_inside, ranges, is_accepted, part_kept}
use Rattle.rules.proofs.Tests.{and_none}

-- T types, a part ws of the length l
module _ (T l : ℕ) (ws : List ℕ) where
  abbrev n : ℕ
  n = length ws / 4

  -- what is left from the record of number i on
  unfoldable pub checks : (i lo : ℕ) → List Around → Bool
  checks i lo outer = is_accepted (faults_from ws T i (n - i)) && (leb (greatest_end ws) l && ranges (i * 4) lo outer (drop (i * 4) ws))

  pub kept_whole : T ≤ 65536 → length ws % 4 ≡ 0 → part_kept T l ws ≡ checks 0 0 []
  unfolding part_kept part_check checks
  kept_whole t h =
      let z : n - 0 ≡ n = omega arith in
      rw (le-ltb 65536 T t, eq-eqb (length ws % 4) 0 h, z)

  pub kept_ragged : T ≤ 65536 → (length ws % 4 ≡ 0 → ⊥) → false ≡ part_kept T l ws
  unfolding part_kept part_check
  kept_ragged t h = rw (le-ltb 65536 T t, ne_eqb (length ws % 4) 0 h)

  -- all records are passed: the greatest end is compared with the length
  pub checks_end : (i lo : ℕ) (outer : List Around) → length ws ≤ i * 4 → n ≤ i → checks i lo outer ≡ leb (greatest_end ws) l
  unfolding checks ranges
  checks_end i lo outer h m = rw (from_end ws T i n m, drop_of_length-le ws h) (go (leb (greatest_end ws) l))
    where
      go : (b : Bool) → (b && true) ≡ b
      go true = refl
      go false = refl

  module _ (i lo : ℕ) (outer : List Around) (room : i * 4 + 4 ≤ length ws) where
    abbrev s₀ : ℕ
    s₀ = start_of ws i

    abbrev e₀ : ℕ
    e₀ = end_of ws i

    abbrev out₀ : List Around
    out₀ = still (i * 4) outer

    pub refuse_fault : (fault ws T i ≡ 0 → ⊥) → checks i lo outer ≡ false
    unfolding checks
    refuse_fault h = rw (from_fault ws T i n (omega arith) h)

    -- one record's ranges, then the rest
    one : ranges (i * 4) lo outer (drop (i * 4) ws)
        ≡ leb (earliest (i * 4) lo outer) s₀ && (ends_inside e₀ out₀ && ranges ((i + 1) * 4) s₀ (record { stop = last_of ws i; end = e₀ } ∷ out₀) (drop ((i + 1) * 4) ws))
    unfolding ranges
    one =
        let next : i * 4 + 4 ≡ (i + 1) * 4 = omega arith in
        ap (ranges (i * 4) lo outer) (four_at ws i room)
        ∙ ap (λ (y : ℕ). leb (earliest (i * 4) lo outer) s₀ && (ends_inside e₀ out₀ && ranges y s₀ (record { stop = last_of ws i; end = e₀ } ∷ out₀) (drop ((i + 1) * 4) ws))) next

    no_range : ranges (i * 4) lo outer (drop (i * 4) ws) ≡ false → checks i lo outer ≡ false
    unfolding checks
    no_range h = rw (h, and_none (leb (greatest_end ws) l)) (and_none (is_accepted (faults_from ws T i (n - i))))

    pub refuse_start : s₀ < earliest (i * 4) lo outer → checks i lo outer ≡ false
    refuse_start h = no_range (one ∙ rw (lt-leb (earliest (i * 4) lo outer) s₀ h))

    pub refuse_parent : not (ends_inside e₀ out₀) ≡ true → checks i lo outer ≡ false
    refuse_parent h = no_range (one ∙ go (ends_inside e₀ out₀) h (leb (earliest (i * 4) lo outer) s₀))
      where
        go : (b : Bool) → not b ≡ true → (a : Bool) → (a && (b && ranges ((i + 1) * 4) s₀ (record { stop = last_of ws i; end = e₀ } ∷ out₀) (drop ((i + 1) * 4) ws))) ≡ false
        go true h a = absurd (true≢false (sym h))
        go false h a = and_none a

    pub go_on : fault ws T i ≡ 0 → not (ends_inside e₀ out₀) ≡ false → earliest (i * 4) lo outer ≤ s₀
        → checks i lo outer ≡ checks (i + 1) s₀ (record { stop = last_of ws i; end = e₀ } ∷ out₀)
    unfolding checks
    go_on f p a =
        let inner : ends_inside e₀ out₀ ≡ true = go (ends_inside e₀ out₀) p in
        rw (from_clear ws T i n (omega arith) f, one, le-leb (earliest (i * 4) lo outer) s₀ a, inner)
      where
        go : (b : Bool) → not b ≡ false → b ≡ true
        go true h = refl
        go false h = absurd (true≢false h)

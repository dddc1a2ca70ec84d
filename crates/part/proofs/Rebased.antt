-- A rebased run of words, record by record: what one record adds, how many words there are, and the words of record i. Assumes nothing.
use mathlib.Core.Path.{◌≡◌, refl}
use mathlib.Core.List.{List, [], ◌∷◌, ◌++◌}
use Prim.Native.Nat.{ℕ, zero, suc, ◌+◌, ◌-◌, ◌*◌, ◌/◌, ◌%◌, ◌≤◌, ◌<◌}
use native.Mathlib.Omega.{arith}
use lib.ListN.{length, drop}
use Rattle.words.specs.Words.{id_of, start_of, end_of}
use Rattle.words.proofs.Runs.{four_at}
use Rattle.part.specs.Part.{end_index, greatest_end}
use Rattle.part.specs.Rebased.{rebased}

-- record i rebased
abbrev pub record_at : (from base : ℕ) → List ℕ → ℕ → List ℕ
record_at from base cut i = id_of cut i ∷ (start_of cut i - base) ∷ (end_of cut i - base) ∷ (end_index cut i - from) ∷ []

pub rebased_step : (from base : ℕ) (cut : List ℕ) (i : ℕ) → i * 4 + 4 ≤ length cut
    → rebased from base (drop (i * 4) cut) ≡ record_at from base cut i ++ rebased from base (drop ((i + 1) * 4) cut)
unfolding rebased
rebased_step from base cut i l = rw (four_at cut i l)

-- no whole record is left
pub rebased_end : (from base : ℕ) (rest : List ℕ) → length rest < 4 → rebased from base rest ≡ []
unfolding rebased
rebased_end from base [] l = refl
rebased_end from base (a ∷ []) l = refl
rebased_end from base (a ∷ b ∷ []) l = refl
rebased_end from base (a ∷ b ∷ c ∷ []) l = refl
rebased_end from base (a ∷ b ∷ c ∷ d ∷ rest) l = absurd (omega arith)

-- a rebased run has as many words as its whole records
pub rebased_length : (from base : ℕ) (cut : List ℕ) → length (rebased from base cut) ≡ length cut / 4 * 4
unfolding rebased
rebased_length from base [] = refl
rebased_length from base (a ∷ []) = refl
rebased_length from base (a ∷ b ∷ []) = refl
rebased_length from base (a ∷ b ∷ c ∷ []) = refl
rebased_length from base (a ∷ b ∷ c ∷ d ∷ rest) = let e = rebased_length from base rest in omega arith

-- record i of a rebased run
pub record At (from base : ℕ) (cut : List ℕ) (i : ℕ) : Type 0 where
  pub id : id_of (rebased from base cut) i ≡ id_of cut i
  pub start : start_of (rebased from base cut) i ≡ start_of cut i - base
  pub end : end_of (rebased from base cut) i ≡ end_of cut i - base
  pub index : end_index (rebased from base cut) i ≡ end_index cut i - from

pub rebased_at : (from base : ℕ) (cut : List ℕ) (i : ℕ) → i * 4 + 4 ≤ length cut → At from base cut i
unfolding rebased
rebased_at from base [] i l = absurd (omega arith)
rebased_at from base (a ∷ []) i l = absurd (omega arith)
rebased_at from base (a ∷ b ∷ []) i l = absurd (omega arith)
rebased_at from base (a ∷ b ∷ c ∷ []) i l = absurd (omega arith)
rebased_at from base (a ∷ b ∷ c ∷ d ∷ rest) zero l = record { id = refl; start = refl; end = refl; index = refl }
rebased_at from base (a ∷ b ∷ c ∷ d ∷ rest) (suc i) l =
    let r = rebased_at from base rest i (omega arith) in
    let p : suc i * 4 ≡ suc (suc (suc (suc (i * 4)))) = omega arith in
    let q : suc i * 4 + 1 ≡ suc (suc (suc (suc (i * 4 + 1)))) = omega arith in
    let s : suc i * 4 + 2 ≡ suc (suc (suc (suc (i * 4 + 2)))) = omega arith in
    let t : suc i * 4 + 3 ≡ suc (suc (suc (suc (i * 4 + 3)))) = omega arith in
    record { id = rw p r.id; start = rw q r.start; end = rw s r.end; index = rw t r.index }

-- counted from 0, words of whole records stay what they are
pub rebased_none : (w : List ℕ) → length w % 4 ≡ 0 → rebased 0 0 w ≡ w
unfolding rebased
rebased_none [] h = refl
rebased_none (a ∷ []) h = absurd (omega arith)
rebased_none (a ∷ b ∷ []) h = absurd (omega arith)
rebased_none (a ∷ b ∷ c ∷ []) h = absurd (omega arith)
rebased_none (a ∷ b ∷ c ∷ d ∷ rest) h =
    let p : b - 0 ≡ b = omega arith in
    let q : c - 0 ≡ c = omega arith in
    let r : d - 0 ≡ d = omega arith in
    rw (p, q, r, rebased_none rest (omega arith))

-- the greatest end is counted from the base too
pub rebased_greatest : (from base : ℕ) (w : List ℕ) → greatest_end (rebased from base w) ≡ greatest_end (rebased from 0 w) - base
unfolding rebased greatest_end
rebased_greatest from base [] = omega arith
rebased_greatest from base (a ∷ []) = omega arith
rebased_greatest from base (a ∷ b ∷ []) = omega arith
rebased_greatest from base (a ∷ b ∷ c ∷ []) = omega arith
rebased_greatest from base (a ∷ b ∷ c ∷ d ∷ rest) = let e = rebased_greatest from base rest in omega arith

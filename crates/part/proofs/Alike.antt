-- Two lists of words whose records have the same ids and end indices, and start at their ends or before: they have the same faults.
-- Assumes nothing.
use mathlib.Core.Path.{◌≡◌, refl}
use mathlib.Core.List.{List}
use Prim.Native.Nat.{ℕ, zero, suc, ◌+◌, ◌*◌, ◌≤◌, ◌<◌}
use native.Mathlib.Decide.{ℕ_discrete}
use native.Mathlib.Omega.{arith}
use borrow.Author.Tests.{le-ltb, eq-eqb, ne_eqb}
use lib.ListN.{length}
use Rattle.words.specs.Outcome.{accepted, unless_refused}
use Rattle.words.specs.Words.{id_of, start_of, end_of}
use Rattle.part.specs.Part.{end_index, own_fault, crosses, fault, part_counts, faults_from}

-- record i of both
pub record Alike (w v : List ℕ) (i : ℕ) : Type 0 where
  pub id : id_of w i ≡ id_of v i
  pub index : end_index w i ≡ end_index v i
  pub ordered : start_of w i ≤ end_of w i
  pub ordered_too : start_of v i ≤ end_of v i

crosses_alike : (w v : List ℕ) (n at e : ℕ) → ((j : ℕ) → j < n → end_index w j ≡ end_index v j) → crosses w n at e ≡ crosses v n at e
unfolding crosses
crosses_alike w v zero at e h = refl
crosses_alike w v (suc n) at e h = rw (h n (omega arith), crosses_alike w v n at e (λ j l. h j (omega arith)))

own_alike : (w v : List ℕ) (types i : ℕ) → length w ≡ length v → Alike w v i → own_fault w types i ≡ own_fault v types i
unfolding own_fault
own_alike w v types i s a = rw (a.id, le-ltb (end_of w i) (start_of w i) a.ordered, le-ltb (end_of v i) (start_of v i) a.ordered_too, a.index, s)

pub fault_alike : (w v : List ℕ) (types i : ℕ) → length w ≡ length v → ((j : ℕ) → j ≤ i → Alike w v j) → fault w types i ≡ fault v types i
unfolding fault
fault_alike w v types i s a =
    rw (
      own_alike w v types i s (a i (omega arith)),
      (a i (omega arith)).index,
      crosses_alike w v i (i * 4) (end_index v i) (λ j l. (a j (omega arith)).index),
    )

-- with the same faults one is refused just as the other; accepted, each has its own counts
pub same_faults : (w v : List ℕ) (types i left : ℕ) → ((j : ℕ) → i ≤ j → j < i + left → fault w types j ≡ fault v types j)
    → faults_from w types i left ≡ unless_refused (faults_from v types i left) (accepted (part_counts w))
unfolding faults_from
same_faults w v types i zero h = refl
same_faults w v types i (suc left) h =
    go (ℕ_discrete (fault v types i) 0) (h i (omega arith) (omega arith)) (same_faults w v types (i + 1) left (λ j l m. h j (omega arith) (omega arith)))
  where
    go : Dec (fault v types i ≡ 0) → fault w types i ≡ fault v types i
        → faults_from w types (i + 1) left ≡ unless_refused (faults_from v types (i + 1) left) (accepted (part_counts w))
        → faults_from w types i (suc left) ≡ unless_refused (faults_from v types i (suc left)) (accepted (part_counts w))
    go (yes z) e rest = rw (e, eq-eqb (fault v types i) 0 z) rest
    go (no n) e rest = rw (e, ne_eqb (fault v types i) 0 n)

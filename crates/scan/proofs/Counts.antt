-- The counts of repeat records: written one place after another, and read between two places. Assumes nothing.
use mathlib.Core.Path.{◌≡◌, refl, sym, ap, ◌∙◌}
use mathlib.Core.Bool.{cond}
use mathlib.Core.List.{List}
use Prim.Native.Nat.{ℕ, ◌+◌, ◌-◌, ◌*◌, ◌≤◌, ◌<◌}
use native.Mathlib.Decide.{ℕ_discrete}
use native.Mathlib.Omega.{arith}
use lib.Dec.{leb}
use lib.ListN.{length, get_or, set, length-set}
use lib.Seq.{get_or-set_same, get_or-set_other}
use Rattle.words.specs.Words.{id_of}
use Rattle.cursor.proofs.Spelled.{at_most_four, skips_last, skips_up}
use Rattle.scan.specs.Counted.{Counted, Counting, Rising}
use Rattle.cursor.specs.Spells.{skips}

no_skips : (F : ℕ) (w : List ℕ) → skips F w 0 ≡ 0
unfolding skips
no_skips F w = refl

-- What holds at each turn of the count.
pub record Tally (F : ℕ) (w l l' : List ℕ) (i c : ℕ) : Type 0 where
  pub count : c ≡ skips F w i
  pub so_far : Counting F w l l' i

pub tally_none : (F : ℕ) (w l : List ℕ) → 0 < length l → Tally F w l (set l 0 0) 0 0
tally_none F w l h =
    record {
      count = sym (no_skips F w);
      so_far = record {
        size = length-set l 0 0;
        counted = record {
          room = simp length-set h;
          count = λ k le. let e : k ≡ 0 = omega arith in rw e (get_or-set_same l 0 0 0 h ∙ sym (no_skips F w));
        };
        kept = λ k lt. get_or-set_other l 0 k 0 0 (λ e. omega arith);
      };
    }

pub skips_next : (F : ℕ) (w : List ℕ) (i : ℕ) → skips F w (i + 1) ≡ skips F w i + cond (leb F (id_of w i)) 4 0
skips_next F w i = let e : i + 1 - 1 ≡ i = omega arith in rw e at (skips_last F w (i + 1) (omega arith))

module _ (F : ℕ) (w l l' : List ℕ) (i c : ℕ) (t : Tally F w l l' i c) where
  pub tally_small : (id k : ℕ) → k ≡ cond (leb F id) 4 0 → c + k ≤ i * 4 + 4
  tally_small id k e = omega (arith, t.count, (skips_up F w 0 i (omega arith)).1, no_skips F w, e, at_most_four (leb F id))

  pub tally_next : (id k : ℕ) → id ≡ id_of w i → k ≡ cond (leb F id) 4 0 → i + 1 < length l'
      → Tally F w l (set l' (i + 1) (c + k)) (i + 1) (c + k)
  tally_next id k is add room =
      let new : c + k ≡ skips F w (i + 1) = omega (arith, t.count, add ∙ ap (λ (j : ℕ). cond (leb F j) 4 0) is, skips_next F w i) in
      record {
        count = new;
        so_far = record {
          size = length-set l' (i + 1) (c + k) ∙ t.so_far.size;
          counted = record {
            room = simp length-set (omega arith);
            count = λ j le. go new j le (ℕ_discrete j (i + 1));
          };
          kept = λ j m. get_or-set_other l' (i + 1) j (c + k) 0 (λ e. omega arith) ∙ t.so_far.kept j (omega arith);
        };
      }
    where
      go : c + k ≡ skips F w (i + 1) → (j : ℕ) → j ≤ i + 1 → Dec (j ≡ i + 1) → get_or (set l' (i + 1) (c + k)) j 0 ≡ skips F w j
      go new j le (yes e) = rw e (get_or-set_same l' (i + 1) (c + k) 0 (omega arith) ∙ new)
      go new j le (no ne) = get_or-set_other l' (i + 1) j (c + k) 0 ne ∙ t.so_far.counted.count j (omega (arith, ne))

pub counted_rising : {F : ℕ} {w l : List ℕ} {from at : ℕ} → Counted F w l at → at < 4294967296 → from ≤ at → Rising l from at
counted_rising {F = F} {w = w} {l = l} {from = from} {at = at} c small h =
    let up = skips_up F w from at h in
    record {
      order = h;
      room = c.room;
      small = small;
      up = omega (arith, up.0, c.count from h, c.count at (omega arith));
      few = omega (arith, up.1, c.count from h, c.count at (omega arith));
    }

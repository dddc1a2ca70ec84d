-- What a caller knows of a run that is taken: its words stand in the store. Assumes nothing.
use mathlib.Core.Path.{◌≡◌, sym, ap, ◌∙◌}
use mathlib.Core.List.{List, [], ◌∷◌}
use Rattle.std.specs.Prelude.{Option, Some}
use Prim.Native.Nat.{ℕ, zero, suc, ◌+◌, ◌*◌, ◌≤◌, ◌<◌}
use native.Mathlib.Omega.{arith}
use native.Mathlib.Nat.{le_refl}
use lib.ListN.{length, get_or}
use Rattle.tree.specs.Items.{Items, span, first, leftmost}
use Rattle.tree.specs.Pack.{pack, run_from}
use Rattle.tree.proofs.ItemLaws.{from_leftmost}
use Rattle.tree.proofs.ShortLaws.{run_packs, short_pack, fits_under, under_up, under_first}
use Rattle.tree.proofs.RecordCounts.{words_records}
use Rattle.cursor.proofs.Spelled.{spells_count}
use Rattle.scan.specs.Walked.{Scans}
use Rattle.scan.specs.declared.Memo.{Memo}
use Rattle.store.specs.Store.{Staged, Same}
use Rattle.words.proofs.Stores.{put_length, put_in}
use Rattle.store.proofs.Frame.{same_put}
use Rattle.pack.specs.Taking.{Filled, Takable}
use Rattle.tree.specs.Ordered.{Fits}
use Rattle.tree.specs.Well.{Short}

-- What taking a span asks, where there is room for four words a record still to read.
pub takable : (F : ℕ) (own : Option ℕ) (w : List ℕ) (lo p bound : ℕ) (memo : Memo) (l : List ℕ) (low T from to i s e : ℕ) (kids rest : Items)
    → Scans F own w l lo p bound memo i s e kids rest → Fits F T from to (span i s e kids rest) → 4 * p ≤ low → low ≤ length l
    → Takable F own w lo p bound memo l low
takable F own w lo p bound memo l low T from to i s e kids rest h f room inside =
    record {
      T = T;
      from = from;
      to = to;
      i = i;
      s = s;
      e = e;
      kids = kids;
      rest = rest;
      scans = h;
      fits = f;
      enough = omega (arith, words_records F (span i s e kids rest), spells_count w lo p (span i s e kids rest) h.stands.spells);
      inside = inside;
    }

short_word : (ws : List ℕ) → Short ws → (k : ℕ) → k < length ws → get_or ws k 0 < 65536
short_word [] s k h = absurd (omega arith)
short_word (x ∷ ws) s zero h = s.0
short_word (x ∷ ws) s (suc k) h = short_word ws s.1 k (omega arith)

-- The words filled in, as the store has them: staged, and all others the same.
module _ (l l' : List ℕ) (low high : ℕ) (ws : List ℕ) (f : Filled l l' low high ws) (inside : high ≤ length l) where
  pub filled_length : length l' ≡ length l
  filled_length = ap length f.is ∙ put_length l low ws (omega (arith, f.room))

  pub filled_same : Same l l' 0 low high
  filled_same = rw (f.is, sym f.room) (same_put l low ws (omega (arith, f.room)))

  pub filled_staged : Short ws → Staged l' low low ws
  filled_staged s =
      record {
        above = le_refl low;
        within = omega (arith, f.room, filled_length);
        same = λ k h. ap (λ (x : List ℕ). get_or x (low + k) 0) f.is ∙ put_in l low ws (omega (arith, f.room)) k h;
        narrow = short_word ws s;
      }

-- a packed run has words of 16 bits
pub run_short : (F b : ℕ) (own : Option ℕ) (T from to i s e : ℕ) (kids rest : Items) (k : ℕ) → T ≤ 65536 → b ≤ 65535
    → Fits F T from to (span i s e kids rest) → run_from F b own i s e kids rest ≡ Some k
    → Short (pack F (leftmost s (first k rest)) 0 (span i s e kids (first k rest)))
unfolding leftmost first
run_short F b own T from to i s e kids rest k t bound f q =
    let m = run_packs F b own i s e kids rest k q in
    short_pack F T (leftmost s (first k rest)) e 0 (span i s e kids (first k rest)) t (omega (arith, m.near))
    (from_leftmost F T (suc k) s from to (span i s e kids rest) f)
    (f.known, le_refl e, fits_under F T s e kids f.inner, under_first T e k rest (under_up T s e rest f.ordered (fits_under F T from s rest f.rest)))
    (omega (arith, m.fits))

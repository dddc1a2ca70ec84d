-- Taking a run: the scan's answer is a run that packs, and what is taken is the definition's. Assumes nothing.
use mathlib.Core.Path.{◌≡◌, ap, ◌∙◌}
use mathlib.Core.List.{List}
use Rattle.std.specs.Prelude.{Option, None, Some, Ok}
use Prim.Native.Nat.{ℕ, suc, ◌+◌, ◌-◌, ◌*◌, ◌/◌, ◌≤◌, ◌<◌}
use native.Mathlib.Omega.{arith}
use borrow.Author.Tests.{lt-leb}
use lib.ListN.{get_or}
use Rattle.tree.specs.Items.{Items, span, records, first, leftmost}
use Rattle.tree.specs.Pack.{words, pack, run_from}
use Rattle.tree.proofs.ItemLaws.{from_leftmost}
use Rattle.tree.proofs.ShortLaws.{run_packs}
use Rattle.tree.proofs.RecordCounts.{length_pack, words_records}
use Rattle.cursor.specs.Spells.{Stands}
use Rattle.cursor.proofs.Spelled.{spells_count, stands_first, words_first}
use Rattle.scan.specs.Walked.{Scans, Remembered}
use Rattle.scan.specs.Found.{measured, Found}
use Rattle.scan.specs.declared.BufferScan.{BufferScan}
use Rattle.scan.specs.declared.Memo.{Memo}
use Rattle.scan.proofs.Memory.{remembered_lower}
use Rattle.scan.proofs.Answered.{answered_run}
use Rattle.pack.specs.Taking.{Filled, Runs, Packable, Takable, Takes}
use Rattle.tree.specs.Ordered.{Fits}

-- The run that a scan answered.
pub record Measures (F b : ℕ) (own : Option ℕ) (i s e : ℕ) (kids rest : Items) (t : BufferScan) : Type 0 where
  pub k : ℕ
  pub runs : run_from F b own i s e kids rest ≡ Some k
  pub is : t ≡ measured F (leftmost s (first k rest)) (span i s e kids (first k rest))

found_run : (F b : ℕ) (own : Option ℕ) (at limit i s e : ℕ) (kids rest : Items) (t : BufferScan)
    → Found F at limit i s e kids rest (run_from F b own i s e kids rest) (Ok t) → Measures F b own i s e kids rest t
found_run F b own at limit i s e kids rest t f =
    let a = answered_run F at limit i s e kids rest (run_from F b own i s e kids rest) t f in
    record { k = a.0; runs = a.1; is = a.2 }

-- a run of k items behind a span, as the scan has measured it
measured_runs : (F : ℕ) (own : Option ℕ) (w : List ℕ) (lo p T from to i s e : ℕ) (kids rest : Items) (k : ℕ)
    → Stands F own w lo p (span i s e kids rest) → Fits F T from to (span i s e kids rest)
    → Runs F own w p (measured F (leftmost s (first k rest)) (span i s e kids (first k rest))) (span i s e kids (first k rest))
unfolding measured first leftmost
measured_runs F own w lo p T from to i s e kids rest k st f =
    let r = span i s e kids (first k rest) in
    let z : 4 * records r / 4 ≡ records r = omega arith in
    let g : Stands F own w (p - records r) p r = stands_first F own w lo p (suc k) (span i s e kids rest) st in
    record {
      reach = omega (arith, spells_count w (p - records r) p r g.spells);
      begins = omega arith;
      stands = rw z g;
      from = from_leftmost F T (suc k) s from to (span i s e kids rest) f;
      few = omega arith;
      sized = omega (arith, words_records F r);
    }

run_runs : (F : ℕ) (own : Option ℕ) (w : List ℕ) (lo p T from to i s e : ℕ) (kids rest : Items) (k : ℕ) (t : BufferScan)
    → t ≡ measured F (leftmost s (first k rest)) (span i s e kids (first k rest))
    → Stands F own w lo p (span i s e kids rest) → Fits F T from to (span i s e kids rest)
    → Runs F own w p t (span i s e kids (first k rest))
run_runs F own w lo p T from to i s e kids rest k t is st f = rw is (measured_runs F own w lo p T from to i s e kids rest k st f)

words_run : (F k i s e : ℕ) (kids rest : Items) → words F (span i s e kids (first k rest)) ≤ words F (span i s e kids rest)
unfolding words
words_run F k i s e kids rest = omega (arith, words_first F k rest)

-- What is asked of the packing, where the scan answered a run.
module _ {F b : ℕ} {own : Option ℕ} {w : List ℕ} {lo p : ℕ} {memo : Memo} {l : List ℕ} {low : ℕ} (h : Takable F own w lo p b memo l low) (t : BufferScan)
    (f : Found F p (h.e - b) h.i h.s h.e h.kids h.rest (run_from F b own h.i h.s h.e h.kids h.rest) (Ok t)) where
  found_at : Measures F b own h.i h.s h.e h.kids h.rest t
  found_at = found_run F b own p (h.e - b) h.i h.s h.e h.kids h.rest t f

  runs_at : Runs F own w p t (span h.i h.s h.e h.kids (first found_at.k h.rest))
  runs_at = run_runs F own w lo p h.T h.from h.to h.i h.s h.e h.kids h.rest found_at.k t found_at.is h.scans.stands h.fits

  pub takable_packable : Packable F w p t l low
  takable_packable =
      record {
        own = own;
        run = span h.i h.s h.e h.kids (first found_at.k h.rest);
        runs = runs_at;
        short = (run_packs F b own h.i h.s h.e h.kids h.rest found_at.k found_at.runs).fits;
        enough = omega (arith, words_run F found_at.k h.i h.s h.e h.kids h.rest, h.enough);
        inside = h.inside;
      }

  pub run_reach : t.size / 4 ≤ p
  run_reach = omega (arith, runs_at.reach)

  pub run_start : t.start ≤ get_or w ((p - 1) * 4 + 2) 0
  run_start = omega (arith, runs_at.from.0, runs_at.from.1, h.scans.stands.spells.end)

-- A record longer than the bound has no run.
long_none : (F b : ℕ) (own : Option ℕ) (i s e : ℕ) (kids rest : Items) → b < e - s → run_from F b own i s e kids rest ≡ None
unfolding run_from
long_none F b own i s e kids rest h = rw (lt-leb _ _ h, run_from)

-- Nor does it change what is remembered.
pub long_leaves : (F b : ℕ) (own : Option ℕ) (i s e : ℕ) (kids rest : Items) → b < e - s
    → (run_from F b own i s e kids rest ≡ None)
    × ((at limit : ℕ) (memo : Memo) → e - b ≤ limit → Remembered at (span i s e kids rest) limit memo → Remembered at (span i s e kids rest) (e - b) memo)
long_leaves F b own i s e kids rest h =
    (long_none F b own i s e kids rest h, λ at limit memo f v. remembered_lower at (span i s e kids rest) limit (e - b) memo f v)

ap_takes : (F b : ℕ) (own : Option ℕ) (w : List ℕ) (lo p : ℕ) (l l' : List ℕ) (low T from to i s e : ℕ) (kids rest : Items)
    → Stands F own w lo p (span i s e kids rest) → Fits F T from to (span i s e kids rest)
    → (k : ℕ) (t : BufferScan) (at end : ℕ) (o : Option ℕ) → o ≡ Some k
    → t ≡ measured F (leftmost s (first k rest)) (span i s e kids (first k rest))
    → ((own : Option ℕ) (its : Items) → Runs F own w p t its → Filled l l' at low (pack F t.start 0 its)) → end ≡ get_or w ((p - 1) * 4 + 2) 0
    → Takes F b i s e kids rest p l low o (Ok (record { p = p - t.size / 4; low = at; start = t.start; length = end - t.start })) l'
unfolding measured
ap_takes F b own w lo p l l' low T from to i s e kids rest st f k t at end o runs is filled ends =
    let r = span i s e kids (first k rest) in
    let start : t.start ≡ leftmost s (first k rest) = ap (λ (x : BufferScan). x.start) is in
    let size : t.size ≡ 4 * records r = ap (λ (x : BufferScan). x.size) is in
    let g : Filled l l' at low (pack F (leftmost s (first k rest)) 0 r) = rw start at (filled own r (run_runs F own w lo p T from to i s e kids rest k t is st f)) in
    let a : at ≡ low - words F r = omega (arith, g.room, length_pack F (leftmost s (first k rest)) 0 r) in
    let z : p - t.size / 4 ≡ p - records r = omega arith in
    let y : end ≡ e = ends ∙ st.spells.end in
    rw runs (rw (z, start, y, a), rw a at g)

-- the run is packed
pub takes_run : {F b : ℕ} {own : Option ℕ} {w : List ℕ} {lo p : ℕ} {memo : Memo} {l l' : List ℕ} {low i s e : ℕ} {kids rest : Items}
    → Scans F own w l lo p b memo i s e kids rest → (T from to : ℕ) → Fits F T from to (span i s e kids rest)
    → (t : BufferScan) (at end : ℕ) → Found F p (e - b) i s e kids rest (run_from F b own i s e kids rest) (Ok t)
    → ((own : Option ℕ) (its : Items) → Runs F own w p t its → Filled l l' at low (pack F t.start 0 its)) → end ≡ get_or w ((p - 1) * 4 + 2) 0
    → Takes F b i s e kids rest p l low (run_from F b own i s e kids rest) (Ok (record { p = p - t.size / 4; low = at; start = t.start; length = end - t.start })) l'
takes_run {F = F} {b = b} {own = own} {w = w} {lo = lo} {p = p} {l = l} {l' = l'} {low = low} {i = i} {s = s} {e = e} {kids = kids} {rest = rest} h T from to f t at end found filled ends =
    let m = found_run F b own p (e - b) i s e kids rest t found in
    ap_takes F b own w lo p l l' low T from to i s e kids rest h.stands f m.k t at end (run_from F b own i s e kids rest) m.runs m.is filled ends

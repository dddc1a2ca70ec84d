-- Packing a run: from a run that stands in the records to a part that is to be filled, and to the words staged. Assumes nothing.
use mathlib.Core.Path.{◌≡◌, ◌∙◌}
use mathlib.Core.List.{List, ◌++◌}
use Rattle.std.specs.Prelude.{Option}
use Prim.Native.Nat.{ℕ, ◌+◌, ◌-◌, ◌*◌, ◌/◌, ◌≤◌}
use native.Mathlib.Omega.{arith}
use lib.ListN.{length, take, drop, length-drop}
use lib.Seq.{length-take-le, drop-drop}
use Rattle.tree.specs.Items.{Items}
use Rattle.tree.specs.Pack.{words, pack}
use Rattle.tree.proofs.RecordCounts.{length_pack}
use Rattle.cursor.proofs.Spelled.{marked_passed}
use Rattle.scan.specs.declared.BufferScan.{BufferScan}
use Rattle.pack.specs.Copying.{Fills, Fillable}
use Rattle.pack.specs.Taking.{Filled, Runs, Packable}
use Rattle.pack.proofs.Parts.{Front, front_take, ready_cut}

-- the part's words in the work slice, as many as the run has
part_length : (l : List ℕ) (base low n : ℕ) → base + n ≡ low → low ≤ length l → length (take (low - base) (drop base l)) ≡ n
part_length l base low n e h =
    let m : low - base ≤ length (drop base l) = omega (arith, length-drop base l) in
    length-take-le (low - base) (drop base l) m ∙ omega arith

pub runs_fills : (F : ℕ) (own : Option ℕ) (w : List ℕ) (p : ℕ) (t : BufferScan) (its : Items) (l : List ℕ) (base low : ℕ)
    → Runs F own w p t its → base + words F its ≡ low → low ≤ length l
    → Fills F (take (p * 4) w) t.start (p * 4 - t.size) its (take (low - base) (drop base l))
runs_fills F own w p t its l base low r e h =
    let c = take (p * 4) w in
    let f : Front w c (p * 4) = front_take w (p * 4) r.stands.within in
    let n : length (take (low - base) (drop base l)) ≡ words F its = part_length l base low (words F its) e h in
    let size : length c ≡ p * 4 = f.size in
    let end : length c / 4 ≡ p = omega (arith, size) in
    let begin : (p * 4 - t.size) / 4 ≡ p - t.size / 4 = omega (arith, r.begins) in
    record {
      whole = omega (arith, size);
      begins = omega (arith, r.begins, r.reach);
      ready = rw (end, begin) (ready_cut F w c (p * 4) f t.start (p - t.size / 4) 0 its p _ (omega arith) (record {
        within = r.stands.within;
        spells = r.stands.spells;
        passed = marked_passed F own its r.stands.marked;
        from = r.from;
        place = omega (arith, n);
      }));
    }

pub packable_fillable : (F : ℕ) (w : List ℕ) (p : ℕ) (t : BufferScan) (l : List ℕ) (low : ℕ) → Packable F w p t l low
    → Fillable F (take (p * 4) w) t.start (p * 4 - t.size) (take (low - (low - (t.size - t.skip))) (drop (low - (t.size - t.skip)) l))
packable_fillable F w p t l low h =
    let e : low - (t.size - t.skip) + words F h.run ≡ low = omega (arith, h.runs.sized, h.enough) in
    record {
      its = h.run;
      fills = runs_fills F h.own w p t h.run l (low - (t.size - t.skip)) low h.runs e h.inside;
      short = omega (arith, part_length l (low - (t.size - t.skip)) low (words F h.run) e h.inside, h.short);
    }

-- the part back in its place
pub packable_filled : (F : ℕ) (own : Option ℕ) (w : List ℕ) (p : ℕ) (t : BufferScan) (its : Items) (l ys : List ℕ) (low : ℕ) → Packable F w p t l low
    → Runs F own w p t its
    → ((its : Items) → Fills F (take (p * 4) w) t.start (p * 4 - t.size) its (take (low - (low - (t.size - t.skip))) (drop (low - (t.size - t.skip)) l)) → ys ≡ pack F t.start 0 its)
    → Filled l (take (low - (t.size - t.skip)) l ++ (ys ++ drop (low - (low - (t.size - t.skip))) (drop (low - (t.size - t.skip)) l))) (low - (t.size - t.skip)) low (pack F t.start 0 its)
packable_filled F own w p t its l ys low h r fill =
    let base = low - (t.size - t.skip) in
    let e : base + words F its ≡ low = omega (arith, h.runs.sized, r.sized, h.enough) in
    let n : length (pack F t.start 0 its) ≡ words F its = length_pack F t.start 0 its in
    let is : ys ≡ pack F t.start 0 its = fill its (runs_fills F own w p t its l base low r e h.inside) in
    let rest : base + (low - base) ≡ base + length (pack F t.start 0 its) = omega (arith, n) in
    record {
      room = omega (arith, n);
      is = rw (is, drop-drop (low - base) base l, rest);
    }

-- The walk in words: what the record before a place says of the items still to come. Assumes nothing.
use mathlib.Core.Path.{◌≡◌, refl, ap, ◌∙◌}
use mathlib.Core.Bool.{Bool, true, false}
use mathlib.Core.List.{List}
use Rattle.std.specs.Prelude.{Option, None, Some}
use Prim.Native.Nat.{ℕ, suc, ◌+◌, ◌-◌, ◌*◌, ◌/◌, ◌≤◌, ◌<◌, min}
use native.Mathlib.Omega.{arith}
use borrow.Author.Tests.{ltb-true}
use lib.Dec.{ltb}
use lib.ListN.{length}
use Rattle.words.specs.Words.{id_of, start_of, last_of}
use Rattle.tree.specs.Items.{Items, mark, span, same, records, first}
use Rattle.tree.specs.Pack.{stopped, scan}
use Rattle.tree.proofs.Reading.{after}
use Rattle.cursor.specs.Spells.{Stands}
use Rattle.cursor.proofs.Spelled.{spells_count, spells_none, stands_after}
use Rattle.scan.specs.Walked.{last_mark, Noted, Walked, Remembered}
use Rattle.scan.specs.Steps.{resumed}
use Rattle.scan.specs.declared.Memo.{Memo}
use Rattle.scan.proofs.Memory.{scan_early, joined, scan_walked, walked_mark, walked_span, walked_none, walked_lower}

-- the scan at the parent's limit
scan_end : (own : Option ℕ) (limit k : ℕ) (its : Items) (o : Option ℕ) → its ≡ Items.nil → joined k o (scan own limit its) ≡ Some k
unfolding scan
scan_end own limit k its o e = rw e (let z : k + 0 ≡ k = omega arith in ap (λ (j : ℕ). Some j) z)

module _ {F : ℕ} {own : Option ℕ} {w : List ℕ} {lo at : ℕ} {its : Items} {limit : ℕ} {m : Memo}
    (st : Stands F own w lo at its) (v : Walked at its limit m) where
  -- the items still to come
  ahead : Stands F own w lo m.place (after v.k its)
  ahead = let e : at - records (first v.k its) ≡ m.place = omega (arith, v.reached) in rw e at (stands_after F own w lo at v.k its st)

  pub step_bounds : (lo ≤ m.place) × (m.place ≤ at) × (m.place * 4 ≤ length w)
  step_bounds = (omega (arith, spells_count w lo m.place (after v.k its) ahead.spells), omega (arith, v.reached), ahead.within)

  pub end_scan : m.place ≤ lo → scan own limit its ≡ Some v.k
  end_scan h =
      scan_walked own limit v.k its v.near
      ∙ scan_end own limit v.k (after v.k its) (last_mark v.k its) (spells_none w lo m.place (after v.k its) ahead.spells h)

  module _ (some_record : lo < m.place) where
    pub step_mark : same own (id_of w (m.place - 1)) ≡ true → Walked at its limit (record { place = m.place - 1; start = m.start; mark = m.place; edge = m.start })
    step_mark h = go (after v.k its) refl ahead
      where
        go : (left : Items) → after v.k its ≡ left → Stands F own w lo m.place left
            → Walked at its limit (record { place = m.place - 1; start = m.start; mark = m.place; edge = m.start })
        go Items.nil e t = absurd (omega (arith, t.spells))
        go (mark i s x n rest) e t = walked_mark at its limit m v i s x n rest e (omega arith)
        go (span i s x kids rest) e t = absurd cc

    module _ (other : same own (id_of w (m.place - 1)) ≡ false) where
      pub step_room : (lo + last_of w (m.place - 1) / 4 ≤ m.place) × (0 < last_of w (m.place - 1) / 4)
      step_room = go (after v.k its) ahead
        where
          go : (left : Items) → Stands F own w lo m.place left → (lo + last_of w (m.place - 1) / 4 ≤ m.place) × (0 < last_of w (m.place - 1) / 4)
          go Items.nil t = absurd (omega (arith, t.spells))
          go (mark i s x n rest) t = absurd cc
          go (span i s x kids rest) t = (omega (arith, t.spells.room, t.spells.size), omega (arith, t.spells.size))

      pub step_span : limit ≤ start_of w (m.place - 1) → Walked at its limit (record { place = m.place - last_of w (m.place - 1) / 4; start = start_of w (m.place - 1); mark = m.mark; edge = m.edge })
      step_span near = go (after v.k its) refl ahead
        where
          go : (left : Items) → after v.k its ≡ left → Stands F own w lo m.place left → Walked at its limit (record { place = m.place - last_of w (m.place - 1) / 4; start = start_of w (m.place - 1); mark = m.mark; edge = m.edge })
          go Items.nil e t = absurd (omega (arith, t.spells))
          go (mark i s x n rest) e t = absurd cc
          go (span i s x kids rest) e t =
              let n : last_of w (m.place - 1) / 4 ≡ suc (records kids) = omega (arith, t.spells.size) in
              rw (n, t.spells.start) (walked_span at its limit m v i s x kids rest e (omega (arith, t.spells.start)) (omega (arith, t.spells.room)))

      pub early_scan : start_of w (m.place - 1) < limit → scan own limit its ≡ joined v.k (last_mark v.k its) (stopped own)
      early_scan soon = scan_walked own limit v.k its v.near ∙ ap (joined v.k (last_mark v.k its)) (go (after v.k its) ahead)
        where
          go : (left : Items) → Stands F own w lo m.place left → scan own limit left ≡ stopped own
          go Items.nil t = absurd (omega (arith, t.spells))
          go (mark i s x n rest) t = absurd cc
          go (span i s x kids rest) t = scan_early own limit i s x kids rest (omega (arith, t.spells.start))

-- where a scan goes on
noted_min : (at d : ℕ) (its : Items) (o : Option ℕ) (m c : ℕ) → Noted at d its o m c → Noted at d its o (min m at) c
noted_min at d its None m c h = omega arith
noted_min at d its (Some j) m c h = (omega (arith, h.0), h.1)

pub resumed_walked : (at : ℕ) (its : Items) (limit limit' : ℕ) (m r : Memo) → r ≡ resumed at m → Remembered at its limit m → limit' ≤ limit
    → Walked at its limit' r
resumed_walked at its limit limit' m r e rem le = go (ltb m.place at) refl
  where
    go : (x : Bool) → ltb m.place at ≡ x → Walked at its limit' r
    go true h =
        let t : r ≡ record { place = m.place; start = m.start; mark = min m.mark at; edge = m.edge } = e ∙ rw h in
        let v = walked_lower at its limit limit' m le (rem (ltb-true m.place at h)) in
        rw t (record { k = v.k; d = v.d; near = v.near; reached = v.reached; starts = v.starts; noted = noted_min at v.d its (last_mark v.k its) m.mark m.edge v.noted })
    go false h =
        let t : r ≡ record { place = at; start = 0; mark = at; edge = 0 } = e ∙ rw h in
        rw t (walked_none at its limit')

pub resumed_mark : (at : ℕ) (m r : Memo) → r ≡ resumed at m → r.mark ≤ at
resumed_mark at m r e = go (ltb m.place at) refl
  where
    go : (x : Bool) → ltb m.place at ≡ x → r.mark ≤ at
    go true h =
        let t : r ≡ record { place = m.place; start = m.start; mark = min m.mark at; edge = m.edge } = e ∙ rw h in
        rw t (omega arith)
    go false h =
        let t : r ≡ record { place = at; start = 0; mark = at; edge = 0 } = e ∙ rw h in
        rw t (omega arith)

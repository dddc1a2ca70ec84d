-- The answer after a walk, for each way out of it. Assumes nothing.
use mathlib.Core.Path.{◌≡◌, refl, sym, ap, ◌∙◌, subst}
use mathlib.Core.Bool.{Bool, true, false, cond, ◌&&◌, not}
use mathlib.Core.List.{List}
use Rattle.std.specs.Prelude.{Option, None, Some, Result, Ok, Err}
use Rattle.std.specs.Option.{option_map}
use Prim.Native.Nat.{ℕ, zero, suc, ◌+◌, ◌-◌, ◌*◌, ◌≤◌, ◌<◌}
use native.Mathlib.Omega.{arith}
use borrow.Author.Tests.{le-leb, lt-leb, le-ltb, leb-true, leb-false}
use lib.Dec.{leb, ltb}
use lib.ListN.{get_or}
use Rattle.words.specs.Words.{id_of, start_of}
use Rattle.tree.specs.Items.{Items, mark, span, same, records, first, leftmost}
use Rattle.tree.specs.Pack.{words, stopped, scan, long, packs, run_from}
use Rattle.tree.proofs.Reading.{after}
use Rattle.tree.proofs.RecordCounts.{words_records}
use Rattle.cursor.specs.Spells.{Spells, Stands}
use Rattle.cursor.proofs.Spelled.{marked_passed, spells_first, spells_skips, passed_first}
use Rattle.scan.specs.Counted.{Counted}
use Rattle.scan.specs.Walked.{last_mark, Noted, Walked, Remembered}
use Rattle.scan.specs.Steps.{between, packable, settles, decided, stopped_at, chosen}
use Rattle.scan.specs.Found.{measured, Found}
use Rattle.scan.specs.declared.BufferScan.{BufferScan}
use Rattle.scan.specs.declared.Memo.{Memo}
use Rattle.scan.proofs.Memory.{scan_early, scan_span, joined, scan_walked}
use Rattle.scan.proofs.Answered.{measured_ordinary}
use Rattle.scan.proofs.Walks.{end_scan, early_scan}

words_more : (F k m : ℕ) (its : Items) → words F (first k its) ≤ words F (first (k + m) its)
unfolding words first
words_more F zero m its = omega arith
words_more F (suc k) m Items.nil = omega arith
words_more F (suc k) m (mark i s e n rest) = let z : suc k + m ≡ suc (k + m) = omega arith in rw z (words_more F k m rest)
words_more F (suc k) m (span i s e kids rest) = let z : suc k + m ≡ suc (k + m) = omega arith in rw z (omega (arith, words_more F k m rest))

-- What the scan of a span and the items behind it says of the run.
abbrev picked : (F : ℕ) → Items → Option ℕ → Option ℕ
picked F its None = None
picked F its (Some zero) = None
picked F its (Some (suc k)) = elim (packs F (first (suc k) its)) [ true ↦ Some k | false ↦ None ]

picked_stopped : (F : ℕ) (its : Items) (own : Option ℕ) → picked F its (stopped own) ≡ None
unfolding stopped
picked_stopped F its None = refl
picked_stopped F its (Some r) = refl

run_picked : (F b : ℕ) (own : Option ℕ) (i s e : ℕ) (kids rest : Items)
    → run_from F b own i s e kids rest ≡ picked F (span i s e kids rest) (scan own (e - b) (span i s e kids rest))
unfolding run_from first
run_picked F b own i s e kids rest = go (leb (e - s) b) refl
  where
    near : (o : Option ℕ)
        → ◌≡◌ {A = Option ℕ} (elim o [ None ↦ None | Some k ↦ elim (packs F (span i s e kids (first k rest))) [ true ↦ Some k | false ↦ None ] ])
        (picked F (span i s e kids rest) (option_map suc o))
    near None = refl
    near (Some k) = refl

    go : (x : Bool) → leb (e - s) b ≡ x
        → ◌≡◌ {A = Option ℕ} (elim x [
          | false ↦ None
          | true ↦ elim (scan own (e - b) rest) [
            | None ↦ None
            | Some k ↦ elim (packs F (span i s e kids (first k rest))) [ true ↦ Some k | false ↦ None ]
          ]
        ]) (picked F (span i s e kids rest) (scan own (e - b) (span i s e kids rest)))
    go false h =
        sym (ap (picked F (span i s e kids rest)) (scan_early own (e - b) i s e kids rest (omega (arith, leb-false (e - s) b h)))
        ∙ picked_stopped F (span i s e kids rest) own)
    go true h =
        near (scan own (e - b) rest)
        ∙ sym (ap (picked F (span i s e kids rest)) (scan_span own (e - b) i s e kids rest (omega (arith, leb-true (e - s) b h))))

-- the run between two places, by the counts
between_measured : (F : ℕ) (own : Option ℕ) (w l : List ℕ) (lo at : ℕ) (its : Items) → Stands F own w lo at its → Counted F w l at
    → (j from start : ℕ) → from + records (first j its) ≡ at → between l from at start ≡ measured F start (first j its)
unfolding measured
between_measured F own w l lo at its st cnt j from start h =
    let z : at - records (first j its) ≡ from = omega arith in
    let sp : Spells w from at (first j its) = rw z at (spells_first w lo at j its st.spells) in
    let k = spells_skips F w from at (first j its) sp (passed_first F j its (marked_passed F own its st.marked)) in
    let a : (at - from) * 4 ≡ 4 * records (first j its) = omega arith in
    let b : get_or l at 0 - get_or l from 0 ≡ 4 * records (first j its) - words F (first j its) =
    omega (arith, k, cnt.count at (omega arith), cnt.count from (omega arith), words_records F (first j its)) in
    rw (a, b)

packable_measured : (F start : ℕ) (run : Items) → packable (measured F start run).size (measured F start run).skip ≡ packs F run
unfolding measured packable packs long
packable_measured F start run =
    let z : 4 * records run - (4 * records run - words F run) ≡ words F run = omega (arith, words_records F run) in
    rw z

nothing_packs : (F : ℕ) → packs F Items.nil ≡ false
unfolding packs long records
nothing_packs F = refl

-- The answer for a run of j items, beginning with the span.
module _ (F at limit i s e : ℕ) (kids rest : Items) (m : Memo) (mem : Remembered at (span i s e kids rest) limit m) where
  found_run : (j d : ℕ) → let run = first j (span i s e kids rest) in
      Found F at limit i s e kids rest (picked F (span i s e kids rest) (Some j)) (decided (measured F (leftmost d run) run) m)
  unfolding first leftmost
  found_run zero d = (m, small d, mem)
    where
      small : (d : ℕ) → decided (measured F d Items.nil) m ≡ Err m
      small d = ap (λ (x : Bool). cond x (Ok (measured F d Items.nil)) (Err m)) (packable_measured F d Items.nil ∙ nothing_packs F)
  found_run (suc j) d = go (packs F (span i s e kids (first j rest))) (packable_measured F (leftmost s (first j rest)) (span i s e kids (first j rest)))
    where
      go : (x : Bool) → packable (measured F (leftmost s (first j rest)) (span i s e kids (first j rest))).size (measured F (leftmost s (first j rest)) (span i s e kids (first j rest))).skip ≡ x
          → Found F at limit i s e kids rest (elim x [ true ↦ Some j | false ↦ None ]) (decided (measured F (leftmost s (first j rest)) (span i s e kids (first j rest))) m)
      go true h = rw h
      go false h = (m, rw h, mem)

picked_large : (F j : ℕ) (its : Items) → 65532 < words F (first j its) → picked F its (Some j) ≡ None
unfolding packs
picked_large F zero its h = refl
picked_large F (suc j) its h = rw (picked, lt-leb (words F (first (suc j) its)) 65532 h) (go (long (first (suc j) its)))
  where
    go : (x : Bool) → ◌≡◌ {A = Option ℕ} (elim (x && false) [ true ↦ Some j | false ↦ None ]) None
    go true = refl
    go false = refl

picked_not : (F j : ℕ) (its : Items) → packs F (first j its) ≡ false → picked F its (Some j) ≡ None
picked_not F zero its h = refl
picked_not F (suc j) its h = rw (picked, h)

-- once the ordinary words seen are too many and the run noted last does not pack, nothing does
picked_settled : (F k : ℕ) (its : Items) (a o : Option ℕ) → 65532 < words F (first k its) → picked F its a ≡ None → picked F its (joined k a o) ≡ None
picked_settled F k its a None h n = n
picked_settled F k its a (Some m) h n = picked_large F (k + m) its (omega (arith, words_more F k m its))

not_true : (x : Bool) → not x ≡ true → x ≡ false
not_true true h = absurd cc
not_true false h = refl

settles_both : (l : List ℕ) (at : ℕ) (m : Memo) → settles l at m ≡ true
    → let t = between l m.place at m.start in let u = between l m.mark at m.edge in (65532 < t.size - t.skip) × (packable u.size u.skip ≡ false)
unfolding settles
settles_both l at m h = go (leb ((at - m.place) * 4 - (get_or l at 0 - get_or l m.place 0)) 65532) refl h
  where
    go : (x : Bool) → leb ((at - m.place) * 4 - (get_or l at 0 - get_or l m.place 0)) 65532 ≡ x
        → ◌≡◌ {A = Bool} (cond x false (not (packable ((at - m.mark) * 4) (get_or l at 0 - get_or l m.mark 0)))) true
        → (65532 < (at - m.place) * 4 - (get_or l at 0 - get_or l m.place 0)) × (packable ((at - m.mark) * 4) (get_or l at 0 - get_or l m.mark 0) ≡ false)
    go true e y = absurd cc
    go false e y = (leb-false _ _ e, not_true _ y)

small_not : (size skip : ℕ) → size ≤ 4 → packable size skip ≡ false
unfolding packable
small_not size skip h = rw (le-ltb 4 size h)

large_not : (size skip : ℕ) → 65532 < size - skip → packable size skip ≡ false
unfolding packable
large_not size skip h = rw (lt-leb (size - skip) 65532 h) (go (ltb 4 size))
  where
    go : (x : Bool) → (x && false) ≡ false
    go true = refl
    go false = refl

-- the run where the walk stops before a span
joined_plain : (k : ℕ) (a : Option ℕ) → joined k a (stopped None) ≡ Some k
unfolding stopped
joined_plain k a = let z : k + 0 ≡ k = omega arith in ap (λ (j : ℕ). Some j) z

joined_repeat : (k r : ℕ) (a : Option ℕ) → joined k a (stopped (Some r)) ≡ a
unfolding stopped
joined_repeat k r a = refl

-- The ways out of the walk, with the memo that it leaves.
module _ (F b : ℕ) (own : Option ℕ) (w l : List ℕ) (lo at i s e : ℕ) (kids rest : Items) (st : Stands F own w lo at (span i s e kids rest)) (cnt : Counted F w l at)
    (m : Memo) (v : Walked at (span i s e kids rest) (e - b) m) (low : m.mark ≤ at) where
  abbrev all : Items
  all = span i s e kids rest

  seen_run : decided (between l m.place at m.start) m ≡ decided (measured F (leftmost v.d (first v.k all)) (first v.k all)) m
  seen_run =
      ap (λ (t : BufferScan). decided t m)
      (between_measured F own w l lo at all st cnt v.k m.place m.start v.reached ∙ ap (λ (x : ℕ). measured F x (first v.k all)) v.starts)

  by_scan : (o : Option ℕ) → scan own (e - b) all ≡ o → (r : Result BufferScan Memo) → chosen own l lo at m ≡ r → Found F at (e - b) i s e kids rest (picked F all o) r
      → Found F at (e - b) i s e kids rest (run_from F b own i s e kids rest) (chosen own l lo at m)
  by_scan o h r x f =
      subst (λ (t : Option ℕ). Found F at (e - b) i s e kids rest t (chosen own l lo at m)) (sym (run_picked F b own i s e kids rest ∙ ap (picked F all) h))
      (subst (λ (t : Result BufferScan Memo). Found F at (e - b) i s e kids rest (picked F all o) t) (sym x) f)

  whole_run : Found F at (e - b) i s e kids rest (picked F all (Some v.k)) (decided (between l m.place at m.start) m)
  whole_run =
      subst (λ (t : Result BufferScan Memo). Found F at (e - b) i s e kids rest (picked F all (Some v.k)) t) (sym seen_run) (found_run F at (e - b) i s e kids rest m (λ h. v) v.k v.d)

  pub leaves_limit : m.place ≤ lo → Found F at (e - b) i s e kids rest (run_from F b own i s e kids rest) (chosen own l lo at m)
  leaves_limit h =
      by_scan (Some v.k) (end_scan st v h) (decided (between l m.place at m.start) m)
      (rw (le-leb m.place lo h)) whole_run

  -- under a repeat tree the run noted last, or none
  noted_run : (o : Option ℕ) → Noted at v.d all o m.mark m.edge → Found F at (e - b) i s e kids rest (picked F all o) (decided (between l m.mark at m.edge) m)
  noted_run None h = (m, none_noted, λ x. v)
    where
      none_noted : decided (between l m.mark at m.edge) m ≡ Err m
      none_noted = ap (λ (x : Bool). cond x (Ok (between l m.mark at m.edge)) (Err m)) (small_not ((at - m.mark) * 4) (get_or l at 0 - get_or l m.mark 0) (omega arith))
  noted_run (Some j) h =
      subst (λ (t : Result BufferScan Memo). Found F at (e - b) i s e kids rest (picked F all (Some j)) t)
      (sym (ap (λ (t : BufferScan). decided t m)
      (between_measured F own w l lo at all st cnt j m.mark m.edge h.0 ∙ ap (λ (x : ℕ). measured F x (first j all)) h.1)))
      (found_run F at (e - b) i s e kids rest m (λ x. v) j v.d)

  -- before a span that starts too early
  pub leaves_early : lo < m.place → same own (id_of w (m.place - 1)) ≡ false → start_of w (m.place - 1) < e - b
      → Found F at (e - b) i s e kids rest (run_from F b own i s e kids rest) (chosen own l lo at m)
  leaves_early h other soon =
      by_scan (joined v.k (last_mark v.k all) (stopped own))
      (early_scan st v h other soon)
      (decided (stopped_at own (between l m.place at m.start) (between l m.mark at m.edge)) m)
      (rw (lt-leb m.place lo h)) (go own)
    where
      go : (o : Option ℕ) → Found F at (e - b) i s e kids rest (picked F all (joined v.k (last_mark v.k all) (stopped o)))
          (decided (stopped_at o (between l m.place at m.start) (between l m.mark at m.edge)) m)
      go None = subst (λ (t : Option ℕ). Found F at (e - b) i s e kids rest (picked F all t) (decided (between l m.place at m.start) m)) (sym (joined_plain v.k (last_mark v.k all))) whole_run
      go (Some r) =
          subst (λ (t : Option ℕ). Found F at (e - b) i s e kids rest (picked F all t) (decided (between l m.mark at m.edge) m)) (sym (joined_repeat v.k r (last_mark v.k all)))
          (noted_run (last_mark v.k all) v.noted)

  -- once nothing can pack any more
  pub leaves_settled : settles l at m ≡ true → Found F at (e - b) i s e kids rest (run_from F b own i s e kids rest) (chosen own l lo at m)
  leaves_settled h =
      by_scan (joined v.k (last_mark v.k all) (scan own (e - b) (after v.k all))) (scan_walked own (e - b) v.k all v.near) (Err m)
      (any (leb m.place lo) own)
      (subst (λ (t : Option ℕ). Found F at (e - b) i s e kids rest t (Err m)) (sym (picked_settled F v.k all (last_mark v.k all) (scan own (e - b) (after v.k all)) large (refused (last_mark v.k all) v.noted))) (m, refl, λ x. v))
    where
      both : (65532 < (at - m.place) * 4 - (get_or l at 0 - get_or l m.place 0)) × (packable ((at - m.mark) * 4) (get_or l at 0 - get_or l m.mark 0) ≡ false)
      both = settles_both l at m h

      large : 65532 < words F (first v.k all)
      large =
          omega (
            arith,
            both.0,
            ap (λ (t : BufferScan). t.size - t.skip) (between_measured F own w l lo at all st cnt v.k m.place m.start v.reached) ∙ measured_ordinary F m.start (first v.k all),
          )

      refused : (o : Option ℕ) → Noted at v.d all o m.mark m.edge → picked F all o ≡ None
      refused None n = refl
      refused (Some j) n =
          picked_not F j all
          (sym (packable_measured F m.edge (first j all)) ∙ (ap (λ (t : BufferScan). packable t.size t.skip) (sym (between_measured F own w l lo at all st cnt j m.mark m.edge n.0)) ∙ both.1))

      any : (x : Bool) (o : Option ℕ)
          → ◌≡◌ {A = Result BufferScan Memo} (cond x (decided (between l m.place at m.start) m) (decided (stopped_at o (between l m.place at m.start) (between l m.mark at m.edge)) m)) (Err m)
      any true o = rw (large_not _ _ both.0)
      any false None = rw (large_not _ _ both.0)
      any false (Some r) = rw both.1

-- The scan over the records: what is known before record i, what a leaf and a record over the last siblings make of it, and
-- what it says at the end. From the laws of one record, of the two tables and of ordered ranges.
-- Assumes nothing.
use mathlib.Core.Path.{◌≡◌, refl, sym, ap, subst, ◌∙◌}
use mathlib.Core.List.{List, []}
use mathlib.Core.Bool.{Bool, true, false, ◌&&◌}
use Rattle.std.specs.Prelude.{None}
use Prim.Native.Nat.{ℕ, ◌+◌, ◌-◌, ◌*◌, ◌/◌, ◌≤◌, ◌<◌}
use native.Mathlib.Omega.{arith}
use borrow.Author.Tests.{leb-true}
use lib.Dec.{leb}
use lib.ListN.{length, get_or, set, length-set}
use Rattle.words.specs.Outcome.{accepted, refused}
use Rattle.words.specs.Words.{id_of, start_of, end_of}
use Rattle.records.specs.Forest.{Forest, empty, add, count, behind, Nested}
use Rattle.records.specs.Parse.{parse, parse_from, nearest, farther}
use Rattle.records.specs.Check.{own_fault, fills, records_check, list_range_fault}
use Rattle.records.specs.OneRecord.{record_of}
use Rattle.records.specs.declared.Record.{Record}
use Rattle.records.specs.Taking.{finished, Spelt, fault_at, reaches, Stacked, begins_at}
use Rattle.records.proofs.OneRecord.{record_is, start_is, end_is, size_is}
use Rattle.records.proofs.ParseLaws.{nearest_zero, farther_zero}
use Rattle.records.proofs.Spelling.{counted, span, fills_zero, behind_last, spelt_farther}
use Rattle.records.proofs.Progress.{Progress, progress_none, Sized, sized, own_sound, own_refused, crossing_refused, progress_next, no_fault, all_parsed}
use Rattle.records.proofs.Order.{front, nested_leaf, nested_grown, nested_clear}
use Rattle.records.proofs.Stack.{and_both, stacked_as, begins_low, Split, split_at, none_at, stacked_push, stacked_grow}

-- before record i of n: the tables hold the siblings so far, and while `ordered` holds their ranges are nested and ordered
pub record Scanning (T S : ℕ) (ws v w : List ℕ) (n i height : ℕ) (ordered : Bool) : Type 0 where
  pub some_left : i ≤ n
  pub few : height ≤ i
  pub size : length ws ≡ n * 4
  pub levels : n ≤ length v
  pub siblings : n * 2 ≤ length w
  pub progress : Progress T ws i
  pub stacked : Stacked v w (finished ws i) height
  pub nested : ordered ≡ true → Nested T S 4294967295 (finished ws i)

pub scan_none : (T S : ℕ) (ws v w : List ℕ) (n : ℕ) → S ≤ 4294967295 → length ws ≡ n * 4 → n ≤ length v → n * 2 ≤ length w → Scanning T S ws v w n 0 0 true
unfolding finished parse parse_from
scan_none T S ws v w n fits size levels siblings = record {
  some_left = omega arith;
  few = omega arith;
  size = size;
  levels = levels;
  siblings = siblings;
  progress = progress_none T ws;
  stacked = refl;
  nested = λ t. fits;
}

reached : (s e first last : ℕ) → reaches s e first last ≡ true → (s ≤ first) × (last ≤ e)
unfolding reaches
reached s e first last h = let b = and_both (leb s first) (leb last e) h in (leb-true s first b.0, leb-true last e b.1)

-- its own fault is that of record i
own_is : (T : ℕ) (ws : List ℕ) (i : ℕ) {r : Record} → r ≡ record_of ws i → own_fault T i r.id r.start r.end r.size ≡ fault_at T ws i
own_is T ws i {r} e = ap (λ (x : Record). own_fault T i x.id x.start x.end x.size) (e ∙ record_is ws i)

-- 6 to 8 at record i
pub scan_own : {T S : ℕ} {ws v w : List ℕ} {n i height : ℕ} {ordered : Bool} → Scanning T S ws v w n i height ordered → i < n
    → {r : Record} → r ≡ record_of ws i → {k : ℕ} → k ≡ own_fault T i r.id r.start r.end r.size → (k ≡ 0 → ⊥) → records_check T empty ws ≡ refused k i
scan_own {T} {S} {ws} {v} {w} {n} {i} g less {r} e {k} is h = own_refused T ws i g.progress (omega (arith, g.size)) k (is ∙ own_is T ws i e) h

-- record i, which has no fault of its own
pub record Here (T S : ℕ) (ws v w : List ℕ) (n i height : ℕ) (ordered : Bool) (r : Record) : Type 0 where
  pub scan : Scanning T S ws v w n i height ordered
  pub less : i < n
  pub is : r ≡ record_of ws i
  pub own : 0 ≡ own_fault T i r.id r.start r.end r.size
  pub last : r.end ≤ 4294967295

-- its span of m records, with others beside itself, begins at record `from`
pub record Inside (r : Record) (i m from : ℕ) : Type 0 where
  pub spans : m ≡ r.size / 4
  pub more : r.size ≡ 4 → ⊥
  pub begins : from ≡ i + 1 - m

module _ {T S : ℕ} {ws v w : List ℕ} {n i height : ℕ} {ordered : Bool} {r : Record} (h : Here T S ws v w n i height ordered r) where
  abbrev f : Forest
  f = finished ws i

  room_here : i * 4 + 4 ≤ length ws
  room_here = omega (arith, h.less, h.scan.size)

  before_here : Progress T ws i
  before_here = h.scan.progress

  clear : fault_at T ws i ≡ 0
  clear = sym (h.own ∙ own_is T ws i h.is)

  word : end_of ws i ≤ 4294967295
  word = omega (arith, h.last, end_is _ _ h.is)

  counted_here : count f ≡ i
  counted_here = counted ws i before_here.sound

  own : (id_of ws i < T) × (start_of ws i ≤ end_of ws i)
  own = own_sound T ws i before_here room_here (fault_at T ws i) refl clear

  -- a record with no descendants
  pub scan_leaf : {good ordered' : Bool} {v' w' : List ℕ} → r.size ≡ 4 → good ≡ leb (behind S (finished ws i)) r.start → ordered' ≡ (ordered && good)
      → v' ≡ set v i height → w' ≡ set (set w (height * 2) i) (height * 2 + 1) r.start → Scanning T S ws v' w' n (i + 1) (height + 1) ordered'
  scan_leaf {good} {ordered'} {v'} {w'} four eg₀ eo ev ew =
      let es : r.start ≡ start_of ws i = start_is _ _ h.is in
      let eg : good ≡ leb (behind S (finished ws i)) (start_of ws i) = eg₀ ∙ ap (leb (behind S (finished ws i))) es in
      let one : 1 ≡ span ws i = omega (arith, four, size_is _ _ h.is) in
      let p = progress_next T ws i before_here room_here (fault_at T ws i) refl clear 1 one (fills_zero f) in
      let now : finished ws (i + 1) ≡ add f (id_of ws i) (start_of ws i) (end_of ws i) empty = p.1 ∙ rw (nearest_zero f, farther_zero f) in
      record {
        some_left = omega (arith, h.less);
        few = omega (arith, h.scan.few);
        size = h.scan.size;
        levels = rw ev (simp length-set h.scan.levels);
        siblings = rw ew (simp length-set h.scan.siblings);
        progress = p.0;
        stacked =
            stacked_as (height + 1) ev (ew ∙ ap (set (set w (height * 2) i) (height * 2 + 1)) es) now
            (stacked_push v w f height h.scan.stacked i counted_here (omega (arith, h.less, h.scan.levels)) (omega (arith, h.scan.few, h.less, h.scan.siblings)) (start_of ws i) (id_of ws i) (end_of ws i));
        nested = λ t.
            let b = and_both ordered good (sym eo ∙ t) in
            rw now
            (nested_leaf T S 4294967295 f (h.scan.nested b.0) (id_of ws i) (start_of ws i) (end_of ws i) own.0 own.1 word (leb-true _ _ (sym eg ∙ b.1)));
      }

  -- a record with descendants
  module _ {m from : ℕ} (x : Inside r i m from) where
    spans : m ≡ span ws i
    spans = x.spans ∙ ap (λ (k : ℕ). k / 4) (size_is _ _ h.is)

    pub sized_at : Sized ws i m
    sized_at = sized T ws i before_here room_here (fault_at T ws i) refl clear m spans

    some_inside : 0 < m - 1
    some_inside = let s = sized_at in omega (arith, s.span_of, s.some_span, x.more, size_is _ _ h.is)

    pub begins_before : from < i
    begins_before = omega (arith, x.begins, some_inside, sized_at.few)

    few_here : m - 1 ≤ count f
    few_here = omega (arith, sized_at.few, counted_here)

    from_is : from ≡ count f - (m - 1)
    from_is = omega (arith, x.begins, counted_here, some_inside)

    module _ (level : ℕ) {begun : Bool} (eb : begun ≡ begins_at w level from height) where
      -- 9
      pub scan_crossing : level ≡ get_or v from 0 → begun ≡ false → records_check T empty ws ≡ refused 9 i
      scan_crossing e no-sibling =
          crossing_refused T ws i before_here room_here (fault_at T ws i) refl clear m spans
          (none_at v w f height h.scan.stacked from level (m - 1) some_inside few_here from_is e (sym eb ∙ no-sibling))

      module _ (sibling : begun ≡ true) where
        split : Split v w f from level
        split = split_at v w f height h.scan.stacked from level (sym eb ∙ sibling)

        level_low : level < height
        level_low = begins_low w level from height (sym eb ∙ sibling)

        held : count f - from ≡ m - 1
        held = omega (arith, from_is, few_here)

        filled : fills f (m - 1) ≡ true
        filled = ap (fills f) (sym held) ∙ split.fill

        earlier : Spelt ws from × (finished ws from ≡ farther f (m - 1))
        earlier = spelt_farther ws i before_here.sound (m - 1) filled from from_is

        -- the records before its span
        pub spelt_before : Spelt ws from
        spelt_before = earlier.0

        pub scan_parent : {before : Record} {first : ℕ} {over good both₁ ordered' : Bool} {w' : List ℕ} → before ≡ record_of ws (i - 1)
            → first ≡ get_or w (level * 2 + 1) 0 → over ≡ reaches r.start r.end first before.end
            → good ≡ leb (behind S (finished ws from)) r.start → both₁ ≡ (over && good) → ordered' ≡ (ordered && both₁)
            → w' ≡ set w (level * 2 + 1) r.start → Scanning T S ws v w' n (i + 1) (level + 1) ordered'
        scan_parent {before} {first} {over} {good} {both₁} {ordered'} {w'} eb e₁ eh₀ eg₀ e₂ eo ew =
            let es : r.start ≡ start_of ws i = start_is _ _ h.is in
            let eg : good ≡ leb (behind S (finished ws from)) (start_of ws i) = eg₀ ∙ ap (leb (behind S (finished ws from))) es in
            let eh : over ≡ reaches (start_of ws i) (end_of ws i) first (end_of ws (i - 1)) = rw (start_is _ _ h.is, end_is _ _ h.is, end_is _ _ eb) at eh₀ in
            let p = progress_next T ws i before_here room_here (fault_at T ws i) refl clear m spans filled in
            record {
              some_left = omega (arith, h.less);
              few = omega (arith, h.scan.few, level_low);
              size = h.scan.size;
              levels = h.scan.levels;
              siblings = rw ew (simp length-set h.scan.siblings);
              progress = p.0;
              stacked =
                  stacked_as (level + 1) refl (ew ∙ ap (set w (level * 2 + 1)) es) p.1
                  (stacked_grow v w f from level (m - 1) split held (omega (arith, h.scan.siblings, h.less, h.scan.few, level_low)) (id_of ws i) (start_of ws i) (end_of ws i));
              nested = λ t.
                  let b = and_both ordered both₁ (sym eo ∙ t) in
                  let c = and_both over good (sym e₂ ∙ b.1) in
                  let d = reached (start_of ws i) (end_of ws i) first (end_of ws (i - 1)) (sym eh ∙ c.0) in
                  let after : behind S (farther f (m - 1)) ≤ start_of ws i =
                  rw earlier.1 at (leb-true (behind S (finished ws from)) (start_of ws i) (sym eg ∙ c.1)) in
                  let starts₀ : start_of ws i ≤ front 4294967295 (nearest f (count f - from)) = omega (arith, d.0, e₁, split.first 4294967295) in
                  let starts : start_of ws i ≤ front 4294967295 (nearest f (m - 1)) = rw held at starts₀ in
                  let ends : behind (start_of ws i) (nearest f (m - 1)) ≤ end_of ws i =
                  rw (behind_last ws i before_here.sound (m - 1) some_inside sized_at.few (start_of ws i)) d.1 in
                  rw p.1
                  (nested_grown T S 4294967295 f (h.scan.nested b.0) (id_of ws i) (start_of ws i) (end_of ws i) own.0 own.1 word (m - 1) after starts ends);
            }

-- after the last record
module _ {T S : ℕ} {ws v w : List ℕ} {n i height : ℕ} {ordered : Bool} (g : Scanning T S ws v w n i height ordered) (done : n ≤ i) where
  last_is : i ≡ n
  last_is = omega (arith, g.some_left)

  pub scan_clear : records_check T empty ws ≡ accepted []
  scan_clear = no_fault T ws n g.size (subst (Progress T ws) last_is g.progress)

  pub scan_ordered : ordered ≡ true → list_range_fault S ws ≡ None
  unfolding list_range_fault
  scan_ordered t =
      let e : finished ws i ≡ parse ws = ap (finished ws) last_is ∙ all_parsed T ws n g.size in
      nested_clear T (parse ws) S 4294967295 0 (rw e at (g.nested t))

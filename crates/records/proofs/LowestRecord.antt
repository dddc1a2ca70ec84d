-- The loop that looks for the lowest record to which 10 applies: what is known before record i, one record more, and the answer.
-- From the laws of one record and of least numbers.
-- Assumes nothing.
use mathlib.Core.Path.{◌≡◌, refl, sym, ap, subst, ◌∙◌}
use mathlib.Core.List.{List, [], ◌∷◌}
use mathlib.Core.Bool.{true}
use Rattle.std.specs.Prelude.{Option, None, Some}
use Prim.Native.Nat.{ℕ, ◌+◌, ◌-◌, ◌*◌, ◌/◌, ◌≤◌, ◌<◌}
use native.Mathlib.Omega.{arith}
use lib.ListN.{length}
use Rattle.words.specs.Outcome.{accepted, refused}
use Rattle.words.specs.Words.{id_of, start_of, end_of}
use Rattle.records.specs.Forest.{Forest, empty, count}
use Rattle.records.specs.Parse.{parse, parse_from, nearest, farther}
use Rattle.records.specs.Check.{fills, range_fault, list_range_fault, range_outcome}
use Rattle.records.specs.OneRecord.{record_of}
use Rattle.records.specs.declared.Record.{Record}
use Rattle.records.specs.Taking.{finished, Faultless, judged}
use Rattle.records.proofs.OneRecord.{start_is, end_is, size_is}
use Rattle.records.proofs.ParseLaws.{nearest_all, farther_all}
use Rattle.records.proofs.Spelling.{counted, span, fills_all}
use Rattle.records.proofs.Progress.{Progress, progress_none, Sized, sized_here, fills_here, next_here, all_parsed}
use Rattle.records.proofs.Ranges.{least, Between, range_between, inner, range_least, judged_level, inner_grown, inner_most}

-- before record i of n: `low` is the lowest record so far, below the first level, to which 10 applies, n for none
pub record LowestRecord (ws : List ℕ) (n i low : ℕ) : Type 0 where
  pub some_left : i ≤ n
  pub size : length ws ≡ n * 4
  pub faultless : Faultless ws
  pub progress : Progress faultless.types ws i
  pub lowest : low ≡ inner n 0 (finished ws i)

pub lowest_none : (ws : List ℕ) (n : ℕ) → length ws ≡ n * 4 → Faultless ws → LowestRecord ws n 0 n
unfolding finished parse parse_from inner
lowest_none ws n size h = record { some_left = omega arith; size = size; faultless = h; progress = progress_none h.types ws; lowest = refl }

module _ {ws : List ℕ} {n i low : ℕ} (g : LowestRecord ws n i low) (less : i < n) {r : Record} (is : r ≡ record_of ws i) {m : ℕ} (whole : m ≡ r.size / 4) where
  spans : m ≡ span ws i
  spans = whole ∙ ap (λ (k : ℕ). k / 4) (size_is _ _ is)

  room : i * 4 + 4 ≤ length ws
  room = omega (arith, g.size)

  -- the records inside record i
  pub inside : Sized ws i m
  inside = sized_here g.faultless.types ws i g.progress room g.faultless.clear m spans

  pub filled : fills (finished ws i) (m - 1) ≡ true
  filled = fills_here g.faultless.types ws i g.progress room g.faultless.clear m spans

  pub lowest_next : {low' : ℕ} → low' ≡ judged low r.start r.end (finished ws i) (m - 1) → LowestRecord ws n (i + 1) low'
  lowest_next {low'} l =
      let p = next_here g.faultless.types ws i g.progress room g.faultless.clear m spans in
      record {
        some_left = omega arith;
        size = g.size;
        faultless = g.faultless;
        progress = p.0;
        lowest =
            rw (start_is _ _ is, end_is _ _ is) at l
            ∙ (ap (λ (d : ℕ). judged d (start_of ws i) (end_of ws i) (finished ws i) (m - 1)) g.lowest
            ∙ (sym (inner_grown (finished ws i) (m - 1) n (id_of ws i) _ _ (omega (arith, counted ws i g.progress.sound))) ∙ ap (inner n 0) (sym p.1)));
      }

pub lowest_end : {ws : List ℕ} {n i low : ℕ} → LowestRecord ws n i low → n ≤ i → LowestRecord ws n n low
lowest_end {ws} {n} {i} {low} g h =
    let e : i ≡ n = omega (arith, g.some_left) in
    subst (λ (k : ℕ). LowestRecord ws n k low) e g

module _ {ws : List ℕ} {n low : ℕ} (g : LowestRecord ws n n low) where
  parsed : finished ws n ≡ parse ws
  parsed = all_parsed g.faultless.types ws n g.size

  all_counted : count (parse ws) ≡ n
  all_counted = sym (ap count parsed) ∙ counted ws n g.progress.sound

  pub all_fill : fills (finished ws n) n ≡ true
  all_fill = ap (fills (finished ws n)) (sym (counted ws n g.progress.sound)) ∙ fills_all (finished ws n)

  module _ (S : ℕ) where
    -- the lowest of all
    lowest_is : judged low S 4294967295 (finished ws n) n ≡ least n (list_range_fault S ws)
    unfolding count list_range_fault
    lowest_is =
        let c : count (finished ws n) ≡ n = counted ws n g.progress.sound in
        let near : nearest (finished ws n) n ≡ finished ws n = ap (nearest (finished ws n)) (sym c) ∙ nearest_all (finished ws n) in
        let far : farther (finished ws n) n ≡ empty = ap (farther (finished ws n)) (sym c) ∙ farther_all (finished ws n) in
        let j = judged_level (finished ws n) n low n S 4294967295 (omega (arith, g.lowest, inner_most (finished ws n) n 0)) in
        let r = range_least (finished ws n) n S 4294967295 0 (omega arith) in
        rw (near, far) at j ∙ (rw g.lowest (sym r ∙ ap (λ (f : Forest). least n (range_fault S 4294967295 0 f)) parsed))

    between : Between 0 (0 + count (parse ws)) (list_range_fault S ws)
    unfolding list_range_fault
    between = range_between (parse ws) S 4294967295 0

    module _ {l : ℕ} (is : l ≡ judged low S 4294967295 (finished ws n) n) where
      pub lowest_refused : l < n → refused 10 l ≡ range_outcome (length ws / 4) (list_range_fault S ws)
      lowest_refused h = go (list_range_fault S ws) between (is ∙ lowest_is)
        where
          go : (o : Option ℕ) → Between 0 (0 + count (parse ws)) o → l ≡ least n o → refused 10 l ≡ range_outcome (length ws / 4) o
          go None b m = absurd (omega arith)
          go (Some c) b m =
              let k : l ≡ c = omega (arith, all_counted) in
              ap (refused 10) k

      pub lowest_accepted : n ≤ l → accepted (n ∷ []) ≡ range_outcome (length ws / 4) (list_range_fault S ws)
      lowest_accepted h = go (list_range_fault S ws) between (is ∙ lowest_is)
        where
          go : (o : Option ℕ) → Between 0 (0 + count (parse ws)) o → l ≡ least n o → accepted (n ∷ []) ≡ range_outcome (length ws / 4) o
          go (Some c) b m = absurd (omega (arith, all_counted))
          go None b m =
              let k : n ≡ length ws / 4 = omega (arith, g.size) in
              ap (λ (x : ℕ). accepted (x ∷ [])) k

-- The loop over a part's records, turn by turn, in lists and numbers. Assumes nothing.
use mathlib.Core.Path.{◌≡◌, refl, sym, ap, subst, ◌∙◌}
use mathlib.Core.Bool.{true, false, not, cond}
use mathlib.Core.List.{List, [], ◌∷◌}
use Prim.Native.Nat.{ℕ, ◌+◌, ◌-◌, ◌*◌, ◌/◌, ◌%◌, ◌≤◌, ◌<◌}
use native.Mathlib.Omega.{arith}
use lib.Dec.{ltb, leb}
use lib.ListN.{length, get_or, set}
use Rattle.words.specs.Words.{start_of, end_of, last_of}
use Rattle.std.specs.declared.result.Result.{Result}
use Rattle.words.specs.declared.refusal.PackedFault.{PackedFault}
use Rattle.part.specs.Part.{fault}
use Rattle.part.specs.Open.{Stack, Passed, Tested}
use Rattle.part.specs.Rebased.{rebased}
use Rattle.part.specs.declared.Progress.{Progress}
use Rattle.part.proofs.Counts.{Counted, counted_none, counted_next, counted_greatest}
use Rattle.part.proofs.OpenEnds.{stack_none}
use Rattle.part.proofs.Rebased.{rebased_none}
use Rattle.rules.specs.PartLowest.{Around, still, earliest, ends_inside, part_kept}
use Rattle.cells.specs.Parts.{past_parent, Room}
use Rattle.cells.proofs.Rings.{rings, staying, starting, parent_past, rings_push}
use Rattle.cells.proofs.Scanning.{checks, kept_whole, checks_end, refuse_fault, refuse_start, refuse_parent, go_on}

-- before record i of the part ws of the length l: the records around are those of the open ends, and what is left gives the answer
pub record Going (T l : ℕ) (ws indices ends : List ℕ) (s : Progress) (low i : ℕ) : Type 0 where
  pub turn : i ≤ length ws / 4
  pub stack : Stack ws indices i s.top
  pub counted : Counted ws i s.greatest s.deepest
  pub left : part_kept T l ws ≡ checks T l ws i low (rings indices ends s.top)

none_around : (T l : ℕ) (ws indices ends : List ℕ) → checks T l ws 0 0 [] ≡ checks T l ws 0 0 (rings indices ends 0)
unfolding rings
none_around T l ws indices ends = refl

pub going_start : (T l : ℕ) (ws indices ends : List ℕ) → T ≤ 65536 → length ws % 4 ≡ 0 → Room (length ws) (length indices) (length ends)
    → Going T l ws indices ends (record { top = 0; greatest = 0; deepest = 0 }) 0 0
going_start T l ws indices ends t whole r = record {
  turn = omega arith;
  stack = stack_none ws indices r.for_indices;
  counted = counted_none ws;
  left = kept_whole T l ws t whole ∙ none_around T l ws indices ends;
}

-- the part itself is its words with end indices counted from 0
pub as_itself : (T : ℕ) (ws : List ℕ) (i : ℕ) (ends ends' : List ℕ) (s : Progress) (r : Result Progress PackedFault) → length ws % 4 ≡ 0
    → Tested (rebased 0 0 ws) T i ends ends' s r → Tested ws T i ends ends' s r
as_itself T ws i ends ends' s r whole h = subst (λ v. Tested v T i ends ends' s r) (rebased_none ws whole) h

pub stack_itself : (ws : List ℕ) (i top : ℕ) (ends : List ℕ) → length ws % 4 ≡ 0 → Stack ws ends i top → Stack (rebased 0 0 ws) ends i top
stack_itself ws i top ends whole h = subst (λ v. Stack v ends i top) (sym (rebased_none ws whole)) h

module _ (T l : ℕ) (ws indices ends : List ℕ) (s : Progress) (low i : ℕ) (g : Going T l ws indices ends s low i) where
  pub going_end : length ws / 4 ≤ i → length ws % 4 ≡ 0 → leb s.greatest l ≡ part_kept T l ws
  going_end h whole =
      sym (g.left ∙ (checks_end T l ws i low (rings indices ends s.top) (omega arith) h
      ∙ ap (λ (y : ℕ). leb y l) (sym (counted_greatest ws i s.greatest s.deepest g.counted h))))

  module _ (here : i < length ws / 4) where
    abbrev outer : List Around
    outer = rings indices ends s.top

    inside : i * 4 + 4 ≤ length ws
    inside = omega arith

    pub faulty : (fault ws T i ≡ 0 → ⊥) → false ≡ part_kept T l ws
    faulty h = sym (g.left ∙ refuse_fault T l ws i low outer inside h)

    module _ (indices' : List ℕ) (r : Progress) (clear : fault ws T i ≡ 0) (p : Passed ws i indices indices' s r) where
      abbrev t : ℕ
      t = r.top - 1

      still_is : t ≡ p.still
      still_is = omega (arith, p.top_is)

      few : t ≤ s.top
      few = omega (arith, still_is, p.innermost.below)

      around : still (i * 4) outer ≡ rings indices ends t
      around = staying indices ends (i * 4) s.top p.still p.innermost ∙ ap (rings indices ends) (sym still_is)

      start_is : earliest (i * 4) low outer ≡ cond (ltb t s.top) (get_or ends t 0) low
      start_is =
          starting indices ends (i * 4) s.top p.still low p.innermost
          ∙ ap (λ (k : ℕ). cond (ltb k s.top) (get_or ends k 0) low) (sym still_is)

      inside_is : not (ends_inside (end_of ws i) (still (i * 4) outer)) ≡ past_parent ends t (end_of ws i)
      inside_is = ap (λ (o : List Around). not (ends_inside (end_of ws i) o)) around ∙ parent_past indices ends t (end_of ws i)

      pub past : past_parent ends t (end_of ws i) ≡ true → false ≡ part_kept T l ws
      past h = sym (g.left ∙ refuse_parent T l ws i low outer inside (inside_is ∙ h))

      pub early : start_of ws i < cond (ltb t s.top) (get_or ends t 0) low → false ≡ part_kept T l ws
      early h = sym (g.left ∙ refuse_start T l ws i low outer inside (omega (arith, start_is)))

      module _ (within : past_parent ends t (end_of ws i) ≡ false) (late : cond (ltb t s.top) (get_or ends t 0) low ≤ start_of ws i)
          (room : length ws ≤ length ends) where
        fits : t < length ends
        fits = omega (arith, few, g.stack.few)

        more : checks T l ws i low outer ≡ checks T l ws (i + 1) (start_of ws i) (rings indices' (set ends t (end_of ws i)) r.top)
        more =
            let top : t + 1 ≡ r.top = omega (arith, p.top_is) in
            let put : indices' ≡ set indices t (last_of ws i) = p.ends_are ∙ ap (λ (k : ℕ). set indices k (last_of ws i)) (sym still_is) in
            let pushed = rings_push indices ends t (last_of ws i) (end_of ws i) (omega (arith, still_is, p.room)) fits in
            go_on T l ws i low outer inside clear (inside_is ∙ within) (omega (arith, start_is))
            ∙ (ap (λ (o : List Around). checks T l ws (i + 1) (start_of ws i) (record { stop = last_of ws i; end = end_of ws i } ∷ o)) around
            ∙ (ap (checks T l ws (i + 1) (start_of ws i)) (sym pushed)
            ∙ rw (top, put)))

        pub going_next : Going T l ws indices' (set ends t (end_of ws i)) r (start_of ws i) (i + 1)
        going_next = record {
          turn = omega arith;
          stack = p.stack;
          counted = counted_next ws i s.greatest s.deepest g.counted r.greatest r.deepest inside p.greatest_is p.deepest_is;
          left = g.left ∙ more;
        }

-- the record's start and end as they were read
pub read_again : (T l : ℕ) (ws indices ends : List ℕ) (r : Progress) (start end i k : ℕ) → start ≡ start_of ws i → end ≡ end_of ws i
    → Going T l ws indices (set ends k (end_of ws i)) r (start_of ws i) (i + 1) → Going T l ws indices (set ends k end) r start (i + 1)
read_again T l ws indices ends r start end i k p q g = rw (p, q) g

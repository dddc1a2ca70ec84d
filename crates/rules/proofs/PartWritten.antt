-- A part that holds the words of trees that nest and are in order keeps the rules for parts. By induction on the trees.
-- Assumes nothing.
use mathlib.Core.Path.{◌≡◌, refl, sym, ap, subst, ◌∙◌}
use mathlib.Core.Bool.{true}
use mathlib.Core.List.{List, [], ◌∷◌, ◌++◌, append_assoc, append-nil}
use Rattle.std.specs.Prelude.{None, Some}
use Prim.Native.Nat.{ℕ, suc, ◌+◌, ◌-◌, ◌*◌, ◌≤◌}
use native.Mathlib.Omega.{arith}
use native.Mathlib.Nat.{add-zero}
use borrow.Author.Tests.{le-leb, lt-leb}
use Rattle.tree.specs.Trees.{Trees, nil, tree, part, nodes}
use Rattle.tree.specs.Materialise.{unpack}
use Rattle.tree.specs.Cells.{id_word}
use Rattle.tree.proofs.WellLaws.{well-≤}
use Rattle.tree.proofs.PartLaws.{parts_accepted}
use Rattle.rules.specs.PartLowest.{Around, still, earliest, part_kept}
use Rattle.rules.proofs.PartBounds.{bound, ranges_within, kept_as_before}
use Rattle.rules.proofs.PartTrees.{Entries, entries_unpack}
use Rattle.tree.specs.Well.{Plain, Parts, spelled}

-- T types, a part that starts at p with the length l
module _ (T p l : ℕ) where
  pop_ranges : (off lo : ℕ) (a : Around) (outer : List Around) (ws : List ℕ) → a.stop ≤ off → ranges_within l off lo (a ∷ outer) ws ≡ ranges_within l off a.end outer ws
  unfolding ranges_within still earliest
  pop_ranges off lo a outer [] h = refl
  pop_ranges off lo a outer (i ∷ []) h = refl
  pop_ranges off lo a outer (i ∷ s ∷ []) h = refl
  pop_ranges off lo a outer (i ∷ s ∷ e ∷ []) h = refl
  pop_ranges off lo a outer (i ∷ s ∷ e ∷ x ∷ ws) h = rw (le-leb a.stop off h, still, earliest)

  -- the innermost record around goes on to the offset m at least
  abbrev To : (m : ℕ) → List Around → Type 0
  To m [] = Unit {0}
  To m (a ∷ outer) = m ≤ a.stop

  to_still : (off : ℕ) (outer : List Around) → To (suc off) outer → still off outer ≡ outer
  unfolding still
  to_still off [] h = refl
  to_still off (a ∷ outer) h = rw (lt-leb a.stop off h, still)

  to_earliest : (off lo : ℕ) (outer : List Around) → To (suc off) outer → earliest off lo outer ≡ lo
  unfolding earliest
  to_earliest off lo [] h = refl
  to_earliest off lo (a ∷ outer) h = rw (lt-leb a.stop off h, earliest)

  -- where the last of siblings ends, counted from p
  fin : ℕ → Trees → ℕ
  fin lo nil = lo
  fin lo (tree t s k kids rest) = fin ((s + k) - p) rest
  fin lo (part s k ws rest) = fin ((s + k) - p) rest

  ranges_step : (off lo : ℕ) (outer : List Around) (i s e x : ℕ) (ws : List ℕ) → To (suc off) outer → lo ≤ s → e ≤ bound l outer
      → ranges_within l off lo outer (i ∷ s ∷ e ∷ x ∷ ws) ≡ ranges_within l (off + 4) s (record { stop = x; end = e } ∷ outer) ws
  unfolding ranges_within
  ranges_step off lo outer i s e x ws t a b =
      rw (to_still off outer t, to_earliest off lo outer t, le-leb lo s a, le-leb e (bound l outer) b)

  abbrev RangesRun : (off lo : ℕ) (outer : List Around) (ts : Trees) → Type 0
  RangesRun off lo outer ts = (more : List ℕ) → ranges_within l off lo outer (spelled p off ts ++ more) ≡ ranges_within l (off + 4 * nodes ts) (fin lo ts) outer more

  to_less : (m k : ℕ) (outer : List Around) → k ≤ m → To m outer → To k outer
  to_less m k [] h t = tt
  to_less m k (a ∷ outer) h t = omega arith

  ranges_run_tree : (off lo i s k : ℕ) (kids rest : Trees) (outer : List Around) → To (off + 4 * suc (nodes kids + nodes rest)) outer
      → p + lo ≤ s → s + k ≤ p + bound l outer
      → RangesRun (off + 4) (s - p) (record { stop = off + 4 + 4 * nodes kids; end = (s + k) - p } ∷ outer) kids
      → RangesRun (off + 4 + 4 * nodes kids) ((s + k) - p) outer rest → RangesRun off lo outer (tree (Some i) s k kids rest)
  unfolding spelled nodes fin id_word
  ranges_run_tree off lo i s k kids rest outer t a b f g more =
      let x = off + 4 + 4 * nodes kids in
      let e = (s + k) - p in
      let us = spelled p (off + 4) kids in
      let vs = spelled p x rest in
      let q : off + 4 * suc (nodes kids + nodes rest) ≡ x + 4 * nodes rest = omega arith in
      ranges_step off lo outer i (s - p) e x ((us ++ vs) ++ more) (to_less _ (suc off) outer (omega arith) t) (omega arith) (omega arith)
      ∙ (ap (ranges_within l (off + 4) (s - p) (record { stop = x; end = e } ∷ outer)) (append_assoc us vs more)
      ∙ (f (vs ++ more) ∙ (pop_ranges x (fin (s - p) kids) (record { stop = x; end = e }) outer (vs ++ more) (omega arith) ∙ (g more ∙ rw q))))

  run_nil : (off lo : ℕ) (outer : List Around) → RangesRun off lo outer nil
  unfolding spelled nodes fin
  run_nil off lo outer = λ more. rw add-zero

  nodes_tree : (i s k : ℕ) (kids rest : Trees) → nodes (tree (Some i) s k kids rest) ≡ suc (nodes kids + nodes rest)
  unfolding nodes
  nodes_tree i s k kids rest = refl

  bound_is : (x e : ℕ) (outer : List Around) (lo : ℕ) (ts : Trees) → Plain T (p + lo) (p + e) ts → Plain T (p + lo) (p + bound l (record { stop = x; end = e } ∷ outer)) ts
  unfolding bound
  bound_is x e outer lo ts h = h

  part_run : (ts : Trees) (off lo : ℕ) (outer : List Around) → Entries ts → To (off + 4 * nodes ts) outer → Plain T (p + lo) (p + bound l outer) ts → RangesRun off lo outer ts
  part_run nil off lo outer en t w = run_nil off lo outer
  part_run (tree None s k kids rest) off lo outer en t w = absurd en
  part_run (tree (Some i) s k kids rest) off lo outer en t w =
      let x = off + 4 + 4 * nodes kids in
      let q = nodes_tree i s k kids rest in
      let high = well-≤ T (λ s l ws. ⊥) (s + k) (p + bound l outer) rest w.rest in
      let a : s ≡ p + (s - p) = omega (arith, w.starts) in
      let b : s + k ≡ p + ((s + k) - p) = omega (arith, w.starts) in
      let kids-run =
      part_run kids (off + 4) (s - p) (record { stop = x; end = (s + k) - p } ∷ outer) en.0 (omega arith)
      (bound_is x ((s + k) - p) outer (s - p) kids (subst (λ y. Plain T y (p + ((s + k) - p)) kids) a (subst (λ y. Plain T s y kids) b w.inner))) in
      let rest-run =
      part_run rest x ((s + k) - p) outer en.1 (to_less _ (x + 4 * nodes rest) outer (omega arith) t) (subst (λ y. Plain T y (p + bound l outer) rest) b w.rest) in
      let t' = to_less _ (off + 4 * suc (nodes kids + nodes rest)) outer (omega arith) t in
      ranges_run_tree off lo i s k kids rest outer t' w.starts high kids-run rest-run
  part_run (part s k ws rest) off lo outer en t w = absurd en

spelled_ranges : (T p l : ℕ) (ts : Trees) → Entries ts → Plain T p (p + l) ts → ranges_within l 0 0 [] (spelled p 0 ts) ≡ true
unfolding ranges_within bound
spelled_ranges T p l ts en w =
    let ws = spelled p 0 ts in
    ap (ranges_within l 0 0 []) (sym (append-nil ws)) ∙ part_run T p l ts 0 0 [] en tt (rw add-zero w) []

-- the words of trees that nest and are in order
pub parts_kept : (T p l : ℕ) (ws : List ℕ) → T ≤ 65536 → Parts T p l ws → part_kept T l ws ≡ true
parts_kept T p l ws t h =
    let r : ranges_within l 0 0 [] ws ≡ true = ap (ranges_within l 0 0 []) (sym h.whole) ∙ spelled_ranges T p l (unpack p 0 ws) (entries_unpack p 0 ws) h.ranges in
    rw (kept_as_before T l ws, parts_accepted T p l ws t h, r)

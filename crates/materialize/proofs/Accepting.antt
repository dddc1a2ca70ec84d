-- What accepted cells give the writer: kinds, parts inside the packed words, starts that fit 32 bits, and room in the work slice.
-- Assumes nothing.
use mathlib.Core.Path.{◌≡◌, refl, sym, ap, subst, ◌∙◌}
use mathlib.Core.Bool.{Bool, true, false, ◌||◌, not, true≢false}
use mathlib.Core.List.{List, [], ◌∷◌}
use Rattle.std.specs.Prelude.{Option, None, Some}
use mathlib.Core.Logic.{◌⊎◌, inl, inr}
use Prim.Native.Nat.{ℕ, zero, suc, ◌+◌, ◌-◌, ◌*◌, ◌/◌, ◌%◌, ◌≤◌, ◌<◌}
use native.Mathlib.Decide.{ℕ_discrete}
use native.Mathlib.Omega.{arith}
use borrow.Author.Tests.{eq-eqb, ne_eqb, ltb-false, eqb-true, not-false}
use lib.Dec.{ltb, eqb}
use lib.ListN.{length, get_or, take, drop}
use Rattle.part.proofs.Faults.{part_sound}
use Rattle.part.proofs.GreatestEnd.{greatest_above}
use Rattle.tree.specs.Trees.{nodes}
use Rattle.tree.specs.Cells.{decode, decode_from, absolute, cells, tree_cells, cell_width, cell_kind, cell_length, part_at}
use Rattle.tree.specs.Calls.{materialise_cells}
use Rattle.tree.specs.Materialise.{materialise}
use Rattle.rules.specs.Cell.{Cell, cells_of}
use Rattle.rules.specs.PartLowest.{part_kept}
use Rattle.rules.specs.Lowest.{Named, kind_broken, id_broken, part_broken, end_broken, top_broken, lowest_from, top_named, bad_cell, first_named, next_named, words_end}
use Rattle.rules.specs.Calls.{items, handed_in}
use Rattle.rules.proofs.Tests.{neither}
use Rattle.rules.proofs.Keeping.{Keeps, keeps, accepted_step}
use Rattle.rules.proofs.PartRanges.{part_rules}
use Rattle.rules.proofs.Accepted.{accepted_size}
use Rattle.rules.proofs.Decoded.{accepted_decode}
use Rattle.cells.specs.Steps.{cell_at}
use Rattle.cells.proofs.Reading.{cells_drop}
use Rattle.materialize.specs.Steps.{unpacked, cells_before, ahead, PartFits, Typed}
use Rattle.materialize.proofs.Handing.{nodes_relative}
use Rattle.materialize.proofs.Reading.{nodes_unpacked, materialised}
use Rattle.materialize.proofs.Finishing.{counted_all}
use Rattle.tree.specs.Well.{Short}

module _ (T : ℕ) (ws : List ℕ) (n : ℕ) where
  -- a cell that breaks no rule
  record Fine (k : Cell) : Type 0 where
    typed : (k.kind ≡ 2 → ⊥) → (k.kind ≡ 1) ⊎ ((k.kind ≡ 3) × (k.id ≡ 0))
    inside : k.kind ≡ 2 → k.first + k.count ≤ length ws
    kept : k.kind ≡ 2 → part_kept T k.len (take k.count (drop k.first ws)) ≡ true
    ends : k.kind ≡ 2 → k.position + k.len ≤ 4294967295

  typed_of : (k : Cell) → kind_broken k ≡ false → id_broken T k ≡ false → (k.kind ≡ 2 → ⊥) → (k.kind ≡ 1) ⊎ ((k.kind ≡ 3) × (k.id ≡ 0))
  unfolding kind_broken id_broken
  typed_of k h g other = go (ℕ_discrete k.kind 1) (ℕ_discrete k.kind 3)
    where
      go : Dec (k.kind ≡ 1) → Dec (k.kind ≡ 3) → (k.kind ≡ 1) ⊎ ((k.kind ≡ 3) × (k.id ≡ 0))
      go (yes e) d = inl e
      go (no e) (yes f) = inr (f, eqb-true k.id 0 (not-false (eqb k.id 0) (rw (ne_eqb k.kind 1 e, id_broken) at g)))
      go (no e) (no f) = absurd (true≢false (rw (ne_eqb k.kind 1 e, ne_eqb k.kind 3 f, ne_eqb k.kind 2 other) at h))

  part_of : (w : ℕ) (k : Cell) → part_broken T ws w k ≡ false → k.kind ≡ 2
      → (k.first + k.count ≤ length ws) × (part_kept T k.len (take k.count (drop k.first ws)) ≡ true)
  unfolding part_broken
  part_of w k h e =
      let a = rw (eq-eqb k.kind 2 e) at h in
      let (x, y) = neither (not (eqb k.first w)) (ltb (length ws) (k.first + k.count) || not (part_kept T k.len (take k.count (drop k.first ws)))) a in
      let (u, v) = neither (ltb (length ws) (k.first + k.count)) (not (part_kept T k.len (take k.count (drop k.first ws)))) y in
      (ltb-false (length ws) (k.first + k.count) u, not-false (part_kept T k.len (take k.count (drop k.first ws))) v)

  ends_of : (c : ℕ) (d : Named) (k : Cell) → top_broken c k ≡ false → end_broken c d k ≡ false → k.kind ≡ 2 → k.position + k.len ≤ 4294967295
  unfolding top_broken end_broken
  ends_of c d k h g e = go (ℕ_discrete c 1)
    where
      go : Dec (c ≡ 1) → k.position + k.len ≤ 4294967295
      go (yes z) = absurd (true≢false (rw (eq-eqb c 1 z, e) at h))
      go (no z) = omega (arith, ltb-false 4294967295 (d.base + (k.position + k.len)) (rw (ne_eqb c 1 z) at g))

  fine : (c w : ℕ) (d : Named) (ds : List Named) (k : Cell) (ks : List Cell) → Keeps T ws n c w d ds k ks → Fine k
  fine c w d ds k ks h = record {
    typed = typed_of k h.kinds h.ids;
    inside = λ e. (part_of w k h.words e).0;
    kept = λ e. (part_of w k h.words e).1;
    ends = ends_of c d k h.top h.ends;
  }

  all_fine : (c w : ℕ) (ds : List Named) (ks : List Cell) → 0 < c → lowest_from T ws n c w ds ks ≡ 0 → (j : ℕ) (k : Cell) (rest : List Cell) → drop j ks ≡ k ∷ rest → Fine k
  unfolding lowest_from
  all_fine c w ds [] z h zero k rest e = let s : 0 ≡ suc (length rest) = ap length e in absurd (omega (arith, s))
  all_fine c w ds [] z h (suc j) k rest e = let s : 0 ≡ suc (length rest) = ap length e in absurd (omega (arith, s))
  all_fine c w [] (k₀ ∷ ks) z h j k rest e = absurd (omega arith)
  all_fine c w (d ∷ ds) (k₀ ∷ ks) z h zero k rest e =
      let (b, r) = accepted_step T ws n c w d ds k₀ ks z h in
      let same : k₀ ≡ k = ap (λ (l : List Cell). get_or l 0 k₀) e in
      subst Fine same (fine c w d ds k₀ ks (keeps T ws n c w d ds k₀ ks b))
  all_fine c w (d ∷ ds) (k₀ ∷ ks) z h (suc j) k rest e =
      let (b, r) = accepted_step T ws n c w d ds k₀ ks z h in
      all_fine (suc c) (words_end w k₀) (first_named c d k₀ (next_named d k₀ ds)) ks (omega arith) r j k rest e

lowest_none : (T : ℕ) (cs ws : List ℕ) → bad_cell T 0 cs ws ≡ None → lowest_from T ws (length (cells_of cs)) 1 0 (top_named 0 ∷ []) (cells_of cs) ≡ 0
unfolding bad_cell
lowest_none T cs ws h = outer (eqb (length cs) 0 || not (eqb (length cs % cell_width) 0)) _ h
  where
    inner : (n : ℕ) → ◌≡◌ {A = Option ℕ} (elim n [ zero ↦ None | suc c ↦ Some (suc c) ]) None → n ≡ 0
    inner zero h = refl
    inner (suc c) h = let bad : ◌≡◌ {A = ℕ} 0 1 = cc in absurd (omega arith)

    outer : (b : Bool) (n : ℕ) → ◌≡◌ {A = Option ℕ} (elim b [ true ↦ Some 0 | false ↦ elim n [ zero ↦ None | suc c ↦ Some (suc c) ] ]) None → n ≡ 0
    outer true n h = let bad : ◌≡◌ {A = ℕ} 0 1 = cc in absurd (omega arith)
    outer false n h = inner n h

module _ (T : ℕ) (cs ws : List ℕ) (ok : bad_cell T 0 cs ws ≡ None) where
  fine_at : (i : ℕ) → i * cell_width + cell_width ≤ length cs → Fine T ws (length (cells_of cs)) (cell_at cs i)
  fine_at i l = all_fine T ws (length (cells_of cs)) 1 0 (top_named 0 ∷ []) (cells_of cs) (omega arith) (lowest_none T cs ws ok) i (cell_at cs i) (drop (suc i) (cells_of cs)) (cells_drop i cs l)

  pub typed_at : (i : ℕ) → i * cell_width + cell_width ≤ length cs → (cell_kind cs i ≡ 2 → ⊥) → Typed cs i
  typed_at i l = (fine_at i l).typed

  pub parts_fit : (i : ℕ) → i * cell_width + cell_width ≤ length cs → cell_kind cs i ≡ 2 → PartFits cs ws i
  parts_fit i l e =
      let f = fine_at i l in
      let r = part_rules (part_at cs ws i) T (cell_length cs i) (f.kept e) in
      record {
        inside = f.inside e;
        starts = λ j m. omega (arith, r.ends, greatest_above (part_at cs ws i) j m, (part_sound (part_at cs ws i) T r.counts r.passes j (omega arith)).ordered, f.ends e);
      }

  whole : ahead cs ws 0 ≡ decode ws cs
  unfolding decode
  whole = let e : length cs / cell_width - 0 ≡ length cs / cell_width = omega arith in ap (λ (k : ℕ). decode_from ws k cs) e

  pub total_is : cells_before cs (length cs / cell_width) ≡ nodes (materialise (handed_in cs ws))
  unfolding handed_in
  total_is =
      counted_all cs ws parts_fit ∙ ap (λ x. nodes (unpacked x)) whole
      ∙ ap nodes (sym (materialised 0 (decode ws cs))) ∙ nodes_relative 0 (materialise (absolute 0 (decode ws cs)))

  pub total_few : Short ws → cells_before cs (length cs / cell_width) ≤ items cs ws
  unfolding items
  total_few short =
      let a = accepted_decode T 0 ws short (omega arith) cs ok in
      let b = accepted_size T 0 cs ws (omega arith) short ok in
      omega (arith, counted_all cs ws parts_fit, ap (λ x. nodes (unpacked x)) whole, nodes_unpacked (decode ws cs), ap length a.1, b)

  pub written_is : cells 1 0 (unpacked (ahead cs ws 0)) ≡ materialise_cells cs ws
  unfolding materialise_cells tree_cells
  written_is = ap (λ x. cells 1 0 (unpacked x)) whole ∙ ap (λ x. cells 1 0 x) (sym (materialised 0 (decode ws cs)))

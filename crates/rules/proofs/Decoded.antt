-- Cells that break no rule are the cells of a tree that keeps the rules. By induction on the cells. Assumes nothing.
use mathlib.Core.Path.{◌≡◌, refl, sym, ap, subst, ◌∙◌}
use mathlib.Core.Bool.{Bool, true, false, ◌&&◌, ◌||◌, not, true≢false}
use mathlib.Core.List.{List, [], ◌∷◌, ◌++◌, append-nil}
use Rattle.std.specs.Prelude.{Option, None, Some}
use Rattle.std.proofs.lemmas.Option.{none-some}
use Prim.Native.Nat.{ℕ, zero, suc, ◌+◌, ◌-◌, ◌%◌, ◌≤◌, ◌<◌}
use native.Mathlib.Omega.{arith}
use borrow.Author.Tests.{eq-eqb, ne_eqb, ltb-false, leb-false, eqb-true, eqb-false, not-false}
use lib.Dec.{ltb, eqb}
use Rattle.rules.specs.Cell.{Cell, cells_of, is_part, first_child}
use Rattle.rules.specs.PartLowest.{part_kept}
use Rattle.rules.specs.Lowest.{chain, chains, any_part, Named, named, top_broken, id_broken, link_broken, place_broken, order_broken, part_broken, stray_broken, next_named, first_named, words_end, lowest_from, top_named, bad_cell}
use lib.ListN.{length, take, drop, length-take, length-drop, take-append-drop}
use lib.Seq.{drop-length, drop-drop}
use Rattle.tree.specs.Trees.{Trees, nil, tree, nodes, siblings, part}
use Rattle.tree.specs.Cells.{relative, absolute, packed, unless_none, kind, id_word, cells, decode, cell_width}
use Rattle.tree.proofs.CellLaws.{packed_relative}
use Rattle.tree.proofs.KeptLaws.{Kept, kept_decode, counted, sound_counted}
use Rattle.rules.proofs.Tests.{neither}
use Rattle.rules.proofs.PartRead.{short_parts}
use Rattle.rules.proofs.Keeping.{Keeps, keeps, words_of, words_cells, leads, first_part, end_part, end_tree, accepted_step, count_tree}
use Rattle.rules.proofs.Grown.{ends_upto, Grown, Laid, grown_next, grown_first, typed, link_chain, grown_tree, grown_part}
use Rattle.tree.specs.Well.{Parts, Short, Sound}

short_drop : (n : ℕ) (ws : List ℕ) → Short ws → Short (drop n ws)
short_drop zero ws h = h
short_drop (suc n) [] h = h
short_drop (suc n) (w ∷ ws) h = short_drop n ws h.1

short_take : (n : ℕ) (ws : List ℕ) → Short ws → Short (take n ws)
short_take zero ws h = tt
short_take (suc n) [] h = tt
short_take (suc n) (w ∷ ws) h = (h.0, short_take n ws h.1)

module _ (T : ℕ) (ws : List ℕ) (n : ℕ) where
  -- named cells stand from cell c on
  abbrev Ahead : (c : ℕ) → List Named → Type 0
  Ahead c [] = Unit {0}
  Ahead c (d ∷ ds) = record { from : c ≤ d.cell; to : d.cell ≤ n; rest : Ahead c ds }

  ahead_suc : (c : ℕ) (ds : List Named) → named c ds ≡ false → Ahead c ds → Ahead (suc c) ds
  unfolding named
  ahead_suc c [] h a = tt
  ahead_suc c (d ∷ ds) h a =
      let (x, y) = neither (eqb d.cell c) (named c ds) h in
      record { from = omega (arith, eqb-false d.cell c x); to = a.to; rest = ahead_suc c ds y a.rest }

  ahead_next : (c : ℕ) (d : Named) (k : Cell) (ds : List Named) → link_broken n c k.next ≡ false → Ahead (suc c) ds → Ahead (suc c) (next_named d k ds)
  unfolding next_named
  ahead_next c d k ds h a = go (eqb k.next 0) refl
    where
      go : (b : Bool) → eqb k.next 0 ≡ b
          → Ahead (suc c) (elim b [ true ↦ ds | false ↦ record { cell = k.next; after = k.position + k.len; within = d.within; base = d.base } ∷ ds ])
      go true e = a
      go false e = let (x, y) = leads n c k.next h (eqb-false k.next 0 e) in record { from = x; to = y; rest = a }

  ahead_first : (c : ℕ) (d : Named) (k : Cell) (ds : List Named) → link_broken n c (first_child k) ≡ false → Ahead (suc c) ds → Ahead (suc c) (first_named c d k ds)
  unfolding first_named first_child
  ahead_first c d k ds h a = go (is_part k) h
    where
      go : (p : Bool) → link_broken n c (elim p [ true ↦ 0 | false ↦ k.first ]) ≡ false
          → Ahead (suc c) (elim (eqb (elim p [ true ↦ 0 | false ↦ k.first ]) 0) [ true ↦ ds | false ↦ record { cell = k.first; after = 0; within = elim (eqb c 1) [ true ↦ None | false ↦ Some k.len ]; base = d.base + k.position } ∷ ds ])
      go true h = a
      go false h = go' (eqb k.first 0) refl
        where
          go' : (b : Bool) → eqb k.first 0 ≡ b
              → Ahead (suc c) (elim b [ true ↦ ds | false ↦ record { cell = k.first; after = 0; within = elim (eqb c 1) [ true ↦ None | false ↦ Some k.len ]; base = d.base + k.position } ∷ ds ])
          go' true e = a
          go' false e = let (x, y) = leads n c k.first h (eqb-false k.first 0 e) in record { from = x; to = y; rest = a }

  -- what is asked of a part's cell
  record Filled (w : ℕ) (k : Cell) : Type 0 where
    here : k.first ≡ w
    room : k.first + k.count ≤ length ws
    kept : part_kept T k.len (take k.count (drop k.first ws)) ≡ true

  filled : (w : ℕ) (k : Cell) → is_part k ≡ true → part_broken T ws w k ≡ false → Filled w k
  unfolding part_broken
  filled w k p h =
      let a : not (eqb k.first w) || (ltb (length ws) (k.first + k.count) || not (part_kept T k.len (take k.count (drop k.first ws)))) ≡ false = rw p at h in
      let (x, y) = neither (not (eqb k.first w)) _ a in
      let (u, v) = neither (ltb (length ws) (k.first + k.count)) _ y in
      record { here = eqb-true k.first w (not-false _ x); room = ltb-false (length ws) (k.first + k.count) u; kept = not-false _ v }

  -- words up to the end are taken where no part follows
  stray_end : (c w : ℕ) (k : Cell) (ks : List Cell) → stray_broken ws c k ks ≡ false → (any_part (k ∷ ks) ≡ false → w ≡ length ws)
      → any_part ks ≡ false → words_end w k ≡ length ws
  unfolding stray_broken words_end any_part
  stray_end c w k ks h before e = go (is_part k) (rw e at h) before
    where
      go : (p : Bool) → (true && elim p [ true ↦ not (eqb (k.first + k.count) (length ws)) | false ↦ eqb c 1 && not (eqb (length ws) 0) ]) ≡ false
          → (p || any_part ks ≡ false → w ≡ length ws) → elim p [ true ↦ k.first + k.count | false ↦ w ] ≡ length ws
      go true h b = eqb-true (k.first + k.count) (length ws) (not-false _ h)
      go false h b = b e

  kind_part : (k : Cell) → is_part k ≡ true → id_broken T k ≡ false → (k.kind ≡ 2) × (k.id ≡ 0)
  unfolding id_broken
  kind_part k p h =
      let two : k.kind ≡ 2 = eqb-true k.kind 2 p in
      (two, eqb-true k.id 0 (not-false (eqb k.id 0) (rw (ne_eqb k.kind 1 (λ e. omega arith), id_broken) at h)))

  module _ (short : Short ws) where
    step_tree : (c w : ℕ) (d : Named) (ds : List Named) (k : Cell) (ks : List Cell) → 2 ≤ c → Keeps T ws n c w d ds k ks → is_part k ≡ false → d.cell ≡ c
        → Laid T ws n (first_named c d k (next_named d k ds)) (suc c) w (words_of ks) (chains (suc c) ks)
        → Laid T ws n (d ∷ ds) c w (words_of (k ∷ ks)) (chains c (k ∷ ks))
    unfolding words_of chains order_broken
    step_tree c w d ds k ks two h p here r =
        let top = ends_upto T ws n c d k (λ e. omega arith) h.inside h.ends in
        let inner : d.base + k.position + k.len ≡ elim (eqb c 1) [ true ↦ 4294967295 | false ↦ d.base + k.position + k.len ] =
        rw (ne_eqb c 1 (λ e. omega arith)) in
        let F =
        grown_first T ws n c w d k (next_named d k ds) (words_of ks) (chains (suc c) ks) (d.base + k.position + k.len) p (omega arith) inner r in
        let N =
        grown_next T ws n (suc c + nodes F.trees) (w + length (packed F.trees)) d k ds F.later (drop (nodes F.trees) (chains (suc c) ks)) top F.rest in
        grown_tree T ws n c w d ds k (words_of ks) (chains (suc c) ks) (omega arith) (typed T ws n k h.kinds h.ids p) here
        (ltb-false k.position d.after h.order) (count_tree c k (chains (suc c) ks) p h.counts) F N

    step_part : (c w : ℕ) (d : Named) (ds : List Named) (k : Cell) (ks : List Cell) → 2 ≤ c → Keeps T ws n c w d ds k ks → is_part k ≡ true → d.cell ≡ c
        → Laid T ws n (next_named d k ds) (suc c) (k.first + k.count) (words_of ks) (chains (suc c) ks)
        → Laid T ws n (d ∷ ds) c w (words_of (k ∷ ks)) (chains c (k ∷ ks))
    unfolding words_of chains order_broken
    step_part c w d ds k ks two h p here r =
        let f = filled w k p h.words in
        let us = take k.count (drop w ws) in
        let (kd, id) = kind_part k p h.ids in
        let top = ends_upto T ws n c d k (λ e. omega arith) h.inside h.ends in
        let size : k.count ≡ length us = omega (arith, length-take k.count (drop w ws), length-drop w ws, f.here, f.room) in
        let words : drop w ws ≡ us ++ drop (w + length us) ws =
        sym (take-append-drop k.count (drop w ws)) ∙ ap (λ r. us ++ r) (drop-drop k.count w ws ∙ ap (λ m. drop (w + m) ws) size) in
        let ok : Parts T (d.base + k.position) k.len us =
        short_parts T (d.base + k.position) k.len us (short_take k.count (drop w ws) (short_drop w ws short))
        (subst (λ y. part_kept T k.len (take k.count (drop y ws)) ≡ true) f.here f.kept) in
        let at : k.first + k.count ≡ w + length us = omega (arith, f.here, size) in
        let r' = subst (λ y. Laid T ws n (next_named d k ds) (suc c) y (words_of ks) (chains (suc c) ks)) at r in
        grown_part T ws n c w d ds k (words_of ks) (chains (suc c) ks) us (omega arith) kd id here (ltb-false k.position d.after h.order)
        f.here size words ok (grown_next T ws n (suc c) (w + length us) d k ds (words_of ks) (chains (suc c) ks) top r')

    step_laid : (c w : ℕ) (d : Named) (ds : List Named) (k : Cell) (ks : List Cell) → 2 ≤ c → Keeps T ws n c w d ds k ks
        → Laid T ws n (first_named c d k (next_named d k ds)) (suc c) (words_end w k) (words_of ks) (chains (suc c) ks)
        → Laid T ws n (d ∷ ds) c w (words_of (k ∷ ks)) (chains c (k ∷ ks))
    unfolding place_broken
    step_laid c w d ds k ks two h r = go (is_part k) refl
      where
        here : d.cell ≡ c
        here = let (x, y) = neither (not (eqb d.cell c)) (named c ds) h.place in eqb-true d.cell c (not-false _ x)

        go : (p : Bool) → is_part k ≡ p → Laid T ws n (d ∷ ds) c w (words_of (k ∷ ks)) (chains c (k ∷ ks))
        go true p =
            step_part c w d ds k ks two h p here
            (subst (λ y. Laid T ws n (next_named d k ds) (suc c) y (words_of ks) (chains (suc c) ks)) (end_part w k p)
            (subst (λ l. Laid T ws n l (suc c) (words_end w k) (words_of ks) (chains (suc c) ks)) (first_part c d k (next_named d k ds) p) r))
        go false p =
            step_tree c w d ds k ks two h p here
            (subst (λ y. Laid T ws n (first_named c d k (next_named d k ds)) (suc c) y (words_of ks) (chains (suc c) ks)) (end_tree w k p) r)

    nothing_left : (c w : ℕ) → w ≡ length ws → Laid T ws n [] c w (words_of []) (chains c [])
    unfolding words_of chains
    nothing_left c w e = (refl, rw e (drop-length ws))

    unreached : (c w : ℕ) (k : Cell) (ks : List Cell) → 0 < c → lowest_from T ws n c w [] (k ∷ ks) ≡ 0 → ⊥
    unfolding lowest_from
    unreached c w k ks pos h = omega arith

    no_part_left : any_part [] ≡ false
    unfolding any_part
    no_part_left = refl

    others : (c w : ℕ) (d : Named) (ds : List Named) (k : Cell) (ks : List Cell) → Keeps T ws n c w d ds k ks → Ahead c (d ∷ ds) → Ahead (suc c) (first_named c d k (next_named d k ds))
    unfolding place_broken
    others c w d ds k ks h a =
        let (x, y) = neither (not (eqb d.cell c)) (named c ds) h.place in
        ahead_first c d k (next_named d k ds) h.first_link (ahead_next c d k ds h.next_link (ahead_suc c ds y a.rest))

    laid : (ks : List Cell) (c w : ℕ) (ds : List Named) → 2 ≤ c → c + length ks ≡ suc n → Ahead c ds → (any_part ks ≡ false → w ≡ length ws)
        → lowest_from T ws n c w ds ks ≡ 0 → Laid T ws n ds c w (words_of ks) (chains c ks)
    laid [] c w [] two q a e h = nothing_left c w (e no_part_left)
    laid [] c w (d ∷ ds) two q a e h = absurd (omega (arith, a.from, a.to))
    laid (k ∷ ks) c w [] two q a e h = absurd (unreached c w k ks (omega arith) h)
    laid (k ∷ ks) c w (d ∷ ds) two q a e h =
        let (b, r) = accepted_step T ws n c w d ds k ks (omega arith) h in
        let s = keeps T ws n c w d ds k ks b in
        step_laid c w d ds k ks two s
        (laid ks (suc c) (words_end w k) (first_named c d k (next_named d k ds)) (omega arith) (omega arith) (others c w d ds k ks s a)
        (stray_end c w k ks s.stray e) r)

    -- cell 1
    record Top (k : Cell) : Type 0 where
      kind_one : k.kind ≡ 1
      position_zero : k.position ≡ 0
      next_zero : k.next ≡ 0
      known : k.id < T

    top_facts : (w : ℕ) (d : Named) (ds : List Named) (k : Cell) (ks : List Cell) → Keeps T ws n 1 w d ds k ks → Top k
    unfolding top_broken id_broken
    top_facts w d ds k ks h =
        let (a, b) = neither (not (eqb k.kind 1)) _ h.top in
        let (x, y) = neither (not (eqb k.position 0)) (not (eqb k.next 0)) b in
        let one = not-false _ a in
        record {
          kind_one = eqb-true k.kind 1 one;
          position_zero = eqb-true k.position 0 (not-false _ x);
          next_zero = eqb-true k.next 0 (not-false _ y);
          known = leb-false T k.id (rw (one, id_broken) at h.ids);
        }

    top_stray : (k : Cell) (ks : List Cell) → is_part k ≡ false → stray_broken ws 1 k ks ≡ false → any_part ks ≡ false → words_end 0 k ≡ length ws
    unfolding stray_broken words_end
    top_stray k ks p h e = go (is_part k) p (rw e at h)
      where
        go : (p : Bool) → p ≡ false → (true && elim p [ true ↦ not (eqb (k.first + k.count) (length ws)) | false ↦ true && not (eqb (length ws) 0) ]) ≡ false
            → elim p [ true ↦ k.first + k.count | false ↦ 0 ] ≡ length ws
        go true e h = absurd (true≢false e)
        go false e h = sym (eqb-true (length ws) 0 (not-false _ h))

    no_next : (d : Named) (k : Cell) (ds : List Named) → k.next ≡ 0 → next_named d k ds ≡ ds
    unfolding next_named
    no_next d k ds e = rw (eq-eqb k.next 0 e, next_named)

    -- the children of cell 1
    top_grown : (S : ℕ) (k : Cell) (ks : List Cell) → S ≤ 4294967295 → suc (length ks) ≡ n → Keeps T ws n 1 0 (top_named S) [] k ks
        → lowest_from T ws n 2 (words_end 0 k) (first_named 1 (top_named S) k (next_named (top_named S) k [])) ks ≡ 0
        → Grown T ws n 2 0 (S + k.position) (S + k.position + 0) 4294967295 k.first (words_of ks) (chains 2 ks) (Laid T ws n [])
    unfolding top_named
    top_grown S k ks fits q h r =
        let t = top_facts 0 (top_named S) [] k ks h in
        let p : is_part k ≡ false = ne_eqb k.kind 2 (λ e. omega (arith, t.kind_one)) in
        let all =
        laid ks 2 (words_end 0 k) (first_named 1 (top_named S) k (next_named (top_named S) k [])) (omega arith) (omega arith)
        (others 1 0 (top_named S) [] k ks h (record { from = omega arith; to = omega arith; rest = tt })) (top_stray k ks p h.stray) r in
        let a = subst (λ l. Laid T ws n (first_named 1 (top_named S) k l) 2 (words_end 0 k) (words_of ks) (chains 2 ks)) (no_next (top_named S) k [] t.next_zero) all in
        let b = subst (λ y. Laid T ws n (first_named 1 (top_named S) k []) 2 y (words_of ks) (chains 2 ks)) (end_tree 0 k p) a in
        grown_first T ws n 1 0 (top_named S) k [] (words_of ks) (chains 2 ks) 4294967295 p (omega (arith, t.position_zero)) refl b

relative_absolute : (q : ℕ) (ts : Trees) → relative q (absolute q ts) ≡ ts
unfolding relative absolute
relative_absolute q nil = refl
relative_absolute q (tree t s l kids rest) =
    let a : (q + s) - q ≡ s = omega arith in
    rw (a, relative_absolute (q + s) kids, relative_absolute q rest)
relative_absolute q (part s l ws rest) =
    let a : (q + s) - q ≡ s = omega arith in
    rw (a, relative_absolute q rest)

top_cells : (k : Cell) (kids : Trees) (rest : List ℕ) → k.kind ≡ 1 → k.position ≡ 0 → k.next ≡ 0 → k.count ≡ siblings kids → k.first ≡ unless_none kids 2
    → rest ≡ cells 2 0 kids ++ []
    → k.kind ∷ k.id ∷ k.position ∷ k.len ∷ k.first ∷ k.count ∷ k.next ∷ rest ≡ cells 1 0 (tree (Some k.id) 0 k.len kids nil)
unfolding cells unless_none kind id_word
top_cells k kids rest a b c d e f = rw (a, b, c, d, e, f)

no_words : words_of [] ≡ []
unfolding words_of
no_words = refl

whole_packed : (t : Option ℕ) (l : ℕ) (kids : Trees) → packed (tree t 0 l kids nil) ≡ packed kids
unfolding packed
whole_packed t l kids = append-nil (packed kids)

-- The tree of accepted cells.
module _ (T S : ℕ) (ws : List ℕ) (short : Short ws) (fits : S ≤ 4294967295) where
  whole : (k : Cell) (ks : List Cell) (n : ℕ) → suc (length ks) ≡ n → Keeps T ws n 1 0 (top_named S) [] k ks
      → lowest_from T ws n 2 (words_end 0 k) (first_named 1 (top_named S) k (next_named (top_named S) k [])) ks ≡ 0
      → Kept T (4294967295 - S) (words_of (k ∷ ks)) ws
  unfolding words_of relative counted
  whole k ks n q h r =
      let t = top_facts T ws n short 0 (top_named S) [] k ks h in
      let p : is_part k ≡ false = ne_eqb k.kind 2 (λ e. omega (arith, t.kind_one)) in
      let F = top_grown T ws n short S k ks fits q h r in
      let kids = F.trees in
      let start : S + k.position ≡ S = omega (arith, t.position_zero) in
      let low : S + k.position + 0 ≡ S = omega (arith, t.position_zero) in
      let sound : Sound T S 4294967295 (absolute S kids) =
      subst (λ y. Sound T y 4294967295 (absolute S kids)) low (subst (λ y. Sound T (S + k.position + 0) 4294967295 (absolute y kids)) start F.sound) in
      let inside : siblings kids ≡ chain 1 k.first (chains 2 ks) =
      link_chain T ws n 1 0 k.first kids (chains 2 ks) F.link F.count in
      let counts : k.count ≡ siblings kids = count_tree 1 k (chains 2 ks) p h.counts ∙ sym inside in
      let same = relative_absolute 0 kids in
      let ends : F.later ≡ [] = F.rest.0 in
      record {
        top = k.id;
        length = k.len;
        kids = absolute 0 kids;
        known = t.known;
        sound = subst (λ u. Sound T 0 (4294967295 - S) (absolute 0 u)) (relative_absolute S kids) (sound_counted T S 4294967295 (absolute S kids) sound);
        cells_are =
            top_cells k kids (words_of ks) t.kind_one t.position_zero t.next_zero counts F.link (F.cells_are ∙ ap (λ r. cells 2 0 kids ++ r) ends)
            ∙ ap (λ y. cells 1 0 (tree (Some k.id) 0 k.len y nil)) (sym same);
        words_are =
            F.words_are ∙ (ap (λ r. packed kids ++ r) F.rest.1 ∙ (append-nil (packed kids) ∙ (ap packed (sym same) ∙ packed_relative 0 (absolute 0 kids))));
      }

  accepted_cells : (ks : List Cell) → (words_of ks ≡ [] → ⊥) → lowest_from T ws (length ks) 1 0 (top_named S ∷ []) ks ≡ 0 → Kept T (4294967295 - S) (words_of ks) ws
  accepted_cells [] ne h = absurd (ne no_words)
  accepted_cells (k ∷ ks) ne h =
      let n = length (k ∷ ks) in
      let (b, r) = accepted_step T ws n 1 0 (top_named S) [] k ks (omega arith) h in
      whole k ks n refl (keeps T ws n 1 0 (top_named S) [] k ks b) r

  -- Accepted cells and words are those of a tree that keeps the rules.
  pub accepted_kept : (cs : List ℕ) → bad_cell T S cs ws ≡ None → Kept T (4294967295 - S) cs ws
  unfolding bad_cell
  accepted_kept cs h =
      let (a, b) = outer (eqb (length cs) 0 || not (eqb (length cs % cell_width) 0)) _ h in
      let (x, y) = neither (eqb (length cs) 0) (not (eqb (length cs % cell_width) 0)) a in
      let seven : length cs % cell_width ≡ 0 = eqb-true (length cs % cell_width) 0 (not-false _ y) in
      let same = words_cells cs seven in
      let some_cells : words_of (cells_of cs) ≡ [] → ⊥ = λ e. eqb-false (length cs) 0 x (ap length (sym same ∙ e)) in
      subst (λ l. Kept T (4294967295 - S) l ws) same (accepted_cells (cells_of cs) some_cells b)
    where
      inner : (n : ℕ) → ◌≡◌ {A = Option ℕ} (elim n [ zero ↦ None | suc c ↦ Some (suc c) ]) None → n ≡ 0
      inner zero h = refl
      inner (suc c) h = absurd (none-some (suc c) (sym h))

      outer : (b : Bool) (n : ℕ) → ◌≡◌ {A = Option ℕ} (elim b [ true ↦ Some 0 | false ↦ elim n [ zero ↦ None | suc c ↦ Some (suc c) ] ]) None → (b ≡ false) × (n ≡ 0)
      outer true n h = absurd (none-some 0 (sym h))
      outer false n h = (refl, inner n h)

  -- Accepted cells are the cells of the tree that they are read as, and its words are the packed words.
  pub accepted_decode : (cs : List ℕ) → bad_cell T S cs ws ≡ None → (cells 1 0 (decode ws cs) ≡ cs) × (packed (decode ws cs) ≡ ws)
  accepted_decode cs h =
      let k = accepted_kept cs h in
      let e = kept_decode T (4294967295 - S) cs ws k in
      let t = tree (Some k.top) 0 k.length k.kids nil in
      (ap (cells 1 0) e ∙ sym k.cells_are, ap packed e ∙ (packed_relative 0 t ∙ (whole_packed (Some k.top) k.length k.kids ∙ sym k.words_are)))

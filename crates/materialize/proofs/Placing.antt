-- One cell more, from the last one back: a tree takes its children from the siblings after it, a part is unpacked before them.
-- Assumes nothing.
use mathlib.Core.Path.{◌≡◌, refl, sym, ap, subst, ◌∙◌}
use mathlib.Core.Bool.{true, false, cond}
use mathlib.Core.List.{List}
use Rattle.std.specs.Prelude.{Option, None, Some}
use mathlib.Core.Logic.{◌⊎◌, inl, inr}
use Prim.Native.Nat.{ℕ, suc, ◌+◌, ◌-◌, ◌*◌, ◌/◌, ◌≤◌, ◌<◌}
use native.Mathlib.Decide.{dec_le}
use native.Mathlib.Omega.{arith}
use borrow.Author.Tests.{le-ltb, lt-ltb, ne_eqb}
use lib.Dec.{eqb, ltb}
use lib.ListN.{length, get_or, set, drop, length-set, length-drop}
use lib.Seq.{get_or-set_same, get_or-set_other, length-take-le}
use Rattle.tree.specs.Trees.{Trees, tree, part, ◌⊕◌, siblings}
use Rattle.tree.specs.Cells.{kind, id_word, leading, following, cell_tree, cell_width, cell_kind, cell_id, cell_position, cell_length, cell_first, cell_count, part_at}
use Rattle.tree.proofs.CellLaws.{decode_at}
use Rattle.materialize.specs.Steps.{Made, Taken, Put, Packed, Unpacked, unpacked, weight, cells_before, ahead, At, PartFits, trees_left, NextCell, NextPart, Wrote}
use Rattle.materialize.proofs.Written.{siblings-⊕, siblings_nodes}
use Rattle.materialize.proofs.Unpacking.{same_room}
use Rattle.materialize.proofs.Finishing.{before_more}
use Rattle.materialize.proofs.Reading.{unpacked-⊕, leading_following, siblings_following, following_all, marks_following, marks_frame, mark_at}

-- the type that a cell's kind and id stand for
kind_of : (k i : ℕ) → (k ≡ 1) ⊎ ((k ≡ 3) × (i ≡ 0)) → (k ≡ kind (elim (eqb k 3) [ true ↦ None | false ↦ Some i ])) × (i ≡ id_word (elim (eqb k 3) [ true ↦ None | false ↦ Some i ]))
unfolding kind id_word
kind_of k i (inl x) = subst (λ (y : ℕ). (y ≡ kind (elim (eqb y 3) [ true ↦ None | false ↦ Some i ])) × (i ≡ id_word (elim (eqb y 3) [ true ↦ None | false ↦ Some i ]))) (sym x) (refl, refl)
kind_of k i (inr (x, z)) = subst (λ (y : ℕ). (y ≡ kind (elim (eqb y 3) [ true ↦ None | false ↦ Some i ])) × (i ≡ id_word (elim (eqb y 3) [ true ↦ None | false ↦ Some i ]))) (sym x) (refl, z)

module _ (roots marks out cs ws : List ℕ) (i cell sp mp : ℕ) (a : At roots marks out cs ws (length roots) (i + 1) cell sp mp) (inside : i * cell_width + cell_width ≤ length cs) where
  abbrev ds : Trees
  ds = ahead cs ws (i + 1)

  abbrev n : ℕ
  n = cell_count cs i

  here : ahead cs ws i ≡ cell_tree ws (cell_kind cs i) (cell_id cs i) (cell_position cs i) (cell_length cs i) (cell_first cs i) n ds
  here = decode_at ws cs i (length cs / cell_width) (omega arith)

  few : mp + (i + 1) ≤ length cs / cell_width
  few = a.few

  -- a tree
  module _ (other : cell_kind cs i ≡ 2 → ⊥) where
    abbrev t : Option ℕ
    t = elim (eqb (cell_kind cs i) 3) [ true ↦ None | false ↦ Some (cell_id cs i) ]

    abbrev left : ℕ
    left = mp - n

    abbrev kept : ℕ
    kept = trees_left marks sp mp left

    tree_here : ahead cs ws i ≡ tree t (cell_position cs i) (cell_length cs i) (leading ds n) (following ds n)
    unfolding cell_tree
    tree_here = here ∙ rw (ne_eqb (cell_kind cs i) 2 other, cell_tree)

    pub cut : unpacked ds ≡ unpacked (leading ds n) ⊕ unpacked (following ds n)
    cut = ap unpacked (sym (leading_following ds n)) ∙ unpacked-⊕ (leading ds n) (following ds n)

    pub one_more : cell ≡ cells_before cs i + 1
    unfolding weight
    one_more = a.before ∙ before_more cs i ∙ ap (λ (x : ℕ). cells_before cs i + x) (rw (ne_eqb (cell_kind cs i) 2 other))

    pub kept_is : siblings (unpacked (following ds n)) ≡ kept
    unfolding trees_left
    kept_is = go (dec_le mp left)
      where
        go : Dec (mp ≤ left) → siblings (unpacked (following ds n)) ≡ cond (ltb left mp) (get_or marks left 0) sp
        go (yes h) = rw (le-ltb left mp h) (ap (λ x. siblings (unpacked x)) (following_all ds n (omega (arith, a.kept))) ∙ a.all)
        go (no h) =
            let l : left < mp = omega arith in
            let e : siblings ds - n ≡ left = omega (arith, a.kept) in
            rw (lt-ltb left mp l) (sym (mark_at marks ds n a.marked (omega (arith, a.kept))) ∙ ap (λ (x : ℕ). get_or marks x 0) e)

    abbrev pub tree_taken : Taken roots out (cell - 1) kept sp
    tree_taken =
        let e : cell ≡ suc (cell - 1) = omega (arith, one_more) in
        record {
          total = length roots;
          kids = unpacked (leading ds n);
          rest = unpacked (following ds n);
          made = subst (λ (x : ℕ). Made roots out (length roots) x (unpacked (leading ds n) ⊕ unpacked (following ds n))) e (subst (Made roots out (length roots) cell) cut a.made);
          room = a.room;
          left = kept_is;
          all = ap siblings (sym cut) ∙ a.all;
        }

    pub kept_few : kept < length roots
    kept_few = omega (arith, kept_is, siblings_nodes (unpacked (following ds n)), siblings_nodes (unpacked ds), siblings-⊕ (unpacked (leading ds n)) (unpacked (following ds n)), ap siblings cut, a.made.size, one_more)

    module _ (roots₂ out₂ : List ℕ) (p : Put roots roots₂ out out₂ (cell - 1) kept sp (cell_kind cs i) (cell_id cs i) (cell_position cs i) (cell_length cs i))
        (h₂ : length roots₂ ≡ length roots) (o₂ : length out₂ ≡ length out)
        (kinds : (cell_kind cs i ≡ 1) ⊎ ((cell_kind cs i ≡ 3) × (cell_id cs i ≡ 0))) where
      abbrev marks₂ : List ℕ
      marks₂ = set marks left kept

      kind_is : (cell_kind cs i ≡ kind t) × (cell_id cs i ≡ id_word t)
      kind_is = kind_of (cell_kind cs i) (cell_id cs i) kinds

      left_is : siblings (following ds n) ≡ left
      left_is = siblings_following ds n ∙ omega (arith, a.kept)

      pub tree_placed : At roots₂ marks₂ out₂ cs ws (length roots) i (cell - 1) (kept + 1) (left + 1)
      unfolding unpacked siblings
      tree_placed = record {
        made = rw tree_here (p.made tree_taken t kind_is.0 kind_is.1);
        marked = rw tree_here (record {
          at = rw left_is (get_or-set_same marks left kept 0 (omega (arith, a.deep)) ∙ sym kept_is);
          after = marks_frame marks marks₂ (following ds n) (λ j x. get_or-set_other marks left j kept 0 (λ e. omega (arith, left_is)))
              (marks_following marks ds n a.marked);
        });
        all = rw tree_here (omega (arith, kept_is));
        kept = rw tree_here (omega (arith, left_is));
        few = omega (arith, few);
        before = omega (arith, one_more);
        room = same_room roots roots₂ out out₂ (length roots) h₂ o₂ a.room;
        deep = omega (arith, a.deep, length-set marks left kept);
      }

  -- a part
  module _ (is : cell_kind cs i ≡ 2) (fits : PartFits cs ws i) (ps : List ℕ) (part_is : ps ≡ part_at cs ws i) where
    abbrev pos : ℕ
    pos = cell_position cs i

    abbrev first : ℕ
    first = cell - n / 4

    part_here : ahead cs ws i ≡ part pos (cell_length cs i) ps ds
    unfolding cell_tree
    part_here = here ∙ rw (is, part_is)

    pub long : length ps ≡ n
    long = ap length part_is ∙ length-take-le n (drop (cell_first cs i) ws) (omega (arith, fits.inside, length-drop (cell_first cs i) ws))

    pub more : cell ≡ cells_before cs i + n / 4
    unfolding weight
    more = a.before ∙ before_more cs i ∙ ap (λ (x : ℕ). cells_before cs i + x) (rw is)

    abbrev pub part_packed : Packed roots out first pos sp ps
    part_packed =
        let e : cell ≡ first + length ps / 4 = omega (arith, more, long) in
        record {
          total = length roots;
          rest = unpacked ds;
          made = subst (λ (x : ℕ). Made roots out (length roots) x (unpacked ds)) e a.made;
          room = a.room;
          all = a.all;
          starts = rw part_is fits.starts;
        }

    pub sp_few : sp ≤ length roots
    sp_few = omega (arith, a.all, siblings_nodes (unpacked ds), a.made.size)

    module _ (roots₂ out₂ : List ℕ) (r : ℕ) (u : Unpacked roots roots₂ out out₂ first pos sp ps r) (h₂ : length roots₂ ≡ length roots) (o₂ : length out₂ ≡ length out) where
      abbrev marks₃ : List ℕ
      marks₃ = set marks mp sp

      pub part_placed : At roots₂ marks₃ out₂ cs ws (length roots) i first r (mp + 1)
      unfolding unpacked siblings
      part_placed = record {
        made = rw part_here (u.made part_packed);
        marked = rw part_here (record {
          at = rw a.kept (get_or-set_same marks mp sp 0 (omega (arith, a.deep)) ∙ sym a.all);
          after = marks_frame marks marks₃ ds (λ j x. get_or-set_other marks mp j sp 0 (λ e. omega (arith, a.kept))) a.marked;
        });
        all = rw part_here (u.left part_packed);
        kept = rw part_here (omega (arith, a.kept));
        few = omega (arith, few);
        before = omega (arith, more);
        room = same_room roots roots₂ out out₂ (length roots) h₂ o₂ a.room;
        deep = omega (arith, a.deep, length-set marks mp sp);
      }

-- the same for numbers that the code has found
module _ {roots marks out cs : List ℕ} {i cell sp mp : ℕ} (p : NextCell roots marks out cs i cell sp mp) {left kept : ℕ} (left_is : left ≡ mp - cell_count cs i) (kept_is : kept ≡ trees_left marks sp mp left) where
  pub tree_ready : Taken roots out (cell - 1) kept sp
  tree_ready = rw (kept_is, left_is) (tree_taken roots marks out cs p.ws i cell sp mp p.at p.inside p.other)

  pub tree_few : (kept < 4294967295) × (1 ≤ cell)
  tree_few =
      rw (kept_is, left_is) (
        omega (arith, kept_few roots marks out cs p.ws i cell sp mp p.at p.inside p.other, p.at.room.few),
        omega (arith, one_more roots marks out cs p.ws i cell sp mp p.at p.inside p.other),
      )

  pub tree_wrote : {roots₂ out₂ : List ℕ} → Put roots roots₂ out out₂ (cell - 1) kept sp (cell_kind cs i) (cell_id cs i) (cell_position cs i) (cell_length cs i)
      → length roots₂ ≡ length roots → length out₂ ≡ length out
      → (ws : List ℕ) → Wrote roots roots₂ marks (set marks left kept) out out₂ cs ws i cell sp mp (cell - 1) (kept + 1) (left + 1)
  tree_wrote {roots₂} {out₂} u h o ws =
      let q = rw (kept_is, left_is) at u in
      rw (kept_is, left_is) (record {
        at = λ a. tree_placed roots marks out cs ws i cell sp mp a p.inside p.other roots₂ out₂ q h o p.typed;
        behind = λ a. q.out_behind (tree_taken roots marks out cs ws i cell sp mp a p.inside p.other);
      })

module _ {roots marks out cs ws : List ℕ} {i cell sp mp : ℕ} (p : NextPart roots marks out cs ws i cell sp mp) {ps : List ℕ} (part_is : ps ≡ part_at cs ws i) where
  pub part_ready : Packed roots out (cell - cell_count cs i / 4) (cell_position cs i) sp ps
  part_ready = part_packed roots marks out cs ws i cell sp mp p.at p.inside p.is p.fits ps part_is

  pub part_few : (sp ≤ 4294967295) × (cell_count cs i / 4 ≤ cell)
  part_few = (
    omega (arith, sp_few roots marks out cs ws i cell sp mp p.at p.inside p.is p.fits ps part_is, p.at.room.few),
    omega (arith, more roots marks out cs ws i cell sp mp p.at p.inside p.is p.fits ps part_is),
  )

  pub part_wrote : {roots₂ out₂ : List ℕ} {r : ℕ} → Unpacked roots roots₂ out out₂ (cell - cell_count cs i / 4) (cell_position cs i) sp ps r
      → length roots₂ ≡ length roots → length out₂ ≡ length out
      → Wrote roots roots₂ marks (set marks mp sp) out out₂ cs ws i cell sp mp (cell - cell_count cs i / 4) r (mp + 1)
  part_wrote {roots₂} {out₂} {r} u h o = record {
    at = λ a. part_placed roots marks out cs ws i cell sp mp a p.inside p.is p.fits ps part_is roots₂ out₂ r u h o;
    behind = λ a. u.out_behind (part_packed roots marks out cs ws i cell sp mp a p.inside p.is p.fits ps part_is);
  }

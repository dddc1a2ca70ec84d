-- The loop over all cells: what stands in the output at its end, and how many cells there are. Assumes nothing.
use mathlib.Core.Path.{◌≡◌, refl, sym, ap, ap₂, subst, ◌∙◌}
use mathlib.Core.List.{List, [], ◌∷◌, ◌++◌, append_assoc}
use Prim.Native.Nat.{ℕ, zero, suc, ◌+◌, ◌-◌, ◌*◌, ◌/◌, ◌≤◌, ◌<◌}
use native.Mathlib.Decide.{ℕ_discrete}
use native.Mathlib.Omega.{arith}
use native.Mathlib.Nat.{add-zero}
use native.Mathlib.Numerals.{add-one}
use borrow.Author.Tests.{ne_eqb}
use lib.ListN.{length, get_or, drop, length-drop}
use lib.Seq.{length-take-le, drop-cons}
use Rattle.words.specs.Words.{front}
use Rattle.tree.specs.Trees.{Trees, nil, tree, part, ◌⊕◌, nodes, siblings}
use Rattle.tree.specs.Cells.{kind, id_word, packed, cells, cell, unless_none, cell_tree, decode_from, leading, following, cell_width, id_place, position_place, length_place, first_place, count_place, next_place, cell_kind, cell_id, cell_position, cell_length, cell_first, cell_count, cell_next, part_at}
use Rattle.tree.proofs.CellLaws.{decode_at, length_cells}
use Rattle.tree.proofs.PackLaws.{nodes-⊕}
use Rattle.materialize.specs.Steps.{leads, Out, Made, Behind, unpacked, weight, cells_before, ahead, At, PartFits, Ready}
use Rattle.materialize.proofs.Reading.{unpacked-⊕, leading_following, nodes_so_far}

leads_unless : (ts : Trees) (c : ℕ) → leads ts c 0 ≡ unless_none ts (suc c)
unfolding leads unless_none
leads_unless nil c = refl
leads_unless (tree t s l kids rest) c = refl
leads_unless (part s l ws rest) c = refl

-- seven words from a cell on
seven_at : (o : List ℕ) (c : ℕ) → c * cell_width + cell_width ≤ length o
    → drop (c * cell_width) o ≡ cell (cell_kind o c) (cell_id o c) (cell_position o c) (cell_length o c) (cell_first o c) (cell_count o c) (cell_next o c) ++ drop (suc c * cell_width) o
seven_at o c l =
    let a₁ : suc (c * cell_width) ≡ c * cell_width + id_place = omega arith in
    let a₂ : suc (c * cell_width + id_place) ≡ c * cell_width + position_place = omega arith in
    let a₃ : suc (c * cell_width + position_place) ≡ c * cell_width + length_place = omega arith in
    let a₄ : suc (c * cell_width + length_place) ≡ c * cell_width + first_place = omega arith in
    let a₅ : suc (c * cell_width + first_place) ≡ c * cell_width + count_place = omega arith in
    let a₆ : suc (c * cell_width + count_place) ≡ c * cell_width + next_place = omega arith in
    let a₇ : suc (c * cell_width + next_place) ≡ suc c * cell_width = omega arith in
    drop-cons o (c * cell_width) 0 (omega arith)
    ∙ ap (λ (r : List ℕ). cell_kind o c ∷ r) (ap (λ (k : ℕ). drop k o) a₁ ∙ drop-cons o (c * cell_width + id_place) 0 (omega arith)
    ∙ ap (λ (r : List ℕ). cell_id o c ∷ r) (ap (λ (k : ℕ). drop k o) a₂ ∙ drop-cons o (c * cell_width + position_place) 0 (omega arith)
    ∙ ap (λ (r : List ℕ). cell_position o c ∷ r) (ap (λ (k : ℕ). drop k o) a₃ ∙ drop-cons o (c * cell_width + length_place) 0 (omega arith)
    ∙ ap (λ (r : List ℕ). cell_length o c ∷ r) (ap (λ (k : ℕ). drop k o) a₄ ∙ drop-cons o (c * cell_width + first_place) 0 (omega arith)
    ∙ ap (λ (r : List ℕ). cell_first o c ∷ r) (ap (λ (k : ℕ). drop k o) a₅ ∙ drop-cons o (c * cell_width + count_place) 0 (omega arith)
    ∙ ap (λ (r : List ℕ). cell_count o c ∷ r) (ap (λ (k : ℕ). drop k o) a₆ ∙ drop-cons o (c * cell_width + next_place) 0 (omega arith)
    ∙ ap (λ (r : List ℕ). cell_next o c ∷ r) (ap (λ (k : ℕ). drop k o) a₇)))))))

-- the words of siblings are their cells
out_cells : (o : List ℕ) (c w : ℕ) (ts : Trees) → (c + nodes ts) * cell_width ≤ length o → Out o c 0 ts → drop (c * cell_width) o ≡ cells (suc c) w ts ++ drop ((c + nodes ts) * cell_width) o
unfolding nodes cells
out_cells o c w nil l h = ap (λ (k : ℕ). drop (k * cell_width) o) (sym (add-zero c))
out_cells o c w (tree t s m kids rest) l h =
    let d : ℕ = c + suc (nodes kids) in
    let w' : ℕ = w + length (packed kids) in
    let first = h.first_at ∙ leads_unless kids (suc c) in
    let next = h.next_at ∙ leads_unless rest d in
    let a = out_cells o (suc c) w kids (omega arith) h.inner in
    let b = out_cells o d w' rest (omega arith) h.after in
    let e : suc c + nodes kids ≡ d = omega arith in
    let f : d + nodes rest ≡ c + suc (nodes kids + nodes rest) = omega arith in
    let g : suc d ≡ suc c + suc (nodes kids) = omega arith in
    seven_at o c (omega arith)
    ∙ rw (h.kind_at, h.id_at, h.start_at, h.length_at, first, h.count_at, next, g) (
    ap (λ (r : List ℕ). cell (kind t) (id_word t) s m (unless_none kids (suc (suc c))) (siblings kids) (unless_none rest (suc c + suc (nodes kids))) ++ r)
    (a ∙ ap (λ (r : List ℕ). cells (suc (suc c)) w kids ++ r) (ap (λ (k : ℕ). drop (k * cell_width) o) e ∙ b)
    ∙ sym (append_assoc (cells (suc (suc c)) w kids) (cells (suc d) w' rest) (drop ((d + nodes rest) * cell_width) o))
    ∙ ap₂ (λ (x y : ℕ). (cells (suc (suc c)) w kids ++ cells x w' rest) ++ drop (y * cell_width) o) g f))
out_cells o c w (part s m ws rest) l h = absurd h

same_from : (k : ℕ) (a b : List ℕ) → length a ≡ length b → ((j : ℕ) → k ≤ j → get_or a j 0 ≡ get_or b j 0) → drop k a ≡ drop k b
same_from k [] [] e f = refl
same_from k [] (y ∷ b) e f = absurd (omega arith)
same_from k (x ∷ a) [] e f = absurd (omega arith)
same_from zero (x ∷ a) (y ∷ b) e f = ap₂ ◌∷◌ (f 0 (omega arith)) (same_from zero a b (omega arith) (λ j h. f (suc j) (omega arith)))
same_from (suc k) (x ∷ a) (y ∷ b) e f = same_from k a b (omega arith) (λ j h. f (suc j) (omega arith))

-- all cells are written
pub record Writing (roots₀ roots marks out₀ out cs ws : List ℕ) (i cell sp mp : ℕ) : Type 0 where
  pub few : i * cell_width ≤ length cs
  pub out_size : length out ≡ length out₀
  pub at : At roots marks out cs ws (length roots₀) i cell sp mp
  pub behind : Behind (length roots₀ * cell_width) out₀ out

pub writing_start : {roots marks out cs ws : List ℕ} → Ready roots marks out cs ws → Writing roots roots marks out out cs ws (length cs / cell_width) (length roots) 0 0
unfolding decode_from unpacked nodes siblings
writing_start {roots} {marks} {out} {cs} {ws} p =
    let e : length cs / cell_width - length cs / cell_width ≡ 0 = omega arith in
    let z : ahead cs ws (length cs / cell_width) ≡ nil = ap (λ (k : ℕ). decode_from ws k (drop (length cs / cell_width * cell_width) cs)) e in
    record {
      few = omega arith;
      out_size = refl;
      at = record {
        made = rw z (record { cells = tt; roots = tt; size = omega arith });
        marked = rw z tt;
        all = rw z;
        kept = rw z;
        few = omega arith;
        before = p.total_is;
        room = p.room;
        deep = p.deep;
      };
      behind = record { same = λ j h. refl };
    }

pub writing_end : {roots₀ roots marks out₀ out cs ws : List ℕ} {i cell sp mp : ℕ} → Writing roots₀ roots marks out₀ out cs ws i cell sp mp → i ≤ 0
    → out ≡ front (cells 1 0 (unpacked (ahead cs ws 0))) out₀
unfolding cells_before
writing_end {roots₀} {roots} {marks} {out₀} {out} {cs} {ws} {i} {cell} {sp} {mp} v l =
    let z : i ≡ 0 = omega arith in
    let total : ℕ = length roots₀ in
    let a : At roots marks out cs ws total 0 cell sp mp = subst (λ (k : ℕ). At roots marks out cs ws total k cell sp mp) z v.at in
    let ts = unpacked (ahead cs ws 0) in
    let m : Made roots out total 0 ts = subst (λ (k : ℕ). Made roots out total k ts) a.before a.made in
    let off : (0 + nodes ts) * cell_width ≡ total * cell_width = omega (arith, m.size) in
    let len : length (cells 1 0 ts) ≡ total * cell_width = length_cells 1 0 ts ∙ omega (arith, m.size) in
    out_cells out 0 0 ts (omega (arith, m.size, a.room.wide)) m.cells
    ∙ ap (λ (r : List ℕ). cells 1 0 ts ++ r) (ap (λ (k : ℕ). drop k out) off ∙ same_from (total * cell_width) out out₀ v.out_size (λ j h. v.behind.same j h)
    ∙ ap (λ (k : ℕ). drop k out₀) (sym len))

-- how many cells come of all
before_mono : (cs : List ℕ) (i n : ℕ) → i ≤ n → cells_before cs i ≤ cells_before cs n
unfolding cells_before
before_mono cs i zero h = let e : i ≡ 0 = omega arith in rw e (omega arith)
before_mono cs i (suc n) h = go (before_mono cs i n) (ℕ_discrete i (suc n))
  where
    go : (i ≤ n → cells_before cs i ≤ cells_before cs n) → Dec (i ≡ suc n) → cells_before cs i ≤ cells_before cs n + weight (cell_kind cs n) (cell_count cs n)
    go more (yes e) = rw e (omega arith)
    go more (no e) = omega (arith, more (omega arith))

pub before_more : (cs : List ℕ) (i : ℕ) → cells_before cs (i + 1) ≡ cells_before cs i + weight (cell_kind cs i) (cell_count cs i)
unfolding cells_before
before_more cs i = rw (add-one i)

-- one more cell counts to all
pub before_all : (cs : List ℕ) (i n : ℕ) → i < n → cells_before cs i + weight (cell_kind cs i) (cell_count cs i) ≤ cells_before cs n
before_all cs i n l = omega (arith, before_more cs i, before_mono cs (i + 1) n (omega arith))

module _ (cs ws : List ℕ) (parts : (i : ℕ) → i * cell_width + cell_width ≤ length cs → cell_kind cs i ≡ 2 → PartFits cs ws i) where
  one_cell : (i : ℕ) → i < length cs / cell_width → nodes (unpacked (ahead cs ws i)) ≡ weight (cell_kind cs i) (cell_count cs i) + nodes (unpacked (ahead cs ws (i + 1)))
  unfolding cell_tree weight unpacked nodes
  one_cell i l = ap (λ x. nodes (unpacked x)) (decode_at ws cs i (length cs / cell_width) l) ∙ go (ℕ_discrete (cell_kind cs i) 2)
    where
      n : ℕ
      n = cell_count cs i

      ds : Trees
      ds = ahead cs ws (i + 1)

      go : Dec (cell_kind cs i ≡ 2)
          → nodes (unpacked (cell_tree ws (cell_kind cs i) (cell_id cs i) (cell_position cs i) (cell_length cs i) (cell_first cs i) (cell_count cs i) (ahead cs ws (i + 1))))
          ≡ weight (cell_kind cs i) (cell_count cs i) + nodes (unpacked (ahead cs ws (i + 1)))
      go (yes e) =
          let f = parts i (omega arith) e in
          rw (e, weight, cell_tree) (nodes_so_far (cell_position cs i) (part_at cs ws i) (unpacked (ahead cs ws (i + 1)))
          ∙ omega (arith, length-take-le (cell_count cs i) (drop (cell_first cs i) ws) (omega (arith, f.inside, length-drop (cell_first cs i) ws))))
      go (no e) =
          let a : unpacked (ahead cs ws (i + 1)) ≡ unpacked (leading (ahead cs ws (i + 1)) (cell_count cs i)) ⊕ unpacked (following (ahead cs ws (i + 1)) (cell_count cs i)) =
          ap unpacked (sym (leading_following (ahead cs ws (i + 1)) (cell_count cs i))) ∙ unpacked-⊕ (leading (ahead cs ws (i + 1)) (cell_count cs i)) (following (ahead cs ws (i + 1)) (cell_count cs i)) in
          rw (ne_eqb (cell_kind cs i) 2 e, weight, cell_tree) (omega (arith, ap nodes a, nodes-⊕ (unpacked (leading (ahead cs ws (i + 1)) (cell_count cs i))) (unpacked (following (ahead cs ws (i + 1)) (cell_count cs i)))))

  pub counted : (i : ℕ) → i ≤ length cs / cell_width → cells_before cs i + nodes (unpacked (ahead cs ws i)) ≡ nodes (unpacked (ahead cs ws 0))
  unfolding cells_before
  counted zero l = omega arith
  counted (suc i) l = go (counted i (omega arith)) (one_cell i (omega arith)) (add-one i)
    where
      go : cells_before cs i + nodes (unpacked (ahead cs ws i)) ≡ nodes (unpacked (ahead cs ws 0))
          → nodes (unpacked (ahead cs ws i)) ≡ weight (cell_kind cs i) (cell_count cs i) + nodes (unpacked (ahead cs ws (i + 1)))
          → i + 1 ≡ suc i
          → cells_before cs i + weight (cell_kind cs i) (cell_count cs i) + nodes (unpacked (ahead cs ws (suc i))) ≡ nodes (unpacked (ahead cs ws 0))
      go a b e = omega (arith, a, rw e at b)

  pub counted_all : cells_before cs (length cs / cell_width) ≡ nodes (unpacked (ahead cs ws 0))
  unfolding decode_from unpacked nodes
  counted_all =
      let e : length cs / cell_width - length cs / cell_width ≡ 0 = omega arith in
      let z : ahead cs ws (length cs / cell_width) ≡ nil = ap (λ (k : ℕ). decode_from ws k (drop (length cs / cell_width * cell_width) cs)) e in
      let y : nodes (unpacked (ahead cs ws (length cs / cell_width))) ≡ 0 = ap (λ x. nodes (unpacked x)) z in
      omega (arith, counted (length cs / cell_width) (omega arith), y)

-- What the writer keeps: the cells done stand at the front of the output, and the cells of the list at hand and of the
-- lists on the stack follow them. Assumes nothing.
use mathlib.Core.Path.{◌≡◌, refl, sym, ap, ◌∙◌}
use mathlib.Core.List.{List, [], ◌∷◌, ◌++◌, append_assoc, append-nil}
use mathlib.Core.Bool.{Bool, cond}
use Prim.Native.Nat.{ℕ, suc, ◌+◌, ◌-◌, ◌*◌, ◌≤◌, ◌<◌}
use native.Mathlib.Omega.{arith}
use native.Mathlib.Numerals.{add-one}
use borrow.Author.Tests.{eq-eqb, ne_eqb}
use lib.Dec.{eqb}
use lib.ListN.{length, get_or, take, drop, length-append, length-drop}
use lib.Seq.{paste, ext_get_or, length-take-le, get_or-take, get_or-drop}
use Rattle.tree.specs.Trees.{Trees, nil, tree, part, nodes, siblings}
use Rattle.tree.specs.Balance.{in_set}
use Rattle.tree.specs.Cells.{packed, kind, id_word, tree_cells, unless_none, cell_width}
use Rattle.words.specs.Words.{put, front}
use Rattle.words.proofs.Runs.{Fronted, fronted_length, fronted_next, fronted_all}
use Rattle.store.specs.Store.{likes, stored_kind, Node, Holds, Same, told, Readable, tree_cell, part_cell, Writable, Wrote, PartReady, PartWritten}
use Rattle.words.proofs.Stores.{put_length, put_in, put_before}
use Rattle.store.proofs.Frame.{same_less, same_put, frame, tells_cells, tells_trees, readable}
use Rattle.store.proofs.Unique.{unique}
use Rattle.store.proofs.Types.{no_part_kind, kind_back}
use Rattle.store.proofs.Flow.{Later, end, more, flow, parts, left, flow_nil, flow_tree, flow_part, siblings_few}

-- the pending lists stand on the stack, two words each: the list's address, the parent's start
abbrev pub Stacked : (none_first : Bool) (w : List ℕ) (base top low sp : ℕ) → Later → Type 0
Stacked f w base top low sp end = sp ≡ top
Stacked f w base top low sp (more q ts later) =
    record {
      deep : top + 2 ≤ sp;
      holds : Holds f w base top low (get_or w (sp - 2) 0) ts;
      from : get_or w (sp - 1) 0 ≡ q;
      below : Stacked f w base top low (sp - 2) later;
    }

stacked_above : (f : Bool) (w : List ℕ) (base top low sp : ℕ) (later : Later) → Stacked f w base top low sp later → top ≤ sp
stacked_above f w base top low sp end h = omega arith
stacked_above f w base top low sp (more q ts later) h = omega (arith, h.deep)

stacked_frame : (f : Bool) (w w' : List ℕ) (base top low sp : ℕ) (later : Later) → Same w w' base top low → ((j : ℕ) → j < sp → get_or w' j 0 ≡ get_or w j 0)
    → Stacked f w base top low sp later → Stacked f w' base top low sp later
stacked_frame f w w' base top low sp end s k h = h
stacked_frame f w w' base top low sp (more q ts later) s k h =
    let d = h.deep in
    record {
      deep = d;
      holds = rw (k (sp - 2) (omega arith)) (frame f w w' base top low top low (omega arith) (omega arith) s _ ts h.holds);
      from = k (sp - 1) (omega arith) ∙ h.from;
      below = stacked_frame f w w' base top low (sp - 2) later s (λ j l. k j (omega arith)) h.below;
    }

module _ (w₀ : List ℕ) (top root start : ℕ) (out₀ words₀ : List ℕ) (p : Writable w₀ top root (length out₀) (length words₀)) where
  pub record Going (w out words : List ℕ) (at from sp cell word : ℕ) (now : Trees) (later : Later) : Type 0 where
    pub size : length w ≡ length w₀
    pub holds : Holds p.none_first w p.base top p.low at now
    pub stacked : Stacked p.none_first w p.base top p.low sp later
    pub cells_out : Fronted (tree_cells start p.trees) out₀ out (flow (suc cell) word (more from now later)) (cell * cell_width)
    pub words_out : Fronted (packed p.trees) words₀ words (parts (more from now later)) word
    pub count : cell + left (more from now later) ≡ nodes p.trees
    pub depth : sp ≤ top + 2 * cell
    pub inside : top ≤ sp

  pub going_start : Going w₀ out₀ words₀ root start top 0 0 p.trees end
  unfolding flow parts left tree_cells
  going_start =
      let z : 0 ≡ 0 * cell_width = omega arith in
      record {
        size = refl;
        holds = p.holds;
        stacked = refl;
        cells_out = record { done = []; size = z; joined = append-nil _; holds = ap (λ (k : ℕ). drop k out₀) z };
        words_out = record { done = []; size = refl; joined = append-nil _; holds = refl };
        count = omega arith;
        depth = omega arith;
        inside = omega arith;
      }

-- the number of nodes, as the root's node tells it
pub total : {w₀ : List ℕ} {top root room wide : ℕ} (p : Writable w₀ top root room wide) → told w₀ root 6 ≡ nodes p.trees
total {w₀ = w₀} {top = top} {root = root} p = omega (arith, tells_cells p.none_first w₀ p.base top p.low root p.trees p.holds, p.few)

-- a link to a list
linked : (f : Bool) (w : List ℕ) (base top low n k : ℕ) (ts : Trees) → Holds f w base top low n ts → cond (eqb n 0) 0 k ≡ unless_none ts k
unfolding unless_none
linked f w base top low n k nil h = rw (eq-eqb n 0 h)
linked f w base top low n k (tree t s l kids rest) h = rw (ne_eqb n 0 (λ e. omega (arith, h.node.live)))
linked f w base top low n k (part s l ws rest) h = rw (ne_eqb n 0 (λ e. omega (arith, h.node.live)))

pub record TreeReady (w : List ℕ) (at sp cell low : ℕ) : Type 0 where
  pub kids_read : Readable w (get_or w (at + 4) 0)
  pub few : cell + 2 + told w (get_or w (at + 4) 0) 6 < 4294967296
  pub stack : sp + 2 ≤ length w
  pub above : sp + 2 ≤ low

module _ {w₀ : List ℕ} {top root start : ℕ} {out₀ words₀ : List ℕ} {p : Writable w₀ top root (length out₀) (length words₀)} {w out words : List ℕ} {at from sp cell word : ℕ} where
  few_cells : {now : Trees} {later : Later} → Going w₀ top root start out₀ words₀ p w out words at from sp cell word now later → cell ≤ nodes p.trees
  few_cells g = omega (arith, g.count)

  few_words : {now : Trees} {later : Later} → Going w₀ top root start out₀ words₀ p w out words at from sp cell word now later → word + length (parts (more from now later)) ≡ length (packed p.trees)
  few_words {now = now} {later = later} g =
      let e = ap length g.words_out.joined in
      omega (arith, e, length-append g.words_out.done (parts (more from now later)), g.words_out.size)

  pub out_same : {now : Trees} {later : Later} → Going w₀ top root start out₀ words₀ p w out words at from sp cell word now later → length out ≡ length out₀
  out_same g = fronted_length _ out₀ out _ (cell * cell_width) g.cells_out (omega (arith, few_cells g, p.cells_fit))

  pub words_same : {now : Trees} {later : Later} → Going w₀ top root start out₀ words₀ p w out words at from sp cell word now later → length words ≡ length words₀
  words_same g = fronted_length _ words₀ words _ word g.words_out (omega (arith, few_words g, p.words_fit))

  -- the end: nothing is at hand and nothing is pending
  pub going_end : {now : Trees} {later : Later} → Going w₀ top root start out₀ words₀ p w out words at from sp cell word now later → at ≡ 0 → sp ≡ top → Wrote w₀ top root start out₀ out words₀ words
  unfolding flow parts packed
  going_end {now = nil} {later = end} g z e = record { cells_out = λ f base low ts h. by_cells ts (same f base low ts h); words_out = λ f base low ts h. by_words ts (same f base low ts h) }
    where
      same : (f : Bool) (base low : ℕ) (ts : Trees) → Holds f w₀ base top low root ts → p.trees ≡ ts
      same f base low ts h = unique p.none_first f w₀ p.base top p.low base top low root p.trees ts p.holds h

      by_cells : (ts : Trees) → p.trees ≡ ts → out ≡ front (tree_cells start ts) out₀
      by_cells ts f = fronted_all _ out₀ out _ (cell * cell_width) g.cells_out (flow_nil (suc cell) word from end) ∙ ap (λ (us : Trees). front (tree_cells start us) out₀) f

      by_words : (ts : Trees) → p.trees ≡ ts → words ≡ front (packed ts) words₀
      by_words ts f = fronted_all _ words₀ words _ word g.words_out refl ∙ ap (λ (us : Trees). front (packed us) words₀) f
  going_end {now = nil} {later = more q ts later} g z e = absurd (omega (arith, g.stacked.deep))
  going_end {now = tree t s l kids rest} {later = later} g z e = absurd (omega (arith, g.holds.node.live))
  going_end {now = part s l ws rest} {later = later} g z e = absurd (omega (arith, g.holds.node.live))

  -- a pending list comes to hand
  pub going_pop : {now : Trees} {later : Later} → Going w₀ top root start out₀ words₀ p w out words at from sp cell word now later → at ≡ 0 → (sp ≡ top → ⊥)
      → (top + 2 ≤ sp) × ((ts : Trees) × (rest : Later) × Going w₀ top root start out₀ words₀ p w out words (get_or w (sp - 2) 0) (get_or w (sp - 1) 0) (sp - 2) cell word ts rest)
  unfolding parts packed left nodes
  going_pop {now = nil} {later = end} g z ne = absurd (ne g.stacked)
  going_pop {now = nil} {later = more q ts later} g z ne =
      let d = g.stacked.deep in (
        d,
        (
          ts,
          later,
          rw g.stacked.from (record {
            size = g.size;
            holds = g.stacked.holds;
            stacked = g.stacked.below;
            cells_out = rw (flow_nil (suc cell) word from (more q ts later)) at g.cells_out;
            words_out = g.words_out;
            count = omega (arith, g.count);
            depth = omega (arith, g.depth);
            inside = omega arith;
          }),
        ),
      )
  going_pop {now = tree t s l kids rest} {later = later} g z ne = absurd (omega (arith, g.holds.node.live))
  going_pop {now = part s l ws rest} {later = later} g z ne = absurd (omega (arith, g.holds.node.live))

  roomy : {now : Trees} {later : Later} → Going w₀ top root start out₀ words₀ p w out words at from sp cell word now later → (top ≤ length w) × (top + 2 * nodes p.trees ≤ length w)
  roomy g = (omega (arith, p.free, p.inside, g.size), omega (arith, p.free, p.inside, g.size))

  -- at a node
  pub node_inside : {now : Trees} {later : Later} → Going w₀ top root start out₀ words₀ p w out words at from sp cell word now later → (at ≡ 0 → ⊥) → at + 10 ≤ length w
  node_inside {now = now} g ne = readable p.none_first w p.base top p.low at now (roomy g).0 g.holds ne

  pub cells_left : {now : Trees} {later : Later} → Going w₀ top root start out₀ words₀ p w out words at from sp cell word now later → (at ≡ 0 → ⊥) → cell + 1 ≤ nodes p.trees
  unfolding left nodes
  cells_left {now = nil} {later = later} g ne = absurd (ne g.holds)
  cells_left {now = tree t s l kids rest} {later = later} g ne = omega (arith, g.count)
  cells_left {now = part s l ws rest} {later = later} g ne = omega (arith, g.count)

  pub cell_room : {now : Trees} {later : Later} → Going w₀ top root start out₀ words₀ p w out words at from sp cell word now later → (at ≡ 0 → ⊥) → cell * cell_width + cell_width ≤ length out
  cell_room g ne = omega (arith, cells_left g ne, out_same g, p.cells_fit)

  pub part_ready : {now : Trees} {later : Later} → Going w₀ top root start out₀ words₀ p w out words at from sp cell word now later → (at ≡ 0 → ⊥) → get_or w at 0 ≡ 2 → PartReady w at cell (length out) word (length words)
  unfolding parts packed
  part_ready {now = nil} {later = later} g ne k = absurd (ne g.holds)
  part_ready {now = tree t s l kids rest} {later = later} g ne k = absurd (no_part_kind p.none_first t (sym g.holds.node.kind_at ∙ k))
  part_ready {now = part s l ws rest} {later = later} g ne k =
      let now : Trees = part s l ws rest in
      let i = g.holds.node.id_at in
      let f = few_words g in
      let a = length-append (ws ++ packed rest) (parts later) in
      let b = length-append ws (packed rest) in
      record {
        inside = node_inside g ne;
        cell_fits = cell_room g ne;
        few = omega (arith, cells_left g ne, p.few);
        narrow = omega (arith, f, p.narrow);
        held = omega (arith, g.holds.first.within);
        words_fit = omega (arith, i, f, a, b, p.words_fit, words_same g);
        small = λ j m. rw (g.holds.first.same j (omega arith)) (g.holds.first.narrow j (omega arith));
      }

  pub tree_ready : {now : Trees} {later : Later} → Going w₀ top root start out₀ words₀ p w out words at from sp cell word now later → (at ≡ 0 → ⊥) → (get_or w at 0 ≡ 2 → ⊥) → TreeReady w at sp cell p.low
  unfolding left nodes
  tree_ready {now = nil} {later = later} g ne k = absurd (ne g.holds)
  tree_ready {now = part s l ws rest} {later = later} g ne k = absurd (k g.holds.node.kind_at)
  tree_ready {now = tree t s l kids rest} {later = later} g ne k =
      let now : Trees = tree t s l kids rest in
      let r = roomy g in
      let m = tells_cells p.none_first w p.base top p.low _ kids g.holds.first in
      let c = g.count in
      record {
        kids_read = readable p.none_first w p.base top p.low _ kids r.0 g.holds.first;
        few = omega (arith, m, c, p.few);
        stack = omega (arith, g.depth, cells_left g ne, r.1);
        above = omega (arith, g.depth, cells_left g ne, p.free);
      }

  module _ {out' : List ℕ} where
    -- a cell more
    cells_more : {now : Trees} {later : Later} (g : Going w₀ top root start out₀ words₀ p w out words at from sp cell word now later) (vs rest : List ℕ) → length vs ≡ cell_width → flow (suc cell) word (more from now later) ≡ vs ++ rest → out' ≡ put out (cell * cell_width) vs
        → Fronted (tree_cells start p.trees) out₀ out' rest ((cell + 1) * cell_width)
    cells_more g vs rest seven-long e f = fronted_next _ out₀ out _ (cell * cell_width) g.cells_out vs rest out' ((cell + 1) * cell_width) (omega arith) e f

    pub going_tree : {now : Trees} {later : Later} → Going w₀ top root start out₀ words₀ p w out words at from sp cell word now later → (at ≡ 0 → ⊥) → (get_or w at 0 ≡ 2 → ⊥) → {w' : List ℕ}
        → out' ≡ put out (cell * cell_width) (tree_cell w at from cell) → w' ≡ put w sp (get_or w (at + 5) 0 ∷ from ∷ [])
        → (ts : Trees) × (rest : Later) × Going w₀ top root start out₀ words₀ p w' out' words (get_or w (at + 4) 0) (get_or w (at + 2) 0) (sp + 2) (cell + 1) word ts rest
    unfolding left nodes parts packed
    going_tree {now = nil} {later = later} g ne k {w' = w'} e f = absurd (ne g.holds)
    going_tree {now = part s l ws rest} {later = later} g ne k {w' = w'} e f = absurd (k g.holds.node.kind_at)
    going_tree {now = tree t s l kids rest} {later = later} g ne k {w' = w'} e f = (
      kids,
      more from rest later,
      rw (node.start_at, f) (record {
        size = put_length w sp two room ∙ g.size;
        holds = frame p.none_first w w₁ p.base top p.low top p.low (omega arith) (omega arith) kept _ kids g.holds.first;
        stacked = record {
          deep = omega (arith, g.inside);
          holds = rw (below_two, at_zero) (frame p.none_first w w₁ p.base top p.low top p.low (omega arith) (omega arith) kept _ rest g.holds.next);
          from = rw below_one (put_in w sp two room 1 (omega arith));
          below = rw below_two (stacked_frame p.none_first w w₁ p.base top p.low sp later kept (λ j m. put_before w sp two room j m) g.stacked);
        };
        cells_out = cells_more g vs _ refl (sym step) (e ∙ ap (λ (r : List ℕ). put out (cell * cell_width) r) cell_is);
        words_out = rw (append_assoc (packed kids) (packed rest) (parts later)) at g.words_out;
        count = omega (arith, g.count);
        depth = omega (arith, g.depth);
        inside = omega (arith, g.inside);
      }),
    )
      where
        now : Trees
        now = tree t s l kids rest

        node : Node w p.base top at (stored_kind (in_set p.none_first t)) (id_word t) s l (likes (in_set p.none_first t) now) now
        node = g.holds.node

        ready : TreeReady w at sp cell p.low
        ready = tree_ready g ne k

        two : List ℕ
        two = get_or w (at + 5) 0 ∷ from ∷ []

        w₁ : List ℕ
        w₁ = put w sp two

        room : sp + 2 ≤ length w
        room = ready.stack

        kept : Same w w₁ p.base top p.low
        kept = same_less w w₁ 0 sp (sp + 2) p.base top p.low (omega arith) g.inside ready.above (same_put w sp two room)

        below_two : sp + 2 - 2 ≡ sp
        below_two = omega arith

        below_one : sp + 2 - 1 ≡ sp + 1
        below_one = omega arith

        at_zero : get_or w₁ sp 0 ≡ get_or w (at + 5) 0
        at_zero = let z : sp + 0 ≡ sp = omega arith in rw z at (put_in w sp two room 0 (omega arith))

        vs : List ℕ
        vs = kind t ∷ id_word t ∷ (s - from) ∷ l ∷ unless_none kids (suc (suc cell)) ∷ siblings kids ∷ unless_none rest (suc (suc cell) + nodes kids) ∷ []

        few : nodes kids < 4294967295
        few = omega (arith, g.count, p.few)

        told_cells : told w (get_or w (at + 4) 0) 6 ≡ nodes kids
        told_cells = omega (arith, tells_cells p.none_first w p.base top p.low _ kids g.holds.first, few)

        told_trees : told w (get_or w (at + 4) 0) 8 ≡ siblings kids
        told_trees = omega (arith, tells_trees p.none_first w p.base top p.low _ kids g.holds.first, few, siblings_few kids)

        two_more : cell + 2 ≡ suc (suc cell)
        two_more = omega arith

        cell_is : tree_cell w at from cell ≡ vs
        cell_is =
            rw (
              told_cells,
              told_trees,
              linked p.none_first w p.base top p.low _ (cell + 2) kids g.holds.first,
              linked p.none_first w p.base top p.low _ (cell + 2 + nodes kids) rest g.holds.next,
              node.kind_at,
              node.id_at,
              kind_back p.none_first t,
              node.start_at,
              node.length_at,
              two_more,
            )

        step : vs ++ flow (suc (cell + 1)) word (more s kids (more from rest later)) ≡ flow (suc cell) word (more from now later)
        step = rw (add-one cell) (sym (flow_tree (suc cell) word from t s l kids rest later))

    pub going_part : {now : Trees} {later : Later} → Going w₀ top root start out₀ words₀ p w out words at from sp cell word now later → (at ≡ 0 → ⊥) → get_or w at 0 ≡ 2 → {words' : List ℕ} {r : ℕ}
        → PartWritten w at from cell word out out' words words' r
        → (word + r ≤ length words₀) × ((ts : Trees) × (rest : Later) × Going w₀ top root start out₀ words₀ p w out' words' (get_or w (at + 5) 0) from sp (cell + 1) (word + r) ts rest)
    unfolding left nodes parts packed
    going_part {now = nil} {later = later} g ne k {words' = words'} {r = r} wr = absurd (ne g.holds)
    going_part {now = tree t s l kids rest} {later = later} g ne k {words' = words'} {r = r} wr = absurd (no_part_kind p.none_first t (sym g.holds.node.kind_at ∙ k))
    going_part {now = part s l ws rest} {later = later} g ne k {words' = words'} {r = r} wr = (
      fits,
      (
        rest,
        later,
        record {
          size = g.size;
          holds = g.holds.next;
          stacked = g.stacked;
          cells_out = cells_more g vs _ refl (sym step) (wr.cell_out ∙ ap (λ (r : List ℕ). put out (cell * cell_width) r) cell_is);
          words_out = fronted_next _ words₀ words _ word g.words_out ws (packed rest ++ parts later) words' (word + r) (omega (arith, long)) (append_assoc ws (packed rest) (parts later)) copied;
          count = omega (arith, g.count);
          depth = omega (arith, g.depth);
          inside = g.inside;
        },
      ),
    )
      where
        now : Trees
        now = part s l ws rest

        node : Node w p.base top at 2 (length ws) s l 0 now
        node = g.holds.node

        ready : PartReady w at cell (length out) word (length words)
        ready = part_ready g ne k

        long : r ≡ length ws
        long = wr.count ∙ node.id_at

        fits : word + r ≤ length words₀
        fits = omega (arith, ready.words_fit, node.id_at, long, words_same g)

        staged : take (length ws) (drop (get_or w (at + 4) 0) w) ≡ ws
        staged =
            let m : length (take (length ws) (drop (get_or w (at + 4) 0) w)) ≡ length ws = length-take-le (length ws) (drop (get_or w (at + 4) 0) w) (rw length-drop (omega (arith, g.holds.first.within))) in
            ext_get_or 0 _ ws m (λ i b. get_or-take (length ws) (drop (get_or w (at + 4) 0) w) i 0 (omega arith) ∙ get_or-drop (get_or w (at + 4) 0) w i 0 ∙ g.holds.first.same i (omega arith))

        copied : words' ≡ put words word ws
        copied =
            wr.words_out
            ∙ ap (λ (k : ℕ). paste words word (drop (get_or w (at + 4) 0) w) k) node.id_at
            ∙ ap (λ (v : List ℕ). (take word words ++ v) ++ drop (word + length ws) words) staged
            ∙ append_assoc (take word words) ws (drop (word + length ws) words)

        vs : List ℕ
        vs = 2 ∷ 0 ∷ (s - from) ∷ l ∷ word ∷ length ws ∷ unless_none rest (suc (suc cell)) ∷ []

        two_more : cell + 2 ≡ suc (suc cell)
        two_more = omega arith

        cell_is : part_cell w at from cell word ≡ vs
        cell_is = rw (linked p.none_first w p.base top p.low _ (cell + 2) rest g.holds.next, node.id_at, node.start_at, node.length_at, two_more)

        step : vs ++ flow (suc (cell + 1)) (word + r) (more from rest later) ≡ flow (suc cell) word (more from now later)
        step = rw (add-one cell, long) (sym (flow_part (suc cell) word from s l ws rest later))

-- 12, 13, or the whole tree is written out: the counts in the first node decide. Assumes nothing.
use mathlib.Core.Path.{◌≡◌, refl, sym, ap, ◌∙◌}
use mathlib.Core.Bool.{false}
use mathlib.Core.List.{List, [], ◌∷◌, append-nil}
use Rattle.std.specs.Prelude.{Some}
use Prim.Native.Nat.{ℕ, suc, ◌+◌, ◌*◌, ◌/◌, ◌≤◌, ◌<◌}
use native.Mathlib.Omega.{arith}
use lib.ListN.{length}
use Rattle.words.specs.Outcome.{accepted, refused}
use Rattle.tree.specs.Trees.{Trees, nil, tree, part, nodes}
use Rattle.tree.specs.Cells.{cell_width, packed, tree_cells}
use Rattle.tree.specs.Calls.{room}
use Rattle.store.specs.Store.{told, TopReady, TopWrote}
use Rattle.store.proofs.Frame.{tells_cells, tells_words}
use Rattle.words.specs.Words.{front}
use Rattle.build.specs.Building.{Writes, written_tree, written_out}
use Rattle.tree.proofs.CallLaws.{cells_short, words_short, room_enough}

whole_nodes : (id S l : ℕ) (kids : Trees) → nodes (tree (Some id) S l kids nil) ≡ suc (nodes kids)
unfolding nodes
whole_nodes id S l kids = omega arith

whole_packed : (id S l : ℕ) (kids : Trees) → packed (tree (Some id) S l kids nil) ≡ packed kids
unfolding packed
whole_packed id S l kids = append-nil (packed kids)

result_is : (S : ℕ) (t : Trees) (n m : ℕ) (out out' words words' ps : List ℕ) → nodes t ≡ n → length (packed t) ≡ m → packed t ≡ ps
    → out' ≡ front (tree_cells S t) out → words' ≡ front ps words → room (nodes t) (length (packed t)) (length out) (length words) ≡ accepted (nodes t ∷ length (packed t) ∷ [])
    → record { outcome = accepted (n ∷ m ∷ []); outputs = out' ∷ words' ∷ [] } ≡ written_tree S t out words
result_is S t n m out out' words words' ps a b c o v r = rw (o, v, ← a, ← b, ← c, r) refl

module _ (held : List ℕ) (top kids : ℕ) (q : Writes held top kids) (id S l : ℕ) (out words : List ℕ) (n k : ℕ) (n-told : k ≡ told held kids 6) (n-more : n ≡ k + 1) where
  n_is : n ≡ suc (nodes q.trees)
  n_is = let e = n-told ∙ tells_cells false held q.base top q.low kids q.trees q.holds in omega (arith, q.free, q.fits, n-more, e)

  abbrev whole : Trees
  whole = tree (Some id) S l q.trees nil

  nodes_is : nodes whole ≡ n
  nodes_is = whole_nodes id S l q.trees ∙ sym n_is

  module _ (fits : n ≤ length out / cell_width) (m : ℕ) (m-told : m ≡ told held kids 7) where
    m_is : m ≡ length (packed q.trees)
    m_is = let e = m-told ∙ tells_words false held q.base top q.low kids q.trees q.holds in omega (arith, q.narrow, e)

    packed_is : length (packed whole) ≡ m
    packed_is = ap length (whole_packed id S l q.trees) ∙ sym m_is

    cells_fit : cell_width * nodes whole ≤ length out
    cells_fit = omega (arith, nodes_is)

    pub refuses_words : length words < m → record { outcome = refused 13 0; outputs = out ∷ words ∷ [] } ≡ written_out id S l q.trees out words
    refuses_words h = rw (words_short (nodes whole) (length (packed whole)) (length out) (length words) cells_fit (omega (arith, packed_is)))

    module _ (enough-words : m ≤ length words) where
      abbrev readied : TopReady held top kids (length out) (length words)
      readied = record {
        base = q.base;
        low = q.low;
        trees = q.trees;
        live = q.live;
        above = q.above;
        free = q.free;
        inside = q.inside;
        fits = q.fits;
        holds = q.holds;
        cells_fit = omega (arith, n_is);
        words_fit = omega (arith, m_is);
        narrow = omega (arith, q.narrow);
      }

      pub top_ready : TopReady held top kids (length out) (length words)
      top_ready = readied

      pub writes : (out' words' : List ℕ) → TopWrote held top id S l kids out out' words words'
          → record { outcome = accepted (n ∷ m ∷ []); outputs = out' ∷ words' ∷ [] } ≡ written_out id S l q.trees out words
      writes out' words' w =
          result_is S whole n m out out' words words' (packed q.trees) nodes_is packed_is (whole_packed id S l q.trees) (w.cells_out readied) (w.words_out readied)
          (room_enough (nodes whole) (length (packed whole)) (length out) (length words) cells_fit (omega (arith, packed_is)))

-- the slice has no space for the cells
pub cells_refused : (id S l : ℕ) (kids : Trees) (out words : List ℕ) → length out / cell_width < nodes kids + 1
    → record { outcome = refused 12 0; outputs = out ∷ words ∷ [] } ≡ written_out id S l kids out words
cells_refused id S l kids out words h = rw (cells_short (nodes (tree (Some id) S l kids nil)) (length (packed (tree (Some id) S l kids nil))) (length out) (length words) (omega (arith, whole_nodes id S l kids)))

-- 12, 13, or the tree is written out: the counts in its node decide. Assumes nothing.
use mathlib.Core.Path.{◌≡◌, ◌∙◌}
use mathlib.Core.List.{List, [], ◌∷◌}
use Prim.Native.Nat.{ℕ, ◌*◌, ◌/◌, ◌≤◌, ◌<◌}
use native.Mathlib.Omega.{arith}
use lib.ListN.{length}
use Rattle.words.specs.Outcome.{accepted, refused}
use Rattle.tree.specs.Trees.{Trees, nodes}
use Rattle.tree.specs.Cells.{cell_width, packed}
use Rattle.store.specs.Store.{told, Wrote}
use Rattle.store.proofs.Frame.{tells_cells, tells_words}
use Rattle.rules.proofs.CallLaws.{few_cells, few_words, enough}
use Rattle.balance.specs.Steps.{Standing, settled_tree}

module _ (held : List ℕ) (top root : ℕ) (ts : Trees) (s : Standing held top root ts) (out words : List ℕ) (n : ℕ) (n-told : n ≡ told held root 6) where
  n_is : n ≡ nodes ts
  n_is = n-told ∙ tells_cells s.none_first held s.base top s.low root ts s.holds ∙ omega (arith, s.few)

  module _ (fits : n ≤ length out / cell_width) (m : ℕ) (m-told : m ≡ told held root 7) where
    m_is : m ≡ length (packed ts)
    m_is = m-told ∙ tells_words s.none_first held s.base top s.low root ts s.holds ∙ omega (arith, s.narrow)

    cells_fit : cell_width * nodes ts ≤ length out
    cells_fit = omega (arith, n_is)

    pub refuses_words : length words < m → record { outcome = refused 13 0; outputs = out ∷ words ∷ [] } ≡ settled_tree ts out words
    unfolding settled_tree
    refuses_words h = rw (few_words (nodes ts) (length (packed ts)) (length out) (length words) (omega (arith, s.few)) cells_fit (omega (arith, m_is)))

    module _ (enough-words : m ≤ length words) where
      pub writes : (out' words' : List ℕ) → Wrote held top root 0 out out' words words' → record { outcome = accepted (n ∷ m ∷ []); outputs = out' ∷ words' ∷ [] } ≡ settled_tree ts out words
      unfolding settled_tree
      writes out' words' w =
          rw (
            w.cells_out s.none_first s.base s.low ts s.holds,
            w.words_out s.none_first s.base s.low ts s.holds,
            n_is,
            m_is,
            enough (nodes ts) (length (packed ts)) (length out) (length words) (omega (arith, s.few)) cells_fit (omega (arith, m_is)),
          )

-- the slice has no space for the cells
pub cells_refused : (ts : Trees) (out words : List ℕ) → nodes ts < 4294967295 → length out / cell_width < nodes ts
    → record { outcome = refused 12 0; outputs = out ∷ words ∷ [] } ≡ settled_tree ts out words
unfolding settled_tree
cells_refused ts out words few h = rw (few_cells (nodes ts) (length (packed ts)) (length out) (length words) (omega arith) (omega arith))

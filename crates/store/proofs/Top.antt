-- A top over a list: what writing it asks, and what it leaves. Assumes nothing.
use mathlib.Core.Path.{subst, ◌≡◌, refl, ap, sym}
use mathlib.Core.List.{List, append-nil}
use mathlib.Core.Bool.{false}
use Rattle.std.specs.Prelude.{Option, Some}
use Prim.Native.Nat.{ℕ, suc, ◌+◌}
use native.Mathlib.Omega.{arith}
use lib.ListN.{length}
use Rattle.tree.specs.Trees.{Trees, nil, tree, nodes}
use Rattle.tree.specs.Cells.{packed, kind, id_word}
use Rattle.store.specs.Store.{Holds, Readable, PushedTree, Writable, Wrote, TopReady, TopWrote}
use Rattle.store.proofs.Frame.{readable}

pub top_kids : (w : List ℕ) (top kids room wide : ℕ) → TopReady w top kids room wide → Readable w kids
top_kids w top kids room wide p = readable false w p.base top p.low kids p.trees (omega (arith, p.free, p.inside)) p.holds

one_more : (t : Option ℕ) (s l : ℕ) (kids : Trees) → nodes (tree t s l kids nil) ≡ suc (nodes kids)
unfolding nodes
one_more t s l kids = omega arith

same_words : (t : Option ℕ) (s l : ℕ) (kids : Trees) → packed (tree t s l kids nil) ≡ packed kids
unfolding packed
same_words t s l kids = append-nil (packed kids)

module _ (w w₁ : List ℕ) (top id s l kids root top₁ : ℕ) (q : PushedTree w w₁ top 1 id s l kids 0 root) (e : top₁ ≡ top + 10) where
  root_holds : (room wide : ℕ) (p : TopReady w top kids room wide) → Holds false w₁ p.base top₁ p.low root (tree (Some id) s l p.trees nil)
  unfolding kind id_word
  root_holds room wide p = subst (λ (x : ℕ). Holds false w₁ p.base x p.low root (tree (Some id) s l p.trees nil)) (sym e) (q.holds false p.base p.low (Some id) p.trees nil p.live p.above (omega (arith, p.free)) refl refl p.holds refl)

  pub top_writable : (room wide : ℕ) → TopReady w top kids room wide → Writable w₁ top₁ root room wide
  top_writable room wide p =
      let n = one_more (Some id) s l p.trees in
      let m = same_words (Some id) s l p.trees in
      record {
        none_first = false;
        base = p.base;
        low = p.low;
        trees = tree (Some id) s l p.trees nil;
        holds = root_holds room wide p;
        free = omega (arith, n, p.free);
        inside = omega (arith, p.inside, q.kept.size);
        cells_fit = omega (arith, n, p.cells_fit);
        words_fit = omega (arith, ap length m, p.words_fit);
        few = omega (arith, n, p.free, p.fits);
        narrow = omega (arith, ap length m, p.narrow);
      }

  pub top_wrote : (out out' words words' : List ℕ) → Wrote w₁ top₁ root s out out' words words' → TopWrote w top id s l kids out out' words words'
  top_wrote out out' words words' h = record {
    cells_out = λ p. h.cells_out false p.base p.low (tree (Some id) s l p.trees nil) (root_holds _ _ p);
    words_out = λ p. rw (same_words (Some id) s l p.trees) at (h.words_out false p.base p.low (tree (Some id) s l p.trees nil) (root_holds _ _ p));
  }

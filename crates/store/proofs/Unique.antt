-- An address denotes at most one list of trees. Assumes nothing.
use mathlib.Core.Path.{◌≡◌, refl, sym, ◌∙◌}
use mathlib.Core.List.{List}
use mathlib.Core.Bool.{Bool}
use Prim.Native.Nat.{◌+◌, ℕ}
use native.Mathlib.Omega.{arith}
use lib.ListN.{get_or, length}
use lib.Seq.{ext_get_or}
use Rattle.tree.specs.Trees.{Trees, nil, tree, part}
use Rattle.store.specs.Store.{Staged, Holds}
use Rattle.store.proofs.Types.{stored_same, no_part_kind}

words_same : (w : List ℕ) (low low' a : ℕ) (ws vs : List ℕ) → length ws ≡ length vs → Staged w low a ws → Staged w low' a vs → ws ≡ vs
words_same w low low' a ws vs e s r = ext_get_or 0 ws vs e (λ i l. sym (s.same i l) ∙ r.same i (omega arith))

module _ (f g : Bool) (w : List ℕ) (base top low base' top' low' : ℕ) where
  pub unique : (n : ℕ) (ts us : Trees) → Holds f w base top low n ts → Holds g w base' top' low' n us → ts ≡ us
  unique n nil nil h k = refl
  unique n nil (tree t s l kids rest) h k = absurd (omega (arith, k.node.live))
  unique n nil (part s l ws rest) h k = absurd (omega (arith, k.node.live))
  unique n (tree t s l kids rest) nil h k = absurd (omega (arith, h.node.live))
  unique n (part s l ws rest) nil h k = absurd (omega (arith, h.node.live))
  unique n (tree t s l kids rest) (part s' l' ws rest') h k = absurd (no_part_kind f t (sym h.node.kind_at ∙ k.node.kind_at))
  unique n (part s l ws rest) (tree t s' l' kids rest') h k = absurd (no_part_kind g t (sym k.node.kind_at ∙ h.node.kind_at))
  unique n (tree t s l kids rest) (tree t' s' l' kids' rest') h k =
      let a = stored_same f g t t' (sym h.node.kind_at ∙ k.node.kind_at) (sym h.node.id_at ∙ k.node.id_at) in
      let b = sym h.node.start_at ∙ k.node.start_at in
      let c = sym h.node.length_at ∙ k.node.length_at in
      let d = unique (get_or w (n + 4) 0) kids kids' h.first k.first in
      let e = unique (get_or w (n + 5) 0) rest rest' h.next k.next in
      cc
  unique n (part s l ws rest) (part s' l' ws' rest') h k =
      let b = sym h.node.start_at ∙ k.node.start_at in
      let c = sym h.node.length_at ∙ k.node.length_at in
      let d = words_same w low low' _ ws ws' (sym h.node.id_at ∙ k.node.id_at) h.first k.first in
      let e = unique (get_or w (n + 5) 0) rest rest' h.next k.next in
      cc

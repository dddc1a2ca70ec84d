-- A tree copied before another list. Assumes nothing.
use mathlib.Core.Path.{◌≡◌, refl, sym, ◌∙◌}
use mathlib.Core.Bool.{Bool}
use mathlib.Core.List.{List}
use Prim.Native.Nat.{ℕ, ◌+◌, ◌≤◌}
use native.Mathlib.Omega.{arith}
use lib.ListN.{length, get_or}
use Rattle.tree.specs.Trees.{Trees, nil, tree, part, ◌⊕◌, siblings}
use Rattle.store.specs.Store.{Holds, Readable, PushedTree, PushedPart}
use Rattle.store.proofs.Types.{no_part_kind}
use Rattle.store.proofs.Frame.{readable}
use Rattle.balance_core.specs.Ready.{CopyReady, Copied}
use Rattle.balance_core.proofs.Lists.{siblings_none, siblings-⊕}

-- the node of a list with a tree in it
pub inside_node : (f : Bool) (w : List ℕ) (base top low n : ℕ) (ts : Trees) → top ≤ length w → 1 ≤ siblings ts → Holds f w base top low n ts → n + 10 ≤ length w
unfolding siblings
inside_node f w base top low n nil m p h = absurd (omega arith)
inside_node f w base top low n (tree u s l kids rest) m p h = omega (arith, h.node.below)
inside_node f w base top low n (part s l ws rest) m p h = omega (arith, h.node.below)

pub kids_node : (f : Bool) (w : List ℕ) (base top low n : ℕ) (ts : Trees) → top ≤ length w → 1 ≤ siblings ts → Holds f w base top low n ts → (get_or w n 0 ≡ 2 → ⊥) → Readable w (get_or w (n + 4) 0)
unfolding siblings
kids_node f w base top low n nil m p h k = absurd (omega arith)
kids_node f w base top low n (tree u s l kids rest) m p h k = readable f w base top low _ kids m h.first
kids_node f w base top low n (part s l ws rest) m p h k = absurd (k h.node.kind_at)

module _ {w : List ℕ} {top node next : ℕ} (p : CopyReady w top node next) where
  some_here : 1 ≤ siblings (p.first ⊕ p.tail)
  some_here = omega (arith, siblings-⊕ p.first p.tail, p.one)

  pub copy_inside : node + 10 ≤ length w
  copy_inside = inside_node p.none_first w p.base top p.low node (p.first ⊕ p.tail) (omega (arith, p.room, p.inside)) some_here p.holds

  pub copy_onto : Readable w next
  copy_onto = readable p.none_first w p.base top p.low next p.rest (omega (arith, p.room, p.inside)) p.onto

  pub copy_kids : {kd a : ℕ} → kd ≡ get_or w node 0 → a ≡ get_or w (node + 4) 0 → (kd ≡ 2 → ⊥) → Readable w a
  copy_kids e f k =
      rw f (kids_node p.none_first w p.base top p.low node (p.first ⊕ p.tail) (omega (arith, p.room, p.inside)) some_here p.holds (λ x. k (e ∙ x)))

-- the words of a node, as the code reads them
module _ {w : List ℕ} {node kd i s l a : ℕ} (ek : kd ≡ get_or w node 0) (ei : i ≡ get_or w (node + 1) 0) (es : s ≡ get_or w (node + 2) 0)
    (el : l ≡ get_or w (node + 3) 0) (ea : a ≡ get_or w (node + 4) 0) where
  pub copied_tree : (kd ≡ 2 → ⊥) → {w' : List ℕ} {top next r : ℕ} → PushedTree w w' top kd i s l a next r → Copied w w' top node next (top + 10) r
  unfolding siblings ◌⊕◌
  copied_tree k {w'} {top} {next} {r} q = record { top_is = refl; kept = q.kept; holds = λ p. go p p.first p.one p.holds }
    where
      go : (p : CopyReady w top node next) (first : Trees) → siblings first ≡ 1 → Holds p.none_first w p.base top p.low node (first ⊕ p.tail)
          → Holds p.none_first w' p.base (top + 10) p.low r (first ⊕ p.rest)
      go p nil one h = absurd (omega arith)
      go p (part s' l' ws more) one h = absurd (k (ek ∙ h.node.kind_at))
      go p (tree u s' l' ks more) one h =
          let z : more ≡ nil = siblings_none more (omega arith) in
          let fs : s' ≡ s = sym (es ∙ h.node.start_at) in
          let fl : l' ≡ l = sym (el ∙ h.node.length_at) in
          rw (z, fs, fl)
          (q.holds p.none_first p.base p.low u ks p.rest p.live p.above p.room (ek ∙ h.node.kind_at) (ei ∙ h.node.id_at) (rw ea h.first) p.onto)

  pub copied_part : kd ≡ 2 → {w' : List ℕ} {top next r : ℕ} → PushedPart w w' top s l a i next r → Copied w w' top node next (top + 10) r
  unfolding siblings ◌⊕◌
  copied_part k {w'} {top} {next} {r} q = record { top_is = refl; kept = q.kept; holds = λ p. go p p.first p.one p.holds }
    where
      go : (p : CopyReady w top node next) (first : Trees) → siblings first ≡ 1 → Holds p.none_first w p.base top p.low node (first ⊕ p.tail)
          → Holds p.none_first w' p.base (top + 10) p.low r (first ⊕ p.rest)
      go p nil one h = absurd (omega arith)
      go p (tree u s' l' ks more) one h = absurd (no_part_kind p.none_first u (sym h.node.kind_at ∙ sym ek ∙ k))
      go p (part s' l' ws more) one h =
          let z : more ≡ nil = siblings_none more (omega arith) in
          let fs : s' ≡ s = sym (es ∙ h.node.start_at) in
          let fl : l' ≡ l = sym (el ∙ h.node.length_at) in
          rw (z, fs, fl) (q.holds p.none_first p.base p.low ws p.rest p.live p.above p.room (ei ∙ h.node.id_at) (rw ea h.first) p.onto)

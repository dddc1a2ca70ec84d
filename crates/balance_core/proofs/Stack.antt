-- Laws of groups that wait: what they come to once all are placed, their sizes, and that they stay where their words
-- stay. By induction on the list of groups. Assumes nothing.
use mathlib.Core.Path.{◌≡◌, refl, sym, ap, ◌∙◌}
use mathlib.Core.List.{List, [], ◌∷◌}
use Prim.Native.Nat.{ℕ, ◌+◌, ◌*◌, ◌≤◌}
use native.Mathlib.Omega.{arith}
use lib.ListN.{length, get_or}
use Rattle.tree.specs.Trees.{Trees, ◌⊕◌}
use Rattle.tree.specs.Balance.{SetType, total, groups, each}
use Rattle.tree.proofs.ListingLaws.{⊕-assoc}
use Rattle.tree.proofs.FuelLaws.{total-⊕}
use Rattle.tree.proofs.BalanceLaws.{each_groups}
use Rattle.store.specs.Store.{Same}
use Rattle.store.proofs.Frame.{same_less, frame}
use Rattle.balance_core.specs.Pending.{Pending, stacked}
use Rattle.balance_core.proofs.Lists.{siblings_total}

-- the groups that wait, placed by f one after the other before siblings that stand
unfoldable pub unwound : (f : Trees → Trees) → List Trees → Trees → Trees
unwound f [] ts = ts
unwound f (g ∷ gs) ts = unwound f gs (f g ⊕ ts)

pub unwound_stacked : (f : Trees → Trees) (gs below : List Trees) (ts : Trees) → unwound f (stacked gs below) ts ≡ unwound f below (each f gs ⊕ ts)
unfolding unwound stacked each ◌⊕◌
unwound_stacked f [] below ts = refl
unwound_stacked f (g ∷ gs) below ts = unwound_stacked f gs (g ∷ below) ts ∙ ap (λ (us : Trees). unwound f below us) (sym (⊕-assoc (f g) (each f gs) ts))

pub unwound_none : (f : Trees → Trees) (ts : Trees) → unwound f [] ts ≡ ts
unfolding unwound
unwound_none f ts = refl

pub unwound_step : (f : Trees → Trees) (g : Trees) (gs : List Trees) (ts : Trees) → unwound f (g ∷ gs) ts ≡ unwound f gs (f g ⊕ ts)
unfolding unwound
unwound_step f g gs ts = refl

-- the sizes of the groups, summed
unfoldable pub weight : (t : SetType) → List Trees → ℕ
weight t [] = 0
weight t (g ∷ gs) = total t g + weight t gs

pub weight_none : (t : SetType) → weight t [] ≡ 0
unfolding weight
weight_none t = refl

pub weight_more : (t : SetType) (g : Trees) (gs : List Trees) → weight t (g ∷ gs) ≡ total t g + weight t gs
unfolding weight
weight_more t g gs = refl

pub weight_stacked : (t : SetType) (gs below : List Trees) → weight t (stacked gs below) ≡ weight t gs + weight t below
unfolding weight stacked
weight_stacked t [] below = omega arith
weight_stacked t (g ∷ gs) below = weight_stacked t gs (g ∷ below) ∙ omega arith

pub length_stacked : (gs below : List Trees) → length (stacked gs below) ≡ length gs + length below
unfolding stacked
length_stacked [] below = omega arith
length_stacked (g ∷ gs) below = length_stacked gs (g ∷ below) ∙ omega arith

weight_each : (t : SetType) (gs : List Trees) → weight t gs ≡ total t (each (λ g. g) gs)
unfolding weight each total
weight_each t [] = refl
weight_each t (g ∷ gs) = omega (arith, weight_each t gs, total-⊕ t g (each (λ x. x) gs))

pub weight_groups : (t : SetType) (m : ℕ) (us : Trees) → weight t (groups t m us) ≡ total t us
weight_groups t m us = weight_each t (groups t m us) ∙ ap (total t) (each_groups t m us)

module _ (w : List ℕ) (base top low : ℕ) (t : SetType) (m : ℕ) where
  -- four words each
  pub pending_deep : (sp bottom : ℕ) (gs : List Trees) → Pending w base top low t m sp bottom gs → sp + 4 * length gs ≡ bottom
  pending_deep sp bottom [] h = omega (arith, h)
  pending_deep sp bottom (g ∷ gs) h = omega (arith, pending_deep (sp + 4) bottom gs h.below)

  -- and none is empty
  pub pending_some : (sp bottom : ℕ) (gs : List Trees) → Pending w base top low t m sp bottom gs → length gs ≤ weight t gs
  unfolding weight
  pending_some sp bottom [] h = omega arith
  pending_some sp bottom (g ∷ gs) h = omega (arith, pending_some (sp + 4) bottom gs h.below, h.some, siblings_total t g)

  pub pending_frame : (w' : List ℕ) (top' at sp bottom : ℕ) (gs : List Trees) → top ≤ top' → at ≤ sp → sp ≤ low → Same w w' 0 top at → bottom ≤ low
      → Pending w base top low t m sp bottom gs → Pending w' base top' low t m sp bottom gs
  pending_frame w' top' at sp bottom [] up under inside s le h = h
  pending_frame w' top' at sp bottom (g ∷ gs) up under inside s le h =
      let zero_at : get_or w' sp 0 ≡ get_or w sp 0 = s.above sp (omega arith) in
      record {
        deep = h.deep;
        tail = h.tail;
        holds = rw zero_at (frame t.none_first w w' base top low top' low up (omega arith) (same_less w w' 0 top at base top low (omega arith) (omega arith) (omega arith) s) _ (g ⊕ h.tail) h.holds);
        counted = h.counted ∙ sym (s.above (sp + 1) (omega arith));
        sized = h.sized ∙ sym (s.above (sp + 2) (omega arith));
        ended = h.ended ∙ sym (s.above (sp + 3) (omega arith));
        some = h.some;
        small = h.small;
        ends = h.ends;
        below = pending_frame w' top' at (sp + 4) bottom gs up (omega arith) (omega (arith, h.deep)) s le h.below;
      }

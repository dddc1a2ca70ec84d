-- Laws of trees that stand in an output as cells, and of the numbers of siblings on a stack: where they stay, how they are split and
-- joined, and how the last sibling's link is ended. By induction on the trees. Assumes nothing.
use mathlib.Core.Path.{◌≡◌, refl, sym, ap, subst, ◌∙◌}
use mathlib.Core.List.{List}
use Prim.Native.Nat.{ℕ, suc, ◌+◌, ◌*◌, ◌≤◌, ◌<◌}
use native.Mathlib.Decide.{dec_le}
use native.Mathlib.Omega.{arith}
use native.Mathlib.Nat.{add-zero}
use lib.ListN.{get_or}
use Rattle.tree.specs.Cells.{cell_width, id_place, position_place, length_place, first_place, count_place, next_place, cell_next}
use Rattle.tree.specs.Trees.{Trees, nil, tree, part, ◌⊕◌, nodes, siblings}
use Rattle.materialize.specs.Steps.{leads, Out, Roots}

pub siblings-⊕ : (ts us : Trees) → siblings (ts ⊕ us) ≡ siblings ts + siblings us
unfolding siblings ◌⊕◌
siblings-⊕ nil us = omega arith
siblings-⊕ (tree t s l kids rest) us = omega (arith, siblings-⊕ rest us)
siblings-⊕ (part s l ws rest) us = omega (arith, siblings-⊕ rest us)

pub siblings_nodes : (ts : Trees) → siblings ts ≤ nodes ts
unfolding siblings nodes
siblings_nodes nil = omega arith
siblings_nodes (tree t s l kids rest) = omega (arith, siblings_nodes rest)
siblings_nodes (part s l ws rest) = omega (arith, siblings_nodes rest)

leads-⊕ : (ts us : Trees) (c e : ℕ) → leads (ts ⊕ us) c e ≡ leads ts c (leads us (c + nodes ts) e)
unfolding leads ◌⊕◌ nodes
leads-⊕ nil us c e = ap (λ (k : ℕ). leads us k e) (sym (add-zero c))
leads-⊕ (tree t s l kids rest) us c e = refl
leads-⊕ (part s l ws rest) us c e = refl

leads_same : (ts : Trees) (c e d : ℕ) → 0 < siblings ts → leads ts c e ≡ leads ts c d
unfolding siblings leads
leads_same nil c e d z = absurd (omega arith)
leads_same (tree t s l kids rest) c e d z = refl
leads_same (part s l ws rest) c e d z = refl

-- cells stay where their words stay
pub out_frame : (o o' : List ℕ) (c e : ℕ) (ts : Trees) → ((j : ℕ) → c * cell_width ≤ j → j < (c + nodes ts) * cell_width → get_or o' j 0 ≡ get_or o j 0)
    → Out o c e ts → Out o' c e ts
unfolding nodes
out_frame o o' c e nil f h = tt
out_frame o o' c e (tree t s l kids rest) f h =
    record {
      kind_at = f (c * cell_width) (omega arith) (omega arith) ∙ h.kind_at;
      id_at = f (c * cell_width + id_place) (omega arith) (omega arith) ∙ h.id_at;
      start_at = f (c * cell_width + position_place) (omega arith) (omega arith) ∙ h.start_at;
      length_at = f (c * cell_width + length_place) (omega arith) (omega arith) ∙ h.length_at;
      first_at = f (c * cell_width + first_place) (omega arith) (omega arith) ∙ h.first_at;
      count_at = f (c * cell_width + count_place) (omega arith) (omega arith) ∙ h.count_at;
      next_at = f (c * cell_width + next_place) (omega arith) (omega arith) ∙ h.next_at;
      inner = out_frame o o' (suc c) 0 kids (λ j a b. f j (omega arith) (omega arith)) h.inner;
      after = out_frame o o' (c + suc (nodes kids)) e rest (λ j a b. f j (omega arith) (omega arith)) h.after;
    }
out_frame o o' c e (part s l ws rest) f h = absurd h

pub out_split : (o : List ℕ) (c e : ℕ) (ts us : Trees) → Out o c e (ts ⊕ us)
    → Out o c (leads us (c + nodes ts) e) ts × Out o (c + nodes ts) e us
unfolding ◌⊕◌ nodes
out_split o c e nil us h = (tt, subst (λ (k : ℕ). Out o k e us) (sym (add-zero c)) h)
out_split o c e (tree t s l kids rest) us h =
    let d : ℕ = c + suc (nodes kids) in
    let x = out_split o d e rest us h.after in
    let a : d + nodes rest ≡ c + suc (nodes kids + nodes rest) = omega arith in (
      record {
        kind_at = h.kind_at;
        id_at = h.id_at;
        start_at = h.start_at;
        length_at = h.length_at;
        first_at = h.first_at;
        count_at = h.count_at;
        next_at = h.next_at ∙ leads-⊕ rest us d e ∙ ap (λ (k : ℕ). leads rest d (leads us k e)) a;
        inner = h.inner;
        after = subst (λ (k : ℕ). Out o d (leads us k e) rest) a x.0;
      },
      subst (λ (k : ℕ). Out o k e us) a x.1,
    )
out_split o c e (part s l ws rest) us h = absurd h

pub out_join : (o : List ℕ) (c e : ℕ) (ts us : Trees) → Out o c (leads us (c + nodes ts) e) ts → Out o (c + nodes ts) e us → Out o c e (ts ⊕ us)
unfolding ◌⊕◌ nodes
out_join o c e nil us h g = subst (λ (k : ℕ). Out o k e us) (add-zero c) g
out_join o c e (tree t s l kids rest) us h g =
    let d : ℕ = c + suc (nodes kids) in
    let a : c + suc (nodes kids + nodes rest) ≡ d + nodes rest = omega arith in
    record {
      kind_at = h.kind_at;
      id_at = h.id_at;
      start_at = h.start_at;
      length_at = h.length_at;
      first_at = h.first_at;
      count_at = h.count_at;
      next_at = h.next_at ∙ ap (λ (k : ℕ). leads rest d (leads us k e)) a ∙ sym (leads-⊕ rest us d e);
      inner = h.inner;
      after = out_join o d e rest us (subst (λ (k : ℕ). Out o d (leads us k e) rest) a h.after) (subst (λ (k : ℕ). Out o k e us) a g);
    }
out_join o c e (part s l ws rest) us h g = absurd h

-- the numbers of siblings stay, and those of the later ones are among them
pub roots_frame : (w w' : List ℕ) (c : ℕ) (ts : Trees) → ((j : ℕ) → j < siblings ts → get_or w' j 0 ≡ get_or w j 0) → Roots w c ts → Roots w' c ts
unfolding siblings
roots_frame w w' c nil f h = tt
roots_frame w w' c (tree t s l kids rest) f h =
    record {
      at = f (siblings rest) (omega arith) ∙ h.at;
      after = roots_frame w w' (c + suc (nodes kids)) rest (λ j a. f j (omega arith)) h.after;
    }
roots_frame w w' c (part s l ws rest) f h = absurd h

pub roots_after : (w : List ℕ) (c : ℕ) (ts us : Trees) → Roots w c (ts ⊕ us) → Roots w (c + nodes ts) us
unfolding ◌⊕◌ nodes
roots_after w c nil us h = subst (λ (k : ℕ). Roots w k us) (sym (add-zero c)) h
roots_after w c (tree t s l kids rest) us h =
    let a : c + suc (nodes kids) + nodes rest ≡ c + suc (nodes kids + nodes rest) = omega arith in
    subst (λ (k : ℕ). Roots w k us) a (roots_after w (c + suc (nodes kids)) rest us h.after)
roots_after w c (part s l ws rest) us h = absurd h

pub out_none : (o o' : List ℕ) (c e d : ℕ) (ts : Trees) → siblings ts ≡ 0 → Out o c e ts → Out o' c d ts
unfolding siblings
out_none o o' c e d nil z h = tt
out_none o o' c e d (tree t s l kids rest) z h = absurd (omega arith)
out_none o o' c e d (part s l ws rest) z h = absurd h

pub leads_none : (ts : Trees) (c e : ℕ) → siblings ts ≡ 0 → leads ts c e ≡ e
unfolding siblings leads
leads_none nil c e z = refl
leads_none (tree t s l kids rest) c e z = absurd (omega arith)
leads_none (part s l ws rest) c e z = absurd (omega arith)

-- where the last of the siblings ts stands
pub last_root : (w : List ℕ) (c : ℕ) (ts us : Trees) → Roots w c (ts ⊕ us) → 0 < siblings ts
    → (c ≤ get_or w (siblings us) 0) × (get_or w (siblings us) 0 < c + nodes ts)
unfolding ◌⊕◌ nodes siblings
last_root w c nil us h l = absurd (omega arith)
last_root w c (tree t s l kids rest) us h m = go (dec_le (siblings rest) 0) (last_root w (c + suc (nodes kids)) rest us h.after)
  where
    d : ℕ
    d = c + suc (nodes kids)

    go : Dec (siblings rest ≤ 0) → (0 < siblings rest → (c + suc (nodes kids) ≤ get_or w (siblings us) 0) × (get_or w (siblings us) 0 < c + suc (nodes kids) + nodes rest))
        → (c ≤ get_or w (siblings us) 0) × (get_or w (siblings us) 0 < c + suc (nodes kids + nodes rest))
    go (yes z) more =
        let e : siblings (rest ⊕ us) ≡ siblings us = siblings-⊕ rest us ∙ omega arith in
        let a : get_or w (siblings us) 0 ≡ c = rw e at h.at in
        (omega (arith, a), omega (arith, a))
    go (no z) more = let x = more (omega arith) in (omega (arith, x.0), omega (arith, x.1))
last_root w c (part s l ws rest) us h m = absurd h

-- the last one's link led to e and is made to lead to d
pub retarget : (w o o' : List ℕ) (c e d : ℕ) (ts us : Trees) → Roots w c (ts ⊕ us) → Out o c e ts
    → get_or o' (get_or w (siblings us) 0 * cell_width + next_place) 0 ≡ d
    → ((j : ℕ) → (j ≡ get_or w (siblings us) 0 * cell_width + next_place → ⊥) → get_or o' j 0 ≡ get_or o j 0)
    → Out o' c d ts
unfolding ◌⊕◌ nodes siblings
retarget w o o' c e d nil us r h g f = tt
retarget w o o' c e d (tree t s l kids rest) us r h g f =
    go (dec_le (siblings rest) 0) (retarget w o o' (c + suc (nodes kids)) e d rest us r.after h.after g f)
  where
    last : ℕ
    last = get_or w (siblings us) 0

    made : ((k : ℕ) → k < 6 → c * cell_width + k ≡ get_or w (siblings us) 0 * cell_width + next_place → ⊥) → cell_next o' c ≡ leads rest (c + suc (nodes kids)) d
        → ((j : ℕ) → suc c * cell_width ≤ j → j < (suc c + nodes kids) * cell_width → j ≡ get_or w (siblings us) 0 * cell_width + next_place → ⊥)
        → Out o' (c + suc (nodes kids)) d rest → Out o' c d (tree t s l kids rest)
    made off next below on = record {
      kind_at = f (c * cell_width) (λ z. off 0 (omega arith) (omega (arith, z))) ∙ h.kind_at;
      id_at = f (c * cell_width + id_place) (off 1 (omega arith)) ∙ h.id_at;
      start_at = f (c * cell_width + position_place) (off 2 (omega arith)) ∙ h.start_at;
      length_at = f (c * cell_width + length_place) (off 3 (omega arith)) ∙ h.length_at;
      first_at = f (c * cell_width + first_place) (off 4 (omega arith)) ∙ h.first_at;
      count_at = f (c * cell_width + count_place) (off 5 (omega arith)) ∙ h.count_at;
      next_at = next;
      inner = out_frame o o' (suc c) 0 kids (λ j x y. f j (below j x y)) h.inner;
      after = on;
    }

    go : Dec (siblings rest ≤ 0) → Out o' (c + suc (nodes kids)) d rest → Out o' c d (tree t s l kids rest)
    go (yes z) on =
        let none_left : siblings rest ≡ 0 = omega arith in
        let q : siblings (rest ⊕ us) ≡ siblings us = siblings-⊕ rest us ∙ omega arith in
        let a : get_or w (siblings us) 0 ≡ c = rw q at r.at in
        let b : cell_next o' c ≡ d = rw a at g in
        made (λ k x y. omega (arith, a)) (b ∙ sym (leads_none rest (c + suc (nodes kids)) d none_left)) (λ j x y z. omega (arith, a))
        (out_none o o' (c + suc (nodes kids)) e d rest none_left h.after)
    go (no z) on =
        let b = (last_root w (c + suc (nodes kids)) rest us r.after (omega arith)).0 in
        let n : cell_next o' c ≡ cell_next o c = f (c * cell_width + next_place) (λ y. omega (arith, b)) in
        made (λ k x y. omega (arith, b)) (n ∙ h.next_at ∙ leads_same rest (c + suc (nodes kids)) e d (omega arith)) (λ j x y z. omega (arith, b)) on
retarget w o o' c e d (part s l ws rest) us r h g f = absurd h

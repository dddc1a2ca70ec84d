-- A tree put before its siblings, over the children it takes from them. Assumes nothing.
use mathlib.Core.Path.{◌≡◌, refl, sym, ap, subst, ◌∙◌}
use mathlib.Core.List.{List, [], ◌∷◌}
use mathlib.Core.Bool.{Bool, true, false, cond}
use Rattle.std.specs.Prelude.{Option}
use Prim.Native.Nat.{ℕ, suc, ◌+◌, ◌-◌, ◌*◌, ◌≤◌, ◌<◌}
use native.Mathlib.Decide.{dec_le}
use native.Mathlib.Omega.{arith}
use native.Mathlib.Nat.{add-zero}
use borrow.Author.Tests.{le-ltb, lt-ltb, ne_eqb}
use lib.Dec.{ltb}
use lib.ListN.{length, get_or, set, length-set}
use lib.Seq.{get_or-set_same, get_or-set_other}
use Rattle.words.specs.Words.{put}
use Rattle.tree.specs.Trees.{Trees, nil, tree, part, ◌⊕◌, nodes, siblings}
use Rattle.tree.specs.Cells.{kind, id_word, cell_width, next_place}
use Rattle.tree.proofs.PackLaws.{nodes-⊕}
use Rattle.materialize.specs.Steps.{leads, Out, Roots, Made, Room, ended, first_link, next_link, Taken, Put, Fit}
use Rattle.words.proofs.Stores.{put_in, put_after}
use Rattle.materialize.proofs.Written.{siblings-⊕, siblings_nodes, out_frame, out_split, roots_frame, roots_after, last_root, retarget, out_none, leads_none}

leads_some : (ts : Trees) (c e : ℕ) → 0 < siblings ts → leads ts c e ≡ suc c
unfolding siblings leads
leads_some nil c e z = absurd (omega arith)
leads_some (tree t s l kids rest) c e z = refl
leads_some (part s l ws rest) c e z = refl

next_is : (w : List ℕ) (c : ℕ) (ts : Trees) → Roots w c ts → next_link w (siblings ts) ≡ leads ts c 0
unfolding siblings leads next_link
next_is w c nil h = refl
next_is w c (tree t s l kids rest) h =
    let q : suc (siblings rest) - 1 ≡ siblings rest = omega arith in
    rw (ne_eqb (suc (siblings rest)) 0 (λ z. omega arith), q) (omega (arith, h.at))
next_is w c (part s l ws rest) h = absurd h

first_root : (w : List ℕ) (c : ℕ) (ts : Trees) → Roots w c ts → 0 < siblings ts → get_or w (siblings ts - 1) 0 ≡ c
unfolding siblings
first_root w c nil h z = absurd (omega arith)
first_root w c (tree t s l kids rest) h z =
    let q : suc (siblings rest) - 1 ≡ siblings rest = omega arith in
    ap (λ (k : ℕ). get_or w k 0) q ∙ h.at
first_root w c (part s l ws rest) h z = absurd h

module _ (w o : List ℕ) (n c : ℕ) (ks bs : Trees) (m : Made w o n (suc c) (ks ⊕ bs)) (room : Room w o n) where
  abbrev kept : ℕ
  kept = siblings bs

  abbrev sp : ℕ
  sp = siblings (ks ⊕ bs)

  abbrev o₁ : List ℕ
  o₁ = ended w o kept sp

  total : c + suc (nodes ks + nodes bs) ≡ n
  total = omega (arith, m.size, nodes-⊕ ks bs)

  few : kept < n
  few = omega (arith, total, siblings_nodes bs)

  inside : kept < sp → get_or w kept 0 < n
  inside h = omega (arith, total, (last_root w (suc c) ks bs m.roots (omega (arith, siblings-⊕ ks bs))).1)

  at_end : kept < sp → get_or w kept 0 * cell_width + next_place < length o
  at_end h = omega (arith, inside h, room.wide)

  -- the children's links end, and what follows them stays
  split_off : Out o₁ (suc c) 0 ks × Out o₁ (suc c + nodes ks) 0 bs
  unfolding ended
  split_off = go (dec_le sp kept)
    where
      x : Out o (suc c) (leads bs (suc c + nodes ks) 0) ks × Out o (suc c + nodes ks) 0 bs
      x = out_split o (suc c) 0 ks bs m.cells

      go : Dec (sp ≤ kept) → Out (cond (ltb kept sp) (set o (get_or w kept 0 * cell_width + next_place) 0) o) (suc c) 0 ks
          × Out (cond (ltb kept sp) (set o (get_or w kept 0 * cell_width + next_place) 0) o) (suc c + nodes ks) 0 bs
      go (yes h) =
          let z : siblings ks ≡ 0 = omega (arith, siblings-⊕ ks bs) in
          rw (le-ltb kept sp h) (out_none o o (suc c) (leads bs (suc c + nodes ks) 0) 0 ks z x.0, x.1)
      go (no h) =
          let l : kept < sp = omega arith in
          let r : ℕ = get_or w kept 0 in
          let o₂ : List ℕ = set o (r * cell_width + next_place) 0 in
          let b = last_root w (suc c) ks bs m.roots (omega (arith, siblings-⊕ ks bs)) in
          rw (lt-ltb kept sp l) (
            retarget w o o₂ (suc c) (leads bs (suc c + nodes ks) 0) 0 ks bs m.roots x.0
                (get_or-set_same o (r * cell_width + next_place) 0 0 (at_end l)) (λ j e. get_or-set_other o (r * cell_width + next_place) j 0 0 e),
            out_frame o o₂ (suc c + nodes ks) 0 bs (λ j y z. get_or-set_other o (r * cell_width + next_place) j 0 0 (λ e. omega (arith, b.1))) x.1,
          )

  first_is : first_link c kept sp ≡ leads ks (suc c) 0
  unfolding first_link
  first_is = go (dec_le sp kept)
    where
      go : Dec (sp ≤ kept) → cond (ltb kept sp) (c + 2) 0 ≡ leads ks (suc c) 0
      go (yes h) = rw (le-ltb kept sp h) (sym (leads_none ks (suc c) 0 (omega (arith, siblings-⊕ ks bs))))
      go (no h) =
          let l : kept < sp = omega arith in
          let e : c + 2 ≡ suc (suc c) = omega arith in
          rw (lt-ltb kept sp l) (e ∙ sym (leads_some ks (suc c) 0 (omega (arith, siblings-⊕ ks bs))))

  long : length o₁ ≡ length o
  unfolding ended
  long = go (ltb kept sp)
    where
      go : (b : Bool) → length (cond b (set o (get_or w kept 0 * cell_width + next_place) 0) o) ≡ length o
      go true = length-set o (get_or w kept 0 * cell_width + next_place) 0
      go false = refl

  ended_behind : (j : ℕ) → n * cell_width ≤ j → get_or o₁ j 0 ≡ get_or o j 0
  unfolding ended
  ended_behind j h = go (dec_le sp kept)
    where
      go : Dec (sp ≤ kept) → get_or (cond (ltb kept sp) (set o (get_or w kept 0 * cell_width + next_place) 0) o) j 0 ≡ get_or o j 0
      go (yes x) = rw (le-ltb kept sp x)
      go (no x) = let y : kept < sp = omega arith in rw (lt-ltb kept sp y) (get_or-set_other o (get_or w kept 0 * cell_width + next_place) j 0 0 (λ e. omega (arith, inside y)))

  module _ (t : Option ℕ) (s l : ℕ) where
    abbrev vs : List ℕ
    vs = kind t ∷ id_word t ∷ s ∷ l ∷ first_link c kept sp ∷ (sp - kept) ∷ next_link w kept ∷ []

    abbrev o₃ : List ℕ
    o₃ = put o₁ (c * cell_width) vs

    fits : c * cell_width + cell_width ≤ length o₁
    fits = omega (arith, long, total, room.wide)

    at : (k : ℕ) → k < 7 → get_or o₃ (c * cell_width + k) 0 ≡ get_or vs k 0
    at k h = put_in o₁ (c * cell_width) vs fits k h

    on : (j : ℕ) → c * cell_width + cell_width ≤ j → get_or o₃ j 0 ≡ get_or o₁ j 0
    on j h = put_after o₁ (c * cell_width) vs fits j h

    d_is : suc c + nodes ks ≡ c + suc (nodes ks)
    d_is = omega arith

    pub pushed : Made (set w kept c) o₃ n c (tree t s l ks bs)
    unfolding nodes
    pushed = record {
      cells = record {
        kind_at = ap (λ (k : ℕ). get_or o₃ k 0) (sym (add-zero (c * cell_width))) ∙ at 0 (omega arith);
        id_at = at 1 (omega arith);
        start_at = at 2 (omega arith);
        length_at = at 3 (omega arith);
        first_at = at 4 (omega arith) ∙ first_is;
        count_at = at 5 (omega arith) ∙ omega (arith, siblings-⊕ ks bs);
        next_at = at 6 (omega arith) ∙ next_is w (suc c + nodes ks) bs (roots_after w (suc c) ks bs m.roots) ∙ ap (λ (k : ℕ). leads bs k 0) d_is;
        inner = out_frame o₁ o₃ (suc c) 0 ks (λ j x y. on j (omega arith)) split_off.0;
        after = subst (λ (k : ℕ). Out o₃ k 0 bs) d_is (out_frame o₁ o₃ (suc c + nodes ks) 0 bs (λ j x y. on j (omega arith)) split_off.1);
      };
      roots = record {
        at = get_or-set_same w kept c 0 (omega (arith, few, room.deep));
        after = subst (λ (k : ℕ). Roots (set w kept c) k bs) d_is (
            roots_frame w (set w kept c) (suc c + nodes ks) bs (λ j x. get_or-set_other w kept j c 0 (λ e. omega arith)) (roots_after w (suc c) ks bs m.roots));
      };
      size = total;
    }

  pub out_behind : (k i s l j : ℕ) → n * cell_width ≤ j
      → get_or (put o₁ (c * cell_width) (k ∷ i ∷ s ∷ l ∷ first_link c kept sp ∷ (sp - kept) ∷ next_link w kept ∷ [])) j 0 ≡ get_or o j 0
  out_behind k i s l j h =
      put_after o₁ (c * cell_width) (k ∷ i ∷ s ∷ l ∷ first_link c kept sp ∷ (sp - kept) ∷ next_link w kept ∷ []) (omega (arith, long, total, room.wide)) j (omega (arith, total))
      ∙ ended_behind j h

-- there is room for a tree that can be written
pub taken_fits : {w o : List ℕ} {c kept sp : ℕ} → Taken w o c kept sp → Fit w o c kept sp
taken_fits {w} {o} {c} {kept} {sp} p =
    let n = p.total in
    let ks = p.kids in
    let rs = p.rest in
    let m = p.made in
    let lent = p.room in
    let size = total w o n c ks rs m lent in
    let some-kids = siblings-⊕ ks rs in
    rw (← p.left, ← p.all) (record {
      deep = omega (arith, few w o n c ks rs m lent, lent.deep);
      below = omega (arith, some-kids);
      few = omega (arith, some-kids, siblings_nodes ks, siblings_nodes rs, size, lent.few);
      first = λ h. omega (arith, some-kids, siblings_nodes ks, size, lent.few);
      next = λ h. omega (arith, first_root w (suc c + nodes ks) rs (roots_after w (suc c) ks rs m.roots) h, siblings_nodes rs, size, lent.few);
      last = at_end w o n c ks rs m lent;
      cell = omega (arith, size, lent.wide);
      number = omega (arith, size, lent.few);
    })

pub push_law : (w o o₁ o₃ : List ℕ) (c kept sp k i s l first next : ℕ) → first ≡ first_link c kept sp → next ≡ next_link w kept
    → o₁ ≡ ended w o kept sp → o₃ ≡ put o₁ (c * cell_width) (k ∷ i ∷ s ∷ l ∷ first ∷ (sp - kept) ∷ next ∷ [])
    → Put w (set w kept c) o o₃ c kept sp k i s l
push_law w o o₁ o₃ c kept sp k i s l first next ef en e₁ e₃ = record {
  made = λ p t ek ei. rw (e₃, e₁, ef, en, ek, ei) (rw (p.left, p.all) at (pushed w o p.total c p.kids p.rest p.made p.room t s l));
  out_behind = λ p. record { same = λ j h. rw (e₃, e₁, ef, en) (rw (p.left, p.all) at (out_behind w o p.total c p.kids p.rest p.made p.room k i s l j h)) };
}

-- Laws of trees held in a store: they stay where their words stay, and what their nodes tell. Assumes nothing.
use mathlib.Core.Path.{◌≡◌, refl, sym, subst, ◌∙◌}
use mathlib.Core.List.{List, [], ◌∷◌}
use mathlib.Core.Bool.{Bool, true, false, cond}
use Rattle.std.specs.Prelude.{Option}
use Prim.Native.Nat.{ℕ, suc, ◌+◌, min, max, ◌≤◌, ◌<◌}
use native.Mathlib.Omega.{arith}
use borrow.Author.Tests.{eq-eqb, ne_eqb}
use lib.Dec.{T as So}
use lib.ListN.{length, get_or, length-append}
use Rattle.tree.specs.Trees.{Trees, nil, tree, part, nodes, siblings}
use Rattle.tree.specs.Cells.{packed, id_word}
use Rattle.tree.specs.Balance.{SetType, in_set, type_under, all_of, total, same_type}
use Rattle.tree.proofs.BalanceLaws.{same_refl, equal_is, all_of_counted, total_counted}
use Rattle.store.proofs.Types.{typed_is, typed_part}
use Rattle.words.specs.Words.{put}
use Rattle.store.specs.Store.{likes, liked, liked_on, word, stored_kind, Node, Staged, Holds, Same, told, Readable, PushedTree, PushedPart}
use Rattle.words.proofs.Stores.{put_length, put_in, put_before, put_after}

pub same_less : (w w' : List ℕ) (base top low base' top' low' : ℕ) → base ≤ base' → top' ≤ top → low ≤ low' → Same w w' base top low → Same w w' base' top' low'
same_less w w' base top low base' top' low' a b c s = record {
  size = s.size;
  below = λ j l m. s.below j (omega arith) (omega arith);
  above = λ j l. s.above j (omega arith);
}

-- words that stay twice
pub same_then : (w w₁ w' : List ℕ) (base top low : ℕ) → Same w w₁ base top low → Same w₁ w' base top low → Same w w' base top low
same_then w w₁ w' base top low a b = record {
  size = b.size ∙ a.size;
  below = λ j h m. b.below j h m ∙ a.below j h m;
  above = λ j h. b.above j h ∙ a.above j h;
}

pub same_put : (w : List ℕ) (at : ℕ) (vs : List ℕ) → at + length vs ≤ length w → Same w (put w at vs) 0 at (at + length vs)
same_put w at vs h = record {
  size = put_length w at vs h;
  below = λ j l m. put_before w at vs h j m;
  above = λ j l. put_after w at vs h j l;
}

module _ (f : Bool) (w w' : List ℕ) (base top low top' low' : ℕ) (up : top ≤ top') (down : low' ≤ low) (s : Same w w' base top low) where
  node_frame : (n k i p l o : ℕ) (ts : Trees) → Node w base top n k i p l o ts → Node w' base top' n k i p l o ts
  node_frame n k i p l o ts h =
      let at : (j : ℕ) → j < 10 → get_or w' (n + j) 0 ≡ get_or w (n + j) 0 = λ j m. s.below (n + j) (omega arith) (omega arith) in
      record {
        live = h.live;
        above = h.above;
        below = omega arith;
        kind_at = s.below n h.above (omega arith) ∙ h.kind_at;
        id_at = at 1 (omega arith) ∙ h.id_at;
        start_at = at 2 (omega arith) ∙ h.start_at;
        length_at = at 3 (omega arith) ∙ h.length_at;
        cells_at = at 6 (omega arith) ∙ h.cells_at;
        words_at = at 7 (omega arith) ∙ h.words_at;
        trees_at = at 8 (omega arith) ∙ h.trees_at;
        like_at = at 9 (omega arith) ∙ h.like_at;
      }

  pub staged_frame : (a : ℕ) (ws : List ℕ) → Staged w low a ws → Staged w' low' a ws
  staged_frame a ws h = record {
    above = omega arith;
    within = omega (arith, s.size);
    same = λ k l. s.above (a + k) (omega arith) ∙ h.same k l;
    narrow = h.narrow;
  }

  -- a list of trees stays where its words stay
  pub frame : (n : ℕ) (ts : Trees) → Holds f w base top low n ts → Holds f w' base top' low' n ts
  frame n nil h = h
  frame n (tree t p l kids rest) h =
      let m = h.node in
      let a : get_or w' (n + 4) 0 ≡ get_or w (n + 4) 0 = s.below (n + 4) (omega arith) (omega arith) in
      let b : get_or w' (n + 5) 0 ≡ get_or w (n + 5) 0 = s.below (n + 5) (omega arith) (omega arith) in
      record {
        node = node_frame n _ _ _ _ _ _ m;
        first = rw a (frame (get_or w (n + 4) 0) kids h.first);
        next = rw b (frame (get_or w (n + 5) 0) rest h.next);
      }
  frame n (part p l ws rest) h =
      let m = h.node in
      let a : get_or w' (n + 4) 0 ≡ get_or w (n + 4) 0 = s.below (n + 4) (omega arith) (omega arith) in
      let b : get_or w' (n + 5) 0 ≡ get_or w (n + 5) 0 = s.below (n + 5) (omega arith) (omega arith) in
      record {
        node = node_frame n _ _ _ _ _ _ m;
        first = rw a (staged_frame _ ws h.first);
        next = rw b (frame (get_or w (n + 5) 0) rest h.next);
      }

module _ (f : Bool) (w : List ℕ) (base top low : ℕ) where
  pub tells_cells : (n : ℕ) (ts : Trees) → Holds f w base top low n ts → told w n 6 ≡ word (nodes ts)
  unfolding nodes
  tells_cells n nil h = rw (eq-eqb n 0 h)
  tells_cells n (tree t p l kids rest) h = rw (ne_eqb n 0 (λ e. omega (arith, h.node.live))) h.node.cells_at
  tells_cells n (part p l ws rest) h = rw (ne_eqb n 0 (λ e. omega (arith, h.node.live))) h.node.cells_at

  pub tells_words : (n : ℕ) (ts : Trees) → Holds f w base top low n ts → told w n 7 ≡ word (length (packed ts))
  unfolding packed
  tells_words n nil h = rw (eq-eqb n 0 h)
  tells_words n (tree t p l kids rest) h = rw (ne_eqb n 0 (λ e. omega (arith, h.node.live))) h.node.words_at
  tells_words n (part p l ws rest) h = rw (ne_eqb n 0 (λ e. omega (arith, h.node.live))) h.node.words_at

  pub tells_trees : (n : ℕ) (ts : Trees) → Holds f w base top low n ts → told w n 8 ≡ word (siblings ts)
  unfolding siblings
  tells_trees n nil h = rw (eq-eqb n 0 h)
  tells_trees n (tree t p l kids rest) h = rw (ne_eqb n 0 (λ e. omega (arith, h.node.live))) h.node.trees_at
  tells_trees n (part p l ws rest) h = rw (ne_eqb n 0 (λ e. omega (arith, h.node.live))) h.node.trees_at

  pub readable : (n : ℕ) (ts : Trees) → top ≤ length w → Holds f w base top low n ts → Readable w n
  readable n nil l h e = absurd (e h)
  readable n (tree t p m kids rest) l h e = omega (arith, h.node.below)
  readable n (part p m ws rest) l h e = omega (arith, h.node.below)

so_true : (x : Bool) → So x → x ≡ true
so_true true h = refl
so_true false h = absurd h

-- what is told of siblings by their own type
likes_nil : (t : SetType) → 1 ≡ likes t nil
unfolding likes all_of total
likes_nil t = refl

likes_part : (t : SetType) (s l : ℕ) (ws : List ℕ) (rest : Trees) → 0 ≡ likes t (part s l ws rest)
unfolding likes all_of
likes_part t s l ws rest = refl

likes_tree : (t : SetType) (s l : ℕ) (kids rest : Trees) → liked_on (max 1 (likes t kids)) (likes t rest) ≡ likes t (tree t.type s l kids rest)
unfolding likes all_of total
likes_tree t s l kids rest = rw (so_true (same_type t t.type) (same_refl t)) (go (all_of t kids) (all_of t rest))
  where
    go : (x y : Bool) → liked_on (max 1 (cond x (word (suc (total t kids))) 0)) (cond y (word (suc (total t rest))) 0)
        ≡ cond y (word (suc (elim x [ true ↦ suc (total t kids) | false ↦ 1 ] + total t rest))) 0
    go true true = let e : min (suc (total t rest)) 4294967295 ≡ 0 → ⊥ = λ z. omega arith in rw (ne_eqb (word (suc (total t rest))) 0 e) (omega arith)
    go false true = let e : min (suc (total t rest)) 4294967295 ≡ 0 → ⊥ = λ z. omega arith in rw (ne_eqb (word (suc (total t rest))) 0 e) (omega arith)
    go true false = refl
    go false false = refl

-- and by another type: the same where the two count as one, and else 0
likes_typed : (f : Bool) (t u : Option ℕ) (s l : ℕ) (kids rest : Trees)
    → cond (same_type (in_set f t) u) (likes (in_set f u) (tree u s l kids rest)) 0 ≡ likes (in_set f t) (tree u s l kids rest)
unfolding likes all_of
likes_typed f t u s l kids rest = go (same_type (in_set f t) u) refl
  where
    ts : Trees
    ts = tree u s l kids rest

    go : (x : Bool) → same_type (in_set f t) u ≡ x → cond x (likes (in_set f u) ts) 0 ≡ likes (in_set f t) ts
    go true e =
        let same = equal_is (type_under f t) (type_under f u) (subst So (sym e) tt) in
        sym (rw (all_of_counted f t u same ts, total_counted f t u same ts))
    go false e = rw e

module _ (f : Bool) (w : List ℕ) (base top low : ℕ) where
  pub tells_like : (n : ℕ) (ts : Trees) (t : Option ℕ) → Holds f w base top low n ts → liked w n (stored_kind (in_set f t)) (id_word t) ≡ likes (in_set f t) ts
  tells_like n nil t h = rw (eq-eqb n 0 h) (likes_nil (in_set f t))
  tells_like n (part s l ws rest) t h =
      rw (ne_eqb n 0 (λ e. omega (arith, h.node.live)), typed_part f t w n h.node.kind_at) (likes_part (in_set f t) s l ws rest)
  tells_like n (tree u s l kids rest) t h =
      rw (ne_eqb n 0 (λ e. omega (arith, h.node.live)), typed_is f t u w n h.node.kind_at h.node.id_at, h.node.like_at) (likes_typed f t u s l kids rest)

-- a node written at the top
module _ (f : Bool) (w : List ℕ) (top : ℕ) (room : top + 10 ≤ length w) (base low : ℕ) (live : 0 < base) (above : base ≤ top) (free : top + 10 ≤ low) where
  module _ (k i s l a n x y z o : ℕ) where
    abbrev vs : List ℕ
    vs = k ∷ i ∷ s ∷ l ∷ a ∷ n ∷ x ∷ y ∷ z ∷ o ∷ []

    abbrev w₁ : List ℕ
    w₁ = put w top vs

    kept : Same w w₁ base top low
    kept = same_less w w₁ 0 top (top + 10) base top low (omega arith) (omega arith) free (same_put w top vs room)

    at : (j : ℕ) → j < 10 → get_or w₁ (top + j) 0 ≡ get_or vs j 0
    at = put_in w top vs room

    new_node : (ts : Trees) → x ≡ word (nodes ts) → y ≡ word (length (packed ts)) → z ≡ word (siblings ts) → Node w₁ base (top + 10) top k i s l o ts
    new_node ts ex ey ez =
        let zero_at : top + 0 ≡ top = omega arith in
        record {
          live = omega arith;
          above = above;
          below = omega arith;
          kind_at = rw zero_at at (at 0 (omega arith));
          id_at = at 1 (omega arith);
          start_at = at 2 (omega arith);
          length_at = at 3 (omega arith);
          cells_at = at 6 (omega arith) ∙ ex;
          words_at = at 7 (omega arith) ∙ ey;
          trees_at = at 8 (omega arith) ∙ ez;
          like_at = at 9 (omega arith);
        }

    pub new_tree : (t : Option ℕ) (kids rest : Trees) → k ≡ stored_kind (in_set f t) → i ≡ id_word t → Holds f w base top low a kids → Holds f w base top low n rest
        → x ≡ word (word (told w a 6 + told w n 6) + 1) → y ≡ word (told w a 7 + told w n 7) → z ≡ word (told w n 8 + 1)
        → o ≡ liked_on (max 1 (liked w a k i)) (liked w n k i)
        → Holds f w₁ base (top + 10) low top (tree t s l kids rest)
    unfolding nodes packed siblings
    new_tree t kids rest ek ei ha hn ex ey ez eo =
        let c₁ = tells_cells f w base top low a kids ha in
        let c₂ = tells_cells f w base top low n rest hn in
        let p₁ = tells_words f w base top low a kids ha in
        let p₂ = tells_words f w base top low n rest hn in
        let q₂ = tells_trees f w base top low n rest hn in
        let l₁ = tells_like f w base top low a kids t ha in
        let l₂ = tells_like f w base top low n rest t hn in
        let own : o ≡ likes (in_set f t) (tree t s l kids rest) = eo ∙ rw (ek, ei, l₁, l₂) (likes_tree (in_set f t) s l kids rest) in
        record {
          node = rw (← ek, ← ei, ← own) (new_node (tree t s l kids rest) (omega arith) (rw length-append (omega arith)) (omega arith));
          first = rw (at 4 (omega arith)) (frame f w w₁ base top low (top + 10) low (omega arith) (omega arith) kept a kids ha);
          next = rw (at 5 (omega arith)) (frame f w w₁ base top low (top + 10) low (omega arith) (omega arith) kept n rest hn);
        }

    pub new_part : (ws : List ℕ) (rest : Trees) → k ≡ 2 → o ≡ 0 → i ≡ length ws → Staged w low a ws → Holds f w base top low n rest
        → x ≡ word (told w n 6 + 1) → y ≡ word (i + told w n 7) → z ≡ word (told w n 8 + 1)
        → Holds f w₁ base (top + 10) low top (part s l ws rest)
    unfolding nodes packed siblings
    new_part ws rest ek eo ei ha hn ex ey ez =
        let c₂ = tells_cells f w base top low n rest hn in
        let p₂ = tells_words f w base top low n rest hn in
        let q₂ = tells_trees f w base top low n rest hn in
        record {
          node = rw (← ek, ← ei, ← eo) (new_node (part s l ws rest) (omega arith) (rw length-append (omega arith)) (omega arith));
          first = rw (at 4 (omega arith)) (staged_frame f w w₁ base top low (top + 10) low (omega arith) (omega arith) kept a ws ha);
          next = rw (at 5 (omega arith)) (frame f w w₁ base top low (top + 10) low (omega arith) (omega arith) kept n rest hn);
        }

module _ (w w' : List ℕ) (top k i s l a n x y z o : ℕ) (room : top + 10 ≤ length w) where
  abbrev pushed : List ℕ
  pushed = put w top (k ∷ i ∷ s ∷ l ∷ a ∷ n ∷ x ∷ y ∷ z ∷ o ∷ [])

  pushed_kept : w' ≡ pushed → Same w w' 0 top (top + 10)
  pushed_kept e = rw e (same_put w top (k ∷ i ∷ s ∷ l ∷ a ∷ n ∷ x ∷ y ∷ z ∷ o ∷ []) room)

  pub pushed_tree : w' ≡ pushed
      → x ≡ word (word (told w a 6 + told w n 6) + 1) → y ≡ word (told w a 7 + told w n 7) → z ≡ word (told w n 8 + 1)
      → o ≡ liked_on (max 1 (liked w a k i)) (liked w n k i)
      → PushedTree w w' top k i s l a n top
  pushed_tree e ex ey ez eo = record {
    address = refl;
    kept = pushed_kept e;
    holds = λ f base low t ks rest live above free ek ei ha hn.
        subst (λ (v : List ℕ). Holds f v base (top + 10) low top (tree t s l ks rest)) (sym e) (new_tree f w top room base low live above free k i s l a n x y z o t ks rest ek ei ha hn ex ey ez eo);
  }

  pub pushed_part : w' ≡ pushed → k ≡ 2 → o ≡ 0
      → x ≡ word (told w n 6 + 1) → y ≡ word (i + told w n 7) → z ≡ word (told w n 8 + 1)
      → PushedPart w w' top s l a i n top
  pushed_part e ek eo ex ey ez = record {
    address = refl;
    kept = pushed_kept e;
    holds = λ f base low ws rest live above free ei ha hn.
        subst (λ (v : List ℕ). Holds f v base (top + 10) low top (part s l ws rest)) (sym e) (new_part f w top room base low live above free k i s l a n x y z o ws rest ek eo ei ha hn ex ey ez);
  }

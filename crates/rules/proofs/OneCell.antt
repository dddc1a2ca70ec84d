-- At a cell before which none breaks a rule, the one-pass form finds a broken rule exactly when the cell breaks one. Rule by
-- rule. Assumes nothing.
use mathlib.Core.Path.{◌≡◌, refl, sym, ap, subst, ◌∙◌}
use mathlib.Core.Bool.{Bool, true, false, ◌&&◌, ◌||◌, not, true≢false}
use mathlib.Core.List.{List}
use Prim.Native.Nat.{ℕ, zero, suc, ◌+◌, ◌≤◌, ◌<◌}
use native.Mathlib.Omega.{arith}
use native.Mathlib.Decide.{ℕ_discrete}
use borrow.Author.Tests.{lt-ltb, le-leb, eq-eqb, ne_eqb, ltb-true, ltb-false, leb-true, leb-false, eqb-true, eqb-false, not-false}
use lib.Dec.{ltb, leb, eqb}
use lib.ListN.{length, take, drop}
use Rattle.rules.specs.Cell.{Cell, is_part, first_child}
use Rattle.rules.specs.PartLowest.{part_kept}
use Rattle.rules.specs.Rules.{cell, Leads, Chain, words_before, words_at, Breaks, top_kind, top_position, top_next, no_kind, id_of_part, id_of_none, id_past, no_first, no_next, first_jumps, next_jumps, miscounts, unreached, on_two_chains, overlaps, sticks_out, ends_past, part_apart, part_past, part_wrong, words_left, words_alone}
use Rattle.rules.specs.Lowest.{chain, chains, any_part, Named, top_broken, kind_broken, id_broken, link_broken, count_broken, place_broken, order_broken, inside_broken, end_broken, part_broken, stray_broken, any_of, broken}
use Rattle.rules.proofs.Tests.{both, neither, either, untrue}
use Rattle.rules.proofs.PartRanges.{part_rules, rules_part}
use Rattle.rules.proofs.Keeping.{Keeps, child_tree, leads, count_tree}
use Rattle.rules.proofs.Links.{rest, chain_one, chain_counted, no_parts, some_part}
use Rattle.rules.proofs.Sited.{Sited}

module _ (ks : List Cell) (T S : ℕ) (ws : List ℕ) where
  module _ (c w : ℕ) (d : Named) (ds : List Named) (pos : 1 ≤ c) (most : c ≤ length ks) (words : w ≡ words_before ks c) (at : Sited ks T S ws c d ds) where
    abbrev k : Cell
    k = cell ks c

    abbrev Bad : Type 0
    Bad = Breaks ks T S ws c

    unlike : (x y : ℕ) → eqb x y ≡ false → x ≡ y → ⊥
    unlike x y h = eqb-false x y h

    -- from the one-pass form to the rules
    top_bad : top_broken c k ≡ true → Bad
    unfolding top_broken
    top_bad h =
        let (a, b) = both (eqb c 1) _ h in
        let one = eqb-true c 1 a in
        either (not (eqb k.kind 1)) _ Bad b (λ e. top_kind one (unlike k.kind 1 (untrue _ e)))
        (λ b. either (not (eqb k.position 0)) _ Bad b (λ e. top_position one (unlike k.position 0 (untrue _ e))) (λ e. top_next one (unlike k.next 0 (untrue _ e))))

    kind_bad : kind_broken k ≡ true → Bad
    unfolding kind_broken
    kind_bad h =
        let (a, b) = neither (eqb k.kind 1) _ (untrue _ h) in
        let (x, y) = neither (eqb k.kind 3) (is_part k) b in
        no_kind (unlike k.kind 1 a) (unlike k.kind 2 y) (unlike k.kind 3 x)

    id_bad : id_broken T k ≡ true → Bad
    unfolding id_broken
    id_bad h = go (eqb k.kind 1) refl h (ℕ_discrete k.kind 2) (ℕ_discrete k.kind 3)
      where
        go : (x : Bool) → eqb k.kind 1 ≡ x → elim x [ true ↦ leb T k.id | false ↦ not (eqb k.id 0) ] ≡ true → Dec (k.kind ≡ 2) → Dec (k.kind ≡ 3) → Bad
        go true e h p q = id_past (eqb-true k.kind 1 e) (leb-true T k.id h)
        go false e h (yes p) q = id_of_part p (unlike k.id 0 (untrue _ h))
        go false e h (no p) (yes q) = id_of_none q (unlike k.id 0 (untrue _ h))
        go false e h (no p) (no q) = no_kind (unlike k.kind 1 e) p q

    link_bad : (x : ℕ) → link_broken (length ks) c x ≡ true → (x ≡ 0 → ⊥) × (Leads ks c x → ⊥)
    unfolding link_broken
    link_bad x h =
        let (a, b) = both (not (eqb x 0)) _ h in
        (unlike x 0 (untrue _ a), (λ l. true≢false (sym (rw (lt-ltb c x l.0, le-leb x (length ks) l.1)) ∙ untrue (ltb c x && leb x (length ks)) b)))

    count_bad : count_broken c k (chains (suc c) (rest ks (suc c))) ≡ true → Bad
    unfolding count_broken
    count_bad h =
        let (a, b) = both (not (is_part k)) _ h in
        let m = chain c k.first (chains (suc c) (rest ks (suc c))) in
        miscounts m (unlike k.kind 2 (untrue _ a)) (subst (λ x. Chain ks c x m) (sym (child_tree k (untrue _ a))) (chain_counted ks c k.first))
        (unlike k.count m (untrue _ b))

    part_bad : part_broken T ws w k ≡ true → Bad
    unfolding part_broken
    part_bad h =
        let (a, b) = both (is_part k) _ h in
        let two = eqb-true k.kind 2 a in
        either (not (eqb k.first w)) _ Bad b (λ e. part_apart two (λ s. unlike k.first w (untrue _ e) (s ∙ sym words)))
        (λ b. either (ltb (length ws) (k.first + k.count)) _ Bad b (λ e. part_past two (ltb-true (length ws) (k.first + k.count) e)) (λ e. part_wrong two (λ s. true≢false (sym (rules_part (take k.count (drop k.first ws)) T k.len s) ∙ untrue _ e))))

    stray_bad : stray_broken ws c k (rest ks (suc c)) ≡ true → Bad
    unfolding stray_broken
    stray_bad h = let (a, b) = both (not (any_part (rest ks (suc c)))) _ h in go (untrue _ a) (is_part k) refl b
      where
        go : any_part (rest ks (suc c)) ≡ false → (p : Bool) → is_part k ≡ p → elim p [ true ↦ not (eqb (k.first + k.count) (length ws)) | false ↦ eqb c 1 && not (eqb (length ws) 0) ] ≡ true → Bad
        go a true p b = words_left (eqb-true k.kind 2 p) (no_parts ks (suc c) (omega arith) a) (unlike (k.first + k.count) (length ws) (untrue _ b))
        go a false p b =
            let (x, y) = both (eqb c 1) _ b in
            words_alone (eqb-true c 1 x) (λ v. here v (eqb-true c 1 x)) (unlike (length ws) 0 (untrue _ y))
          where
            here : (v : ℕ) → c ≡ 1 → (cell ks v).kind ≡ 2 → ⊥
            here zero one e = omega arith
            here (suc v) one e = next (ℕ_discrete (suc v) c)
              where
                next : Dec (suc v ≡ c) → ⊥
                next (yes s) = eqb-false k.kind 2 p (ap (λ y. (cell ks y).kind) (sym s) ∙ e)
                next (no s) = no_parts ks (suc c) (omega arith) a (suc v) (omega arith) e

    pub broken_breaks : broken T ws (length ks) c w d ds k (rest ks (suc c)) ≡ true → Bad
    unfolding broken any_of
    broken_breaks h = go (place_broken c d ds) refl
      where
        go : (x : Bool) → place_broken c d ds ≡ x → Bad
        go true e = at.misplaced e
        go false e =
            either (top_broken c k) _ Bad h top_bad (λ h.
            either (kind_broken k) _ Bad h kind_bad (λ h.
            either (id_broken T k) _ Bad h id_bad (λ h.
            either (link_broken (length ks) c k.next) _ Bad h (λ b. let (x, y) = link_bad k.next b in no_next x y) (λ h.
            either (link_broken (length ks) c (first_child k)) _ Bad h (λ b. let (x, y) = link_bad (first_child k) b in no_first x y) (λ h.
            either (count_broken c k (chains (suc c) (rest ks (suc c)))) _ Bad h count_bad (λ h.
            either (place_broken c d ds) _ Bad h at.misplaced (λ h.
            either (order_broken d k) _ Bad h (at.early e) (λ h.
            either (inside_broken d k) _ Bad h (at.outside e) (λ h.
            either (end_broken c d k) _ Bad h (at.far e) (λ h.
            either (part_broken T ws w k) _ Bad h part_bad (λ h.
            either (stray_broken ws c k (rest ks (suc c))) false Bad h stray_bad (λ h. absurd (true≢false (sym h))))))))))))))

    -- and back
    module _ (ok : Keeps T ws (length ks) c w d ds k (rest ks (suc c))) where
      pub top_is : c ≡ 1 → (k.kind ≡ 1) × (k.position ≡ 0) × (k.next ≡ 0)
      unfolding top_broken
      top_is e =
          let h : not (eqb k.kind 1) || (not (eqb k.position 0) || not (eqb k.next 0)) ≡ false = rw (eq-eqb c 1 e) at ok.top in
          let (a, b) = neither (not (eqb k.kind 1)) _ h in
          let (x, y) = neither (not (eqb k.position 0)) (not (eqb k.next 0)) b in
          (eqb-true k.kind 1 (not-false _ a), eqb-true k.position 0 (not-false _ x), eqb-true k.next 0 (not-false _ y))

      kinds_are : (k.kind ≡ 1 → ⊥) → (k.kind ≡ 3 → ⊥) → k.kind ≡ 2
      unfolding kind_broken
      kinds_are a b =
          eqb-true k.kind 2 (rw (ne_eqb k.kind 1 a, ne_eqb k.kind 3 b) at (not-false (eqb k.kind 1 || (eqb k.kind 3 || is_part k)) ok.kinds))

      id_zero : (k.kind ≡ 1 → ⊥) → k.id ≡ 0
      unfolding id_broken
      id_zero a = eqb-true k.id 0 (not-false (eqb k.id 0) (rw (ne_eqb k.kind 1 a, id_broken) at ok.ids))

      id_known : k.kind ≡ 1 → k.id < T
      unfolding id_broken
      id_known e = leb-false T k.id (rw (eq-eqb k.kind 1 e, id_broken) at ok.ids)

      count_is : (k.kind ≡ 2 → ⊥) → (m : ℕ) → Chain ks c (first_child k) m → k.count ≡ m
      count_is a m h =
          let p : is_part k ≡ false = ne_eqb k.kind 2 a in
          let e = count_tree c k (chains (suc c) (rest ks (suc c))) p ok.counts in
          e ∙ chain_one ks c k.first _ m (chain_counted ks c k.first) (subst (λ x. Chain ks c x m) (child_tree k p) h)

      part_is : k.kind ≡ 2 → (k.first ≡ words_before ks c) × (k.first + k.count ≤ length ws) × (part_kept T k.len (words_at ks T S ws k) ≡ true)
      unfolding part_broken
      part_is e =
          let h : not (eqb k.first w) || (ltb (length ws) (k.first + k.count) || not (part_kept T k.len (take k.count (drop k.first ws)))) ≡ false = rw (eq-eqb k.kind 2 e) at ok.words in
          let (x, y) = neither (not (eqb k.first w)) _ h in
          let (u, v) = neither (ltb (length ws) (k.first + k.count)) _ y in
          (eqb-true k.first w (not-false _ x) ∙ words, ltb-false (length ws) (k.first + k.count) u, not-false _ v)

      stray_is : any_part (rest ks (suc c)) ≡ false → ((k.kind ≡ 2 → k.first + k.count ≡ length ws) × ((k.kind ≡ 2 → ⊥) → c ≡ 1 → length ws ≡ 0))
      unfolding stray_broken
      stray_is a = (
        (λ e. eqb-true (k.first + k.count) (length ws) (not-false (eqb (k.first + k.count) (length ws)) (rw (a, eq-eqb k.kind 2 e) at ok.stray))),
        (λ e one. eqb-true (length ws) 0 (not-false (eqb (length ws) 0) (rw (a, ne_eqb k.kind 2 e, eq-eqb c 1 one) at ok.stray))),
      )

      none_after : ((b : ℕ) → c < b → (cell ks b).kind ≡ 2 → ⊥) → any_part (rest ks (suc c)) ≡ false
      none_after h = go (any_part (rest ks (suc c))) refl
        where
          go : (x : Bool) → any_part (rest ks (suc c)) ≡ x → any_part (rest ks (suc c)) ≡ false
          go true e = let (b, l, p) = some_part ks (suc c) (omega arith) e in absurd (h b l p)
          go false e = e

      pub keeps_clean : Bad → ⊥
      keeps_clean (top_kind e n) = n (top_is e).0
      keeps_clean (top_position e n) = n (top_is e).1
      keeps_clean (top_next e n) = n (top_is e).2
      keeps_clean (no_kind a b e) = b (kinds_are a e)
      keeps_clean (id_of_part e n) = n (id_zero (λ s. omega arith))
      keeps_clean (id_of_none e n) = n (id_zero (λ s. omega arith))
      keeps_clean (id_past e l) = omega (arith, id_known e)
      keeps_clean (no_first a b) = b (leads (length ks) c (first_child k) ok.first_link a)
      keeps_clean (no_next a b) = b (leads (length ks) c k.next ok.next_link a)
      keeps_clean (first_jumps p e l n) = n (at.by_first ok.place p e l)
      keeps_clean (next_jumps b e l n) = n (at.by_next ok.place b e l)
      keeps_clean (miscounts m a h n) = n (count_is a m h)
      keeps_clean (unreached a n) = n (at.reached ok.place a)
      keeps_clean (on_two_chains p q a b n) = n (at.one_parent ok.place p q a b)
      keeps_clean (overlaps b e l m) = omega (arith, at.in_order ok.place ok.order b e l)
      keeps_clean (sticks_out p u ne l) = omega (arith, at.in_parent ok.place ok.inside p u ne)
      keeps_clean (ends_past a ne s l) = omega (arith, at.near ok.place ok.ends a ne s)
      keeps_clean (part_apart e n) = n (part_is e).0
      keeps_clean (part_past e l) = omega (arith, (part_is e).1)
      keeps_clean (part_wrong e h) = h (part_rules (words_at ks T S ws k) T k.len (part_is e).2)
      keeps_clean (words_left e a n) = n ((stray_is (none_after a)).0 e)
      keeps_clean (words_alone e a n) = n ((stray_is (none_after (λ b l. a b))).1 (a c) e)

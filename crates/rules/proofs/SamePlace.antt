-- The one-pass form names the very cell that document 01's rules name: `bad_cell` gives a place exactly when it is the place of
-- refusal 15, and none exactly when there is none. By induction on the cells still to read. Assumes nothing.
use mathlib.Core.Path.{◌≡◌, refl, sym, ap, subst, ◌∙◌}
use mathlib.Core.Bool.{Bool, true, false, ◌||◌, not, true≢false}
use mathlib.Core.List.{List, [], ◌∷◌}
use mathlib.Core.Logic.{◌↔◌, ◌⊎◌, inl, inr}
use Rattle.std.specs.Prelude.{Option, None, Some}
use Prim.Native.Nat.{ℕ, zero, suc, ◌+◌, ◌-◌, ◌%◌, ◌≤◌, ◌<◌}
use native.Mathlib.Omega.{arith}
use native.Mathlib.Decide.{dec_lt, ℕ_discrete}
use borrow.Author.Tests.{eq-eqb, ltb-true, eqb-true, eqb-false, not-false}
use lib.Dec.{eqb}
use lib.ListN.{length, length-drop}
use Rattle.tree.specs.Cells.{cell_width}
use Rattle.rules.specs.Cell.{Cell, cells_of, first_child}
use Rattle.rules.specs.Rules.{blank, cell, Leads, On, begins, goes_on, Below, child, deeper, Starts, top_starts, child_starts, words_before, Breaks, unreached, LowestCell, Place, no_cells, at_cell}
use Rattle.rules.specs.Lowest.{Named, named, place_broken, order_broken, inside_broken, end_broken, broken, next_named, first_named, words_end, lowest_from, top_named, bad_cell}
use Rattle.rules.proofs.Tests.{neither, none_left}
use Rattle.rules.proofs.Keeping.{Keeps, keeps}
use Rattle.rules.proofs.Links.{first_from, next_from, on_later, rest, rest_cons}
use Rattle.rules.proofs.Opens.{Open, links, In, Opens, Complete}
use Rattle.rules.proofs.Sited.{Sited, sited}
use Rattle.rules.proofs.OneCell.{broken_breaks, keeps_clean, top_is}
use Rattle.rules.proofs.Pushes.{push_first, push_next, complete_next}

module _ (ks : List Cell) (T S : ℕ) (ws : List ℕ) where
  -- before the cell c is read
  record Before (c w : ℕ) (os : List Open) : Type 0 where
    opens : Opens ks S c os
    full : Complete ks S c os
    clean : (b : ℕ) → 1 ≤ b → b < c → Breaks ks T S ws b → ⊥
    words : w ≡ words_before ks c

  -- what a number says: 0 for no cell that breaks a rule, else the lowest one
  abbrev Found : ℕ → Type 0
  Found r = ((r ≡ 0) × ((b : ℕ) → 1 ≤ b → b ≤ length ks → Breaks ks T S ws b → ⊥)) ⊎ LowestCell ks T S ws r

  words_next : (c w : ℕ) → w ≡ words_before ks c → words_end w (cell ks c) ≡ words_before ks (suc c)
  unfolding words_end words_before
  words_next c w e = rw e

  clean_next : (c : ℕ) → ((b : ℕ) → 1 ≤ b → b < c → Breaks ks T S ws b → ⊥) → (Breaks ks T S ws c → ⊥) → (b : ℕ) → 1 ≤ b → b < suc c → Breaks ks T S ws b → ⊥
  clean_next c h k b l m = go (ℕ_discrete b c)
    where
      go : Dec (b ≡ c) → Breaks ks T S ws b → ⊥
      go (yes e) x = k (subst (Breaks ks T S ws) e x)
      go (no e) x = h b l (omega arith) x

  -- one cell more, not the top
  record Step (c w : ℕ) (ds : List Named) : Type 0 where
    opens : List Open
    are : links opens ≡ ds
    before : Before (suc c) w opens

  place_facts : (c : ℕ) (d : Named) (ds : List Named) → place_broken c d ds ≡ false → (d.cell ≡ c) × (named c ds ≡ false)
  unfolding place_broken
  place_facts c d ds h = let (x, y) = neither (not (eqb d.cell c)) (named c ds) h in (eqb-true d.cell c (not-false _ x), y)

  step : (c w : ℕ) (o : Open) (os : List Open) → 2 ≤ c → c ≤ length ks → Before c w (o ∷ os) → Keeps T ws (length ks) c w o.link (links os) (cell ks c) (rest ks (suc c))
      → Step c (words_end w (cell ks c)) (first_named c o.link (cell ks c) (next_named o.link (cell ks c) (links os)))
  step c w o os two most b k =
      let (here, alone) = place_facts c o.link (links os) k.place in
      let at = sited ks T S ws c b.clean two most o os b.opens b.full in
      let next = push_next ks S c o os b.opens here alone k.next_link in
      let mid = next.nexts in
      let on : On ks o.owner c = subst (On ks o.owner) here b.opens.fact.on in
      let first = push_first ks S c o.link mid.opens mid.hold mid.under (child_starts o.owner c o.link.base b.opens.fact.starts on) k.first_link in
      record {
        opens = first.opens;
        are = first.are ∙ ap (first_named c o.link (cell ks c)) mid.are;
        before = record {
          opens = first.hold;
          full = complete_next ks S c o os b.opens here alone k.next_link b.full first.opens (λ x y i. first.kept x y (next.kept x y i)) first.new
              (λ ne. first.kept true c (next.new ne));
          clean = clean_next c b.clean (keeps_clean ks T S ws c w o.link (links os) (omega arith) most b.words at k);
          words = words_next c w b.words;
        };
      }

  -- no link is open: the cell is unreached
  alone_unreached : (c w : ℕ) → 2 ≤ c → c ≤ length ks → Before c w [] → Breaks ks T S ws c
  alone_unreached c w two most b = unreached (λ e. omega arith) below
    where
      on_none : (p : ℕ) → On ks p c → ⊥
      on_none p (begins x e l) = b.full.firsts p l.0 (subst (Leads ks p) (sym e) l) (omega arith)
      on_none p (goes_on q x u e l) = b.full.nexts q l.0 (subst (Leads ks q) (sym e) l) (omega arith)

      below : Below ks 1 c → ⊥
      below (child x u) = on_none 1 u
      below (deeper q x e u) = on_none q u

  lowest_end : (c w : ℕ) (ds : List Named) → lowest_from T ws (length ks) c w ds [] ≡ 0
  unfolding lowest_from
  lowest_end c w ds = refl

  walk : (left c w : ℕ) (os : List Open) → 2 ≤ c → c + left ≡ suc (length ks) → Before c w os → Found (lowest_from T ws (length ks) c w (links os) (rest ks c))
  unfolding lowest_from
  walk zero c w os two q b =
      let e : rest ks c ≡ [] = none_left (rest ks c) (omega (arith, length-drop c (blank ∷ ks))) in
      inl (ap (lowest_from T ws (length ks) c w (links os)) e ∙ lowest_end c w (links os), (λ x l m. b.clean x l (omega arith)))
  walk (suc left) c w [] two q b =
      subst Found (sym (ap (lowest_from T ws (length ks) c w []) (rest_cons ks c (omega arith))))
      (inr (record { from = omega arith; to = omega arith; breaks = alone_unreached c w two (omega arith) b; least = b.clean }))
  walk (suc left) c w (o ∷ os) two q b =
      subst Found (sym (ap (lowest_from T ws (length ks) c w (links (o ∷ os))) (rest_cons ks c (omega arith))))
      (go (broken T ws (length ks) c w o.link (links os) (cell ks c) (rest ks (suc c))) refl (λ v opens h. walk left (suc c) v opens (omega arith) (omega arith) h))
    where
      most : c ≤ length ks
      most = omega arith

      at : Sited ks T S ws c o.link (links os)
      at = sited ks T S ws c b.clean two most o os b.opens b.full

      go : (x : Bool) → broken T ws (length ks) c w o.link (links os) (cell ks c) (rest ks (suc c)) ≡ x
          → ((v : ℕ) (opens : List Open) → Before (suc c) v opens → Found (lowest_from T ws (length ks) (suc c) v (links opens) (rest ks (suc c))))
          → Found (elim x [
            | true ↦ c
            | false ↦
                lowest_from T ws (length ks) (suc c) (words_end w (cell ks c))
                (first_named c o.link (cell ks c) (next_named o.link (cell ks c) (links os))) (rest ks (suc c))
          ])
      go true e r = inr (record { from = omega arith; to = most; breaks = broken_breaks ks T S ws c w o.link (links os) (omega arith) most b.words at e; least = b.clean })
      go false e r =
          let s = step c w o os two most b (keeps T ws (length ks) c w o.link (links os) (cell ks c) (rest ks (suc c)) e) in
          subst (λ ds. Found (lowest_from T ws (length ks) (suc c) (words_end w (cell ks c)) ds (rest ks (suc c)))) s.are (r _ s.opens s.before)

  -- the top: no link leads to it
  no_first_to_top : (p : ℕ) → first_child (cell ks p) ≡ 1 → p < 1 → ⊥
  no_first_to_top p e l = omega (arith, first_from ks p 1 e l)

  no_next_to_top : (b : ℕ) → (cell ks b).next ≡ 1 → b < 1 → ⊥
  no_next_to_top b e l = omega (arith, next_from ks b 1 e l)

  no_parent_of_top : (p : ℕ) → On ks p 1 → ⊥
  no_parent_of_top p u = omega (arith, (on_later ks p 1 u).0, (on_later ks p 1 u).1)

  sited_top : Sited ks T S ws 1 (top_named S) []
  unfolding place_broken order_broken inside_broken end_broken named top_named
  sited_top = record {
    misplaced = λ h. absurd (true≢false (sym h));
    early = λ ok h. absurd (omega (arith, ltb-true (cell ks 1).position 0 h));
    outside = λ ok h. absurd (true≢false (sym h));
    far = λ ok h. absurd (true≢false (sym h));
    by_first = λ ok p e l. absurd (no_first_to_top p e l.0);
    by_next = λ ok b e l. absurd (no_next_to_top b e l.0);
    reached = λ ok ne. absurd (ne refl);
    one_parent = λ ok p q u v. absurd (no_parent_of_top p u);
    in_order = λ ok h b e l. absurd (no_next_to_top b e l.0);
    in_parent = λ ok h p u ne. absurd (no_parent_of_top p u);
    near = λ ok h a ne s. absurd (ne refl);
  }

  top_words : 0 ≡ words_before ks 1
  unfolding words_before
  top_words = refl

  top_start : (p : ℕ) → p ≡ 0 → Starts ks S 1 ((top_named S).base + p)
  unfolding top_named
  top_start p e = let z : S ≡ S + p = omega arith in subst (Starts ks S 1) z top_starts

  top_alone : (k : Cell) → k.next ≡ 0 → next_named (top_named S) k [] ≡ []
  unfolding next_named
  top_alone k e = rw (eq-eqb k.next 0 e, next_named)

  first_step : 1 ≤ length ks → Keeps T ws (length ks) 1 0 (top_named S) [] (cell ks 1) (rest ks 2)
      → Step 1 (words_end 0 (cell ks 1)) (first_named 1 (top_named S) (cell ks 1) (next_named (top_named S) (cell ks 1) []))
  first_step most k =
      let facts = top_is ks T S ws 1 0 (top_named S) [] (omega arith) most top_words sited_top k refl in
      let first = push_first ks S 1 (top_named S) [] tt (λ z f g. tt) (top_start (cell ks 1).position facts.1) k.first_link in
      record {
        opens = first.opens;
        are = first.are ∙ ap (first_named 1 (top_named S) (cell ks 1)) (sym (top_alone (cell ks 1) facts.2));
        before = record {
          opens = first.hold;
          full = record {
            firsts = λ y a l m. one_first first.opens first.new y a l (ℕ_discrete y 1);
            nexts = λ y a l m. absurd (no_nexts facts.2 y a l (ℕ_discrete y 1));
          };
          clean = clean_next 1 (λ b l m. absurd (omega arith)) (keeps_clean ks T S ws 1 0 (top_named S) [] (omega arith) most top_words sited_top k);
          words = words_next 1 0 top_words;
        };
      }
    where
      one_first : (opens : List Open) → ((first_child (cell ks 1) ≡ 0 → ⊥) → In false 1 opens) → (y : ℕ) → y < 2 → Leads ks y (first_child (cell ks y)) → Dec (y ≡ 1) → In false y opens
      one_first opens new y a l (yes e) =
          subst (λ x. In false x opens) (sym e) (new (λ z. let q : first_child (cell ks y) ≡ first_child (cell ks 1) = ap (λ x. first_child (cell ks x)) e in omega (arith, l.0)))
      one_first opens new y a l (no e) = absurd (omega (arith, first_from ks y (first_child (cell ks y)) refl l.0))

      no_nexts : (cell ks 1).next ≡ 0 → (y : ℕ) → y < 2 → Leads ks y (cell ks y).next → Dec (y ≡ 1) → ⊥
      no_nexts z y a l (yes e) = let q : (cell ks y).next ≡ (cell ks 1).next = ap (λ x. (cell ks x).next) e in omega (arith, l.0)
      no_nexts z y a l (no e) = omega (arith, next_from ks y (cell ks y).next refl l.0)

  top_found : 1 ≤ length ks → Found (lowest_from T ws (length ks) 1 0 (top_named S ∷ []) (cell ks 1 ∷ rest ks 2))
  unfolding lowest_from
  top_found most = go (broken T ws (length ks) 1 0 (top_named S) [] (cell ks 1) (rest ks 2)) refl
    where
      go : (x : Bool) → broken T ws (length ks) 1 0 (top_named S) [] (cell ks 1) (rest ks 2) ≡ x
          → Found (elim x [
            | true ↦ 1
            | false ↦
                lowest_from T ws (length ks) 2 (words_end 0 (cell ks 1))
                (first_named 1 (top_named S) (cell ks 1) (next_named (top_named S) (cell ks 1) [])) (rest ks 2)
          ])
      go true e = inr (record {
        from = omega arith;
        to = most;
        breaks = broken_breaks ks T S ws 1 0 (top_named S) [] (omega arith) most top_words sited_top e;
        least = λ b l m. absurd (omega arith);
      })
      go false e =
          let s = first_step most (keeps T ws (length ks) 1 0 (top_named S) [] (cell ks 1) (rest ks 2) e) in
          subst (λ ds. Found (lowest_from T ws (length ks) 2 (words_end 0 (cell ks 1)) ds (rest ks 2))) s.are
          (walk (length ks - 1) 2 _ s.opens (omega arith) (omega arith) s.before)

  -- The number that the pass over all cells ends with.
  pub lowest_found : Found (lowest_from T ws (length ks) 1 0 (top_named S ∷ []) ks)
  lowest_found = go (dec_lt 0 (length ks))
    where
      go : Dec (0 < length ks) → Found (lowest_from T ws (length ks) 1 0 (top_named S ∷ []) ks)
      go (yes l) = subst (λ r. Found (lowest_from T ws (length ks) 1 0 (top_named S ∷ []) r)) (sym (rest_cons ks 1 l)) (top_found l)
      go (no l) =
          let e : ks ≡ [] = none_left ks (omega arith) in
          inl (ap (lowest_from T ws (length ks) 1 0 (top_named S ∷ [])) e ∙ lowest_end 1 0 (top_named S ∷ []), (λ b a m. absurd (omega arith)))

  pub lowest_one : (b c : ℕ) → LowestCell ks T S ws b → LowestCell ks T S ws c → b ≡ c
  lowest_one b c x y = go (dec_lt b c) (dec_lt c b)
    where
      go : Dec (b < c) → Dec (c < b) → b ≡ c
      go (yes l) m = absurd (y.least b x.from l x.breaks)
      go (no l) (yes m) = absurd (x.least c y.from m y.breaks)
      go (no l) (no m) = omega arith

cells_none : (cs : List ℕ) → length cs ≡ 0 → length (cells_of cs) ≡ 0
unfolding cells_of
cells_none [] h = refl
cells_none (c ∷ cs) h = absurd (omega arith)

module _ (T S : ℕ) (cs ws : List ℕ) where
  misfit : (c : ℕ) → (length cs ≡ 0) ⊎ (length cs % cell_width ≡ 0 → ⊥) → length cs % cell_width ≡ 0 → LowestCell (cells_of cs) T S ws c → ⊥
  misfit c (inl n) m l = omega (arith, l.from, l.to, cells_none cs n)
  misfit c (inr n) m l = n m

  -- refusal 15 has one place
  pub place_one : (b c : ℕ) → Place T S cs ws b → Place T S cs ws c → b ≡ c
  place_one b c (no_cells x) (no_cells y) = refl
  place_one b c (no_cells x) (at_cell d m l) = absurd (misfit d x m l)
  place_one b c (at_cell d m l) (no_cells x) = absurd (misfit d x m l)
  place_one b c (at_cell d m l) (at_cell e k r) = lowest_one (cells_of cs) T S ws d e l r

  -- what the one-pass form answers
  record Told (o : Option ℕ) : Type 0 where
    none_at : o ≡ None → (c : ℕ) → Place T S cs ws c → ⊥
    some_at : (c : ℕ) → o ≡ Some c → Place T S cs ws c

  some_not_none : (c : ℕ) → ◌≡◌ {A = Option ℕ} (Some c) None → ⊥
  some_not_none c h = let z : ◌≡◌ {A = ℕ} 0 1 = cc in omega arith

  some_one : (b c : ℕ) → ◌≡◌ {A = Option ℕ} (Some b) (Some c) → b ≡ c
  some_one b c h = cc

  cells_told : (r : ℕ) → (length cs ≡ 0 → ⊥) → length cs % cell_width ≡ 0 → Found (cells_of cs) T S ws r → Told (elim r [ zero ↦ None | suc c ↦ Some (suc c) ])
  cells_told zero ne m (inl f) = record {
    none_at = λ e c p. nowhere c p;
    some_at = λ c e. absurd (some_not_none c (sym e));
  }
    where
      nowhere : (c : ℕ) → Place T S cs ws c → ⊥
      nowhere c (no_cells (inl x)) = ne x
      nowhere c (no_cells (inr x)) = x m
      nowhere c (at_cell d k l) = f.1 d l.from l.to l.breaks
  cells_told zero ne m (inr l) = absurd (omega (arith, l.from))
  cells_told (suc r) ne m (inl f) = absurd (omega (arith, f.0))
  cells_told (suc r) ne m (inr l) = record {
    none_at = λ e. absurd (some_not_none (suc r) e);
    some_at = λ c e. subst (Place T S cs ws) (some_one (suc r) c e) (at_cell (suc r) m l);
  }

  bad_told : Told (bad_cell T S cs ws)
  unfolding bad_cell
  bad_told = go (eqb (length cs) 0) refl (eqb (length cs % cell_width) 0) refl
    where
      no_cell : (length cs ≡ 0) ⊎ (length cs % cell_width ≡ 0 → ⊥) → Told (Some 0)
      no_cell x = record { none_at = λ e. absurd (some_not_none 0 e); some_at = λ c e. subst (Place T S cs ws) (some_one 0 c e) (no_cells x) }

      go : (x : Bool) → eqb (length cs) 0 ≡ x → (y : Bool) → eqb (length cs % cell_width) 0 ≡ y
          → Told (elim (x || not y) [
            | true ↦ Some 0
            | false ↦ elim (lowest_from T ws (length (cells_of cs)) 1 0 (top_named S ∷ []) (cells_of cs)) [ zero ↦ None | suc c ↦ Some (suc c) ]
          ])
      go true e y m = no_cell (inl (eqb-true (length cs) 0 e))
      go false e false m = no_cell (inr (eqb-false (length cs % cell_width) 0 m))
      go false e true m = cells_told _ (eqb-false (length cs) 0 e) (eqb-true (length cs % cell_width) 0 m) (lowest_found (cells_of cs) T S ws)

  -- Both name the same cell: the one-pass form gives a place exactly when it is the place of refusal 15 by the rules one by one,
  pub same_place : (c : ℕ) → bad_cell T S cs ws ≡ Some c ↔ Place T S cs ws c
  same_place c = (bad_told.some_at c, (λ p. go p (bad_cell T S cs ws) refl))
    where
      go : Place T S cs ws c → (o : Option ℕ) → bad_cell T S cs ws ≡ o → bad_cell T S cs ws ≡ Some c
      go p None e = absurd (bad_told.none_at e c p)
      go p (Some b) e = e ∙ ap Some (place_one b c (bad_told.some_at b e) p)

  -- and none exactly when by these rules there is none.
  pub same_none : bad_cell T S cs ws ≡ None ↔ ((c : ℕ) → Place T S cs ws c → ⊥)
  same_none = (bad_told.none_at, (λ h. go h (bad_cell T S cs ws) refl))
    where
      go : ((c : ℕ) → Place T S cs ws c → ⊥) → (o : Option ℕ) → bad_cell T S cs ws ≡ o → bad_cell T S cs ws ≡ None
      go h None e = e
      go h (Some b) e = absurd (h b (bad_told.some_at b e))

-- Chains, descendants and parts of a cell list, as relations and as the one-pass form counts them. Assumes nothing.
use mathlib.Core.Path.{◌≡◌, refl, sym, ap, subst, ◌∙◌}
use mathlib.Core.Bool.{Bool, true, false, ◌||◌, true≢false}
use mathlib.Core.List.{List, [], ◌∷◌}
use Prim.Native.Nat.{ℕ, zero, suc, ◌+◌, ◌-◌, ◌≤◌, ◌<◌}
use native.Mathlib.Omega.{arith}
use native.Mathlib.Decide.{dec_le, dec_lt, ℕ_discrete}
use borrow.Author.Tests.{eq-eqb, eqb-true}
use lib.ListN.{length, get_or, drop, length-drop, get_or-eq_default}
use lib.Seq.{drop-cons}
use Rattle.rules.specs.Cell.{Cell, is_part, first_child}
use Rattle.rules.specs.Rules.{blank, cell, Leads, On, begins, goes_on, Chain, ended, linked, Below, child, deeper, Starts, top_starts, child_starts}
use Rattle.rules.specs.Lowest.{chain, chains, any_part}
use Rattle.rules.proofs.Tests.{neither, none_left}
use Rattle.rules.proofs.Keeping.{chain_leads, chain_ends}

module _ (ks : List Cell) where
  -- a link leads from a cell
  pub first_from : (p x : ℕ) → first_child (cell ks p) ≡ x → p < x → 1 ≤ p
  unfolding first_child
  first_from zero x e l = absurd (omega arith)
  first_from (suc p) x e l = omega arith

  pub next_from : (b x : ℕ) → (cell ks b).next ≡ x → b < x → 1 ≤ b
  next_from zero x e l = absurd (omega arith)
  next_from (suc b) x e l = omega arith

  -- children and descendants are later cells
  pub on_later : (p x : ℕ) → On ks p x → (1 ≤ p) × (p < x) × (x ≤ length ks)
  on_later p x (begins y e l) = (first_from p x e l.0, l.0, l.1)
  on_later p x (goes_on b y o e l) = let (a, m, k) = on_later p b o in (a, omega (arith, l.0), l.1)

  pub below_later : (p x : ℕ) → Below ks p x → (1 ≤ p) × (p < x) × (x ≤ length ks)
  below_later p x (child y o) = on_later p x o
  below_later p x (deeper b y d o) =
      let (a, m, k) = below_later p b d in
      let (u, v, w) = on_later b x o in
      (a, omega arith, w)

  -- a descendant's next sibling is a descendant
  pub below_next : (p b x : ℕ) → Below ks p b → (cell ks b).next ≡ x → Leads ks b x → Below ks p x
  below_next p b x (child y o) e l = child x (goes_on b x o e l)
  below_next p b x (deeper q y d o) e l = deeper q x d (goes_on b x o e l)

  -- a cell that starts somewhere is the top or below it
  pub starts_below : (S x a : ℕ) → Starts ks S x a → (x ≡ 1 → ⊥) → Below ks 1 x
  starts_below S x a top_starts ne = absurd (ne refl)
  starts_below S x a (child_starts p y b s o) ne = go (ℕ_discrete p 1) (λ q. starts_below S p b s q)
    where
      go : Dec (p ≡ 1) → ((p ≡ 1 → ⊥) → Below ks 1 p) → Below ks 1 y
      go (yes e) r = child y (subst (λ q. On ks q y) e o)
      go (no e) r = deeper p y (r e) o

  -- a chain has one length
  pub chain_one : (c x m k : ℕ) → Chain ks c x m → Chain ks c x k → m ≡ k
  chain_one c x m k (ended a b n) (ended u v w) = refl
  chain_one c x m k (ended a b n) (linked u v i l r) = absurd (n l)
  chain_one c x m k (linked u v i l r) (ended a b n) = absurd (n l)
  chain_one c x m k (linked u v i l r) (linked a b j q s) = ap suc (chain_one x (cell ks x).next i j r s)

  -- the cells from the cell c on
  abbrev pub rest : ℕ → List Cell
  rest c = drop c (blank ∷ ks)

  pub rest_cons : (c : ℕ) → c ≤ length ks → rest c ≡ cell ks c ∷ rest (suc c)
  rest_cons c l = drop-cons (blank ∷ ks) c blank (omega arith)

  chains_length : (c : ℕ) (l : List Cell) → length (chains c l) ≡ length l
  unfolding chains
  chains_length c [] = refl
  chains_length c (k ∷ l) = ap suc (chains_length (suc c) l)

  chains_at : (j c : ℕ) → c + j ≤ length ks
      → get_or (chains c (rest c)) j 0 ≡ suc (chain (c + j) (cell ks (c + j)).next (chains (suc (c + j)) (rest (suc (c + j)))))
  unfolding chains
  chains_at zero c l =
      let e : c ≡ c + 0 = omega arith in
      ap (λ r. get_or (chains c r) 0 0) (rest_cons c (omega arith))
      ∙ ap (λ y. suc (chain y (cell ks y).next (chains (suc y) (rest (suc y))))) e
  chains_at (suc j) c l =
      let e : suc c + j ≡ c + suc j = omega arith in
      ap (λ r. get_or (chains c r) (suc j) 0) (rest_cons c (omega arith))
      ∙ (chains_at j (suc c) (omega arith) ∙ ap (λ y. suc (chain y (cell ks y).next (chains (suc y) (rest (suc y))))) e)

  -- the chain lengths counted from the last cell back are those of the chains
  chain_over : (c x : ℕ) → c < x → length ks < x → chain c x (chains (suc c) (rest (suc c))) ≡ 0
  chain_over c x a b =
      chain_leads c x (chains (suc c) (rest (suc c))) a
      ∙ get_or-eq_default (chains (suc c) (rest (suc c))) 0 {n = x - suc c} (omega (arith, chains_length (suc c) (rest (suc c)), length-drop c ks))

  chain_step : (c x : ℕ) → c < x → x ≤ length ks → chain c x (chains (suc c) (rest (suc c))) ≡ suc (chain x (cell ks x).next (chains (suc x) (rest (suc x))))
  chain_step c x a b =
      let e : suc c + (x - suc c) ≡ x = omega arith in
      chain_leads c x (chains (suc c) (rest (suc c))) a
      ∙ (chains_at (x - suc c) (suc c) (omega arith) ∙ ap (λ y. suc (chain y (cell ks y).next (chains (suc y) (rest (suc y))))) e)

  chain_none : (c x : ℕ) → (Leads ks c x → ⊥) → Chain ks c x (chain c x (chains (suc c) (rest (suc c))))
  chain_none c x n = go (dec_lt c x)
    where
      go : Dec (c < x) → Chain ks c x (chain c x (chains (suc c) (rest (suc c))))
      go (no a) = subst (Chain ks c x) (sym (chain_ends c x (chains (suc c) (rest (suc c))) (omega arith))) (ended c x n)
      go (yes a) = subst (Chain ks c x) (sym (chain_over c x a (past (dec_le x (length ks))))) (ended c x n)
        where
          past : Dec (x ≤ length ks) → length ks < x
          past (yes b) = absurd (n (a, b))
          past (no b) = omega arith

  counted : (m c x : ℕ) → length ks ≤ c + m → Chain ks c x (chain c x (chains (suc c) (rest (suc c))))
  counted zero c x l = chain_none c x (λ q. omega (arith, q.0, q.1))
  counted (suc m) c x l = go (dec_lt c x) (dec_le x (length ks)) (λ q. counted m x (cell ks x).next q)
    where
      go : Dec (c < x) → Dec (x ≤ length ks) → (length ks ≤ x + m → Chain ks x (cell ks x).next (chain x (cell ks x).next (chains (suc x) (rest (suc x)))))
          → Chain ks c x (chain c x (chains (suc c) (rest (suc c))))
      go (no a) b r = chain_none c x (λ q. a q.0)
      go (yes a) (no b) r = chain_none c x (λ q. b q.1)
      go (yes a) (yes b) r = subst (Chain ks c x) (sym (chain_step c x a b)) (linked c x _ (a, b) (r (omega arith)))

  pub chain_counted : (c x : ℕ) → Chain ks c x (chain c x (chains (suc c) (rest (suc c))))
  chain_counted c x = counted (length ks) c x (omega arith)

  -- no part, and some part, from the cell c on
  parts_none : (left c : ℕ) → c + left ≡ suc (length ks) → any_part (rest c) ≡ false → (b : ℕ) → c ≤ b → (cell ks b).kind ≡ 2 → ⊥
  unfolding any_part
  parts_none zero c q h b l e =
      let z : cell ks b ≡ blank = get_or-eq_default (blank ∷ ks) blank {n = b} (omega arith) in
      omega (arith, sym e ∙ ap (λ (k : Cell). k.kind) z)
  parts_none (suc left) c q h b l e =
      let (x, y) = neither (is_part (cell ks c)) (any_part (rest (suc c))) (ap any_part (sym (rest_cons c (omega arith))) ∙ h) in
      go (ℕ_discrete c b) x (λ m. parts_none left (suc c) (omega arith) y b m e)
    where
      go : Dec (c ≡ b) → is_part (cell ks c) ≡ false → (suc c ≤ b → ⊥) → ⊥
      go (yes s) x r = true≢false (sym (ap (λ y. is_part (cell ks y)) s ∙ eq-eqb (cell ks b).kind 2 e) ∙ x)
      go (no s) x r = r (omega arith)

  pub no_parts : (c : ℕ) → c ≤ suc (length ks) → any_part (rest c) ≡ false → (b : ℕ) → c ≤ b → (cell ks b).kind ≡ 2 → ⊥
  no_parts c l = parts_none (suc (length ks) - c) c (omega arith)

  parts_some : (left c : ℕ) → c + left ≡ suc (length ks) → any_part (rest c) ≡ true → (b : ℕ) × (c ≤ b) × ((cell ks b).kind ≡ 2)
  unfolding any_part
  parts_some zero c q h = absurd (true≢false (sym h ∙ ap any_part (none_left (rest c) (omega (arith, length-drop c (blank ∷ ks))))))
  parts_some (suc left) c q h =
      go (is_part (cell ks c)) refl (ap any_part (sym (rest_cons c (omega arith))) ∙ h) (λ m. parts_some left (suc c) (omega arith) m)
    where
      go : (p : Bool) → is_part (cell ks c) ≡ p → p || any_part (rest (suc c)) ≡ true → (any_part (rest (suc c)) ≡ true → (b : ℕ) × (suc c ≤ b) × ((cell ks b).kind ≡ 2))
          → (b : ℕ) × (c ≤ b) × ((cell ks b).kind ≡ 2)
      go true e h r = (c, omega arith, eqb-true (cell ks c).kind 2 e)
      go false e h r = let (b, l, k) = r h in (b, omega arith, k)

  pub some_part : (c : ℕ) → c ≤ suc (length ks) → any_part (rest c) ≡ true → (b : ℕ) × (c ≤ b) × ((cell ks b).kind ≡ 2)
  some_part c l = parts_some (suc (length ks) - c) c (omega arith)

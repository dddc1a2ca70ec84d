-- The cells of trees, one record each: their words, their number, their chains and parts. Assumes nothing.
use mathlib.Core.Path.{◌≡◌, refl, sym, ap, ap₂, subst, ◌∙◌}
use mathlib.Core.Bool.{false, true≢false}
use mathlib.Core.List.{List, [], ◌∷◌, ◌++◌, append_assoc}
use Prim.Native.Nat.{ℕ, suc, ◌+◌, ◌-◌}
use native.Mathlib.Omega.{arith}
use native.Mathlib.Nat.{add-zero}
use lib.Dec.{eqb}
use Rattle.rules.specs.Cell.{Cell}
use Rattle.rules.specs.Lowest.{chain, chains, any_part}
use lib.ListN.{length, get_or, length-append}
use Rattle.tree.specs.Trees.{Trees, nil, tree, part, nodes, siblings}
use Rattle.tree.specs.Cells.{packed, unless_none, kind, id_word, cells}
use Rattle.rules.proofs.Tests.{neither}
use Rattle.rules.proofs.Keeping.{words_of, chain_leads, chain_ends}

-- the cells of trees, as `cells` has their words
unfoldable pub listed : (c w : ℕ) → Trees → List Cell
listed c w nil = []
listed c w (tree t s l kids rest) =
    let c' = c + suc (nodes kids) in
    record { kind = kind t; id = id_word t; position = s; len = l; first = unless_none kids (suc c); count = siblings kids; next = unless_none rest c' }
    ∷ (listed (suc c) w kids ++ listed c' (w + length (packed kids)) rest)
listed c w (part s l us rest) =
    record { kind = 2; id = 0; position = s; len = l; first = w; count = length us; next = unless_none rest (suc c) } ∷ listed (suc c) (w + length us) rest

pub words_append : (xs ys : List Cell) → words_of (xs ++ ys) ≡ words_of xs ++ words_of ys
unfolding words_of
words_append [] ys = refl
words_append (k ∷ xs) ys = ap (λ r. k.kind ∷ k.id ∷ k.position ∷ k.len ∷ k.first ∷ k.count ∷ k.next ∷ r) (words_append xs ys)

pub words_listed : (c w : ℕ) (ts : Trees) → words_of (listed c w ts) ≡ cells c w ts
unfolding words_of listed cells
words_listed c w nil = refl
words_listed c w (tree t s l kids rest) =
    let c' = c + suc (nodes kids) in
    let w' = w + length (packed kids) in
    ap (λ r. kind t ∷ id_word t ∷ s ∷ l ∷ unless_none kids (suc c) ∷ siblings kids ∷ unless_none rest c' ∷ r)
    (words_append (listed (suc c) w kids) (listed c' w' rest) ∙ ap₂ ◌++◌ (words_listed (suc c) w kids) (words_listed c' w' rest))
words_listed c w (part s l us rest) =
    ap (λ r. 2 ∷ 0 ∷ s ∷ l ∷ w ∷ length us ∷ unless_none rest (suc c) ∷ r) (words_listed (suc c) (w + length us) rest)

pub length_listed : (c w : ℕ) (ts : Trees) → length (listed c w ts) ≡ nodes ts
unfolding listed nodes
length_listed c w nil = refl
length_listed c w (tree t s l kids rest) =
    let c' = c + suc (nodes kids) in
    let w' = w + length (packed kids) in
    ap suc (length-append (listed (suc c) w kids) (listed c' w' rest) ∙ ap₂ ◌+◌ (length_listed (suc c) w kids) (length_listed c' w' rest))
length_listed c w (part s l us rest) = ap suc (length_listed (suc c) (w + length us) rest)

-- chains of later cells
chains_append : (c j : ℕ) (xs ys : List Cell) → get_or (chains c (xs ++ ys)) (length xs + j) 0 ≡ get_or (chains (c + length xs) ys) j 0
unfolding chains
chains_append c j [] ys = ap₂ (λ x y. get_or (chains x ys) y 0) (sym (add-zero c)) (omega arith)
chains_append c j (k ∷ xs) ys =
    let a : length (k ∷ xs) + j ≡ suc (length xs + j) = omega arith in
    let b : suc c + length xs ≡ c + suc (length xs) = omega arith in
    ap (λ y. get_or (chains c ((k ∷ xs) ++ ys)) y 0) a ∙ (chains_append (suc c) j xs ys ∙ ap (λ y. get_or (chains y ys) j 0) b)

-- a chain has as many cells as there are siblings
chain_cell : (c : ℕ) (xs ys : List Cell) (k : Cell) → chain c (suc c + length xs) (chains (suc c) (xs ++ (k ∷ ys))) ≡ suc (chain (suc c + length xs) k.next (chains (suc (suc c + length xs)) ys))
unfolding chains
chain_cell c xs ys k =
    let later = chains (suc c) (xs ++ (k ∷ ys)) in
    let a : suc c + length xs - suc c ≡ length xs + 0 = omega arith in
    chain_leads c (suc c + length xs) later (omega arith) ∙ (ap (λ y. get_or later y 0) a ∙ chains_append (suc c) 0 xs (k ∷ ys))

pub chain_listed : (ts : Trees) (c w : ℕ) (xs ks : List Cell)
    → chain c (unless_none ts (suc c + length xs)) (chains (suc c) (xs ++ (listed (suc c + length xs) w ts ++ ks))) ≡ siblings ts
unfolding unless_none siblings listed
chain_listed nil c w xs ks = chain_ends c 0 _ (omega arith)
chain_listed (tree t s l kids rest) c w xs ks =
    let d = suc c + length xs in
    let c' = d + suc (nodes kids) in
    let w' = w + length (packed kids) in
    let inner = listed (suc d) w kids in
    let k : Cell = record { kind = kind t; id = id_word t; position = s; len = l; first = unless_none kids (suc d); count = siblings kids; next = unless_none rest c' } in
    let n : suc d + length inner ≡ c' = omega (arith, length_listed (suc d) w kids) in
    chain_cell c xs ((inner ++ listed c' w' rest) ++ ks) k
    ∙ ap suc
    (ap (λ r. chain d (unless_none rest c') (chains (suc d) r)) (append_assoc inner (listed c' w' rest) ks)
    ∙ subst (λ y. chain d (unless_none rest y) (chains (suc d) (inner ++ (listed y w' rest ++ ks))) ≡ siblings rest) n (chain_listed rest d w' inner ks))
chain_listed (part s l us rest) c w xs ks =
    let d = suc c + length xs in
    let k : Cell = record { kind = 2; id = 0; position = s; len = l; first = w; count = length us; next = unless_none rest (suc d) } in
    chain_cell c xs (listed (suc d) (w + length us) rest ++ ks) k
    ∙ ap suc
    (subst (λ y. chain d (unless_none rest y) (chains (suc d) (listed y (w + length us) rest ++ ks)) ≡ siblings rest) (add-zero (suc d)) (chain_listed rest d (w + length us) [] ks))

-- no part among the cells: nothing is packed
pub no_part : (c w : ℕ) (ts : Trees) (ks : List Cell) → any_part (listed c w ts ++ ks) ≡ false → (any_part ks ≡ false) × (length (packed ts) ≡ 0)
unfolding any_part listed packed kind
no_part c w nil ks h = (h, refl)
no_part c w (tree t s l kids rest) ks h =
    let c' = c + suc (nodes kids) in
    let w' = w + length (packed kids) in
    let (a, b) = neither (eqb (kind t) 2) _ h in
    let (x, y) = no_part (suc c) w kids (listed c' w' rest ++ ks) (subst (λ r. any_part r ≡ false) (append_assoc (listed (suc c) w kids) (listed c' w' rest) ks) b) in
    let (u, v) = no_part c' w' rest ks x in
    (u, length-append (packed kids) (packed rest) ∙ ap₂ ◌+◌ y v)
no_part c w (part s l us rest) ks h = absurd (true≢false h)

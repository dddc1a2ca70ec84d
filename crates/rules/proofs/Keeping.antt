-- A cell that breaks no rule, taken apart rule by rule and put together again; the words of cells. Assumes nothing.
use mathlib.Core.Path.{◌≡◌, refl, ap}
use mathlib.Core.Bool.{Bool, true, false, ◌&&◌, not}
use mathlib.Core.List.{List, [], ◌∷◌}
use Prim.Native.Nat.{ℕ, suc, ◌+◌, ◌-◌, ◌*◌, ◌%◌, ◌≤◌, ◌<◌}
use native.Mathlib.Omega.{arith}
use borrow.Author.Tests.{le-ltb, lt-ltb, ne_eqb, ltb-true, leb-true, eqb-true, not-false}
use lib.Dec.{ltb, leb, eqb}
use Rattle.rules.specs.Cell.{Cell, cells_of, is_part, first_child}
use Rattle.rules.specs.Lowest.{chain, chains, Named, top_broken, kind_broken, id_broken, link_broken, count_broken, place_broken, order_broken, inside_broken, end_broken, part_broken, stray_broken, any_of, broken, next_named, first_named, words_end, lowest_from}
use lib.ListN.{length, get_or}
use Rattle.tree.specs.Cells.{cell_width}
use Rattle.rules.proofs.Tests.{both, neither}

-- the words of cells
unfoldable pub words_of : List Cell → List ℕ
words_of [] = []
words_of (k ∷ ks) = k.kind ∷ k.id ∷ k.position ∷ k.len ∷ k.first ∷ k.count ∷ k.next ∷ words_of ks

pub words_cells : (cs : List ℕ) → length cs % cell_width ≡ 0 → words_of (cells_of cs) ≡ cs
unfolding words_of cells_of
words_cells [] h = refl
words_cells (k ∷ []) h = absurd (omega arith)
words_cells (k ∷ i ∷ []) h = absurd (omega arith)
words_cells (k ∷ i ∷ p ∷ []) h = absurd (omega arith)
words_cells (k ∷ i ∷ p ∷ l ∷ []) h = absurd (omega arith)
words_cells (k ∷ i ∷ p ∷ l ∷ f ∷ []) h = absurd (omega arith)
words_cells (k ∷ i ∷ p ∷ l ∷ f ∷ m ∷ []) h = absurd (omega arith)
words_cells (k ∷ i ∷ p ∷ l ∷ f ∷ m ∷ x ∷ cs) h = ap (λ r. k ∷ i ∷ p ∷ l ∷ f ∷ m ∷ x ∷ r) (words_cells cs (omega arith))

pub cells_words : (ks : List Cell) → cells_of (words_of ks) ≡ ks
unfolding cells_of words_of
cells_words [] = refl
cells_words (k ∷ ks) = ap (λ r. k ∷ r) (cells_words ks)

pub length_words : (ks : List Cell) → length (words_of ks) ≡ cell_width * length ks
unfolding words_of
length_words [] = refl
length_words (k ∷ ks) = omega (arith, length_words ks)

pub chain_leads : (c x : ℕ) (later : List ℕ) → c < x → chain c x later ≡ get_or later (x - suc c) 0
unfolding chain
chain_leads c x later h = rw (lt-ltb c x h, chain)

pub chain_ends : (c x : ℕ) (later : List ℕ) → x ≤ c → chain c x later ≡ 0
unfolding chain
chain_ends c x later h = rw (le-ltb c x h, chain)

-- what the rules say, as facts of numbers
pub leads : (n c x : ℕ) → link_broken n c x ≡ false → (x ≡ 0 → ⊥) → (c < x) × (x ≤ n)
unfolding link_broken
leads n c x h ne =
    let a : not (ltb c x && leb x n) ≡ false = rw (ne_eqb x 0 ne) at h in
    let (p, q) = both (ltb c x) (leb x n) (not-false _ a) in
    (ltb-true c x p, leb-true x n q)

pub child_tree : (k : Cell) → is_part k ≡ false → first_child k ≡ k.first
unfolding first_child
child_tree k p = rw (p, first_child)

pub first_part : (c : ℕ) (d : Named) (k : Cell) (ds : List Named) → is_part k ≡ true → first_named c d k ds ≡ ds
unfolding first_named first_child
first_part c d k ds p = rw (p, first_child, first_named)

pub end_part : (w : ℕ) (k : Cell) → is_part k ≡ true → words_end w k ≡ k.first + k.count
unfolding words_end
end_part w k p = rw (p, words_end)

pub end_tree : (w : ℕ) (k : Cell) → is_part k ≡ false → words_end w k ≡ w
unfolding words_end
end_tree w k p = rw (p, words_end)

pub count_tree : (c : ℕ) (k : Cell) (later : List ℕ) → is_part k ≡ false → count_broken c k later ≡ false → k.count ≡ chain c k.first later
unfolding count_broken
count_tree c k later p h = eqb-true k.count (chain c k.first later) (not-false (eqb k.count (chain c k.first later)) (rw p at h))

module _ (T : ℕ) (ws : List ℕ) (n : ℕ) where
  -- no rule is broken
  pub record Keeps (c w : ℕ) (d : Named) (ds : List Named) (k : Cell) (ks : List Cell) : Type 0 where
    pub top : top_broken c k ≡ false
    pub kinds : kind_broken k ≡ false
    pub ids : id_broken T k ≡ false
    pub next_link : link_broken n c k.next ≡ false
    pub first_link : link_broken n c (first_child k) ≡ false
    pub counts : count_broken c k (chains (suc c) ks) ≡ false
    pub place : place_broken c d ds ≡ false
    pub order : order_broken d k ≡ false
    pub inside : inside_broken d k ≡ false
    pub ends : end_broken c d k ≡ false
    pub words : part_broken T ws w k ≡ false
    pub stray : stray_broken ws c k ks ≡ false

  pub keeps : (c w : ℕ) (d : Named) (ds : List Named) (k : Cell) (ks : List Cell) → broken T ws n c w d ds k ks ≡ false → Keeps c w d ds k ks
  unfolding broken any_of
  keeps c w d ds k ks h =
      let (a₀, h₀) = neither (top_broken c k) _ h in
      let (a₁, h₁) = neither (kind_broken k) _ h₀ in
      let (a₂, h₂) = neither (id_broken T k) _ h₁ in
      let (a₃, h₃) = neither (link_broken n c k.next) _ h₂ in
      let (a₄, h₄) = neither (link_broken n c (first_child k)) _ h₃ in
      let (a₅, h₅) = neither (count_broken c k (chains (suc c) ks)) _ h₄ in
      let (a₆, h₆) = neither (place_broken c d ds) _ h₅ in
      let (a₇, h₇) = neither (order_broken d k) _ h₆ in
      let (a₈, h₈) = neither (inside_broken d k) _ h₇ in
      let (a₉, h₉) = neither (end_broken c d k) _ h₈ in
      let (b₀, g₀) = neither (part_broken T ws w k) _ h₉ in
      let (b₁, g₁) = neither (stray_broken ws c k ks) _ g₀ in
      record { top = a₀; kinds = a₁; ids = a₂; next_link = a₃; first_link = a₄; counts = a₅; place = a₆; order = a₇; inside = a₈; ends = a₉; words = b₀; stray = b₁ }

  pub none_broken : (c w : ℕ) (d : Named) (ds : List Named) (k : Cell) (ks : List Cell) → Keeps c w d ds k ks → broken T ws n c w d ds k ks ≡ false
  unfolding broken any_of
  none_broken c w d ds k ks h =
      rw (h.top, h.kinds, h.ids, h.next_link, h.first_link, h.counts, h.place, h.order, h.inside, h.ends, h.words, h.stray)

  pub accepted_step : (c w : ℕ) (d : Named) (ds : List Named) (k : Cell) (ks : List Cell) → 0 < c → lowest_from T ws n c w (d ∷ ds) (k ∷ ks) ≡ 0
      → (broken T ws n c w d ds k ks ≡ false) × (lowest_from T ws n (suc c) (words_end w k) (first_named c d k (next_named d k ds)) ks ≡ 0)
  unfolding lowest_from
  accepted_step c w d ds k ks pos h = go (broken T ws n c w d ds k ks) _ h
    where
      go : (b : Bool) (r : ℕ) → ◌≡◌ {A = ℕ} (elim b [ true ↦ c | false ↦ r ]) 0 → (b ≡ false) × (r ≡ 0)
      go true r h = absurd (omega arith)
      go false r h = (refl, h)

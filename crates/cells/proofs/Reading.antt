-- Cells read from words one by one. Assumes nothing.
use mathlib.Core.Path.{◌≡◌, refl, sym, ap, ◌∙◌}
use mathlib.Core.Bool.{Bool, true, false, ◌||◌, cond}
use mathlib.Core.List.{List, [], ◌∷◌}
use Prim.Native.Nat.{ℕ, zero, suc, ◌+◌, ◌-◌, ◌*◌, ◌/◌, ◌≤◌, ◌<◌}
use native.Mathlib.Omega.{arith}
use native.Mathlib.Nat.{add-zero}
use native.Mathlib.Decide.{dec_le, dec_lt, ℕ_discrete}
use borrow.Author.Tests.{le-ltb, lt-ltb, le-leb, lt-leb, eq-eqb, ne_eqb}
use lib.Dec.{ltb, leb, eqb}
use lib.ListN.{length, get_or, set, take, drop, length-drop, get_or-eq_default}
use lib.Seq.{get_or-set_same, get_or-set_other, get_or-drop}
use Rattle.tree.specs.Cells.{cell_width, cell_kind, cell_next}
use Rattle.rules.specs.Cell.{Cell, cells_of}
use Rattle.rules.specs.Lowest.{chain, chains, any_part}
use Rattle.cells.specs.Steps.{cell_at, followed, Last}
use Rattle.rules.proofs.Keeping.{chain_leads, chain_ends}
use Rattle.std.proofs.lemmas.List.{ext_get_or}

-- words between two places are as many words from the first one on
pub cut_same : (ws : List ℕ) (from count a n : ℕ) → from ≡ a → count ≡ n → take (from + count - from) (drop from ws) ≡ take n (drop a ws)
cut_same ws from count a n from_is count_is =
    let e : from + count - from ≡ n = omega arith in
    rw (e, from_is)

-- cell i of a word list
pub cells_drop : (i : ℕ) (cs : List ℕ) → i * cell_width + cell_width ≤ length cs → drop i (cells_of cs) ≡ cell_at cs i ∷ drop (suc i) (cells_of cs)
unfolding cells_of
cells_drop i [] h = absurd (omega arith)
cells_drop i (k ∷ []) h = absurd (omega arith)
cells_drop i (k ∷ d ∷ []) h = absurd (omega arith)
cells_drop i (k ∷ d ∷ p ∷ []) h = absurd (omega arith)
cells_drop i (k ∷ d ∷ p ∷ l ∷ []) h = absurd (omega arith)
cells_drop i (k ∷ d ∷ p ∷ l ∷ f ∷ []) h = absurd (omega arith)
cells_drop i (k ∷ d ∷ p ∷ l ∷ f ∷ m ∷ []) h = absurd (omega arith)
cells_drop zero (k ∷ d ∷ p ∷ l ∷ f ∷ m ∷ x ∷ cs) h = refl
cells_drop (suc i) (k ∷ d ∷ p ∷ l ∷ f ∷ m ∷ x ∷ cs) h =
    let ws = k ∷ d ∷ p ∷ l ∷ f ∷ m ∷ x ∷ cs in
    let a : (j : ℕ) → get_or ws (suc i * cell_width + j) 0 ≡ get_or cs (i * cell_width + j) 0 =
    λ j. let e : suc i * cell_width + j ≡ suc (suc (suc (suc (suc (suc (suc (i * cell_width + j))))))) = omega arith in ap (λ y. get_or ws y 0) e in
    let a₀ : get_or ws (suc i * cell_width) 0 ≡ cell_kind cs i =
    let e : suc i * cell_width ≡ suc (suc (suc (suc (suc (suc (suc (i * cell_width))))))) = omega arith in ap (λ y. get_or ws y 0) e in
    cells_drop i cs (omega arith) ∙ ap (λ (c : Cell). c ∷ drop (suc i) (cells_of cs)) (same_cell _ _ _ _ _ _ _ _ _ _ _ _ _ _ (sym a₀) (sym (a 1)) (sym (a 2)) (sym (a 3)) (sym (a 4)) (sym (a 5)) (sym (a 6)))
  where
    same_cell : (k d p l f m x k' d' p' l' f' m' x' : ℕ) → k ≡ k' → d ≡ d' → p ≡ p' → l ≡ l' → f ≡ f' → m ≡ m' → x ≡ x'
        → ◌≡◌ {A = Cell} (record { kind = k; id = d; position = p; len = l; first = f; count = m; next = x }) (record { kind = k'; id = d'; position = p'; len = l'; first = f'; count = m'; next = x' })
    same_cell k d p l f m x k' d' p' l' f' m' x' e₀ e₁ e₂ e₃ e₄ e₅ e₆ = rw (e₀, e₁, e₂, e₃, e₄, e₅, e₆)

pub length_cells : (cs : List ℕ) → length (cells_of cs) ≡ length cs / cell_width
unfolding cells_of
length_cells [] = refl
length_cells (k ∷ []) = refl
length_cells (k ∷ d ∷ []) = refl
length_cells (k ∷ d ∷ p ∷ []) = refl
length_cells (k ∷ d ∷ p ∷ l ∷ []) = refl
length_cells (k ∷ d ∷ p ∷ l ∷ f ∷ []) = refl
length_cells (k ∷ d ∷ p ∷ l ∷ f ∷ m ∷ []) = refl
length_cells (k ∷ d ∷ p ∷ l ∷ f ∷ m ∷ x ∷ cs) = omega (arith, length_cells cs)

chains_length : (c : ℕ) (ks : List Cell) → length (chains c ks) ≡ length ks
unfolding chains
chains_length c [] = refl
chains_length c (k ∷ ks) = ap suc (chains_length (suc c) ks)

chains_drop : (i c : ℕ) (ks : List Cell) → drop i (chains c ks) ≡ chains (c + i) (drop i ks)
unfolding chains
chains_drop zero c ks = ap (λ y. chains y ks) (sym (add-zero c))
chains_drop (suc i) c [] = refl
chains_drop (suc i) c (k ∷ ks) =
    let e : suc c + i ≡ c + suc i = omega arith in
    chains_drop i (suc c) ks ∙ ap (λ y. chains y (drop i ks)) e

-- a chain's length is looked up in the lengths of all cells
pub chain_followed : (cs : List ℕ) (c x : ℕ) → chain c x (chains (suc c) (drop c (cells_of cs))) ≡ followed (chains 1 (cells_of cs)) c x
unfolding followed
chain_followed cs c x = go (dec_le x c)
  where
    all : drop c (chains 1 (cells_of cs)) ≡ chains (suc c) (drop c (cells_of cs))
    all = let e : 1 + c ≡ suc c = omega arith in chains_drop c 1 (cells_of cs) ∙ ap (λ y. chains y (drop c (cells_of cs))) e

    go : Dec (x ≤ c) → chain c x (chains (suc c) (drop c (cells_of cs))) ≡ cond (leb x c) 0 (get_or (chains 1 (cells_of cs)) (x - 1) 0)
    go (yes l) = chain_ends c x _ l ∙ rw (le-leb x c l)
    go (no l) =
        let e : c + (x - suc c) ≡ x - 1 = omega arith in
        rw (lt-leb x c (omega arith))
        (chain_leads c x _ (omega arith) ∙ (ap (λ y. get_or y (x - suc c) 0) (sym all) ∙ (get_or-drop c (chains 1 (cells_of cs)) (x - suc c) 0 ∙ ap (λ y. get_or (chains 1 (cells_of cs)) y 0) e)))

-- one length from those of later cells
pub length_at : (cs : List ℕ) (n i : ℕ) → n * cell_width ≡ length cs → i < n
    → get_or (chains 1 (cells_of cs)) i 0 ≡ suc (followed (chains 1 (cells_of cs)) (suc i) (cell_next cs i))
unfolding chains
length_at cs n i q h =
    let ks = cells_of cs in
    let e : 1 + i ≡ suc i = omega arith in
    let a : get_or (chains 1 ks) i 0 ≡ get_or (drop i (chains 1 ks)) 0 0 = ap (λ y. get_or (chains 1 ks) y 0) (sym (add-zero i)) ∙ sym (get_or-drop i (chains 1 ks) 0 0) in
    let b : drop i (chains 1 ks) ≡ chains (suc i) (cell_at cs i ∷ drop (suc i) ks) =
    chains_drop i 1 ks ∙ (ap (λ y. chains y (drop i ks)) e ∙ ap (chains (suc i)) (cells_drop i cs (omega arith))) in
    a ∙ (ap (λ y. get_or y 0 0) b ∙ ap suc (chain_followed cs (suc i) (cell_next cs i)))

-- the lengths from cell c on are those of all cells
abbrev pub Tail : (cs : List ℕ) (c : ℕ) → List ℕ → Type 0
Tail cs c held = (j : ℕ) → c ≤ j → get_or held j 0 ≡ get_or (chains 1 (cells_of cs)) j 0

followed_same : (cs held : List ℕ) (c x : ℕ) → Tail cs c held → followed held c x ≡ followed (chains 1 (cells_of cs)) c x
unfolding followed
followed_same cs held c x h = go (dec_le x c)
  where
    go : Dec (x ≤ c) → cond (leb x c) 0 (get_or held (x - 1) 0) ≡ cond (leb x c) 0 (get_or (chains 1 (cells_of cs)) (x - 1) 0)
    go (yes l) = rw (le-leb x c l)
    go (no l) = rw (h (x - 1) (omega arith))

-- links of 32 bits
abbrev Small : List Cell → Type 0
Small [] = Unit {0}
Small (k ∷ ks) = (k.next < 4294967296) × Small ks

small_cells : (cs : List ℕ) → ((j : ℕ) → get_or cs j 0 < 4294967296) → Small (cells_of cs)
unfolding cells_of
small_cells [] h = tt
small_cells (k ∷ []) h = tt
small_cells (k ∷ d ∷ []) h = tt
small_cells (k ∷ d ∷ p ∷ []) h = tt
small_cells (k ∷ d ∷ p ∷ l ∷ []) h = tt
small_cells (k ∷ d ∷ p ∷ l ∷ f ∷ []) h = tt
small_cells (k ∷ d ∷ p ∷ l ∷ f ∷ m ∷ []) h = tt
small_cells (k ∷ d ∷ p ∷ l ∷ f ∷ m ∷ x ∷ cs) h = (h 6, small_cells cs (λ j. h (suc (suc (suc (suc (suc (suc (suc j)))))))))

-- a chain of cells that links of 32 bits name has a length of 32 bits
chains_fit : (ks : List Cell) (c j : ℕ) → Small ks → c + j < 4294967296 → get_or (chains c ks) j 0 + (c + j) ≤ 4294967296
unfolding chains
chains_fit [] c j s h = omega arith
chains_fit (k ∷ ks) c zero s h = go (dec_lt c k.next) (λ i. chains_fit ks (suc c) i s.1)
  where
    go : Dec (c < k.next) → ((i : ℕ) → suc c + i < 4294967296 → get_or (chains (suc c) ks) i 0 + (suc c + i) ≤ 4294967296) → suc (chain c k.next (chains (suc c) ks)) + (c + 0) ≤ 4294967296
    go (yes l) f = omega (arith, f (k.next - suc c) (omega (arith, s.0)), chain_leads c k.next (chains (suc c) ks) l, s.0)
    go (no l) f = omega (arith, chain_ends c k.next (chains (suc c) ks) (omega arith))
chains_fit (k ∷ ks) c (suc j) s h =
    let e : c + suc j ≡ suc c + j = omega arith in
    rw e (chains_fit ks (suc c) j s.1 (omega arith))

followed_fits : (cs : List ℕ) (c x : ℕ) → ((j : ℕ) → get_or cs j 0 < 4294967296) → 0 < c → x < 4294967296 → followed (chains 1 (cells_of cs)) c x < 4294967295
unfolding followed
followed_fits cs c x small pos h = go (dec_le x c)
  where
    go : Dec (x ≤ c) → cond (leb x c) 0 (get_or (chains 1 (cells_of cs)) (x - 1) 0) < 4294967295
    go (yes l) = rw (le-leb x c l) (omega arith)
    go (no l) =
        rw (lt-leb x c (omega arith)) (omega (arith, chains_fit (cells_of cs) 1 (x - 1) (small_cells cs small) (omega arith)))

-- no length is put in yet
pub tail_start : (cs held : List ℕ) → length held * cell_width ≡ length cs → Tail cs (length held) held
tail_start cs held q j h =
    get_or-eq_default held 0 h ∙ sym (get_or-eq_default (chains 1 (cells_of cs)) 0 (omega (arith, chains_length 1 (cells_of cs), length_cells cs)))

-- one length more
pub tail_set : (cs held : List ℕ) (c x v : ℕ) → length held * cell_width ≡ length cs → 0 < c → c ≤ length held → x ≡ cell_next cs (c - 1) → v ≡ followed held c x
    → Tail cs c held → Tail cs (c - 1) (set held (c - 1) (v + 1))
tail_set cs held c x v q pos top ex ev h j a = go (ℕ_discrete j (c - 1))
  where
    go : Dec (j ≡ c - 1) → get_or (set held (c - 1) (v + 1)) j 0 ≡ get_or (chains 1 (cells_of cs)) j 0
    go (yes e) =
        let s : suc (c - 1) ≡ c = omega arith in
        let one : v + 1 ≡ suc v = omega arith in
        ap (λ y. get_or (set held (c - 1) (v + 1)) y 0) e
        ∙ (get_or-set_same held (c - 1) (v + 1) 0 (omega arith)
        ∙ (one ∙ (ap suc (ev ∙ (followed_same cs held c x h ∙ (ap (λ y. followed (chains 1 (cells_of cs)) c y) ex ∙ ap (λ y. followed (chains 1 (cells_of cs)) y (cell_next cs (c - 1))) (sym s))))
        ∙ (sym (length_at cs (length held) (c - 1) q (omega arith)) ∙ ap (λ y. get_or (chains 1 (cells_of cs)) y 0) (sym e)))))
    go (no e) = get_or-set_other held (c - 1) j (v + 1) 0 e ∙ h j (omega arith)

-- all lengths are put in
pub tail_all : (cs held : List ℕ) (c : ℕ) → length held * cell_width ≡ length cs → c ≡ 0 → Tail cs c held → held ≡ chains 1 (cells_of cs)
tail_all cs held c q e h =
    ext_get_or 0 held (chains 1 (cells_of cs)) (omega (arith, chains_length 1 (cells_of cs), length_cells cs)) (λ j l. h j (omega arith))

-- no part from cell c on, and one
pub no_part_from : (cs : List ℕ) (n c : ℕ) → n * cell_width ≡ length cs → n ≤ c → any_part (drop c (cells_of cs)) ≡ false
unfolding any_part
no_part_from cs n c q h = go (drop c (cells_of cs)) (length-drop c (cells_of cs))
  where
    go : (ks : List Cell) → length ks ≡ length (cells_of cs) - c → any_part ks ≡ false
    go [] e = refl
    go (k ∷ ks) e = absurd (omega (arith, length_cells cs))

pub part_here : (cs : List ℕ) (n i : ℕ) → n * cell_width ≡ length cs → i < n → any_part (drop i (cells_of cs)) ≡ eqb (cell_kind cs i) 2 || any_part (drop (suc i) (cells_of cs))
unfolding any_part
part_here cs n i q h = ap any_part (cells_drop i cs (omega arith))

pub fits_at : (cs held : List ℕ) (c x v : ℕ) → ((j : ℕ) → get_or cs j 0 < 4294967296) → 0 < c → x < 4294967296 → v ≡ followed held c x → Tail cs c held → v < 4294967295
fits_at cs held c x v small pos h e t = omega (arith, e, followed_same cs held c x t, followed_fits cs c x small pos h)

-- no part from cell c on
abbrev pub Bare : (cs : List ℕ) (c : ℕ) → Type 0
Bare cs c = (j : ℕ) → c ≤ j → any_part (drop j (cells_of cs)) ≡ false

pub bare_start : (cs : List ℕ) (n : ℕ) → n * cell_width ≡ length cs → Bare cs n
bare_start cs n q j h = no_part_from cs n j q h

pub bare_back : (cs : List ℕ) (n c : ℕ) → n * cell_width ≡ length cs → 0 < c → c ≤ n → (cell_kind cs (c - 1) ≡ 2 → ⊥) → Bare cs c → Bare cs (c - 1)
bare_back cs n c q pos top ne h j a = go (ℕ_discrete j (c - 1))
  where
    go : Dec (j ≡ c - 1) → any_part (drop j (cells_of cs)) ≡ false
    go (yes e) =
        let s : suc (c - 1) ≡ c = omega arith in
        ap (λ y. any_part (drop y (cells_of cs))) e
        ∙ (part_here cs n (c - 1) q (omega arith) ∙ rw (ne_eqb (cell_kind cs (c - 1)) 2 ne) (ap (λ y. any_part (drop y (cells_of cs))) s ∙ h c (omega arith)))
    go (no e) = h j (omega arith)

or_right : (x : Bool) → x || true ≡ true
or_right true = refl
or_right false = refl

before_part : (cs : List ℕ) (n c left j : ℕ) → n * cell_width ≡ length cs → c ≤ n → j + suc left ≡ c → cell_kind cs (c - 1) ≡ 2 → any_part (drop j (cells_of cs)) ≡ true
before_part cs n c zero j q top e two =
    let s : j ≡ c - 1 = omega arith in
    ap (λ y. any_part (drop y (cells_of cs))) s ∙ (part_here cs n (c - 1) q (omega arith) ∙ rw (eq-eqb (cell_kind cs (c - 1)) 2 two))
before_part cs n c (suc left) j q top e two =
    part_here cs n j q (omega arith) ∙ rw (before_part cs n c left (suc j) q top (omega arith) two) (or_right (eqb (cell_kind cs j) 2))

pub last_found : (cs : List ℕ) (n c : ℕ) → n * cell_width ≡ length cs → 0 < c → c ≤ n → cell_kind cs (c - 1) ≡ 2 → Bare cs c → Last cs n c
last_found cs n c q pos top two h = record { few = top; is = λ j. go j (dec_le c j) }
  where
    go : (j : ℕ) → Dec (c ≤ j) → any_part (drop j (cells_of cs)) ≡ ltb j c
    go j (yes l) = h j l ∙ sym (le-ltb j c l)
    go j (no l) = before_part cs n c (c - suc j) j q top (omega arith) two ∙ sym (lt-ltb j c (omega arith))

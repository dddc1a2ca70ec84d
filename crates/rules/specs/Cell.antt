-- Cells, as words and as records.
use Rattle.std.specs.Prelude.{Bool, true, false, List, [], ◌∷◌, ℕ, eqb}

-- "kind, id, position from the parent's start, length, first, count, next"
pub record Cell : Type 0 where
  pub kind : ℕ
  pub id : ℕ
  pub position : ℕ
  pub len : ℕ
  pub first : ℕ
  pub count : ℕ
  pub next : ℕ

-- the cells of a word list; words left over are none
unfoldable pub cells_of : List ℕ → List Cell
cells_of [] = []
cells_of (k ∷ []) = []
cells_of (k ∷ i ∷ []) = []
cells_of (k ∷ i ∷ p ∷ []) = []
cells_of (k ∷ i ∷ p ∷ l ∷ []) = []
cells_of (k ∷ i ∷ p ∷ l ∷ f ∷ []) = []
cells_of (k ∷ i ∷ p ∷ l ∷ f ∷ m ∷ []) = []
cells_of (k ∷ i ∷ p ∷ l ∷ f ∷ m ∷ x ∷ cs) =
    record { kind = k; id = i; position = p; len = l; first = f; count = m; next = x } ∷ cells_of cs

-- "2 packed part"
abbrev pub is_part : Cell → Bool
is_part k = eqb k.kind 2

-- "first (first child's cell, 0 for none; kind 2: word offset of the part)": a part has no child
unfoldable pub first_child : Cell → ℕ
first_child k = elim (is_part k) [ true ↦ 0 | false ↦ k.first ]

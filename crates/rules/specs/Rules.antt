-- The cell rules of document 01 (refusal 15), one by one as it words them, and the lowest cell that breaks one.
--
-- Links are followed as written. A link that does not lead to a later cell ends its chain and counts against the cell that
-- holds it: of the cells that it is about, that one is the higher, or the only one.
-- proofs/SamePlace shows that `Lowest.bad_cell`, which finds the place in one pass, names just this cell.
use Rattle.std.specs.Prelude.{◌≡◌, true, false, List, ◌∷◌, ◌⊎◌, ℕ, zero, suc, ◌+◌, ◌-◌, ◌%◌, ◌≤◌, ◌<◌, length, get_or, take, drop}
use Rattle.tree.specs.Cells.{cell_width}
use Rattle.rules.specs.Cell.{Cell, cells_of, is_part, first_child}
use Rattle.rules.specs.PartRules.{PartKept}

-- what stands for a cell that there is not: it has no links and is no part
abbrev pub blank : Cell
blank = record { kind = 0; id = 0; position = 0; len = 0; first = 0; count = 0; next = 0 }

module _ (ks : List Cell) where
  -- "Cells number from 1"
  abbrev pub cell : ℕ → Cell
  cell c = get_or (blank ∷ ks) c blank

  -- a link of the cell c leads on to the cell x: there is such a cell, and it is a later one
  abbrev pub Leads : (c x : ℕ) → Type 0
  Leads c x = (c < x) × (x ≤ length ks)

  -- x is a child of p: it stands on the chain that begins with p's first child and goes on by next
  pub data On (p : ℕ) : ℕ → Type 0 where
    begins : (x : ℕ) → first_child (cell p) ≡ x → Leads p x → On p x
    goes_on : (b x : ℕ) → On p b → (cell b).next ≡ x → Leads b x → On p x

  -- m cells stand on the chain that the link x of the cell c begins
  pub data Chain : (c x m : ℕ) → Type 0 where
    ended : (c x : ℕ) → (Leads c x → ⊥) → Chain c x 0
    linked : (c x m : ℕ) → Leads c x → Chain x (cell x).next m → Chain c x (suc m)

  -- x is a descendant of p
  pub data Below (p : ℕ) : ℕ → Type 0 where
    child : (x : ℕ) → On p x → Below p x
    deeper : (b x : ℕ) → Below p b → On b x → Below p x

  -- e is b's last descendant, or b itself, which has none
  pub record Last (b e : ℕ) : Type 0 where
    pub is : (e ≡ b) ⊎ Below b e
    pub highest : (x : ℕ) → Below b x → x ≤ e

  -- "position from the parent's start": the cell x starts at a, where the top starts at S
  pub data Starts (S : ℕ) : (x a : ℕ) → Type 0 where
    top_starts : Starts S 1 S
    child_starts : (p x a : ℕ) → Starts S p a → On p x → Starts S x (a + (cell x).position)

  -- where the parts of the cells before c end
  unfoldable pub words_before : ℕ → ℕ
  words_before zero = 0
  words_before (suc c) = elim (is_part (cell c)) [ true ↦ (cell c).first + (cell c).count | false ↦ words_before c ]

  -- T is the type count, S the top's absolute start, ws the packed words
  module _ (T S : ℕ) (ws : List ℕ) where
    -- the words of a part
    abbrev pub words_at : Cell → List ℕ
    words_at k = take k.count (drop k.first ws)

    -- The cell c breaks a rule.
    pub data Breaks (c : ℕ) : Type 0 where
      -- "cell 1 is the top, kind 1, position 0, next 0"
      top_kind : c ≡ 1 → ((cell c).kind ≡ 1 → ⊥) → Breaks c
      top_position : c ≡ 1 → ((cell c).position ≡ 0 → ⊥) → Breaks c
      top_next : c ≡ 1 → ((cell c).next ≡ 0 → ⊥) → Breaks c
      -- "kind (1 tree, 2 packed part, 3 tree of NodeType::none)"
      no_kind : ((cell c).kind ≡ 1 → ⊥) → ((cell c).kind ≡ 2 → ⊥) → ((cell c).kind ≡ 3 → ⊥) → Breaks c
      -- "id (0 for kinds 2 and 3)"
      id_of_part : (cell c).kind ≡ 2 → ((cell c).id ≡ 0 → ⊥) → Breaks c
      id_of_none : (cell c).kind ≡ 3 → ((cell c).id ≡ 0 → ⊥) → Breaks c
      -- "Ids are below T"
      id_past : (cell c).kind ≡ 1 → T ≤ (cell c).id → Breaks c
      -- "first (first child's cell, 0 for none)", "next (next sibling's cell, 0 ends the chain)"
      no_first : (first_child (cell c) ≡ 0 → ⊥) → (Leads c (first_child (cell c)) → ⊥) → Breaks c
      no_next : ((cell c).next ≡ 0 → ⊥) → (Leads c (cell c).next → ⊥) → Breaks c
      -- "A first child is the next cell"; "a rule about two cells counts against the higher"
      first_jumps : (p : ℕ) → first_child (cell p) ≡ c → Leads p c → (c ≡ suc p → ⊥) → Breaks c
      -- "next names the cell after a cell's last descendant", against the cell that is named, the higher
      next_jumps : (b : ℕ) → (cell b).next ≡ c → Leads b c → (Last b (c - 1) → ⊥) → Breaks c
      -- "a chain has count cells"; "about a chain against its parent"
      miscounts : (m : ℕ) → ((cell c).kind ≡ 2 → ⊥) → Chain c (first_child (cell c)) m → ((cell c).count ≡ m → ⊥) → Breaks c
      -- "every other cell is on one chain"; "about an unreached cell against itself"
      unreached : (c ≡ 1 → ⊥) → (Below 1 c → ⊥) → Breaks c
      on_two_chains : (p q : ℕ) → On p c → On q c → (p ≡ q → ⊥) → Breaks c
      -- "A sibling starts at or after the end of the one before it"
      overlaps : (b : ℕ) → (cell b).next ≡ c → Leads b c → (cell c).position < (cell b).position + (cell b).len → Breaks c
      -- "Children end within their parent, the top excepted"
      sticks_out : (p : ℕ) → On p c → (p ≡ 1 → ⊥) → (cell p).len < (cell c).position + (cell c).len → Breaks c
      -- "Absolute ends, counted from S in listing and 0 elsewhere, fit 32 bits; the top's length is free"
      ends_past : (a : ℕ) → (c ≡ 1 → ⊥) → Starts S c a → 4294967295 < a + (cell c).len → Breaks c
      -- "Parts abut from offset 0 in cell order, fill the packed words"
      part_apart : (cell c).kind ≡ 2 → ((cell c).first ≡ words_before c → ⊥) → Breaks c
      part_past : (cell c).kind ≡ 2 → length ws < (cell c).first + (cell c).count → Breaks c
      -- "and pass 16 to 20; their records nest and order by range as in 10 and end within the part's length"
      part_wrong : (cell c).kind ≡ 2 → (PartKept (words_at (cell c)) T (cell c).len → ⊥) → Breaks c
      -- "words after the last part against that part's cell or cell 1"
      words_left : (cell c).kind ≡ 2 → ((b : ℕ) → c < b → (cell b).kind ≡ 2 → ⊥) → ((cell c).first + (cell c).count ≡ length ws → ⊥) → Breaks c
      words_alone : c ≡ 1 → ((b : ℕ) → (cell b).kind ≡ 2 → ⊥) → (length ws ≡ 0 → ⊥) → Breaks c

    -- "lowest such cell"
    pub record LowestCell (c : ℕ) : Type 0 where
      pub from : 1 ≤ c
      pub to : c ≤ length ks
      pub breaks : Breaks c
      pub least : (b : ℕ) → 1 ≤ b → b < c → Breaks b → ⊥

-- The place of refusal 15: "lowest such cell; 0 if the slice is empty or no multiple of 7". Without a place 15 does not apply.
pub data Place (T S : ℕ) (cs ws : List ℕ) : (place : ℕ) → Type 0 where
  no_cells : (length cs ≡ 0) ⊎ (length cs % cell_width ≡ 0 → ⊥) → Place T S cs ws 0
  at_cell : (c : ℕ) → length cs % cell_width ≡ 0 → LowestCell (cells_of cs) T S ws c → Place T S cs ws c

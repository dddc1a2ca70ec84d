-- The open links in a slice, as the functions that read and write them promise each other. Only internal functions cite these.
use Rattle.std.specs.Prelude.{◌≡◌, Bool, true, false, ◌&&◌, not, cond, List, [], ◌∷◌, ◌⊎◌, ℕ, ◌+◌, ◌-◌, ◌*◌, ◌≤◌, ◌<◌, min, ltb, eqb, length, get_or, set}
use Rattle.std.specs.Prelude.{Option, None, Some}
use Rattle.rules.specs.Cell.{Cell, first_child}
use Rattle.rules.specs.Lowest.{Named}

-- four words of `held` from word `at` on
abbrev pub put4 : List ℕ → (at a b c d : ℕ) → List ℕ
put4 held at a b c d = set (set (set (set held at a) (at + 1) b) (at + 2) c) (at + 3) d

-- the word for a parent's length: the top bounds its children by nothing but 32 bits
unfoldable pub width : Option ℕ → ℕ
width None = 4294967295
width (Some l) = l

-- named cells in `held`, four words each, the oldest first
abbrev pub Held : List ℕ → List Named → Type 0
Held held [] = Unit {0}
Held held (d ∷ ds) = record {
  cell_is : get_or held (length ds * 4) 0 ≡ d.cell;
  after_is : get_or held (length ds * 4 + 1) 0 ≡ d.after;
  within_is : get_or held (length ds * 4 + 2) 0 ≡ width d.within;
  base_is : get_or held (length ds * 4 + 3) 0 ≡ d.base;
  older : Held held ds;
}

-- the latest of the links ds names a cell after x, or one from the limit on
abbrev pub Under : (limit x : ℕ) → List Named → Type 0
Under limit x [] = Unit {0}
Under limit x (d ∷ ds) = (x < d.cell) ⊎ (limit ≤ d.cell)

-- of two links one after the other, the older one names a later cell, or a cell from the limit on
abbrev pub Rising : (limit : ℕ) → List Named → Type 0
Rising limit [] = Unit {0}
Rising limit (d ∷ ds) = record { under : Under limit d.cell ds; older : Rising limit ds }

-- one of the links names m
abbrev pub Names : (m : ℕ) → List Named → Type 0
Names m [] = ⊥
Names m (d ∷ ds) = (d.cell ≡ m) ⊎ Names m ds

-- a link to the cell m, or past it, is later than a link to m
abbrev pub Clash : (m : ℕ) → List Named → Type 0
Clash m [] = ⊥
Clash m (d ∷ ds) = ((m ≤ d.cell) × Names m ds) ⊎ Clash m ds

-- The links still open of n cells, in `held`: `top` of them. The lowest cell that is named twice or passed over is `limit`, past the last
-- cell for none.
pub record Stack (held : List ℕ) (n top limit : ℕ) (ds : List Named) : Type 0 where
  pub size : top ≡ length ds
  pub held_are : Held held ds
  pub rising : Rising limit ds
  pub most : limit ≤ n + 1
  pub clash : limit ≤ n → Clash limit ds

-- the cell that a link x names, if it names one
unfoldable pub due : (x after : ℕ) (within : Option ℕ) (base : ℕ) → List Named → List Named
due x after within base ds = elim (eqb x 0) [ true ↦ ds | false ↦ record { cell = x; after = after; within = within; base = base } ∷ ds ]

-- the limit after a link to cell x is put on t links
unfoldable pub lowered : (held : List ℕ) (t limit x : ℕ) → ℕ
lowered held t limit x = cond (eqb t 0) limit (cond (ltb x (get_or held ((t - 1) * 4) 0)) limit (min limit (get_or held ((t - 1) * 4) 0)))

-- all links name cells after c
abbrev pub Over : (c : ℕ) → List Named → Type 0
Over c [] = Unit {0}
Over c (d ∷ ds) = (c < d.cell) × Over c ds

-- A link was put on: `held` became `held'`, the links ds the links ds'; whatever the number of cells is.
pub record Put (held held' : List ℕ) (t limit t' limit' x after within base : ℕ) : Type 0 where
  pub stack : (n : ℕ) (ds : List Named) (o : Option ℕ) → width o ≡ within → Stack held n t limit ds → Stack held' n t' limit' (due x after o base ds)
  pub above : (n c : ℕ) (ds : List Named) → Stack held n t limit ds → Over c ds → c < limit → c < limit'
  pub most : t' ≤ t + 1

-- both links of cell i + 1 were put on
pub record Pushed (held held' : List ℕ) (i t limit t' limit' : ℕ) (k : Cell) (within base : ℕ) : Type 0 where
  pub mid : List ℕ
  pub t₂ : ℕ
  pub limit₂ : ℕ
  pub next_put : Put held mid t limit t₂ limit₂ k.next (k.position + k.len) within base
  pub first_put : Put mid held' t₂ limit₂ t' limit' (first_child k) 0 (cond (eqb i 0) 4294967295 k.len) (base + k.position)

-- the latest of `top` links names cell c, and the limit does not
unfoldable pub in_place : (held : List ℕ) (top limit c : ℕ) → Bool
in_place held top limit c = not (eqb c limit) && (not (eqb top 0) && eqb (get_or held ((top - 1) * 4) 0) c)

-- what the latest of `top` links says
pub record ReadLink (held : List ℕ) (top after within base : ℕ) : Type 0 where
  pub after_is : after ≡ get_or held ((top - 1) * 4 + 1) 0
  pub within_is : within ≡ get_or held ((top - 1) * 4 + 2) 0
  pub base_is : base ≡ get_or held ((top - 1) * 4 + 3) 0
  pub small : base < 4294967296

-- Items and records in order, as predicates. Cited by laws and by the contracts of internal functions alone.
use Rattle.std.specs.Prelude.{◌≡◌, true, false, List, [], ◌∷◌, ℕ, ◌+◌, ◌-◌, ◌≤◌, ◌<◌, ltb, leb, length}
use Rattle.words.specs.Words.{record_width}
use Rattle.tree.specs.Items.{Items, mark, span}
use Rattle.tree.specs.Flat.{Record, rec, held_end}

-- items that start at or after p, and end after they start
abbrev pub From : (p : ℕ) → Items → Type 0
From p Items.nil = Unit {0}
From p (mark i s e n rest) = From p rest
From p (span i s e kids rest) = (p ≤ s) × (s ≤ e) × From p kids × From p rest

-- where records before this one end: at its start, or at its end where others may stand in it
unfoldable pub floor : (n s e : ℕ) → ℕ
floor n s e = elim (leb n record_width) [ true ↦ s | false ↦ e ]

-- items from `lo` to `hi`, in order and nested, with ids below T; marks have repeat ids
abbrev pub Fits : (F T lo hi : ℕ) → Items → Type 0
Fits F T lo hi Items.nil = lo ≤ hi
Fits F T lo hi (mark i s e n its) =
    record { known : i < T; repeat : ltb i F ≡ false; ordered : s ≤ e; ends : e ≤ hi; rest : Fits F T lo (floor n s e) its }
Fits F T lo hi (span i s e kids its) =
    record { known : i < T; ordered : s ≤ e; ends : e ≤ hi; inner : Fits F T s e kids; rest : Fits F T lo s its }

-- records from the last one back, in order, from `lo` to `hi`, with ids below T
abbrev pub Sorted : (T lo hi : ℕ) → List Record → Type 0
Sorted T lo hi [] = lo ≤ hi
Sorted T lo hi (rec i s e n ∷ rs) = record { known : i < T; ordered : s ≤ e; ends : e ≤ hi; rest : Sorted T lo (floor n s e) rs }

-- Held records of a flat part that stops at `stop`: at most 16,383, and where there are several the first one read ends at most b after
-- the last one's start.
abbrev pub Spread : (b : ℕ) (held : List Record) (stop : ℕ) → Type 0
Spread b [] stop = Unit {0}
Spread b (rec i s e n ∷ []) stop = stop ≡ e - b
Spread b (rec i s e n ∷ r ∷ rs) stop = (stop ≡ held_end e (r ∷ rs) - b) × (held_end e (r ∷ rs) ≤ s + b)

pub record Room (b : ℕ) (held : List Record) (stop : ℕ) : Type 0 where
  pub spread : Spread b held stop
  pub few : length held ≤ 16383

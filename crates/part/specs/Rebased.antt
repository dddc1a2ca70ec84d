-- A run of a part's words rebased. Slicing writes it; the part check's private functions speak of a run whose end indices count from
-- the offset at which it stands.
use Rattle.std.specs.Prelude.{ℕ, ◌-◌, List, [], ◌∷◌}

-- starts and ends counted from the base, end indices from the word offset `from`
unfoldable pub rebased : (from base : ℕ) → List ℕ → List ℕ
rebased from base (id ∷ start ∷ end ∷ index ∷ rest) = id ∷ (start - base) ∷ (end - base) ∷ (index - from) ∷ rebased from base rest
rebased from base [] = []
rebased from base (id ∷ []) = []
rebased from base (id ∷ start ∷ []) = []
rebased from base (id ∷ start ∷ end ∷ []) = []

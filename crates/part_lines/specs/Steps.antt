-- The lines of one part, and what the walk over its records needs: for the contracts of internal functions only.
use Rattle.std.specs.Prelude.{cond, List, [], ◌∷◌, ℕ, zero, suc, ◌+◌, ◌*◌, ◌/◌, ◌≤◌, ltb, length, get_or}
use Rattle.words.specs.Words.{record_width}
use Rattle.tree.specs.Materialise.{unpack}
use Rattle.tree.specs.Listing.{listing}
use Rattle.tree.specs.Well.{Parts}

-- how many records have a line, of words four to a record
unfoldable pub listed_in : (F : ℕ) → List ℕ → ℕ
listed_in F [] = 0
listed_in F (i ∷ []) = 0
listed_in F (i ∷ s ∷ []) = 0
listed_in F (i ∷ s ∷ e ∷ []) = 0
listed_in F (i ∷ s ∷ e ∷ n ∷ ws) =
    let rest = listed_in F ws in
    cond (ltb i F) (rest + 1) rest

-- the lines of a part that starts at p, at depth d: those of the trees that its records are
unfoldable pub listed_part : (F p d : ℕ) (ws : List ℕ) → List ℕ
listed_part F p d ws = listing F d (unpack p 0 ws)

-- of the first `top` end indices in `held`, how many are left when those up to the offset `off` are taken from the latest on
unfoldable pub still_open : (held : List ℕ) (off top : ℕ) → ℕ
still_open held off zero = 0
still_open held off (suc t) = cond (ltb off (get_or held t 0)) (suc t) (still_open held off t)

-- The part keeps the rules for parts, for some type count and length, wherever it starts, and its end fits 32 bits; there is a word for the
-- end index of each record, room for the lines, and the depth of each fits 32 bits.
pub record Lent (F p d : ℕ) (ws : List ℕ) (ends room : ℕ) : Type 0 where
  pub types : ℕ
  pub len : ℕ
  pub parts : (q : ℕ) → Parts types q len ws
  pub end_fits : p + len ≤ 4294967295
  pub ends_fit : length ws / record_width ≤ ends
  pub lines_fit : listed_in F ws * 4 ≤ room
  pub shallow : d * 4 + listed_in F ws * 4 ≤ 17179869180

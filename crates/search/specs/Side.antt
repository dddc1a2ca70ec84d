-- check_side of the source: whether a node from `from` to `to` is on the given side of a position.
use Rattle.std.specs.Prelude.{ℕ, Bool, false, cond, ◌&&◌, ltb, leb, eqb, ℤ, pos, negsuc}

-- whether two signed numbers are equal
abbrev pub eqz : ℤ → ℤ → Bool
eqz (pos a) (pos b) = eqb a b
eqz (pos a) (negsuc b) = false
eqz (negsuc a) (pos b) = false
eqz (negsuc a) (negsuc b) = eqb a b

-- before (-2), at or before (-1), around (0), at or after (1), after (2), don't care (4); "unknown sides match nothing"
unfoldable pub on_side : ℤ → ℕ → ℕ → ℕ → Bool
on_side side position from to =
    cond (eqz side (negsuc 1)) (ltb from position)
    (cond (eqz side (negsuc 0)) (leb position to && ltb from position)
    (cond (eqz side (pos 0)) (ltb from position && ltb position to)
    (cond (eqz side (pos 1)) (leb from position && ltb position to)
    (cond (eqz side (pos 2)) (ltb position to)
    (eqz side (pos 4))))))

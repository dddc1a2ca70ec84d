-- Words read out of a list and written into one. A list of words stands for a slice of any width.
use Rattle.std.specs.Prelude.{ℕ, ◌+◌, ◌-◌, ◌*◌, List, ◌++◌, length, get_or, take, drop}

-- how many words a record has, in a record list and in a packed part
abbrev pub record_width : ℕ
record_width = 4

-- The four words of record i: id, start, end, and the last one, which is a size in a record list and an end index in a
-- packed part.
abbrev pub id_of : List ℕ → ℕ → ℕ
id_of w i = get_or w (i * record_width) 0

abbrev pub start_of : List ℕ → ℕ → ℕ
start_of w i = get_or w (i * record_width + 1) 0

abbrev pub end_of : List ℕ → ℕ → ℕ
end_of w i = get_or w (i * record_width + 2) 0

abbrev pub last_of : List ℕ → ℕ → ℕ
last_of w i = get_or w (i * record_width + 3) 0

-- the words from one bound up to another
abbrev pub run : List ℕ → ℕ → ℕ → List ℕ
run w from to = take (to - from) (drop from w)

-- a list with values written from an offset on
abbrev pub put : {A : Type 0} → List A → ℕ → List A → List A
put w at vs = take at w ++ (vs ++ drop (at + length vs) w)

-- an output slice of which only the front is written
abbrev pub front : List ℕ → List ℕ → List ℕ
front vs out = vs ++ drop (length vs) out

-- Lines of a text.
use Rattle.std.specs.Prelude.{◌≡◌, ◌≢◌, ℕ, ◌+◌, ◌<◌, List, length, take, drop, slice_index}

-- `line` is the first line of a text, without its line break, and `rest` the text behind that
abbrev pub IsLine : List ℕ → List ℕ → List ℕ → Type 0
IsLine text line rest = (line ≡ take (length line) text)
    × (rest ≡ drop (length line + 1) text)
    × ((k : ℕ) → k < length line → slice_index text k ≢ 10)
    × (length line < length text → slice_index text (length line) ≡ 10)

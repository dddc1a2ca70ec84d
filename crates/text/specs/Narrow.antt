-- What is said of numbers in fewer bits.
use Rattle.std.specs.Prelude.{◌≡◌, ℕ, ◌<◌, List, Result, Ok, Err, length, slice_index, slice_index_or}

-- each number has become the item at its place
abbrev pub BecomeItems : {T E : Type 0} → (ℕ → Result T E → Type 0) → List ℕ → List T → Type 0
BecomeItems {T} gives numbers items =
    (length items ≡ length numbers) ×
    ((k : ℕ) (other : T) → k < length numbers → gives (slice_index numbers k) (Ok (slice_index_or items k other)))

-- the number is one that is refused
abbrev pub IsRefused : {T E : Type 0} → (ℕ → Result T E → Type 0) → ℕ → Type 0
IsRefused {T} {E} gives number = (error : E) × gives number (Err error)

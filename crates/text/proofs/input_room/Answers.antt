-- `text::input_room` meets its contract: the length of a repeat, by its law, not by counting. Assumes nothing.
use Rattle.std.proofs.Common.{◌≡◌, ℕ, length, replicate, sym}
use lib.ListN.{length-replicate}
use Rattle.text.proofs.input_room.Goals as goal

counted : (n : ℕ) → n ≡ length {A = ℕ} (replicate n 0)
counted n = sym (length-replicate {A = ℕ} n 0)

pub returns : goal.returns
returns c = counted 1048576

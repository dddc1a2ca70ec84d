-- `text::narrow`: the numbers passed have become items.
use Rattle.std.specs.Prelude.{◌≡◌, ℕ, ◌<◌, Ok, slice_index, slice_index_or, vec_len}
use Rattle.text.proofs.answers.narrow.Given as goal

abbrev pub invariant-loop-number : goal.invariant-loop-number
invariant-loop-number g l =
    (vec_len l.narrowed ≡ l.number-index) ×
    ((k : ℕ) (other : g.row.T.Denot) → k < l.number-index →
    g.T.TryFrom.try_from_gives (slice_index l.numbers k) (Ok (slice_index_or l.narrowed.items k other)))

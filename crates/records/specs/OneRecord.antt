-- A record's four words as one value.
use Rattle.std.specs.Prelude.{List, ℕ}
use Rattle.words.specs.Words.{id_of, start_of, end_of, last_of}
use Rattle.records.specs.declared.Record.{Record}

unfoldable pub record_of : List ℕ → ℕ → Record
record_of w i = record { id = id_of w i; start = start_of w i; end = end_of w i; size = last_of w i }

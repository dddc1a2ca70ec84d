-- `gateway::tell` meets its contract: the words are stored one by one. Assumes nothing.
use mathlib.Core.Path.{◌≡◌}
use mathlib.Core.List.{map}
use lib.ListN.{length, drop}
use Rattle.gateway.specs.Told.{as_word, laid}
use Rattle.gateway.proofs.Telling.{stored}
use Rattle.gateway.proofs.tell.Given as goal

abbrev pub invariant-loop-i : goal.invariant-loop-i
invariant-loop-i l = (length l.info ≡ length l.initial.info) × (laid (map as_word l.numbers) l.initial.info ≡ stored l.i (map as_word (drop l.i l.numbers)) l.info)

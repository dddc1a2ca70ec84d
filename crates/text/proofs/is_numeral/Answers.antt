-- `text::is_numeral` meets its contract: digits byte by byte are digits as `parse` reads them. Assumes nothing.
use Rattle.std.proofs.Common.{rules}
use Rattle.std.proofs.lemmas.Str.Parse.{numerals_by_value, tells_by_index, digit_at}
use Rattle.text.proofs.is_numeral.Goals as goal

pub returns-then-not-is_empty : goal.returns-then-not-is_empty
returns-then-not-is_empty c =
    let word = c.args.word.now in
    let own = numerals_by_value _ tells_by_index in (
      (λ yes. (search rules, own.to word (c.all_digits.ensures.0 yes))),
      (λ numeral. c.all_digits.ensures.1 (λ i below. digit_at word i numeral.1 below)),
    )

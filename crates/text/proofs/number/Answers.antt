-- `text::number` meets its contract: one digit more is what the digits write so far, times ten, and the digit. Assumes nothing.
use Rattle.std.proofs.Common.{◌∙◌, refl, ap, arith, min}
use Rattle.std.specs.Str.Parse.{digits_value}
use Rattle.std.proofs.lemmas.Int.Digits.{digits_value_more}
use Rattle.std.proofs.lemmas.List.{take_all}
use Rattle.std.proofs.lemmas.Str.{digit_value_digit}
use Rattle.std.proofs.lemmas.Str.Parse.{digit_at}
use Rattle.text.proofs.number.Goals as goal

pub loop-byte-init : goal.loop-byte-init
loop-byte-init c = refl

pub overflow_sub-byte : goal.overflow_sub-byte
overflow_sub-byte c = omega (arith, digit_at c.args.word.now c.loop-byte.byte-index (c.is_numeral.ensures.0 c.if-not-is_numeral.false).1 c.loop-byte-test.true)

pub loop-byte-preserved : goal.loop-byte-preserved
loop-byte-preserved c =
    let word = c.args.word.now in
    let i = c.loop-byte.byte-index in
    let digit = digit_at word i (c.is_numeral.ensures.0 c.if-not-is_numeral.false).1 c.loop-byte-test.true in
    omega (arith, c.min-value.ensures, c.from.ensures, c.loop-byte.invariant, digit_value_digit _ digit, digits_value_more 10 word i c.loop-byte-test.true)

pub returns : goal.returns
returns c = (c.is_numeral.ensures.0 c.if-not-is_numeral.false, c.loop-byte.invariant ∙ ap (λ ds. min (digits_value 10 ds) 1000000000000000000) (take_all c.loop-byte.byte-index c.args.word.now c.loop-byte-test.false))

use Rattle.std.proofs.Common.{◌≡◌, ◌≤◌, true, length, arith, sym, ◌∙◌}
use Rattle.std.specs.Char.{is_ascii_digit}
use Rattle.std.specs.List.{list_all}
use Rattle.rail_text.proofs.Numerals.{digits_are_text, number_read}
use Rattle.rail_text.proofs.numbers.number.Goals as goal

pub returns-in-Err : goal.returns-in-Err
returns-in-Err c =
    let digits : list_all is_ascii_digit c.args.digits.now ≡ true = sym c.are_digits.ensures ∙ c.if-not-are_digits.false in
    absurd (c.in-Err.ensures.cases.0 (digits_are_text c.args.digits.now digits))

pub returns-in-Ok : goal.returns-in-Ok
returns-in-Ok c =
    let digits : list_all is_ascii_digit c.args.digits.now ≡ true = sym c.are_digits.ensures ∙ c.if-not-are_digits.false in
    let short : length c.args.digits.now ≤ 20 = omega arith in
    c.ok.ensures.value ∙ number_read c.args.digits.now c.in-Ok.text.now c.parse.result c.in-Ok.ensures.cases.0 short digits c.parse.ensures.value.0

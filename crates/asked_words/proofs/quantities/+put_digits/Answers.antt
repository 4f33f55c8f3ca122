use Rattle.std.proofs.Common.{◌≡◌, ℕ, ◌==◌, ◌<◌, ◌+◌, ◌^◌, ◌-◌, ◌/◌, ◌%◌, [], ◌∷◌, false, arith, mod-lt, subst}
use Rattle.std.proofs.lemmas.Grind.{common_steps}
use Rattle.std.proofs.lemmas.Bool.Decides.{nat_tests}
use Rattle.std.proofs.lemmas.List.{append_assoc}
use Rattle.asked_words.specs.Quantities.{digits_of}
use Rattle.asked_words.proofs.Digits.{digits_more, some_digits}
use Rattle.asked_words.proofs.quantities.+put_digits.Goals as goal

pub put_digits-requires : goal.put_digits-requires
put_digits-requires c c' =
    let other : (c'.args.number == 0) ≡ false = grind (arith, nat_tests, common_steps) in
    let some = some_digits c'.args.digits c'.args.number c'.requires.fits other in
    let unit = c'.power_of_ten-unit in
    (omega (arith, c'.decreases, some), (omega (arith, c'.requires.few), subst (λ (m : ℕ). c'.args.number % unit.result < m) unit.ensures.value (mod-lt c'.args.number unit.ensures.some)))

pub returns : goal.returns
returns c c' =
    let k = c'.args.digits in
    let n = c'.args.number in
    let other : (n == 0) ≡ false = grind (arith, nat_tests, common_steps) in
    let some = some_digits k n c'.requires.fits other in
    let whole = append_assoc c'.args.text.now.items ((48 + n / 10 ^ (k - 1)) ∷ []) (digits_of (k - 1) (n % 10 ^ (k - 1))) in
    rw (c'.in_ok-put_digits.ensures, c'.in_ok-push.ensures.items, c'.power_of_ten-unit.ensures.value, digits_more k n some other) whole

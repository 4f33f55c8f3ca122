use Rattle.std.proofs.Common.{◌≡◌, ◌==◌, ◌++◌, ◌∙◌, false, [], ap, sym, refl, codes, if◌then◌else◌, arith}
use Rattle.std.proofs.lemmas.Grind.{common_steps}
use Rattle.std.proofs.lemmas.Bool.Decides.{nat_tests}
use Rattle.cone_words.proofs.Joining.{first_as, more_as}
use Rattle.asked_words.specs.Quantities.{duration_text}
use Rattle.asked_words.proofs.asked.put_stand.Goals as goal

pub returns : goal.returns
returns c =
    let old = c.args.text.now.items in
    let some : (c.args.ms == 0) ≡ false = grind (arith, nat_tests, common_steps) in
    let t1 = first_as old _ _ _ c.in_ok-extend_from_slice.ensures.items refl in
    let t2 = more_as old _ _ _ _ _ t1 c.in_ok-put_duration.ensures (ap duration_text c.from.ensures) in
    t2 ∙ ap (λ b. old ++ (if b then [] else codes ", and stands there for " ++ duration_text c.args.ms)) (sym some)

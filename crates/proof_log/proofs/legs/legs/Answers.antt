use Rattle.std.proofs.Common.{◌≡◌, ◌≤◌, ◌<◌, [], ◌∷◌, ◌++◌, length, None, codes, ap, arith, rules}
use Rattle.std.proofs.lemmas.Grind.{common_steps}
use Rattle.proof_log.specs.Bounds.{leg}
use Rattle.proof_log.specs.BoundText.{keeps_leg}
use Rattle.proof_log.specs.Reading.{words_left}
use Rattle.proof_log.proofs.BoundsWritten.{after_mark, leg-told}
use Rattle.proof_log.proofs.Gathering.{gathered-more, gathered-none, gathered-all, left-is, left-stops, none-stops, told-shorter}
use Rattle.proof_log.proofs.legs.legs.Goals as goal

pub returns-then-ne-clause-ok : goal.returns-then-ne-clause-ok
returns-then-ne-clause-ok c =
    gathered-all (codes "l") leg (words_left c.args.words) c.legs.legs (words_left c.legs.left) c.legs.invariant
    (left-stops c.legs.left c.in-Some.text c.first_word.result.0.now (codes "l") c.as_slice.result.now (words_left c.first_word.result.1) c.in-Some.is c.first_word.ensures c.as_slice.ensures c.if-ne.ensures)

pub returns-in_err-leg-clause-text : goal.returns-in_err-leg-clause-text
returns-in_err-leg-clause-text c is =
    let here : words_left c.legs.left ≡ codes "l" ∷ words_left c.first_word.result.1 =
    left-is c.legs.left c.in-Some.text c.first_word.result.0.now (codes "l") c.as_slice.result.now (words_left c.first_word.result.1) c.in-Some.is c.first_word.ensures c.as_slice.ensures c.if-ne.ensures in
    let none : leg (words_left c.first_word.result.1) ≡ None = c.in_err-leg.ensures.text (search rules) in
    gathered-none (codes "l") leg (words_left c.args.words) c.legs.legs (words_left c.legs.left) (words_left c.first_word.result.1) c.legs.invariant here none

pub legs-smaller : goal.legs-smaller
legs-smaller c =
    let here : words_left c.legs.left ≡ codes "l" ∷ words_left c.first_word.result.1 =
    left-is c.legs.left c.in-Some.text c.first_word.result.0.now (codes "l") c.as_slice.result.now (words_left c.first_word.result.1) c.in-Some.is c.first_word.ensures c.as_slice.ensures c.if-ne.ensures in
    let shorter : length (words_left c.in_ok-leg.after) ≤ length (words_left c.first_word.result.1) =
    told-shorter after_mark keeps_leg (words_left c.first_word.result.1) (leg (words_left c.first_word.result.1)) c.in_ok-leg.leg (words_left c.in_ok-leg.after) (leg-told (words_left c.first_word.result.1)) c.in_ok-leg.ensures.ok in
    let sizes : length (words_left c.legs.left) ≡ length (codes "l" ∷ words_left c.first_word.result.1) = ap length here in
    let less : length (words_left c.in_ok-leg.after) < length (words_left c.legs.left) = omega (arith, sizes, shorter) in
    less

pub legs-preserved : goal.legs-preserved
legs-preserved c =
    let here : words_left c.legs.left ≡ codes "l" ∷ words_left c.first_word.result.1 =
    left-is c.legs.left c.in-Some.text c.first_word.result.0.now (codes "l") c.as_slice.result.now (words_left c.first_word.result.1) c.in-Some.is c.first_word.ensures c.as_slice.ensures c.if-ne.ensures in
    let shorter : length (words_left c.in_ok-leg.after) ≤ length (words_left c.first_word.result.1) =
    told-shorter after_mark keeps_leg (words_left c.first_word.result.1) (leg (words_left c.first_word.result.1)) c.in_ok-leg.leg (words_left c.in_ok-leg.after) (leg-told (words_left c.first_word.result.1)) c.in_ok-leg.ensures.ok in
    let pushed : c.push.new.self ≡ c.legs.legs ++ c.in_ok-leg.leg ∷ [] = grind (arith, common_steps) in
    rw pushed (gathered-more (codes "l") leg (words_left c.args.words) c.legs.legs (words_left c.legs.left) (words_left c.first_word.result.1) (words_left c.in_ok-leg.after) c.in_ok-leg.leg c.legs.invariant here c.in_ok-leg.ensures.ok shorter)

pub returns-clause-ok : goal.returns-clause-ok
returns-clause-ok c = gathered-all (codes "l") leg (words_left c.args.words) c.legs.legs (words_left c.legs.left) c.legs.invariant (none-stops c.legs.left (codes "l") c.in_default.is)

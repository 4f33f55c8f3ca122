use Rattle.std.proofs.Common.{◌≡◌, ◌≤◌, ◌<◌, [], ◌∷◌, ◌++◌, length, None, codes, ap, arith, rules}
use Rattle.std.proofs.lemmas.Grind.{common_steps}
use Rattle.proof_log.specs.Parts.{cone_train}
use Rattle.proof_log.specs.ConeText.{keeps_train}
use Rattle.proof_log.specs.Reading.{words_left}
use Rattle.proof_log.proofs.Written.{after_mark, train-told}
use Rattle.proof_log.proofs.Gathering.{gathered-more, gathered-none, gathered-all, left-is, left-stops, none-stops, told-shorter}
use Rattle.proof_log.proofs.cones.cone_trains.Goals as goal

pub returns-then-ne-clause-ok : goal.returns-then-ne-clause-ok
returns-then-ne-clause-ok c =
    gathered-all (codes "t") cone_train (words_left c.args.words) c.trains.trains (words_left c.trains.left) c.trains.invariant
    (left-stops c.trains.left c.in-Some.text c.first_word.result.0.now (codes "t") c.as_slice.result.now (words_left c.first_word.result.1) c.in-Some.is c.first_word.ensures c.as_slice.ensures c.if-ne.ensures)

pub returns-in_err-train-clause-text : goal.returns-in_err-train-clause-text
returns-in_err-train-clause-text c is =
    let here : words_left c.trains.left ≡ codes "t" ∷ words_left c.first_word.result.1 =
    left-is c.trains.left c.in-Some.text c.first_word.result.0.now (codes "t") c.as_slice.result.now (words_left c.first_word.result.1) c.in-Some.is c.first_word.ensures c.as_slice.ensures c.if-ne.ensures in
    let none : cone_train (words_left c.first_word.result.1) ≡ None = c.in_err-train.ensures.text (search rules) in
    gathered-none (codes "t") cone_train (words_left c.args.words) c.trains.trains (words_left c.trains.left) (words_left c.first_word.result.1) c.trains.invariant here none

pub trains-smaller : goal.trains-smaller
trains-smaller c =
    let here : words_left c.trains.left ≡ codes "t" ∷ words_left c.first_word.result.1 =
    left-is c.trains.left c.in-Some.text c.first_word.result.0.now (codes "t") c.as_slice.result.now (words_left c.first_word.result.1) c.in-Some.is c.first_word.ensures c.as_slice.ensures c.if-ne.ensures in
    let shorter : length (words_left c.in_ok-train.after) ≤ length (words_left c.first_word.result.1) =
    told-shorter after_mark keeps_train (words_left c.first_word.result.1) (cone_train (words_left c.first_word.result.1)) c.in_ok-train.train (words_left c.in_ok-train.after) (train-told (words_left c.first_word.result.1)) c.in_ok-train.ensures.ok in
    let sizes : length (words_left c.trains.left) ≡ length (codes "t" ∷ words_left c.first_word.result.1) = ap length here in
    let less : length (words_left c.in_ok-train.after) < length (words_left c.trains.left) = omega (arith, sizes, shorter) in
    less

pub trains-preserved : goal.trains-preserved
trains-preserved c =
    let here : words_left c.trains.left ≡ codes "t" ∷ words_left c.first_word.result.1 =
    left-is c.trains.left c.in-Some.text c.first_word.result.0.now (codes "t") c.as_slice.result.now (words_left c.first_word.result.1) c.in-Some.is c.first_word.ensures c.as_slice.ensures c.if-ne.ensures in
    let shorter : length (words_left c.in_ok-train.after) ≤ length (words_left c.first_word.result.1) =
    told-shorter after_mark keeps_train (words_left c.first_word.result.1) (cone_train (words_left c.first_word.result.1)) c.in_ok-train.train (words_left c.in_ok-train.after) (train-told (words_left c.first_word.result.1)) c.in_ok-train.ensures.ok in
    let pushed : c.push.new.self ≡ c.trains.trains ++ c.in_ok-train.train ∷ [] = grind (arith, common_steps) in
    rw pushed (gathered-more (codes "t") cone_train (words_left c.args.words) c.trains.trains (words_left c.trains.left) (words_left c.first_word.result.1) (words_left c.in_ok-train.after) c.in_ok-train.train c.trains.invariant here c.in_ok-train.ensures.ok shorter)

pub returns-clause-ok : goal.returns-clause-ok
returns-clause-ok c = gathered-all (codes "t") cone_train (words_left c.args.words) c.trains.trains (words_left c.trains.left) c.trains.invariant (none-stops c.trains.left (codes "t") c.in_default.is)

use Rattle.std.proofs.Common.{◌≡◌, ◌≤◌, ◌<◌, [], ◌∷◌, ◌++◌, length, None, codes, ap, sym, arith}
use Rattle.std.proofs.lemmas.Grind.{common_steps}
use Rattle.proof_log.specs.Parts.{pair}
use Rattle.proof_log.specs.ConeText.{command_words, keeps_pair}
use Rattle.proof_log.specs.Reading.{words_left}
use Rattle.proof_log.proofs.Written.{pair-told}
use Rattle.proof_log.proofs.Gathering.{gathered-more, gathered-none, gathered-all, left-is, left-stops, none-stops, told-shorter}
use Rattle.proof_log.proofs.cones.cone_pairs.Goals as goal

pub returns-then-ne-clause-ok : goal.returns-then-ne-clause-ok
returns-then-ne-clause-ok c =
    gathered-all (codes "p") pair (words_left c.args.words) c.pairs.pairs (words_left c.pairs.left) c.pairs.invariant
    (left-stops c.pairs.left c.in-Some.text c.first_word.result.0.now (codes "p") c.as_slice.result.now (words_left c.first_word.result.1) c.in-Some.is c.first_word.ensures c.as_slice.ensures c.if-ne.ensures)

pub returns-in_default-pair-clause-text : goal.returns-in_default-pair-clause-text
returns-in_default-pair-clause-text c is =
    let here : words_left c.pairs.left ≡ codes "p" ∷ words_left c.first_word.result.1 =
    left-is c.pairs.left c.in-Some.text c.first_word.result.0.now (codes "p") c.as_slice.result.now (words_left c.first_word.result.1) c.in-Some.is c.first_word.ensures c.as_slice.ensures c.if-ne.ensures in
    let none : pair (words_left c.first_word.result.1) ≡ None = sym c.in_default-pair.ensures in
    gathered-none (codes "p") pair (words_left c.args.words) c.pairs.pairs (words_left c.pairs.left) (words_left c.first_word.result.1) c.pairs.invariant here none

pub pairs-smaller : goal.pairs-smaller
pairs-smaller c =
    let here : words_left c.pairs.left ≡ codes "p" ∷ words_left c.first_word.result.1 =
    left-is c.pairs.left c.in-Some.text c.first_word.result.0.now (codes "p") c.as_slice.result.now (words_left c.first_word.result.1) c.in-Some.is c.first_word.ensures c.as_slice.ensures c.if-ne.ensures in
    let shorter : length (words_left c.in-Some-pair.after) ≤ length (words_left c.first_word.result.1) =
    told-shorter (λ p. command_words p.0 ++ command_words p.1) keeps_pair (words_left c.first_word.result.1) (pair (words_left c.first_word.result.1)) c.in-Some-pair.both (words_left c.in-Some-pair.after) (pair-told (words_left c.first_word.result.1)) (sym c.in-Some-pair.ensures) in
    let sizes : length (words_left c.pairs.left) ≡ length (codes "p" ∷ words_left c.first_word.result.1) = ap length here in
    let less : length (words_left c.in-Some-pair.after) < length (words_left c.pairs.left) = omega (arith, sizes, shorter) in
    less

pub pairs-preserved : goal.pairs-preserved
pairs-preserved c =
    let here : words_left c.pairs.left ≡ codes "p" ∷ words_left c.first_word.result.1 =
    left-is c.pairs.left c.in-Some.text c.first_word.result.0.now (codes "p") c.as_slice.result.now (words_left c.first_word.result.1) c.in-Some.is c.first_word.ensures c.as_slice.ensures c.if-ne.ensures in
    let shorter : length (words_left c.in-Some-pair.after) ≤ length (words_left c.first_word.result.1) =
    told-shorter (λ p. command_words p.0 ++ command_words p.1) keeps_pair (words_left c.first_word.result.1) (pair (words_left c.first_word.result.1)) c.in-Some-pair.both (words_left c.in-Some-pair.after) (pair-told (words_left c.first_word.result.1)) (sym c.in-Some-pair.ensures) in
    let pushed : c.push.new.self ≡ c.pairs.pairs ++ c.in-Some-pair.both ∷ [] = grind (arith, common_steps) in
    rw pushed (gathered-more (codes "p") pair (words_left c.args.words) c.pairs.pairs (words_left c.pairs.left) (words_left c.first_word.result.1) (words_left c.in-Some-pair.after) c.in-Some-pair.both c.pairs.invariant here (sym c.in-Some-pair.ensures) shorter)

pub returns-clause-ok : goal.returns-clause-ok
returns-clause-ok c = gathered-all (codes "p") pair (words_left c.args.words) c.pairs.pairs (words_left c.pairs.left) c.pairs.invariant (none-stops c.pairs.left (codes "p") c.in_default.is)

use Rattle.std.proofs.Common.{◌≡◌, ◌≤◌, ◌<◌, false, [], ◌∷◌, ◌++◌, length, None, codes, ap, arith, rules}
use Rattle.std.proofs.lemmas.Grind.{common_steps}
use Rattle.std.specs.Str.{bytes_eq}
use Rattle.proof_log.specs.Reading.{words_left}
use Rattle.proof_log.specs.Bounds.{place_of}
use Rattle.proof_log.proofs.BoundsWritten.{place-shorter}
use Rattle.proof_log.proofs.BoundsGathering.{gathered-more, gathered-none, gathered-all, left-is, left-starts, none-starts, other-word}
use Rattle.proof_log.proofs.legs.places.Goals as goal

pub returns-then-eq-clause-ok : goal.returns-then-eq-clause-ok
returns-then-eq-clause-ok c =
    gathered-all (codes "l") place_of (words_left c.args.words) c.places.places (words_left c.places.left) c.places.invariant
    (left-starts c.places.left c.in-Some.text c.first_word.result.0.now (codes "l") c.as_slice.result.now (words_left c.first_word.result.1) c.in-Some.is c.first_word.ensures c.as_slice.ensures c.if-eq.ensures)

pub returns-in_err-place-clause-text : goal.returns-in_err-place-clause-text
returns-in_err-place-clause-text c is =
    let word = c.first_word.result.0.now in
    let more = words_left c.first_word.result.1 in
    let here : words_left c.places.left ≡ word ∷ more = left-is c.places.left c.in-Some.text word more c.in-Some.is c.first_word.ensures in
    let other : bytes_eq word (codes "l") ≡ false = other-word word (codes "l") c.as_slice.result.now c.as_slice.ensures c.if-eq.ensures in
    let none : place_of word more ≡ None = c.in_err-place.ensures.text (search rules) in
    gathered-none (codes "l") place_of (words_left c.args.words) c.places.places (words_left c.places.left) word more c.places.invariant here other none

pub places-smaller : goal.places-smaller
places-smaller c =
    let word = c.first_word.result.0.now in
    let more = words_left c.first_word.result.1 in
    let here : words_left c.places.left ≡ word ∷ more = left-is c.places.left c.in-Some.text word more c.in-Some.is c.first_word.ensures in
    let shorter : length (words_left c.in_ok-place.after) ≤ length more = place-shorter word more c.in_ok-place.place (words_left c.in_ok-place.after) c.in_ok-place.ensures.ok in
    let sizes : length (words_left c.places.left) ≡ length (word ∷ more) = ap length here in
    let less : length (words_left c.in_ok-place.after) < length (words_left c.places.left) = omega (arith, sizes, shorter) in
    less

pub places-preserved : goal.places-preserved
places-preserved c =
    let word = c.first_word.result.0.now in
    let more = words_left c.first_word.result.1 in
    let here : words_left c.places.left ≡ word ∷ more = left-is c.places.left c.in-Some.text word more c.in-Some.is c.first_word.ensures in
    let other : bytes_eq word (codes "l") ≡ false = other-word word (codes "l") c.as_slice.result.now c.as_slice.ensures c.if-eq.ensures in
    let shorter : length (words_left c.in_ok-place.after) ≤ length more = place-shorter word more c.in_ok-place.place (words_left c.in_ok-place.after) c.in_ok-place.ensures.ok in
    let pushed : c.push.new.self ≡ c.places.places ++ c.in_ok-place.place ∷ [] = grind (arith, common_steps) in
    rw pushed (gathered-more (codes "l") place_of (words_left c.args.words) c.places.places (words_left c.places.left) word more (words_left c.in_ok-place.after) c.in_ok-place.place c.places.invariant here other c.in_ok-place.ensures.ok shorter)

pub returns-clause-ok : goal.returns-clause-ok
returns-clause-ok c = gathered-all (codes "l") place_of (words_left c.args.words) c.places.places (words_left c.places.left) c.places.invariant (none-starts c.places.left (codes "l") c.in_default.is)

use Rattle.std.proofs.Common.{◌≡◌, ◌≤◌, pos, nat_abs, to_z, w64, ◌∙◌, ap, arith}
use Rattle.std.proofs.lemmas.Int.{ints, to_z-of_z}
use Rattle.rail_motion.proofs.Moves.{left_over}
use Rattle.rail_motion.proofs.speeds.step.Goals as goal

pub returns-clause-speed : goal.returns-clause-speed
returns-clause-speed c =
    let x = c.ranges.x in
    let v = c.ranges.v in
    let same : to_z w64 c.advance-place.result.1 ≡ pos c.advance-place.result.1 = omega (arith, ints) in
    same ∙ ap pos (simp to_z-of_z at c.advance-place.ensures.speed)

pub returns-clause-braking : goal.returns-clause-braking
returns-clause-braking c =
    let place : nat_abs (to_z w64 c.advance-place.result.0) ≡ c.advance-place.result.0 = omega (arith, ints) in
    let speed : nat_abs (to_z w64 c.advance-place.result.1) ≡ c.advance-place.result.1 = omega (arith, ints) in
    rw (place, speed) c.advance-place.ensures.braking

pub returns-clause-in_authority : goal.returns-clause-in_authority
returns-clause-in_authority c =
    let place : nat_abs (to_z w64 c.advance-place.result.0) ≡ c.advance-place.result.0 = omega (arith, ints) in
    rw place c.advance-place.ensures.in_authority

pub returns-clause-moves : goal.returns-clause-moves
returns-clause-moves c = λ left.
    let begun = c.requires.x in
    let x = c.ranges.x in
    let moves : 1 ≤ c.advance-place.result.1 = c.advance-place.ensures.moves (rw to_z-of_z (left_over c.args.x c.args.ahead.now.end begun.at_least left)) in
    omega (arith, ints)

use Rattle.std.proofs.Common.{◌+◌, ap, None}
use Rattle.sat_trail.specs.Trails.{depth}
use Rattle.sat_trail.specs.View.{View}
use Rattle.sat_trail.proofs.Grows.{trail-push}
use Rattle.text_tests.proofs.trails.choose.Goals as goal

pub propagate-requires-clause-trail : goal.propagate-requires-clause-trail
propagate-requires-clause-trail c = trail-push c.args.arena.now c.args.trail.now.steps c.decide.new.self.steps (record { lit = c.args.l; level = depth c.args.trail.now.steps + 1; reason = None }) c.requires.trail (record { fresh = c.lacks.ensures.yes c.if-lacks.true; reasoned = λ id e. absurd (cc) }) (ap (λ (v : View). v.steps) c.decide.ensures.pushed)

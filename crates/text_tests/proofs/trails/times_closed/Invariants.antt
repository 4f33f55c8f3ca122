use Rattle.std.proofs.Common.{◌≡◌}
use Rattle.sat_trail.specs.Attached.{AreLive}
use Rattle.sat_trail.specs.Trails.{IsTrail}
use Rattle.text_tests.proofs.trails.times_closed.Given as goal

abbrev pub invariant-choices : goal.invariant-choices
invariant-choices l = record { attached : AreLive l.arena l.trail.attached; trail : IsTrail l.arena l.trail.steps; same : l.trail.vars ≡ l.fn.trail.vars }

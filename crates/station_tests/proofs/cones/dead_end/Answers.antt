-- The station is written out, and what is said of it computes.
use Rattle.std.proofs.Common.{refl}
use Rattle.station_tests.proofs.cones.dead_end.Goals as goal

pub returns-clause-admitted : goal.returns-clause-admitted
returns-clause-admitted c =
    simp (
      c.in_ok-west.ensures,
      c.in_ok-east.ensures,
      c.in_ok-nodes.ensures,
      c.in_ok-edge.ensures,
      c.in_ok-edges.ensures,
      c.in_ok-section.ensures,
      c.in_ok-sections.ensures,
      c.in_ok-vehicle.ensures,
      c.in_ok-vehicles.ensures,
      c.in_ok-train.ensures,
      c.in_ok-trains.ensures,
      c.new.ensures,
      c.new-2.ensures,
      c.new-3.ensures,
      c.new-4.ensures,
    ) refl

pub returns-clause-routes : goal.returns-clause-routes
returns-clause-routes c =
    simp (
      c.in_ok-west.ensures,
      c.in_ok-east.ensures,
      c.in_ok-nodes.ensures,
      c.in_ok-edge.ensures,
      c.in_ok-edges.ensures,
      c.in_ok-section.ensures,
      c.in_ok-sections.ensures,
      c.in_ok-vehicle.ensures,
      c.in_ok-vehicles.ensures,
      c.in_ok-train.ensures,
      c.in_ok-trains.ensures,
      c.new.ensures,
      c.new-2.ensures,
      c.new-3.ensures,
      c.new-4.ensures,
    ) refl

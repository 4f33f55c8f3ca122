-- The station is written out, and what is said of it computes.
use Rattle.std.proofs.Common.{refl}
use Rattle.station_tests.proofs.alike.design.Goals as goal

pub invariant_of-result : goal.invariant_of-result
invariant_of-result c =
    record {
      admitted = simp (
        c.in_ok-west.ensures,
        c.in_ok-east.ensures,
        c.in_ok-nodes.ensures,
        c.in_ok-edge.ensures,
        c.in_ok-edges.ensures,
        c.in_ok-section.ensures,
        c.in_ok-sections.ensures,
        c.in_ok-slow.ensures,
        c.in_ok-fast.ensures,
        c.in_ok-vehicles.ensures,
        c.in_ok-trains.ensures,
        c.in_ok-orders.ensures,
        c.in_ok-withins.ensures,
        c.new.ensures,
        c.new-2.ensures,
      ) refl;
    }

-- A larger station with one track.
use Rattle.std.specs.Prelude.{◌≡◌, List, [], ◌∷◌, codes, refl}
use Rattle.rail_base.specs.declared.station.Station.{Station}
use Rattle.rail_base.specs.declared.station.Side.TheVariants.{A, B}
use Rattle.rail_base.specs.declared.plan.Command.{Command}
use Rattle.rail_spec.specs.Track.{routes_of}
use Rattle.rail_spec.specs.Requirements.{cost}
use Rattle.rail_laws.proofs.Stations.{at, boundary, inner, edge, node, train, command}

abbrev station : Station
station = record {
  version = 1;
  tick_ms = 1000;
  horizon_ms = 3600000;
  nodes = boundary "w" ∷ boundary "e" ∷ inner "n1" ∷ inner "n2" ∷ [];
  edges = edge "e1" (at 1 B) (at 3 A) 200000 20000 1 ∷ edge "e2" (at 3 B) (at 4 A) 201807 20000 2 ∷ edge "e3" (at 4 B) (at 2 A) 200000 20000 3 ∷ [];
  sections = codes "z1" ∷ codes "z2" ∷ codes "z3" ∷ [];
  signals = record { name = codes "s1"; node = node 4; toward = B } ∷ record { name = codes "s2"; node = node 3; toward = A } ∷ [];
  vehicles = record { name = codes "v"; length_mm = 100000; accel_mm_s2 = 500; brake_mm_s2 = 700; speed_mm_s = 20000 } ∷ [];
  trains = train "A" ((node 1 ∷ []) ∷ (node 2 ∷ []) ∷ []) ∷ [];
  orders = [];
  withins = [];
  overlaps = [];
}

abbrev through_station : List (List Command)
through_station = (command 1 1 ∷ []) ∷ (command 1 4 ∷ []) ∷ []

takes_fifty : cost station (routes_of station) through_station ≡ 50
takes_fifty = refl

-- A station of two sections in a row between boundaries, with a signal between them, and one train.
use Rattle.std.specs.Prelude.{true, false, pos, List, [], ◌∷◌}
use Rattle.rail_base.specs.declared.station.Station.{Station}
use Rattle.rail_base.specs.declared.station.Side.TheVariants.{A, B}
use Rattle.rail_base.specs.declared.route.Route.{Route}
use Rattle.rail_base.specs.declared.route.Start.TheVariants as start
use Rattle.rail_base.specs.declared.route.Finish.TheVariants as finish

-- sections of 10 m and 6 m
unfoldable pub line_station : Station
line_station = record {
  version = 1;
  tick_ms = 1000;
  horizon_ms = 12000;
  nodes = record { name = 119 ∷ []; boundary = true }
      ∷ record { name = 109 ∷ []; boundary = false }
      ∷ record { name = 101 ∷ []; boundary = true }
      ∷ [];
  edges = record {
    name = 102 ∷ [];
    from = record { node = record { 0 = 1 }; side = B };
    to = record { node = record { 0 = 2 }; side = A };
    length_mm = 10000;
    speed_mm_s = 2000;
    section = record { 0 = 1 };
  } ∷ record {
    name = 103 ∷ [];
    from = record { node = record { 0 = 2 }; side = B };
    to = record { node = record { 0 = 3 }; side = A };
    length_mm = 6000;
    speed_mm_s = 2000;
    section = record { 0 = 2 };
  } ∷ [];
  sections = (121 ∷ []) ∷ (122 ∷ []) ∷ [];
  signals = record { name = 115 ∷ []; node = record { 0 = 2 }; toward = B } ∷ [];
  vehicles = record { name = 118 ∷ []; length_mm = 2000; accel_mm_s2 = 500; brake_mm_s2 = 700; speed_mm_s = 2000 } ∷ [];
  trains = record {
    name = 65 ∷ [];
    vehicle = record { 0 = 1 };
    visits = (record { 0 = 1 } ∷ []) ∷ (record { 0 = 3 } ∷ []) ∷ [];
    dwell_ms = 0 ∷ 0 ∷ [];
  } ∷ [];
  orders = [];
  withins = [];
  overlaps = [];
}

-- its routes: to the signal, from there to the exit, and back
unfoldable pub line_routes : List Route
line_routes =
    record {
      start = start.Boundary (record { 0 = 1 });
      finish = finish.Signal (record { 0 = 1 });
      length = pos 10000;
      edges = record { 0 = 1 } ∷ [];
      nodes = (record { 0 = 1 }, pos 0) ∷ (record { 0 = 2 }, pos 10000) ∷ [];
      sections = (record { 0 = 1 }, pos 10000) ∷ [];
      overlaps = [];
    }
    ∷ record {
      start = start.Signal (record { 0 = 1 });
      finish = finish.Exit (record { 0 = 3 });
      length = pos 6000;
      edges = record { 0 = 2 } ∷ [];
      nodes = (record { 0 = 2 }, pos 0) ∷ (record { 0 = 3 }, pos 6000) ∷ [];
      sections = (record { 0 = 2 }, pos 6000) ∷ [];
      overlaps = [];
    }
    ∷ record {
      start = start.Boundary (record { 0 = 3 });
      finish = finish.Exit (record { 0 = 1 });
      length = pos 16000;
      edges = record { 0 = 2 } ∷ record { 0 = 1 } ∷ [];
      nodes = (record { 0 = 3 }, pos 0) ∷ (record { 0 = 2 }, pos 6000) ∷ (record { 0 = 1 }, pos 16000) ∷ [];
      sections = (record { 0 = 2 }, pos 6000) ∷ (record { 0 = 1 }, pos 16000) ∷ [];
      overlaps = [];
    }
    ∷ []

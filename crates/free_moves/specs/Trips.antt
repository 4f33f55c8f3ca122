-- The ticks of a trip.
use Rattle.std.specs.Prelude.{ℕ, if◌then◌else◌, Bool, List}
use Rattle.free_spec.specs.Legs.{Leg, least_ticks, least_ticks_waited, with_next, least_over, following, least_whatever_follows}
use Rattle.free_moves.specs.declared.trips.Trip.{Trip}
use Rattle.rail_base.specs.declared.route.RouteNo.{RouteNo}
use Rattle.rail_base.specs.declared.station.TrainNo.{TrainNo}
use Rattle.rail_base.specs.Routes.{route_at}
use Rattle.rail_course.specs.Tracks.{routes_at}
use Rattle.interlocking.specs.declared.railway.Interlocking.{Interlocking}
use Rattle.interlocking.specs.Plans.{on}
use Rattle.cone_spec.specs.Validity.{from_boundary}
use Rattle.bound_spec.specs.Rides.{run_ticks, on_ticks}
use Rattle.free_spec.specs.Free.{steps}
use Rattle.free_moves.specs.declared.moves.LegTrack.{LegTrack}
use Rattle.free_moves.specs.Moves.{free_on, waited_on}

-- the least on a leg
abbrev pub trip_ticks : Trip → Leg → ℕ
trip_ticks p l =
    let d = p.interlocking.now.design.station in
    let waited = least_ticks_waited d p.train l p.most p.from p.to in
    let plain = least_ticks d p.train l p.most p.from p.to in
    if p.waits then waited else plain

module _ (p : Trip) where
  -- the least on a leg's track
  abbrev pub track_ticks : LegTrack → ℕ
  track_ticks track =
      if p.waits then waited_on track p.most p.from p.to else steps (free_on track) p.most p.from p.to

  -- on a leg with these routes
  abbrev pub path_ticks : List RouteNo → Bool → Bool → ℕ
  path_ticks path closed rest =
      trip_ticks p (record { routes = routes_at p.interlocking.now.routes path; closed = closed; rest = rest })

  -- with one route more
  abbrev pub next_ticks : List RouteNo → Bool → RouteNo → ℕ
  next_ticks path rest next = let routes = p.interlocking.now.routes in
      trip_ticks p (with_next (routes_at routes path) rest (route_at routes next))

  -- the least of a number and of what it takes with any route more
  abbrev pub least_with_next : List RouteNo → Bool → ℕ → ℕ
  least_with_next path rest first = let routes = p.interlocking.now.routes in
      least_over (trip_ticks p) first (following routes (routes_at routes path) rest)

  -- the least, whatever follows
  abbrev pub least_trip_ticks : List RouteNo → ℕ
  least_trip_ticks path = let routes = p.interlocking.now.routes in let walk = routes_at routes path in
      least_whatever_follows (trip_ticks p) routes walk (from_boundary walk)

module _ (i : Interlocking) (most : ℕ) (train : TrainNo) (walk : List RouteNo) where
  -- the least ticks of a train from the grant of the walk's first route to a place
  abbrev pub walk_run_ticks : ℕ → ℕ
  walk_run_ticks place = on i run_ticks most train (routes_at i.routes walk) place

  -- from one place to another
  abbrev pub walk_on_ticks : ℕ → ℕ → ℕ
  walk_on_ticks from place = on i on_ticks most train (routes_at i.routes walk) from place

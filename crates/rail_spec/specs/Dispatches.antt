-- Runs: the state after each tick, under whatever says which command waits for which.
use Rattle.std.specs.Prelude.{ℕ, zero, suc, ◌+◌, Bool, true, false, ◌==◌, if◌then◌else◌, List, [], ◌∷◌, map, flat_map, length}
use Rattle.std.specs.Prelude.{take, slice_get, nat_le, nat_lt, Option, None, Some, option_map, sum_by}
use Rattle.std.specs.List.{list_any, list_all}
use Rattle.std.specs.Option.{option_or}
use Rattle.rail_base.specs.declared.station.Station.{Station}
use Rattle.rail_base.specs.declared.station.EdgeNo.{EdgeNo}
use Rattle.rail_base.specs.declared.station.SectionNo.{SectionNo}
use Rattle.rail_base.specs.declared.station.TrainNo.{TrainNo}
use Rattle.rail_base.specs.declared.route.Route.{Route}
use Rattle.rail_base.specs.declared.route.RouteNo.{RouteNo}
use Rattle.rail_base.specs.declared.plan.Command.{Command}
use Rattle.rail_base.specs.declared.state.TrainState.{TrainState}
use Rattle.rail_base.specs.declared.state.TrainEvent.{TrainEvent}
use Rattle.rail_base.specs.declared.state.PathNode.{PathNode}
use Rattle.rail_base.specs.Events.{has_happened}
use Rattle.rail_base.specs.Numbering.{entry, before_first}
use Rattle.rail_base.specs.Stations.{edge_of, train_of, train_length, vehicle_of, trains, per_tick_speed}
use Rattle.rail_base.specs.Stations.{per_tick_accel, dwell_ticks, whole_ticks}
use Rattle.rail_spec.specs.Track.{edge_ends}
use Rattle.rail_spec.specs.Plans.{path, preceding, route_at, shared, goes_over, release_offset, hold_ms, length_mm}
use Rattle.rail_spec.specs.Plans.{exits, is_route}
use Rattle.rail_spec.specs.Places.{path_nodes, visits_on, next_stop}
use Rattle.rail_spec.specs.Motion.{MotorSeen, SpanSeen, next_speed}

-- how a train begins: nothing is granted, and it stands at the start of its path
abbrev pub idle : TrainState
idle = record { granted = 0; x = 0; v = 0; stood = 0 }

-- the state of a train that has been granted so many commands
abbrev pub with_granted : ℕ → TrainState → TrainState
with_granted n s = record { granted = n; x = s.x; v = s.v; stood = s.stood }

-- the state of a train, in the list of all trains' states
abbrev pub state_of : List TrainState → TrainNo → TrainState
state_of s t = entry idle s t.0

-- what a train has been through: its states so far, the last first; a tick that does not concern it adds none

-- its state so many of these ticks ago, and idle before all of them
abbrev pub ago : ℕ → List TrainState → TrainState
ago n past = entry idle past (suc n)

-- what one train has been through, in the list of all trains' pasts
abbrev pub past_of : List (List TrainState) → TrainNo → List TrainState
past_of ps t = entry [] ps t.0

-- the state of each train now
abbrev pub now : List (List TrainState) → List TrainState
now ps = map (ago 0) ps

-- the event came to its train, so many ticks ago or more
abbrev pub has_come : List (List TrainState) → TrainEvent → Bool
has_come ps e = has_happened (ago e.ticks (past_of ps e.train)) e.event

-- how far behind its head limits bind a train: in designs of version 1 they bind the head alone, from version 2 on until the
-- tail has left
abbrev pub binding_length : Station → TrainNo → ℕ
binding_length d t = if nat_le 2 d.version then train_length d t else 0

-- what a train's vehicle can do in a tick
abbrev pub rates : Station → TrainNo → MotorSeen
rates d t = record {
  accel = per_tick_accel d (vehicle_of d t).accel_mm_s2;
  brake = per_tick_accel d (vehicle_of d t).brake_mm_s2;
  top = per_tick_speed d (vehicle_of d t).speed_mm_s;
  tail = binding_length d t;
}

-- an edge that ends there, with its limit
abbrev pub stretch : Station → EdgeNo × ℕ → SpanSeen
stretch d e = record { end = e.1; limit = per_tick_speed d (edge_of d e.0).speed_mm_s }

-- the edges of routes in a row, each with its end and its limit
abbrev pub stretches : Station → List Route → List SpanSeen
stretches d rs = map (stretch d) (edge_ends d 0 (flat_map (λ r. r.edges) rs))

-- how far routes in a row let a train go: their length, or no end where one exits
abbrev pub track_end : List Route → Option ℕ
track_end rs = if list_any exits rs then None else Some (sum_by length_mm rs)

-- there is a place, and the head is at it
abbrev pub is_at : Option ℕ → ℕ → Bool
is_at (Some place) x = x == place
is_at None x = false

-- the routes that each train may be granted, in order; the commands that each command waits for; and which trains a tick concerns
pub record Dispatch : Type 0 where
  pub path : TrainNo → List RouteNo
  pub before : Command → List Command
  pub concerns : ℕ → TrainNo → Bool

-- that of a plan: each train goes its path, a command waits for those that precede it, and every tick concerns every train
abbrev pub of_plan : List Route → List (List Command) → Dispatch
of_plan routes plan = record { path = path plan; before = preceding routes plan; concerns = λ k t. true }

-- ---- one tick

module _ (d : Station) (routes : List Route) (p : Dispatch) where
  -- the routes of a command's train before the command's own
  abbrev pub routes_before : Command → List Route
  routes_before c = map (route_at routes) (before_first (λ r. is_route r c.route) (p.path c.train))

  -- as many commands of its train are granted as there are up to it
  abbrev pub is_granted : List TrainState → Command → Bool
  is_granted s c = nat_lt (length (routes_before c)) (state_of s c.train).granted

  -- how a command releases an own section: it is granted, and its train's tail reaches the section's release offset
  abbrev pub release_of_own : Command → SectionNo → TrainEvent
  release_of_own c z =
      let place = sum_by length_mm (routes_before c) + release_offset (route_at routes c.route) z + train_length d c.train in
      record { train = c.train; event = record { granted = suc (length (routes_before c)); place = place }; ticks = 0 }

  -- how it releases a section of its overlap: it is granted, its train's head comes to the route's end, and the section is
  -- held on
  abbrev pub release_of_overlap : Command → SectionNo → TrainEvent
  release_of_overlap c z =
      let place = sum_by length_mm (routes_before c) + length_mm (route_at routes c.route) in
      let ticks = whole_ticks d (hold_ms (route_at routes c.route) z) in
      record { train = c.train; event = record { granted = suc (length (routes_before c)); place = place }; ticks = ticks }

  -- how it releases a section
  abbrev pub release : Command → SectionNo → TrainEvent
  release c z = if goes_over (route_at routes c.route) z then release_of_own c z else release_of_overlap c z

  -- it has released the section
  abbrev pub has_released : List (List TrainState) → Command → SectionNo → Bool
  has_released ps c z = has_come ps (release c z)

  -- the second command has released every section that the two share
  abbrev pub has_cleared : List (List TrainState) → Command → Command → Bool
  has_cleared ps c e = list_all (has_released ps e) (shared (route_at routes e.route) (route_at routes c.route))

  -- so has every command that this one waits for
  abbrev pub is_ready : List (List TrainState) → Command → Bool
  is_ready ps c = list_all (has_cleared ps c) (p.before c)

  -- how many commands of the train are granted after the tick, where this one is its next
  abbrev pub granted_with : List (List TrainState) → TrainNo → Option RouteNo → ℕ
  granted_with ps t None = (state_of (now ps) t).granted
  granted_with ps t (Some r) =
      let granted = (state_of (now ps) t).granted in
      if is_ready ps (record { train = t; route = r }) then granted + 1 else granted

  -- how many commands of the train are granted after the tick
  abbrev pub granted_after : List (List TrainState) → TrainNo → ℕ
  granted_after ps t = granted_with ps t (slice_get (p.path t) (state_of (now ps) t).granted)

  -- the routes that a train is granted in a state
  abbrev pub granted_routes : TrainNo → TrainState → List Route
  granted_routes t s = take s.granted (map (route_at routes) (p.path t))

  -- the visit on those routes at which it has still to stand, if there is one, by where it is made
  abbrev pub stop : TrainNo → TrainState → Option PathNode
  stop t s = next_stop (dwell_ticks d t) (visits_on (train_of d t).visits (path_nodes (granted_routes t s))) s.stood

  -- the place of that visit
  abbrev pub stop_place : TrainNo → TrainState → Option ℕ
  stop_place t s = option_map (λ path_node. path_node.event.place) (stop t s)

  -- how far it may go: to the place where it has still to stand, or else to the end of those routes
  abbrev pub authority : TrainNo → TrainState → Option ℕ
  authority t s = option_or (stop_place t s) (track_end (granted_routes t s))

  -- its head is where it has to stand
  abbrev pub stands : TrainNo → TrainState → Bool
  stands t s = is_at (stop_place t s) s.x

  -- how fast it goes on from there
  abbrev pub speed_in : TrainNo → TrainState → ℕ
  speed_in t s = next_speed (rates d t) (stretches d (granted_routes t s)) (authority t s) s.x s.v

  -- how many ticks it has stood after a tick that begins so
  abbrev pub stood_after : TrainNo → TrainState → ℕ
  stood_after t s = if stands t s then s.stood + 1 else s.stood

  -- a train with a granted command moves, or stands where it has to, and another stays
  abbrev pub moved : TrainNo → TrainState → ℕ → TrainState
  moved t old zero = old
  moved t old (suc n) =
      let s = with_granted (suc n) old in
      let u = speed_in t s in
      record { granted = suc n; x = old.x + u; v = u; stood = stood_after t s }

  -- a tick: all grants are seen against what has been, and then all trains that it concerns move
  abbrev pub tick : ℕ → List (List TrainState) → List (List TrainState)
  tick k ps = map (λ t. if p.concerns k t then moved t (state_of (now ps) t) (granted_after ps t) ∷ past_of ps t
      else past_of ps t) (trains d)

  -- what all trains have been through after so many ticks
  abbrev pub pasts_at : ℕ → List (List TrainState)
  pasts_at zero = map (λ t. idle ∷ []) (trains d)
  pasts_at (suc k) = tick (suc k) (pasts_at k)

  -- the state after so many ticks
  abbrev pub state_at : ℕ → List TrainState
  state_at k = now (pasts_at k)

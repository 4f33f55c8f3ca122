-- Small designs, with the names that their files give.
use Prim.Native.String.{String}
use Rattle.std.specs.Prelude.{ℕ, true, false, List, [], ◌∷◌, map, codes}
use Rattle.rail_base.specs.declared.station.Station.{Station}
use Rattle.rail_base.specs.declared.station.Edge.{Edge}
use Rattle.rail_base.specs.declared.station.Node.{Node}
use Rattle.rail_base.specs.declared.station.Signal.{Signal}
use Rattle.rail_base.specs.declared.station.Vehicle.{Vehicle}
use Rattle.rail_base.specs.declared.station.Train.{Train}
use Rattle.rail_base.specs.declared.station.Order.{Order}
use Rattle.rail_base.specs.declared.station.Within.{Within}
use Rattle.rail_base.specs.declared.station.End.{End}
use Rattle.rail_base.specs.declared.station.Side.{Side}
use Rattle.rail_base.specs.declared.station.Side.TheVariants.{A, B}
use Rattle.rail_base.specs.declared.station.NodeNo.{NodeNo}
use Rattle.rail_base.specs.declared.station.SectionNo.{SectionNo}
use Rattle.rail_base.specs.declared.plan.Command.{Command}

abbrev pub at : ℕ → Side → End
at n s = record { node = record { 0 = n }; side = s }

abbrev pub boundary : String → Node
boundary name = record { name = codes name; boundary = true }

abbrev pub inner : String → Node
inner name = record { name = codes name; boundary = false }

abbrev pub edge : String → End → End → ℕ → ℕ → ℕ → Edge
edge name from to length speed z = record { name = codes name; from = from; to = to; length_mm = length; speed_mm_s = speed; section = record { 0 = z } }

abbrev pub vehicle : Vehicle
vehicle = record { name = codes "v"; length_mm = 2000; accel_mm_s2 = 500; brake_mm_s2 = 700; speed_mm_s = 2000 }

-- a train that makes these visits, and stands so long at each
abbrev pub train_with : String → List (List NodeNo) → List ℕ → Train
train_with name visits dwells = record { name = codes name; vehicle = record { 0 = 1 }; visits = visits; dwell_ms = dwells }

-- a train that stands nowhere
abbrev pub train : String → List (List NodeNo) → Train
train name visits = train_with name visits (map (λ set. 0) visits)

abbrev pub node : ℕ → NodeNo
node n = record { 0 = n }

abbrev pub line : List Edge → List Signal → List Train → List Order → List Within → ℕ → Station
line edges signals trains orders withins horizon = record {
  version = 1;
  tick_ms = 1000;
  horizon_ms = horizon;
  nodes = boundary "b1" ∷ inner "n1" ∷ boundary "b2" ∷ [];
  edges = edges;
  sections = codes "z1" ∷ codes "z2" ∷ [];
  signals = signals;
  vehicles = vehicle ∷ [];
  trains = trains;
  orders = orders;
  withins = withins;
  overlaps = [];
}

abbrev pub plain_edges : List Edge
plain_edges = edge "e1" (at 1 B) (at 2 A) 10000 2000 1 ∷ edge "e2" (at 2 B) (at 3 A) 6000 2000 2 ∷ []

abbrev pub signal : Signal
signal = record { name = codes "s1"; node = node 2; toward = B }

abbrev pub goes_east : String → Train
goes_east name = train name ((node 1 ∷ []) ∷ (node 3 ∷ []) ∷ [])

-- two sections and one train, two trains, and two trains with a horizon of 8 ticks
abbrev pub halt : Station
halt = line plain_edges (signal ∷ []) (goes_east "A" ∷ []) [] [] 600000

-- one train that visits the node between as well, and stands there for so many ms
abbrev pub halt_for : ℕ → Station
halt_for ms = line plain_edges (signal ∷ []) (train_with "A" ((node 1 ∷ []) ∷ (node 2 ∷ []) ∷ (node 3 ∷ []) ∷ []) (0 ∷ ms ∷ 0 ∷ []) ∷ []) [] [] 600000

abbrev pub follow : Station
follow = line plain_edges (signal ∷ []) (goes_east "A" ∷ goes_east "B" ∷ []) [] [] 600000

-- an overlap at its signal, of these sections, that holds them for 2 s
abbrev pub follow_over : List SectionNo → Station
follow_over zs = record follow { version = 4; overlaps = record { signal = record { 0 = 1 }; sections = zs; hold_ms = 2000 } ∷ [] }

abbrev pub follow_short : Station
follow_short = line plain_edges (signal ∷ []) (goes_east "A" ∷ goes_east "B" ∷ []) [] [] 8000

-- a slow second edge and no signal
abbrev pub slow_zone : Station
slow_zone = line (edge "e1" (at 1 B) (at 2 A) 5000 2000 1 ∷ edge "e2" (at 2 B) (at 3 A) 5000 500 2 ∷ []) [] (goes_east "A" ∷ []) [] [] 600000

-- two lines side by side, and an order between their trains
abbrev pub parallel : Station
parallel = record {
  version = 1;
  tick_ms = 1000;
  horizon_ms = 600000;
  nodes = boundary "b1" ∷ boundary "b2" ∷ boundary "b3" ∷ boundary "b4" ∷ [];
  edges = edge "e1" (at 1 B) (at 2 A) 4000 2000 1 ∷ edge "e2" (at 3 B) (at 4 A) 4000 2000 2 ∷ [];
  sections = codes "z1" ∷ codes "z2" ∷ [];
  signals = [];
  vehicles = vehicle ∷ [];
  trains = train "A" ((node 1 ∷ []) ∷ (node 2 ∷ []) ∷ []) ∷ train "B" ((node 3 ∷ []) ∷ (node 4 ∷ []) ∷ []) ∷ [];
  orders = record { first_train = record { 0 = 1 }; first_visit = 1; then_train = record { 0 = 2 }; then_visit = 1 } ∷ [];
  withins = [];
  overlaps = [];
}

-- a ring without a signal
abbrev pub ring : Station
ring = record {
  version = 1;
  tick_ms = 1000;
  horizon_ms = 600000;
  nodes = boundary "b1" ∷ inner "n1" ∷ inner "n2" ∷ [];
  edges = edge "e1" (at 1 B) (at 2 A) 4000 2000 1 ∷ edge "e2" (at 2 B) (at 3 A) 4000 2000 2 ∷ edge "e3" (at 3 B) (at 2 A) 4000 2000 3 ∷ [];
  sections = codes "z1" ∷ codes "z2" ∷ codes "z3" ∷ [];
  signals = [];
  vehicles = vehicle ∷ [];
  trains = train "A" ((node 1 ∷ []) ∷ []) ∷ [];
  orders = [];
  withins = [];
  overlaps = [];
}

abbrev pub command : ℕ → ℕ → Command
command t r = record { train = record { 0 = t }; route = record { 0 = r } }

-- each command in a step of its own
abbrev pub plan_one : List (List Command)
plan_one = (command 1 1 ∷ []) ∷ (command 1 2 ∷ []) ∷ []

abbrev pub plan_two : List (List Command)
plan_two = (command 1 1 ∷ []) ∷ (command 1 2 ∷ []) ∷ (command 2 1 ∷ []) ∷ (command 2 2 ∷ []) ∷ []

-- the second train is given the section too early
abbrev pub plan_early : List (List Command)
plan_early = (command 1 1 ∷ []) ∷ (command 1 2 ∷ command 2 1 ∷ []) ∷ []

-- only the first route is given
abbrev pub plan_half : List (List Command)
plan_half = (command 1 1 ∷ []) ∷ []

-- both trains start in one step
abbrev pub plan_together : List (List Command)
plan_together = (command 1 1 ∷ command 2 3 ∷ []) ∷ []

abbrev pub within : ℕ → ℕ → ℕ → ℕ → ℕ → Within
within t j u k ms = record { from_train = record { 0 = t }; from_visit = j; to_train = record { 0 = u }; to_visit = k; max_ms = ms }

-- one train that is to take so many ms, and two trains in order whose exits are to be that close
abbrev pub halt_within : ℕ → Station
halt_within ms = line plain_edges (signal ∷ []) (goes_east "A" ∷ []) [] (within 1 1 1 2 ms ∷ []) 600000

abbrev pub follow_within : ℕ → Station
follow_within ms = line plain_edges (signal ∷ []) (goes_east "A" ∷ goes_east "B" ∷ []) (record { first_train = record { 0 = 1 }; first_visit = 1; then_train = record { 0 = 2 }; then_visit = 1 } ∷ []) (within 1 2 2 2 ms ∷ []) 600000

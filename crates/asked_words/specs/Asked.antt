-- What a design asks for, in words.
use Rattle.std.specs.Prelude.{ℕ, ◌==◌, if◌then◌else◌, List, [], ◌∷◌, ◌++◌, map, length, codes, decimal}
use Rattle.std.specs.List.{flat_map}
use Rattle.rail_base.specs.declared.station.Station.{Station}
use Rattle.rail_base.specs.declared.station.TrainNo.{TrainNo}
use Rattle.rail_base.specs.declared.station.Vehicle.{Vehicle}
use Rattle.rail_base.specs.Names.{train_name}
use Rattle.rail_base.specs.Numbering.{entry, one_to}
use Rattle.rail_base.specs.Stations.{order_of, train_of, trains, vehicle_of, within_of}
use Rattle.cone_words.specs.Names.{makes_text, nodes_text}
use Rattle.asked_words.specs.Quantities.{duration_text, metres_text, speed_text}

-- `ic, 200 m, at most 200 km/h`
abbrev pub vehicle_text : Vehicle → List ℕ
vehicle_text v = v.name ++ codes ", " ++ metres_text v.length_mm ++ codes ", at most " ++ speed_text v.speed_mm_s

-- so many of something
abbrev pub count_text : ℕ → List ℕ → List ℕ
count_text n word = decimal n ++ word

-- for how many ms a train has to stand at its visit of this number
abbrev pub dwell_of : Station → TrainNo → ℕ → ℕ
dwell_of d t k = entry 0 (train_of d t).dwell_ms k

-- `, and stands there for 30 s`, where it has to
abbrev pub stand_text : ℕ → List ℕ
stand_text ms = if ms == 0 then [] else codes ", and stands there for " ++ duration_text ms

module _ (d : Station) where
  -- `ICe: vehicle ic, 200 m, at most 200 km/h`
  abbrev pub train_line : TrainNo → List ℕ
  train_line t = train_name d t ++ codes ": vehicle " ++ vehicle_text (vehicle_of d t) ++ codes "\n"

  -- `ICe makes visit 2, at x1 or x2, and stands there for 30 s`
  abbrev pub visit_line : TrainNo → ℕ → List ℕ
  visit_line t k = makes_text d t k ++ nodes_text d t k ++ stand_text (dwell_of d t k) ++ codes "\n"

  -- a train: what runs, and where it is to pass and to stand
  abbrev pub train_lines : TrainNo → List (List ℕ)
  train_lines t = train_line t ∷ map (visit_line t) (one_to (length (train_of d t).visits))

  -- `order 1: ICe makes visit 2 before RB makes visit 1`
  abbrev pub order_line : ℕ → List ℕ
  order_line n =
      let o = order_of d n in
      codes "order " ++ decimal n ++ codes ": " ++ makes_text d o.first_train o.first_visit ++ codes " before "
      ++ makes_text d o.then_train o.then_visit ++ codes "\n"

  -- `within 1: ICe makes visit 3 at most 6 min 0 s after ICe makes visit 1`
  abbrev pub within_line : ℕ → List ℕ
  within_line n =
      let w = within_of d n in
      codes "within " ++ decimal n ++ codes ": " ++ makes_text d w.to_train w.to_visit ++ codes " at most "
      ++ duration_text w.max_ms ++ codes " after " ++ makes_text d w.from_train w.from_visit ++ codes "\n"

  -- `14 nodes, 18 edges, 9 sections, 8 signals, `
  abbrev pub track_counts : List ℕ
  track_counts =
      count_text (length d.nodes) (codes " nodes, ") ++ count_text (length d.edges) (codes " edges, ")
      ++ count_text (length d.sections) (codes " sections, ") ++ count_text (length d.signals) (codes " signals, ")

  -- `2 vehicles, 3 trains, 1 orders, 3 withins, `
  abbrev pub traffic_counts : List ℕ
  traffic_counts =
      count_text (length d.vehicles) (codes " vehicles, ") ++ count_text (length d.trains) (codes " trains, ")
      ++ count_text (length d.orders) (codes " orders, ") ++ count_text (length d.withins) (codes " withins, ")

  -- both, and `22 routes`
  abbrev pub counts_line : ℕ → List ℕ
  counts_line routes = track_counts ++ traffic_counts ++ count_text routes (codes " routes\n")

  -- all trains, orders and withins, and how much there is
  abbrev pub asked_lines : ℕ → List (List ℕ)
  asked_lines routes =
      flat_map train_lines (trains d)
      ++ map order_line (one_to (length d.orders))
      ++ map within_line (one_to (length d.withins))
      ++ counts_line routes ∷ []

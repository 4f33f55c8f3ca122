-- Where the trains of a cone stand, and for how long.
use Rattle.std.specs.Prelude.{ℕ, Bool, ◌&&◌, if◌then◌else◌, nat_lt, List, [], ◌∷◌, ◌++◌, codes}
use Rattle.std.specs.List.{flat_map, list_any, zip}
use Rattle.rail_base.specs.declared.station.Station.{Station}
use Rattle.rail_base.specs.declared.station.NodeNo.{NodeNo}
use Rattle.rail_base.specs.declared.station.TrainNo.{TrainNo}
use Rattle.rail_base.specs.declared.route.Route.{Route}
use Rattle.rail_base.specs.declared.route.RouteNo.{RouteNo}
use Rattle.rail_base.specs.Names.{train_name}
use Rattle.rail_base.specs.Routes.{route_at}
use Rattle.rail_base.specs.Stations.{train_of, whole_ticks}
use Rattle.rail_spec.specs.Places.{leads_to}
use Rattle.cone_spec.specs.declared.ConeTrain.{ConeTrain}
use Rattle.cone_words.specs.Phrases.{joined_nodes, sentence}
use Rattle.cone_words.specs.Times.{ticks_text}

-- `<train> stands for 3 ticks (3 s) at <node> or <node>`, of a visit with its time to stand in ms
abbrev pub stop_text : Station → TrainNo → List NodeNo × ℕ → List ℕ
stop_text d t stop =
    train_name d t ++ codes " stands for " ++ ticks_text d (whole_ticks d stop.1) ++ codes " at "
    ++ joined_nodes d stop.0

-- the path leads to a node of the visit
abbrev pub goes_to : List Route → List RouteNo → List NodeNo → Bool
goes_to routes path set = list_any (λ r. leads_to set (route_at routes r)) path

-- the train has to stand there, and its path leads there
abbrev pub is_stop : List Route → ConeTrain → List NodeNo × ℕ → Bool
is_stop routes c stop = nat_lt 0 stop.1 && goes_to routes c.path stop.0

-- then a sentence says so
abbrev pub stop_sentences_of : Station → List Route → ℕ → ConeTrain → List NodeNo × ℕ → List (List ℕ)
stop_sentences_of d routes n c stop = if is_stop routes c stop then sentence n (stop_text d c.train stop) ∷ [] else []

-- of these visits and times to stand
abbrev pub stops_sentences : Station → List Route → ℕ → ConeTrain → List (List NodeNo) → List ℕ → List (List ℕ)
stops_sentences d routes n c visits dwell_ms = flat_map (stop_sentences_of d routes n c) (zip visits dwell_ms)

-- of all visits of the train
abbrev pub stop_sentences : Station → List Route → ℕ → ConeTrain → List (List ℕ)
stop_sentences d routes n c = stops_sentences d routes n c (train_of d c.train).visits (train_of d c.train).dwell_ms

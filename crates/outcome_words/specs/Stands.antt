-- Where trains stand in a run, and for how long.
use Rattle.std.specs.Prelude.{ℕ, ◌-◌, ◌==◌, List, ◌++◌, codes, nat_lt, unwrap_or, if◌then◌else◌}
use Rattle.std.specs.Prelude.{Option, None, Some, is_some, option_map, option_and_then}
use Rattle.std.specs.List.{enumerate_from, filter_map, zip}
use Rattle.rail_base.specs.declared.station.Station.{Station}
use Rattle.rail_base.specs.declared.station.NodeNo.{NodeNo}
use Rattle.rail_base.specs.declared.station.TrainNo.{TrainNo}
use Rattle.rail_base.specs.declared.route.Route.{Route}
use Rattle.rail_base.specs.declared.plan.Command.{Command}
use Rattle.rail_base.specs.declared.history.TrainHistory.{TrainHistory}
use Rattle.rail_base.specs.Names.{node_name, train_name}
use Rattle.rail_require.specs.Ticks.{history_of}
use Rattle.asked_words.specs.Asked.{dwell_of}
use Rattle.outcome_words.specs.declared.stands.Stand.{Stand}
use Rattle.outcome_words.specs.Visits.{time_text}
use Rattle.outcome_words.specs.Waits.{end_text, waits_in}

-- ---- stands

-- a train stands at a visit from the visit's tick up to the tick at which it has stood long enough, or else up to the
-- last, where there is a tick between
abbrev pub stand_from : ℕ → Option ℕ → NodeNo × ℕ → Option Stand
stand_from last dwell made =
    let until = unwrap_or dwell last in
    if nat_lt made.1 until
    then Some (record { node = made.0; from = made.1; until = until; is_done = is_some dwell })
    else None

-- where it is to stand for so many ms, and the visit is made
abbrev pub stand_of : ℕ → ℕ → Option (NodeNo × ℕ) → Option ℕ → Option Stand
stand_of last ms visit dwell = if ms == 0 then None else option_and_then (stand_from last dwell) visit

-- ---- in words

-- `ICe stands at x1 from 3 min 20 s for 30 s`, and `, to the end` where it has not stood long enough by then
abbrev pub stand_text : Station → TrainNo → Stand → List ℕ
stand_text d t s =
    train_name d t ++ codes " stands at " ++ node_name d s.node ++ codes " from " ++ time_text d s.from ++ codes " for "
    ++ time_text d (s.until - s.from) ++ end_text s.is_done ++ codes "\n"

module _ (d : Station) (last : ℕ) where
  -- the line of a train's stand at a visit, by the visit's number, where and when it is made, and when it has stood there
  abbrev pub stand_line : TrainNo → ℕ × (Option (NodeNo × ℕ) × Option ℕ) → Option (List ℕ)
  stand_line t visit = option_map (stand_text d t) (stand_of last (dwell_of d t visit.0) visit.1.0 visit.1.1)

  -- those of all its visits
  abbrev pub stands_in : TrainNo → TrainHistory → List (List ℕ)
  stands_in t h = filter_map (stand_line t) (enumerate_from 1 (zip h.visits h.dwells))

module _ (d : Station) (routes : List Route) (plan : List (List Command)) (history : List TrainHistory) (last : ℕ) where
  -- the waits of a train, and then its stands, by what has happened to it
  abbrev pub lines_in : TrainNo → TrainHistory → List (List ℕ)
  lines_in t h = waits_in d routes plan history last t h ++ stands_in d last t h

  -- the lines of a train
  abbrev pub train_lines : TrainNo → List (List ℕ)
  train_lines t = lines_in t (history_of history t)

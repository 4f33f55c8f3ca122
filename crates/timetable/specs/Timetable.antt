-- The text of what a run shows: how it ends, and what happened to each train with the ticks.
use Rattle.std.specs.Prelude.{ℕ, List, [], ◌∷◌, ◌++◌, Option, option_map, option_and_then, if◌then◌else◌}
use Rattle.std.specs.List.{enumerate_from, filter_map, flat_map, concat, zip}
use Rattle.rail_base.specs.declared.station.Station.{Station}
use Rattle.rail_base.specs.declared.station.NodeNo.{NodeNo}
use Rattle.rail_base.specs.declared.station.TrainNo.{TrainNo}
use Rattle.rail_base.specs.declared.route.RouteNo.{RouteNo}
use Rattle.rail_base.specs.declared.history.TrainHistory.{TrainHistory}
use Rattle.rail_base.specs.declared.history.Verdict.{Verdict}
use Rattle.rail_base.specs.declared.history.Verdict.TheVariants.{Met, Failed, Undecided}
use Rattle.timetable.specs.Lines.{is_path_failure, met_line, failure_line, train_line, grant_line, pass_line}
use Rattle.timetable.specs.Lines.{visit_line, dwell_line}

-- ---- what is said of an event: its line, where it has come

-- of the grant of a command, with the command's number
abbrev pub grant_line_of : ℕ × (RouteNo × Option ℕ) → Option (List ℕ)
grant_line_of grant = option_map (grant_line grant.0 grant.1.0) grant.1.1

-- of the passing of a node
abbrev pub pass_line_of : Station → NodeNo × Option ℕ → Option (List ℕ)
pass_line_of d pass = option_map (pass_line d pass.0) pass.1

-- of a visit, with its number
abbrev pub visit_line_of : Station → ℕ × Option (NodeNo × ℕ) → Option (List ℕ)
visit_line_of d visit = option_map (λ made. visit_line d visit.0 made.0 made.1) visit.1

-- of the end of a stand, with the visit's number, the visit, and the tick at which the train has stood there
abbrev pub dwell_line_of : Station → ℕ × (Option (NodeNo × ℕ) × Option ℕ) → Option (List ℕ)
dwell_line_of d stand = option_and_then (λ made. option_map (dwell_line d stand.0 made.0) stand.1.1) stand.1.0

-- ---- what is said of a train

-- the grants, the commands of the path counted from 1
abbrev pub grant_lines : List (RouteNo × Option ℕ) → List (List ℕ)
grant_lines grants = filter_map grant_line_of (enumerate_from 1 grants)

-- the nodes passed, in path order
abbrev pub pass_lines : Station → List (NodeNo × Option ℕ) → List (List ℕ)
pass_lines d passes = filter_map (pass_line_of d) passes

-- the visits made, counted from 1
abbrev pub visit_lines : Station → List (Option (NodeNo × ℕ)) → List (List ℕ)
visit_lines d visits = filter_map (visit_line_of d) (enumerate_from 1 visits)

-- the stands that are done at the visits made, counted from 1
abbrev pub dwell_lines : Station → List (Option (NodeNo × ℕ)) → List (Option ℕ) → List (List ℕ)
dwell_lines d visits dwells = filter_map (dwell_line_of d) (enumerate_from 1 (zip visits dwells))

-- its name, then its grants, the nodes passed, its visits and its stands
abbrev pub train_lines : Station → TrainNo → TrainHistory → List (List ℕ)
train_lines d t h =
    train_line d t ∷ [] ++ grant_lines h.grants ++ pass_lines d h.passes ++ visit_lines d h.visits
    ++ dwell_lines d h.visits h.dwells

-- all trains, counted from 1
abbrev pub history_lines : Station → List TrainHistory → List (List ℕ)
history_lines d history = flat_map (λ train. train_lines d (record { 0 = train.0 }) train.1) (enumerate_from 1 history)

-- ---- the timetable

-- how the run ends, then all trains unless a path fails; nothing where the run was too short to say
abbrev pub timetable_of : Station → Verdict → List (List ℕ)
timetable_of d (Met history k) = met_line k ∷ history_lines d history
timetable_of d (Failed history k violation) =
    failure_line d k violation ∷ (if is_path_failure violation then [] else history_lines d history)
timetable_of d Undecided = []

-- its lines, one after the other
abbrev pub timetable_text : Station → Verdict → List ℕ
timetable_text d verdict = concat (timetable_of d verdict)

-- The words of a picture of a run, and how many shapes it has at most.
use Rattle.std.specs.Prelude.{ℕ, ◌+◌, ◌-◌, ◌*◌, List, [], ◌∷◌, ◌++◌, map, length, take, codes, decimal, Option}
use Rattle.std.specs.Prelude.{option_map, option_and_then}
use Rattle.std.specs.List.{enumerate_from, filter_map, flat_map, sum_by, zip}
use Rattle.rail_base.specs.declared.station.Station.{Station}
use Rattle.rail_base.specs.declared.station.Train.{Train}
use Rattle.rail_base.specs.declared.station.NodeNo.{NodeNo}
use Rattle.rail_base.specs.declared.history.TrainHistory.{TrainHistory}
use Rattle.rail_base.specs.declared.history.Verdict.{Verdict}
use Rattle.rail_base.specs.declared.history.Verdict.TheVariants.{Met, Failed, Undecided}
use Rattle.rail_base.specs.Names.{train_name}
use Rattle.timetable.specs.Timetable.{timetable_of}
use Rattle.run_drawing.specs.Requirements.{ms_of, requirement_texts, visit_text}

-- what happened to the trains
abbrev pub history_in : Verdict → List TrainHistory
history_in (Met history tick) = history
history_in (Failed history tick violation) = history
history_in Undecided = []

-- the deciding tick, and 0 where nothing is decided
abbrev pub last_tick : Verdict → ℕ
last_tick (Met history tick) = tick
last_tick (Failed history tick violation) = tick
last_tick Undecided = 0

-- the first of some lines, without its LF
abbrev pub first_text : List (List ℕ) → List ℕ
first_text [] = []
first_text (line ∷ lines) = take (length line - 1) line

-- how the run ends, as the first line of its timetable says it
abbrev pub outcome_text : Station → Verdict → List ℕ
outcome_text d verdict = first_text (timetable_of d verdict)

-- the name of a train
abbrev pub name_of : Train → List ℕ
name_of train = train.name

-- the same of a visit with its number, where it is made
abbrev pub visit_line_of : List ℕ → ℕ × Option (NodeNo × ℕ) → Option (List ℕ)
visit_line_of name visit = option_map (λ made. visit_text name visit.0) visit.1

-- the visits that a train of this name has made, counted from 1
abbrev pub visit_texts : List ℕ → List (Option (NodeNo × ℕ)) → List (List ℕ)
visit_texts name visits = filter_map (visit_line_of name) (enumerate_from 1 visits)

-- `<train> stands <time> ms`, from one tick to another
abbrev pub stand_text : ℕ → List ℕ → ℕ → ℕ → List ℕ
stand_text tick_ms name from to = name ++ codes " stands " ++ decimal (ms_of tick_ms (to - from)) ++ codes " ms"

-- the same of a visit and the tick at which the train has stood there, where both have come
abbrev pub stand_line_of : ℕ → List ℕ → Option (NodeNo × ℕ) × Option ℕ → Option (List ℕ)
stand_line_of tick_ms name stand = option_and_then (λ made. option_map (stand_text tick_ms name made.1) stand.1) stand.0

-- the stands of a train of this name that are done, in the order of its visits
abbrev pub stand_texts : ℕ → List ℕ → List (Option (NodeNo × ℕ)) → List (Option ℕ) → List (List ℕ)
stand_texts tick_ms name visits dwells = filter_map (stand_line_of tick_ms name) (zip visits dwells)

-- the visits and then the stands of the train of a number
abbrev pub train_texts : Station → ℕ → TrainHistory → List (List ℕ)
train_texts d number train =
    let name = train_name d (record { 0 = number }) in
    visit_texts name train.visits ++ stand_texts d.tick_ms name train.visits train.dwells

-- those of all trains, counted from 1
abbrev pub history_texts : Station → List TrainHistory → List (List ℕ)
history_texts d history = flat_map (λ train. train_texts d train.0 train.1) (enumerate_from 1 history)

-- how the run ends, and the names of all trains and of all sections
abbrev pub frame_words : Station → Verdict → List (List ℕ)
frame_words d verdict = outcome_text d verdict ∷ map name_of d.trains ++ d.sections

-- and each visit that is made and each stand that is done, and what came of each order and each within
abbrev pub run_words : Station → Verdict → List (List ℕ)
run_words d verdict =
    frame_words d verdict ++ history_texts d (history_in verdict)
    ++ requirement_texts d (history_in verdict) (last_tick verdict)

-- ---- how many shapes

-- for a train its line, two shapes for each visit, one more where it stands, and two for each section that it is given
abbrev pub train_size : TrainHistory → ℕ
train_size train =
    1 + 2 * length train.visits + length train.dwells + 2 * length train.releases + 2 * length train.holds

-- for all trains
abbrev pub history_size : List TrainHistory → ℕ
history_size history = sum_by train_size history

-- without the trains: two shapes for each node and each section, one for each train's name, and 27 more
abbrev pub frame_size : Station → ℕ
frame_size d = 27 + 2 * length d.nodes + 2 * length d.sections + length d.trains

-- all of it, with one for each requirement
abbrev pub run_size : Station → Verdict → ℕ
run_size d verdict =
    frame_size d + history_size (history_in verdict) + (length d.orders + length d.withins)

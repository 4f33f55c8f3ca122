-- The lines of a timetable, each with its LF.
use Rattle.std.specs.Prelude.{ℕ, ◌*◌, Bool, true, false, List, [], ◌++◌, map, codes, decimal, Vec, if◌then◌else◌}
use Rattle.std.specs.declared.alloc.Global.{Global}
use Rattle.rail_base.specs.declared.station.Station.{Station}
use Rattle.rail_base.specs.declared.station.NodeNo.{NodeNo}
use Rattle.rail_base.specs.declared.station.TrainNo.{TrainNo}
use Rattle.rail_base.specs.declared.route.RouteNo.{RouteNo}
use Rattle.rail_base.specs.declared.plan.Violation.{Violation}
use Rattle.rail_base.specs.declared.plan.Violation.TheVariants.{Path, Within, Order, Grant, Visit}
use Rattle.rail_base.specs.Names.{train_name, node_name}

-- each line as its bytes
abbrev pub lines_of : List (Vec ℕ Global) → List (List ℕ)
lines_of lines = map (λ line. line.items) lines

-- ` tick <k>`
abbrev pub at_tick : ℕ → List ℕ
at_tick k = codes " tick " ++ decimal k

-- `met tick <k>`
abbrev pub met_line : ℕ → List ℕ
met_line k = codes "met" ++ at_tick k ++ codes "\n"

-- a path fails before a train moves
abbrev pub is_path_failure : Violation → Bool
is_path_failure (Path t j) = true
is_path_failure (Within w) = false
is_path_failure (Order o) = false
is_path_failure (Grant t j) = false
is_path_failure (Visit t j) = false

-- how a plan fails
abbrev pub failure : Station → Violation → List ℕ
failure d (Path t j) = codes "fails path train " ++ train_name d t ++ codes " visit " ++ decimal j
failure d (Within w) = codes "fails within " ++ decimal w
failure d (Order o) = codes "fails order " ++ decimal o
failure d (Grant t j) = codes "fails grant train " ++ train_name d t ++ codes " command " ++ decimal j
failure d (Visit t j) = codes "fails visit train " ++ train_name d t ++ codes " visit " ++ decimal j

-- `fails path train <name> visit <j>`, and any other failure with ` tick <k>` after it
abbrev pub failure_line : Station → ℕ → Violation → List ℕ
failure_line d k violation = failure d violation ++ (if is_path_failure violation then [] else at_tick k) ++ codes "\n"

-- `train <name>`
abbrev pub train_line : Station → TrainNo → List ℕ
train_line d t = codes "train " ++ train_name d t ++ codes "\n"

-- `grant <j> route <r> tick <k>`
abbrev pub grant_line : ℕ → RouteNo → ℕ → List ℕ
grant_line j r k = codes "grant " ++ decimal j ++ codes " route " ++ decimal r.0 ++ at_tick k ++ codes "\n"

-- `pass <node> tick <k>`
abbrev pub pass_line : Station → NodeNo → ℕ → List ℕ
pass_line d n k = codes "pass " ++ node_name d n ++ at_tick k ++ codes "\n"

-- `visit <j> <node> tick <k> ms <time>`
abbrev pub visit_line : Station → ℕ → NodeNo → ℕ → List ℕ
visit_line d j n k =
    codes "visit " ++ decimal j ++ codes " " ++ node_name d n ++ at_tick k
    ++ codes " ms " ++ decimal (k * d.tick_ms) ++ codes "\n"

-- `dwell <j> <node> tick <k>`
abbrev pub dwell_line : Station → ℕ → NodeNo → ℕ → List ℕ
dwell_line d j n k = codes "dwell " ++ decimal j ++ codes " " ++ node_name d n ++ at_tick k ++ codes "\n"

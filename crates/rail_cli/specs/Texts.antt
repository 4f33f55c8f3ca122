-- The lines that are printed of searches and of a trial, each with its LF.
use Rattle.std.specs.Prelude.{ℕ, List, ◌++◌, length, codes, decimal}
use Rattle.rail_base.specs.declared.station.Station.{Station}
use Rattle.rail_spec.specs.Track.{routes_of}

-- ---- a search

-- `plan steps <number of steps>`
abbrev pub plan_steps_line : ℕ → List ℕ
plan_steps_line steps = codes "plan steps " ++ decimal steps ++ codes "\n"

-- `infeasible steps <n>`
abbrev pub infeasible_line : ℕ → List ℕ
infeasible_line n = codes "infeasible steps " ++ decimal n ++ codes "\n"

-- `conflicts spent <number>`
abbrev pub conflicts_spent_line : ℕ → List ℕ
conflicts_spent_line conflicts = codes "conflicts spent " ++ decimal conflicts ++ codes "\n"

-- `ticks spent <sum> of <ticks>`
abbrev pub ticks_spent_line : ℕ → ℕ → List ℕ
ticks_spent_line sum ticks = codes "ticks spent " ++ decimal sum ++ codes " of " ++ decimal ticks ++ codes "\n"

-- `log spent <bytes> next <bytes>`
abbrev pub log_spent_line : ℕ → ℕ → List ℕ
log_spent_line bytes next = codes "log spent " ++ decimal bytes ++ codes " next " ++ decimal next ++ codes "\n"

-- `tightest within <w> ms <ms>`
abbrev pub tightest_line : ℕ → ℕ → List ℕ
tightest_line w ms = codes "tightest within " ++ decimal w ++ codes " ms " ++ decimal ms ++ codes "\n"

-- ---- a trial

-- `trial seed <seed> size <size>`
abbrev pub trial_line : ℕ → ℕ → List ℕ
trial_line seed size = codes "trial seed " ++ decimal seed ++ codes " size " ++ decimal size ++ codes "\n"

-- `nodes <n> edges <e> signals <g> trains <t> routes <r>`
abbrev pub counts_line : Station → List ℕ
counts_line d =
    codes "nodes " ++ decimal (length d.nodes) ++ codes " edges " ++ decimal (length d.edges)
    ++ codes " signals " ++ decimal (length d.signals)
    ++ codes " trains " ++ decimal (length d.trains) ++ codes " routes " ++ decimal (length (routes_of d)) ++ codes "\n"

-- `plan steps <number of steps> tick <k>`
abbrev pub plan_tick_line : ℕ → ℕ → List ℕ
plan_tick_line steps tick = codes "plan steps " ++ decimal steps ++ codes " tick " ++ decimal tick ++ codes "\n"

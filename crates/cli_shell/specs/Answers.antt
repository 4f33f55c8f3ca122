-- What is read of files, or the answer that refuses it; and the answers to a simulation and to a request for routes.
use Rattle.std.specs.Prelude.{ℕ, List, [], ◌∷◌, length, map, nat_lt, nat_le, if◌then◌else◌}
use Rattle.std.specs.Prelude.{Result, Ok, Err}
use Rattle.design_table.specs.declared.fault.Code.{Code}
use Rattle.design_table.specs.declared.fault.Code.TheVariants.{D12, D13}
use Rattle.design_table.specs.declared.place.EntryKind.TheVariants as kind
use Rattle.design_table.specs.declared.place.Place.{Place}
use Rattle.design_table.specs.declared.place.Place.TheVariants as place
use Rattle.design_table.specs.Reads.{at, unless_at}
use Rattle.infra_reader.specs.Design.{design_of}
use Rattle.rail_base.specs.declared.station.Station.{Station}
use Rattle.rail_base.specs.declared.station.EdgeNo.{EdgeNo}
use Rattle.rail_base.specs.declared.plan.Command.{Command}
use Rattle.rail_base.specs.declared.history.Verdict.{Verdict}
use Rattle.rail_base.specs.declared.history.Verdict.TheVariants as verdict
use Rattle.rail_plan.specs.Reading.{Refusal, plan_of}
use Rattle.rail_spec.specs.Track.{routes_of, all_walks, edges_met_again}
use Rattle.timetable.specs.Timetable.{timetable_of}
use Rattle.cli_shell.specs.declared.status.Status.{Status}
use Rattle.cli_shell.specs.declared.status.Status.TheVariants as status
use Rattle.cli_shell.specs.declared.input.InputFile.{InputFile}
use Rattle.cli_shell.specs.declared.input.InputFile.TheVariants as file
use Rattle.cli_shell.specs.Listings.{routes_text}
use Rattle.cli_shell.specs.Shows.{verdict_at_horizon}
use Rattle.cli_shell.specs.Texts.{limit_of, too_long_line, design_refused_line, no_within_line, plan_refused_line}

-- what the program answers: the status to end with, and the lines to print
pub record ReplySeen : Type 0 where
  pub status : Status
  pub lines : List (List ℕ)

-- an answer of one line
abbrev pub one_line : Status → List ℕ → ReplySeen
one_line s line = record { status = s; lines = line ∷ [] }

-- ---- what is read, or the answer that refuses it

-- the bytes of a file, where they are within its limit
abbrev pub within_limit : InputFile → List ℕ → Result (List ℕ) ReplySeen
within_limit f bytes =
    if nat_lt (limit_of f) (length bytes) then Err (one_line status.TooLong (too_long_line f))
    else Ok bytes

-- an edge, by its place in the file
abbrev pub edge_place : EdgeNo → Place
edge_place e = place.Entry kind.Edge e.0

-- a design of which no path of the first 2,001 meets an edge again, and at most 2,000 paths close
abbrev pub with_routes : Station → Result Station (Code × Place)
with_routes d =
    unless_at D12 (map edge_place (edges_met_again d)) (
    unless_at D13 (at (nat_le 2001 (length (all_walks d))) place.Routes) (Ok d))

-- a design or its refusal, as an answer
abbrev pub design_or_answer : Result Station (Code × Place) → Result Station ReplySeen
design_or_answer (Ok d) = Ok d
design_or_answer (Err refusal) = Err (one_line status.DesignRefused (design_refused_line refusal.0 refusal.1))

-- what comes next, unless this was refused
abbrev pub and_then : {X Y R : Type 0} → Result X R → (X → Result Y R) → Result Y R
and_then (Ok x) next = next x
and_then (Err r) next = Err r

-- the design in the bytes, whose routes can be listed
abbrev pub design_in : List ℕ → Result Station ReplySeen
design_in bytes = design_or_answer (and_then (design_of bytes) with_routes)

-- a design that has a within of this number
abbrev pub with_within : ℕ → Station → Result Station ReplySeen
with_within w d =
    if nat_le w (length d.withins) then Ok d else Err (one_line status.DesignRefused no_within_line)

-- a plan or its refusal, as an answer
abbrev pub plan_or_answer : Station → Result (List (List Command)) Refusal → Result (List (List Command)) ReplySeen
plan_or_answer d (Ok plan) = Ok plan
plan_or_answer d (Err refusal) = Err (one_line status.PlanRefused (plan_refused_line d refusal.0 refusal.1))

-- the plan over a design in the bytes
abbrev pub plan_in : Station → List ℕ → Result (List (List Command)) ReplySeen
plan_in d bytes = plan_or_answer d (plan_of d (routes_of d) bytes)

-- ---- answers

-- 0 where the plan meets the design
abbrev pub verdict_status : Verdict → Status
verdict_status (verdict.Met history tick) = status.Done
verdict_status (verdict.Failed history tick violation) = status.No
verdict_status verdict.Undecided = status.No

-- the timetable of what a run shows
abbrev pub verdict_reply : Station → Verdict → ReplySeen
verdict_reply d v = record { status = verdict_status v; lines = timetable_of d v }

-- what comes of what is read, or the answer that refuses it
abbrev pub unless_refused : {X : Type 0} → Result X ReplySeen → (X → ReplySeen) → ReplySeen
unless_refused (Ok x) next = next x
unless_refused (Err answer) next = answer

-- the answer for a design and the bytes of a plan
abbrev pub planned : Station → List ℕ → ReplySeen
planned d plan_text = unless_refused (plan_in d plan_text) (λ plan. verdict_reply d (verdict_at_horizon d plan))

-- the answer to a simulation, for the bytes of the design and of the plan
abbrev pub simulation_reply : List ℕ → List ℕ → ReplySeen
simulation_reply design_bytes plan_bytes =
    unless_refused (within_limit file.Design design_bytes) (λ design_text.
    unless_refused (design_in design_text) (λ d.
    unless_refused (within_limit file.Plan plan_bytes) (λ plan_text.
    planned d plan_text)))

-- the routes of a design
abbrev pub routes_answer : Station → ReplySeen
routes_answer d = record { status = status.Done; lines = routes_text d (routes_of d) }

-- the answer that lists routes, for the bytes of the design
abbrev pub routes_reply : List ℕ → ReplySeen
routes_reply design_bytes =
    unless_refused (within_limit file.Design design_bytes) (λ design_text.
    unless_refused (design_in design_text) routes_answer)

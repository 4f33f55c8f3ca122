-- What is said of a plan.
use Rattle.std.specs.Prelude.{◌≡◌, ◌==◌, ◌||◌, not, ℕ, Bool, false, List, [], ◌∷◌, ◌++◌, take, Result, Ok, Err}
use Rattle.named_files.specs.Replies.{Answers}
use Rattle.outcome_words.specs.Outcome.{outcome_lines}
use Rattle.plan_fault_words.specs.Faults.{SaysRefused}
use Rattle.rail_base.specs.declared.plan.Command.{Command}
use Rattle.rail_base.specs.declared.station.Station.{Station}
use Rattle.rail_base.specs.Numbering.{from_first}
use Rattle.cli_shell.specs.declared.status.Status.TheVariants.{PlanRefused}
use Rattle.cli_shell.specs.declared.input.InputFile.TheVariants as file
use Rattle.cli_shell.specs.Answers.{ReplySeen, verdict_status, within_limit}
use Rattle.cli_shell.specs.Shows.{verdict_at_horizon}
use Rattle.cli_shell.specs.Texts.{plan_refused_line}
use Rattle.rail_plan.specs.declared.fault.PlanCode.{PlanCode}
use Rattle.rail_plan.specs.declared.place.PlanPlace.{PlanPlace}
use Rattle.rail_plan.specs.Reading.{Refusal, plan_of}
use Rattle.rail_spec.specs.Track.{routes_of}
use Rattle.timetable.specs.Timetable.{timetable_of}

-- ---- which files are plans

-- a space, a tab, or an end of a line
abbrev pub is_blank : ℕ → Bool
is_blank byte = (byte == 32) || ((byte == 9) || ((byte == 13) || (byte == 10)))

-- the text begins with a brace
abbrev pub begins_with_brace : List ℕ → Bool
begins_with_brace [] = false
begins_with_brace (byte ∷ bytes) = byte == 123

-- the first byte that is none of these is a brace
abbrev pub is_plan : List ℕ → Bool
is_plan bytes = begins_with_brace (from_first (λ byte. not (is_blank byte)) bytes)

-- ---- what is said

-- of a plan that is refused: that line, where its fault stands, and what is wrong there
pub record IsRefusedPlanSaid (d : Station) (text : List ℕ) (code : PlanCode) (place : PlanPlace) (a : ReplySeen) : Type 0 where
  pub status : a.status ≡ PlanRefused
  pub more : List (List ℕ)
  pub is_said : SaysRefused d (routes_of d) text place more
  pub lines : a.lines ≡ plan_refused_line d code place ∷ more

-- of a plan that is not: how its run ends, what came of what is asked, and where trains wait
abbrev pub outcome_said : Station → List (List Command) → ReplySeen
outcome_said d plan = let v = verdict_at_horizon d plan in
    record { status = verdict_status v; lines = take 1 (timetable_of d v) ++ outcome_lines d (routes_of d) plan v }

-- of a plan that was read, or that it is refused
abbrev pub IsReadPlanSaid : Station → List ℕ → Result (List (List Command)) Refusal → ReplySeen → Type 0
IsReadPlanSaid d text (Ok plan) a = a ≡ outcome_said d plan
IsReadPlanSaid d text (Err refusal) a = IsRefusedPlanSaid d text refusal.0 refusal.1 a

-- of the text of a plan
abbrev pub IsPlanSaid : Station → List ℕ → ReplySeen → Type 0
IsPlanSaid d text a = IsReadPlanSaid d text (plan_of d (routes_of d) text) a

-- ---- answers

-- for a text that is read as a proof may be, of which a plan is no longer than a plan may be
abbrev pub IsPlanAnswer : Station → List ℕ → ReplySeen → Type 0
IsPlanAnswer d text a = Answers (within_limit file.Plan text) (IsPlanSaid d) a

-- for the bytes of the file
abbrev pub IsPlanFileAnswer : Station → List ℕ → ReplySeen → Type 0
IsPlanFileAnswer d bytes a = Answers (within_limit file.Proof bytes) (IsPlanAnswer d) a

-- Trials, and what their answers say of the station that is made.
use Rattle.std.specs.Prelude.{◌≡◌, ℕ, ◌*◌, ◌<◌, List, length, Option}
use Rattle.std.specs.List.{concat}
use Rattle.rail_base.specs.declared.plan.Command.{Command}
use Rattle.rail_outside.specs.Growth.{grown}
use Rattle.rail_spec.specs.Feasible.{IsFeasible, IsInfeasible}
use Rattle.rail_spec.specs.Requirements.{cost}
use Rattle.rail_spec.specs.Track.{routes_of}
use Rattle.workload.specs.Made.{made}
use Rattle.cli_shell.specs.declared.status.Status.{Status}
use Rattle.cli_shell.specs.declared.status.Status.TheVariants.{Done, No}
use Rattle.rail_cli.specs.Texts.{infeasible_line, plan_tick_line}
use Rattle.cli_shell.specs.Answers.{ReplySeen}
use Rattle.rail_cli.specs.Answers.{three_lines}

-- the answer with a plan, with its number of steps and its deciding tick
abbrev pub trial_plan_reply : ℕ → ℕ → List (List Command) → ReplySeen
trial_plan_reply seed size plan =
    let d = made seed size in
    three_lines seed size d Done (plan_tick_line (length plan) (cost d (routes_of d) plan))

-- the last line is `plan steps <s> tick <k>`: a plan of s steps is feasible for twice as many steps as the size, and none of fewer steps is; and k is its deciding tick
pub record ReportsTrialPlan (seed size : ℕ) (old new : Option (List ℕ)) : Type 0 where
  pub plan : List (List Command)
  pub text : new ≡ grown old (concat (trial_plan_reply seed size plan).lines)
  pub feasible : IsFeasible (made seed size) (2 * size) plan
  pub fewest : (s : ℕ) → s < length plan → IsInfeasible (made seed size) s

-- the last line is `infeasible steps <n>`: no plan of n steps is feasible, which are twice as many as the size
pub record ReportsTrialNone (seed size : ℕ) (old new : Option (List ℕ)) : Type 0 where
  pub text : new ≡ grown old (concat (three_lines seed size (made seed size) No (infeasible_line (2 * size))).lines)
  pub none : IsInfeasible (made seed size) (2 * size)

-- what the text of a trial says of the station that the seed and the size make, where its status is 0 or 1
pub record ReportsTrial (seed size : ℕ) (s : Status) (old new : Option (List ℕ)) : Type 0 where
  pub planned : s ≡ Done → ReportsTrialPlan seed size old new
  pub none : s ≡ No → ReportsTrialNone seed size old new

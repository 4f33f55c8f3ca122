-- Files of which nothing is refused, and verdicts.
use Rattle.std.specs.Prelude.{◌≡◌, ◌≤◌, ◌⊎◌, ℕ, List, [], length, Ok}
use Rattle.infra_reader.specs.Design.{design_of}
use Rattle.rail_base.specs.declared.plan.Command.{Command}
use Rattle.rail_base.specs.declared.station.Station.{Station}
use Rattle.rail_plan.specs.Reading.{plan_of}
use Rattle.rail_spec.specs.Track.{routes_of, all_walks, edges_met_again}
use Rattle.cli_shell.specs.declared.status.Status.{Status}
use Rattle.cli_shell.specs.declared.status.Status.TheVariants as status
use Rattle.cli_shell.specs.declared.input.InputFile.TheVariants as file
use Rattle.cli_shell.specs.Texts.{limit_of}

-- the routes of the design can be listed: no path of the first 2,001 meets an edge again, and at most 2,000 paths close
pub record HasRoutes (d : Station) : Type 0 where
  pub once : edges_met_again d ≡ []
  pub at_most_2000 : length (all_walks d) ≤ 2000

-- the file is within its limit and spells this design, whose routes can be listed
pub record IsDesignText (bytes : List ℕ) (d : Station) : Type 0 where
  pub within_limit : length bytes ≤ limit_of file.Design
  pub parses : design_of bytes ≡ Ok d
  pub routes : HasRoutes d

-- the file is within its limit and spells a plan over the design
pub record IsPlanText (d : Station) (bytes : List ℕ) : Type 0 where
  pub within_limit : length bytes ≤ limit_of file.Plan
  pub plan : List (List Command)
  pub parses : plan_of d (routes_of d) bytes ≡ Ok plan

-- a verdict: yes or no
abbrev pub IsVerdict : Status → Type 0
IsVerdict s = (s ≡ status.Done) ⊎ (s ≡ status.No)

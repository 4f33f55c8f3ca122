-- Simulations in which nothing is refused.
use Rattle.std.specs.Prelude.{◌≡◌, ℕ, ◌≤◌, List, [], length, Some, Ok}
use Rattle.infra_reader.specs.Design.{design_of}
use Rattle.rail_base.specs.declared.station.Station.{Station}
use Rattle.rail_base.specs.declared.plan.Command.{Command}
use Rattle.rail_outside.specs.Files.{Files}
use Rattle.rail_plan.specs.Reading.{plan_of}
use Rattle.rail_spec.specs.Track.{routes_of, all_walks, edges_met_again}
use Rattle.cli_shell.specs.declared.status.Status.{Status}
use Rattle.rail_words.specs.Requests.{simulate, request_of}
use Rattle.cli_shell.specs.Simulations.{Settles}

-- the words ask for a simulation; the files are within their limits; the one spells this design, whose routes can be listed; the other spells this plan over it
pub record Simulates (files : Files) (words : List (List ℕ)) (d : Station) (plan : List (List Command)) : Type 0 where
  pub design_name : List ℕ
  pub plan_name : List ℕ
  pub asked : request_of words ≡ Some (simulate design_name plan_name)
  pub short_design : length (files design_name) ≤ 8388608
  pub short_plan : length (files plan_name) ≤ 8388608
  pub parses_design : design_of (files design_name) ≡ Ok d
  pub once : edges_met_again d ≡ []
  pub at_most_2000 : length (all_walks d) ≤ 2000
  pub parses_plan : plan_of d (routes_of d) (files plan_name) ≡ Ok plan

-- where the words ask for a simulation in which nothing is refused, the status settles it
abbrev pub DoneWhereFeasible : Files → List (List ℕ) → Status → Type 0
DoneWhereFeasible files words s = (d : Station) (plan : List (List Command)) → Simulates files words d plan
    → Settles d plan s

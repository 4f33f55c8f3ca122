-- Checks of a proof, and what their answers say of the design.
use Rattle.std.specs.Prelude.{◌≡◌, ℕ, ◌≤◌, List, Option, Some, Ok}
use Rattle.infra_reader.specs.Design.{design_of}
use Rattle.rail_base.specs.declared.station.Station.{Station}
use Rattle.rail_outside.specs.Files.{Files}
use Rattle.rail_outside.specs.Growth.{grown}
use Rattle.rail_spec.specs.Feasible.{IsInfeasible}
use Rattle.rail_words.specs.declared.request.InTime.{InTime}
use Rattle.rail_words.specs.Requests.{check, request_of}
use Rattle.proof_shell.specs.Answers.{put_in}
use Rattle.proof_shell.specs.Texts.{yes_line}

-- the words ask for a check with n steps, and the design's file spells this design, when the greatest time is put in that is given
pub record Checks (files : Files) (words : List (List ℕ)) (n : ℕ) (d : Station) : Type 0 where
  pub design_name : List ℕ
  pub proof_name : List ℕ
  pub in_time : Option InTime
  pub asked : request_of words ≡ Some (check n in_time design_name proof_name)
  pub spelled : Station
  pub parses_design : design_of (files design_name) ≡ Ok spelled
  pub put : put_in in_time spelled ≡ d

-- what is printed is `yes steps <k>`, for one step or more, and no plan of k steps is feasible
pub record ReportsInfeasible (n : ℕ) (d : Station) (old new : Option (List ℕ)) : Type 0 where
  pub steps : ℕ
  pub least : 1 ≤ steps
  pub within : steps ≤ n
  pub text : new ≡ grown old (yes_line steps)
  pub none : IsInfeasible d steps

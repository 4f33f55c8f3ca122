-- The promises in short: of plain command lines, and of files by what they spell.
use Rattle.std.specs.Prelude.{◌≡◌, ◌≢◌, ◌⊎◌, ℕ, ◌<◌, List, ◌∷◌, length, Option}
use Rattle.std.specs.List.{concat}
use Rattle.greatest_time.specs.Times.{with_max}
use Rattle.rail_base.specs.declared.plan.Command.{Command}
use Rattle.rail_base.specs.declared.station.Station.{Station}
use Rattle.rail_outside.specs.Growth.{grown}
use Rattle.rail_spec.specs.Feasible.{IsFeasible, IsInfeasible}
use Rattle.rail_words.specs.declared.request.SearchMode.{SearchMode}
use Rattle.rail_words.specs.declared.request.SearchMode.TheVariants.{Any}
use Rattle.rail_spelling.specs.Designs.{Spells}
use Rattle.rail_spelling.specs.Plans.{SpellsPlan}
use Rattle.cli_shell.specs.declared.status.Status.{Status}
use Rattle.cli_shell.specs.declared.status.Status.TheVariants.{Done, No}
use Rattle.rail_cli.specs.Checks.{ReportsInfeasible}
use Rattle.cli_shell.specs.Simulations.{RunsSafely, Settles}
use Rattle.cli_shell.specs.Texts.{plan_line}
use Rattle.rail_cli.specs.Texts.{plan_steps_line, infeasible_line, tightest_line}

-- the bytes spell this design, and no other
pub record IsDesign (bytes : List ℕ) (d : Station) : Type 0 where
  pub spelled : Spells bytes d
  pub alone : (e : Station) → Spells bytes e → e ≡ d

-- the bytes spell this plan of the design, and no other
pub record IsPlan (d : Station) (bytes : List ℕ) (plan : List (List Command)) : Type 0 where
  pub spelled : SpellsPlan d bytes plan
  pub alone : (other : List (List Command)) → SpellsPlan d bytes other → other ≡ plan

-- the status is 0 or 1
abbrev pub IsVerdict : Status → Type 0
IsVerdict s = (s ≡ Done) ⊎ (s ≡ No)

-- a simulation that ended with such a status: it is 0 exactly where the plan in the one file is feasible over the design in the other, and the run is safe
pub record Simulated (design_bytes plan_bytes : List ℕ) (s : Status) : Type 0 where
  pub design : Station
  pub plan : List (List Command)
  pub is_design : IsDesign design_bytes design
  pub is_plan : IsPlan design plan_bytes plan
  pub settled : Settles design plan s

-- a check that ended with 0: of the design in the file no plan is feasible of as many steps as are printed
pub record Checked (design_bytes : List ℕ) (n : ℕ) (old new : Option (List ℕ)) : Type 0 where
  pub design : Station
  pub is_design : IsDesign design_bytes design
  pub reports : ReportsInfeasible n design old new

-- a search that ended with 0: the plan that is printed in the second line is feasible for n steps over the design in the file, none of fewer steps is, unless any number of them was to do, and its run is safe
pub record Found (mode : SearchMode) (design_bytes : List ℕ) (n : ℕ) (old new : Option (List ℕ)) : Type 0 where
  pub design : Station
  pub is_design : IsDesign design_bytes design
  pub plan : List (List Command)
  pub more : List (List ℕ)
  pub text : new ≡ grown old (concat (plan_steps_line (length plan) ∷ plan_line design plan ∷ more))
  pub feasible : IsFeasible design n plan
  pub fewest : mode ≢ Any → (s : ℕ) → s < length plan → IsInfeasible design s
  pub safe : RunsSafely design plan

-- a search that ended with 1: no plan of n steps is feasible over the design in the file
pub record FoundNone (design_bytes : List ℕ) (n : ℕ) (old new : Option (List ℕ)) : Type 0 where
  pub design : Station
  pub is_design : IsDesign design_bytes design
  pub text : new ≡ grown old (infeasible_line n)
  pub none : IsInfeasible design n

-- a check with a greatest time put into a within that ended with 0: of the design in the file with that time no plan is feasible
-- of as many steps as are printed
pub record CheckedInTime (design_bytes : List ℕ) (n w ms : ℕ) (old new : Option (List ℕ)) : Type 0 where
  pub design : Station
  pub is_design : IsDesign design_bytes design
  pub reports : ReportsInfeasible n (with_max design w ms) old new

-- a search for the least time of a within that ended with 0: the plan that is printed in the third line is feasible for n steps
-- over the design in the file where the within allows as much time as is printed in the first, its run is safe, and no plan of
-- n steps is feasible where it allows less
pub record FoundLeast (design_bytes : List ℕ) (n w : ℕ) (old new : Option (List ℕ)) : Type 0 where
  pub design : Station
  pub is_design : IsDesign design_bytes design
  pub least_ms : ℕ
  pub plan : List (List Command)
  pub more : List (List ℕ)
  pub text : new ≡ grown old (concat (tightest_line w least_ms ∷ plan_steps_line (length plan)
      ∷ plan_line (with_max design w least_ms) plan ∷ more))
  pub feasible : IsFeasible (with_max design w least_ms) n plan
  pub none_less : (ms : ℕ) → ms < least_ms → IsInfeasible (with_max design w ms) n
  pub safe : RunsSafely (with_max design w least_ms) plan

-- a search for the least time of a within that ended with 1: whatever time it allows, no plan of n steps is feasible over the
-- design in the file
pub record FoundNoTime (design_bytes : List ℕ) (n w : ℕ) (old new : Option (List ℕ)) : Type 0 where
  pub design : Station
  pub is_design : IsDesign design_bytes design
  pub text : new ≡ grown old (infeasible_line n)
  pub none : (ms : ℕ) → IsInfeasible (with_max design w ms) n

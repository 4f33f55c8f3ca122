-- What is asked for, by its bytes.
use Rattle.design_cli.specs.declared.wanted.Wanted.{Wanted as Asking}
use Rattle.design_cli.specs.declared.wanted.Wanted.TheVariants.{InFile, OfTrial, OfPlan}
use Rattle.design_cli.specs.Wanted.{Wanted, in_file, of_trial, of_plan}

abbrev pub wanted_by : Asking → Wanted
wanted_by (InFile design) = in_file design.now
wanted_by (OfTrial seed size) = of_trial seed size
wanted_by (OfPlan form design plan) = of_plan form design.now plan.now

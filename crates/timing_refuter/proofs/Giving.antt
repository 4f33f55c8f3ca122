-- The commands of the plan of a run are given.
use Rattle.std.proofs.Common.{◌≡◌, ℕ, ◌<◌, List, All, get_or, length, sym, subst}
use Rattle.rail_base.specs.declared.plan.Command.{Command}
use Rattle.rail_base.proofs.Members.{In}
use Rattle.rail_base.proofs.Lists.{in_flat_map}
use Rattle.rail_spec.specs.Plans.{commands}
use Rattle.timing_refuter.specs.declared.run.FailedRun.{FailedRun}
use Rattle.timing_refuter.specs.Runs.{IsGiven}
use Rattle.timing_refuter.proofs.Holding.{named_in}
use Rattle.timing_refuter.proofs.Lists.{all_from_in}

module _ (r : FailedRun) where
  all_given : All (λ step. All (IsGiven r) step) r.plan.now.steps
  all_given = all_from_in (λ step. All (IsGiven r) step) r.plan.now.steps (λ step m. all_from_in (IsGiven r) step (λ c i.
      let within : In c (commands r.plan.now.steps) = in_flat_map (λ step. step) r.plan.now.steps step c m i in
      let named = named_in r.interlocking.now.design.station r.interlocking.now.routes r.plan.now.steps c r.formed.named within in
      (named.0, named.1, within)))

  -- those of a step of it
  pub step_given : (steps : List (List Command)) (i : ℕ) (step : List Command) → steps ≡ r.plan.now.steps → i < length steps → step ≡ get_or steps i step → All (IsGiven r) step
  step_given steps i step same less is = subst (All (IsGiven r)) (sym is) (subst (λ ss. All (λ s. All (IsGiven r) s) ss) (sym same) all_given i step less)

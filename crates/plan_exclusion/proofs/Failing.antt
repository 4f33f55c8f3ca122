-- Where a run of any number of ticks shows how a plan fails, that up to the tick of the failure does.
use Rattle.std.proofs.Common.{◌≡◌, ℕ, Bool, true, false, List, nat_lt, Option, None, Some, if◌then◌else◌, refl, sym, ap, ◌∙◌, arith}
use Rattle.std.proofs.lemmas.Bool.{le-ltb}
use Rattle.rail_base.specs.declared.station.Station.{Station}
use Rattle.rail_base.specs.declared.plan.Command.{Command}
use Rattle.rail_base.specs.declared.plan.Violation.{Violation}
use Rattle.rail_base.specs.declared.history.TrainHistory.{TrainHistory}
use Rattle.rail_base.specs.declared.history.Verdict.{Verdict}
use Rattle.rail_base.specs.declared.history.Verdict.TheVariants.{Failed, Undecided}
use Rattle.rail_spec.specs.Histories.{decided, verdict_of}
use Rattle.rail_spec.specs.Requirements.{cost, path_violation, violation_at}
use Rattle.rail_spec.specs.Track.{routes_of}
use Rattle.plan_exclusion.specs.Failures.{FailsSo}

module _ (d : Station) (plan : List (List Command)) (history : List TrainHistory) (tick : ℕ) (violation : Violation) where
  abbrev told : Verdict
  told = decided d (routes_of d) plan (path_violation d (routes_of d) plan) (violation_at d (routes_of d) plan (cost d (routes_of d) plan))

  told_failed : (b : Bool) → (if b then Undecided else told) ≡ Failed history tick violation → told ≡ Failed history tick violation
  told_failed true e = absurd (cc)
  told_failed false e = e

  -- a plan fails at its deciding tick
  at_cost : told ≡ Failed history tick violation → tick ≡ cost d (routes_of d) plan
  at_cost e = go (path_violation d (routes_of d) plan) refl (violation_at d (routes_of d) plan (cost d (routes_of d) plan)) e
    where
      go : (p : Option Violation) → path_violation d (routes_of d) plan ≡ p → (w : Option Violation) → decided d (routes_of d) plan p w ≡ Failed history tick violation → tick ≡ cost d (routes_of d) plan
      go (Some x) is w e = (let one : 1 ≡ tick = cc in let path : cost d (routes_of d) plan ≡ 1 = rw is refl in sym one ∙ sym path)
      go None is (Some x) e = cc
      go None is None e = absurd (cc)

  pub fails_at : (ticks : ℕ) → verdict_of d (routes_of d) plan ticks ≡ Failed history tick violation → FailsSo d plan history tick violation
  fails_at ticks e =
      let failed = told_failed (nat_lt ticks (cost d (routes_of d) plan)) e in
      let same = at_cost failed in
      ap (λ (b : Bool). if b then Undecided else told) (le-ltb tick (cost d (routes_of d) plan) (omega arith)) ∙ failed

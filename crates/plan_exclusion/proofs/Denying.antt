-- Something is left of the clause of what shows that a plan fails, and it is false by the plan's values.
use Rattle.std.proofs.Common.{◌≡◌, ℕ, ◌≤◌, false, List, map, None, not, ap, ◌∙◌}
use Rattle.base_spec.proofs.Left.{left_there}
use Rattle.cone_clause.proofs.Agreeing.{clause_alike}
use Rattle.bound_spec.specs.declared.Evidence.{Evidence}
use Rattle.bound_spec.specs.declared.Evidence.TheVariants as evidence
use Rattle.bound_spec.specs.declared.EvidenceFault.TheVariants as of
use Rattle.bound_spec.specs.Clauses.{clause_of_bound}
use Rattle.bound_spec.specs.Validity as bound
use Rattle.cone_spec.specs.Clauses.{clause_of_cone}
use Rattle.cone_spec.specs.Validity as cone
use Rattle.cone_spec.proofs.Refusing.{holds_of_valid}
use Rattle.rail_spec.specs.Track.{routes_of}
use Rattle.timing_refuter.proofs.Failing.{kind_of, refutes_of}
use Rattle.plan_exclusion.specs.Laws.{EvidenceDeniesItsPlan}
use Rattle.plan_exclusion.proofs.Bounding.{bound_says}
use Rattle.clause_spec.specs.Models.{model_of}
use Rattle.clause_spec.specs.Variables.{numbered}
use Rattle.clause_spec.proofs.Shown.{short_enough}
use Rattle.plan_exclusion.specs.Failures.{IsRefutedBy}
use Rattle.proof_judge.specs.Judged.{clause_said, fault_of}
use Rattle.proof_judge.proofs.Below.{clause_known, numbers_said}
use Rattle.proof_judge.proofs.Showing.{none_so}
use Rattle.rail_base.specs.declared.plan.Command.{Command}
use Rattle.rail_base.specs.declared.station.Station.{Station}
use Rattle.rail_base.specs.Admitted.{IsAdmitted}
use Rattle.rail_spec.specs.Feasible.{IsRunnable}
use Rattle.sat_clause.specs.Clauses.{clause_holds}
use Rattle.slice_spec.specs.Holders.{GivesEach}

module _ (d : Station) (good : IsAdmitted d) (n : ℕ) (some : 1 ≤ n) (plan : List (List Command)) (runs : IsRunnable d (routes_of d) n plan) (each : GivesEach d plan) where
  -- no reason holds against it, and its whole clause is false in the plan's model
  denied : (e : Evidence) → IsRefutedBy d plan e
      → (fault_of d e ≡ None) × (clause_holds (model_of d (routes_of d) n plan) (map (numbered d (routes_of d) n) (clause_said d n e)) ≡ false)
  denied (evidence.Cone k) shown =
      let f = shown.0 in
      let kind = kind_of d (routes_of d) plan f.history f.tick f.violation f.tick f.fails in
      let refutes = refutes_of d (routes_of d) plan f.history f.tick f.violation good kind each k shown.1 n runs.well_formed in (
        none_so of.Cone (cone.fault_of d (routes_of d) k) refutes.valid,
        ap (clause_holds (model_of d (routes_of d) n plan)) (numbers_said d (routes_of d) n (clause_of_cone d (routes_of d) k))
            ∙ (clause_alike d (routes_of d) n some plan (short_enough d (routes_of d) n plan runs.well_formed.formed) k (holds_of_valid d (routes_of d) k refutes.valid).in_design ∙ ap not refutes.denies),
      )
  denied (evidence.Bound b) shown = (
    none_so of.Bound (bound.fault_of d (routes_of d) b) shown.1.0,
    ap (clause_holds (model_of d (routes_of d) n plan)) (numbers_said d (routes_of d) n (clause_of_bound d (routes_of d) b))
        ∙ (bound_says d n some plan runs b shown.1.0 ∙ ap not shown.1.1),
  )

pub evidence_denies : EvidenceDeniesItsPlan
evidence_denies kind d good n some plan runs each clauses m e shown =
    let off = denied d good n some plan runs each e shown in
    left_there d (routes_of d) n (clause_said d n e) (clause_known d n some e off.0) kind plan clauses m off.1

-- What excludes a plan, as the code has it.
use Rattle.std.specs.Prelude.{◌≡◌, ℕ, true, false, List, Some, Ok}
use Rattle.log_checker.specs.Verdict.{may_stand}
use Rattle.proof_judge.specs.Judged.{refuted}
use Rattle.proof_log.specs.declared.line.Line.TheVariants.{Refute}
use Rattle.proof_log.specs.Lines.{line_in_bytes}
use Rattle.proof_log.specs.Text.{text_of_line}
use Rattle.bound_spec.specs.declared.Bound.{Bound}
use Rattle.bound_spec.specs.declared.Evidence.{Evidence}
use Rattle.bound_spec.specs.declared.Evidence.TheVariants as evidence
use Rattle.sat_clause.specs.declared.lit.Lit.{Lit}
use Rattle.sat_clause.specs.Clauses.{clause_holds}
use Rattle.sat_core.specs.Models.{value_in}
use Rattle.proof_judge.specs.declared.evidence.EvidenceLine.{EvidenceLine}
use Rattle.plan_exclusion.specs.declared.exclusion.FailedPlan.{FailedPlan}
use Rattle.plan_exclusion.specs.Exclusions.{IsExclusion}

-- it excludes the plan that fails
abbrev pub IsExclusionOf : FailedPlan → EvidenceLine → Type 0
IsExclusionOf f e =
    IsExclusion f.kind f.contention.interlocking.now.design.station f.steps.count f.plan.now.steps
    e.line.items e.clause.items

-- bounds may stand in the log
abbrev pub TakesBounds : FailedPlan → Type 0
TakesBounds f = (b : Bound) → may_stand f.kind (evidence.Bound b) ≡ true

-- the evidence shows what is left of its clause, which is false by the values that give the plan
abbrev pub DeniedBy : FailedPlan → Evidence → List Lit → Type 0
DeniedBy f e clause = (refuted f.kind f.contention.interlocking.now.design.station f.steps.count e ≡ Ok clause)
    × (clause_holds (value_in f.values.now) clause ≡ false)

-- it shows no clause that is false by those values
abbrev pub DeniesNothing : FailedPlan → Evidence → Type 0
DeniesNothing f e = (clause : List Lit) → DeniedBy f e clause → ⊥

-- the line is that of no bound
abbrev pub IsNoBoundLine : List ℕ → Type 0
IsNoBoundLine line = (b : Bound) → line_in_bytes line ≡ Some (Refute (evidence.Bound b)) → ⊥

-- no bound that its line spells shows such a clause
abbrev pub ExcludesNothing : FailedPlan → Bound → Type 0
ExcludesNothing f bound = (b : Bound)
    → line_in_bytes (text_of_line (Refute (evidence.Bound bound))) ≡ Some (Refute (evidence.Bound b))
    → DeniesNothing f (evidence.Bound b)

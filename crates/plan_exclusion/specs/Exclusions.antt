-- Lines that exclude plans.
use Rattle.std.specs.Prelude.{ℕ, List}
use Rattle.proof_judge.specs.Written.{IsEvidenceLine}
use Rattle.proof_log.specs.declared.head.Head.{Head}
use Rattle.proof_log.specs.declared.head.Head.TheVariants.{Of}
use Rattle.rail_base.specs.declared.plan.Command.{Command}
use Rattle.rail_base.specs.declared.station.Station.{Station}
use Rattle.bound_spec.specs.declared.Evidence.{Evidence}
use Rattle.sat_clause.specs.declared.lit.Lit.{Lit}
use Rattle.clause_spec.specs.declared.question.BaseKind.{BaseKind}
use Rattle.clause_spec.specs.declared.question.Question.{Question}
use Rattle.plan_exclusion.specs.Failures.{IsRefutedBy}

-- what is asked of a design, for plans of n steps, by a base
abbrev pub question_of : BaseKind → Station → ℕ → Question
question_of kind d n = record { version = d.version; steps = n; base = kind }

-- the head of the log, which names the question
abbrev pub head_for : BaseKind → Station → ℕ → Head
head_for kind d n = Of (question_of kind d n)

-- the line of a cone or a bound that shows that the plan fails, and what is left of its clause in the base
pub record IsExclusion (kind : BaseKind) (d : Station) (n : ℕ) (plan : List (List Command))
    (line : List ℕ) (clause : List Lit) : Type 0 where
  pub evidence : Evidence
  pub refuted_by : IsRefutedBy d plan evidence
  pub written : IsEvidenceLine kind d n evidence line clause

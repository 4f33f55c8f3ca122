-- What follows of what a file shows.
use Rattle.std.specs.Prelude.{◌≡◌, ℕ, ◌+◌, ◌≤◌, ◌<◌, Bool, true, List, Result, Ok}
use Rattle.bound_spec.specs.declared.Evidence.{Evidence}
use Rattle.bound_spec.specs.declared.EvidenceFault.{EvidenceFault}
use Rattle.proof_log.specs.declared.head.Head.{Head}
use Rattle.clause_spec.specs.declared.question.VariableCounts.{VariableCounts}
use Rattle.sat_clause.specs.declared.lit.Lit.{Lit}
use Rattle.sat_clause.specs.Clauses.{Store, clause_holds}
use Rattle.log_checker.specs.declared.check_result.CheckResult.TheVariants.{Yes}
use Rattle.log_checker.specs.Truth.{clauses_hold}
use Rattle.log_checker.specs.Verdict.{log_verdict}

module _ (refute : Evidence → Result (List Lit) EvidenceFault) where
  -- the values make the clauses true, and each that a cone or a bound shows
  pub record AllHold (values : ℕ → Bool) (base : Store) : Type 0 where
    pub clauses : clauses_hold values base ≡ true
    pub holds_of_evidence : (e : Evidence) (clause : List Lit) → refute e ≡ Ok clause → clause_holds values clause ≡ true

  -- a number of steps is among those asked for, and no such values say that all is given by then
  pub record Denies (variables : VariableCounts) (base : Store) (k : ℕ) : Type 0 where
    pub at_most_steps : k ≤ variables.steps
    pub least : 0 < variables.steps → 0 < k
    pub never : (values : ℕ → Bool) → AllHold values base → values (variables.before_selectors + k) ≡ true → ⊥

-- what a file shows is so, whoever wrote it
abbrev pub CheckIsSound : Type 0
CheckIsSound = (head : Head) (refute : Evidence → Result (List Lit) EvidenceFault) (variables : VariableCounts)
    (base : Store) (k : ℕ) (bytes : List ℕ)
    → log_verdict head refute variables base bytes ≡ Yes k
    → Denies refute variables base k

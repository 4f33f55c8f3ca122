-- What a search shows, finished or not.
use Rattle.std.specs.Prelude.{ℕ, ◌≡◌, true, List, [], ◌∷◌, ◌++◌, Result, Some}
use Rattle.bound_spec.specs.declared.Evidence.{Evidence}
use Rattle.bound_spec.specs.declared.EvidenceFault.{EvidenceFault}
use Rattle.proof_log.specs.declared.head.Head.{Head}
use Rattle.proof_log.specs.Heads.{keeps_head}
use Rattle.clause_spec.specs.declared.question.VariableCounts.{VariableCounts}
use Rattle.sat_clause.specs.declared.lit.Lit.{Lit}
use Rattle.sat_clause.specs.Clauses.{Store, live_clause}
use Rattle.sat_core.specs.Lines.{Derived}
use Rattle.log_checker.specs.declared.check_result.CheckResult.TheVariants.{Yes}
use Rattle.log_checker.specs.Laws.{Denies}
use Rattle.log_checker.specs.Verdict.{log_verdict, steps_denied}
use Rattle.log_recorder.specs.Logs.{LogLine, Learnt, log_text, with_log, AllGoOn, IsLast}

-- lines that go on, and then one that is the last, are a file that shows all steps
abbrev pub EndedRunsAreAccepted : Type 0
EndedRunsAreAccepted = (head : Head) (refute : Evidence → Result (List Lit) EvidenceFault) (variables : VariableCounts)
    (base : Store) (lines : List LogLine) (d : Derived)
    → keeps_head head ≡ true
    → AllGoOn head refute variables base [] lines
    → IsLast variables (with_log base lines) d
    → log_verdict head refute variables base (log_text head (lines ++ Learnt d ∷ [])) ≡ Yes variables.steps

-- where a live clause of a run log says that there is no plan of k steps, it is so
abbrev pub DenialsAreSo : Type 0
DenialsAreSo = (head : Head) (refute : Evidence → Result (List Lit) EvidenceFault) (variables : VariableCounts) (base : Store)
    (lines : List LogLine) (id k : ℕ) (clause : List Lit)
    → AllGoOn head refute variables base [] lines
    → live_clause (with_log base lines) id ≡ Some clause
    → steps_denied variables clause ≡ Some k
    → Denies refute variables base k

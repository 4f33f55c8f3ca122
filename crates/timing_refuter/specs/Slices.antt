-- What a slice does to the plan that failed.
use Rattle.std.specs.Prelude.{◌≡◌, ℕ, List, Result, IfOk}
use Rattle.rail_base.specs.declared.plan.Command.{Command}
use Rattle.rail_base.specs.declared.history.Verdict.{Verdict}
use Rattle.rail_spec.specs.Feasible.{IsWellFormed}
use Rattle.rail_spec.specs.Histories.{verdict_of}
use Rattle.slice_spec.specs.Holders.{GivesEach}
use Rattle.interlocking.specs.declared.railway.Interlocking.{Interlocking}
use Rattle.interlocking.specs.Plans.{on}
use Rattle.cone_spec.specs.declared.Cone.{Cone}
use Rattle.cone_spec.specs.Laws.{Refutes}

-- with some bound on ticks this is the verdict on the plan
abbrev pub FailsWith : Interlocking → List (List Command) → Verdict → Type 0
FailsWith i plan verdict = (ticks : ℕ) × (on i verdict_of plan ticks ≡ verdict)

-- a cone that is found refutes the plan, where that gives each train a command, for every number of steps for which it is well formed
abbrev pub RefutesPlan : {E : Type 0} → Interlocking → List (List Command) → Result Cone E → Type 0
RefutesPlan i plan found = GivesEach i.design.station plan → (n : ℕ) → on i IsWellFormed n plan
    → IfOk found (λ k. Refutes i.design.station i.routes n k plan)

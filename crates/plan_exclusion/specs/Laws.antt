-- What the evidence of a failure says of the plan's values.
use Rattle.std.specs.Prelude.{ℕ, ◌≡◌, ◌≤◌, false, List, Some}
use Rattle.base_spec.specs.Bases.{HasModelFor, left_in}
use Rattle.clause_spec.specs.declared.question.BaseKind.{BaseKind}
use Rattle.proof_judge.specs.Judged.{clause_said}
use Rattle.rail_base.specs.declared.plan.Command.{Command}
use Rattle.rail_base.specs.declared.station.Station.{Station}
use Rattle.rail_base.specs.Admitted.{IsAdmitted}
use Rattle.bound_spec.specs.declared.Evidence.{Evidence}
use Rattle.slice_spec.specs.Holders.{GivesEach}
use Rattle.rail_spec.specs.Feasible.{IsRunnable}
use Rattle.rail_spec.specs.Track.{routes_of}
use Rattle.sat_clause.specs.declared.lit.Lit.{Lit}
use Rattle.sat_clause.specs.Clauses.{clause_holds}
use Rattle.plan_exclusion.specs.Failures.{IsRefutedBy}

-- in each base something is left of the clause of what shows that a plan fails, which is false by the plan's values
abbrev pub EvidenceDeniesItsPlan : Type 0
EvidenceDeniesItsPlan = (kind : BaseKind) (d : Station) → IsAdmitted d → (n : ℕ) → 1 ≤ n → (plan : List (List Command))
    → IsRunnable d (routes_of d) n plan → GivesEach d plan → (clauses : List (List Lit))
    → (m : HasModelFor kind d (routes_of d) n plan clauses) → (e : Evidence) → IsRefutedBy d plan e
    → (left : List Lit) × (left_in kind d (routes_of d) n (clause_said d n e) ≡ Some left)
    × (clause_holds m.values left ≡ false)

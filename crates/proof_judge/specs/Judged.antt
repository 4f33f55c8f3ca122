-- What a proof file shows of a design.
use Rattle.std.specs.Prelude.{◌≡◌, ℕ, ◌≤◌, ◌==◌, Bool, true, not, ◌&&◌, if◌then◌else◌, List, length, map, option_map, Option, Some, None}
use Rattle.std.specs.Prelude.{is_some, Result, Ok, Err}
use Rattle.rail_text.specs.Pieces.{pieces}
use Rattle.base_spec.specs.Bases.{clauses_of, left_in, variables_of}
use Rattle.bound_clause.specs.Numbered.{base_clause_of_bound}
use Rattle.cone_clause.specs.Numbered.{base_clause}
use Rattle.log_checker.specs.declared.check_result.CheckResult.{CheckResult}
use Rattle.log_checker.specs.declared.check_result.CheckResult.TheVariants.{Yes, No}
use Rattle.log_checker.specs.declared.check_result.Reason.TheVariants.{HeadDiffers, BaseTooLarge}
use Rattle.log_checker.specs.Verdict.{head_in, log_verdict}
use Rattle.clause_spec.specs.Clauses.{Clause, past_limit}
use Rattle.clause_spec.specs.declared.question.BaseKind.{BaseKind}
use Rattle.clause_spec.specs.declared.question.BaseKind.TheVariants.{Plain, Sorted, Normal, Live}
use Rattle.clause_spec.specs.declared.question.Turns.TheVariants.{Beside}
use Rattle.clause_spec.specs.declared.question.Question.{Question}
use Rattle.clause_spec.specs.declared.question.VariableCounts.{VariableCounts}
use Rattle.proof_log.specs.declared.head.Head.{Head}
use Rattle.proof_log.specs.declared.head.Head.TheVariants.{Unnamed, Of}
use Rattle.proof_log.specs.Heads.{base_of}
use Rattle.rail_base.specs.declared.route.Route.{Route}
use Rattle.rail_base.specs.declared.station.Station.{Station}
use Rattle.rail_base.specs.Admission.{is_from}
use Rattle.rail_base.specs.Admitted.{IsAdmitted}
use Rattle.bound_spec.specs.declared.Evidence.{Evidence}
use Rattle.bound_spec.specs.declared.Evidence.TheVariants as evidence
use Rattle.bound_spec.specs.declared.BoundFault.TheVariants.{BoundNotInDesign}
use Rattle.bound_spec.specs.declared.EvidenceFault.{EvidenceFault}
use Rattle.bound_spec.specs.declared.EvidenceFault.TheVariants as of
use Rattle.bound_spec.specs.Validity as bound
use Rattle.cone_spec.specs.declared.ConeFault.TheVariants.{PathNotInDesign}
use Rattle.cone_spec.specs.Validity as cone
use Rattle.rail_spec.specs.Feasible.{IsInfeasible}
use Rattle.rail_spec.specs.Track.{routes_of}
use Rattle.sat_clause.specs.declared.lit.Lit.{Lit}
use Rattle.sat_clause.specs.Clauses.{Store}

-- the clauses, all live
abbrev pub all_live : List (List Lit) → Store
all_live clauses = map (λ c. (c, true)) clauses

-- what a cone or a bound says, as a clause over the variables of n steps
abbrev pub clause_said : Station → ℕ → Evidence → Clause
clause_said d n (evidence.Cone k) = base_clause d (routes_of d) n k
clause_said d n (evidence.Bound b) = base_clause_of_bound d (routes_of d) n b

-- what is left of the clause, or the first reason against it: where nothing is left, that the design hasn't what it names
abbrev pub shown_by : Option EvidenceFault → EvidenceFault → Option (List Lit) → Result (List Lit) EvidenceFault
shown_by fault not_there None = Err not_there
shown_by (Some fault) not_there (Some clause) = Err fault
shown_by None not_there (Some clause) = Ok clause

-- the first reason against a cone or a bound
abbrev pub fault_of : Station → Evidence → Option EvidenceFault
fault_of d (evidence.Cone k) = option_map of.Cone (cone.fault_of d (routes_of d) k)
fault_of d (evidence.Bound b) = option_map of.Bound (bound.fault_of d (routes_of d) b)

-- that the design, or the base, hasn't what it names
abbrev pub not_in_design : Evidence → EvidenceFault
not_in_design (evidence.Cone k) = of.Cone PathNotInDesign
not_in_design (evidence.Bound b) = of.Bound BoundNotInDesign

-- what is left in a base of n steps of the clause of a valid cone or bound, or why it is not shown
abbrev pub refuted : BaseKind → Station → ℕ → Evidence → Result (List Lit) EvidenceFault
refuted kind d n e = shown_by (fault_of d e) (not_in_design e) (left_in kind d (routes_of d) n (clause_said d n e))

-- the clauses that a head names
abbrev pub clauses_under : Head → Station → ℕ → List (List Lit)
clauses_under head d n = clauses_of (base_of head) d (routes_of d) n

-- their variables
abbrev pub variables_under : Head → Station → ℕ → VariableCounts
variables_under head d n = variables_of (base_of head) d (routes_of d) n

-- what the bytes show of the clauses that a head names, and of what is left of those of valid cones and bounds
abbrev pub judged_under : Head → Station → ℕ → List ℕ → CheckResult
judged_under head d n bytes =
    log_verdict head (refuted (base_of head) d n) (variables_under head d n) (all_live (clauses_under head d n)) bytes

-- a within that a base names is one of the design
abbrev pub names_within : BaseKind → Station → Bool
names_within (Live (Beside w)) d = is_from 1 (length d.withins) w
names_within _ d = true

-- it is asked of designs of this version and of so many steps, and names nothing that the design hasn't
abbrev pub is_asked_of : Question → Station → ℕ → Bool
is_asked_of q d n = names_within q.base d && q.version == d.version && q.steps == n

-- the same, where the question that a head names is asked of this, and its clauses are not too many
abbrev pub judged_by : Station → ℕ → List ℕ → Option Head → CheckResult
judged_by d n bytes (Some (Of q)) =
    if not (is_asked_of q d n) then No 1 HeadDiffers
    else if is_some (past_limit 16000000 0 (clauses_under (Of q) d n)) then No 1 BaseTooLarge
    else judged_under (Of q) d n bytes
judged_by d n bytes (Some Unnamed) = judged_under Unnamed d n bytes
judged_by d n bytes None = judged_under Unnamed d n bytes

-- ---- which clauses come first

-- how many literals the plain clauses have up to the first that is too much, where they are asked of before those of a
-- base: not before those of live commands
abbrev pub past_first : BaseKind → Station → List Route → ℕ → Option ℕ
past_first Plain d routes n = past_limit 16000000 0 (clauses_of Plain d routes n)
past_first Sorted d routes n = past_limit 16000000 0 (clauses_of Plain d routes n)
past_first Normal d routes n = past_limit 16000000 0 (clauses_of Plain d routes n)
past_first (Live turns) d routes n = None

-- the base that a file speaks of by its head, if it has one
abbrev pub base_named : Option Head → BaseKind
base_named None = Plain
base_named (Some head) = base_of head

-- the same for the base that a file names
abbrev pub past_plain : Station → ℕ → List ℕ → Option ℕ
past_plain d n bytes = past_first (base_named (head_in (pieces bytes))) d (routes_of d) n

-- what the bytes show
abbrev pub judged : Station → ℕ → List ℕ → CheckResult
judged d n bytes = judged_by d n bytes (head_in (pieces bytes))

-- where a file shows k, which is from 1 to n, no plan of k steps is feasible, whoever wrote the file
abbrev pub YesIsInfeasible : Type 0
YesIsInfeasible = (d : Station) → IsAdmitted d → (n k : ℕ) (bytes : List ℕ) → 1 ≤ n
    → judged d n bytes ≡ Yes k → (1 ≤ k) × ((k ≤ n) × IsInfeasible d k)

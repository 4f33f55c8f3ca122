-- What each end of a search says of a design, for plans of at most n steps.
use Rattle.std.specs.Prelude.{ℕ, ◌≡◌, ◌+◌, ◌<◌, ◌≤◌, ◌⊎◌, List, [], ◌∷◌, ◌++◌, map, flat_map, length}
use Rattle.std.specs.Prelude.{None, Some, sum_by}
use Rattle.log_checker.specs.declared.check_result.CheckResult.TheVariants.{Yes}
use Rattle.base_spec.specs.Bases.{HasModelFor}
use Rattle.clause_spec.specs.Clauses.{past_limit}
use Rattle.clause_spec.specs.declared.question.BaseKind.{BaseKind}
use Rattle.clause_spec.specs.declared.question.VariableCounts.{VariableCounts}
use Rattle.plan_exclusion.specs.Exclusions.{head_for}
use Rattle.plan_exclusion.specs.Failures.{IsRefutedBy, clauses_of_evidence}
use Rattle.proof_judge.specs.Judged.{all_live, clauses_under, judged, refuted, variables_under}
use Rattle.proof_log.specs.declared.line.Line.TheVariants.{Refute}
use Rattle.bound_spec.specs.declared.Evidence.{Evidence}
use Rattle.proof_log.specs.declared.head.Head.{Head}
use Rattle.proof_log.specs.Heads.{head_text}
use Rattle.proof_log.specs.Text.{text_of_line}
use Rattle.rail_base.specs.declared.plan.Command.{Command}
use Rattle.rail_base.specs.declared.plan.Plan.{Plan as PlanOf}
use Rattle.rail_base.specs.declared.station.Station.{Station}
use Rattle.rail_base.specs.Stations.{horizon}
use Rattle.rail_spec.specs.Feasible.{IsRunnable, IsFeasible, IsInfeasible}
use Rattle.rail_spec.specs.Histories.{verdict_of}
use Rattle.rail_spec.specs.Requirements.{cost}
use Rattle.rail_spec.specs.Track.{routes_of}
use Rattle.log_recorder.specs.Logs.{LogLine, Learnt, IsRunLog, IsEndedLog, MayComeNext, evidence_of, learnt_count, log_text}
use Rattle.sat_clause.specs.Clauses.{Store}
use Rattle.sat_core.specs.Lines.{Derived, derived_text}
use Rattle.sat_core.specs.Texts.{ended}
use Rattle.verify_loop.specs.declared.outcome.Aim.{Aim}
use Rattle.verify_loop.specs.declared.outcome.Wanted.{Wanted}
use Rattle.verify_loop.specs.declared.outcome.Wanted.TheVariants.{Fewest, Any}
use Rattle.verify_loop.specs.declared.outcome.Budgets.{Budgets}
use Rattle.verify_loop.specs.declared.outcome.Outcome.{Outcome}
use Rattle.verify_loop.specs.declared.outcome.Outcome.TheVariants.{Plan, Infeasible, ConflictsSpent, TicksSpent}
use Rattle.verify_loop.specs.declared.outcome.Outcome.TheVariants.{LogSpent, TooLarge, Memory}
use Rattle.sat_clause.specs.declared.lit.Lit.{Lit}
use Rattle.rail_base.specs.Members.{Differ}
use Rattle.verify_loop.specs.Quests.{Quest, by_itself}

-- a plan that failed, and what shows that it does
pub record Refutal : Type 0 where
  pub plan : List (List Command)
  pub evidence : Evidence

abbrev pub plans_of : List Refutal → List (List (List Command))
plans_of rs = map (λ (r : Refutal). r.plan) rs

abbrev pub evidence_in : List Refutal → List Evidence
evidence_in rs = map (λ (r : Refutal). r.evidence) rs

-- these are the plans that failed
abbrev pub AreThose : List PlanOf → List Refutal → Type 0
AreThose failed rs = map (λ (p : PlanOf). p.steps) failed ≡ plans_of rs

module _ (d : Station) (n : ℕ) where
  -- how many ticks these plans cost
  abbrev pub cost_of : List (List (List Command)) → ℕ
  cost_of plans = sum_by (cost d (routes_of d)) plans

-- where a plan of the fewest steps is wanted, none of fewer steps than these is feasible
abbrev pub HasNoneBelow : Wanted → Station → ℕ → Type 0
HasNoneBelow Fewest d steps = (s : ℕ) → s < steps → IsInfeasible d s
HasNoneBelow Any d steps = Unit {0}

module _ (base : BaseKind) (d : Station) (n : ℕ) where
  -- the clauses of the base, and what is left of those of these cones and bounds
  abbrev pub clauses_with : List Evidence → List (List Lit)
  clauses_with known = clauses_under (head_for base d n) d n ++ flat_map (clauses_of_evidence base d n) known

  -- a plan that can be carried out, and values of it that make the clauses true, those of these cones and bounds too
  pub record IsFound (known : List Evidence) (plan : List (List Command)) : Type 0 where
    pub runnable : IsRunnable d (routes_of d) n plan
    pub model : HasModelFor base d (routes_of d) n plan (clauses_with known)

  -- each plan fails, and was found where the cones and bounds of those before were known, behind these
  abbrev pub AreRefuted : List Evidence → List Refutal → Type 0
  AreRefuted known [] = Unit {0}
  AreRefuted known (r ∷ rs) =
      IsFound known r.plan × IsRefutedBy d r.plan r.evidence × AreRefuted (known ++ r.evidence ∷ []) rs

module _ (m : Quest) (d : Station) (n : ℕ) where
  -- the head of the log
  abbrev pub head : Head
  head = head_for m.base d n

  -- the clauses that a search begins with: where there is a plan, values of one make them true
  abbrev pub first_clauses : List (List Lit)
  first_clauses = clauses_under head d n

  -- how many variables they have
  abbrev pub vars : VariableCounts
  vars = variables_under head d n

  -- they are all live
  abbrev pub base : Store
  base = all_live first_clauses

  -- what is known where these plans failed
  abbrev pub known_after : List Refutal → List Evidence
  known_after rs = m.known ++ evidence_in rs

  -- ---- logs

  -- the cones and bounds of these lines are those that were known, and then those of plans that failed
  pub record AreOfFailedPlans (lines : List LogLine) (rs : List Refutal) : Type 0 where
    pub evidence : evidence_of lines ≡ known_after rs
    pub refuted : AreRefuted m.base d n m.known rs

  -- a log with the first of those that are known and no other line, and the length of the line of the next one
  pub record IsBegun (log : List ℕ) (next : ℕ) : Type 0 where
    pub before : List Evidence
    pub at : Evidence
    pub behind : List Evidence
    pub first : m.known ≡ before ++ at ∷ behind
    pub lines : List LogLine
    pub run : IsRunLog head (refuted m.base d n) vars base lines log
    pub evidence : evidence_of lines ≡ before
    pub none_learnt : learnt_count lines ≡ 0
    pub next_is : next ≡ length (ended (text_of_line (Refute at)))

  -- a log of the search, with these lines and plans that failed
  pub record IsLog (lines : List LogLine) (rs : List Refutal) (log : List ℕ) : Type 0 where
    pub run : IsRunLog head (refuted m.base d n) vars base lines log
    pub of_failed_plans : AreOfFailedPlans lines rs

  -- a derived line that the search may record next
  abbrev pub IsNextDerived : List LogLine → Derived → Type 0
  IsNextDerived = MayComeNext base vars

  -- the next line has so many bytes: one that may be derived next, or that of the cone or bound of a plan that is found next and fails
  abbrev pub IsNextLine : List LogLine → List Refutal → ℕ → Type 0
  IsNextLine lines rs next =
      ((line : Derived) × IsNextDerived lines line × (next ≡ length (derived_text line)))
      ⊎ ((r : Refutal) × IsFound m.base d n (known_after rs) r.plan × IsRefutedBy d r.plan r.evidence
      × (next ≡ length (ended (text_of_line (Refute r.evidence)))))

  -- ---- budgets

  -- so many clauses were derived as these lines have, and these plans were run: no more than may be spent
  pub record IsWithin (b : Budgets) (lines : List LogLine) (plans : List (List (List Command))) : Type 0 where
    pub derived : learnt_count lines ≤ b.conflicts
    pub timed : m.spent + cost_of d n plans ≤ b.ticks

  -- the search came to this plan, and its run is within the budgets too
  pub record IsReached (b : Budgets) (plan : List (List Command)) : Type 0 where
    pub lines : List LogLine
    pub rs : List Refutal
    pub log : IsLog lines rs (log_text head lines)
    pub found : IsFound m.base d n (known_after rs) plan
    pub within : IsWithin b lines (plans_of rs ++ plan ∷ [])

  -- the log is empty, and there is no room for the head; or it has some of what is known, and there is none for the next one;
  -- or it is a log of the search, in which these plans failed, and there is none for a next line
  abbrev pub IsFull : Budgets → List ℕ → ℕ → ℕ → List PlanOf → Type 0
  IsFull b log bytes next failed =
      (bytes ≡ length log) × (b.log_bytes < bytes + next)
      × (((log ≡ []) × (next ≡ length (ended (head_text head))) × (failed ≡ []))
      ⊎ ((IsBegun log next × (failed ≡ []))
      ⊎ ((lines : List LogLine) × (rs : List Refutal) × IsLog lines rs log × IsWithin b lines (plans_of rs)
      × IsNextLine lines rs next × AreThose failed rs)))

  -- a log of the search with the line that ends it, which is a file that shows that there is no plan of n steps
  pub record IsProof (b : Budgets) (log : List ℕ) : Type 0 where
    pub lines : List LogLine
    pub rs : List Refutal
    pub ended_log : IsEndedLog head (refuted m.base d n) vars base lines log
    pub of_failed_plans : AreOfFailedPlans lines rs
    pub accepted : judged d n log ≡ Yes n
    pub within : IsWithin b (lines ++ Learnt ended_log.last ∷ []) (plans_of rs)

  -- ---- ends

  -- what the end of a search within these budgets says
  abbrev pub IsEnd : Budgets → Outcome → Type 0
  IsEnd b (Plan plan verdict) = IsFeasible d n plan.steps × HasNoneBelow m.wanted d (length plan.steps)
      × (verdict ≡ verdict_of d (routes_of d) plan.steps (horizon d)) × IsReached b plan.steps
  IsEnd b (Infeasible log) = IsInfeasible d n × IsProof b log.items × (length log.items ≤ b.log_bytes)
  IsEnd b (ConflictsSpent log clause hints failed) =
      (lines : List LogLine) × (rs : List Refutal) × IsLog lines rs log.items × IsWithin b lines (plans_of rs)
      × (learnt_count lines ≡ b.conflicts) × IsNextDerived lines (clause.items, hints.items) × AreThose failed.items rs
  IsEnd b (TicksSpent failed sum at_hand) =
      (lines : List LogLine) × (rs : List Refutal) × IsLog lines rs (log_text head lines)
      × IsWithin b lines (plans_of rs)
      × AreThose failed.items rs × (sum ≡ m.spent + cost_of d n (plans_of rs))
      × IsFound m.base d n (known_after rs) at_hand.steps × (b.ticks < sum + cost d (routes_of d) at_hand.steps)
  IsEnd b (LogSpent log bytes next failed) = IsFull b log.items bytes next failed.items
  IsEnd b (TooLarge literals) = past_limit 16000000 0 first_clauses ≡ Some literals
  IsEnd b Memory = Unit {0}

  -- the clauses have at most 16,000,000 literals, unless the search says that they have more or there was no memory
  abbrev pub FitsSo : Outcome → Type 0
  FitsSo (TooLarge literals) = Unit {0}
  FitsSo Memory = Unit {0}
  FitsSo _ = past_limit 16000000 0 first_clauses ≡ None

-- plans that are refuted so, whatever was known at first, differ
abbrev pub RefutedDiffer : BaseKind → Station → Type 0
RefutedDiffer base d =
    (n : ℕ) → 1 ≤ n → (known : List Evidence) (rs : List Refutal) → AreRefuted base d n known rs → Differ (plans_of rs)

-- ---- a search by itself

module _ (m : Aim) (d : Station) (n : ℕ) where
  -- what its end within these budgets says
  abbrev pub IsOutcome : Budgets → Outcome → Type 0
  IsOutcome = IsEnd (by_itself m d n) d n

  -- its clauses are not too many, unless it says so or there was no memory
  abbrev pub Fits : Outcome → Type 0
  Fits = FitsSo (by_itself m d n) d n

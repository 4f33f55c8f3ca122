-- Where a search is that answers a question.
use Rattle.std.specs.Prelude.{ℕ, ◌≡◌, ◌+◌, ◌-◌, ◌<◌, ◌≤◌, Bool, true, List, [], ◌∷◌, ◌++◌, filter, flat_map, length}
use Rattle.std.specs.Prelude.{Option, None, Some}
use Rattle.clause_spec.specs.declared.question.VariableCounts.{VariableCounts}
use Rattle.plan_exclusion.specs.Exclusions.{IsExclusion}
use Rattle.plan_exclusion.specs.Failures.{AreValuesOfPlan}
use Rattle.order_bounds.specs.Orders.{makes_both, said_by, said_of}
use Rattle.proof_judge.specs.declared.evidence.EvidenceLine.{EvidenceLine}
use Rattle.proof_judge.specs.Written.{IsEvidenceLine}
use Rattle.clause_spec.specs.declared.question.BaseKind.TheVariants.{Live}
use Rattle.clause_spec.specs.declared.question.Turns.{Turns}
use Rattle.live_clause_spec.specs.Live.{is_live}
use Rattle.live_clause_spec.specs.Variables.{live_pairs}
use Rattle.rail_base.specs.Numbering.{one_to}
use Rattle.rail_spec.specs.Track.{routes_of}
use Rattle.sat_core.specs.Texts.{added_line}
use Rattle.verify_loop.specs.declared.outcome.Outcome.TheVariants.{LogSpent, Memory}
use Rattle.verify_loop.specs.declared.outcome.Outcome.TheVariants as outcome
use Rattle.verify_loop.specs.declared.outcome.Budgets.{Budgets}
use Rattle.rail_base.specs.declared.plan.Command.{Command}
use Rattle.rail_base.specs.declared.station.Station.{Station}
use Rattle.bound_spec.specs.declared.Evidence.{Evidence}
use Rattle.log_recorder.specs.Logs as logs
use Rattle.sat_clause.specs.declared.lit.Lit.{Lit}
use Rattle.sat_clause.specs.Clauses.{opposite}
use Rattle.sat_core.specs.Units.{HasUnit}
use Rattle.verify_loop.specs.declared.outcome.Outcome.{Outcome}
use Rattle.verify_loop.specs.declared.rounds.PlanSearch.{PlanSearch}
use Rattle.verify_loop.specs.declared.rounds.SearchState.{SearchState}
use Rattle.verify_loop.specs.declared.outcome.Aim.{Aim}
use Rattle.verify_loop.specs.declared.outcome.Tried.{Tried}
use Rattle.verify_loop.specs.declared.rounds.TimeAsked.{TimeAsked}
use Rattle.verify_loop.specs.declared.rounds.Stop.{Stop}
use Rattle.verify_loop.specs.declared.rounds.Stop.TheVariants as stop
use Rattle.verify_loop.specs.Outcomes.{IsEnd, IsFound, cost_of, vars}
use Rattle.verify_loop.specs.Quests.{Quest, by_itself}
use Rattle.verify_loop.specs.Searching as searching
use Rattle.verify_loop.specs.Telling.{TellsLines, TellsProgress}
use Rattle.verify_loop.specs.Tightening.{IsPast}
use Rattle.greatest_time.specs.Times.{with_max}
use Rattle.order_bounds.specs.Orders.{orders_first}
use Rattle.rail_base.specs.declared.history.Verdict.TheVariants.{Met}
use Rattle.rail_base.specs.Stations.{horizon}
use Rattle.rail_spec.specs.Feasible.{IsFeasible}
use Rattle.rail_spec.specs.Histories.{verdict_of}

-- ---- one more line

-- the search has the clause of the line too, and its log the line
pub record IsAdded (old : SearchState) (l : EvidenceLine) (new : SearchState) : Type 0 where
  pub clauses : new.solver.arena ≡ old.solver.arena ++ (l.clause.items, true) ∷ []
  pub learnt : new.solver.learnt.items ≡ old.solver.learnt.items
  pub text : new.solver.recorder.bytes.items ≡ old.solver.recorder.bytes.items ++ added_line l.line.items
  pub limit : new.solver.recorder.limit ≡ old.solver.recorder.limit
  pub vars : new.solver.vars ≡ old.solver.vars
  pub derives : new.solver.derives ≡ old.solver.derives
  pub failed : new.failed ≡ old.failed
  pub sum : new.sum ≡ old.sum
  pub steps : new.steps ≡ old.steps

-- the log has no room for it, or there was no memory
abbrev pub IsLeftOut : SearchState → EvidenceLine → Outcome → Type 0
IsLeftOut s l (LogSpent log bytes next failed) =
    (log.items ≡ s.solver.recorder.bytes.items) × (bytes ≡ length log.items) × (next ≡ length l.line.items + 1)
    × (s.solver.recorder.limit < bytes + next) × (failed ≡ s.failed)
IsLeftOut s l Memory = Unit {0}
IsLeftOut s l _ = ⊥

-- where a search is by itself, the bounds by orders are known before the first plan, and nothing was spent; where one asks
-- for less and less time, what was found and spent with more
abbrev pub IsBefore : Aim → Station → ℕ → Option TimeAsked → List Tried → List Evidence → ℕ → Type 0
IsBefore m d n None tried known spent = (known ≡ orders_first m.base d n) × (spent ≡ 0)
IsBefore m d n (Some t) tried known spent = IsPast m.base (with_max d t.within 0) t.within n tried t.ticks known spent

-- a search by itself begins, and its log has these cones and bounds and no other lines
abbrev pub HasBegun : Aim → Station → ℕ → Budgets → SearchState → List Evidence → Type 0
HasBegun m d n b s known =
    searching.IsBeginning (by_itself m d n) d n b s.solver.arena s.solver.recorder s.solver.learnt.items s.solver.vars s.solver.derives
    s.failed.items s.sum s.steps known

-- the end is no plan
abbrev pub IsNoPlan : Outcome → Type 0
IsNoPlan (outcome.Plan plan verdict) = ⊥
IsNoPlan _ = Unit {0}

-- a search by itself ends before there is any plan
abbrev pub IsEarlyEnd : Aim → Station → ℕ → Budgets → Outcome → Type 0
IsEarlyEnd m d n b end = IsNoPlan end × IsEnd (by_itself m d n) d n b end

module _ (q : PlanSearch) where
  -- the station
  abbrev pub station_of : Station
  station_of = q.interlocking.now.design.station

  -- how many steps a plan may have
  abbrev pub most_steps : ℕ
  most_steps = q.numbering.now.steps

  -- what is asked, where these cones and bounds are known and so many ticks were spent
  abbrev pub quest : List Evidence → ℕ → Quest
  quest known spent = record { base = q.aim.base; wanted = q.aim.wanted; known = known; spent = spent }

  -- these are what is known and spent before its first plan
  abbrev pub IsKnown : List Evidence → ℕ → Type 0
  IsKnown = IsBefore q.aim station_of most_steps q.time q.tried.now

  -- it is so, with what is known and spent before
  abbrev pub With : (Quest → Type 0) → Type 0
  With IsSo = (known : List Evidence) × (spent : ℕ) × IsKnown known spent × IsSo (quest known spent)

  -- it begins with the bounds by orders
  abbrev pub IsFirst : Type 0
  IsFirst = IsKnown (orders_first q.aim.base station_of most_steps) 0

  -- how many variables there are
  abbrev pub variables : VariableCounts
  variables = vars (quest [] 0) station_of most_steps

  -- the literal that says that all is given by a step
  abbrev pub given_by : ℕ → Lit
  given_by step = logs.by_step variables step

  -- ---- plans

  -- the plan was found where some cones and bounds were known
  abbrev pub WasFound : List (List Command) → Type 0
  WasFound plan = (known : List Evidence) × IsFound q.aim.base station_of most_steps known plan

  -- the values give the plan
  abbrev pub AreValuesFor : List Bool → List (List Command) → Type 0
  AreValuesFor = AreValuesOfPlan q.aim.base station_of most_steps

  -- the line and the clause of a cone or a bound that shows that a plan fails
  abbrev pub Excludes : List (List Command) → EvidenceLine → Type 0
  Excludes plan e = IsExclusion q.aim.base station_of most_steps plan e.line.items e.clause.items

  -- how many ticks the plan costs
  abbrev pub ticks_of : List (List Command) → ℕ
  ticks_of plan = cost_of station_of most_steps (plan ∷ [])

  -- ---- orders, before the first plan

  -- the line and the clause of some cone or bound
  abbrev pub ShowsSome : EvidenceLine → Type 0
  ShowsSome l =
      (e : Evidence) × IsEvidenceLine q.aim.base station_of most_steps e l.line.items l.clause.items

  -- live commands alone are searched
  abbrev pub SearchesLive : Type 0
  SearchesLive = (turns : Turns) × (q.aim.base ≡ Live turns)

  -- pairs of live commands that contend, of which the order may say something
  abbrev pub IsPairList : ℕ → List (Command × Command) → Type 0
  IsPairList order pairs = let routes = routes_of station_of in
      pairs ≡ filter (makes_both station_of routes order) (live_pairs (is_live station_of routes) station_of routes)

  -- what the orders before this one say
  abbrev pub said_before : ℕ → List Evidence
  said_before order = flat_map (said_by q.aim.base station_of most_steps) (one_to (order - 1))

  -- and this one of some pairs
  abbrev pub said_to : ℕ → List (Command × Command) → List Evidence
  said_to order pairs = said_before order ++ said_of q.aim.base station_of most_steps order pairs

  -- it begins, and its log has these cones and bounds and no other lines
  abbrev pub IsBeginning : SearchState → List Evidence → Type 0
  IsBeginning = HasBegun q.aim station_of most_steps q.budgets

  -- ---- the search

  -- the search goes on, and nothing is spent
  abbrev pub IsSearch : SearchState → Type 0
  IsSearch s =
      With (λ m. searching.IsSearch m station_of most_steps q.budgets s.solver.arena s.solver.recorder s.solver.learnt.items s.solver.vars s.solver.derives
      s.failed.items s.sum s.steps)

  -- it came to this plan
  abbrev pub IsAtPlan : SearchState → List (List Command) → Type 0
  IsAtPlan s plan =
      With (λ m. searching.IsAtPlan m station_of most_steps q.budgets s.solver.arena s.solver.recorder s.solver.learnt.items s.solver.vars s.solver.derives
      s.failed.items s.sum s.steps plan)

  -- the last line of its log shows by this clause that there is no plan, or none of so many steps
  abbrev pub IsDenied : SearchState → List Lit → Type 0
  IsDenied s clause =
      With (λ m. searching.IsDenied m station_of most_steps q.budgets s.solver.arena s.solver.recorder s.solver.learnt.items s.solver.vars s.solver.derives
      s.failed.items s.sum s.steps clause)

  -- where it may look for longer plans, no clause says that there is none of so many steps
  abbrev pub IsOpen : SearchState → Type 0
  IsOpen s = s.steps < most_steps → HasUnit s.solver.arena (opposite (given_by s.steps)) → ⊥

  -- it goes on from one to the other: more is spent, or longer plans are looked for
  abbrev pub GoesOn : SearchState → SearchState → Type 0
  GoesOn old new =
      IsSearch new × (old.solver.derives + old.sum + old.steps < new.solver.derives + new.sum + new.steps)

  -- a line tells how far it is
  abbrev pub TellsItself : List ℕ → Type 0
  TellsItself line = With (λ m. TellsProgress m station_of most_steps line)

  -- lines are put each of which does
  abbrev pub TellsHowFar : Option (List (List ℕ)) → Option (List (List ℕ)) → Type 0
  TellsHowFar = TellsLines TellsItself

  -- what its end says, which is no plan
  abbrev pub EndsWith : Outcome → Type 0
  EndsWith end = IsNoPlan end × With (λ m. IsEnd m station_of most_steps q.budgets end)

  -- it ends at a plan that meets the design, as its run shows, and which it may spend; or with an end that says so
  abbrev pub StopsAt : Stop → Type 0
  StopsAt (stop.Met s plan history tick) =
      IsAtPlan s plan.steps × IsFeasible station_of most_steps plan.steps
      × (Met history tick ≡ verdict_of station_of (routes_of station_of) plan.steps (horizon station_of))
      × (tick ≡ ticks_of plan.steps) × (s.sum + tick ≤ q.budgets.ticks)
  StopsAt (stop.Over end) = EndsWith end

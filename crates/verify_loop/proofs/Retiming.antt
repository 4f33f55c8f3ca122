-- A search at a plan that meets the design goes on with less time.
use Rattle.std.proofs.Common.{◌≡◌, ℕ, ◌+◌, ◌≤◌, List, [], ◌∷◌, ◌++◌, map, refl, sym, ap, subst, ◌∙◌, arith, append-nil}
use Rattle.std.proofs.lemmas.List.Sums.{sum_by-append}
use Rattle.base_spec.specs.Bases.{clauses_of, variables_of}
use Rattle.bound_spec.specs.declared.Evidence.{Evidence}
use Rattle.clause_spec.specs.declared.question.BaseKind.{BaseKind}
use Rattle.clause_spec.specs.declared.question.Question.{Question}
use Rattle.clause_spec.specs.declared.question.VariableCounts.{VariableCounts}
use Rattle.plan_exclusion.specs.Exclusions.{head_for}
use Rattle.proof_log.specs.declared.head.Head.{Head}
use Rattle.proof_log.specs.declared.head.Head.TheVariants.{Of}
use Rattle.log_recorder.specs.declared.text.Text.{Text}
use Rattle.log_recorder.specs.Logs.{IsRunLog, learnt_in, with_log}
use Rattle.proof_judge.specs.Judged.{all_live, refuted}
use Rattle.rail_base.specs.declared.plan.Command.{Command}
use Rattle.rail_base.specs.declared.plan.Plan.{Plan}
use Rattle.rail_base.specs.declared.station.Station.{Station}
use Rattle.rail_spec.specs.Requirements.{cost}
use Rattle.rail_spec.specs.Track.{routes_of}
use Rattle.sat_clause.specs.Clauses.{Store}
use Rattle.time_evidence.specs.Laws.{ShowsMore}
use Rattle.time_evidence.proofs.Logs.{run_logs_stay}
use Rattle.verify_loop.specs.declared.outcome.Budgets.{Budgets}
use Rattle.verify_loop.specs.Outcomes.{cost_of, evidence_in, plans_of}
use Rattle.verify_loop.specs.Searching.{AllBelow, IsAtPlan, IsSearch}
use Rattle.verify_loop.specs.declared.outcome.Wanted.TheVariants.{Any}

-- from one design to another of the same version, with the same clauses and variables, in which cones and bounds show no less
module _ (kind : BaseKind) (d e : Station) (n : ℕ) (version : d.version ≡ e.version) (clauses : clauses_of kind d (routes_of d) n ≡ clauses_of kind e (routes_of e) n)
    (variables : variables_of kind d (routes_of d) n ≡ variables_of kind e (routes_of e) n) (shows : ShowsMore (refuted kind d n) (refuted kind e n)) (known : List Evidence) (spent : ℕ) (b : Budgets) (store : Store) (recorder : Text) (ids : List ℕ) (solver_vars derives : ℕ) (failed : List Plan) (sum steps : ℕ) (plan : List (List Command))
    (a : IsAtPlan (record { base = kind; wanted = Any; known = known; spent = spent }) d n b store recorder ids solver_vars derives failed sum steps plan) where
  base_same : all_live (clauses_of kind d (routes_of d) n) ≡ all_live (clauses_of kind e (routes_of e) n)
  base_same = ap all_live clauses

  head_same : head_for kind d n ≡ head_for kind e n
  head_same = ap (λ (v : ℕ). let q : Question = record { version = v; steps = n; base = kind } in Of q) version

  -- the search goes on from the plan, with what shows that the others failed
  pub retimed : (none : List Plan) (tick : ℕ) → none ≡ [] → tick ≡ cost_of d n (plan ∷ []) → sum + tick ≤ b.ticks
      → IsSearch (record { base = kind; wanted = Any; known = known ++ evidence_in a.search.rs; spent = spent + cost_of d n (plans_of a.search.rs ++ plan ∷ []) }) e n b store recorder ids solver_vars derives none (sum + tick) steps
  retimed none tick is_none costs left = record {
    lines = a.search.lines;
    rs = [];
    clauses = a.search.clauses ∙ ap (λ (s : Store). with_log s a.search.lines) base_same;
    numbers = a.search.numbers ∙ ap (λ (s : Store). learnt_in s [] a.search.lines) base_same;
    log = record {
      run = subst (λ (s : Store). IsRunLog (head_for kind e n) (refuted kind e n) (variables_of kind e (routes_of e) n) s a.search.lines recorder.bytes.items) base_same
          (subst (λ (v : VariableCounts). IsRunLog (head_for kind e n) (refuted kind e n) v (all_live (clauses_of kind d (routes_of d) n)) a.search.lines recorder.bytes.items) variables
          (subst (λ (h : Head). IsRunLog h (refuted kind e n) (variables_of kind d (routes_of d) n) (all_live (clauses_of kind d (routes_of d) n)) a.search.lines recorder.bytes.items) head_same
          (run_logs_stay (head_for kind d n) (refuted kind d n) (refuted kind e n) shows (variables_of kind d (routes_of d) n) (all_live (clauses_of kind d (routes_of d) n)) a.search.lines recorder.bytes.items a.search.log.run)));
      of_failed_plans = record { evidence = a.search.log.of_failed_plans.evidence ∙ sym (append-nil (known ++ evidence_in a.search.rs)); refuted = tt };
    };
    limit = a.search.limit;
    same_vars = a.search.same_vars ∙ ap (λ (v : VariableCounts). v.count) variables;
    below_2_32 = subst (λ (v : VariableCounts). v.count ≤ 4294967295) variables a.search.below_2_32;
    below = subst (λ (s : Store). AllBelow (variables_of kind e (routes_of e) n) (with_log s a.search.lines)) base_same
        (subst (λ (v : VariableCounts). AllBelow v (with_log (all_live (clauses_of kind d (routes_of d) n)) a.search.lines)) variables a.search.below);
    derived = a.search.derived;
    learnt = a.search.learnt;
    plans = ap (map (λ (p : Plan). p.steps)) is_none;
    cost = (let so = a.search.cost in let both = sum_by-append (cost d (routes_of d)) (plans_of a.search.rs) (plan ∷ []) in omega arith);
    left = left;
    at_least_one = a.search.at_least_one;
    at_most_n = a.search.at_most_n;
    fewer = tt;
  }

-- A search that goes on is within its budgets, and so is a plan that it comes to.
use Rattle.std.proofs.Common.{ℕ, ◌+◌, ◌≤◌, List, [], ◌∷◌, subst, arith}
use Rattle.verify_loop.specs.Quests.{Quest}
use Rattle.std.proofs.lemmas.List.Sums.{sum_by-append}
use Rattle.rail_base.specs.declared.plan.Command.{Command}
use Rattle.rail_base.specs.declared.plan.Plan.{Plan}
use Rattle.rail_base.specs.declared.station.Station.{Station}
use Rattle.rail_spec.specs.Requirements.{cost}
use Rattle.rail_spec.specs.Track.{routes_of}
use Rattle.log_recorder.specs.declared.text.Text.{Text}
use Rattle.log_recorder.specs.Logs.{log_text}
use Rattle.sat_clause.specs.Clauses.{Store}
use Rattle.verify_loop.specs.declared.outcome.Budgets.{Budgets}
use Rattle.verify_loop.specs.Outcomes.{head, plans_of, IsLog, IsWithin, IsReached}
use Rattle.verify_loop.specs.Searching.{IsSearch, IsAtPlan}

module _ (m : Quest) (d : Station) (n : ℕ) (b : Budgets) (store : Store) (recorder : Text) (ids : List ℕ) (solver_vars derives : ℕ) (failed : List Plan) (sum steps : ℕ) where
  pub within_so : (s : IsSearch m d n b store recorder ids solver_vars derives failed sum steps) → IsWithin m d n b s.lines (plans_of s.rs)
  within_so s = record { derived = s.learnt; timed = (let so = s.cost in let left = s.left in omega arith) }

  -- its log, as the text of its lines
  pub log_told : (s : IsSearch m d n b store recorder ids solver_vars derives failed sum steps) → IsLog m d n s.lines s.rs (log_text (head m d n) s.lines)
  log_told s = subst (IsLog m d n s.lines s.rs) s.log.run.text s.log

  -- the plan at hand, where its run costs no more than is left
  pub reached_so : (plan : List (List Command)) → IsAtPlan m d n b store recorder ids solver_vars derives failed sum steps plan → cost d (routes_of d) plan + sum ≤ b.ticks → IsReached m d n b plan
  reached_so plan a cheap = record {
    lines = a.search.lines;
    rs = a.search.rs;
    log = log_told a.search;
    found = a.found;
    within = record {
      derived = a.search.learnt;
      timed = (let both = sum_by-append (cost d (routes_of d)) (plans_of a.search.rs) (plan ∷ []) in let so = a.search.cost in omega arith);
    };
  }

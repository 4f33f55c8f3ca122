use Rattle.std.proofs.Common.{◌+◌, ◌<◌, ◌++◌, ◌∷◌, [], true, length, ap, sym, ◌∙◌, arith, append-nil, subst, ℕ}
use Rattle.sat_trail.specs.Trails.{AllIn}
use Rattle.solve_clauses.proofs.Held.{live-there, clause-in_vars, take-next}
use Rattle.solve_clauses.proofs.solve.load_solver.Goals as goal

pub clause-requires : goal.clause-requires
clause-requires c =
    let count = c.count-done-end.ensures in
    let less : c.clauses.done < length c.args.clauses.now = omega (arith, c.clauses-test.true) in
    live-there c.args.vars c.args.clauses.now c.clauses.done c.requires.in_vars less

pub add_clause-requires-clause-in_vars : goal.add_clause-requires-clause-in_vars
add_clause-requires-clause-in_vars c =
    let all : AllIn c.args.vars c.clause.result.now = clause-in_vars c.args.vars c.args.clauses.now (c.clauses.done + 1) c.clause.result.now c.requires.in_vars c.clause.ensures in
    subst (λ (v : ℕ). AllIn v c.clause.result.now) (sym c.clauses.invariant.same_vars) all

pub clauses-preserved : goal.clauses-preserved
clauses-preserved c = record {
  clauses_are = c.in_ok-add_clause.ensures.clauses ∙ (ap (λ s. s ++ (c.clause.result.now, true) ∷ []) c.clauses.invariant.clauses_are ∙ take-next c.args.clauses.now c.clauses.done c.clause.result.now c.clause.ensures);
  no_lines = c.in_ok-add_clause.ensures.text ∙ (append-nil _ ∙ c.clauses.invariant.no_lines);
  same_vars = c.add_clause.ensures.vars ∙ c.clauses.invariant.same_vars;
  none_derived = c.add_clause.ensures.derives ∙ c.clauses.invariant.none_derived;
  none_learnt = c.add_clause.ensures.learnt ∙ c.clauses.invariant.none_learnt;
}

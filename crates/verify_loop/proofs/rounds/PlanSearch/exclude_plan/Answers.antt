use Rattle.std.proofs.Common.{ℕ, ◌+◌, ◌++◌, List, [], ◌∷◌, Vec, Global, sym, ap, subst, ◌∙◌, arith}
use Rattle.rail_base.specs.declared.plan.Plan.{Plan}
use Rattle.verify_loop.specs.Asking.{EndsWith, quest}
use Rattle.verify_loop.specs.Searching.{IsSearch}
use Rattle.verify_loop.proofs.Begun.{left_out_so}
use Rattle.verify_loop.proofs.Refuting.{full_so, added_so}
use Rattle.verify_loop.proofs.rounds.PlanSearch.exclude_plan.Goals as goal

pub returns-in-Err-clause-ends : goal.returns-in-Err-clause-ends
returns-in-Err-clause-ends c =
    let q = c.args.self.now in
    let r = c.requires.state in
    let d = q.interlocking.now.design.station in
    let n = q.numbering.now.steps in
    let one = c.args.search in
    let l = c.args.exclusion.now in
    left_out_so one l (EndsWith q) c.in-Err.outcome c.in-Err.ensures.left (λ log bytes next failed same e_bytes e_next past lost. (
      tt,
      (
        r.0,
        r.1,
        r.2,
        full_so (quest q r.0 r.1) d n q.budgets one.solver.arena one.solver.recorder one.solver.learnt.items one.solver.vars one.solver.derives one.failed.items one.sum one.steps c.args.plan r.3 l.line.items l.clause.items c.requires.excludes
            log.items bytes next same e_bytes e_next past failed.items lost,
      ),
    ))
    (tt, (r.0, r.1, r.2, tt))

pub returns-clause-goes_on : goal.returns-clause-goes_on
returns-clause-goes_on c =
    let q = c.args.self.now in
    let r = c.requires.state in
    let one = c.args.search.solver in
    let two = c.in-Ok.search.solver in
    let a = c.in-Ok.ensures.added in
    let more = c.requires.at_least_one in
    let m = quest q r.0 r.1 in
    let d = q.interlocking.now.design.station in
    let n = q.numbering.now.steps in
    let line = c.args.exclusion.now.line.items in
    let clause = c.args.exclusion.now.clause.items in
    let derives = a.derives in
    let sum = a.sum in
    let steps = a.steps in (
      (
        r.0,
        r.1,
        r.2,
        subst (λ (k : ℕ). IsSearch m d n q.budgets two.arena two.recorder two.learnt.items two.vars two.derives c.push.new.self.items (c.in-Ok.search.sum + c.args.tick) k) (sym a.steps)
            (added_so m d n q.budgets one.arena one.recorder one.learnt.items one.vars one.derives c.args.search.failed.items c.args.search.sum c.args.search.steps c.args.plan r.3 line clause c.requires.excludes
            two.arena two.recorder two.learnt.items two.vars two.derives c.push.new.self.items (c.in-Ok.search.sum + c.args.tick) c.args.tick
            a.clauses a.learnt a.text a.limit a.vars a.derives (c.in-Ok-push.ensures.items ∙ ap (λ (f : Vec Plan Global). f.items ++ (c.args.plan ∷ [])) a.failed) (ap (λ k. k + c.args.tick) a.sum) c.requires.tick c.requires.left),
      ),
      omega (arith, more, derives, sum, steps),
    )

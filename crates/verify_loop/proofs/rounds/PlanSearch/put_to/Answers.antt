use Rattle.std.proofs.Common.{◌≡◌, ◌+◌, List, [], ◌∷◌, ap, subst, ◌∙◌, arith}
use Rattle.sat_clause.specs.declared.lit.Lit.{Lit}
use Rattle.sat_core.specs.Runs.{Ends}
use Rattle.sat_trail.proofs.Members.{assigned-one}
use Rattle.verify_loop.specs.Asking.{quest}
use Rattle.verify_loop.specs.Outcomes.{vars}
use Rattle.verify_loop.specs.Searching.{state_in}
use Rattle.verify_loop.proofs.rounds.PlanSearch.put_to.Goals as goal

pub solve-requires-clause-assumed : goal.solve-requires-clause-assumed
solve-requires-clause-assumed c = λ l h.
    let d = c.args.self.now.interlocking.now.design.station in
    let n = c.args.self.now.numbering.now.steps in
    let m = quest c.args.self.now [] 0 in
    let at : l.var ≡ (vars m d n).before_selectors + c.args.steps = ap (λ (z : Lit). z.var) (assigned-one c.by_step.result l h ∙ c.by_step.ensures) in
    let same = c.requires.vars in
    let first = c.requires.at_least_one in
    let last = c.requires.within in
    (omega arith, omega arith)

pub returns-clause-run : goal.returns-clause-run
returns-clause-run c =
    let one = c.args.solver.now in
    let two = c.solve.new.self in
    subst (λ (assumed : List Lit). Ends (state_in one.arena one.recorder one.learnt.items one.derives) (state_in two.arena two.recorder two.learnt.items two.derives) assumed one.vars c.args.left c.solve.result) (ap (λ (z : Lit). z ∷ []) c.by_step.ensures) c.solve.ensures.run

use Rattle.std.proofs.Common.{◌≡◌, [], inl, inr, sym, ap, subst}
use Rattle.bound_spec.specs.declared.Evidence.{Evidence}
use Rattle.clause_spec.specs.declared.question.BaseKind.{BaseKind}
use Rattle.order_bounds.specs.Orders.{orders_first}
use Rattle.verify_loop.specs.Asking.{IsBeginning, IsSearch}
use Rattle.verify_loop.specs.Quests.{by_itself}
use Rattle.verify_loop.specs.declared.rounds.SearchState.{SearchState}
use Rattle.verify_loop.proofs.Begun.{ok_more}
use Rattle.verify_loop.proofs.Refuting.{begun_all}
use Rattle.verify_loop.proofs.rounds.PlanSearch.with_orders.Goals as goal

pub returns-in-Live-clause-begun : goal.returns-in-Live-clause-begun
returns-in-Live-clause-begun c =
    let q = c.args.self.now in
    let d = q.interlocking.now.design.station in
    let n = q.numbering.now.steps in
    ok_more c.with_all_orders.result (λ (s : SearchState). IsBeginning q s (orders_first q.aim.base d n)) (IsSearch q)
    (λ (s : SearchState) begun. (orders_first q.aim.base d n, 0, c.requires.first, begun_all (by_itself q.aim d n) d n q.budgets s.solver.arena s.solver.recorder s.solver.learnt.items s.solver.vars s.solver.derives s.failed.items s.sum s.steps begun)) c.with_all_orders.ensures.begun

pub returns-in-Plain : goal.returns-in-Plain
returns-in-Plain c =
    let q = c.args.self.now in
    let d = q.interlocking.now.design.station in
    let n = q.numbering.now.steps in
    let s = c.args.search in
    let none : [] ≡ orders_first q.aim.base d n = elim c.in-Plain.is [
      | inl plain ↦ sym (ap (λ (k : BaseKind). orders_first k d n) plain)
      | inr more ↦ elim more [
        | inl sorted ↦ sym (ap (λ (k : BaseKind). orders_first k d n) sorted)
        | inr normal ↦ sym (ap (λ (k : BaseKind). orders_first k d n) normal)
      ]
    ] in
    record { begun = (orders_first q.aim.base d n, 0, c.requires.first, begun_all (by_itself q.aim d n) d n q.budgets s.solver.arena s.solver.recorder s.solver.learnt.items s.solver.vars s.solver.derives s.failed.items s.sum s.steps (subst (IsBeginning q s) none c.requires.begun)); ends = tt }

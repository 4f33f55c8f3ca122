use Rattle.std.proofs.Common.{◌≡◌, ℕ, ◌≤◌, ◌<◌, ◌+◌, ◌-◌, true, List, [], ◌⊎◌, length, refl, sym, ap, ◌∙◌, subst, arith}
use Rattle.rail_base.proofs.Admitting.{admitted}
use Rattle.proof_log.specs.Words.{greatest_clause_number}
use Rattle.rail_spec.specs.Track.{routes_of}
use Rattle.log_recorder.specs.Logs.{by_step}
use Rattle.sat_trail.proofs.Members.{assigned-self}
use Rattle.sat_clause.specs.declared.lit.Lit.{Lit}
use Rattle.sat_core.specs.Lines.{derive_count}
use Rattle.sat_core.specs.Models.{value_in}
use Rattle.verify_loop.specs.Asking.{quest}
use Rattle.verify_loop.specs.Outcomes.{IsFull, vars}
use Rattle.verify_loop.specs.Searching.{state_in}
use Rattle.verify_loop.proofs.Answering.{base_holds, at_plan}
use Rattle.verify_loop.proofs.Heading.{kept_so}
use Rattle.verify_loop.proofs.Held.{some-same}
use Rattle.verify_loop.proofs.Known.{denials, denied_is_so, ended_runs, yes_is_so}
use Rattle.verify_loop.proofs.Refining.{still, lines, log_so, next_so, full_so, within_so, count_so, proof_so, infeasible_so, none_so, denied_so}
use Rattle.verify_loop.proofs.rounds.PlanSearch.solve_round.Goals as goal

pub time_plan-requires-clause-at : goal.time_plan-requires-clause-at
time_plan-requires-clause-at g c =
    let r = c.requires.state in
    let m = quest c.args.self.now r.0 r.1 in
    let d = c.args.self.now.interlocking.now.design.station in
    let n = c.args.self.now.numbering.now.steps in
    let b = c.args.self.now.budgets in
    let one = c.args.search.solver in
    let two = c.put_to.new.solver in
    let few : length two.arena ≤ greatest_clause_number = subst (λ k. k ≤ greatest_clause_number) two.counted_alike two.recorder.has_numbers in
    let run = c.in-Sat.ensures.run in
    let some = c.args.self.now.at_least_one in
    let is = c.args.self.now.numbers in
    let within : derive_count run.0 ≤ b.conflicts - one.derives = (let most = run.2 in let is = c.min-allowed.ensures in let spent = c.derives.ensures in omega arith) in
    let holds = base_holds m d n b some one.arena one.recorder one.learnt.items one.vars one.derives c.args.search.failed.items c.args.search.sum c.args.search.steps r.3 two.arena two.recorder two.learnt.items two.vars two.derives run.0 run.1 c.in-Sat.values run.3.clauses few in
    let told : value_in c.in-Sat.values ((vars m d n).before_selectors + c.args.search.steps) ≡ true = run.3.assumed (by_step (vars m d n) c.args.search.steps) (assigned-self (by_step (vars m d n) c.args.search.steps)) in (
      r.0,
      r.1,
      r.2,
      at_plan m d n b some one.arena one.recorder one.learnt.items one.vars one.derives c.args.search.failed.items c.args.search.sum c.args.search.steps r.3 two.arena two.recorder two.learnt.items two.vars two.derives run.0 run.1 c.in-Sat.values run.3.clauses few
          within c.put_to.ensures.vars c.in-Ok.plan.steps (c.in-Ok.ensures.value m.base d (routes_of d) n is)
          (c.in-Ok.ensures.runnable m.base d (routes_of d) n is some holds)
          (c.in-Ok.ensures.ends m.base d (routes_of d) n is holds c.args.search.steps r.3.at_least_one r.3.at_most_n told),
    )

pub time_plan-requires-clause-are_values : goal.time_plan-requires-clause-are_values
time_plan-requires-clause-are_values g c =
    let r = c.requires.state in
    let m = quest c.args.self.now r.0 r.1 in
    let d = c.args.self.now.interlocking.now.design.station in
    let n = c.args.self.now.numbering.now.steps in
    let b = c.args.self.now.budgets in
    let one = c.args.search.solver in
    let two = c.put_to.new.solver in
    let few : length two.arena ≤ greatest_clause_number = subst (λ k. k ≤ greatest_clause_number) two.counted_alike two.recorder.has_numbers in
    let run = c.in-Sat.ensures.run in
    let some = c.args.self.now.at_least_one in
    record {
      holds = base_holds m d n b some one.arena one.recorder one.learnt.items one.vars one.derives c.args.search.failed.items c.args.search.sum c.args.search.steps r.3 two.arena two.recorder two.learnt.items two.vars two.derives run.0 run.1 c.in-Sat.values run.3.clauses few;
      decoded = c.in-Ok.ensures.value m.base d (routes_of d) n c.args.self.now.numbers;
    }

pub after_denial-requires : goal.after_denial-requires
after_denial-requires g c =
    let r = c.requires.state in
    let m = quest c.args.self.now r.0 r.1 in
    let d = c.args.self.now.interlocking.now.design.station in
    let n = c.args.self.now.numbering.now.steps in
    let b = c.args.self.now.budgets in
    let one = c.args.search.solver in
    let two = c.put_to.new.solver in
    let few : length two.arena ≤ greatest_clause_number = subst (λ k. k ≤ greatest_clause_number) two.counted_alike two.recorder.has_numbers in
    let run = c.in-Unsat.ensures.run in
    let some = c.args.self.now.at_least_one in
    let core = c.in-Unsat.core.clause.items in
    let new = state_in two.arena two.recorder two.learnt.items two.derives in
    let good = admitted d c.args.self.now.interlocking.now.design.admitted in
    let room : two.recorder.limit ≡ b.log_bytes = some-same two.recorder.limit one.recorder.limit (run.6.limit ∙ run.3.limit) ∙ r.3.limit in
    let within = two.recorder.within in
    let fits = c.args.self.now.fits in
    let kept = kept_so m d n good c.args.self.now.at_most_256 c.args.self.now.named in
    let named = c.args.self.now.named in
    let less : derive_count run.0 < b.conflicts - one.derives = (let most = run.4 in let is = c.min-allowed.ensures in let spent = c.derives.ensures in omega arith) in (
      r.0,
      r.1,
      r.2,
      record {
        at_most_n = r.3.at_most_n;
        of_all = λ told. let which = subst (λ (z : List Lit). (z ≡ []) ⊎ (c.args.search.steps ≡ n)) c.as_slice.ensures.value told in (
          infeasible_so m d n b some one.arena one.recorder one.learnt.items one.vars one.derives c.args.search.failed.items c.args.search.sum c.args.search.steps r.3 run.1 new run.0 core run.2 run.3 run.5 run.6 few which kept named fits good ended_runs yes_is_so,
          proof_so m d n b some one.arena one.recorder one.learnt.items one.vars one.derives c.args.search.failed.items c.args.search.sum c.args.search.steps r.3 run.1 new run.0 core run.2 run.3 run.5 run.6 few which kept named fits less ended_runs,
          omega (arith, room, within),
        );
        of_these = λ some_there fewer. let not_empty : core ≡ [] → ⊥ = λ e. some_there (c.as_slice.ensures.value ∙ e) in (
          none_so m d n b some one.arena one.recorder one.learnt.items one.vars one.derives c.args.search.failed.items c.args.search.sum c.args.search.steps r.3 run.1 new run.0 core run.2 run.3 run.5 run.6 few not_empty fewer (c.requires.unsaid fewer) good denials (denied_is_so m),
          denied_so m d n b some one.arena one.recorder one.learnt.items one.vars one.derives c.args.search.failed.items c.args.search.sum c.args.search.steps r.3 run.1 new run.0 core run.2 run.3 run.5 run.6 few not_empty fewer (c.requires.unsaid fewer) two.arena two.recorder two.learnt.items two.vars two.derives refl less c.put_to.ensures.vars,
        );
      },
    )

pub returns-in-Spent-clause-stops : goal.returns-in-Spent-clause-stops
returns-in-Spent-clause-stops g c =
    let r = c.requires.state in
    let m = quest c.args.self.now r.0 r.1 in
    let d = c.args.self.now.interlocking.now.design.station in
    let n = c.args.self.now.numbering.now.steps in
    let b = c.args.self.now.budgets in
    let one = c.args.search.solver in
    let two = c.put_to.new.solver in
    let few : length two.arena ≤ greatest_clause_number = subst (λ k. k ≤ greatest_clause_number) two.counted_alike two.recorder.has_numbers in
    let run = c.in-Spent.ensures.run in
    let some = c.args.self.now.at_least_one in
    let new = state_in two.arena two.recorder two.learnt.items two.derives in
    let text : c.log_of.result.items ≡ new.text = ap (λ v. v.items) c.log_of.ensures in
    let all : derive_count run.0 ≡ b.conflicts - one.derives = (let most = run.2 in let is = c.min-allowed.ensures in let spent = c.derives.ensures in let no = c.if-allowed-left.false in omega arith) in (
      tt,
      (
        r.0,
        r.1,
        r.2,
        (
          lines m d n b some one.arena one.recorder one.learnt.items one.vars one.derives c.args.search.failed.items c.args.search.sum c.args.search.steps r.3 new run.0 run.1,
          r.3.rs,
          rw text (log_so m d n b some one.arena one.recorder one.learnt.items one.vars one.derives c.args.search.failed.items c.args.search.sum c.args.search.steps r.3 new run.0 run.1 few),
          within_so m d n b some one.arena one.recorder one.learnt.items one.vars one.derives c.args.search.failed.items c.args.search.sum c.args.search.steps r.3 new run.0 run.1 few (omega (arith, all)),
          count_so m d n b some one.arena one.recorder one.learnt.items one.vars one.derives c.args.search.failed.items c.args.search.sum c.args.search.steps r.3 new run.0 run.1 few all,
          next_so m d n b some one.arena one.recorder one.learnt.items one.vars one.derives c.args.search.failed.items c.args.search.sum c.args.search.steps r.3 new run.0 run.1 few c.requires.unsaid c.in-Spent.clause.items c.in-Spent.hints.items run.3,
          r.3.plans,
        ),
      ),
    )

pub returns-in-Full-clause-stops : goal.returns-in-Full-clause-stops
returns-in-Full-clause-stops g c =
    let r = c.requires.state in
    let m = quest c.args.self.now r.0 r.1 in
    let d = c.args.self.now.interlocking.now.design.station in
    let n = c.args.self.now.numbering.now.steps in
    let b = c.args.self.now.budgets in
    let one = c.args.search.solver in
    let two = c.put_to.new.solver in
    let few : length two.arena ≤ greatest_clause_number = subst (λ k. k ≤ greatest_clause_number) two.counted_alike two.recorder.has_numbers in
    let run = c.in-Full.ensures.run in
    let new = state_in two.arena two.recorder two.learnt.items two.derives in
    let text : c.log_of-in-Full.result.items ≡ new.text = ap (λ v. v.items) c.log_of-in-Full.ensures in
    let fewer : derive_count run.0 ≤ b.conflicts - one.derives = (let most = run.4 in let is = c.min-allowed.ensures in let spent = c.derives.ensures in omega arith) in
    let full : IsFull m d n b new.text c.in-Full.bytes c.in-Full.next c.args.search.failed.items =
    full_so m d n b c.args.self.now.at_least_one one.arena one.recorder one.learnt.items one.vars one.derives c.args.search.failed.items c.args.search.sum c.args.search.steps r.3 new run.0 run.3 few c.requires.unsaid run.1 run.2 c.in-Full.bytes c.in-Full.next fewer run.5 run.6 run.7 run.8 in
    (tt, (r.0, r.1, r.2, subst (λ (t : List ℕ). IsFull m d n b t c.in-Full.bytes c.in-Full.next c.args.search.failed.items) (sym text) full))

pub tell-requires : goal.tell-requires
tell-requires g c =
    let r = c.requires.state in
    let m = quest c.args.self.now r.0 r.1 in
    let d = c.args.self.now.interlocking.now.design.station in
    let n = c.args.self.now.numbering.now.steps in
    let b = c.args.self.now.budgets in
    let one = c.args.search.solver in
    let two = c.put_to.new.solver in
    let few : length two.arena ≤ greatest_clause_number = subst (λ k. k ≤ greatest_clause_number) two.counted_alike two.recorder.has_numbers in
    let run = c.in-Sat.ensures.run in
    let some = c.args.self.now.at_least_one in
    let within : derive_count run.0 ≤ b.conflicts - one.derives = (let most = run.2 in let is = c.min-allowed.ensures in let spent = c.derives.ensures in omega arith) in
    (r.0, r.1, r.2, still m d n b some one.arena one.recorder one.learnt.items one.vars one.derives c.args.search.failed.items c.args.search.sum c.args.search.steps r.3 two.arena two.recorder two.learnt.items two.vars two.derives run.0 run.1 within c.put_to.ensures.vars few)

pub tell-requires-in-Spent : goal.tell-requires-in-Spent
tell-requires-in-Spent g c =
    let r = c.requires.state in
    let m = quest c.args.self.now r.0 r.1 in
    let d = c.args.self.now.interlocking.now.design.station in
    let n = c.args.self.now.numbering.now.steps in
    let b = c.args.self.now.budgets in
    let one = c.args.search.solver in
    let two = c.put_to.new.solver in
    let few : length two.arena ≤ greatest_clause_number = subst (λ k. k ≤ greatest_clause_number) two.counted_alike two.recorder.has_numbers in
    let run = c.in-Spent.ensures.run in
    let some = c.args.self.now.at_least_one in
    let within : derive_count run.0 ≤ b.conflicts - one.derives = (let most = run.2 in let is = c.min-allowed.ensures in let spent = c.derives.ensures in omega arith) in
    (r.0, r.1, r.2, still m d n b some one.arena one.recorder one.learnt.items one.vars one.derives c.args.search.failed.items c.args.search.sum c.args.search.steps r.3 two.arena two.recorder two.learnt.items two.vars two.derives run.0 run.1 within c.put_to.ensures.vars few)

pub tell-requires-in-Full : goal.tell-requires-in-Full
tell-requires-in-Full g c =
    let r = c.requires.state in
    let m = quest c.args.self.now r.0 r.1 in
    let d = c.args.self.now.interlocking.now.design.station in
    let n = c.args.self.now.numbering.now.steps in
    let b = c.args.self.now.budgets in
    let one = c.args.search.solver in
    let two = c.put_to.new.solver in
    let few : length two.arena ≤ greatest_clause_number = subst (λ k. k ≤ greatest_clause_number) two.counted_alike two.recorder.has_numbers in
    let run = c.in-Full.ensures.run in
    let some = c.args.self.now.at_least_one in
    let within : derive_count run.0 ≤ b.conflicts - one.derives = (let most = run.4 in let is = c.min-allowed.ensures in let spent = c.derives.ensures in omega arith) in
    (r.0, r.1, r.2, still m d n b some one.arena one.recorder one.learnt.items one.vars one.derives c.args.search.failed.items c.args.search.sum c.args.search.steps r.3 two.arena two.recorder two.learnt.items two.vars two.derives run.0 run.3 within c.put_to.ensures.vars few)

pub returns-then-allowed-left-clause-goes_on : goal.returns-then-allowed-left-clause-goes_on
returns-then-allowed-left-clause-goes_on g c =
    let r = c.requires.state in
    let m = quest c.args.self.now r.0 r.1 in
    let d = c.args.self.now.interlocking.now.design.station in
    let n = c.args.self.now.numbering.now.steps in
    let b = c.args.self.now.budgets in
    let one = c.args.search.solver in
    let two = c.put_to.new.solver in
    let few : length two.arena ≤ greatest_clause_number = subst (λ k. k ≤ greatest_clause_number) two.counted_alike two.recorder.has_numbers in
    let run = c.in-Spent.ensures.run in
    let some = c.args.self.now.at_least_one in
    let within : derive_count run.0 ≤ b.conflicts - one.derives = (let most = run.2 in let is = c.min-allowed.ensures in let spent = c.derives.ensures in omega arith) in
    let grown = run.1.derives in
    let many = run.2 in
    let is = c.min-allowed.ensures in
    let fewer = c.if-allowed-left.true in (
      (r.0, r.1, r.2, still m d n b some one.arena one.recorder one.learnt.items one.vars one.derives c.args.search.failed.items c.args.search.sum c.args.search.steps r.3 two.arena two.recorder two.learnt.items two.vars two.derives run.0 run.1 within c.put_to.ensures.vars few),
      omega arith,
    )

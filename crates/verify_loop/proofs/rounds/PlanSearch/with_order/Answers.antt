use Rattle.std.proofs.Common.{◌≡◌, ℕ, ◌+◌, List, ◌++◌, sym, ap, subst, ◌∙◌, arith, append-nil}
use Rattle.std.proofs.lemmas.List.{take_all}
use Rattle.bound_spec.specs.declared.Evidence.{Evidence}
use Rattle.clause_spec.specs.declared.question.BaseKind.{BaseKind}
use Rattle.live_clause_spec.specs.Variables.{live_pairs}
use Rattle.order_bounds.specs.Orders.{said_of}
use Rattle.plan_encoding.specs.Bases.{speaks_of}
use Rattle.rail_base.specs.declared.plan.Command.{Command}
use Rattle.rail_spec.specs.Track.{routes_of}
use Rattle.verify_loop.specs.Asking.{IsBeginning, IsPairList, said_before, said_to}
use Rattle.verify_loop.proofs.Begun.{listed_so}
use Rattle.verify_loop.proofs.Ordering.{said_next, said_whole}
use Rattle.verify_loop.proofs.rounds.PlanSearch.with_order.Goals as goal

pub loop-place-init : goal.loop-place-init
loop-place-init c =
    let q = c.args.self.now in
    subst (IsBeginning q c.args.search) (sym (append-nil (said_before q c.args.order))) c.requires.begun

pub with_pair-requires-clause-pairs : goal.with_pair-requires-clause-pairs
with_pair-requires-clause-pairs c =
    let q = c.args.self.now in
    let d = q.interlocking.now.design.station in
    let b = c.by_design.result in
    listed_so b.contention.interlocking.now q.interlocking.now c.args.order c.as_slice-pairs.result.now b.contention.pairs.now.pairs c.by_design.ensures.interlocking (c.as_slice-pairs.ensures.value ∙ c.in-Ok.ensures)
    (c.by_design.ensures.pairs ∙ (q.numbers.pairs ∙ ap (λ (k : BaseKind). live_pairs (speaks_of k d (routes_of d)) d (routes_of d)) c.requires.live.1))

pub returns-clause-begun : goal.returns-clause-begun
returns-clause-begun c =
    let q = c.args.self.now in
    let d = q.interlocking.now.design.station in
    let n = q.numbering.now.steps in
    let o = c.args.order in
    let b = c.by_design.result in
    let ps = c.as_slice-pairs.result.now in
    let listed : IsPairList q o ps =
    listed_so b.contention.interlocking.now q.interlocking.now o ps b.contention.pairs.now.pairs c.by_design.ensures.interlocking (c.as_slice-pairs.ensures.value ∙ c.in-Ok.ensures)
    (c.by_design.ensures.pairs ∙ (q.numbers.pairs ∙ ap (λ (k : BaseKind). live_pairs (speaks_of k d (routes_of d)) d (routes_of d)) c.requires.live.1)) in
    let done = c.loop-place-test.false in
    let whole =
    ap (λ (zs : List (Command × Command)). said_before q o ++ said_of q.aim.base d n o zs) (take_all c.loop-place.place ps (omega (arith, done)))
    ∙ (ap (λ (zs : List Evidence). said_before q o ++ zs) (said_whole q.aim.base d n o ps listed) ∙ sym (said_next q.aim.base d n o c.requires.at_least_one)) in
    subst (IsBeginning q c.loop-place.search) whole c.loop-place.invariant

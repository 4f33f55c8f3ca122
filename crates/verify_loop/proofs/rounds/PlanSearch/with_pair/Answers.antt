use Rattle.std.proofs.Common.{◌≡◌, ℕ, ◌+◌, false, List, [], ◌∷◌, ◌++◌, filter, take, slice_index_or, Vec, Global, sym, ap, subst, ◌∙◌, append_assoc}
use Rattle.bound_spec.specs.declared.Evidence.{Evidence}
use Rattle.bound_spec.specs.declared.Evidence.TheVariants as evidence
use Rattle.clause_spec.specs.declared.question.BaseKind.{BaseKind}
use Rattle.live_clause_spec.specs.Live.{is_live}
use Rattle.live_clause_spec.specs.Variables.{live_pairs}
use Rattle.order_bounds.specs.Asked.{IsLineOfOrder, says_first_of}
use Rattle.order_bounds.specs.Orders.{bound_by, makes_both, orders_first, said_of}
use Rattle.order_bounds.proofs.Paired.{in_at}
use Rattle.plan_encoding.specs.Bases.{speaks_of}
use Rattle.proof_judge.specs.Written.{IsEvidenceLine}
use Rattle.rail_base.specs.declared.plan.Command.{Command}
use Rattle.rail_base.specs.declared.plan.Plan.{Plan}
use Rattle.rail_base.specs.Members.{In}
use Rattle.rail_base.proofs.Lists.{in_filter_back}
use Rattle.rail_spec.specs.Track.{routes_of}
use Rattle.verify_loop.specs.Asking.{EndsWith, IsAdded, IsBeginning, IsLeftOut, said_before, said_to}
use Rattle.verify_loop.specs.Quests.{by_itself}
use Rattle.verify_loop.specs.declared.outcome.Outcome.{Outcome}
use Rattle.verify_loop.specs.declared.rounds.SearchState.{SearchState}
use Rattle.verify_loop.proofs.Begun.{err_more, left_out_so, line_is, none_told, ok_more, same_at, says_is, some_told}
use Rattle.verify_loop.proofs.Ordering.{all_split, behind, live_first, said_with, said_without}
use Rattle.verify_loop.proofs.Refuting.{begun_full, begun_more}
use Rattle.verify_loop.proofs.rounds.PlanSearch.with_pair.Goals as goal

abbrev nothing : Command × Command
nothing = (record { train = record { 0 = 0 }; route = record { 0 = 0 } }, record { train = record { 0 = 0 }; route = record { 0 = 0 } })

pub line_of_order-requires-clause-contend : goal.line_of_order-requires-clause-contend
line_of_order-requires-clause-contend c =
    let q = c.args.self.now in
    let d = q.interlocking.now.design.station in
    let pairs = live_pairs (is_live d (routes_of d)) d (routes_of d) in
    let p : Command × Command = slice_index_or c.args.pairs.now c.args.place nothing in
    let there = in_at c.args.pairs.now c.args.place nothing c.requires.place in
    let of_base = (in_filter_back (makes_both d (routes_of d) c.args.order) pairs p (subst (λ (ps : List (Command × Command)). In p ps) c.requires.pairs there)).0 in
    subst (λ (ps : List (Command × Command)). In p ps) (sym (c.by_design.ensures.pairs ∙ (q.numbers.pairs ∙ ap (λ (k : BaseKind). live_pairs (speaks_of k d (routes_of d)) d (routes_of d)) c.requires.live.1))) of_base

pub returns-in-Ok-Some-clause-begun : goal.returns-in-Ok-Some-clause-begun
returns-in-Ok-Some-clause-begun c =
    let q = c.args.self.now in
    let m = q.aim in
    let i = q.interlocking.now in
    let d = i.design.station in
    let n = q.numbering.now.steps in
    let o = c.args.order in
    let k = c.args.place in
    let ps = c.args.pairs.now in
    let p : Command × Command = slice_index_or ps k nothing in
    let b = c.by_design.result in
    let e : Evidence = evidence.Bound (bound_by o p) in
    let l = c.in-Ok-Some.line in
    let told : IsLineOfOrder b o p l = some_told c.in-Ok-Some.field-0 l (says_first_of b o p ≡ false) (IsLineOfOrder b o p) c.in-Ok-Some.field-0-is c.in-Ok-Some.ensures in
    let said = sym (says_is b m.base i n c.by_design.ensures.kind c.by_design.ensures.interlocking c.by_design.ensures.steps o p) ∙ told.0 in
    let w : IsEvidenceLine m.base d n e l.line.items l.clause.items = line_is b m.base i n c.by_design.ensures.kind c.by_design.ensures.interlocking c.by_design.ensures.steps e l.line.items l.clause.items told.1 in
    let one = c.args.search in
    let grown : said_to q o (take k ps) ++ (e ∷ []) ≡ said_to q o (take (k + 1) ps) =
    append_assoc (said_before q o) (said_of m.base d n o (take k ps)) (e ∷ []) ∙ ap (λ (es : List Evidence). said_before q o ++ es) (sym (said_with m.base d n o ps k p c.requires.place (same_at ps k nothing p c.requires.place) said)) in
    ok_more c.add_line.result (IsAdded one l) (λ (s : SearchState). IsBeginning q s (said_to q o (take (k + 1) ps))) (λ (s : SearchState) a. subst (IsBeginning q s) grown
    (begun_more (by_itself m d n) d n q.budgets one.solver.arena one.solver.recorder one.solver.learnt.items one.solver.vars one.solver.derives one.failed.items one.sum one.steps (said_to q o (take k ps)) c.requires.begun e l.line.items l.clause.items w
    s.solver.arena s.solver.recorder s.solver.learnt.items s.solver.vars s.solver.derives s.failed.items s.sum s.steps
    a.clauses a.learnt a.text a.limit a.vars a.derives (ap (λ (f : Vec Plan Global). f.items) a.failed) a.sum a.steps)) c.add_line.ensures.added

pub returns-in-Ok-Some-clause-ends : goal.returns-in-Ok-Some-clause-ends
returns-in-Ok-Some-clause-ends c =
    let q = c.args.self.now in
    let m = q.aim in
    let i = q.interlocking.now in
    let d = i.design.station in
    let n = q.numbering.now.steps in
    let o = c.args.order in
    let k = c.args.place in
    let ps = c.args.pairs.now in
    let p : Command × Command = slice_index_or ps k nothing in
    let b = c.by_design.result in
    let e : Evidence = evidence.Bound (bound_by o p) in
    let l = c.in-Ok-Some.line in
    let told : IsLineOfOrder b o p l = some_told c.in-Ok-Some.field-0 l (says_first_of b o p ≡ false) (IsLineOfOrder b o p) c.in-Ok-Some.field-0-is c.in-Ok-Some.ensures in
    let said = sym (says_is b m.base i n c.by_design.ensures.kind c.by_design.ensures.interlocking c.by_design.ensures.steps o p) ∙ told.0 in
    let w : IsEvidenceLine m.base d n e l.line.items l.clause.items = line_is b m.base i n c.by_design.ensures.kind c.by_design.ensures.interlocking c.by_design.ensures.steps e l.line.items l.clause.items told.1 in
    let one = c.args.search in
    let first : orders_first m.base d n ≡ said_to q o (take k ps) ++ (e ∷ behind m.base d n o c.requires.at_least_one c.requires.within ps c.requires.pairs k p c.requires.place (same_at ps k nothing p c.requires.place)) =
    live_first m.base c.requires.live.0 d n c.requires.live.1 ∙ all_split m.base d n o c.requires.at_least_one c.requires.within ps c.requires.pairs k p c.requires.place (same_at ps k nothing p c.requires.place) said in
    err_more c.add_line.result (IsLeftOut one l) (EndsWith q) (λ (x : Outcome) h. left_out_so one l (EndsWith q) x h
    (λ log bytes next failed same e_bytes e_next past lost. (
      tt,
      (
        orders_first m.base d n,
        0,
        c.requires.first,
        begun_full (by_itself m d n) d n q.budgets one.solver.arena one.solver.recorder one.solver.learnt.items one.solver.vars one.solver.derives one.failed.items one.sum one.steps (said_to q o (take k ps)) c.requires.begun e l.line.items l.clause.items w
            (behind m.base d n o c.requires.at_least_one c.requires.within ps c.requires.pairs k p c.requires.place (same_at ps k nothing p c.requires.place)) first log.items bytes next same e_bytes e_next past failed.items lost,
      ),
    ))
    (tt, (orders_first m.base d n, 0, c.requires.first, tt))) c.add_line.ensures.left

pub returns-in-Ok-None-clause-begun : goal.returns-in-Ok-None-clause-begun
returns-in-Ok-None-clause-begun c =
    let q = c.args.self.now in
    let i = q.interlocking.now in
    let d = i.design.station in
    let n = q.numbering.now.steps in
    let o = c.args.order in
    let k = c.args.place in
    let ps = c.args.pairs.now in
    let p : Command × Command = slice_index_or ps k nothing in
    let b = c.by_design.result in
    let said = sym (says_is b q.aim.base i n c.by_design.ensures.kind c.by_design.ensures.interlocking c.by_design.ensures.steps o p) ∙ none_told c.in-Ok-None.field-0 (says_first_of b o p ≡ false) (IsLineOfOrder b o p) c.in-Ok-None.field-0-is c.in-Ok-None.ensures in
    subst (IsBeginning q c.args.search) (ap (λ (es : List Evidence). said_before q o ++ es) (sym (said_without q.aim.base d n o ps k p c.requires.place (same_at ps k nothing p c.requires.place) said))) c.requires.begun

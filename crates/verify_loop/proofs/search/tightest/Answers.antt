use Rattle.std.proofs.Common.{◌≡◌, ℕ, true, List, Some, None, sym, ap, subst, ◌∙◌}
use Rattle.base_spec.specs.Bases.{clauses_of}
use Rattle.clause_spec.specs.Clauses.{past_limit}
use Rattle.clause_spec.specs.declared.question.BaseKind.{BaseKind}
use Rattle.plan_encoding.specs.Bases.{IsRefused}
use Rattle.proof_judge.specs.Judged.{names_within}
use Rattle.rail_base.specs.declared.route.Route.{Route}
use Rattle.rail_base.specs.declared.station.Station.{Station}
use Rattle.rail_spec.specs.Track.{routes_of}
use Rattle.verify_loop.specs.Lessening.{IsTimeless, untimed}
use Rattle.verify_loop.specs.Tightening.{IsTightest, TellsTightest, base_for}
use Rattle.verify_loop.proofs.Starting.{clauses_first, first_in_time, named_so, there_first, tight_fits, timeless_so, untimed_same}
use Rattle.verify_loop.proofs.search.tightest.Goals as goal

pub search_time-requires-clause-in_time : goal.search_time-requires-clause-in_time
search_time-requires-clause-in_time g c = first_in_time c.args.interlocking.design.station c.in-Ok.interlocking.design.station c.args.within c.horizon-ticks.result c.requires.from_1 c.requires.there c.horizon-ticks.ensures.value c.in-Ok.ensures

pub search_time-requires-clause-timeless : goal.search_time-requires-clause-timeless
search_time-requires-clause-timeless g c = subst (λ (kind : BaseKind). IsTimeless kind c.args.within) (sym c.base_for-kind.ensures) (timeless_so c.args.bounds c.args.within)

pub search_time-requires-clause-named : goal.search_time-requires-clause-named
search_time-requires-clause-named g c =
    let e = c.in-Ok.interlocking.design.station in
    let there = there_first c.args.interlocking.design.station e c.args.within c.horizon-ticks.result c.requires.from_1 c.requires.there c.horizon-ticks.ensures.value c.in-Ok.ensures in
    subst (λ (kind : BaseKind). names_within kind e ≡ true) (sym c.base_for-kind.ensures) (named_so c.args.bounds c.args.within e c.requires.from_1 there)

pub returns-in-Ok-base_of-clause-says : goal.returns-in-Ok-base_of-clause-says
returns-in-Ok-base_of-clause-says g c =
    let d = c.args.interlocking.design.station in
    let e = c.in-Ok.interlocking.design.station in
    let w = c.args.within in
    let b = c.args.budgets in
    let o = c.search_time.result in
    let same = untimed_same d e w c.horizon-ticks.result c.requires.from_1 c.requires.there c.horizon-ticks.ensures.value c.in-Ok.ensures in
    subst (λ (n : ℕ). IsTightest (base_for c.args.bounds w) (untimed d w) w n b o) c.in-Ok-base_of.ensures.base.numbering.steps
    (subst (λ (s : Station). IsTightest (base_for c.args.bounds w) s w c.in-Ok-base_of.base.numbering.steps b o) same
    (subst (λ (kind : BaseKind). IsTightest kind (untimed e w) w c.in-Ok-base_of.base.numbering.steps b o) c.base_for-kind.ensures c.search_time.ensures.says))

pub returns-in-Ok-base_of-clause-tells : goal.returns-in-Ok-base_of-clause-tells
returns-in-Ok-base_of-clause-tells g c =
    let d = c.args.interlocking.design.station in
    let e = c.in-Ok.interlocking.design.station in
    let w = c.args.within in
    let old = g.P.Sink.puts c.args.progress.now in
    let new = g.P.Sink.puts c.search_time.new.progress in
    let same = untimed_same d e w c.horizon-ticks.result c.requires.from_1 c.requires.there c.horizon-ticks.ensures.value c.in-Ok.ensures in
    subst (λ (n : ℕ). TellsTightest (base_for c.args.bounds w) (untimed d w) w n old new) c.in-Ok-base_of.ensures.base.numbering.steps
    (subst (λ (s : Station). TellsTightest (base_for c.args.bounds w) s w c.in-Ok-base_of.base.numbering.steps old new) same
    (subst (λ (kind : BaseKind). TellsTightest kind (untimed e w) w c.in-Ok-base_of.base.numbering.steps old new) c.base_for-kind.ensures c.search_time.ensures.tells))

pub returns-in-Ok-base_of-clause-fits : goal.returns-in-Ok-base_of-clause-fits
returns-in-Ok-base_of-clause-fits g c =
    let d = c.args.interlocking.design.station in
    let e = c.in-Ok.interlocking.design.station in
    let w = c.args.within in
    let n = c.args.steps.count in
    tight_fits (base_for c.args.bounds w) (untimed d w) w n c.search_time.result
    (sym (ap (past_limit 16000000 0) (clauses_first d e w c.horizon-ticks.result c.requires.from_1 c.requires.there c.horizon-ticks.ensures.value c.in-Ok.ensures (base_for c.args.bounds w) n (timeless_so c.args.bounds w)))
    ∙ (ap (λ (kind : BaseKind). past_limit 16000000 0 (clauses_of kind e (routes_of e) n)) (sym c.base_for-kind.ensures)
    ∙ subst (λ (rs : List Route). past_limit 16000000 0 (clauses_of c.base_for-kind.result e rs n) ≡ None) c.in-Ok.interlocking.table c.in-Ok-base_of.ensures.base.few))

pub returns-in-Err-TooLarge-clause-says : goal.returns-in-Err-TooLarge-clause-says
returns-in-Err-TooLarge-clause-says g c =
    let d = c.args.interlocking.design.station in
    let e = c.in-Ok.interlocking.design.station in
    let w = c.args.within in
    let n = c.args.steps.count in
    sym (ap (past_limit 16000000 0) (clauses_first d e w c.horizon-ticks.result c.requires.from_1 c.requires.there c.horizon-ticks.ensures.value c.in-Ok.ensures (base_for c.args.bounds w) n (timeless_so c.args.bounds w)))
    ∙ (ap (λ (kind : BaseKind). past_limit 16000000 0 (clauses_of kind e (routes_of e) n)) (sym c.base_for-kind.ensures)
    ∙ (ap (λ (rs : List Route). past_limit 16000000 0 (clauses_of c.base_for-kind.result e rs n)) (sym c.in-Ok.interlocking.table) ∙ (subst (IsRefused c.base_for-kind.result e c.in-Ok.interlocking.routes n) c.in-Err-TooLarge.field-0-is c.in-Err-TooLarge.ensures.fault ∙ sym (ap (λ (k : ℕ). Some k) c.in-Err-TooLarge.literals-is))))

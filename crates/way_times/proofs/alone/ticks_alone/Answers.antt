use Rattle.std.proofs.Common.{◌≡◌, ℕ, List, sym, ap, ap₂, subst, ◌∙◌}
use Rattle.rail_base.specs.declared.history.TrainHistory.{TrainHistory}
use Rattle.rail_base.specs.Stations.{horizon}
use Rattle.rail_spec.specs.Feasible.{IsWellFormed}
use Rattle.rail_spec.specs.Histories.{history_at}
use Rattle.rail_require.specs.Ticks.{visit_tick}
use Rattle.rail_require.proofs.Telling.{visit_told}
use Rattle.way_times.specs.Times.{plan_alone, tick_alone, ticks_between}
use Rattle.way_times.proofs.Formed.{formed_alone}
use Rattle.way_times.proofs.alone.ticks_alone.Goals as goal

pub history-requires-clause-formed : goal.history-requires-clause-formed
history-requires-clause-formed c =
    let i = c.args.interlocking.now in
    subst (IsWellFormed i.design.station i.routes 256) (sym c.in_ok-plan.ensures) (formed_alone i.design.station i.routes c.args.train c.requires.train c.args.way.now c.requires.way)

pub returns : goal.returns
returns c =
    let i = c.args.interlocking.now in
    let d = i.design.station in
    let t = c.args.train in
    let plan = plan_alone t c.args.way.now in
    let happened : c.in_ok-history.history.items ≡ history_at d i.routes plan (horizon d) =
    c.in_ok-history.ensures ∙ ap (λ p. history_at d i.routes p c.horizon.result) c.in_ok-plan.ensures ∙ ap (history_at d i.routes plan) c.horizon.ensures.value in
    let tick : (now : List TrainHistory) (j : ℕ) → now ≡ c.in_ok-history.history.items → visit_tick now t j ≡ tick_alone d i.routes t c.args.way.now j = (λ now j same. ap (λ h. visit_tick h t j) (same ∙ happened) ∙ visit_told d i.routes plan (horizon d) t c.requires.train j) in
    c.ticks_between.ensures
    ∙ ap₂ ticks_between (c.visit_tick-first.ensures ∙ tick c.deref.result.now c.args.from c.deref.ensures.value) (c.visit_tick-last.ensures ∙ tick c.deref-2.result.now c.args.to c.deref-2.ensures.value)

use Rattle.std.proofs.Common.{length, ap, sym, ◌∙◌}
use Rattle.std.proofs.lemmas.List.{length-map}
use Rattle.rail_base.specs.declared.plan.Plan.{Plan}
use Rattle.verify_loop.specs.Outcomes.{Refutal}
use Rattle.verify_loop.proofs.rounds.PlanSearch.progress.Goals as goal

pub returns : goal.returns
returns c =
    let r = c.requires in
    let s = r.3 in (
      r.0,
      r.1,
      r.2,
      record {
        lines = s.lines;
        rs = s.rs;
        text = c.args.search.now.solver.recorder.bytes.items;
        log = s.log;
        derived = c.derives.ensures ∙ s.derived;
        failed = ap length c.as_slice.ensures.value ∙ (sym (length-map c.args.search.now.failed.items (λ (p : Plan). p.steps)) ∙ (ap length s.plans ∙ length-map s.rs (λ (r : Refutal). r.plan)));
        ticks = s.cost;
        steps = c.args.search.now.steps;
        none_of = c.none_before.ensures;
        fewer = s.fewer;
      },
    )

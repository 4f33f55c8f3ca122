use Rattle.std.specs.List.{list_all}
use Rattle.std.proofs.lemmas.Result.{err_from_is_err_and}
use Rattle.design_table.specs.declared.fault.Code.TheVariants.{D04}
use Rattle.infra_reader.specs.Names.{is_among}
use Rattle.design_table.specs.Texts.{texts}
use Rattle.infra_reader.proofs.AllOf.{one_fails}
use Rattle.infra_reader.proofs.resolve.visits_nodes.Goals as goal

pub returns-in_err-visit_nodes : goal.returns-in_err-visit_nodes
returns-in_err-visit_nodes c =
    let p = err_from_is_err_and c.from_residual.result c.from_residual.ensures.1 in
    rw (p.1, p.2) (one_fails (list_all (is_among (texts c.args.nodes.now.keys))) (λ visit. texts visit.items) c.args.visits.now c.loop-visit.visit-index c.visit-item.result c.visit-item.result c.visit-item.is c.args.place _ c.loop-visit-test.true c.loop-visit.invariant.among c.in_err-visit_nodes.field-0.0 D04 (rw (← c.as_slice.ensures.value) c.in_err-visit_nodes.ensures))

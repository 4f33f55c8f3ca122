use Rattle.std.proofs.Common.{◌∙◌}
use Rattle.cone_run.proofs.Looking.{entries}
use Rattle.cone_run.proofs.layout.ConeLayout.fault.Goals as goal

pub invariant_of-run : goal.invariant_of-run
invariant_of-run c =
    let l = c.args.self.now in
    let i = l.interlocking.now in
    record {
      entries = entries i.design.station i.routes l.cone.now l.known;
      is_history = c.as_slice.ensures.value ∙ c.in_ok-history.ensures;
    }

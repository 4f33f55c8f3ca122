use Rattle.std.proofs.Common.{◌≡◌, drop}
use Rattle.std.specs.List.{list_all}
use Rattle.cone_spec.specs.Validity.{holder_fits}
use Rattle.cone_run.proofs.checked.ConeRun.all_holders_fit.Given as goal

abbrev pub invariant-loop-entry : goal.invariant-loop-entry
invariant-loop-entry l =
    list_all (λ c. holder_fits l.self.layout.interlocking.now.design.station l.self.layout.interlocking.now.routes l.self.layout.cone.now c c.holder) (drop l.entry-index l.entry-items)
    ≡ list_all (λ c. holder_fits l.self.layout.interlocking.now.design.station l.self.layout.interlocking.now.routes l.self.layout.cone.now c c.holder) l.self.layout.cone.now.trains

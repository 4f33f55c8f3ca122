use Rattle.std.proofs.Common.{◌≡◌, drop}
use Rattle.std.specs.List.{list_all}
use Rattle.cone_spec.specs.Validity.{free_granted}
use Rattle.cone_run.proofs.checked.ConeRun.all_granted.Given as goal

abbrev pub invariant-loop-entry : goal.invariant-loop-entry
invariant-loop-entry l =
    list_all (free_granted l.self.layout.interlocking.now.design.station l.self.layout.interlocking.now.routes l.self.layout.cone.now) (drop l.entry-index l.entry-items)
    ≡ list_all (free_granted l.self.layout.interlocking.now.design.station l.self.layout.interlocking.now.routes l.self.layout.cone.now) l.self.layout.cone.now.trains

use Rattle.std.proofs.Common.{◌≡◌, drop}
use Rattle.std.specs.List.{list_all}
use Rattle.cone_spec.specs.Validity.{train_in_design}
use Rattle.cone_form.proofs.trains.trains_in_design.Given as goal

-- those so far are
abbrev pub invariant-loop-entry : goal.invariant-loop-entry
invariant-loop-entry l = list_all (train_in_design l.interlocking.design.station l.interlocking.routes l.cone) (drop l.entry-index l.entry-items) ≡ list_all (train_in_design l.interlocking.design.station l.interlocking.routes l.cone) l.entry-items

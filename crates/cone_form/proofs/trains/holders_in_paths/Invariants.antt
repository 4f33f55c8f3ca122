use Rattle.std.proofs.Common.{◌≡◌, drop}
use Rattle.std.specs.List.{list_all}
use Rattle.interlocking.specs.declared.railway.Interlocking.{Interlocking}
use Rattle.cone_spec.specs.declared.ConeTrain.{ConeTrain}
use Rattle.cone_spec.specs.Validity.{holder_in_path}
use Rattle.cone_form.proofs.trains.holders_in_paths.Given as goal

-- those so far are
abbrev pub invariant-loop-entry : goal.invariant-loop-entry
invariant-loop-entry l = (i : Interlocking) → list_all (λ (c : ConeTrain). holder_in_path i.design.station i.routes l.cone c.holder) (drop l.entry-index l.entry-items) ≡ list_all (λ (c : ConeTrain). holder_in_path i.design.station i.routes l.cone c.holder) l.entry-items

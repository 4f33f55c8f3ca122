use Rattle.std.proofs.Common.{◌≡◌, true, sym, subst}
use Rattle.rail_base.specs.Admission.{is_admitted}
use Rattle.greatest_time.proofs.Admitted.{passes_admission}
use Rattle.greatest_time.proofs.changed.design_with.Goals as goal

pub invariant_of-result : goal.invariant_of-result
invariant_of-result c =
    let changed = passes_admission c.args.design.station c.args.within c.requires.from_1 c.requires.there c.args.max_ms c.requires.a_day c.args.design.admitted in
    record { admitted = subst (λ d. is_admitted d ≡ true) (sym c.station_with-station.ensures) changed }

use Rattle.std.proofs.Common.{sym, ◌∙◌}
use Rattle.rail_base.proofs.Admitting.{admitted}
use Rattle.cone_run.proofs.Leading.{stands}
use Rattle.cone_run.proofs.fault.fault_of.Goals as goal

pub invariant_of-layout : goal.invariant_of-layout
invariant_of-layout c = record { known = sym c.in_ok-fits.ensures ∙ c.if-not-fits.false }

pub returns-then-not-fits-clause-stands : goal.returns-then-not-fits-clause-stands
returns-then-not-fits-clause-stands c = λ known.
    let i = c.args.interlocking.now in
    stands i.design.station i.routes c.args.cone.now known (admitted i.design.station i.design.admitted) i.table

pub returns-clause-stands : goal.returns-clause-stands
returns-clause-stands c = λ known.
    let i = c.args.interlocking.now in
    stands i.design.station i.routes c.args.cone.now known (admitted i.design.station i.design.admitted) i.table

pub returns-in_err-fits-clause-stands : goal.returns-in_err-fits-clause-stands
returns-in_err-fits-clause-stands c = λ known.
    let i = c.args.interlocking.now in
    stands i.design.station i.routes c.args.cone.now known (admitted i.design.station i.design.admitted) i.table

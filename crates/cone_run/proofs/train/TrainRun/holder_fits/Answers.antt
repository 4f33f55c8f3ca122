use Rattle.std.proofs.Common.{◌≡◌, ◌<◌, ◌&&◌, true, length, slice_get, ap, sym, ◌∙◌, arith}
use Rattle.cone_spec.specs.Validity.{holder_fits, holder_needed, holds_up}
use Rattle.cone_run.proofs.Looking.{entry_here, needed_waits}
use Rattle.cone_run.proofs.train.TrainRun.holder_fits.Goals as goal

pub returns-else-not-needed : goal.returns-else-not-needed
returns-else-not-needed c =
    let l = c.args.self.now.run.layout in
    let d = l.interlocking.now.design.station in
    let routes = l.interlocking.now.routes in
    let e = c.args.self.now.said.now in
    let h = c.in-Some.holder in
    let needed : holder_needed d routes l.cone.now e ≡ true = sym c.holder_needed-needed.ensures ∙ c.if-not-needed.false in
    let waits : e.free < length e.path = needed_waits d routes l.cone.now l.known e needed in
    let same = ap length c.as_slice-path.ensures in
    let place = sym (entry_here c.as_slice-path.result.now e.free _ (omega arith)) ∙ ap (λ ps. slice_get ps e.free) c.as_slice-path.ensures in
    c.holds_up.ensures ∙ ap (holds_up d routes l.cone.now e h) place
    ∙ sym (ap (λ b. b && holds_up d routes l.cone.now e h (slice_get e.path e.free)) needed) ∙ sym (ap (holder_fits d routes l.cone.now e) c.in-Some.is)

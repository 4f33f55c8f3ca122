use Rattle.std.proofs.Common.{sym, ◌∙◌, length, arith, rules}
use Rattle.rail_base.specs.Stations.{is_end, signal_of}
use Rattle.rail_base.specs.declared.station.SignalNo.{SignalNo}
use Rattle.rail_spec.specs.Track.{signals_at}
use Rattle.rail_routes.proofs.Numbered.{kept-true, kept-false}
use Rattle.rail_routes.proofs.track.signals_at.Goals as goal
use Rattle.rail_routes.proofs.track.signals_at.Goals.{then-stands_at+in_ok-push, else-stands_at}

pub loop-index-preserved : goal.loop-index-preserved
loop-index-preserved c =
    let d = c.args.design.now.station in
    let end = c.args.end in
    elim c.if-stands_at.branch [
      | then-stands_at+in_ok-push w ↦ kept-true (λ n. let s : SignalNo = record { 0 = n } in s) (λ s. is_end (record { node = (signal_of d s).node; side = (signal_of d s).toward }) end) (length d.signals) c.loop-index.index c.loop-index.signals c.if-stands_at.signals (signals_at d end) (omega arith) c.loop-index.invariant (sym c.stands_at.ensures ∙ w.if-stands_at.true) (search rules)
      | else-stands_at w ↦ kept-false (λ n. let s : SignalNo = record { 0 = n } in s) (λ s. is_end (record { node = (signal_of d s).node; side = (signal_of d s).toward }) end) (length d.signals) c.loop-index.index c.loop-index.signals c.if-stands_at.signals (signals_at d end) (omega arith) c.loop-index.invariant (sym c.stands_at.ensures ∙ w.if-stands_at.false) (search rules)
    ]

-- The place on its path, where that is granted.
use Rattle.std.proofs.Common.{sym, ap, ◌∙◌, option_map}
use Rattle.rail_base.specs.declared.state.PathNode.{PathNode}
use Rattle.rail_spec.specs.Places.{next_stop}
use Rattle.rail_course.proofs.Stopping.{is_stop_place}
use Rattle.rail_course.proofs.train_path.TrainPath.stop_place.Goals as goal

pub returns-in_err-here : goal.returns-in_err-here
returns-in_err-here c =
    is_stop_place c.args.self.now c.args.state c.next_stop-stop.result c.made_within.result c.from_residual.result
    (λ ws e. c.next_stop-stop.ensures ws (c.as_slice.ensures.value ∙ e) ∙ ap (λ vs. next_stop ws vs c.args.state.stood) c.as_slice-2.ensures.value)
    c.made_within.ensures (c.from_residual.ensures ∙ sym (ap (option_map (λ (n : PathNode). n.event.place)) c.in_err-here.was))

pub returns : goal.returns
returns c =
    is_stop_place c.args.self.now c.args.state c.next_stop-stop.result c.made_within.result _
    (λ ws e. c.next_stop-stop.ensures ws (c.as_slice.ensures.value ∙ e) ∙ ap (λ vs. next_stop ws vs c.args.state.stood) c.as_slice-2.ensures.value)
    c.made_within.ensures (sym (ap (option_map (λ (n : PathNode). n.event.place)) c.in_ok-here.was))

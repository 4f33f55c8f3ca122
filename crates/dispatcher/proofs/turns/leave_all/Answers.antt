use Rattle.std.proofs.Common.{◌≡◌, List, [], ◌∷◌, filter, get_or, true, if◌then◌else◌, refl, ap, ◌∙◌, arith}
use Rattle.std.proofs.lemmas.List.{take_all}
use Rattle.rail_base.specs.declared.plan.Command.{Command}
use Rattle.rail_base.specs.Routes.{route_at, sections}
use Rattle.rail_course.specs.declared.waits.Wait.{Wait}
use Rattle.dispatcher.specs.Queues.{are_of, on_section, queue_at}
use Rattle.dispatcher.specs.Turned.{left_by, of_train}
use Rattle.dispatcher.proofs.Entering.{all_within, has_is, left_by_more}
use Rattle.dispatcher.proofs.turns.leave_all.Goals as goal

all_kept : (ws : List Wait) → ws ≡ filter (λ (w : Wait). true) ws
all_kept [] = refl
all_kept (w ∷ ws) = ap (λ xs. w ∷ xs) (all_kept ws)

pub loop-command-init : goal.loop-command-init
loop-command-init c = record { many = refl; left = λ z. all_kept (queue_at c.args.queues.now.items z) }

pub leave-requires : goal.leave-requires
leave-requires c = all_within c.args.train_paths.now.given.interlocking.now _ (c.loop-command.invariant.many ∙ c.requires.every_section) _ _ (c.as_slice.ensures.value ∙ c.in_ok-sections.ensures ∙ ap sections c.route-route.ensures)

pub loop-command-preserved : goal.loop-command-preserved
loop-command-preserved c =
    let routes = c.args.train_paths.now.given.interlocking.now.routes in
    let x : Command = get_or c.args.step.now c.loop-command.command-index (record { train = record { 0 = 0 }; route = record { 0 = 0 } }) in
    record {
      many = c.leave.ensures.same_length ∙ c.loop-command.invariant.many;
      left = λ z. left_by_more routes z c.args.step.now c.loop-command.command-index _ c.loop-command-test.true (queue_at c.leave.new.queues.items z) (queue_at c.loop-command.queues.items z) (queue_at c.args.queues.now.items z)
          (c.in_ok-leave.ensures.left z ∙ ap (left_by c.loop-command.queues.items z x.train) (c.as_slice.ensures.value ∙ c.in_ok-sections.ensures ∙ ap sections c.route-route.ensures) ∙ ap (λ b. if b then of_train x.train (queue_at c.loop-command.queues.items z) else queue_at c.loop-command.queues.items z) (has_is (route_at routes x.route) z)) (c.loop-command.invariant.left z);
    }

pub returns-clause-left : goal.returns-clause-left
returns-clause-left c = λ z.
    let routes = c.args.train_paths.now.given.interlocking.now.routes in
    let past = c.loop-command-test.false in
    c.loop-command.invariant.left z
    ∙ ap (λ (xs : List Command). filter (λ (w : Wait). are_of w.event.train (on_section routes z xs)) (queue_at c.args.queues.now.items z)) (take_all c.loop-command.command-index c.args.step.now (omega (arith, past)))

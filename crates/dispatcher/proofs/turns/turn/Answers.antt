use Rattle.std.proofs.Common.{◌++◌, flat_map, ap, ◌∙◌}
use Rattle.dispatcher.specs.Queues.{on_section}
use Rattle.dispatcher.specs.Waits.{waits_at}
use Rattle.dispatcher.proofs.turns.turn.Goals as goal

pub returns-clause-turned : goal.returns-clause-turned
returns-clause-turned c = λ z.
    let given = c.args.train_paths.now.given in
    let routes = given.interlocking.now.routes in
    c.in_ok-enter_all.ensures.entered z
    ∙ ap (λ q. q ++ flat_map (waits_at given z) (on_section routes z c.args.step.now)) (c.in_ok-leave_all.ensures.left z)

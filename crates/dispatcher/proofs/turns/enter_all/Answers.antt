use Rattle.std.proofs.Common.{refl, sym, ◌∙◌}
use Rattle.std.proofs.lemmas.List.{append-nil}
use Rattle.dispatcher.specs.Queues.{queue_at}
use Rattle.dispatcher.proofs.Entering.{hold_waits_within, own_waits_within, put_more}
use Rattle.dispatcher.proofs.turns.enter_all.Goals as goal

pub loop-command-init : goal.loop-command-init
loop-command-init c = record { many = refl; entered = λ z. sym (append-nil (queue_at c.args.queues.now.items z)) }

pub own_waits-requires : goal.own_waits-requires
own_waits-requires c = c.requires.step c.loop-command.command-index _ c.loop-command-test.true

pub hold_waits-requires : goal.hold_waits-requires
hold_waits-requires c = c.requires.step c.loop-command.command-index _ c.loop-command-test.true

pub enter-requires : goal.enter-requires
enter-requires c = own_waits_within c.args.train_paths.now.given _ (c.loop-command.invariant.many ∙ c.requires.every_section) _ _ (c.as_slice.ensures.value ∙ c.in_ok-own.ensures)

pub enter-requires-in-loop-command : goal.enter-requires-in-loop-command
enter-requires-in-loop-command c = hold_waits_within c.args.train_paths.now.given _ (c.enter.ensures.same_length ∙ c.loop-command.invariant.many ∙ c.requires.every_section) _ _ (c.as_slice-in-loop-command.ensures.value ∙ c.in_ok-held.ensures)

pub loop-command-preserved : goal.loop-command-preserved
loop-command-preserved c =
    let given = c.args.train_paths.now.given in
    record {
      many = c.enter-in-loop-command.ensures.same_length ∙ c.enter.ensures.same_length ∙ c.loop-command.invariant.many;
      entered = λ z. put_more given z c.args.step.now c.loop-command.command-index _ c.loop-command-test.true _ _ (c.as_slice.ensures.value ∙ c.in_ok-own.ensures) (c.as_slice-in-loop-command.ensures.value ∙ c.in_ok-held.ensures) (queue_at c.enter-in-loop-command.new.queues.items z) (queue_at c.enter.new.queues.items z) (queue_at c.loop-command.queues.items z) (queue_at c.args.queues.now.items z)
          (c.in_ok-enter.ensures.entered z) (c.in_ok-enter-2.ensures.entered z) (c.loop-command.invariant.entered z);
    }

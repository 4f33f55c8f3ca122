use Rattle.std.proofs.Common.{List, ◌++◌, filter, ap₂, ◌∙◌}
use Rattle.rail_base.specs.declared.plan.Command.{Command}
use Rattle.plan_decoder.specs.Decoded.{is_new}
use Rattle.plan_decoder.proofs.Puts.{put_kept}
use Rattle.plan_decoder.proofs.Telling.{among_at}
use Rattle.plan_decoder.proofs.decoding.given_in.Goals as goal

pub loop-command-init : goal.loop-command-init
loop-command-init c = λ live d routes n is.
    ap₂ (λ (now cs : List Command). now ++ filter (is_new live d routes n c.args.values.now c.args.step) cs) c.new-commands.ensures.items
    (c.commands-command-items.ensures.value ∙ (c.commands.ensures ∙ (c.pairs.ensures.commands ∙ is.commands)))

pub add_if_new-requires-clause-command : goal.add_if_new-requires-clause-command
add_if_new-requires-clause-command c =
    among_at c.commands-command-items.result.now c.args.numbering.now.commands c.loop-command.command-index _ (c.commands-command-items.ensures.value ∙ (c.commands.ensures ∙ c.pairs.ensures.commands)) c.loop-command-test.true

pub loop-command-preserved : goal.loop-command-preserved
loop-command-preserved c = λ live d routes n is.
    put_kept (is_new live d routes n c.args.values.now c.args.step) c.loop-command.commands.items c.add_if_new.new.commands.items _ c.commands-command-items.result.now c.loop-command.command-index _ c.loop-command-test.true
    (c.in_ok-add_if_new.ensures live d routes n is) (c.loop-command.invariant live d routes n is)

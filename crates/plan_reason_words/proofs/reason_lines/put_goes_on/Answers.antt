use Rattle.cone_words.proofs.Joining.{more}
use Rattle.plan_reason_words.proofs.reason_lines.put_goes_on.Goals as goal

pub returns : goal.returns
returns c = more c.args.text.now.items _ _ _ _ c.in_ok-put_started.ensures c.in_ok-put_before.ensures

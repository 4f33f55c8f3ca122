use Rattle.cone_words.proofs.Joining.{more}
use Rattle.plan_reason_words.proofs.reason_lines.put_ends_again.Goals as goal

pub returns : goal.returns
returns c = more c.args.text.now.items _ _ _ _ c.in_ok-put_ended.ensures c.in_ok-put_again.ensures

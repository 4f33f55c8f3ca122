use Rattle.std.proofs.Common.{arith}
use Rattle.std.proofs.lemmas.Grind.{common_steps}
use Rattle.proof_log.specs.ConeText.{route_word, list_words, holder_words}
use Rattle.proof_log.proofs.Joining.{spaced-append}
use Rattle.proof_log.proofs.cone_text.put_train.Goals as goal

pub returns : goal.returns
returns c = grind (arith, common_steps, spaced-append (list_words route_word c.args.train.now.path) (holder_words c.args.train.now.holder))

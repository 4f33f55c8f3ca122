use Rattle.std.proofs.Common.{Some}
use Rattle.rail_words.specs.Words.{request_seen}
use Rattle.rail_cli.proofs.Telling.{nothing_told}
use Rattle.rail_cli.proofs.run.asked_reply.Goals as goal

pub returns-clause-tells : goal.returns-clause-tells
returns-clause-tells g c = λ files reply_for. nothing_told files (Some (request_seen c.args.asked.request)) _

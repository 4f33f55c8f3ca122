use Rattle.std.proofs.Common.{codes, arith}
use Rattle.std.proofs.lemmas.Grind.{common_steps}
use Rattle.proof_log.specs.ConeText.{cone_line_words}
use Rattle.proof_log.proofs.Joining.{join-spaced}
use Rattle.proof_log.proofs.write.write_cone.Goals as goal

pub returns : goal.returns
returns c = grind (arith, common_steps, join-spaced (codes "r") (cone_line_words c.args.cone.now))

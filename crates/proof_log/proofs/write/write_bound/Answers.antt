use Rattle.std.proofs.Common.{codes, arith}
use Rattle.std.proofs.lemmas.Grind.{common_steps}
use Rattle.proof_log.specs.BoundText.{bound_line_words}
use Rattle.proof_log.proofs.Joining.{join-spaced}
use Rattle.proof_log.proofs.write.write_bound.Goals as goal

pub returns : goal.returns
returns c = grind (arith, common_steps, join-spaced (codes "b") (bound_line_words c.args.bound.now))

use Rattle.std.proofs.Common.{◌≡◌, ◌++◌, ◌∙◌, sym, map, codes, decimal, arith}
use Rattle.std.proofs.lemmas.Grind.{common_steps}
use Rattle.proof_log.specs.Writing.{spaced}
use Rattle.proof_log.proofs.Joining.{forget-parts}
use Rattle.proof_log.proofs.write.write_forget.Goals as goal

pub returns : goal.returns
returns c =
    let parts : c.extend_from_slice.new.self.items ≡ codes "x" ++ spaced (map decimal c.args.clauses.now) ++ codes " 0" = grind (arith, common_steps) in
    parts ∙ sym (forget-parts c.args.clauses.now)

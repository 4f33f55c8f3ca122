use Rattle.std.proofs.Common.{◌≡◌, ◌++◌, ◌∙◌, sym, map, codes, decimal, arith}
use Rattle.std.proofs.lemmas.Grind.{common_steps}
use Rattle.proof_log.specs.ConeText.{literal_word}
use Rattle.proof_log.specs.Writing.{spaced}
use Rattle.proof_log.proofs.Joining.{text-parts}
use Rattle.proof_log.proofs.write.write_derive.Goals as goal

pub returns : goal.returns
returns c =
    let parts : c.extend_from_slice-2.new.self.items ≡ codes "d" ++ spaced (map literal_word c.args.clause.now) ++ codes " 0" ++ spaced (map decimal c.args.hints.now) ++ codes " 0" = grind (arith, common_steps) in
    parts ∙ sym (text-parts c.args.clause.now c.args.hints.now)

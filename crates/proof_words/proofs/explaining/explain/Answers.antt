use Rattle.std.proofs.Common.{sym, ◌∙◌}
use Rattle.proof_words.proofs.Naming.{judged_named}
use Rattle.proof_words.proofs.explaining.explain.Goals as goal

pub file_sentences-requires : goal.file_sentences-requires
file_sentences-requires c = judged_named c.args.interlocking.now.design.station c.args.steps.count c.args.bytes.now c.in-Yes.steps (sym c.in_ok-shown.ensures.value ∙ c.in-Yes.is)

use Rattle.std.proofs.Common.{ap}
use Rattle.interlocking.specs.declared.railway.Interlocking.{Interlocking}
use Rattle.cli_shell.specs.Answers.{design_or_answer}
use Rattle.cli_shell.proofs.Refusing.{refused_reading, ended_reads}
use Rattle.cli_shell.proofs.reading.interlock.Goals as goal

pub returns-in-Err-Refused-clause-reads : goal.returns-in-Err-Refused-clause-reads
returns-in-Err-Refused-clause-reads c =
    rw c.ending_of.ensures (ended_reads (λ (i : Interlocking). i.design.station) c.design_refused.result _ _ c.design_refused.ensures
    (ap design_or_answer (refused_reading c.in-Err-Refused.field-0 c.in-Err-Refused.code c.in-Err-Refused.place _ c.in-Err-Refused.field-0-is c.in-Err-Refused.ensures.reads)))

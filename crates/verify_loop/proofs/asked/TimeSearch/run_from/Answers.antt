use Rattle.std.proofs.Common.{Result, IfErr, subst}
use Rattle.verify_loop.specs.declared.outcome.Outcome.{Outcome}
use Rattle.verify_loop.specs.declared.rounds.SearchState.{SearchState}
use Rattle.verify_loop.specs.Asking.{IsEarlyEnd}
use Rattle.verify_loop.specs.Tightening.{aim_of}
use Rattle.verify_loop.proofs.Starting.{early_end_so}
use Rattle.verify_loop.proofs.asked.TimeSearch.run_from.Goals as goal

pub after_end-requires-in-Err : goal.after_end-requires-in-Err
after_end-requires-in-Err g c =
    let t = c.args.self.now in
    let a = c.args.asked in
    let ended = subst (λ (r : Result SearchState Outcome). IfErr r (IsEarlyEnd (aim_of t.base) a.interlocking.design.station t.numbering.now.steps t.budgets)) c.in-Err.is c.requires.ended in
    early_end_so t a c.requires.asked c.requires.all_ticks c.requires.none_tried c.in-Err.outcome ended

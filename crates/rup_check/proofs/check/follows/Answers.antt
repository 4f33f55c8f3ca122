use Rattle.std.proofs.Common.{sym}
use Rattle.sat_clause.proofs.Sound.{follows-holds}
use Rattle.rup_check.proofs.check.follows.Goals as goal

pub returns-clause-sound : goal.returns-clause-sound
returns-clause-sound c = λ e values h.
    follows-holds values c.args.arena.now c.args.clause.now c.args.hints.now (sym (rw e at c.answer-answer.ensures)) h

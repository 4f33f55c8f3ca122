use Rattle.std.proofs.Common.{sym, ◌∙◌}
use Rattle.command_set.proofs.Alike.{visits_told}
use Rattle.command_set.proofs.likeness.earlier_alike.Goals as goal

pub returns-then-are_visits-clause-alike : goal.returns-then-are_visits-clause-alike
returns-then-are_visits-clause-alike c =
    let same = visits_told c.as_slice.result.now c.as_slice-visits.result.now (sym c.are_visits.ensures ∙ c.if-are_visits.true) in
    cc

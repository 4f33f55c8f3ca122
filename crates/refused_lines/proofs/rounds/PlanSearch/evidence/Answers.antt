use Rattle.std.proofs.Common.{sym, ◌∙◌}
use Rattle.refused_lines.proofs.rounds.PlanSearch.evidence.Goals as goal

pub slice-requires-clause-fails : goal.slice-requires-clause-fails
slice-requires-clause-fails c = (1000000, sym c.in_ok-history.ensures.value ∙ c.in-Failed.is)

use Rattle.std.proofs.Common.{ap, ◌∙◌}
use Rattle.std.specs.Option.{unwrap_or}
use Rattle.live_contending.proofs.pairs.ContendingPairs.place_of.Goals as goal

pub returns-clause-index : goal.returns-clause-index
returns-clause-index c = λ i h. c.unwrap_or.ensures ∙ ap (λ o. unwrap_or o 0) (c.place.ensures.index i h)

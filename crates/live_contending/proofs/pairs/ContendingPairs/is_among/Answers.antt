use Rattle.std.proofs.Common.{◌∙◌}
use Rattle.clause_spec.specs.Variables.{is_pair}
use Rattle.command_set.proofs.Standing.{some_place}
use Rattle.live_contending.proofs.Distinct.{pair_turned}
use Rattle.live_contending.proofs.pairs.ContendingPairs.is_among.Goals as goal

pub returns : goal.returns
returns c =
    c.is_some.ensures
    ∙ (some_place (is_pair c.args.first c.args.second) c.args.self.now.pairs c.place.result c.place.ensures.place ∙ pair_turned c.args.self.now.pairs c.args.first c.args.second)

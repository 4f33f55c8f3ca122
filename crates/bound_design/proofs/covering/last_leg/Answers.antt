use Rattle.bound_design.proofs.Begun.{last_leg_at}
use Rattle.std.proofs.Common.{◌∙◌}
use Rattle.bound_design.proofs.covering.last_leg.Goals as goal

pub returns : goal.returns
returns c = c.index-legs-legs.is ∙ last_leg_at c.args.legs.now c.index-legs-legs.result c.requires

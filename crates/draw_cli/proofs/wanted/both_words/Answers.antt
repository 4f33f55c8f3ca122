use Rattle.std.proofs.Common.{ap₂}
use Rattle.draw_cli.specs.Wanted.{routes_or_simulate}
use Rattle.draw_cli.proofs.wanted.both_words.Goals as goal

pub returns : goal.returns
returns c = ap₂ routes_or_simulate c.in_ok-routes.ensures c.in_ok-simulate.ensures

use Rattle.rail_cli.proofs.Finding.{searched_so}
use Rattle.rail_cli.proofs.searching.searched_in.Goals as goal

pub returns-clause-replies : goal.returns-clause-replies
returns-clause-replies g c = (
  c.verify-found.result,
  c.verify-found.ensures.says,
  c.verify-found.ensures.fits,
  searched_so c.args.interlocking.now.design.station c.args.steps.count c.args.budgets c.args.aim c.settle.result c.verify-found.result c.verify-found.ensures.says c.verify-found.ensures.fits c.settle.ensures.replies,
)

pub settle-requires : goal.settle-requires
settle-requires g c = record { says = (c.args.aim, c.requires.named, c.verify-found.ensures.says); room = c.requires.room }

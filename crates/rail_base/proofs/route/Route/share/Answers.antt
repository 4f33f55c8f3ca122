use Rattle.std.proofs.Common.{◌≡◌}
use Rattle.rail_base.proofs.Sharing.{share-then, share-else}
use Rattle.rail_base.proofs.route.Route.share.Goals as goal

pub returns-then-shares_own : goal.returns-then-shares_own
returns-then-shares_own c = share-then c.args.self.now c.args.other.now c.shares_own.result c.shares_own.ensures c.if-shares_own.true

pub returns-else-shares_own : goal.returns-else-shares_own
returns-else-shares_own c = share-else c.args.self.now c.args.other.now c.shares_own.result c.shares_overlap.result c.shares_own.ensures c.if-shares_own.false c.shares_overlap.ensures

use Rattle.rail_base.specs.Routes.{route_at}
use Rattle.rail_base.proofs.Sharing.{share-then, share-else}
use Rattle.outcome_words.proofs.waits.share.Goals as goal

pub returns-then-shares_own : goal.returns-then-shares_own
returns-then-shares_own c = share-then (route_at c.args.routes.now c.args.route) (route_at c.args.routes.now c.args.other) c.shares_own.result c.shares_own.ensures c.if-shares_own.true

pub returns-else-shares_own : goal.returns-else-shares_own
returns-else-shares_own c = share-else (route_at c.args.routes.now c.args.route) (route_at c.args.routes.now c.args.other) c.shares_own.result c.shares_overlap.result c.shares_own.ensures c.if-shares_own.false c.shares_overlap.ensures

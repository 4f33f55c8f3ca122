use Rattle.std.proofs.Common.{◌∙◌}
use Rattle.cli_shell.specs.Listings.{route_line}
use Rattle.cli_shell.proofs.Numbered.{one_listed, all_listed}
use Rattle.cli_shell.proofs.listing.route_lines.Goals as goal

pub loop-index-preserved : goal.loop-index-preserved
loop-index-preserved c =
    rw (c.in_ok-push.ensures.items) (one_listed (route_line c.args.design.now.station) c.args.routes.now c.loop-index.index c.index-routes-index.result c.loop-index.lines.items c.in_ok-route_line.field-0 c.loop-index-test.true c.index-routes-index.is c.loop-index.invariant c.in_ok-route_line.ensures)

pub returns : goal.returns
returns c = c.loop-index.invariant ∙ all_listed (route_line c.args.design.now.station) c.args.routes.now c.loop-index.index c.loop-index-test.false

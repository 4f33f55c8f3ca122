use Rattle.rail_base.specs.Routes.{route_at}
use Rattle.interlocking.proofs.Sectioned.{share_is}
use Rattle.interlocking.proofs.railway.Interlocking.share.Goals as goal

pub returns : goal.returns
returns c =
    share_is (route_at c.args.self.now.routes c.args.one) (route_at c.args.self.now.routes c.args.other) c.sections.result.now c.sections-2.result.now c.meets.result c.sections.ensures c.sections-2.ensures
    c.meets.ensures.common c.meets.ensures.apart

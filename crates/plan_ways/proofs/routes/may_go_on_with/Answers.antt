use Rattle.std.proofs.Common.{◌≡◌, ◌&&◌, sym, ap, ◌∙◌}
use Rattle.std.specs.Prelude.{option_map}
use Rattle.rail_base.specs.Routes.{route_at}
use Rattle.rail_base.specs.Stations.{first_visit, train_of}
use Rattle.rail_plan.specs.WellFormed.{begins_well}
use Rattle.plan_ways.proofs.Following.{apart, begins, follows_is}
use Rattle.plan_ways.proofs.routes.may_go_on_with.Goals as goal

pub returns-then-begins_well : goal.returns-then-begins_well
returns-then-begins_well c =
    let i = c.args.interlocking.now in
    let d = i.design.station in
    let t = c.args.train in
    let path = c.args.path.now in
    let r = c.args.route in
    let is : c.begins_well.result ≡ begins d i.routes t path r =
    c.begins_well.ensures ∙ ap (λ o. begins_well (first_visit (train_of d t)) (option_map (route_at i.routes) o) (route_at i.routes r)) c.last_of.ensures in
    c.are_all_apart.ensures ∙ sym (follows_is d i.routes t path r ∙ ap (λ b. b && apart d i.routes t path r) (sym is ∙ c.if-begins_well.true))

pub returns-else-begins_well : goal.returns-else-begins_well
returns-else-begins_well c =
    let i = c.args.interlocking.now in
    let d = i.design.station in
    let t = c.args.train in
    let path = c.args.path.now in
    let r = c.args.route in
    let is : c.begins_well.result ≡ begins d i.routes t path r =
    c.begins_well.ensures ∙ ap (λ o. begins_well (first_visit (train_of d t)) (option_map (route_at i.routes) o) (route_at i.routes r)) c.last_of.ensures in
    c.if-begins_well.false ∙ sym (follows_is d i.routes t path r ∙ ap (λ b. b && apart d i.routes t path r) (sym is ∙ c.if-begins_well.false))

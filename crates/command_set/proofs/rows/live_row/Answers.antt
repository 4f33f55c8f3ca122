use Rattle.std.proofs.Common.{◌≡◌, ◌-◌, ◌≤◌, ◌<◌, ℕ, List, [], filter, length, map, sym, ap, subst, ◌∙◌, arith}
use Rattle.std.proofs.lemmas.Result.{IfOk-weaker}
use Rattle.rail_base.specs.declared.route.RouteNo.{RouteNo}
use Rattle.rail_base.specs.declared.route.Route.{Route}
use Rattle.rail_base.specs.declared.station.NodeNo.{NodeNo}
use Rattle.rail_base.specs.Numbering.{entry, one_to}
use Rattle.rail_spec.specs.Plans.{route_numbers}
use Rattle.live_clause_spec.specs.Live.{is_live_route}
use Rattle.interlocking.specs.Plans.{on}
use Rattle.way_spec.specs.Ways.{AreLive}
use Rattle.live_clause_spec.proofs.Shown.{lists}
use Rattle.command_set.specs.Rows.{live_row, train_no}
use Rattle.command_set.proofs.Lists.{entry_is, entry_next, length_numbered}
use Rattle.command_set.proofs.rows.live_row.Goals as goal

earlier_there : (f : ℕ → List RouteNo) (rows : List (List RouteNo)) (t u : ℕ) → rows ≡ map f (one_to (t - 1)) → 1 ≤ u → u < t → u - 1 < length rows
earlier_there f rows t u is low high = let long = ap length is ∙ length_numbered f (t - 1) [] in omega arith

pub bounds-rows-earlier : goal.bounds-rows-earlier
bounds-rows-earlier c =
    let f : ℕ → List RouteNo = λ n. on c.args.onward.now.interlocking.now live_row (train_no n) in
    earlier_there f c.args.rows.now c.args.train.0 c.in-Some.earlier.0 c.requires.before c.in-Some.ensures.known c.in-Some.ensures.before

pub returns-in-Some : goal.returns-in-Some
returns-in-Some c =
    let i = c.args.onward.now.interlocking.now in
    let f : ℕ → List RouteNo = λ n. on i live_row (train_no n) in
    let earlier = c.in-Some.earlier in
    let low = c.in-Some.ensures.known in
    let high = c.in-Some.ensures.before in
    let here = entry_next [] c.args.rows.now (earlier.0 - 1) c.index-rows-earlier.result c.index-rows-earlier.is (earlier_there f c.args.rows.now c.args.train.0 earlier.0 c.requires.before low high) in
    let there = ap (λ (rows : List (List RouteNo)). entry [] rows earlier.0) c.requires.before ∙ entry_is f (c.args.train.0 - 1) [] earlier.0 low (omega arith) in
    IfOk-weaker c.copy_of.result (λ copy. copy ≡ c.index-rows-earlier.result) _
    (λ copy h. h ∙ (sym here ∙ (ap (entry [] c.args.rows.now) (omega arith) ∙ (there
    ∙ ap (λ (sets : List (List NodeNo)). filter (is_live_route i.routes sets) (route_numbers i.routes)) c.in-Some.ensures.alike))))
    c.copy_of.ensures

pub returns-in_ok-live_routes-in-None : goal.returns-in_ok-live_routes-in-None
returns-in_ok-live_routes-in-None c =
    let i = c.args.onward.now.interlocking.now in
    let rs = c.in_ok-live_routes-in-None.field-0.items in
    c.from_vec.ensures
    ∙ subst (λ (routes : List Route). rs ≡ live_row i.design.station routes c.args.train) (sym i.table)
    (lists i.design.station c.args.train rs (subst (λ (routes : List Route). AreLive i.design.station routes c.args.train rs) i.table c.in_ok-live_routes-in-None.ensures))

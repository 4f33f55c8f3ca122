use Rattle.std.proofs.Common.{List, true, false, filter, sym, ap, subst, ◌∙◌, arith}
use Rattle.std.specs.List.{list_any}
use Rattle.rail_spec.specs.Plans.{is_start}
use Rattle.std.specs.Prelude.{All}
use Rattle.rail_base.specs.declared.route.RouteNo.{RouteNo}
use Rattle.rail_base.specs.Routes.{IsRoute, route_at}
use Rattle.live_clause_spec.specs.Listed.{is_live_for, live_onward}
use Rattle.command_set.specs.Commands.{is_among}
use Rattle.plan_encoding.specs.Encoders.{commands}
use Rattle.plan_encoding.proofs.Tabled.{all_kept, nothing_known}
use Rattle.plan_encoding.specs.Tables.{going_on}
use Rattle.live_contending.proofs.Tabled.{length_rows, row_is}
use Rattle.plan_encoding.proofs.Chained.{onward_none, onward_is, first_known, first_in, none_within, taken}
use Rattle.plan_encoding.proofs.tables.Tables.onward.Goals as goal

pub row_of-row-requires-clause-within : goal.row_of-row-requires-clause-within
row_of-row-requires-clause-within c =
    let e = length_rows c.args.self.now.encoder.interlocking.now.routes (going_on c.args.self.now.encoder.interlocking.now.routes) c.deref.result.now (c.deref.ensures.value ∙ c.args.self.now.gone_on) in
    let r = c.requires.last.1 in
    omega arith

pub returns-in_default-clause-value : goal.returns-in_default-clause-value
returns-in_default-clause-value c =
    c.new.ensures.items
    ∙ ap (filter (is_live_for (is_among (commands c.args.self.now.encoder)) c.args.train)) (sym (onward_none c.args.self.now.encoder.interlocking.now.routes c.args.chain.now c.args.last (sym (c.row_of-row.ensures ∙ row_is c.args.self.now.encoder.interlocking.now.routes (going_on c.args.self.now.encoder.interlocking.now.routes) c.deref.result.now (c.deref.ensures.value ∙ c.args.self.now.gone_on) c.args.last c.requires.last) ∙ none_within c.row_of-row.result.now c.in_default.ensures.item.3)))

pub route_at-requires : goal.route_at-requires
route_at-requires c =
    first_known c.args.self.now.encoder.interlocking.now.routes c.row_of-row.result.now c.in-Some.first.now c.args.last
    (c.row_of-row.ensures ∙ row_is c.args.self.now.encoder.interlocking.now.routes (going_on c.args.self.now.encoder.interlocking.now.routes) c.deref.result.now (c.deref.ensures.value ∙ c.args.self.now.gone_on) c.args.last c.requires.last) c.in-Some.ensures.item.3

pub returns-then-start_there-clause-value : goal.returns-then-start_there-clause-value
returns-then-start_there-clause-value c =
    c.new-then-start_there.ensures.items
    ∙ ap (filter (is_live_for (is_among (commands c.args.self.now.encoder)) c.args.train)) (sym (onward_is c.args.self.now.encoder.interlocking.now.routes c.args.chain.now c.args.last c.row_of-row.result.now c.in-Some.first.now true
    (c.row_of-row.ensures ∙ row_is c.args.self.now.encoder.interlocking.now.routes (going_on c.args.self.now.encoder.interlocking.now.routes) c.deref.result.now (c.deref.ensures.value ∙ c.args.self.now.gone_on) c.args.last c.requires.last)
    (first_in c.row_of-row.result.now c.in-Some.first.now c.in-Some.ensures.item.3)
    (sym c.if-start_there.true ∙ (c.start_there.ensures ∙ ap (λ r. list_any (λ v. is_start (route_at c.args.self.now.encoder.interlocking.now.routes v).start r.start) c.args.chain.now) c.route_at.ensures))))

pub returns-clause-value : goal.returns-clause-value
returns-clause-value c =
    let all = onward_is c.args.self.now.encoder.interlocking.now.routes c.args.chain.now c.args.last c.row_of-row.result.now c.in-Some.first.now false
    (c.row_of-row.ensures ∙ row_is c.args.self.now.encoder.interlocking.now.routes (going_on c.args.self.now.encoder.interlocking.now.routes) c.deref.result.now (c.deref.ensures.value ∙ c.args.self.now.gone_on) c.args.last c.requires.last)
    (first_in c.row_of-row.result.now c.in-Some.first.now c.in-Some.ensures.item.3)
    (sym c.if-start_there.false ∙ (c.start_there.ensures ∙ ap (λ r. list_any (λ v. is_start (route_at c.args.self.now.encoder.interlocking.now.routes v).start r.start) c.args.chain.now) c.route_at.ensures)) in
    taken c.routes_among.result (filter (is_live_for (is_among (commands c.args.self.now.encoder)) c.args.train) c.row_of-row.result.now) (live_onward (is_among (commands c.args.self.now.encoder)) c.args.self.now.encoder.interlocking.now.routes c.args.train c.args.chain.now c.args.last) c.routes_among.ensures.value (ap (filter (is_live_for (is_among (commands c.args.self.now.encoder)) c.args.train)) (sym all))

pub returns-in_default-clause-known : goal.returns-in_default-clause-known
returns-in_default-clause-known c = nothing_known c.args.self.now.encoder c.args.train c.new.result.items c.new.ensures.items

pub returns-then-start_there-clause-known : goal.returns-then-start_there-clause-known
returns-then-start_there-clause-known c = nothing_known c.args.self.now.encoder c.args.train c.new-then-start_there.result.items c.new-then-start_there.ensures.items

pub routes_among-requires-clause-routes : goal.routes_among-requires-clause-routes
routes_among-requires-clause-routes c = subst (λ (rs : List RouteNo). All (IsRoute c.args.self.now.encoder.interlocking.now.routes) rs)
    (sym (c.row_of-row.ensures ∙ row_is c.args.self.now.encoder.interlocking.now.routes (going_on c.args.self.now.encoder.interlocking.now.routes) c.deref.result.now (c.deref.ensures.value ∙ c.args.self.now.gone_on) c.args.last c.requires.last))
    (all_kept c.args.self.now.encoder.interlocking.now.routes _)

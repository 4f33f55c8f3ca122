use Rattle.std.proofs.Common.{filter, sym, ap, subst, ◌∙◌, arith}
use Rattle.rail_base.specs.declared.route.RouteNo.{RouteNo}
use Rattle.plan_encoding.specs.Sinks.{emitted}
use Rattle.plan_encoding.specs.Encoders.{HasCommands, commands, numbered_clauses}
use Rattle.live_clause_spec.specs.Listed.{is_live_for}
use Rattle.command_set.specs.Commands.{is_among}
use Rattle.plan_encoding.proofs.Tabled.{all_kept}
use Rattle.live_contending.proofs.Tabled.{length_rows, row_is}
use Rattle.plan_encoding.proofs.Sequences.{last_ok, last_err}
use Rattle.std.specs.Prelude.{All}
use Rattle.rail_base.specs.Routes.{IsRoute}
use Rattle.plan_encoding.specs.Tables.{leading}
use Rattle.std.proofs.Common.{List}
use Rattle.plan_encoding.proofs.Starting.{starts_first, starts_never, starts_led}
use Rattle.plan_encoding.proofs.tables.Tables.emit_starts_of.Goals as goal

pub row_of-row-requires-clause-within : goal.row_of-row-requires-clause-within
row_of-row-requires-clause-within c =
    let e = length_rows c.args.self.now.encoder.interlocking.now.routes (leading c.args.self.now.encoder.interlocking.now.routes) c.deref.result.now (c.deref.ensures.value ∙ c.args.self.now.led) in
    let r = c.requires.command.route.1 in
    omega arith

pub routes_among-requires-clause-train : goal.routes_among-requires-clause-train
routes_among-requires-clause-train c = c.requires.command.train

pub routes_among-requires-clause-routes : goal.routes_among-requires-clause-routes
routes_among-requires-clause-routes c = subst (λ (rs : List RouteNo). All (IsRoute c.args.self.now.encoder.interlocking.now.routes) rs) (sym (c.row_of-row.ensures ∙ row_is c.args.self.now.encoder.interlocking.now.routes (leading c.args.self.now.encoder.interlocking.now.routes) c.deref.result.now (c.deref.ensures.value ∙ c.args.self.now.led) c.args.command.route c.requires.command.route)) (all_kept c.args.self.now.encoder.interlocking.now.routes _)

pub emit_led-requires-clause-leading : goal.emit_led-requires-clause-leading
emit_led-requires-clause-leading c = subst (λ (rs : List RouteNo). HasCommands c.args.self.now.encoder c.args.command.train rs) (sym c.deref-in-Signal.ensures.value) c.in_ok-leading-in-Signal.ensures.known

pub returns-then-may_start-clause-ok : goal.returns-then-may_start-clause-ok
returns-then-may_start-clause-ok c = ap (λ cs. emitted c.args.sink.now (numbered_clauses c.args.self.now.encoder cs)) (starts_first (is_among (commands c.args.self.now.encoder)) c.args.self.now.encoder.interlocking.now.design.station c.args.self.now.encoder.interlocking.now.routes c.args.self.now.encoder.steps.count c.args.command c.route_at.result.now.start c.in-Boundary.node (ap (λ r. r.start) (sym c.route_at.ensures)) c.in-Boundary.is (sym c.may_start.ensures ∙ c.if-may_start.true))

pub returns-else-may_start-clause-ok : goal.returns-else-may_start-clause-ok
returns-else-may_start-clause-ok c = last_ok _ _ c.emit_never.result (ap (λ cs. emitted c.args.sink.now (numbered_clauses c.args.self.now.encoder cs)) (sym (starts_never (is_among (commands c.args.self.now.encoder)) c.args.self.now.encoder.interlocking.now.design.station c.args.self.now.encoder.interlocking.now.routes c.args.self.now.encoder.steps.count c.args.command c.route_at.result.now.start c.in-Boundary.node (ap (λ r. r.start) (sym c.route_at.ensures)) c.in-Boundary.is (sym c.may_start.ensures ∙ c.if-may_start.false)))) c.emit_never.new.sink c.emit_never.ensures.ok

pub returns-else-may_start-clause-err : goal.returns-else-may_start-clause-err
returns-else-may_start-clause-err c = last_err _ _ c.emit_never.result (ap (λ cs. emitted c.args.sink.now (numbered_clauses c.args.self.now.encoder cs)) (sym (starts_never (is_among (commands c.args.self.now.encoder)) c.args.self.now.encoder.interlocking.now.design.station c.args.self.now.encoder.interlocking.now.routes c.args.self.now.encoder.steps.count c.args.command c.route_at.result.now.start c.in-Boundary.node (ap (λ r. r.start) (sym c.route_at.ensures)) c.in-Boundary.is (sym c.may_start.ensures ∙ c.if-may_start.false)))) c.emit_never.ensures.err

pub returns-in_ok-leading-in-Signal-clause-ok : goal.returns-in_ok-leading-in-Signal-clause-ok
returns-in_ok-leading-in-Signal-clause-ok c = last_ok _ _ c.emit_led.result (ap (λ cs. emitted c.args.sink.now (numbered_clauses c.args.self.now.encoder cs)) (sym (starts_led (is_among (commands c.args.self.now.encoder)) c.args.self.now.encoder.interlocking.now.design.station c.args.self.now.encoder.interlocking.now.routes c.args.self.now.encoder.steps.count c.args.command c.route_at.result.now.start c.in-Signal.field-0 c.deref-in-Signal.result.now (ap (λ r. r.start) (sym c.route_at.ensures)) c.in-Signal.is (c.deref-in-Signal.ensures.value ∙ (c.in_ok-leading-in-Signal.ensures.value ∙ ap (filter (is_live_for (is_among (commands c.args.self.now.encoder)) c.args.command.train)) (c.row_of-row.ensures ∙ row_is c.args.self.now.encoder.interlocking.now.routes (leading c.args.self.now.encoder.interlocking.now.routes) c.deref.result.now (c.deref.ensures.value ∙ c.args.self.now.led) c.args.command.route c.requires.command.route)))))) c.emit_led.new.sink c.emit_led.ensures.ok

pub returns-in_ok-leading-in-Signal-clause-err : goal.returns-in_ok-leading-in-Signal-clause-err
returns-in_ok-leading-in-Signal-clause-err c = last_err _ _ c.emit_led.result (ap (λ cs. emitted c.args.sink.now (numbered_clauses c.args.self.now.encoder cs)) (sym (starts_led (is_among (commands c.args.self.now.encoder)) c.args.self.now.encoder.interlocking.now.design.station c.args.self.now.encoder.interlocking.now.routes c.args.self.now.encoder.steps.count c.args.command c.route_at.result.now.start c.in-Signal.field-0 c.deref-in-Signal.result.now (ap (λ r. r.start) (sym c.route_at.ensures)) c.in-Signal.is (c.deref-in-Signal.ensures.value ∙ (c.in_ok-leading-in-Signal.ensures.value ∙ ap (filter (is_live_for (is_among (commands c.args.self.now.encoder)) c.args.command.train)) (c.row_of-row.ensures ∙ row_is c.args.self.now.encoder.interlocking.now.routes (leading c.args.self.now.encoder.interlocking.now.routes) c.deref.result.now (c.deref.ensures.value ∙ c.args.self.now.led) c.args.command.route c.requires.command.route)))))) c.emit_led.ensures.err

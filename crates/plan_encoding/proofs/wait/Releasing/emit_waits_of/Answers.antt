use Rattle.std.proofs.Common.{length, map, ap, ◌∙◌}
use Rattle.live_clause_spec.specs.Listed.{live_chains, live_waits}
use Rattle.command_set.specs.Commands.{is_among}
use Rattle.plan_encoding.specs.Sinks.{emitted}
use Rattle.plan_encoding.specs.Encoders.{commands, numbered_clauses}
use Rattle.plan_encoding.specs.Waiting.{waits_over}
use Rattle.plan_encoding.proofs.Sequences.{last_ok, last_err}
use Rattle.plan_encoding.proofs.Tabled.{nothing_known}
use Rattle.clause_spec.specs.Clauses.{clearing, left_by}
use Rattle.rail_base.specs.Routes.{own_shared, release_offset, route_at}
use Rattle.plan_encoding.proofs.wait.Releasing.emit_waits_of.Goals as goal

pub returns-clause-ok : goal.returns-clause-ok
returns-clause-ok c = last_ok (emitted c.args.sink.now (numbered_clauses c.args.self.now.tables.now.encoder (live_waits (is_among (commands c.args.self.now.tables.now.encoder)) c.args.self.now.tables.now.encoder.interlocking.now.design.station c.args.self.now.tables.now.encoder.interlocking.now.routes c.args.self.now.tables.now.encoder.steps.count (c.args.self.now.first, c.args.second)))) _ c.emit_chains.result (ap (λ cs. emitted c.args.sink.now (numbered_clauses c.args.self.now.tables.now.encoder (waits_over (is_among (commands c.args.self.now.tables.now.encoder)) c.args.self.now.tables.now.encoder.interlocking.now.design.station c.args.self.now.tables.now.encoder.interlocking.now.routes c.args.self.now.tables.now.encoder.steps.count c.args.self.now.first c.args.second cs))) ((ap (λ m. live_chains (is_among (commands c.args.self.now.tables.now.encoder)) c.args.self.now.tables.now.encoder.interlocking.now.routes c.args.self.now.first.train m c.clearing.result c.new-chain.result.items c.args.self.now.first.route) c.len-more.ensures ∙ (ap (λ b. live_chains (is_among (commands c.args.self.now.tables.now.encoder)) c.args.self.now.tables.now.encoder.interlocking.now.routes c.args.self.now.first.train (length c.args.self.now.tables.now.encoder.interlocking.now.routes) b c.new-chain.result.items c.args.self.now.first.route) (c.clearing.ensures.value ∙ (c.args.self.now.released c.sections.result.now (route_at c.args.self.now.tables.now.encoder.interlocking.now.routes c.args.second.route) c.vehicle_of.result.now.length_mm c.sections.ensures ∙ ap (λ v. left_by (map (release_offset (route_at c.args.self.now.tables.now.encoder.interlocking.now.routes c.args.self.now.first.route)) (own_shared (route_at c.args.self.now.tables.now.encoder.interlocking.now.routes c.args.self.now.first.route) (route_at c.args.self.now.tables.now.encoder.interlocking.now.routes c.args.second.route))) v.length_mm) c.vehicle_of.ensures)) ∙ ap (λ ch. live_chains (is_among (commands c.args.self.now.tables.now.encoder)) c.args.self.now.tables.now.encoder.interlocking.now.routes c.args.self.now.first.train (length c.args.self.now.tables.now.encoder.interlocking.now.routes) (clearing c.args.self.now.tables.now.encoder.interlocking.now.design.station c.args.self.now.tables.now.encoder.interlocking.now.routes c.args.self.now.tables.now.encoder.steps.count c.args.self.now.first c.args.second) ch c.args.self.now.first.route) c.new-chain.ensures.items)))) c.emit_chains.new.sink c.emit_chains.ensures.ok

pub returns-clause-err : goal.returns-clause-err
returns-clause-err c = last_err (emitted c.args.sink.now (numbered_clauses c.args.self.now.tables.now.encoder (live_waits (is_among (commands c.args.self.now.tables.now.encoder)) c.args.self.now.tables.now.encoder.interlocking.now.design.station c.args.self.now.tables.now.encoder.interlocking.now.routes c.args.self.now.tables.now.encoder.steps.count (c.args.self.now.first, c.args.second)))) _ c.emit_chains.result (ap (λ cs. emitted c.args.sink.now (numbered_clauses c.args.self.now.tables.now.encoder (waits_over (is_among (commands c.args.self.now.tables.now.encoder)) c.args.self.now.tables.now.encoder.interlocking.now.design.station c.args.self.now.tables.now.encoder.interlocking.now.routes c.args.self.now.tables.now.encoder.steps.count c.args.self.now.first c.args.second cs))) ((ap (λ m. live_chains (is_among (commands c.args.self.now.tables.now.encoder)) c.args.self.now.tables.now.encoder.interlocking.now.routes c.args.self.now.first.train m c.clearing.result c.new-chain.result.items c.args.self.now.first.route) c.len-more.ensures ∙ (ap (λ b. live_chains (is_among (commands c.args.self.now.tables.now.encoder)) c.args.self.now.tables.now.encoder.interlocking.now.routes c.args.self.now.first.train (length c.args.self.now.tables.now.encoder.interlocking.now.routes) b c.new-chain.result.items c.args.self.now.first.route) (c.clearing.ensures.value ∙ (c.args.self.now.released c.sections.result.now (route_at c.args.self.now.tables.now.encoder.interlocking.now.routes c.args.second.route) c.vehicle_of.result.now.length_mm c.sections.ensures ∙ ap (λ v. left_by (map (release_offset (route_at c.args.self.now.tables.now.encoder.interlocking.now.routes c.args.self.now.first.route)) (own_shared (route_at c.args.self.now.tables.now.encoder.interlocking.now.routes c.args.self.now.first.route) (route_at c.args.self.now.tables.now.encoder.interlocking.now.routes c.args.second.route))) v.length_mm) c.vehicle_of.ensures)) ∙ ap (λ ch. live_chains (is_among (commands c.args.self.now.tables.now.encoder)) c.args.self.now.tables.now.encoder.interlocking.now.routes c.args.self.now.first.train (length c.args.self.now.tables.now.encoder.interlocking.now.routes) (clearing c.args.self.now.tables.now.encoder.interlocking.now.design.station c.args.self.now.tables.now.encoder.interlocking.now.routes c.args.self.now.tables.now.encoder.steps.count c.args.self.now.first c.args.second) ch c.args.self.now.first.route) c.new-chain.ensures.items)))) c.emit_chains.ensures.err

pub emit_chains-requires-clause-chain : goal.emit_chains-requires-clause-chain
emit_chains-requires-clause-chain c = nothing_known c.args.self.now.tables.now.encoder c.args.self.now.first.train c.new-chain.result.items c.new-chain.ensures.items

pub emit_chains-requires-clause-route : goal.emit_chains-requires-clause-route
emit_chains-requires-clause-route c = c.args.self.now.first_known

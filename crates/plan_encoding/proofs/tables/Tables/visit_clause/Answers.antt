use Rattle.live_clause_spec.specs.Variables.{live_numbered}
use Rattle.std.proofs.Common.{◌++◌, filter, sym, ap, ◌∙◌}
use Rattle.clause_spec.specs.Variables.{Given, yes}
use Rattle.clause_spec.specs.Clauses.{may_visit}
use Rattle.plan_encoding.specs.Families.{one_given}
use Rattle.plan_encoding.specs.Encoders.{among, over, written}
use Rattle.command_set.proofs.Gathering.{chosen_next}
use Rattle.plan_encoding.proofs.tables.Tables.visit_clause.Goals as goal
use Rattle.std.proofs.lemmas.List.{drop_more}

pub loop-route-init : goal.loop-route-init
loop-route-init c =
    ap (λ xs. xs ++ written c.args.self.now.encoder (one_given c.args.train (filter (over c.args.self.now.encoder may_visit c.args.number c.args.set.now) c.routes_of-route-items.result.now) c.args.self.now.encoder.steps.count)) c.new-clause.ensures.items
    ∙ ap (λ rs. written c.args.self.now.encoder (one_given c.args.train (filter (over c.args.self.now.encoder may_visit c.args.number c.args.set.now) rs) c.args.self.now.encoder.steps.count)) c.routes_of-route-items.ensures.value

pub given_lit-literal-requires-clause-command : goal.given_lit-literal-requires-clause-command
given_lit-literal-requires-clause-command c = c.routes_of-route-items.ensures.known c.loop-route.route-index _ c.loop-route-test.true

pub may_visit-visits-requires : goal.may_visit-visits-requires
may_visit-visits-requires c = record { route = (c.routes_of-route-items.ensures.known c.loop-route.route-index _ c.loop-route-test.true).route }

pub loop-route-preserved : goal.loop-route-preserved
loop-route-preserved c =
    chosen_next c.loop-route.clause.items c.push_if.new.list.items _ _ _ _ (drop_more c.routes_of-route-items.result.now c.loop-route.route-index _ c.loop-route-test.true)
    (over c.args.self.now.encoder may_visit c.args.number c.args.set.now) (λ r. yes (Given (record { train = c.args.train; route = r }) c.args.self.now.encoder.steps.count)) (among c.args.self.now.encoder live_numbered)
    (sym c.may_visit-visits.ensures) c.given_lit-literal.ensures c.in_ok-push_if.ensures c.loop-route.invariant

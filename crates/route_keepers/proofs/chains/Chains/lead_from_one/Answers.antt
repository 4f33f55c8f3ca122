use Rattle.std.proofs.Common.{◌≡◌, ◌+◌, true, false, Bool, ◌||◌, drop, get_or, sym, ap, ◌∙◌}
use Rattle.std.specs.List.{list_any}
use Rattle.std.proofs.lemmas.List.{at_drop_all, at_drop_more}
use Rattle.rail_base.specs.declared.route.RouteNo.{RouteNo}
use Rattle.normal_clause_spec.specs.Clauses.{leads_to}
use Rattle.route_keepers.proofs.chains.Chains.lead_from_one.Goals as goal

pub returns-then-lead : goal.returns-then-lead
returns-then-lead c =
    let routes = c.args.self.now.interlocking.now.routes in
    let firsts = c.args.firsts.now in
    let i = c.loop-first.first-index in
    let test : RouteNo → Bool = λ v. leads_to routes v c.args.last in
    let v : RouteNo = get_or firsts i (record { 0 = 0 }) in
    let step : list_any test (drop i firsts) ≡ (test v || list_any test (drop (i + 1) firsts)) = at_drop_more (list_any test) firsts i (record { 0 = 0 }) c.loop-first-test.true in
    let is : test v ≡ true = sym c.if-lead.ensures in
    sym (ap (λ b. b || list_any test (drop (i + 1) firsts)) is) ∙ sym step ∙ c.loop-first.invariant

pub loop-first-preserved : goal.loop-first-preserved
loop-first-preserved c =
    let routes = c.args.self.now.interlocking.now.routes in
    let firsts = c.args.firsts.now in
    let i = c.loop-first.first-index in
    let test : RouteNo → Bool = λ v. leads_to routes v c.args.last in
    let v : RouteNo = get_or firsts i (record { 0 = 0 }) in
    let step : list_any test (drop i firsts) ≡ (test v || list_any test (drop (i + 1) firsts)) = at_drop_more (list_any test) firsts i (record { 0 = 0 }) c.loop-first-test.true in
    let is : test v ≡ false = sym c.if-lead.ensures in
    sym (ap (λ b. b || list_any test (drop (i + 1) firsts)) is) ∙ sym step ∙ c.loop-first.invariant

pub returns : goal.returns
returns c =
    let routes = c.args.self.now.interlocking.now.routes in
    sym (at_drop_all (list_any (λ v. leads_to routes v c.args.last)) c.args.firsts.now c.loop-first.first-index c.loop-first-test.false) ∙ c.loop-first.invariant

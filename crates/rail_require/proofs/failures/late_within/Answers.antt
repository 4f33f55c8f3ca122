-- The first that fails is found by its place.
use Rattle.std.proofs.Common.{◌≡◌, ◌+◌, ap, ◌∙◌, option_map, rules, tests}
use Rattle.std.specs.List.{position_from}
use Rattle.std.proofs.lemmas.Iterator.{YieldsList-from_slice}
use Rattle.std.proofs.lemmas.Iterator.Search.{position_from_yields_List}
use Rattle.std.proofs.lemmas.Iterator.Adapters.{position_from-zero}
use Rattle.rail_base.specs.declared.plan.Violation.TheVariants as violation
use Rattle.rail_require.specs.Violations.{is_late, is_certain}
use Rattle.rail_require.proofs.Finding.{found, entry-get}
use Rattle.rail_require.proofs.failures.late_within.Goals as goal

pub returns : goal.returns
returns c =
    let d = c.args.design.now.station in
    let test = is_late d c.args.history.now c.args.tick in
    let place : c.position.result ≡ position_from test 0 d.withins = position_from_yields_List test _ _ c.position.result c.position.ensures.ran (YieldsList-from_slice d.withins cc) (λ x b q k. search (rules, tests)) ∙ position_from-zero test d.withins in
    let made : c.map.result ≡ option_map (λ i. violation.Within (i + 1)) c.position.result = search rules in
    made ∙ found (is_certain d c.args.history.now c.args.tick) violation.Within test d.withins c.position.result place (λ i x g. ap test (entry-get _ d.withins i x g))

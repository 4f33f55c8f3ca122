-- The number is one more than the place.
use Rattle.std.proofs.Common.{◌≡◌, ℕ, ◌+◌, Bool, not, Option, ◌∙◌, option_map, rules, tests}
use Rattle.std.specs.List.{position_from}
use Rattle.std.proofs.lemmas.Iterator.{YieldsList-from_slice}
use Rattle.std.proofs.lemmas.Iterator.Search.{position_from_yields_List}
use Rattle.std.proofs.lemmas.Iterator.Adapters.{position_from-zero}
use Rattle.rail_base.specs.declared.route.RouteNo.{RouteNo}
use Rattle.rail_require.specs.Ticks.{is_by}
use Rattle.rail_require.proofs.Finding.{number-place}
use Rattle.rail_require.proofs.failures.first_ungranted.Goals as goal

pub returns : goal.returns
returns c =
    let test : RouteNo × Option ℕ → Bool = λ g. not (is_by c.args.tick g.1) in
    let place : c.position.result ≡ position_from test 0 c.args.train.now.grants = position_from_yields_List test _ _ c.position.result c.position.ensures.ran (YieldsList-from_slice c.args.train.now.grants cc) (λ x b q k. search (rules, tests)) ∙ position_from-zero test c.args.train.now.grants in
    let made : c.map.result ≡ option_map (λ i. i + 1) c.position.result = search rules in
    made ∙ number-place test c.args.train.now.grants c.position.result place

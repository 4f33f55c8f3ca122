-- The number is one more than the place.
use Rattle.std.proofs.Common.{◌≡◌, ◌+◌, Bool, is_none, Option, ◌∙◌, option_map, rules, tests}
use Rattle.std.specs.List.{position_from}
use Rattle.std.proofs.lemmas.Iterator.{YieldsList-from_slice}
use Rattle.std.proofs.lemmas.Iterator.Search.{position_from_yields_List}
use Rattle.std.proofs.lemmas.Iterator.Adapters.{position_from-zero}
use Rattle.rail_base.specs.declared.state.PathNode.{PathNode}
use Rattle.rail_require.proofs.Finding.{number-place}
use Rattle.rail_course.proofs.missed.first_missed.Goals as goal

pub returns : goal.returns
returns c =
    let test : Option PathNode → Bool = is_none in
    let place : c.position.result ≡ position_from test 0 c.args.visits.now = position_from_yields_List test _ _ c.position.result c.position.ensures.ran (YieldsList-from_slice c.args.visits.now cc) (λ x b q k. search (rules, tests)) ∙ position_from-zero test c.args.visits.now in
    let made : c.map.result ≡ option_map (λ i. i + 1) c.position.result = search rules in
    made ∙ number-place test c.args.visits.now c.position.result place

-- The numbers of variables: from 1 to their count, and none twice.
use Rattle.std.proofs.Common.{◌≡◌, ℕ, ◌≤◌, List, ◌++◌, map, flat_map, length, Some, slice_get, sym, ap, ◌∙◌, arith, length-append}
use Rattle.std.proofs.lemmas.Option.{slice_get_within}
use Rattle.rail_base.specs.declared.station.Station.{Station}
use Rattle.rail_base.specs.declared.route.Route.{Route}
use Rattle.rail_base.specs.declared.plan.Command.{Command}
use Rattle.rail_base.specs.Numbering.{one_to}
use Rattle.clause_spec.specs.Variables.{Variable, Given, Before, By, pairs, variables, number_of, variable_count}
use Rattle.rail_spec.specs.Plans.{all_commands}
use Rattle.clause_spec.proofs.Numbers.{Known, stands_known, length-all}
use Rattle.rail_base.proofs.Lists.{length-map, length-count}

module _ (d : Station) (routes : List Route) (n : ℕ) where
  pub length-variables : length (variables d routes n) ≡ variable_count d routes n
  length-variables =
      let before : Command × Command → Variable = λ p. Before p.0 p.1 in
      let row : Command → List Variable = λ c. map (Given c) (one_to n) in
      let a = length-append (flat_map row (all_commands d routes)) (map before (pairs d routes) ++ map By (one_to n)) in
      let b = length-append (map before (pairs d routes)) (map By (one_to n)) in
      let e = length-map before (pairs d routes) in
      let f = length-map By (one_to n) in
      let g = length-count 1 n in
      let h = length-all d routes n in
      omega arith

  pub number_high : (v : Variable) → Known d routes n v → number_of d routes n v ≤ variable_count d routes n
  number_high v k =
      let s = stands_known d routes n v k in
      let e = s.number in
      let w = slice_get_within (variables d routes n) s.index v s.there in
      let l = length-variables in
      omega arith

  pub one_number : (v w : Variable) → Known d routes n v → Known d routes n w → number_of d routes n v ≡ number_of d routes n w → v ≡ w
  one_number v w k l e =
      let s = stands_known d routes n v k in
      let t = stands_known d routes n w l in
      let a = s.number in
      let b = t.number in
      let same : s.index ≡ t.index = omega arith in
      only (sym s.there ∙ (ap (slice_get (variables d routes n)) same ∙ t.there))
    where
      only : Some v ≡ Some w → v ≡ w
      only e = cc

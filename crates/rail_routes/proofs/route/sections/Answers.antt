use Rattle.std.proofs.Common.{◌≡◌, ℤ, pos, List, length, map, get_or, ap, subst, ◌∙◌, arith}
use Rattle.std.proofs.lemmas.Result.{IfOk-weaker}
use Rattle.rail_base.specs.declared.station.SectionNo.{SectionNo}
use Rattle.rail_base.specs.Members.{In}
use Rattle.rail_base.specs.Stations.{section_of}
use Rattle.rail_base.proofs.Admitting.{admitted}
use Rattle.rail_spec.specs.Track.{edge_ends, first_occurrences, last_end}
use Rattle.rail_routes.proofs.Walking.{section_there, map-same}
use Rattle.rail_routes.proofs.route.sections.Goals as goal

pub with_ends-requires-clause-sections : goal.with_ends-requires-clause-sections
with_ends-requires-clause-sections c z m =
    let d = c.args.design.now.station in
    let order = c.as_slice.ensures.value ∙ c.in_ok-order.ensures in
    let there = section_there d c.args.path.now z (admitted d c.args.design.now.admitted) c.requires (subst (In z) order m) in
    let many = ap length c.as_slice-2.ensures.value ∙ c.in_ok-ends.ensures.every_section in
    omega arith

pub returns : goal.returns
returns c =
    let d = c.args.design.now.station in
    let path = c.args.path.now in
    let order = c.as_slice.ensures.value ∙ c.in_ok-order.ensures in
    let firsts = first_occurrences (map (section_of d) path) in
    let told : SectionNo → SectionNo × ℤ = λ z. (z, pos (last_end d z (edge_ends d 0 path))) in
    let read : SectionNo → SectionNo × ℤ = λ z. (z, pos (get_or c.as_slice-2.result.now z.0 0)) in
    let same = map-same read told firsts (λ z m. ap (λ n. (z, pos n)) (ap (λ es. get_or es z.0 0) c.as_slice-2.ensures.value ∙ c.in_ok-ends.ensures.value z (section_there d path z (admitted d c.args.design.now.admitted) c.requires m))) in
    IfOk-weaker c.with_ends.result (λ (released : List (SectionNo × ℤ)). released ≡ map read c.as_slice.result.now) (λ (released : List (SectionNo × ℤ)). released ≡ map told firsts) (λ released h. h ∙ ap (map read) order ∙ same) c.with_ends.ensures

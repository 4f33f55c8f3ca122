use Rattle.std.proofs.Common.{◌≡◌, ◌<◌, ◌+◌, ◌++◌, [], ◌∷◌, List, true, false, length, map, drop, set, replicate, sym, ap, ap₂, ◌∙◌, arith, rules, length-set}
use Rattle.rail_base.specs.declared.station.SectionNo.{SectionNo}
use Rattle.rail_base.specs.Stations.{section_of}
use Rattle.rail_spec.specs.Track.{first_occurrences}
use Rattle.rail_routes.proofs.Searching.{some-place}
use Rattle.rail_routes.proofs.Walking.{edge_at, few_sections, none_seen, unseen, again_more, first_more, sections_from}
use Rattle.std.specs.List.{filter}
use Rattle.rail_routes.proofs.route.first_sections.Goals as goal
use Rattle.rail_routes.proofs.route.first_sections.Goals.{then-not-index+in_ok-push, else-not-index}

pub overflow_add-len : goal.overflow_add-len
overflow_add-len c = let few = few_sections c.args.design.now.station c.args.design.now.admitted in let len = c.len.ensures in omega arith

pub section_of-section-requires : goal.section_of-section-requires
section_of-section-requires c = edge_at c.args.design.now.station c.args.path.now c.loop-edge.edge-index _ c.requires (omega arith)

pub loop-edge-init : goal.loop-edge-init
loop-edge-init c =
    let d = c.args.design.now.station in
    let all = first_occurrences (map (section_of d) c.args.path.now) in
    let none : c.in_ok-seen.seen.items ≡ replicate (c.len.result + 1) false = search rules in
    let many : length c.in_ok-seen.seen.items ≡ length d.sections + 1 = search rules in
    record {
      many = many;
      same = ap (λ (xs : List SectionNo). xs ++ filter (unseen c.in_ok-seen.seen.items) all) c.new-sections.ensures.items ∙ none_seen c.in_ok-seen.seen.items (c.len.result + 1) all none;
    }

pub loop-edge-preserved : goal.loop-edge-preserved
loop-edge-preserved c =
    let d = c.args.design.now.station in
    let path = c.args.path.now in
    let i = c.loop-edge.edge-index in
    let seen = c.loop-edge.seen.items in
    let z = c.section_of-section.result in
    let within : i < length path = omega arith in
    let from = sections_from d path i _ z within c.section_of-section.ensures.value in
    let room : z.0 < length seen = let b = c.section_of-section.ensures.bound in let m = c.loop-edge.invariant.many in omega arith in
    let read = some-place seen z.0 false c.index.result.now room ∙ sym c.index.ensures in
    elim c.if-not-index.branch [
      | then-not-index+in_ok-push w ↦
          let off : c.index.result.now ≡ false = search rules in
          let pushed : c.if-not-index.sections.items ≡ c.loop-edge.sections.items ++ z ∷ [] = search rules in
          let marked : c.if-not-index.seen.items ≡ set seen z.0 true = search rules in
          record {
            many = ap length marked ∙ length-set seen z.0 true ∙ c.loop-edge.invariant.many;
            same =
                ap (λ s. c.if-not-index.sections.items ++ filter (unseen s) (first_occurrences (map (section_of d) (drop (i + 1) path)))) marked
                ∙ first_more z _ (map (section_of d) (drop (i + 1) path)) seen c.loop-edge.sections.items c.if-not-index.sections.items _ from room (read ∙ off) pushed c.loop-edge.invariant.same;
          }
      | else-not-index w ↦
          let on : c.index.result.now ≡ true = search rules in
          let kept : c.if-not-index.sections.items ≡ c.loop-edge.sections.items = search rules in
          let same : c.if-not-index.seen.items ≡ seen = search rules in
          record {
            many = ap length same ∙ c.loop-edge.invariant.many;
            same =
                ap₂ (λ xs s. xs ++ filter (unseen s) (first_occurrences (map (section_of d) (drop (i + 1) path)))) kept same
                ∙ again_more z _ (map (section_of d) (drop (i + 1) path)) seen c.loop-edge.sections.items _ from (read ∙ on) c.loop-edge.invariant.same;
          }
    ]

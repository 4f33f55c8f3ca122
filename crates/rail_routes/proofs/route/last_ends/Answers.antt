use Rattle.std.proofs.Common.{◌≡◌, zero, ◌<◌, ◌+◌, length, get_or, replicate, ap, ◌∙◌, arith, rules, length-set}
use Rattle.rail_base.specs.declared.station.SectionNo.{SectionNo}
use Rattle.rail_routes.proofs.Walking.{edge_at, few_sections, no_ends, end_begins, ends_below, ends_more, from_edge}
use Rattle.rail_routes.proofs.route.last_ends.Goals as goal

pub overflow_add-len : goal.overflow_add-len
overflow_add-len c = let few = few_sections c.args.design.now.station c.args.design.now.admitted in let len = c.len.ensures in omega arith

pub length_of-offset-requires : goal.length_of-offset-requires
length_of-offset-requires c = edge_at c.args.design.now.station c.args.path.now c.loop-edge.edge-index _ c.requires (omega arith)

pub section_of-section-requires : goal.section_of-section-requires
section_of-section-requires c = edge_at c.args.design.now.station c.args.path.now c.loop-edge.edge-index _ c.requires (omega arith)

pub loop-edge-init : goal.loop-edge-init
loop-edge-init c =
    let d = c.args.design.now.station in
    let ends = c.in_ok-ends.ends.items in
    let none : ends ≡ replicate (c.len.result + 1) zero = search rules in
    let many : length ends ≡ length d.sections + 1 = search rules in
    record {
      many = many;
      below = λ k. let e = no_ends ends (c.len.result + 1) k none in omega arith;
      same = λ z h. end_begins d z (get_or ends z.0 zero) c.args.path.now (no_ends ends (c.len.result + 1) z.0 none);
      bound = omega arith;
    }

pub loop-edge-preserved : goal.loop-edge-preserved
loop-edge-preserved c =
    let d = c.args.design.now.station in
    let path = c.args.path.now in
    let i = c.loop-edge.edge-index in
    let ends = c.loop-edge.ends.items in
    let s = c.section_of-section.result.0 in
    let more = c.length_of-offset.result in
    let within : i < length path = omega arith in
    let room : s < length ends = let b = c.section_of-section.ensures.bound in let m = c.loop-edge.invariant.many in omega arith in
    record {
      many = length-set ends s (c.loop-edge.offset + more) ∙ c.loop-edge.invariant.many;
      below = ends_below ends s c.loop-edge.offset more room c.loop-edge.invariant.below;
      same = λ z h. ends_more d path i c.loop-edge.offset ends _ z s more _ (from_edge path i _ within) (ap (λ (z : SectionNo). z.0) c.section_of-section.ensures.value) c.length_of-offset.ensures.value room (c.loop-edge.invariant.below z.0) (c.loop-edge.invariant.same z h);
      bound = let b = c.length_of-offset.ensures.bound in let o = c.loop-edge.invariant.bound in omega arith;
    }

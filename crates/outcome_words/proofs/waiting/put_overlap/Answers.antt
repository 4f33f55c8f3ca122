use Rattle.std.proofs.Common.{◌≡◌, true, if◌then◌else◌, [], ◌++◌, codes, ap, sym, refl, ◌∙◌}
use Rattle.rail_base.specs.declared.route.Route.{Route}
use Rattle.rail_base.specs.declared.station.SectionNo.{SectionNo}
use Rattle.rail_base.specs.declared.station.Station.{Station}
use Rattle.rail_base.specs.Routes.{overlaps}
use Rattle.cone_words.specs.Routes.{finish_name}
use Rattle.cone_words.proofs.Joining.{first_as, more_as}
use Rattle.outcome_words.specs.Waits.{overlap_text}
use Rattle.outcome_words.proofs.waiting.put_overlap.Goals as goal

-- of a section of the overlap
overlap_said : (d : Station) (r : Route) (z : SectionNo) → true ≡ overlaps r z
    → codes " of its overlap at " ++ finish_name d r.finish ≡ overlap_text d r z
overlap_said d r z so = ap (λ b. if b then codes " of its overlap at " ++ finish_name d r.finish else []) so

pub returns : goal.returns
returns c =
    let old = c.args.text.now.items in
    let t1 = first_as old _ _ _ c.in_ok-extend_from_slice.ensures.items refl in
    let t2 = more_as old _ _ _ _ _ t1 c.in_ok-extend_from_slice-2.ensures.items c.finish_name.ensures in
    first_as old _ _ _ t2 (overlap_said c.args.design.now.station c.args.route.now c.args.section (sym c.if-not-overlaps.false ∙ c.overlaps.ensures))

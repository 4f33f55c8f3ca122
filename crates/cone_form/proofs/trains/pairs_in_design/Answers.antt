use Rattle.std.proofs.Common.{Bool, Vec, Global, List, map, sym, ap, subst, ◌∙◌}
use Rattle.std.specs.List.{list_all}
use Rattle.rail_base.specs.declared.plan.Command.{Command}
use Rattle.cone_form.specs.Marks.{MarkRoutes, marked_pair}
use Rattle.cone_form.proofs.Contending.{pairs_are, routes_marked}
use Rattle.cone_form.proofs.trains.pairs_in_design.Goals as goal

items : Vec Bool Global → List Bool
items row = row.items

pub are_pairs-requires : goal.are_pairs-requires
unfolding items
are_pairs-requires c =
    let i = c.args.interlocking.now in
    subst (λ (rs : List (Vec Bool Global)). MarkRoutes i.routes (map items rs)) (sym c.as_slice.ensures.value)
    (routes_marked i.design.station i.routes c.args.cone.now c.requires (map items c.in_ok-rows.rows.items) c.in_ok-rows.ensures)

pub returns : goal.returns
unfolding items
returns c =
    let i = c.args.interlocking.now in
    let rows : List (Vec Bool Global) = c.in_ok-rows.rows.items in
    c.are_pairs.ensures
    ∙ (ap (λ (rs : List (Vec Bool Global)). list_all (marked_pair i.routes (map items rs)) c.as_slice-2.result.now) c.as_slice.ensures.value
    ∙ (ap (λ (ps : List (Command × Command)). list_all (marked_pair i.routes (map items rows)) ps) c.as_slice-2.ensures
    ∙ pairs_are i.design.station i.routes c.args.cone.now c.requires (map items rows) c.in_ok-rows.ensures c.args.cone.now.pairs))

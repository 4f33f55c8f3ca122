use Rattle.std.proofs.Common.{◌≡◌, ap, ◌∙◌, sym, arith}
use Rattle.std.specs.Option.{is_some}
use Rattle.rail_base.specs.Numbering.{first_of_list}
use Rattle.rail_plan.specs.WellFormed.{misplaced}
use Rattle.rail_plan.proofs.Named.{all_have_routes}
use Rattle.rail_plan.proofs.Empties.{none_first}
use Rattle.rail_plan.proofs.WellFormed.{formed_where_none}
use Rattle.rail_plan.proofs.formed.well_formed.Goals as goal

pub first_place-requires : goal.first_place-requires
first_place-requires c = record {
  named = rw c.as_slice.ensures (all_have_routes c.args.interlocking.now.design.station c.args.interlocking.now.routes c.args.plan.now.steps c.requires);
  below_2_32 = omega (arith, c.ranges.n);
}

pub returns-clause-formed : goal.returns-clause-formed
returns-clause-formed c =
    let places = misplaced c.args.interlocking.now.design.station c.args.interlocking.now.routes c.args.n c.args.plan.now.steps in
    let told : c.first_place.result ≡ first_of_list places = c.first_place.ensures ∙ ap (λ steps. first_of_list (misplaced c.args.interlocking.now.design.station c.args.interlocking.now.routes c.args.n steps)) c.as_slice.ensures in
    let law = formed_where_none c.args.interlocking.now.design.station c.args.interlocking.now.routes c.args.plan.now.steps c.requires c.args.n in
    let none = none_first places in
    (λ h. law.1 (none.0 (sym (ap is_some told) ∙ h)), λ h. ap is_some told ∙ none.1 (law.0 h))

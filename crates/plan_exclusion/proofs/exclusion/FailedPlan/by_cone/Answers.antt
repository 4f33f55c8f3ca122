use Rattle.std.proofs.Common.{◌≡◌, Option, List, Vec, Global, option_map, subst}
use Rattle.rail_base.proofs.Admitting.{admitted}
use Rattle.cone_spec.proofs.Refusing.{holds_of_valid}
use Rattle.sat_clause.specs.declared.lit.Lit.{Lit}
use Rattle.plan_exclusion.proofs.Failure.{formed_so, fails_so, refutes_so, excluded_so, stays}
use Rattle.plan_exclusion.proofs.exclusion.FailedPlan.by_cone.Goals as goal

mapped : (o p : Option (Vec Lit Global)) (r : Option (List Lit)) → o ≡ p → option_map (λ v. v.items) o ≡ r → option_map (λ v. v.items) p ≡ r
mapped o p r e h = subst (λ x. option_map (λ v. v.items) x ≡ r) e h

pub slice-requires-clause-formed : goal.slice-requires-clause-formed
slice-requires-clause-formed c =
    let f = c.args.self.now in
    let i = f.contention.interlocking.now in
    formed_so i.design.station f.steps.count i.routes i.table f.plan.now.steps f.runs 256 f.steps.at_most_256

pub slice-requires-clause-fails : goal.slice-requires-clause-fails
slice-requires-clause-fails c =
    let f = c.args.self.now in
    let i = f.contention.interlocking.now in
    fails_so i.design.station f.steps.count i.routes i.table f.plan.now.steps f.runs f.history.now f.tick f.violation f.fails

pub clause_of-requires : goal.clause_of-requires
clause_of-requires c =
    let f = c.args.self.now in
    let i = f.contention.interlocking.now in
    record {
      fits = (holds_of_valid i.design.station i.routes c.in_ok-cone.cone
          (refutes_so i.design.station f.steps.count i.routes i.table f.plan.now.steps f.runs (admitted i.design.station i.design.admitted) f.each f.steps.at_least_one f.steps.at_most_256 c.in_ok-cone.cone c.in_ok-cone.ensures.refutes c.in_ok-cone.ensures.is_small).valid).in_design;
    }

pub unreachable-requires : goal.unreachable-requires
unreachable-requires c =
    let f = c.args.self.now in
    let i = f.contention.interlocking.now in
    stays i.design.station f.steps.count i.routes i.table f.plan.now.steps f.runs (admitted i.design.station i.design.admitted) f.each f.steps.at_least_one f.steps.at_most_256 c.in_ok-cone.cone c.in_ok-cone.ensures.refutes c.in_ok-cone.ensures.is_small
    f.history.now f.tick f.violation f.fails c.in_ok-cone.ensures.value f.kind f.contention.pairs.now.commands f.speaks f.values.now f.decoded (mapped _ _ _ c.in_default.is c.in_ok-clause.ensures)

pub returns : goal.returns
returns c =
    let f = c.args.self.now in
    let i = f.contention.interlocking.now in
    excluded_so i.design.station f.steps.count i.routes i.table f.plan.now.steps f.runs (admitted i.design.station i.design.admitted) f.each f.steps.at_least_one f.steps.at_most_256 c.in_ok-cone.cone c.in_ok-cone.ensures.refutes c.in_ok-cone.ensures.is_small
    f.history.now f.tick f.violation f.fails c.in_ok-cone.ensures.value f.kind f.contention.pairs.now.commands f.speaks c.in_ok-line.line.items c.in-Some.clause.items c.in_ok-line.ensures (mapped _ _ _ c.in-Some.is c.in_ok-clause.ensures)

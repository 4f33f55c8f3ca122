use Rattle.std.proofs.Common.{◌≡◌, ℕ, ◌≤◌, ◌&&◌, Bool, true, false, not, List, Option, Some, MatchOption, Vec, Global, ap, ap₂, subst, sym, ◌∙◌, arith}
use Rattle.bound_spec.specs.declared.Bound.{Bound}
use Rattle.bound_spec.specs.declared.Evidence.TheVariants as evidence
use Rattle.proof_judge.proofs.Within.{written_so}
use Rattle.proof_log.specs.declared.line.Line.TheVariants.{Refute}
use Rattle.proof_log.specs.Text.{text_of_line}
use Rattle.rail_base.proofs.Admitting.{admitted}
use Rattle.rail_base.specs.declared.plan.Command.{Command}
use Rattle.rail_base.specs.Members.{In}
use Rattle.sat_clause.specs.declared.lit.Lit.{Lit}
use Rattle.order_bounds.specs.Asked.{IsClauseOfOrder, says_of}
use Rattle.order_bounds.specs.Orders.{bound_by}
use Rattle.order_bounds.proofs.Paired.{member_route, member_train, pair_in}
use Rattle.order_bounds.proofs.Spelled.{IsNumbered, spelled}
use Rattle.order_bounds.proofs.said.line_of_order.Goals as goal

pub returns : goal.returns
returns c =
    let b = c.args.design.now in
    let k = b.contention in
    let i = k.interlocking.now in
    let d = i.design.station in
    let cs = k.pairs.now.commands in
    let o = c.args.order in
    let p = c.args.pair in
    let good = admitted d i.design.admitted in
    let both = pair_in cs d i.routes k.of_design p (subst (λ (ps : List (Command × Command)). In p ps) k.paired c.requires.contend) in
    let numbered : (x : Command) → In x cs → IsNumbered x = λ x m.
    (let t = member_train cs d i.routes k.of_design x m in
    let r = member_route cs d i.routes k.of_design x m in
    let high = t.1 in
    let few = good.many_trains.1 in
    let last = r.1 in
    let most = i.at_most_2000 in
    record { train = omega (arith, high, few); low = r.0; high = omega (arith, last, most) }) in
    let said = subst (λ (f : Option (Vec Lit Global)). MatchOption f (says_of b o p ≡ false) (λ (clause : Vec Lit Global). IsClauseOfOrder b o p clause.items)) c.in-Some.is c.in_ok-clause.ensures in
    let within = c.requires.within in
    let most = good.many_orders in (
      ap₂ (λ x y. x && not y) said.0 (sym c.in_ok-is_said_before.ensures ∙ c.if-branch.false),
      written_so b.kind d b.steps.count b.steps.at_least_one (evidence.Bound (bound_by o p)) c.in_ok-line.line.items c.in-Some.clause.items said.1 (c.requires.takes (bound_by o p))
          (spelled o p (omega (arith, within, most)) (numbered p.0 both.0) (numbered p.1 both.1))
          (c.in_ok-line.ensures ∙ ap (λ (x : Bound). text_of_line (Refute (evidence.Bound x))) c.in_ok-bound_by.ensures),
    )

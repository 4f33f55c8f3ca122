use Rattle.std.proofs.Common.{◌≡◌, ◌-◌, ℕ, Bool, true, false, List, Vec, Global, Ok, sym, ap, ◌∙◌, arith}
use Rattle.std.specs.List.{list_any}
use Rattle.rail_base.specs.Numbering.{one_to}
use Rattle.rail_base.proofs.Lists.{in_count}
use Rattle.rail_base.proofs.Members.{list_any_from}
use Rattle.sat_clause.specs.declared.lit.Lit.{Lit}
use Rattle.order_bounds.specs.Asked.{IsClauseOfOrder, says_of}
use Rattle.order_bounds.proofs.Counted.{if_not_there, if_there, none_further, one_further}
use Rattle.order_bounds.proofs.said.is_said_before.Goals as goal

pub returns-then-is_some : goal.returns-then-is_some
returns-then-is_some c =
    let b = c.args.design.now in
    let p = c.args.pair in
    let e = c.loop-earlier.earlier in
    let says : ℕ → Bool = λ q. says_of b q p in
    let there = if_there c.in_ok-clause_by.field-0 (says e ≡ false) (λ (clause : Vec Lit Global). IsClauseOfOrder b e p clause.items) c.in_ok-clause_by.ensures (sym c.is_some.ensures ∙ c.if-is_some.true) in
    let some = c.loop-earlier.invariant.some in
    let less = c.loop-earlier-test.true in
    sym (list_any_from says (one_to (c.args.order - 1)) e (in_count 1 (c.args.order - 1) e some (omega (arith, less))) there.1.0)

pub loop-earlier-preserved : goal.loop-earlier-preserved
loop-earlier-preserved c =
    let b = c.args.design.now in
    let p = c.args.pair in
    let e = c.loop-earlier.earlier in
    let says : ℕ → Bool = λ q. says_of b q p in
    let none = if_not_there c.in_ok-clause_by.field-0 (says e ≡ false) (λ (clause : Vec Lit Global). IsClauseOfOrder b e p clause.items) c.in_ok-clause_by.ensures (sym c.is_some.ensures ∙ c.if-is_some.false) in
    let some = c.loop-earlier.invariant.some in
    record {
      some = omega arith;
      none = ap (list_any says) (one_further e some) ∙ none_further says (one_to (e - 1)) e c.loop-earlier.invariant.none none;
    }

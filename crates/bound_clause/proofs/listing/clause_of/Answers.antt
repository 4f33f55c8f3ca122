use Rattle.std.proofs.Common.{Bool, List, None, Some, if◌then◌else◌, sym, ap, ◌∙◌}
use Rattle.rail_base.specs.Members.{all_neighbors}
use Rattle.sat_clause.specs.declared.lit.Lit.{Lit}
use Rattle.cone_clause.specs.Contentions.{among}
use Rattle.bound_clause.proofs.Ordering.{is_less}
use Rattle.bound_clause.proofs.Settling.{listed, none_denied, none_listed}
use Rattle.bound_clause.proofs.listing.clause_of.Goals as goal

pub returns-then-said : goal.returns-then-said
returns-then-said c =
    let interlocking = c.args.contention.now.interlocking.now in
    let items = c.in_ok-said.said.literals.items in
    none_denied (among c.args.contention.now) interlocking.design.station interlocking.routes c.args.steps.count c.args.steps.at_least_one c.args.bound.now c.requires.names
    (sym (ap (λ (b : Bool). if b then None else Some items) c.if-said.true) ∙ c.in_ok-said.ensures)

pub returns-then-rises : goal.returns-then-rises
returns-then-rises c =
    let interlocking = c.args.contention.now.interlocking.now in
    let items = c.in_ok-said.said.literals.items in
    listed (among c.args.contention.now) interlocking.design.station interlocking.routes c.args.steps.count c.args.steps.at_least_one c.args.bound.now c.requires.names items c.put_in_order.new.clause.items
    (sym (ap (λ (b : Bool). if b then None else Some items) c.if-said.false) ∙ c.in_ok-said.ensures) c.put_in_order.ensures
    (sym (ap (λ (ls : List Lit). all_neighbors is_less ls) c.deref.ensures.value) ∙ (sym c.rises.ensures ∙ c.if-rises.true))

pub returns-else-rises : goal.returns-else-rises
returns-else-rises c =
    let interlocking = c.args.contention.now.interlocking.now in
    let items = c.in_ok-said.said.literals.items in
    none_listed (among c.args.contention.now) interlocking.design.station interlocking.routes c.args.steps.count c.args.steps.at_least_one c.args.bound.now c.requires.names items c.put_in_order.new.clause.items
    (sym (ap (λ (b : Bool). if b then None else Some items) c.if-said.false) ∙ c.in_ok-said.ensures) c.put_in_order.ensures
    (sym (ap (λ (ls : List Lit). all_neighbors is_less ls) c.deref.ensures.value) ∙ (sym c.rises.ensures ∙ c.if-rises.false))

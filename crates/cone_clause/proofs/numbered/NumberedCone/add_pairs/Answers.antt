use Rattle.std.proofs.Common.{List, get_or, subst}
use Rattle.rail_base.specs.declared.plan.Command.{Command}
use Rattle.rail_base.specs.Members.{In}
use Rattle.cone_form.proofs.Orders.{member_at}
use Rattle.cone_clause.specs.Places.{Adds, IsPlaceOf}
use Rattle.cone_clause.proofs.Adding.{adds_one, adds_none, adds_more, adds_all}
use Rattle.cone_clause.proofs.Said.{one_place}
use Rattle.cone_clause.proofs.Turning.{listed_among}
use Rattle.cone_clause.proofs.numbered.NumberedCone.add_pairs.Goals as goal

none : Command
none = record { train = record { 0 = 0 }; route = record { 0 = 0 } }

pub loop-pair-init : goal.loop-pair-init
loop-pair-init c = adds_none (λ (p : Command × Command). IsPlaceOf c.args.self.now.contention.pairs.now.pairs p) c.as_slice-pair-items.result.now _

pub loop-pair-preserved : goal.loop-pair-preserved
unfolding none
loop-pair-preserved c =
    let pairs : List (Command × Command) = c.args.self.now.contention.pairs.now.pairs in
    let listed : List (Command × Command) = c.as_slice-pair-items.result.now in
    let pair : Command × Command = get_or listed c.loop-pair.pair-index (none, none) in
    let member : In pair c.args.self.now.cone.now.pairs = subst (λ (ps : List (Command × Command)). In pair ps) c.as_slice-pair-items.ensures (member_at listed c.loop-pair.pair-index (none, none) c.loop-pair-test.true) in
    let there = one_place pairs pair c.place_of.result c.place_of.ensures.index (listed_among c.args.self.now pair member) in
    adds_more (λ (p : Command × Command). IsPlaceOf pairs p) listed c.loop-pair.pair-index (none, none) c.args.places.now.items c.loop-pair.places.items c.push.new.self.items c.loop-pair-test.true c.loop-pair.invariant
    (adds_one (IsPlaceOf pairs pair) c.place_of.result c.loop-pair.places.items c.push.new.self.items c.in_ok-push.ensures.items there c.place_of.ensures.index)

pub returns : goal.returns
returns c =
    let pairs : List (Command × Command) = c.args.self.now.contention.pairs.now.pairs in
    subst (λ (ps : List (Command × Command)). Adds (λ i. (p : Command × Command) × In p ps × IsPlaceOf pairs p i) c.args.places.now.items c.loop-pair.places.items) c.as_slice-pair-items.ensures
    (adds_all (λ (p : Command × Command). IsPlaceOf pairs p) c.as_slice-pair-items.result.now c.loop-pair.pair-index _ _ c.loop-pair-test.false c.loop-pair.invariant)

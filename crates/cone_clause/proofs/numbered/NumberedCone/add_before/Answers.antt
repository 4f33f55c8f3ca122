use Rattle.std.proofs.Common.{◌≡◌, ℕ, List, filter, get_or, map, ap, ◌∙◌}
use Rattle.rail_base.specs.declared.plan.Command.{Command}
use Rattle.rail_base.specs.Members.{In}
use Rattle.rail_spec.specs.Plans.{is_command}
use Rattle.cone_form.proofs.Orders.{member_at}
use Rattle.cone_clause.specs.Places.{IsPlaceOf, IsPlaceBefore}
use Rattle.cone_clause.proofs.Adding.{adds_one, adds_none, adds_more, adds_all, adds_same}
use Rattle.cone_clause.proofs.Said.{before_of, from_others, to_others, one_place}
use Rattle.cone_clause.proofs.Turning.{turned}
use Rattle.cone_clause.proofs.numbered.NumberedCone.add_before.Goals as goal

none : Command
none = record { train = record { 0 = 0 }; route = record { 0 = 0 } }

pub loop-other-init : goal.loop-other-init
loop-other-init c = adds_none (λ (e : Command). IsPlaceOf c.args.self.now.contention.pairs.now.pairs (e, c.args.command)) c.deref-other-items.result.now _

pub loop-other-preserved : goal.loop-other-preserved
unfolding none
loop-other-preserved c =
    let pairs : List (Command × Command) = c.args.self.now.contention.pairs.now.pairs in
    let others : List Command = c.deref-other-items.result.now in
    let run : map (λ e. (c.args.command, e)) others ≡ filter (λ p. is_command p.0 c.args.command) pairs = ap (map (λ e. (c.args.command, e))) c.deref-other-items.ensures.value ∙ c.in_ok-others.ensures.pairs in
    let place : Command → ℕ → Type 0 = λ e. IsPlaceOf pairs (e, c.args.command) in
    let other : Command = get_or others c.loop-other.other-index none in
    let member : In other others = member_at others c.loop-other.other-index none c.loop-other-test.true in
    let there = one_place pairs (other, c.args.command) c.place_of.result c.place_of.ensures.index (before_of pairs c.args.command others run (turned c.args.self.now.contention) other member) in
    adds_more place others c.loop-other.other-index none c.args.places.now.items c.loop-other.places.items c.push.new.self.items c.loop-other-test.true c.loop-other.invariant
    (adds_one (place other) c.place_of.result c.loop-other.places.items c.push.new.self.items c.in_ok-push.ensures.items there c.place_of.ensures.index)

pub returns : goal.returns
returns c =
    let pairs : List (Command × Command) = c.args.self.now.contention.pairs.now.pairs in
    let others : List Command = c.deref-other-items.result.now in
    let run : map (λ e. (c.args.command, e)) others ≡ filter (λ p. is_command p.0 c.args.command) pairs = ap (map (λ e. (c.args.command, e))) c.deref-other-items.ensures.value ∙ c.in_ok-others.ensures.pairs in
    let place : Command → ℕ → Type 0 = λ e. IsPlaceOf pairs (e, c.args.command) in
    adds_same (λ i. (e : Command) × In e others × place e i) (IsPlaceBefore pairs c.args.command) _ _ (from_others pairs c.args.command others run) (to_others pairs c.args.command others run (turned c.args.self.now.contention))
    (adds_all place others c.loop-other.other-index _ _ c.loop-other-test.false c.loop-other.invariant)

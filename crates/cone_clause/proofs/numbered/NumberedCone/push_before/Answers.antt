use Rattle.std.proofs.Common.{Bool, ℕ, ◌+◌, ◌*◌, ◌<◌, ◌≤◌, List, length, drop, get_or, sym, ap, subst, arith, append-nil, Vec, Global, ◌∙◌}
use Rattle.std.specs.List.Sorted.{IsNonDecreasing}
use Rattle.rail_base.specs.declared.plan.Command.{Command}
use Rattle.rail_base.specs.Members.{In}
use Rattle.sat_clause.specs.declared.lit.Lit.{Lit}
use Rattle.cone_form.proofs.Orders.{member_at}
use Rattle.cone_clause.specs.Contentions.{among}
use Rattle.cone_clause.specs.Places.{ArePlacesOfPairs, IsSaid, AreSaid}
use Rattle.cone_clause.proofs.Small.{said_inside}
use Rattle.cone_clause.proofs.Said.{listed_at, place_inside, SaysUpTo, says_more, says_all, none_between, left_after, left_same, none_left}
use Rattle.cone_clause.proofs.numbered.NumberedCone.push_before.Goals.{then-next-place+in_ok-push, else-next-place}
use Rattle.cone_clause.proofs.numbered.NumberedCone.push_before.Goals as goal

none : Command
none = record { train = record { 0 = 0 }; route = record { 0 = 0 } }

pub loop-place-init : goal.loop-place-init
loop-place-init c = record {
  within = omega arith;
  spoken = sym (append-nil c.args.clause.now.items);
  left = λ i l s. subst (In i) (sym c.deref-place-items.ensures.value) (c.in_ok-places.ensures.all i s);
}

pub overflow_cast-var : goal.overflow_cast-var
overflow_cast-var c =
    let self = c.args.self.now in
    let items : List ℕ = c.deref-place-items.result.now in
    let said : AreSaid self.contention.pairs.now.pairs self.cone.now items = subst (AreSaid self.contention.pairs.now.pairs self.cone.now) (sym c.deref-place-items.ensures.value) c.in_ok-places.ensures in
    let inside = said_inside self items said c.loop-place.place-index c.loop-place-test.true in
    let here = inside.0 in
    let few = inside.1 in
    let start : c.given_count-used.result ≤ 65536000 = c.given_count-used.ensures.bound in
    omega arith

pub overflow_add-var : goal.overflow_add-var
overflow_add-var c =
    let self = c.args.self.now in
    let items : List ℕ = c.deref-place-items.result.now in
    let said : AreSaid self.contention.pairs.now.pairs self.cone.now items = subst (AreSaid self.contention.pairs.now.pairs self.cone.now) (sym c.deref-place-items.ensures.value) c.in_ok-places.ensures in
    let inside = said_inside self items said c.loop-place.place-index c.loop-place-test.true in
    let here = inside.0 in
    let few = inside.1 in
    let start : c.given_count-used.result ≤ 65536000 = c.given_count-used.ensures.bound in
    omega arith

pub overflow_add-var-then-next-place : goal.overflow_add-var-then-next-place
overflow_add-var-then-next-place c =
    let self = c.args.self.now in
    let items : List ℕ = c.deref-place-items.result.now in
    let said : AreSaid self.contention.pairs.now.pairs self.cone.now items = subst (AreSaid self.contention.pairs.now.pairs self.cone.now) (sym c.deref-place-items.ensures.value) c.in_ok-places.ensures in
    let inside = said_inside self items said c.loop-place.place-index c.loop-place-test.true in
    let here = inside.0 in
    let few = inside.1 in
    let start : c.given_count-used.result ≤ 65536000 = c.given_count-used.ensures.bound in
    omega arith

pub overflow_add-next : goal.overflow_add-next
overflow_add-next c =
    let self = c.args.self.now in
    let items : List ℕ = c.deref-place-items.result.now in
    let said : AreSaid self.contention.pairs.now.pairs self.cone.now items = subst (AreSaid self.contention.pairs.now.pairs self.cone.now) (sym c.deref-place-items.ensures.value) c.in_ok-places.ensures in
    let inside = said_inside self items said c.loop-place.place-index c.loop-place-test.true in
    let here = inside.0 in
    let few = inside.1 in
    let start : c.given_count-used.result ≤ 65536000 = c.given_count-used.ensures.bound in
    omega arith

pub loop-place-preserved : goal.loop-place-preserved
unfolding none
loop-place-preserved c =
    let live : Command → Bool = among c.args.self.now.contention in
    let d = c.args.self.now.contention.interlocking.now.design.station in
    let routes = c.args.self.now.contention.interlocking.now.routes in
    let k = c.args.self.now.cone.now in
    let ps : List (Command × Command) = c.args.self.now.contention.pairs.now.pairs in
    let items : List ℕ = c.deref-place-items.result.now in
    let said : AreSaid ps k items = subst (AreSaid ps k) (sym c.deref-place-items.ensures.value) c.in_ok-places.ensures in
    let place : ℕ = get_or items c.loop-place.place-index 0 in
    let here : IsSaid ps k place = said.only place (member_at items c.loop-place.place-index 0 c.loop-place-test.true) in
    let inside : place < length ps = place_inside ps place here.0 here.1 in
    let old : List Lit = c.args.clause.now.items in
    let left : (i : ℕ) → c.loop-place.next ≤ i → IsSaid ps k i → In i (drop c.loop-place.place-index items) = c.loop-place.invariant.left in
    elim c.if-next-place.branch [
      | then-next-place+in_ok-push w ↦ record {
        within = subst (λ (m : ℕ). m ≤ length ps) (sym w.next-is) (omega arith);
        spoken = subst (λ (m : ℕ). SaysUpTo live d routes k c.args.self.now.steps.count old ps m c.if-next-place.clause.items) (sym w.next-is)
            (subst (λ (v : Vec Lit Global). SaysUpTo live d routes k c.args.self.now.steps.count old ps (place + 1) v.items) (sym w.clause-is)
            (says_more live d routes k c.args.self.now.steps.count old ps c.args.self.now.contention.paired c.loop-place.next place (none, none) c.loop-place.clause.items w.push.new.self.items w.if-next-place.true here
            (none_between ps k items said c.loop-place.next c.loop-place.place-index 0 c.loop-place-test.true left) _ w.is_among-negated.result (ap (λ u. u + place + 1) (c.given_count-used.ensures.value ∙ ap (λ (cs : List Command). length cs * c.args.self.now.steps.count) (sym c.args.self.now.contention.of_design)))
            (w.is_among-negated.ensures ∙ listed_at ps k w.deref.result.now (subst (ArePlacesOfPairs ps k) (sym w.deref.ensures.value) c.in_ok-listed.ensures) place (none, none) inside) w.in_ok-push.ensures.items c.loop-place.invariant.spoken));
        left = subst (λ (m : ℕ). (i : ℕ) → m ≤ i → IsSaid ps k i → In i (drop (c.loop-place.place-index + 1) items)) (sym w.next-is)
            (left_after ps k items said c.loop-place.next c.loop-place.place-index 0 c.loop-place-test.true left w.if-next-place.true);
      }
      | else-next-place w ↦ record {
        within = subst (λ (m : ℕ). m ≤ length ps) (sym w.next-is) c.loop-place.invariant.within;
        spoken = subst (λ (m : ℕ). SaysUpTo live d routes k c.args.self.now.steps.count old ps m c.if-next-place.clause.items) (sym w.next-is)
            (subst (λ (v : Vec Lit Global). SaysUpTo live d routes k c.args.self.now.steps.count old ps c.loop-place.next v.items) (sym w.clause-is) c.loop-place.invariant.spoken);
        left = subst (λ (m : ℕ). (i : ℕ) → m ≤ i → IsSaid ps k i → In i (drop (c.loop-place.place-index + 1) items)) (sym w.next-is)
            (left_same ps k items said c.loop-place.next c.loop-place.place-index 0 c.loop-place-test.true left w.if-next-place.false);
      }
    ]

pub returns : goal.returns
returns c =
    let ps : List (Command × Command) = c.args.self.now.contention.pairs.now.pairs in
    let items : List ℕ = c.deref-place-items.result.now in
    let said : AreSaid ps c.args.self.now.cone.now items = subst (AreSaid ps c.args.self.now.cone.now) (sym c.deref-place-items.ensures.value) c.in_ok-places.ensures in
    says_all (among c.args.self.now.contention) c.args.self.now.contention.interlocking.now.design.station c.args.self.now.contention.interlocking.now.routes c.args.self.now.cone.now c.args.self.now.steps.count c.args.clause.now.items ps c.args.self.now.contention.paired c.loop-place.next (none, none) c.loop-place.clause.items c.loop-place.invariant.within
    (none_left ps c.args.self.now.cone.now items said c.loop-place.next c.loop-place.place-index c.loop-place-test.false c.loop-place.invariant.left) c.loop-place.invariant.spoken

pub is_among-negated-requires : goal.is_among-negated-requires
is_among-negated-requires c = subst (λ (ps : List ℕ). IsNonDecreasing ps) (sym c.deref.ensures.value) c.in_ok-listed.ensures.rising

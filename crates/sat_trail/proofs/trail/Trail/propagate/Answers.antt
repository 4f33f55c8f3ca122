use Rattle.std.proofs.Common.{List, ℕ, subst, sym, ◌∙◌}
use Rattle.sat_trail.specs.Settled.{IsSettled}
use Rattle.sat_trail.specs.Trails.{IsTrail}
use Rattle.sat_trail.specs.View.{View}
use Rattle.sat_trail.proofs.Settling.{settled-forced}
use Rattle.sat_trail.proofs.trail.Trail.propagate.Goals as goal

pub propagate_all-requires-clause-trail : goal.propagate_all-requires-clause-trail
propagate_all-requires-clause-trail c = let P : View → Type 0 = λ v. IsTrail c.args.arena.now v.steps in subst P (sym c.self.view_is) c.requires.trail

pub invariant_of-self : goal.invariant_of-self
invariant_of-self c =
    let v = c.propagate_all.new.trail in
    let P : List ℕ → Type 0 = λ z. IsSettled v z c.self.inside.settled.count c.self.inside.settled.top in
    (c.propagate_all.ensures.watching, subst P (sym c.propagate_all.ensures.loose) (settled-forced c.self.inside.assigned v c.self.inside.watches.loose.items c.self.inside.settled.count c.self.inside.settled.top c.propagate_all.ensures.forced c.self.invariant.1), c.propagate_all.ensures.blocked)

pub settle-self-inside-requires-clause-settled : goal.settle-self-inside-requires-clause-settled
settle-self-inside-requires-clause-settled c =
    let v = c.propagate_all.new.trail in
    let P : List ℕ → Type 0 = λ z. IsSettled v z c.self.inside.settled.count c.self.inside.settled.top in
    subst P (sym (c.deref.ensures.value ∙ c.propagate_all.ensures.loose)) (settled-forced c.self.inside.assigned v c.self.inside.watches.loose.items c.self.inside.settled.count c.self.inside.settled.top c.propagate_all.ensures.forced c.self.invariant.1)

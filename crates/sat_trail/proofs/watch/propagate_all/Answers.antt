use Rattle.std.proofs.Common.{ap, sym, ◌∙◌, subst, refl, List, ℕ}
use Rattle.sat_trail.specs.Trails.{lits, IsIn, depth}
use Rattle.sat_trail.specs.View.{View}
use Rattle.sat_trail.specs.Watches.{rows}
use Rattle.sat_trail.proofs.Grows.{forced-then, forced-push, behind-fresh, behind-var, trail-forced}
use Rattle.sat_trail.proofs.Watched.{watching-more}
use Rattle.sat_trail.proofs.Blocking.{blocked-same}
use Rattle.sat_trail.specs.Settled.{IsSettled}
use Rattle.sat_trail.proofs.Settling.{settled-forced}
use Rattle.sat_trail.proofs.watch.propagate_all.Goals as goal

pub returns-in_err-id-clause-forced : goal.returns-in_err-id-clause-forced
returns-in_err-id-clause-forced c = forced-then c.args.trail.now c.forced.trail c.advance.new.trail c.forced.invariant.forced c.advance.ensures.forced

pub returns-in-Some-clause-forced : goal.returns-in-Some-clause-forced
returns-in-Some-clause-forced c = forced-then c.args.trail.now c.forced.trail c.advance.new.trail c.forced.invariant.forced c.advance.ensures.forced

pub returns-in-Closed-clause-forced : goal.returns-in-Closed-clause-forced
returns-in-Closed-clause-forced c = forced-then c.args.trail.now c.forced.trail c.advance.new.trail c.forced.invariant.forced c.advance.ensures.forced

pub returns-in-Conflict-clause-forced : goal.returns-in-Conflict-clause-forced
returns-in-Conflict-clause-forced c = forced-then c.args.trail.now c.forced.trail c.advance.new.trail c.forced.invariant.forced c.advance.ensures.forced

pub force-requires-clause-fresh : goal.force-requires-clause-fresh
force-requires-clause-fresh c = behind-fresh c.args.arena.now (lits c.advance.new.trail.steps) c.in-Unit.l c.in-Unit.id c.in-Unit.ensures

pub force-requires-clause-in_vars : goal.force-requires-clause-in_vars
force-requires-clause-in_vars c =
    let f = forced-then c.args.trail.now c.forced.trail c.advance.new.trail c.forced.invariant.forced c.advance.ensures.forced in
    let P : ℕ → Type 0 = λ z. IsIn z c.in-Unit.l in
    subst P (sym f.vars) (behind-var c.args.arena.now (lits c.advance.new.trail.steps) c.in-Unit.l c.in-Unit.id c.args.trail.now.vars c.in-Unit.ensures c.requires.in_vars)

pub forced-preserved : goal.forced-preserved
forced-preserved c =
    let v = c.advance.new.trail in
    let f = forced-then c.args.trail.now c.forced.trail v c.forced.invariant.forced c.advance.ensures.forced in
    let e = c.force.ensures.pushed in
    record {
      trail = trail-forced c.args.arena.now v.steps _ c.in-Unit.l (depth v.steps) c.in-Unit.id c.advance.ensures.trail c.in-Unit.ensures (ap (λ (x : View). x.steps) e);
      forced = forced-push c.args.trail.now v _ _ f (record { reasoned = refl; at_level = refl }) e;
      watching = watching-more v c.force.new.self c.advance.new.watches.loose.items (rows c.advance.new.watches.lists.items) c.advance.new.watches.pairs.items c.advance.new.head _ e c.advance.ensures.watching;
      blocked = blocked-same v c.force.new.self c.advance.new.watches.loose.items _ c.advance.new.watches.lists.items (ap (λ (x : View). x.attached) e) c.advance.ensures.blocked;
      loose = c.advance.ensures.loose ∙ c.forced.invariant.loose;
    }

pub rest-requires-clause-settled : goal.rest-requires-clause-settled
rest-requires-clause-settled c =
    let v = c.advance.new.trail in
    let f = forced-then c.args.trail.now c.forced.trail v c.forced.invariant.forced c.advance.ensures.forced in
    let P : List ℕ → Type 0 = λ z. IsSettled v z c.args.settled.count c.args.settled.top in
    subst P (sym (c.advance.ensures.loose ∙ c.forced.invariant.loose)) (settled-forced c.args.trail.now v c.args.watches.now.loose.items c.args.settled.count c.args.settled.top f c.requires.settled)

use Rattle.std.proofs.Common.{ap, sym, subst, List, ℕ}
use Rattle.sat_trail.specs.declared.step.Step.{Step}
use Rattle.sat_trail.specs.Trails.{IsTrail}
use Rattle.sat_trail.specs.Forced.{VarsUpTo}
use Rattle.sat_trail.specs.View.{View}
use Rattle.sat_trail.proofs.Stores.{attached-push, trail-store, vars-push}
use Rattle.text_tests.proofs.trails.add.Goals as goal

pub returns-clause-attached : goal.returns-clause-attached
returns-clause-attached c = attached-push c.args.arena.now c.push.new.self c.args.trail.now.attached c.attach.new.self.attached c.args.clause.now c.in_ok-id.id c.requires.attached c.in_ok-id.ensures.ok.1 (ap (λ (v : View). v.attached) c.in_ok-attach.ensures.ok) c.in_ok-id.ensures.ok.0

pub returns-clause-trail : goal.returns-clause-trail
returns-clause-trail c =
    let P : List Step → Type 0 = IsTrail c.push.new.self in
    subst P (sym (ap (λ (v : View). v.steps) c.in_ok-attach.ensures.ok)) (trail-store c.args.arena.now c.push.new.self c.args.clause.now c.args.trail.now.steps c.in_ok-id.ensures.ok.1 c.requires.trail)

pub returns-clause-vars : goal.returns-clause-vars
returns-clause-vars c =
    let P : ℕ → Type 0 = VarsUpTo c.push.new.self in
    subst P (sym (ap (λ (v : View). v.vars) c.in_ok-attach.ensures.ok)) (vars-push c.args.arena.now c.push.new.self c.args.trail.now.vars c.args.clause.now c.in_ok-id.ensures.ok.1 c.requires.vars c.requires.in_vars)

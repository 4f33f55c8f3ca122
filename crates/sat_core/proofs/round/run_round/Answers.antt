use Rattle.std.proofs.Common.{arith, ◌≡◌, [], sym, subst, true, ℕ}
use Rattle.sat_clause.specs.Hints.{is_assigned}
use Rattle.sat_trail.specs.Trails.{AllIn}
use Rattle.sat_trail.specs.Forced.{VarsUpTo}
use Rattle.sat_trail.proofs.Levels.{none-decided}
use Rattle.sat_core.proofs.Kept.{holds-good, good-holds}
use Rattle.sat_core.proofs.round.run_round.Goals as goal

pub assume-requires-clause-in_vars : goal.assume-requires-clause-in_vars
assume-requires-clause-in_vars c = let P : ℕ → Type 0 = VarsUpTo c.args.arena.now in subst P (sym c.requires.holds.0) c.requires.holds.1

pub assume-requires-clause-assumed : goal.assume-requires-clause-assumed
assume-requires-clause-assumed c = let P : ℕ → Type 0 = λ z. AllIn z c.args.assumptions.now in subst P (sym c.requires.holds.0) c.requires.assumed

pub assume-requires-clause-good : goal.assume-requires-clause-good
assume-requires-clause-good c = holds-good c.args.arena.now c.args.trail.now c.args.vars c.requires.holds (let m = c.requires.undecided in omega arith)

pub assume-requires-clause-only : goal.assume-requires-clause-only
assume-requires-clause-only c = λ l m. absurd (let e = none-decided 0 c.args.trail.now.steps c.steps.ensures.levelled c.requires.at_level_zero in let z : is_assigned [] l ≡ true = rw e at m in cc)

pub returns-in_err-why-clause-holds : goal.returns-in_err-why-clause-holds
returns-in_err-why-clause-holds c = good-holds c.args.arena.now c.args.trail.now.vars c.args.vars c.assume.new.trail c.requires.holds.0 c.requires.holds.1 c.assume.ensures.good

pub returns-in-Some-clause-holds : goal.returns-in-Some-clause-holds
returns-in-Some-clause-holds c = good-holds c.args.arena.now c.args.trail.now.vars c.args.vars c.assume.new.trail c.requires.holds.0 c.requires.holds.1 c.assume.ensures.good

pub decide_all-requires-clause-holds : goal.decide_all-requires-clause-holds
decide_all-requires-clause-holds c = good-holds c.args.arena.now c.args.trail.now.vars c.args.vars c.assume.new.trail c.requires.holds.0 c.requires.holds.1 c.assume.ensures.good

use Rattle.std.proofs.Common.{subst}
use Rattle.rail_spec.specs.Motion.{IsGreatestPermitted}
use Rattle.rail_laws.proofs.Points.{next_is_greatest, greatest_is_next, next_is_none}
use Rattle.rail_laws.proofs.laws.next_speeds_are_greatest.Goals as goal

pub returns-clause-greatest : goal.returns-clause-greatest
returns-clause-greatest c = λ m ss end slows x v w u h. ((λ e. subst (IsGreatestPermitted m ss end x v) e (next_is_greatest m ss end x v slows w h)), greatest_is_next m ss end x v slows u)

pub returns-clause-none : goal.returns-clause-none
returns-clause-none c = λ m ss end slows x v none. next_is_none m ss end x v slows none

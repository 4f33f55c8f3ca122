-- Bounds by orders can be written as lines.
use Rattle.std.proofs.Common.{◌≡◌, ℕ, ◌≤◌, true, ◌&&◌, nat_le, refl, arith, le-leb}
use Rattle.bound_spec.specs.declared.Evidence.TheVariants as evidence
use Rattle.rail_base.specs.declared.plan.Command.{Command}
use Rattle.rail_base.proofs.Members.{and_both}
use Rattle.proof_log.specs.declared.line.Line.TheVariants.{Refute}
use Rattle.proof_log.specs.BoundText.{keeps_leg, keeps_route}
use Rattle.proof_log.specs.Text.{keeps_grammar}
use Rattle.proof_log.specs.Words.{greatest_variable, is_small}
use Rattle.order_bounds.specs.Orders.{bound_by, leg_of}

small : (n : ℕ) → n ≤ 2000 → is_small n ≡ true
small n h = le-leb n 4_294_967_295 (omega arith)

-- the numbers of a command of a design
pub record IsNumbered (c : Command) : Type 0 where
  pub train : c.train.0 ≤ 128
  pub low : 1 ≤ c.route.0
  pub high : c.route.0 ≤ 2000

route_kept : (c : Command) → IsNumbered c → keeps_route c.route ≡ true
route_kept c h = and_both (nat_le 1 c.route.0) (nat_le c.route.0 greatest_variable) (le-leb 1 c.route.0 h.low) (small c.route.0 h.high)

leg_kept : (c : Command) → IsNumbered c → keeps_leg (leg_of c) ≡ true
leg_kept c h =
    let t = h.train in
    and_both (is_small c.train.0) (keeps_route c.route && true) (small c.train.0 (omega arith)) (and_both (keeps_route c.route) true (route_kept c h) refl)

pub spelled : (o : ℕ) (p : Command × Command) → o ≤ 256 → IsNumbered p.0 → IsNumbered p.1 → keeps_grammar (Refute (evidence.Bound (bound_by o p))) ≡ true
spelled o p few one other =
    and_both (is_small o) (keeps_leg (leg_of p.0) && (keeps_leg (leg_of p.1) && true)) (small o (omega arith))
    (and_both (keeps_leg (leg_of p.0)) (keeps_leg (leg_of p.1) && true) (leg_kept p.0 one) (and_both (keeps_leg (leg_of p.1)) true (leg_kept p.1 other) refl))

use Rattle.std.proofs.Common.{◌+◌, sym, ap, subst, arith}
use Rattle.sat_trail.specs.View.{View}
use Rattle.sat_trail.specs.Forced.{VarsUpTo}
use Rattle.sat_core.proofs.AllAttached.{attached-next, none-attached}
use Rattle.sat_core.proofs.attaching.attach_all.Goals as goal

pub clauses-init : goal.clauses-init
clauses-init c = none-attached c.args.arena.now c.args.trail.now c.requires.none

pub attach_if_live-requires : goal.attach_if_live-requires
attach_if_live-requires c = record {
  apart = c.clauses.invariant.behind (c.clauses.done + 1) (omega arith);
  in_vars = subst (VarsUpTo c.args.arena.now) (sym (ap (λ (v : View). v.vars) c.clauses.invariant.else_same)) c.requires.in_vars;
}

pub clauses-preserved : goal.clauses-preserved
clauses-preserved c = attached-next c.args.arena.now c.args.trail.now c.clauses.trail c.attach_if_live.new.trail c.clauses.done c.clauses.invariant c.in_ok-attach_if_live.ensures

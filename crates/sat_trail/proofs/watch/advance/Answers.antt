use Rattle.std.proofs.Common.{◌+◌, sym, ◌∙◌, subst, Option, ℕ}
use Rattle.std.specs.Prelude.{IfNone}
use Rattle.sat_trail.specs.Attached.{Seen, AreLive}
use Rattle.sat_trail.specs.Watches.{rows, IsWatching}
use Rattle.sat_trail.proofs.Grows.{forced-then}
use Rattle.sat_trail.proofs.watch.advance.Goals as goal

pub returns-in_err-id-clause-forced : goal.returns-in_err-id-clause-forced
returns-in_err-id-clause-forced c = forced-then c.args.trail.now c.ahead.trail c.visit_all.new.trail c.ahead.invariant.forced c.visit_all.ensures.forced

pub returns-in-Some-2-clause-forced : goal.returns-in-Some-2-clause-forced
returns-in-Some-2-clause-forced c = forced-then c.args.trail.now c.ahead.trail c.visit_all.new.trail c.ahead.invariant.forced c.visit_all.ensures.forced

pub ahead-preserved : goal.ahead-preserved
ahead-preserved c =
    let P : Option ℕ → Type 0 = λ o. IfNone o (IsWatching c.visit_all.new.trail c.visit_all.new.watches.loose.items (rows c.visit_all.new.watches.lists.items) c.visit_all.new.watches.pairs.items (c.ahead.head + 1)) in
    record {
      trail = c.visit_all.ensures.trail;
      forced = forced-then c.args.trail.now c.ahead.trail c.visit_all.new.trail c.ahead.invariant.forced c.visit_all.ensures.forced;
      watching = subst P c.in_default-2.is c.in_ok-id.ensures.next;
      blocked = c.visit_all.ensures.blocked;
      loose = c.visit_all.ensures.loose ∙ c.ahead.invariant.loose;
    }

pub visit_all-requires-clause-attached : goal.visit_all-requires-clause-attached
visit_all-requires-clause-attached c = let P : Seen → Type 0 = λ z. AreLive c.args.arena.now z in subst P (sym c.ahead.invariant.forced.attached) c.requires.attached

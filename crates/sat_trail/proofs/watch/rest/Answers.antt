use Rattle.std.proofs.Common.{◌≡◌, ◌≤◌, ap, ◌∙◌, subst, arith, drop, length, List, ℕ}
use Rattle.sat_trail.specs.Trails.{lits}
use Rattle.sat_trail.specs.Scans.{SaysAmong}
use Rattle.sat_trail.specs.Watches.{rows}
use Rattle.sat_trail.proofs.Standby.{assigned-stands}
use Rattle.sat_trail.proofs.Attaching.{watching-closed, says-all}
use Rattle.sat_trail.proofs.Settling.{settled-quiet}
use Rattle.sat_trail.proofs.watch.rest.Goals as goal

pub unsettled_clauses-requires : goal.unsettled_clauses-requires
unsettled_clauses-requires c = let w = c.requires.settled.within in let e = ap length c.deref.ensures.value in omega arith

pub returns : goal.returns
returns c =
    let loose = c.args.watches.now.loose.items in
    let P : List ℕ → Type 0 = λ z. SaysAmong c.args.arena.now (lits c.args.trail.now.steps) z c.scan_among.result in
    let behind : c.unsettled_clauses.result.now ≡ drop c.args.settled.count loose = c.unsettled_clauses.ensures ∙ ap (λ z. drop c.args.settled.count z) c.deref.ensures.value in
    let n = ap length c.steps.ensures.steps in
    let f = c.if-head-steps.false in
    let h : length c.args.trail.now.steps ≤ c.args.head = omega arith in
    says-all c.args.arena.now (lits c.args.trail.now.steps) (drop c.args.settled.count loose) c.scan_among.result
    (λ q. watching-closed c.args.arena.now c.args.trail.now loose (rows c.args.watches.now.lists.items) c.args.watches.now.pairs.items c.args.head c.requires.attached c.requires.trail (λ l m. assigned-stands 0 c.args.trail.now.steps l c.steps.ensures.levelled m) c.requires.watching h
    (settled-quiet c.args.arena.now c.args.trail.now loose c.args.settled.count c.args.settled.top c.requires.attached c.requires.trail c.requires.settled q))
    (subst P behind c.scan_among.ensures)

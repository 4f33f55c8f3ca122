use Rattle.std.proofs.Common.{◌≡◌, length, subst, sym, None}
use Rattle.sat_trail.specs.Attached.{attached_clause, with_attached}
use Rattle.sat_trail.specs.View.{View}
use Rattle.sat_trail.specs.Settled.{IsSettled}
use Rattle.sat_trail.specs.Blockers.{AllBlocked}
use Rattle.sat_trail.proofs.Blocking.{blocked-attached, blocked-kept, same-but}
use Rattle.sat_trail.specs.Watches.{rows, IsWatching}
use Rattle.sat_trail.proofs.Attaching.{on-either, watching-attached, watching-same}
use Rattle.sat_trail.proofs.Settling.{settled-attached, settled-loose, settled-same}
use Rattle.sat_trail.proofs.trail.Trail.attach.Goals as goal

pub invariant_of-self : goal.invariant_of-self
invariant_of-self c =
    let old = c.self.inside.assigned in
    let loose = c.watch.new.watches.loose.items in (
      c.watch.ensures.watching,
      settled-loose old c.self.inside.watches.loose.items loose c.self.inside.settled.count c.self.inside.settled.top c.args.id c.watch.ensures.loose c.self.invariant.1,
      c.watch.ensures.blocked old.attached (same-but old.attached c.args.id c.clause.result.now (let P : View → Type 0 = λ z. attached_clause z.attached c.args.id ≡ None in subst P (sym c.self.view_is) c.requires.apart)),
    )

pub invariant_of-self-2 : goal.invariant_of-self-2
invariant_of-self-2 c =
    let x = c.watch.ensures.watching in
    let old = c.self.inside.assigned in
    let new = c.attach.new.self in
    let loose = c.watch.new.watches.loose.items in
    let lists = rows c.watch.new.watches.lists.items in
    let pairs = c.watch.new.watches.pairs.items in
    let left = c.without-self-inside.result in
    let y = c.without-self-inside.ensures.same old loose (settled-loose old c.self.inside.watches.loose.items loose c.self.inside.settled.count c.self.inside.settled.top c.args.id c.watch.ensures.loose c.self.invariant.1) in
    on-either c.attach.result (new ≡ record old { attached = with_attached old.attached c.args.id c.args.arena.now }) (new ≡ old) (IsWatching new loose lists pairs c.self.inside.head × IsSettled new loose left.count left.top × AllBlocked new.attached loose (length pairs) c.watch.new.watches.lists.items) c.attach.ensures.ok c.attach.ensures.err
    (λ e. (watching-attached old new loose lists pairs c.self.inside.head c.args.id c.args.arena.now c.clause.result.now c.clause.ensures c.in_ok-watch.ensures.ok e x, settled-attached old new loose left.count left.top c.args.id c.args.arena.now c.without-self-inside.ensures.apart e y, blocked-attached old new loose (length pairs) c.args.id c.args.arena.now c.clause.result.now c.watch.new.watches.lists.items c.clause.ensures e c.watch.ensures.blocked))
    (λ e. (watching-same old new loose lists pairs c.self.inside.head e x, settled-same old new loose left.count left.top e y, blocked-kept old new loose (length pairs) c.args.id c.clause.result.now c.watch.new.watches.lists.items (let P : View → Type 0 = λ z. attached_clause z.attached c.args.id ≡ None in subst P (sym c.self.view_is) c.requires.apart) e c.watch.ensures.blocked))

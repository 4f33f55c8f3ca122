use Rattle.std.proofs.Common.{ap, sym, ◌∙◌, refl, subst, length, ℕ, Some}
use Rattle.std.specs.Prelude.{slice_get}
use Rattle.sat_trail.specs.Trails.{lits, depth, IsBehind}
use Rattle.sat_trail.specs.Watches.{rows, other_in}
use Rattle.sat_trail.specs.View.{View}
use Rattle.sat_trail.specs.Blockers.{AllBlocked}
use Rattle.sat_trail.proofs.Blocking.{blocked-same}
use Rattle.sat_trail.proofs.Grows.{behind-fresh, behind-var, trail-forced, unit-in}
use Rattle.sat_trail.proofs.Watched.{moved-of, watching-moved, pending-moved, moved-not, row-moved, satisfied-of, satisfied-with, of-same, other-of, other-within, watching-more, pending-more, satisfied-forced}
use Rattle.sat_trail.proofs.watch.visit_clause.Goals as goal

pub returns-then-holds-clause-looked : goal.returns-then-holds-clause-looked
returns-then-holds-clause-looked c = satisfied-of c.args.trail.now c.args.watches.now.loose.items c.args.entry.blocker c.args.entry.id c.requires.entry.member (sym c.if-holds.ensures) c.steps.ensures.levelled

pub returns-then-holds-2-clause-looked : goal.returns-then-holds-2-clause-looked
returns-then-holds-2-clause-looked c =
    let v = c.args.trail.now in
    let loose = c.args.watches.now.loose.items in
    let o = other-of v loose (rows c.args.watches.now.lists.items) c.args.watches.now.pairs.items c.args.w c.in-Some.other c.args.entry.id c.args.head c.requires.watching (ap (λ z. other_in (slice_get z c.args.entry.id) c.args.w) (sym c.deref.ensures.value) ∙ sym c.in-Some.ensures) in
    satisfied-with v loose c.in-Some.other c.args.entry.id o (satisfied-of v loose c.in-Some.other c.args.entry.id o (sym c.if-holds-2.ensures) c.steps.ensures.levelled)

pub set_pair-requires : goal.set_pair-requires
set_pair-requires c = other-within c.args.watches.now.pairs.items c.args.entry.id c.args.w c.in-Some.other (ap (λ z. other_in (slice_get z c.args.entry.id) c.args.w) (sym c.deref.ensures.value) ∙ sym c.in-Some.ensures)

pub returns-in-Some-replacement-clause-watching : goal.returns-in-Some-replacement-clause-watching
returns-in-Some-replacement-clause-watching c =
    let m = moved-of c.args.trail.now c.args.arena.now (rows c.args.watches.now.lists.items) (rows c.put_entry.new.lists.items) c.args.watches.now.pairs.items c.set_pair.new.pairs.items c.args.w c.in-Some-replacement.l c.in-Some.other c.clause-clause.result.now c.args.entry.id c.code.result c.args.head _ c.args.watches.now.loose.items c.requires.attached c.requires.in_vars c.requires.watching c.code.ensures c.in_ok-put_entry.ensures.ok c.set_pair.ensures.same c.set_pair.ensures.there (ap (λ z. other_in (slice_get z c.args.entry.id) c.args.w) (sym c.deref.ensures.value) ∙ sym c.in-Some.ensures) c.clause-clause.ensures c.in-Some-replacement.ensures.member c.in-Some-replacement.ensures.apart c.in-Some-replacement.ensures.not_false c.requires.is_false in
    watching-moved c.args.trail.now c.args.watches.now.loose.items (rows c.args.watches.now.lists.items) (rows c.put_entry.new.lists.items) c.args.watches.now.pairs.items c.set_pair.new.pairs.items c.args.w c.in-Some-replacement.l c.in-Some.other c.clause-clause.result.now c.args.entry.id c.args.head m c.requires.watching

pub returns-in-Some-replacement-clause-row : goal.returns-in-Some-replacement-clause-row
returns-in-Some-replacement-clause-row c =
    let m = moved-of c.args.trail.now c.args.arena.now (rows c.args.watches.now.lists.items) (rows c.put_entry.new.lists.items) c.args.watches.now.pairs.items c.set_pair.new.pairs.items c.args.w c.in-Some-replacement.l c.in-Some.other c.clause-clause.result.now c.args.entry.id c.code.result c.args.head _ c.args.watches.now.loose.items c.requires.attached c.requires.in_vars c.requires.watching c.code.ensures c.in_ok-put_entry.ensures.ok c.set_pair.ensures.same c.set_pair.ensures.there (ap (λ z. other_in (slice_get z c.args.entry.id) c.args.w) (sym c.deref.ensures.value) ∙ sym c.in-Some.ensures) c.clause-clause.ensures c.in-Some-replacement.ensures.member c.in-Some-replacement.ensures.apart c.in-Some-replacement.ensures.not_false c.requires.is_false in
    row-moved c.args.trail.now (rows c.args.watches.now.lists.items) (rows c.put_entry.new.lists.items) c.args.watches.now.pairs.items c.set_pair.new.pairs.items c.args.w c.in-Some-replacement.l c.in-Some.other c.clause-clause.result.now c.args.entry.id m

pub returns-in-Some-replacement-clause-pending : goal.returns-in-Some-replacement-clause-pending
returns-in-Some-replacement-clause-pending c = λ left t.
    let m = moved-of c.args.trail.now c.args.arena.now (rows c.args.watches.now.lists.items) (rows c.put_entry.new.lists.items) c.args.watches.now.pairs.items c.set_pair.new.pairs.items c.args.w c.in-Some-replacement.l c.in-Some.other c.clause-clause.result.now c.args.entry.id c.code.result c.args.head _ c.args.watches.now.loose.items c.requires.attached c.requires.in_vars c.requires.watching c.code.ensures c.in_ok-put_entry.ensures.ok c.set_pair.ensures.same c.set_pair.ensures.there (ap (λ z. other_in (slice_get z c.args.entry.id) c.args.w) (sym c.deref.ensures.value) ∙ sym c.in-Some.ensures) c.clause-clause.ensures c.in-Some-replacement.ensures.member c.in-Some-replacement.ensures.apart c.in-Some-replacement.ensures.not_false c.requires.is_false in
    pending-moved c.args.trail.now c.args.watches.now.loose.items (rows c.args.watches.now.lists.items) (rows c.put_entry.new.lists.items) c.args.watches.now.pairs.items c.set_pair.new.pairs.items c.args.w c.in-Some-replacement.l c.in-Some.other c.clause-clause.result.now c.args.entry.id c.args.head left m c.requires.watching t

pub returns-in-Some-replacement-clause-looked : goal.returns-in-Some-replacement-clause-looked
returns-in-Some-replacement-clause-looked c =
    let m = moved-of c.args.trail.now c.args.arena.now (rows c.args.watches.now.lists.items) (rows c.put_entry.new.lists.items) c.args.watches.now.pairs.items c.set_pair.new.pairs.items c.args.w c.in-Some-replacement.l c.in-Some.other c.clause-clause.result.now c.args.entry.id c.code.result c.args.head _ c.args.watches.now.loose.items c.requires.attached c.requires.in_vars c.requires.watching c.code.ensures c.in_ok-put_entry.ensures.ok c.set_pair.ensures.same c.set_pair.ensures.there (ap (λ z. other_in (slice_get z c.args.entry.id) c.args.w) (sym c.deref.ensures.value) ∙ sym c.in-Some.ensures) c.clause-clause.ensures c.in-Some-replacement.ensures.member c.in-Some-replacement.ensures.apart c.in-Some-replacement.ensures.not_false c.requires.is_false in
    moved-not c.args.trail.now c.args.watches.now.loose.items (rows c.args.watches.now.lists.items) (rows c.put_entry.new.lists.items) c.args.watches.now.pairs.items c.set_pair.new.pairs.items c.args.w c.in-Some-replacement.l c.in-Some.other c.clause-clause.result.now c.args.entry.id c.args.head m c.requires.watching

pub returns-in-Some-replacement-clause-blocked : goal.returns-in-Some-replacement-clause-blocked
returns-in-Some-replacement-clause-blocked c =
    let v = c.args.trail.now in
    let loose = c.args.watches.now.loose.items in
    let o = other-of v loose (rows c.args.watches.now.lists.items) c.args.watches.now.pairs.items c.args.w c.in-Some.other c.args.entry.id c.args.head c.requires.watching (ap (λ z. other_in (slice_get z c.args.entry.id) c.args.w) (sym c.deref.ensures.value) ∙ sym c.in-Some.ensures) in
    let count = length c.args.watches.now.pairs.items in
    let P : ℕ → Type 0 = λ z. AllBlocked v.attached loose z c.put_entry.new.lists.items in
    subst P (sym c.set_pair.ensures.size) (c.put_entry.ensures.blocked v.attached loose count (record { below = c.requires.entry.below; member = o }) c.requires.blocked)

pub returns-in_err-put_entry-clause-blocked : goal.returns-in_err-put_entry-clause-blocked
returns-in_err-put_entry-clause-blocked c =
    let v = c.args.trail.now in
    let loose = c.args.watches.now.loose.items in
    let o = other-of v loose (rows c.args.watches.now.lists.items) c.args.watches.now.pairs.items c.args.w c.in-Some.other c.args.entry.id c.args.head c.requires.watching (ap (λ z. other_in (slice_get z c.args.entry.id) c.args.w) (sym c.deref.ensures.value) ∙ sym c.in-Some.ensures) in
    c.put_entry.ensures.blocked v.attached loose (length c.args.watches.now.pairs.items) (record { below = c.requires.entry.below; member = o }) c.requires.blocked

pub returns-then-is_false-clause-looked : goal.returns-then-is_false-clause-looked
returns-then-is_false-clause-looked c = record { clause = c.clause-clause.result.now; is_live = c.clause-clause.ensures; none_open = c.if-is_false.ensures.yes refl }

pub force-requires-clause-fresh : goal.force-requires-clause-fresh
force-requires-clause-fresh c =
    let b : IsBehind c.args.arena.now (lits c.args.trail.now.steps) c.in-Some.other c.args.entry.id = record { clause = c.clause-clause.result.now; is_live = c.clause-clause.ensures; is_unit = (c.if-is_false.ensures.no refl) } in
    behind-fresh c.args.arena.now (lits c.args.trail.now.steps) c.in-Some.other c.args.entry.id b

pub force-requires-clause-in_vars : goal.force-requires-clause-in_vars
force-requires-clause-in_vars c =
    let b : IsBehind c.args.arena.now (lits c.args.trail.now.steps) c.in-Some.other c.args.entry.id = record { clause = c.clause-clause.result.now; is_live = c.clause-clause.ensures; is_unit = (c.if-is_false.ensures.no refl) } in
    behind-var c.args.arena.now (lits c.args.trail.now.steps) c.in-Some.other c.args.entry.id c.args.trail.now.vars b c.requires.in_vars

pub returns-clause-trail : goal.returns-clause-trail
returns-clause-trail c =
    let b : IsBehind c.args.arena.now (lits c.args.trail.now.steps) c.in-Some.other c.args.entry.id = record { clause = c.clause-clause.result.now; is_live = c.clause-clause.ensures; is_unit = (c.if-is_false.ensures.no refl) } in
    trail-forced c.args.arena.now c.args.trail.now.steps _ c.in-Some.other (depth c.args.trail.now.steps) c.args.entry.id c.requires.trail b (ap (λ (v : View). v.steps) c.force.ensures.pushed)

pub returns-clause-watching : goal.returns-clause-watching
returns-clause-watching c = watching-more c.args.trail.now c.force.new.self c.args.watches.now.loose.items (rows c.args.watches.now.lists.items) c.args.watches.now.pairs.items c.args.head _ c.force.ensures.pushed c.requires.watching

pub returns-clause-blocked : goal.returns-clause-blocked
returns-clause-blocked c = blocked-same c.args.trail.now c.force.new.self c.args.watches.now.loose.items (length c.args.watches.now.pairs.items) c.args.watches.now.lists.items (ap (λ (v : View). v.attached) c.force.ensures.pushed) c.requires.blocked

pub returns-clause-pending : goal.returns-clause-pending
returns-clause-pending c = λ left t. pending-more c.args.trail.now c.force.new.self c.args.watches.now.loose.items c.args.watches.now.pairs.items c.args.w left (record { lit = c.in-Some.other; level = depth c.args.trail.now.steps; reason = Some c.args.entry.id }) refl c.force.ensures.pushed t

pub returns-clause-looked : goal.returns-clause-looked
returns-clause-looked c =
    let v = c.args.trail.now in
    let loose = c.args.watches.now.loose.items in
    let o = other-of v loose (rows c.args.watches.now.lists.items) c.args.watches.now.pairs.items c.args.w c.in-Some.other c.args.entry.id c.args.head c.requires.watching (ap (λ z. other_in (slice_get z c.args.entry.id) c.args.w) (sym c.deref.ensures.value) ∙ sym c.in-Some.ensures) in
    satisfied-with c.force.new.self loose c.in-Some.other c.args.entry.id
    (of-same v c.force.new.self loose c.in-Some.other c.args.entry.id (ap (λ (z : View). z.attached) c.force.ensures.pushed) o)
    (satisfied-forced v c.force.new.self loose c.clause-clause.result.now (record { lit = c.in-Some.other; level = depth v.steps; reason = Some c.args.entry.id }) c.args.entry.id (c.requires.attached c.args.entry.id ∙ c.clause-clause.ensures) (unit-in (lits v.steps) c.clause-clause.result.now c.in-Some.other (c.if-is_false.ensures.no refl)).0 refl c.force.ensures.pushed)

use Rattle.std.proofs.Common.{◌≡◌, subst, ◌<◌, ◌∙◌, ap, sym, arith, length, get_or}
use Rattle.std.specs.Global.{Vec}
use Rattle.std.proofs.lemmas.Bool.{ltb-true, ltb-false}
use Rattle.sat_trail.specs.declared.entry.Entry.{Entry}
use Rattle.sat_trail.specs.Watches.{rows, row_at, ids}
use Rattle.sat_trail.specs.Blockers.{IsBlocked}
use Rattle.sat_trail.proofs.Blocking.{each-get}
use Rattle.sat_trail.proofs.Rows.{row-get, rows-beyond, ids-get, ids-length}
use Rattle.sat_trail.proofs.watch.entry_at.Goals as goal

pub returns-in_default-clause-none : goal.returns-in_default-clause-none
returns-in_default-clause-none c =
    let e = ap length (rows-beyond c.args.lists.now c.args.place (ltb-false c.args.place (length c.args.lists.now) (sym c.in_default.ensures.lookup.0))) in
    omega arith

pub returns-then-i-len-clause-entry : goal.returns-then-i-len-clause-entry
returns-then-i-len-clause-entry c =
    let row : row_at (rows c.args.lists.now) c.args.place ≡ ids c.in-Some.list.now.items = row-get c.args.lists.now c.args.place c.in-Some.list.now (ltb-true c.args.place (length c.args.lists.now) (sym c.in-Some.ensures.lookup.0)) ∙ sym (ap (λ (v : Vec Entry). ids v.items) c.in-Some.ensures.lookup.1) in
    let n = ap length row in
    let m = ids-length c.in-Some.list.now.items in
    let h = c.if-i-len.true in
    let k = c.len.ensures in
    let b : c.args.i < length c.in-Some.list.now.items = omega arith in (
      omega arith,
      ap (λ (e : Entry). e.id) c.index.ensures ∙ sym (ap (λ z. get_or z c.args.i 0) row ∙ ids-get c.in-Some.list.now.items c.args.i c.index.result.now b),
    )

pub returns-else-i-len-clause-none : goal.returns-else-i-len-clause-none
returns-else-i-len-clause-none c =
    let row : row_at (rows c.args.lists.now) c.args.place ≡ ids c.in-Some.list.now.items = row-get c.args.lists.now c.args.place c.in-Some.list.now (ltb-true c.args.place (length c.args.lists.now) (sym c.in-Some.ensures.lookup.0)) ∙ sym (ap (λ (v : Vec Entry). ids v.items) c.in-Some.ensures.lookup.1) in
    let n = ap length row in
    let m = ids-length c.in-Some.list.now.items in
    let h = c.if-i-len.false in
    let k = c.len.ensures in
    omega arith

pub returns-then-i-len-clause-blocked : goal.returns-then-i-len-clause-blocked
returns-then-i-len-clause-blocked c = λ seen loose count a.
    let d = c.in-Some.list.now in
    let h = c.if-i-len.true in
    let k = c.len.ensures in
    let all = each-get (IsBlocked seen loose count) c.args.lists.now c.args.place d (ltb-true c.args.place (length c.args.lists.now) (sym c.in-Some.ensures.lookup.0)) c.in-Some.ensures.lookup.1 a in
    subst (IsBlocked seen loose count) (sym c.index.ensures) (all c.args.i c.index.result.now (omega arith))

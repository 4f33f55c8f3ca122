use Rattle.std.proofs.Common.{ap, sym, ◌∙◌, subst, arith, List, length, get_or}
use Rattle.std.specs.List.{All}
use Rattle.std.specs.Global.{Vec}
use Rattle.std.proofs.Math.Seq.{map-set_same}
use Rattle.std.proofs.lemmas.List.Elements.{All-set}
use Rattle.sat_trail.specs.declared.entry.Entry.{Entry}
use Rattle.sat_trail.specs.Watches.{ids}
use Rattle.sat_trail.specs.Blockers.{IsBlocked}
use Rattle.sat_trail.proofs.Blocking.{each-get, each-set}
use Rattle.sat_trail.proofs.Rows.{row-get, rows-same, rows-within, ids-length, ids-get}
use Rattle.sat_trail.proofs.watch.set_blocker.Goals as goal

pub index_mut-requires : goal.index_mut-requires
index_mut-requires c = omega (arith, rows-within c.args.lists.now.items c.args.place c.args.i c.requires.within)

pub put_at-requires : goal.put_at-requires
put_at-requires c =
    let h = c.requires.within in
    let a = ap length (row-get c.args.lists.now.items c.args.place c.index_mut.result.now (rows-within c.args.lists.now.items c.args.place c.args.i c.requires.within)) in
    let b = ap (λ (v : Vec Entry). length v.items) c.index_mut.ensures.value in
    let l = ids-length (get_or c.args.lists.now.items c.args.place c.index_mut.result.now).items in
    omega arith

pub returns-clause-rows : goal.returns-clause-rows
returns-clause-rows c =
    let d = c.index_mut.result.now in
    let h = c.requires.within in
    let w = rows-within c.args.lists.now.items c.args.place c.args.i c.requires.within in
    let row = row-get c.args.lists.now.items c.args.place d w ∙ sym (ap (λ (v : Vec Entry). ids v.items) c.index_mut.ensures.value) in
    let a = ap length row in
    let l = ids-length d.items in
    rows-same c.args.lists.now.items c.args.place d c.put_at.new.list w c.index_mut.ensures.value
    (ap ids c.put_at.ensures ∙ map-set_same (λ (e : Entry). e.id) d.items c.args.i c.args.entry c.args.entry (c.requires.same ∙ ap (λ z. get_or z c.args.i 0) row ∙ ids-get d.items c.args.i c.args.entry (omega arith)))

pub returns-clause-blocked : goal.returns-clause-blocked
returns-clause-blocked c = λ seen loose count b all.
    let d = c.index_mut.result.now in
    let w = rows-within c.args.lists.now.items c.args.place c.args.i c.requires.within in
    let P : List Entry → Type 0 = All (IsBlocked seen loose count) in
    each-set (IsBlocked seen loose count) c.args.lists.now.items c.args.place c.put_at.new.list
    (subst P (sym c.put_at.ensures) (All-set (IsBlocked seen loose count) d.items c.args.i c.args.entry b (each-get (IsBlocked seen loose count) c.args.lists.now.items c.args.place d w c.index_mut.ensures.value all))) all

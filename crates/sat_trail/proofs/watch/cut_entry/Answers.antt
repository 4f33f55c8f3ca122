use Rattle.std.proofs.Common.{◌≡◌, ◌+◌, ◌-◌, ◌<◌, arith, ap, ◌∙◌, length, get_or}
use Rattle.std.specs.Global.{Vec}
use Rattle.std.specs.Prelude.{vec_len}
use Rattle.sat_trail.specs.declared.entry.Entry.{Entry}
use Rattle.sat_trail.specs.Blockers.{IsBlocked}
use Rattle.sat_trail.proofs.Blocking.{each-get, each-set, all-cut}
use Rattle.sat_trail.proofs.Rows.{row-get, rows-cut, rows-within, ids-length}
use Rattle.sat_trail.proofs.watch.cut_entry.Goals as goal

pub index_mut-requires : goal.index_mut-requires
index_mut-requires c = omega (arith, rows-within c.args.lists.now.items c.args.place c.args.i c.requires)

pub swap_remove-requires : goal.swap_remove-requires
swap_remove-requires c =
    let h = c.requires in
    let a = ap length (row-get c.args.lists.now.items c.args.place c.index_mut.result.now (rows-within c.args.lists.now.items c.args.place c.args.i c.requires)) in
    let b = ap (λ (v : Vec Entry). length v.items) c.index_mut.ensures.value in
    let l = ids-length (get_or c.args.lists.now.items c.args.place c.index_mut.result.now).items in
    omega arith

pub returns-clause-cut : goal.returns-clause-cut
returns-clause-cut c =
    let d = c.index_mut.result.now in
    let v = c.swap_remove.new.self in
    let h = c.requires in
    let a = ap length (row-get c.args.lists.now.items c.args.place c.index_mut.result.now (rows-within c.args.lists.now.items c.args.place c.args.i c.requires)) in
    let b = ap (λ (v : Vec Entry). length v.items) c.index_mut.ensures.value in
    let l = ids-length (get_or c.args.lists.now.items c.args.place c.index_mut.result.now).items in
    let k : vec_len v + 1 ≡ vec_len d = c.swap_remove.ensures.len in
    let e : vec_len d ≡ length d.items = omega arith in
    let n : length v.items + 1 ≡ length d.items = omega arith in
    let last : c.args.i + 1 < length d.items → (x : Entry) → get_or v.items c.args.i x ≡ get_or d.items (length d.items - 1) x = λ q x. c.swap_remove.ensures.by_index.0 x (omega arith) ∙ ap (λ z. get_or d.items (z - 1) x) e in
    rows-cut c.args.lists.now.items c.args.place c.args.i d v (rows-within c.args.lists.now.items c.args.place c.args.i c.requires) (omega arith) c.index_mut.ensures.value n last (λ j x m q. c.swap_remove.ensures.by_index.1 j x m (omega arith))

pub returns-clause-blocked : goal.returns-clause-blocked
returns-clause-blocked c = λ seen loose count all.
    let d = c.index_mut.result.now in
    let v = c.swap_remove.new.self in
    let k : vec_len v + 1 ≡ vec_len d = c.swap_remove.ensures.len in
    let h = rows-within c.args.lists.now.items c.args.place c.args.i c.requires in
    let b = ap (λ (z : Vec Entry). length z.items) c.index_mut.ensures.value in
    let e : vec_len d ≡ length d.items = omega arith in
    let n : length v.items + 1 ≡ length d.items = omega arith in
    let old = each-get (IsBlocked seen loose count) c.args.lists.now.items c.args.place d h c.index_mut.ensures.value all in
    each-set (IsBlocked seen loose count) c.args.lists.now.items c.args.place v
    (all-cut (IsBlocked seen loose count) d.items v.items c.args.i n (λ q x. c.swap_remove.ensures.by_index.0 x (omega arith) ∙ ap (λ z. get_or d.items (z - 1) x) e) (λ j x m q. c.swap_remove.ensures.by_index.1 j x m (omega arith)) old) all

use Rattle.std.proofs.Common.{◌≡◌, ◌+◌, ◌-◌, ◌≤◌, List, [], ◌∷◌, ◌++◌, length, sym, ap, subst, ◌∙◌, arith, append-nil}
use Rattle.rail_base.specs.Numbering.{entry}
use Rattle.command_set.proofs.Lists.{entry_next}
use Rattle.live_contending.specs.Rows.{sharing_rows}
use Rattle.live_contending.proofs.Tabled.{entry_last, train_added}
use Rattle.live_contending.proofs.sharing.add_train.Goals as goal

pub returns-in_ok-push-in-Some : goal.returns-in_ok-push-in-Some
returns-in_ok-push-in-Some c =
    let rows = c.args.rows.now in
    let routes = c.args.interlocking.now.routes in
    let cs = c.args.commands.now in
    let before = c.requires.before in
    let u = c.in-Some.earlier.0 in
    let low = c.in-Some.ensures.known in
    let high = c.in-Some.ensures.before in
    let trains = before.trains in
    let here : entry 0 rows.kinds.items u ≡ c.index-kind.result.now = ap (entry 0 rows.kinds.items) (omega arith) ∙ entry_next 0 rows.kinds.items (u - 1) c.index-kind.result.now c.index-kind.ensures (omega arith) in
    train_added routes cs c.args.train.0 c.index-kind.result.now rows _ [] before c.requires.known
    c.in_ok-push-in-Some.ensures.items (sym (append-nil rows.tables.items))
    (subst (λ k. 1 ≤ k) here (before.low u low (omega arith)))
    (subst (λ k. k ≤ length rows.tables.items) here (before.high u low (omega arith)))
    (ap (entry [] rows.tables.items) (sym here) ∙ (before.table u low (omega arith) ∙ ap (sharing_rows routes) c.in-Some.ensures.alike))

pub returns-in_ok-push-in-None-2 : goal.returns-in_ok-push-in-None-2
returns-in_ok-push-in-None-2 c =
    let rows = c.args.rows.now in
    let routes = c.args.interlocking.now.routes in
    let cs = c.args.commands.now in
    let table = c.in_ok-table-in-None.table in
    let tables = c.in_ok-push-in-None.ensures.items in
    let many = c.len.ensures in
    let longer = ap length tables ∙ length_more rows.tables.items table in
    train_added routes cs c.args.train.0 c.len.result rows _ (table ∷ []) c.requires.before c.requires.known
    c.in_ok-push-in-None-2.ensures.items tables
    (omega arith) (omega arith)
    (ap (λ xs. entry [] xs c.len.result) tables ∙ (entry_last [] rows.tables.items table c.len.result (omega arith) ∙ (c.in_ok-table-in-None.ensures ∙ ap (sharing_rows routes) c.routes_of.ensures.value)))
  where
    length_more : {X : Type 0} (xs : List X) (x : X) → length (xs ++ x ∷ []) ≡ length xs + 1
    length_more [] x = omega arith
    length_more (y ∷ xs) x = let h = length_more xs x in omega arith

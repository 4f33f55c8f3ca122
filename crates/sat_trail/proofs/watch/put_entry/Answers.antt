use Rattle.std.proofs.Common.{◌++◌, ◌∷◌, [], List, ap, sym, ◌∙◌, subst}
use Rattle.std.specs.List.{All}
use Rattle.std.proofs.lemmas.List.{map-append}
use Rattle.std.proofs.lemmas.List.Elements.{All-append}
use Rattle.sat_trail.specs.declared.entry.Entry.{Entry}
use Rattle.sat_trail.specs.Watches.{ids}
use Rattle.sat_trail.specs.Blockers.{IsBlocked}
use Rattle.sat_trail.proofs.Blocking.{each-get, each-set, all-one}
use Rattle.sat_trail.proofs.Rows.{rows-edit, rows-same, on-err}
use Rattle.sat_trail.proofs.watch.put_entry.Goals as goal

pub returns-in_err-push-clause-err : goal.returns-in_err-push-clause-err
returns-in_err-push-clause-err c = on-err c.from_residual.result _ (rows-same c.args.lists.now.items c.args.place c.index_mut.result.now c.push.new.self c.requires c.index_mut.ensures.value (ap ids c.in_err-push.ensures.items))

pub returns-clause-ok : goal.returns-clause-ok
returns-clause-ok c = rows-edit (λ r. r ++ c.args.id ∷ []) c.args.lists.now.items c.args.place c.index_mut.result.now c.push.new.self c.requires c.index_mut.ensures.value (ap ids c.in_ok-push.ensures.items ∙ map-append (λ (e : Entry). e.id) c.index_mut.result.now.items ((record { id = c.args.id; blocker = c.args.blocker }) ∷ []))

pub returns-in_err-push-clause-blocked : goal.returns-in_err-push-clause-blocked
returns-in_err-push-clause-blocked c = λ seen loose count b a.
    let P : List Entry → Type 0 = All (IsBlocked seen loose count) in
    each-set (IsBlocked seen loose count) c.args.lists.now.items c.args.place c.push.new.self (subst P (sym c.in_err-push.ensures.items) (each-get (IsBlocked seen loose count) c.args.lists.now.items c.args.place c.index_mut.result.now c.requires c.index_mut.ensures.value a)) a

pub returns-clause-blocked : goal.returns-clause-blocked
returns-clause-blocked c = λ seen loose count b a.
    let P : List Entry → Type 0 = All (IsBlocked seen loose count) in
    each-set (IsBlocked seen loose count) c.args.lists.now.items c.args.place c.push.new.self (subst P (sym c.in_ok-push.ensures.items) (All-append (IsBlocked seen loose count) c.index_mut.result.now.items ((record { id = c.args.id; blocker = c.args.blocker }) ∷ []) (each-get (IsBlocked seen loose count) c.args.lists.now.items c.args.place c.index_mut.result.now c.requires c.index_mut.ensures.value a) (all-one (IsBlocked seen loose count) (record { id = c.args.id; blocker = c.args.blocker }) b))) a

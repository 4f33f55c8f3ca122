use Rattle.std.proofs.Common.{◌≡◌, true, sym, subst, List, map}
use Rattle.std.specs.List.{All}
use Rattle.sat_trail.specs.declared.entry.Entry.{Entry}
use Rattle.sat_trail.specs.Attached.{is_among}
use Rattle.sat_trail.specs.Blockers.{IsBlocked}
use Rattle.sat_trail.specs.Watches.{row_at, entries, ids}
use Rattle.sat_trail.proofs.Blocking.{freed, left-there}
use Rattle.sat_trail.proofs.watch.make_free.Goals as goal

pub returns-then-id-count-clause-others : goal.returns-then-id-count-clause-others
returns-then-id-count-clause-others c = λ k x n m. subst (λ z. is_among (row_at (map ids z) k) x ≡ true) (sym c.take_out_all.ensures) (left-there (entries c.args.lists.now.items) c.args.id k x n m)

pub returns-then-id-count-clause-blocked : goal.returns-then-id-count-clause-blocked
returns-then-id-count-clause-blocked c = λ seen now loose d s a.
    let P : List (List Entry) → Type 0 = All (All (IsBlocked now loose c.args.count)) in
    subst P (sym c.take_out_all.ensures) (freed seen now loose c.args.count c.args.id d (entries c.args.lists.now.items) s a)

use Rattle.std.proofs.Common.{rules, [], Ok, Err, refl, ap}
use Rattle.named_files.specs.declared.unmade.Unmade.TheVariants.{Refused, Memory, Unread}
use Rattle.cli_shell.specs.Answers.{within_limit}
use Rattle.named_files.proofs.FilesRead.{read_refused, some_fetch}
use Rattle.named_files.proofs.fetching.fetch_named.Goals as goal

pub returns-in-Ok-clause-fetches : goal.returns-in-Ok-clause-fetches
returns-in-Ok-clause-fetches g c = some_fetch _ c.args.file c.args.name.now (Ok c.in-Ok.bytes) (λ files told. c.in-Ok.ensures.reads files told) c.in-Ok.ensures.for_some_bytes

pub returns-in-Err-RefusedWith-clause-fetches : goal.returns-in-Err-RefusedWith-clause-fetches
returns-in-Err-RefusedWith-clause-fetches g c =
    let e = c.in-Err-RefusedWith.field-0 in
    let reply = c.in-Err-RefusedWith.reply in
    let name = c.args.name.now in
    let is = c.in-Err-RefusedWith.field-0-is in
    let some = c.in-Err-RefusedWith.ensures.for_some_bytes in
    some_fetch _ c.args.file name (Err (Refused reply))
    (λ files told. read_refused e reply name (within_limit c.args.file (files name)) is (c.in-Err-RefusedWith.ensures.reads files told))
    (some.0, read_refused e reply name (within_limit c.args.file some.0) is some.1)

pub returns-in-Err-Memory-clause-fetches : goal.returns-in-Err-Memory-clause-fetches
returns-in-Err-Memory-clause-fetches g c = some_fetch _ c.args.file c.args.name.now (Err Memory) (λ files told. tt) ([], tt)

pub returns-in-Err-ShelfFault-clause-fetches : goal.returns-in-Err-ShelfFault-clause-fetches
returns-in-Err-ShelfFault-clause-fetches g c = some_fetch _ c.args.file c.args.name.now (Err (Unread c.args.name)) (λ files told. refl) ([], refl)

pub returns-in-Err-ShelfFault-clause-uses : goal.returns-in-Err-ShelfFault-clause-uses
returns-in-Err-ShelfFault-clause-uses g c = record { cause = λ unread. c.in-Err-ShelfFault.ensures.uses.cause (ap Err c.in-Err-ShelfFault.field-0-is); never_falls = (search rules); files_stay = (search rules); asks = (search rules) }

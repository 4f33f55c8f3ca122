use Rattle.std.proofs.Common.{◌≤◌, ℕ, [], length, subst}
use Rattle.cli_shell.proofs.AnyShelf.{some_fit, some_long}
use Rattle.cli_shell.proofs.reading.fetch.Goals as goal

pub returns-in-Ok-clause-for_some_bytes : goal.returns-in-Ok-clause-for_some_bytes
returns-in-Ok-clause-for_some_bytes g c = some_fit c.args.file c.in-Ok.bytes (subst (λ (k : ℕ). length c.in-Ok.bytes.items ≤ k) c.limit.ensures c.in-Ok.ensures.fits)

pub returns-in-Err-TooLong-clause-for_some_bytes : goal.returns-in-Err-TooLong-clause-for_some_bytes
returns-in-Err-TooLong-clause-for_some_bytes g c = rw c.ending_of.ensures (some_long c.args.file c.too_long.result c.too_long.ensures)

pub returns-in-Err-Failed-clause-for_some_bytes : goal.returns-in-Err-Failed-clause-for_some_bytes
returns-in-Err-Failed-clause-for_some_bytes g c = ([], tt)

pub returns-in-Err-Memory-clause-for_some_bytes : goal.returns-in-Err-Memory-clause-for_some_bytes
returns-in-Err-Memory-clause-for_some_bytes g c = ([], tt)

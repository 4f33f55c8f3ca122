-- What was read, where only want of memory is an error.
use Rattle.std.specs.Prelude.{◌≡◌, Option, Some, None, Result, Ok, Err}
use Rattle.std.specs.declared.alloc.AllocError.{AllocError}
use Rattle.toml_parser.specs.declared.error.ParseError.{ParseError}
use Rattle.toml_parser.specs.declared.error.ParseError.TheVariants.{OutOfMemory}

-- it was read, or refused for another cause than memory
abbrev pub Answers : {X : Type 0} → Result X ParseError → Result (Option X) AllocError → Type 0
Answers read (Ok (Some x)) = read ≡ Ok x
Answers read (Ok None) = (e : ParseError) × (read ≡ Err e) × (e ≡ OutOfMemory → ⊥)
Answers read (Err e) = Unit {0}

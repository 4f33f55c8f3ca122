-- What a command may answer, by its worked example.
use Rattle.std.specs.Prelude.{ℕ, List, Bool, true, ◌||◌, nat_eq, bytes_eq}
use Rattle.std.specs.List.{starts_with, list_any}
use Rattle.std.specs.Option.{option_map_or}
use Rattle.std.specs.Vec.{vec_len}
use Rattle.worked_examples.specs.declared.row.command.Command.{Command}

-- one of the texts that may be printed; any where none is given
abbrev pub may_print : Command → List ℕ → Bool
may_print c text = nat_eq (vec_len c.prints) 0 || list_any (λ wanted. bytes_eq wanted.now text) c.prints.items

-- a text that begins as it has to
abbrev pub begins_so : Command → List ℕ → Bool
begins_so c text = option_map_or (λ prefix. starts_with nat_eq text prefix.now) c.begins true

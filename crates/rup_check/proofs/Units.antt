-- The search for the one literal of a clause that has no value.
use Rattle.std.proofs.Common.{cond, List, Option, Some, None}
use Rattle.std.specs.List.{list_all}
use Rattle.sat_clause.specs.declared.lit.Lit.{Lit}
use Rattle.sat_clause.specs.Hints.{same_lit, only_one}

-- what is found in the end, where this was found so far and these open literals are left
abbrev pub found_in : List Lit → Option Lit → List Lit → Option Lit
found_in assigned None ls = only_one assigned ls
found_in assigned (Some f) ls = cond (list_all (same_lit f) ls) (Some f) None

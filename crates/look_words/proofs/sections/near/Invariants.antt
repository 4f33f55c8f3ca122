use Rattle.std.proofs.Common.{◌≡◌, drop}
use Rattle.std.specs.List.{find}
use Rattle.look_words.specs.Sections.{differ_in_one}
use Rattle.look_words.proofs.sections.near.Given as goal

-- it is to be found in the rest
abbrev pub invariant-loop-other : goal.invariant-loop-other
invariant-loop-other l = find (differ_in_one l.name) (drop l.other-index l.names) ≡ find (differ_in_one l.name) l.names

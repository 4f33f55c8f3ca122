use Rattle.std.proofs.Common.{◌≡◌, drop}
use Rattle.std.specs.List.{find}
use Rattle.design_places.specs.Seen.{is_wanted}
use Rattle.toml_places.specs.Texts.{texts}
use Rattle.design_places.proofs.places.find_wanted.Given as goal

-- it is to be found in the rest
abbrev pub invariant-loop-text : goal.invariant-loop-text
invariant-loop-text l = find (is_wanted l.wanted) (texts (drop l.text-index l.begun)) ≡ find (is_wanted l.wanted) (texts l.begun)

use Rattle.std.proofs.Common.{◌≡◌, ◌≤◌, ◌*◌, min, drop}
use Rattle.bound_spec.specs.Validity.{choices}
use Rattle.bound_design.proofs.choices.choices.Given as goal

-- the choices of those so far, times those of the others, are all
abbrev pub invariant-loop-place : goal.invariant-loop-place
invariant-loop-place l = record {
  few : l.total ≤ 4097;
  all : min 4097 (l.total * choices (drop l.place-index l.places)) ≡ min 4097 (choices l.places);
}

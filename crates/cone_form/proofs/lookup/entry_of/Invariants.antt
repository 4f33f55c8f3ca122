use Rattle.std.proofs.Common.{◌≡◌, drop, find}
use Rattle.rail_spec.specs.Plans.{is_train}
use Rattle.cone_spec.specs.declared.ConeTrain.{ConeTrain}
use Rattle.cone_spec.specs.Cones.{first_named}
use Rattle.cone_form.proofs.lookup.entry_of.Given as goal

-- none so far is of the train
abbrev pub invariant-loop-entry : goal.invariant-loop-entry
invariant-loop-entry l = record {
  value : first_named l.train (drop l.entry-index l.entry-items) ≡ first_named l.train l.entry-items;
  found : find (λ (e : ConeTrain). is_train e.train l.train) (drop l.entry-index l.entry-items) ≡ find (λ (e : ConeTrain). is_train e.train l.train) l.entry-items;
}

use Rattle.std.proofs.Common.{ℕ, ◌+◌, ◌∷◌, ◌++◌, [], Bool, List, Ok, length, map, is_none, sym, ap, ◌∙◌}
use Rattle.rail_base.specs.declared.plan.Command.{Command}
use Rattle.rail_base.specs.Numbering.{entry}
use Rattle.serde_json.specs.Data.{null}
use Rattle.serde_json.specs.View.{view}
use Rattle.rail_plan.specs.declared.fault.PlanCode.TheVariants.{P2}
use Rattle.rail_plan.specs.declared.place.PlanPlace.TheVariants as place
use Rattle.rail_plan.specs.Reading.{missing, seen, unread_in, read_in}
use Rattle.rail_plan.proofs.Firsts.{first_mapped_some}
use Rattle.rail_plan.proofs.Seen.{unless_first, filter_found, filter_on, read_more, missing_here, not_missing}
use Rattle.rail_plan.proofs.reading.read_step.Goals as goal

pub returns-in-None : goal.returns-in-None
returns-in-None c =
    let names : List (List ℕ) = map (λ k. k.now) c.args.names.now.keys in
    let values = c.args.values.now in
    let i = c.loop-index.index in
    let test : ℕ → Bool = λ j. is_none (seen names c.args.many (entry null (map view values) j)) in
    let here = missing_here names c.args.many values i c.index-values-index.result c.loop-index-test.true c.index-values-index.is c.in-None.ensures in
    let found = filter_found test (length values) i c.loop-index-test.true here ∙ c.loop-index.invariant.first in
    unless_first P2 (unread_in names c.args.many c.args.number (map view values)) (place.Command c.args.number (i + 1)) (Ok (read_in names c.args.many (map view values)))
    (first_mapped_some (place.Command c.args.number) (missing (seen names c.args.many) null (map view values)) (i + 1) found)

pub loop-index-preserved : goal.loop-index-preserved
loop-index-preserved c =
    let names : List (List ℕ) = map (λ k. k.now) c.args.names.now.keys in
    let values = c.args.values.now in
    let i = c.loop-index.index in
    let test : ℕ → Bool = λ j. is_none (seen names c.args.many (entry null (map view values) j)) in
    let here = not_missing names c.args.many values i c.index-values-index.result c.in-Some.command c.loop-index-test.true c.index-values-index.is c.in-Some.ensures in
    record {
      commands =
          c.in_ok-push-in-Some.ensures.ok ∙ ap (λ (cs : List Command). cs ++ c.in-Some.command ∷ []) c.loop-index.invariant.commands
          ∙ sym (read_more names c.args.many values i c.index-values-index.result c.in-Some.command c.loop-index-test.true c.index-values-index.is c.in-Some.ensures);
      first = sym (filter_on test (length values) i c.loop-index-test.true here) ∙ c.loop-index.invariant.first;
    }

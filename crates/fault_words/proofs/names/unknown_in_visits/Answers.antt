use Rattle.std.proofs.Common.{◌∙◌, ap}
use Rattle.design_table.specs.Texts.{texts}
use Rattle.design_table.specs.Parsed.{sheet_seen}
use Rattle.std.specs.List.{find}
use Rattle.fault_words.specs.Names.{is_unknown}
use Rattle.fault_words.proofs.Seen.{found_here, found_later}
use Rattle.fault_words.proofs.names.unknown_in_visits.Goals as goal

pub returns-in-Some : goal.returns-in-Some
returns-in-Some c = found_here (is_unknown (sheet_seen c.args.sheet.now)) c.args.visits.now _ _ c.loop-visit-test.true c.visit-item.is _ c.loop-visit.invariant c.unknown_among.result
    (c.unknown_among.ensures ∙ ap (λ ns. find (is_unknown (sheet_seen c.args.sheet.now)) (texts ns)) c.as_slice.ensures.value) _ c.in-Some.is

pub loop-visit-preserved : goal.loop-visit-preserved
loop-visit-preserved c = found_later (is_unknown (sheet_seen c.args.sheet.now)) c.args.visits.now _ _ c.loop-visit-test.true c.visit-item.is _ c.loop-visit.invariant c.unknown_among.result
    (c.unknown_among.ensures ∙ ap (λ ns. find (is_unknown (sheet_seen c.args.sheet.now)) (texts ns)) c.as_slice.ensures.value) c.in_default.is

use Rattle.std.proofs.Common.{Option, Some, None, find, sym, ap, ◌∙◌}
use Rattle.timing_refuter.specs.Clearings.{is_entry}
use Rattle.outcome_words.proofs.Releases.{Entry, found_in_first, found_in_second}
use Rattle.outcome_words.proofs.waits.released_at.Goals as goal

pub returns-in-Some : goal.returns-in-Some
returns-in-Some c =
    let found = sym (c.entry_of.ensures ∙ ap (find (is_entry c.args.route c.args.section)) c.as_slice.ensures) ∙ c.in-Some.is in
    found_in_first c.args.route c.args.section c.args.train.now.releases c.args.train.now.holds c.in-Some.release found

pub returns-in_err-entry_of-in-None : goal.returns-in_err-entry_of-in-None
returns-in_err-entry_of-in-None c =
    let none : Option Entry = None in
    let first = sym (c.entry_of.ensures ∙ ap (find (is_entry c.args.route c.args.section)) c.as_slice.ensures) ∙ c.in-None.is in
    let second = sym (c.entry_of-in-None.ensures ∙ ap (find (is_entry c.args.route c.args.section)) c.as_slice-in-None.ensures) ∙ c.in_err-entry_of-in-None.was in
    c.from_residual.ensures ∙ found_in_second c.args.route c.args.section c.args.train.now.releases c.args.train.now.holds none first second

pub returns-in_ok-entry_of-in-None : goal.returns-in_ok-entry_of-in-None
returns-in_ok-entry_of-in-None c =
    let first = sym (c.entry_of.ensures ∙ ap (find (is_entry c.args.route c.args.section)) c.as_slice.ensures) ∙ c.in-None.is in
    let second = sym (c.entry_of-in-None.ensures ∙ ap (find (is_entry c.args.route c.args.section)) c.as_slice-in-None.ensures) ∙ c.in_ok-entry_of-in-None.was in
    found_in_second c.args.route c.args.section c.args.train.now.releases c.args.train.now.holds (Some c.in_ok-entry_of-in-None.field-0) first second

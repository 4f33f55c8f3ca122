use Rattle.std.proofs.Common.{◌≡◌, ℕ, ◌+◌, length, Some, sym, ap, ◌∙◌}
use Rattle.log_recorder.specs.declared.text.Text.{Text}
use Rattle.sat_core.specs.Texts.{added_line, has_room}
use Rattle.verify_loop.proofs.Refuting.{added_length}
use Rattle.verify_loop.proofs.rounds.PlanSearch.add_line.Goals as goal

pub add_clause-requires-clause-room : goal.add_clause-requires-clause-room
add_clause-requires-clause-room c =
    let one = c.args.search.solver in
    let line = c.as_slice-bytes.result.now in
    let e = c.requires.shown.0 in
    let w = c.requires.shown.1 in
    let same : length (added_line line) ≡ length line + 1 = added_length e line (c.as_slice-bytes.ensures.value ∙ w.line_is) in
    ap (λ (k : ℕ). has_room (Some one.recorder.limit) (length one.recorder.bytes.items + k)) same
    ∙ (ap (λ (r : Text). has_room (Some r.limit) (length r.bytes.items + (length line + 1))) (sym c.recorder.ensures) ∙ (sym c.room.ensures ∙ c.if-not-room.false))

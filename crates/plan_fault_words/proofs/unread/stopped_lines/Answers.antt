use Rattle.plan_fault_words.proofs.unread.stopped_lines.Goals as goal

pub returns : goal.returns
returns c = (c.place_at-place.result, c.args.is_cut, c.place_at-place.ensures, c.in_ok-lines.ensures)

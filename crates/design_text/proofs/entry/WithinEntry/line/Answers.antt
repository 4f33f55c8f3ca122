use Rattle.design_text.proofs.entry.WithinEntry.line.Goals as goal

pub returns : goal.returns
returns c = rw (c.train_name.ensures, c.train_name-2.ensures) at c.entry_line.ensures

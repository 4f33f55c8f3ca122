use Rattle.design_text.proofs.entry.EdgeEntry.line.Goals as goal

pub returns : goal.returns
returns c = rw (c.as_bytes.ensures, c.node_name.ensures, c.side_name.ensures, c.node_name-2.ensures, c.side_name-2.ensures, c.section_name.ensures) at c.entry_line.ensures

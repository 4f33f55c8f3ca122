use Rattle.std.proofs.Common.{◌≡◌, ◌++◌, take, codes}
use Rattle.rail_base.specs.Names.{section_name}
use Rattle.cone_words.specs.Phrases.{each_after}
use Rattle.cone_words.proofs.phrases.put_each_section.Given as goal

abbrev pub invariant-loop-section : goal.invariant-loop-section
invariant-loop-section l = l.text.items ≡ l.initial.text.items ++ each_after (codes ", ") (section_name l.design.station) (take l.section-index l.sections)

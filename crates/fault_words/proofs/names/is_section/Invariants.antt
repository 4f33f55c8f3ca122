use Rattle.std.proofs.Common.{◌≡◌, drop, map}
use Rattle.design_table.specs.Parsed.{edge_seen, sheet_seen}
use Rattle.infra_reader.specs.Names.{is_among, section_names}
use Rattle.fault_words.proofs.names.is_section.Given as goal

-- it is to be found in the rest
abbrev pub invariant-loop-edge : goal.invariant-loop-edge
invariant-loop-edge l = is_among (map (λ e. e.section) (map edge_seen (drop l.edge-index l.sheet.edges.items))) l.name ≡ is_among (section_names (sheet_seen l.sheet)) l.name

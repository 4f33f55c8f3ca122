use Rattle.std.proofs.Common.{map, refl, ap, ◌∙◌}
use Rattle.design_table.specs.Parsed.{edge_seen}
use Rattle.design_table.specs.Texts.{texts}
use Rattle.infra_reader.proofs.Repeats.{texts_seen, reads_names}
use Rattle.infra_reader.proofs.names.edge_names.Goals as goal

pub returns : goal.returns
returns c = reads_names _ c.distinct.result _ (texts c.as_slice-2.result.now) _ (texts_seen (λ n. n.name) (λ n. n.name) edge_seen (λ n. refl) c.args.sheet.now.edges.items c.as_slice-2.result.now (c.as_slice-2.ensures.value ∙ c.in_ok-names.ensures ∙ ap (map (λ n. n.name)) c.as_slice.ensures.value)) c.distinct.ensures

use Rattle.std.proofs.Common.{◌≡◌, map, refl, ap, subst, ◌∙◌}
use Rattle.std.specs.Prelude.{IfOk}
use Rattle.design_table.specs.Parsed.{edge_seen}
use Rattle.infra_reader.specs.Names.{each_once}
use Rattle.design_table.specs.Texts.{texts}
use Rattle.infra_reader.proofs.Repeats.{texts_seen}
use Rattle.infra_reader.proofs.names.section_names.Goals as goal

pub returns : goal.returns
returns c =
    let same = texts_seen (λ e. e.section) (λ e. e.section) edge_seen (λ e. refl) c.args.sheet.now.edges.items c.as_slice-2.result.now (c.as_slice-2.ensures.value ∙ c.in_ok-names.ensures ∙ ap (map (λ e. e.section)) c.as_slice.ensures.value) in
    subst (λ names. IfOk c.each_once.result (λ s. texts s.keys ≡ each_once names)) same c.each_once.ensures

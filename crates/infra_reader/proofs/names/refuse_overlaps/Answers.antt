use Rattle.std.proofs.Common.{map, refl, ap, subst, ◌∙◌}
use Rattle.design_table.specs.Parsed.{overlap_seen}
use Rattle.design_table.specs.Reads.{ReadsOrRefuses}
use Rattle.design_table.specs.Texts.{texts}
use Rattle.design_table.specs.declared.fault.Code.TheVariants.{D03}
use Rattle.infra_reader.specs.Names.{overlaps_repeated}
use Rattle.infra_reader.proofs.Repeats.{texts_seen}
use Rattle.infra_reader.proofs.names.refuse_overlaps.Goals as goal

pub returns : goal.returns
returns c =
    let same = texts_seen (λ o. o.signal) (λ o. o.signal) overlap_seen (λ o. refl) c.args.sheet.now.overlaps.items c.as_slice-2.result.now (c.as_slice-2.ensures.value ∙ c.in_ok-names.ensures ∙ ap (map (λ o. o.signal)) c.as_slice.ensures.value) in
    subst (λ names. ReadsOrRefuses (λ x. x) c.refuse_second.result D03 (overlaps_repeated (texts c.args.signals.now.keys) names) tt) same c.refuse_second.ensures

use Rattle.std.proofs.Common.{◌≡◌, map, subst}
use Rattle.std.specs.Prelude.{IfOk}
use Rattle.design_table.specs.Parsed.{node_seen}
use Rattle.design_table.specs.declared.fault.Code.TheVariants.{D04}
use Rattle.infra_reader.specs.Seen.{names_seen}
use Rattle.infra_reader.specs.Stations.{node_in}
use Rattle.infra_reader.proofs.Walking.{no_places, reads_nowhere}
use Rattle.infra_reader.proofs.resolve.resolve_nodes.Goals as goal

pub returns : goal.returns
returns c =
    let found = reads_nowhere c.resolve_each.result D04 _ _ (no_places 1 (map node_seen c.as_slice.result.now)) c.resolve_each.ensures in
    record {
      ok = subst (λ entries. IfOk c.resolve_each.result (λ nodes. nodes ≡ map (node_in (names_seen c.args.names.now)) (map node_seen entries))) c.as_slice.ensures.value found.0;
      err = found.1;
    }

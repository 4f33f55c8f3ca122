use Rattle.std.proofs.Common.{◌≡◌, map, subst}
use Rattle.std.specs.Prelude.{IfOk}
use Rattle.design_table.specs.Parsed.{vehicle_seen}
use Rattle.design_table.specs.declared.fault.Code.TheVariants.{D04}
use Rattle.infra_reader.specs.Seen.{names_seen}
use Rattle.infra_reader.specs.Stations.{vehicle_in}
use Rattle.infra_reader.proofs.Walking.{no_places, reads_nowhere}
use Rattle.infra_reader.proofs.resolve.resolve_vehicles.Goals as goal

pub returns : goal.returns
returns c =
    let found = reads_nowhere c.resolve_each.result D04 _ _ (no_places 1 (map vehicle_seen c.as_slice.result.now)) c.resolve_each.ensures in
    record {
      ok = subst (λ entries. IfOk c.resolve_each.result (λ vehicles. vehicles ≡ map (vehicle_in (names_seen c.args.names.now)) (map vehicle_seen entries))) c.as_slice.ensures.value found.0;
      err = found.1;
    }

-- A station that breaks no rule.
use Rattle.std.specs.Prelude.{◌≡◌, []}
use Rattle.rail_base.specs.declared.station.Station.{Station}
use Rattle.infra_reader.specs.Track.{crowded, open_boundaries, misplaced_signals}
use Rattle.infra_reader.specs.Traffic.{zeros, inner_starts, missing_visits}

-- no rule has a place
pub record KeepsRules (d : Station) : Type 0 where
  pub crowds : crowded d ≡ []
  pub ends : open_boundaries d ≡ []
  pub signals : misplaced_signals d ≡ []
  pub moves : zeros d ≡ []
  pub starts : inner_starts d ≡ []
  pub visits : missing_visits d ≡ []

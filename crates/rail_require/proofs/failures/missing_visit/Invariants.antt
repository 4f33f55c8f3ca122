use Rattle.std.proofs.Common.{◌≡◌, map, length, find}
use Rattle.rail_base.specs.declared.station.Station.{Station}
use Rattle.rail_base.specs.declared.plan.Violation.TheVariants as violation
use Rattle.rail_base.specs.Stations.{horizon}
use Rattle.rail_require.specs.Ticks.{visit_numbers}
use Rattle.rail_require.specs.Violations.{is_certain, visit_violations}
use Rattle.rail_require.proofs.Missing.{violations_from}
use Rattle.rail_require.proofs.failures.missing_visit.Given as goal

-- the first is that of the trains from here on
abbrev pub invariant-loop-place : goal.invariant-loop-place
invariant-loop-place l = (d : Station) → l.tick ≡ horizon d → find (is_certain d l.history l.tick) (visit_violations l.history)
    ≡ find (is_certain d l.history l.tick) (violations_from (λ t. map (violation.Visit t) (visit_numbers l.history t)) (length l.history) l.place)

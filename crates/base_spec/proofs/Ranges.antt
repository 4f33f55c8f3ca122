-- The numbers in the clauses of each base: from 1 to the number of the last variable, and none that of the last step.
use Rattle.std.proofs.Common.{◌≡◌, ℕ, ◌+◌, ◌≤◌, ◌<◌, List, arith}
use Rattle.std.specs.Prelude.{◌≢◌}
use Rattle.rail_base.specs.declared.station.Station.{Station}
use Rattle.rail_base.specs.declared.route.Route.{Route}
use Rattle.clause_spec.specs.declared.question.BaseKind.{BaseKind}
use Rattle.clause_spec.specs.declared.question.BaseKind.TheVariants.{Plain, Sorted, Normal, Live}
use Rattle.clause_spec.specs.declared.question.Turns.TheVariants.{All}
use Rattle.clause_spec.specs.Variables.{variable_count}
use Rattle.clause_spec.proofs.InRange.{literals_in_range}
use Rattle.alike_clause_spec.proofs.InRange.{sorted_in_range}
use Rattle.normal_clause_spec.proofs.InRange.{normal_in_range}
use Rattle.live_clause_spec.specs.Live.{is_live}
use Rattle.live_clause_spec.proofs.Base.{left_in_range}
use Rattle.base_spec.specs.Laws.{AreInRangeOf}

below : (x a : ℕ) → 1 ≤ x → x < a → (1 ≤ x) × (x ≤ a + 0) × (x ≢ a)
below x a low high = (low, omega arith, λ e. (let same : x ≡ a = e in absurd (omega arith)))

pub in_range_of : (kind : BaseKind) (d : Station) (routes : List Route) (n : ℕ) → 1 ≤ n → AreInRangeOf kind d routes n
in_range_of Plain d routes n some c m l i = let r = literals_in_range d routes n some c m l i in below l.var (variable_count d routes n) r.0 r.1
in_range_of Sorted d routes n some c m l i = let r = sorted_in_range d routes n All some c m l i in below l.var (variable_count d routes n) r.0 r.1
in_range_of Normal d routes n some c m l i = normal_in_range d routes n some c m l i
in_range_of (Live turns) d routes n some c m l i = let r = left_in_range turns (is_live d routes) d routes n some c m l i in let high = r.1 in (r.0, omega arith, r.2)

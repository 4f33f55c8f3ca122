use Rattle.std.proofs.Common.{◌≡◌, ℕ, refl, rules, sym, ap}
use Rattle.std.proofs.lemmas.Result.{err_from_is_err_and}
use Rattle.toml.specs.Data.{Members}
use Rattle.toml.specs.View.{table_view}
use Rattle.design_table.specs.declared.fault.Code.TheVariants.{D02}
use Rattle.design_table.specs.Sheet.{version_of, sheet_in, sheet_of, faults_in, form_fault}
use Rattle.design_table.proofs.Walks.{fails_here}
use Rattle.design_table.proofs.read.read_sheet.Goals as goal

-- in the version that was read
faults_at : (version : ℕ) (ms : Members) → version ≡ version_of ms → form_fault ms ≡ faults_in version ms
unfolding form_fault
faults_at version ms is = ap (λ (v : ℕ). faults_in v ms) (sym is)

sheet_at : (version : ℕ) (ms : Members) → version ≡ version_of ms → sheet_of ms ≡ sheet_in version ms
unfolding sheet_of
sheet_at version ms is = ap (λ (v : ℕ). sheet_in v ms) (sym is)

pub returns-in_err-version : goal.returns-in_err-version
unfolding form_fault
returns-in_err-version c =
    let p = err_from_is_err_and c.from_residual.result c.from_residual.ensures.1 in
    rw (p.1, p.2) (fails_here c.in_err-version.field-0.0 D02 _ _ c.in_err-version.ensures)

pub returns-in_err-tick_ms : goal.returns-in_err-tick_ms
unfolding form_fault
returns-in_err-tick_ms c =
    let p = err_from_is_err_and c.from_residual-in_err-tick_ms.result c.from_residual-in_err-tick_ms.ensures.1 in
    rw (p.1, p.2, c.in_ok-version.ensures.0) (fails_here c.in_err-tick_ms.field-0.0 D02 _ _ c.in_err-tick_ms.ensures)

pub returns-in_err-horizon_ms : goal.returns-in_err-horizon_ms
unfolding form_fault
returns-in_err-horizon_ms c =
    let p = err_from_is_err_and c.from_residual-in_err-horizon_ms.result c.from_residual-in_err-horizon_ms.ensures.1 in
    rw (p.1, p.2, c.in_ok-version.ensures.0, c.in_ok-tick_ms.ensures.0) (fails_here c.in_err-horizon_ms.field-0.0 D02 _ _ c.in_err-horizon_ms.ensures)

pub returns-in_err-nodes : goal.returns-in_err-nodes
returns-in_err-nodes c =
    let p = err_from_is_err_and c.from_residual-in_err-nodes.result c.from_residual-in_err-nodes.ensures.1 in
    rw (p.1, p.2, faults_at c.version_of-known.result (table_view c.args.table.now) c.version_of-known.ensures, c.in_ok-version.ensures.0, c.in_ok-tick_ms.ensures.0, c.in_ok-horizon_ms.ensures.0) (fails_here c.in_err-nodes.field-0.0 D02 _ _ c.in_err-nodes.ensures)

pub returns-in_err-edges : goal.returns-in_err-edges
returns-in_err-edges c =
    let p = err_from_is_err_and c.from_residual-in_err-edges.result c.from_residual-in_err-edges.ensures.1 in
    rw (p.1, p.2, faults_at c.version_of-known.result (table_view c.args.table.now) c.version_of-known.ensures, c.in_ok-version.ensures.0, c.in_ok-tick_ms.ensures.0, c.in_ok-horizon_ms.ensures.0, c.in_ok-nodes.ensures.0) (fails_here c.in_err-edges.field-0.0 D02 _ _ c.in_err-edges.ensures)

pub returns-in_err-signals : goal.returns-in_err-signals
returns-in_err-signals c =
    let p = err_from_is_err_and c.from_residual-in_err-signals.result c.from_residual-in_err-signals.ensures.1 in
    rw (p.1, p.2, faults_at c.version_of-known.result (table_view c.args.table.now) c.version_of-known.ensures, c.in_ok-version.ensures.0, c.in_ok-tick_ms.ensures.0, c.in_ok-horizon_ms.ensures.0, c.in_ok-nodes.ensures.0, c.in_ok-edges.ensures.0) (fails_here c.in_err-signals.field-0.0 D02 _ _ c.in_err-signals.ensures)

pub returns-in_err-vehicles : goal.returns-in_err-vehicles
returns-in_err-vehicles c =
    let p = err_from_is_err_and c.from_residual-in_err-vehicles.result c.from_residual-in_err-vehicles.ensures.1 in
    rw (p.1, p.2, faults_at c.version_of-known.result (table_view c.args.table.now) c.version_of-known.ensures, c.in_ok-version.ensures.0, c.in_ok-tick_ms.ensures.0, c.in_ok-horizon_ms.ensures.0, c.in_ok-nodes.ensures.0, c.in_ok-edges.ensures.0, c.in_ok-signals.ensures.0) (fails_here c.in_err-vehicles.field-0.0 D02 _ _ c.in_err-vehicles.ensures)

pub returns-in_err-trains : goal.returns-in_err-trains
returns-in_err-trains c =
    let p = err_from_is_err_and c.from_residual-in_err-trains.result c.from_residual-in_err-trains.ensures.1 in
    rw (p.1, p.2, faults_at c.version_of-known.result (table_view c.args.table.now) c.version_of-known.ensures, c.in_ok-version.ensures.0, c.in_ok-tick_ms.ensures.0, c.in_ok-horizon_ms.ensures.0, c.in_ok-nodes.ensures.0, c.in_ok-edges.ensures.0, c.in_ok-signals.ensures.0, c.in_ok-vehicles.ensures.0) (fails_here c.in_err-trains.field-0.0 D02 _ _ c.in_err-trains.ensures)

pub returns-in_err-orders : goal.returns-in_err-orders
returns-in_err-orders c =
    let p = err_from_is_err_and c.from_residual-in_err-orders.result c.from_residual-in_err-orders.ensures.1 in
    rw (p.1, p.2, faults_at c.version_of-known.result (table_view c.args.table.now) c.version_of-known.ensures, c.in_ok-version.ensures.0, c.in_ok-tick_ms.ensures.0, c.in_ok-horizon_ms.ensures.0, c.in_ok-nodes.ensures.0, c.in_ok-edges.ensures.0, c.in_ok-signals.ensures.0, c.in_ok-vehicles.ensures.0, c.in_ok-trains.ensures.0) (fails_here c.in_err-orders.field-0.0 D02 _ _ c.in_err-orders.ensures)

pub returns-in_err-withins : goal.returns-in_err-withins
returns-in_err-withins c =
    let p = err_from_is_err_and c.from_residual-in_err-withins.result c.from_residual-in_err-withins.ensures.1 in
    rw (p.1, p.2, faults_at c.version_of-known.result (table_view c.args.table.now) c.version_of-known.ensures, c.in_ok-version.ensures.0, c.in_ok-tick_ms.ensures.0, c.in_ok-horizon_ms.ensures.0, c.in_ok-nodes.ensures.0, c.in_ok-edges.ensures.0, c.in_ok-signals.ensures.0, c.in_ok-vehicles.ensures.0, c.in_ok-trains.ensures.0, c.in_ok-orders.ensures.0) (fails_here c.in_err-withins.field-0.0 D02 _ _ c.in_err-withins.ensures)

pub returns-in_err-overlaps : goal.returns-in_err-overlaps
returns-in_err-overlaps c =
    let p = err_from_is_err_and c.from_residual-in_err-overlaps.result c.from_residual-in_err-overlaps.ensures.1 in
    rw (p.1, p.2, faults_at c.version_of-known.result (table_view c.args.table.now) c.version_of-known.ensures, c.in_ok-version.ensures.0, c.in_ok-tick_ms.ensures.0, c.in_ok-horizon_ms.ensures.0, c.in_ok-nodes.ensures.0, c.in_ok-edges.ensures.0, c.in_ok-signals.ensures.0, c.in_ok-vehicles.ensures.0, c.in_ok-trains.ensures.0, c.in_ok-orders.ensures.0, c.in_ok-withins.ensures.0) (fails_here c.in_err-overlaps.field-0.0 D02 _ _ c.in_err-overlaps.ensures)

pub returns-in_err-refuse_unknown : goal.returns-in_err-refuse_unknown
returns-in_err-refuse_unknown c =
    let p = err_from_is_err_and c.from_residual-in_err-refuse_unknown.result c.from_residual-in_err-refuse_unknown.ensures.1 in
    rw (p.1, p.2, faults_at c.version_of-known.result (table_view c.args.table.now) c.version_of-known.ensures, c.in_ok-version.ensures.0, c.in_ok-tick_ms.ensures.0, c.in_ok-horizon_ms.ensures.0, c.in_ok-nodes.ensures.0, c.in_ok-edges.ensures.0, c.in_ok-signals.ensures.0, c.in_ok-vehicles.ensures.0, c.in_ok-trains.ensures.0, c.in_ok-orders.ensures.0, c.in_ok-withins.ensures.0, c.in_ok-overlaps.ensures.0) c.in_err-refuse_unknown.ensures

pub returns : goal.returns
returns c = (
  rw (faults_at c.version_of-known.result (table_view c.args.table.now) c.version_of-known.ensures, c.in_ok-version.ensures.0, c.in_ok-tick_ms.ensures.0, c.in_ok-horizon_ms.ensures.0, c.in_ok-nodes.ensures.0, c.in_ok-edges.ensures.0, c.in_ok-signals.ensures.0, c.in_ok-vehicles.ensures.0, c.in_ok-trains.ensures.0, c.in_ok-orders.ensures.0, c.in_ok-withins.ensures.0, c.in_ok-overlaps.ensures.0, c.in_ok-refuse_unknown.ensures.0) refl,
  rw (sheet_at c.version_of-known.result (table_view c.args.table.now) c.version_of-known.ensures) (search rules),
)

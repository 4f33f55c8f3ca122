use Rattle.std.proofs.Common.{◌-◌, ap, sym, ◌∙◌, arith}
use Rattle.std.proofs.Common.{get_or}
use Rattle.rail_base.specs.declared.station.Order.{Order}
use Rattle.rail_base.specs.declared.station.Within.{Within}
use Rattle.rail_base.proofs.Admitting.{admitted}
use Rattle.cone_spec.specs.Validity.{shows_violation}
use Rattle.cone_run.proofs.Looking.{entry_at, in_same, order_names, path_names, visit_names, within_names}
use Rattle.cone_run.proofs.checked.ConeRun.shows_violation.Goals as goal

pub shows_path-requires : goal.shows_path-requires
shows_path-requires c =
    let l = c.args.self.now.layout in
    path_names l.interlocking.now.design.station l.interlocking.now.routes l.cone.now l.known c.in-Path.train c.in-Path.visit c.in-Path.is

pub shows_visit-requires : goal.shows_visit-requires
shows_visit-requires c =
    let l = c.args.self.now.layout in
    visit_names l.interlocking.now.design.station l.interlocking.now.routes l.cone.now l.known c.in-Visit.train c.in-Visit.visit c.in-Visit.is

pub shows_within-requires-clause-from : goal.shows_within-requires-clause-from
shows_within-requires-clause-from c =
    let l = c.args.self.now.layout in
    let d = l.interlocking.now.design.station in
    let there = within_names d l.interlocking.now.routes l.cone.now l.known c.in-Within.within c.in-Within.is in
    let first = there.0 in
    let last = there.1 in
    ((admitted d l.interlocking.now.design.admitted).within _ (in_same c.as_slice.result.now d.withins (c.in-Within.within - 1) _ c.as_slice.ensures (omega arith))).from.0

pub shows_within-requires-clause-to : goal.shows_within-requires-clause-to
shows_within-requires-clause-to c =
    let l = c.args.self.now.layout in
    let d = l.interlocking.now.design.station in
    let there = within_names d l.interlocking.now.routes l.cone.now l.known c.in-Within.within c.in-Within.is in
    let first = there.0 in
    let last = there.1 in
    ((admitted d l.interlocking.now.design.admitted).within _ (in_same c.as_slice.result.now d.withins (c.in-Within.within - 1) _ c.as_slice.ensures (omega arith))).to.0

pub shows_order-requires-clause-first : goal.shows_order-requires-clause-first
shows_order-requires-clause-first c =
    let l = c.args.self.now.layout in
    let d = l.interlocking.now.design.station in
    let there = order_names d l.interlocking.now.routes l.cone.now l.known c.in-Order.order c.in-Order.is in
    let first = there.0 in
    let last = there.1 in
    ((admitted d l.interlocking.now.design.admitted).order _ (in_same c.as_slice-in-Order.result.now d.orders (c.in-Order.order - 1) _ c.as_slice-in-Order.ensures (omega arith))).first_names.0

pub shows_order-requires-clause-then_ : goal.shows_order-requires-clause-then_
shows_order-requires-clause-then_ c =
    let l = c.args.self.now.layout in
    let d = l.interlocking.now.design.station in
    let there = order_names d l.interlocking.now.routes l.cone.now l.known c.in-Order.order c.in-Order.is in
    let first = there.0 in
    let last = there.1 in
    ((admitted d l.interlocking.now.design.admitted).order _ (in_same c.as_slice-in-Order.result.now d.orders (c.in-Order.order - 1) _ c.as_slice-in-Order.ensures (omega arith))).after.0

pub returns-in-Within : goal.returns-in-Within
returns-in-Within c =
    let l = c.args.self.now.layout in
    let d = l.interlocking.now.design.station in
    let n = c.in-Within.within in
    let there = within_names d l.interlocking.now.routes l.cone.now l.known n c.in-Within.is in
    let none : Within = record { from_train = record { 0 = 0 }; from_visit = 0; to_train = record { 0 = 0 }; to_visit = 0; max_ms = 0 } in
    c.shows_within.ensures n (entry_at none d.withins n there.0 ∙ ap (λ xs. get_or xs (n - 1) none) (sym c.as_slice.ensures)) ∙ ap (shows_violation d l.interlocking.now.routes l.cone.now) (sym c.in-Within.is)

pub returns-in-Order : goal.returns-in-Order
returns-in-Order c =
    let l = c.args.self.now.layout in
    let d = l.interlocking.now.design.station in
    let n = c.in-Order.order in
    let there = order_names d l.interlocking.now.routes l.cone.now l.known n c.in-Order.is in
    let none : Order = record { first_train = record { 0 = 0 }; first_visit = 0; then_train = record { 0 = 0 }; then_visit = 0 } in
    c.shows_order.ensures n (entry_at none d.orders n there.0 ∙ ap (λ xs. get_or xs (n - 1) none) (sym c.as_slice-in-Order.ensures)) ∙ ap (shows_violation d l.interlocking.now.routes l.cone.now) (sym c.in-Order.is)

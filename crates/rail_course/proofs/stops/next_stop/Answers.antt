-- The first visit at which it has not stood long enough.
use Rattle.std.proofs.Common.{◌≡◌, Bool, nat_lt, length, sym, ap, ◌∙◌, rules, tests}
use Rattle.std.specs.List.{position_from}
use Rattle.std.proofs.lemmas.Bool.{ltb-true, ltb-false}
use Rattle.std.proofs.lemmas.Iterator.{YieldsList-from_slice}
use Rattle.std.proofs.lemmas.Iterator.Search.{position_from_yields_List}
use Rattle.std.proofs.lemmas.Iterator.Adapters.{position_from-zero}
use Rattle.rail_course.specs.declared.dwells.Dwell.{Dwell}
use Rattle.rail_course.proofs.Stopping.{stop_none, stop_past, stop_here}
use Rattle.rail_course.proofs.stops.next_stop.Goals as goal

pub returns-in_err-number : goal.returns-in_err-number
returns-in_err-number c = λ ws same.
    let test : Dwell → Bool = λ w. nat_lt c.args.stood w.until in
    let place : c.position.result ≡ position_from test 0 c.args.dwells.now = position_from_yields_List test _ _ c.position.result c.position.ensures.ran (YieldsList-from_slice c.args.dwells.now cc) (λ x b q k. search (rules, tests)) ∙ position_from-zero test c.args.dwells.now in
    c.from_residual.ensures ∙ stop_none ws c.args.stood c.args.visits.now (sym (place ∙ ap (position_from test 0) same) ∙ c.in_err-number.was)

pub returns-in_err-get : goal.returns-in_err-get
returns-in_err-get c = λ ws same.
    let test : Dwell → Bool = λ w. nat_lt c.args.stood w.until in
    let place : c.position.result ≡ position_from test 0 c.args.dwells.now = position_from_yields_List test _ _ c.position.result c.position.ensures.ran (YieldsList-from_slice c.args.dwells.now cc) (λ x b q k. search (rules, tests)) ∙ position_from-zero test c.args.dwells.now in
    c.from_residual-in_err-get.ensures ∙ stop_past ws c.args.stood c.args.visits.now c.in_ok-number.number (sym (place ∙ ap (position_from test 0) same) ∙ c.in_ok-number.was) (ltb-false c.in_ok-number.number (length c.args.visits.now) (sym c.in_err-get.ensures.lookup.0))

pub returns : goal.returns
returns c = λ ws same.
    let test : Dwell → Bool = λ w. nat_lt c.args.stood w.until in
    let place : c.position.result ≡ position_from test 0 c.args.dwells.now = position_from_yields_List test _ _ c.position.result c.position.ensures.ran (YieldsList-from_slice c.args.dwells.now cc) (λ x b q k. search (rules, tests)) ∙ position_from-zero test c.args.dwells.now in
    stop_here ws c.args.stood c.args.visits.now c.in_ok-number.number c.in_ok-get.field-0.now (sym (place ∙ ap (position_from test 0) same) ∙ c.in_ok-number.was) (ltb-true c.in_ok-number.number (length c.args.visits.now) (sym c.in_ok-get.ensures.lookup.0)) c.in_ok-get.ensures.lookup.1

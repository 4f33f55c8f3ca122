use Rattle.std.proofs.Common.{◌≡◌, ℕ, ◌+◌, ◌++◌, [], ◌∷◌, All, Vec, Global, Bool, List, length, map, sym, ap, subst, ◌∙◌, arith}
use Rattle.std.proofs.lemmas.List.{map-append}
use Rattle.rail_base.proofs.Lists.{length-map}
use Rattle.rail_base.specs.Numbering.{entry}
use Rattle.rail_base.specs.Routes.{IsRoute}
use Rattle.rail_base.specs.declared.route.RouteNo.{RouteNo}
use Rattle.cone_spec.specs.Cones.{named}
use Rattle.cone_form.specs.Marks.{MarksPath}
use Rattle.cone_form.proofs.Ranges.{path_in_range}
use Rattle.cone_form.proofs.Marked.{row_more, rows_mark}
use Rattle.cone_form.proofs.marks.rows_of.Goals as goal

pub marks_of-requires : goal.marks_of-requires
marks_of-requires c = subst (λ (rs : List RouteNo). All (IsRoute c.args.interlocking.now.routes) rs) (sym c.path-path.ensures) (path_in_range c.args.interlocking.now.design.station c.args.interlocking.now.routes c.args.cone.now c.requires _)

pub loop-number-preserved : goal.loop-number-preserved
loop-number-preserved c =
    let items : Vec Bool Global → List Bool = λ row. row.items in
    let old : List (List Bool) = map items c.loop-number.rows.items in
    let row : List Bool = c.in_ok-marks_of.field-0.items in
    let marks : ℕ → List Bool → Type 0 = λ t row. MarksPath (named c.args.cone.now (record { 0 = t })).path row in
    let long : length old ≡ length c.loop-number.rows.items = length-map items c.loop-number.rows.items in
    let many : length c.loop-number.rows.items + 1 ≡ c.loop-number.number = c.loop-number.invariant.many in
    let whole : map items c.push.new.self.items ≡ old ++ row ∷ [] = ap (map items) c.in_ok-push.ensures.items ∙ map-append items c.loop-number.rows.items _ in
    let here : marks c.loop-number.number row = subst (λ (rs : List RouteNo). MarksPath rs row) c.path-path.ensures c.in_ok-marks_of.ensures in
    record {
      many = omega (arith, c.in_ok-push.ensures.len);
      marked = λ t low high. subst (λ (rows : List (List Bool)). marks t (entry [] rows t)) (sym whole) (row_more marks old row c.loop-number.number (omega arith) c.loop-number.invariant.marked here t low high);
    }

pub returns : goal.returns
returns c =
    let items : Vec Bool Global → List Bool = λ row. row.items in
    let rows : List (List Bool) = map items c.loop-number.rows.items in
    let long : length rows ≡ length c.loop-number.rows.items = length-map items c.loop-number.rows.items in
    let many : length c.loop-number.rows.items + 1 ≡ c.loop-number.number = c.loop-number.invariant.many in
    let end = c.loop-number-test.false in
    let top = c.loop-number.auto.number-end in
    let all = c.len.ensures in
    rows_mark c.args.interlocking.now.design.station c.args.interlocking.now.routes c.args.cone.now rows c.requires (omega arith) (λ t low high. c.loop-number.invariant.marked t low (omega arith))

use Rattle.std.proofs.Common.{ℕ, ◌+◌, ◌<◌, ◌++◌, Vec, Global, List, length, map, flat_map, sym, ap, ◌∙◌, arith, append-nil}
use Rattle.sat_clause.specs.declared.lit.Lit.{Lit}
use Rattle.rail_base.specs.declared.station.TrainNo.{TrainNo}
use Rattle.rail_base.proofs.Lists.{count_next}
use Rattle.rail_spec.specs.Plans.{routes_given}
use Rattle.cone_spec.specs.Clauses.{Literal}
use Rattle.cone_clause.specs.Numbered.{left_lit}
use Rattle.cone_clause.specs.Contentions.{among}
use Rattle.cone_clause.specs.Spoken.{commands, numbered, used}
use Rattle.cone_clause.proofs.Gathering.{mapped_next}
use Rattle.cone_clause.proofs.Walked.{path_routes, used_whole}
use Rattle.cone_clause.proofs.Further.{empty_list, nothing_said}
use Rattle.cone_clause.proofs.numbered.NumberedCone.push_used.Goals.{then-not-is_empty+in_ok-push_used_of, else-not-is_empty}
use Rattle.cone_clause.proofs.numbered.NumberedCone.push_used.Goals as goal

pub loop-number-init : goal.loop-number-init
loop-number-init c =
    let self = c.args.self.now in
    ap (λ ls. c.args.clause.now.items ++ numbered self ls) (used_whole (commands self) self.contention.interlocking.now.design.station self.contention.interlocking.now.routes self.cone.now self.contention.of_design)

pub push_used_of-requires : goal.push_used_of-requires
push_used_of-requires c = path_routes c.args.self.now.contention.interlocking.now.design.station c.args.self.now.contention.interlocking.now.routes c.args.self.now.cone.now c.args.self.now.known _

pub loop-number-preserved : goal.loop-number-preserved
loop-number-preserved c =
    let self = c.args.self.now in
    let d = self.contention.interlocking.now.design.station in
    let routes = self.contention.interlocking.now.routes in
    let named : ℕ → TrainNo = λ n. record { 0 = n } in
    let within : c.loop-number.number < length d.trains + 1 = (let e = c.len-trains.ensures in let l = c.loop-number-test.true in omega arith) in
    let said : TrainNo → List Literal = λ t. flat_map (used self) (map (λ r. record { train = t; route = r }) (routes_given t (commands self))) in
    let train : TrainNo = named c.loop-number.number in
    let next = mapped_next said (left_lit (among self.contention) d routes self.steps.count) c.loop-number.clause.items c.if-not-is_empty.clause.items _ _ _ train (ap (map named) (count_next c.loop-number.number (length d.trains + 1) within)) in
    elim c.if-not-is_empty.branch [
      | then-not-is_empty+in_ok-push_used_of w ↦ next (ap (λ (v : Vec Lit Global). v.items) w.clause-is ∙ w.in_ok-push_used_of.ensures) c.loop-number.invariant
      | else-not-is_empty w ↦ next (ap (λ (v : Vec Lit Global). v.items) w.clause-is ∙ (sym (append-nil c.loop-number.clause.items)
          ∙ ap (λ (ls : List Literal). c.loop-number.clause.items ++ numbered self ls) (sym (nothing_said d routes self.cone.now train (sym c.path.ensures ∙ empty_list c.path.result.now (sym c.is_empty.ensures ∙ w.if-not-is_empty.false)) (routes_given train (commands self)))))) c.loop-number.invariant
    ]

use Rattle.std.proofs.Common.{◌≡◌, [], Vec, Global, List, get_or, take, ap, sym, subst, refl, ◌∙◌, arith}
use Rattle.std.specs.List.{list_all}
use Rattle.std.proofs.lemmas.List.{take_all}
use Rattle.rail_base.specs.declared.plan.Command.{Command}
use Rattle.rail_base.specs.Members.{In}
use Rattle.rail_base.proofs.Contained.{in_at}
use Rattle.rail_spec.specs.Plans.{is_command}
use Rattle.interlocking.specs.declared.railway.Interlocking.{Interlocking}
use Rattle.rail_course.specs.declared.waits.Wait.{Wait}
use Rattle.rail_course.specs.Tracks.{IsCommand}
use Rattle.rail_course.specs.Itineraries.{IsWaitIn}
use Rattle.rail_course.specs.Waits.{AddsWaits}
use Rattle.rail_course.proofs.Merging.{as_more, goes_on, none_more}
use Rattle.cone_run.proofs.Looking.{first_there}
use Rattle.cone_run.proofs.Waiting.{added, lets, passed_by, waits_are}
use Rattle.cone_run.proofs.paths.ConePaths.waits_of.Goals.{then-eq+in_ok-push_waits, else-eq}
use Rattle.cone_run.proofs.paths.ConePaths.waits_of.Goals as goal

none : Command × Command
none = (record { train = record { 0 = 0 }; route = record { 0 = 0 } }, record { train = record { 0 = 0 }; route = record { 0 = 0 } })

pub loop-first-init : goal.loop-first-init
loop-first-init c =
    let self = c.args.self.now in
    let Is : Wait → Type 0 = λ w. (q : Command × Command) × In q c.as_slice-first-items.result.now × IsWaitIn self.train_paths.given w in
    subst (λ ws. AddsWaits [] ws (λ ps. list_all (lets self c.args.command ps) []) Is) (sym c.new-waits.ensures.items) (none_more [] Is _ (λ ps. refl))

pub push_waits-requires-clause-other : goal.push_waits-requires-clause-other
unfolding none
push_waits-requires-clause-other c =
    let layout = c.args.self.now.layout in
    let over = layout.interlocking.now in
    let run : List (Command × Command) = c.as_slice-first-items.result.now in
    let q : Command × Command = get_or run c.loop-first.first-index none in
    let there : In q layout.cone.now.pairs = subst (In q) c.as_slice-first-items.ensures (in_at run c.loop-first.first-index none c.loop-first-test.true) in
    subst (λ (i : Interlocking). IsCommand i.design.station i.routes q.0) (sym c.args.self.now.over) (first_there over.design.station over.routes layout.cone.now layout.known q there)

pub loop-first-preserved : goal.loop-first-preserved
unfolding none
loop-first-preserved c =
    let self = c.args.self.now in
    let command = c.args.command in
    let run : List (Command × Command) = c.as_slice-first-items.result.now in
    let i = c.loop-first.first-index in
    let q : Command × Command = get_or run i none in
    let is : c.eq.result ≡ is_command q.1 command = c.eq.ensures in
    let more : Vec Wait Global → Type 0 = λ v. AddsWaits c.loop-first.waits.items v.items (λ ps. lets self command ps q) (IsWaitIn self.train_paths.given) in
    goes_on (lets self command) (λ (q : Command × Command) (w : Wait). IsWaitIn self.train_paths.given w) run i none [] c.loop-first.waits.items c.if-eq.waits.items c.loop-first-test.true (
    elim c.if-eq.branch [
      | then-eq+in_ok-push_waits w ↦ subst more (sym w.waits-is) (added self command c.loop-first.waits.items _ q (sym is ∙ w.if-eq.true) w.in_ok-push_waits.ensures)
      | else-eq w ↦ subst more (sym w.waits-is) (passed_by self command c.loop-first.waits.items q (sym is ∙ w.if-eq.false))
    ]) c.loop-first.invariant (in_at run i none c.loop-first-test.true)

pub returns : goal.returns
returns c =
    let self = c.args.self.now in
    let command = c.args.command in
    let run : List (Command × Command) = c.as_slice-first-items.result.now in
    let past = c.loop-first-test.false in
    let all : take c.loop-first.first-index run ≡ self.layout.cone.now.pairs = take_all c.loop-first.first-index run (omega (arith, past)) ∙ c.as_slice-first-items.ensures in
    waits_are self command c.loop-first.waits.items
    (as_more [] c.loop-first.waits.items _ _ _ _ (λ ps. ap (list_all (lets self command ps)) all) (λ w h. (h.0, subst (In h.0) c.as_slice-first-items.ensures h.1, h.2)) c.loop-first.invariant)

use Rattle.std.proofs.Common.{◌≡◌, ℕ, ◌-◌, Option, get_or, ap, ◌∙◌, arith}
use Rattle.rail_base.specs.declared.station.SectionNo.{SectionNo}
use Rattle.rail_base.specs.declared.route.RouteNo.{RouteNo}
use Rattle.rail_course.specs.declared.journey.Release.{Release}
use Rattle.rail_course.specs.declared.milestones.Milestone.{Milestone}
use Rattle.rail_base.specs.Numbering.{or_this}
use Rattle.rail_base.specs.Events.{has_happened}
use Rattle.dispatch_run.proofs.InTurn.{release_made, no_release, no_entry, releases_may_be_marked}
use Rattle.dispatch_run.proofs.Settling.{begins, goes_on, ends, index_in}
use Rattle.dispatch_run.proofs.marks.mark_releases.Goals as goal

pub loop-left-init : goal.loop-left-init
loop-left-init c =
    let may = releases_may_be_marked c.args.state c.args.tick c.args.releases.now c.args.entries.now c.args.milestones.now c.requires.milestones c.requires.in_turn in
    record {
      within = c.count_reached-left.ensures.count;
      marked = begins (release_made c.args.state c.args.tick) (λ (r : Release). r.event.place) (λ (e : RouteNo × SectionNo × Option ℕ). e.2) c.args.releases.now c.args.entries.now no_release no_entry c.args.milestones.now c.args.tick c.args.state.x may c.count_reached-left.result c.count_reached-left.ensures.ahead;
    }

pub loop-left-preserved : goal.loop-left-preserved
loop-left-preserved c =
    let may = releases_may_be_marked c.args.state c.args.tick c.args.releases.now c.args.entries.now c.args.milestones.now c.requires.milestones c.requires.in_turn in
    let some = c.loop-left-test.true in
    let within = c.loop-left.invariant.within in
    let p = c.loop-left.left - 1 in
    let milestone : Milestone = record { place = 0; index = 0 } in
    let idx = (get_or c.args.milestones.now p milestone).index in
    let mark : c.first_tick-mark.result ≡ or_this (get_or c.loop-left.entries idx no_entry).2 (has_happened c.args.state (get_or c.args.releases.now idx no_release).event) c.args.tick =
    c.first_tick-mark.ensures ∙ ap (λ b. or_this (get_or c.loop-left.entries idx no_entry).2 b c.args.tick) c.has_happened.ensures in
    record {
      within = omega arith;
      marked =
          goes_on (release_made c.args.state c.args.tick) (λ (r : Release). r.event.place) (λ (e : RouteNo × SectionNo × Option ℕ). e.2) c.args.releases.now c.args.entries.now no_release no_entry c.args.milestones.now c.args.tick c.args.state.x may c.loop-left.left c.loop-left.settled c.loop-left.entries c.loop-left.invariant.marked
          p (omega arith) within _ (ap (λ m. ((get_or c.args.releases.now idx no_release).route, (get_or c.args.releases.now idx no_release).section, m)) mark) _ c.settled_by-settled.ensures;
    }

pub bounds-releases-milestone : goal.bounds-releases-milestone
bounds-releases-milestone c =
    let may = releases_may_be_marked c.args.state c.args.tick c.args.releases.now c.args.entries.now c.args.milestones.now c.requires.milestones c.requires.in_turn in
    let some = c.loop-left-test.true in
    let within = c.loop-left.invariant.within in
    let known = index_in (release_made c.args.state c.args.tick) (λ (r : Release). r.event.place) (λ (e : RouteNo × SectionNo × Option ℕ). e.2) c.args.releases.now c.args.entries.now no_release no_entry c.args.milestones.now c.args.tick c.args.state.x may (c.loop-left.left - 1) (omega arith) in
    let count = c.loop-left.invariant.marked.count in
    let as_many = may.as_many in
    omega arith

pub bounds-entries-milestone : goal.bounds-entries-milestone
bounds-entries-milestone c =
    let may = releases_may_be_marked c.args.state c.args.tick c.args.releases.now c.args.entries.now c.args.milestones.now c.requires.milestones c.requires.in_turn in
    let some = c.loop-left-test.true in
    let within = c.loop-left.invariant.within in
    let known = index_in (release_made c.args.state c.args.tick) (λ (r : Release). r.event.place) (λ (e : RouteNo × SectionNo × Option ℕ). e.2) c.args.releases.now c.args.entries.now no_release no_entry c.args.milestones.now c.args.tick c.args.state.x may (c.loop-left.left - 1) (omega arith) in
    let count = c.loop-left.invariant.marked.count in
    let as_many = may.as_many in
    omega arith

pub bounds-entries-milestone-in-loop-left : goal.bounds-entries-milestone-in-loop-left
bounds-entries-milestone-in-loop-left c =
    let may = releases_may_be_marked c.args.state c.args.tick c.args.releases.now c.args.entries.now c.args.milestones.now c.requires.milestones c.requires.in_turn in
    let some = c.loop-left-test.true in
    let within = c.loop-left.invariant.within in
    let known = index_in (release_made c.args.state c.args.tick) (λ (r : Release). r.event.place) (λ (e : RouteNo × SectionNo × Option ℕ). e.2) c.args.releases.now c.args.entries.now no_release no_entry c.args.milestones.now c.args.tick c.args.state.x may (c.loop-left.left - 1) (omega arith) in
    let count = c.loop-left.invariant.marked.count in
    let as_many = may.as_many in
    omega arith

pub offset_bounds-releases-milestone : goal.offset_bounds-releases-milestone
offset_bounds-releases-milestone c =
    let may = releases_may_be_marked c.args.state c.args.tick c.args.releases.now c.args.entries.now c.args.milestones.now c.requires.milestones c.requires.in_turn in
    let some = c.loop-left-test.true in
    let within = c.loop-left.invariant.within in
    let known = index_in (release_made c.args.state c.args.tick) (λ (r : Release). r.event.place) (λ (e : RouteNo × SectionNo × Option ℕ). e.2) c.args.releases.now c.args.entries.now no_release no_entry c.args.milestones.now c.args.tick c.args.state.x may (c.loop-left.left - 1) (omega arith) in
    let count = c.loop-left.invariant.marked.count in
    let as_many = may.as_many in
    omega arith

pub offset_bounds-entries-milestone : goal.offset_bounds-entries-milestone
offset_bounds-entries-milestone c =
    let may = releases_may_be_marked c.args.state c.args.tick c.args.releases.now c.args.entries.now c.args.milestones.now c.requires.milestones c.requires.in_turn in
    let some = c.loop-left-test.true in
    let within = c.loop-left.invariant.within in
    let known = index_in (release_made c.args.state c.args.tick) (λ (r : Release). r.event.place) (λ (e : RouteNo × SectionNo × Option ℕ). e.2) c.args.releases.now c.args.entries.now no_release no_entry c.args.milestones.now c.args.tick c.args.state.x may (c.loop-left.left - 1) (omega arith) in
    let count = c.loop-left.invariant.marked.count in
    let as_many = may.as_many in
    omega arith

pub offset_bounds-entries-milestone-in-loop-left : goal.offset_bounds-entries-milestone-in-loop-left
offset_bounds-entries-milestone-in-loop-left c =
    let may = releases_may_be_marked c.args.state c.args.tick c.args.releases.now c.args.entries.now c.args.milestones.now c.requires.milestones c.requires.in_turn in
    let some = c.loop-left-test.true in
    let within = c.loop-left.invariant.within in
    let known = index_in (release_made c.args.state c.args.tick) (λ (r : Release). r.event.place) (λ (e : RouteNo × SectionNo × Option ℕ). e.2) c.args.releases.now c.args.entries.now no_release no_entry c.args.milestones.now c.args.tick c.args.state.x may (c.loop-left.left - 1) (omega arith) in
    let count = c.loop-left.invariant.marked.count in
    let as_many = may.as_many in
    omega arith

pub returns-else-settled-milestones-clause-marked : goal.returns-else-settled-milestones-clause-marked
returns-else-settled-milestones-clause-marked c =
    let may = releases_may_be_marked c.args.state c.args.tick c.args.releases.now c.args.entries.now c.args.milestones.now c.requires.milestones c.requires.in_turn in
    ends (release_made c.args.state c.args.tick) (λ (r : Release). r.event.place) (λ (e : RouteNo × SectionNo × Option ℕ). e.2) c.args.releases.now c.args.entries.now no_release no_entry c.args.milestones.now c.args.tick c.args.state.x may c.loop-left.left c.loop-left.settled c.loop-left.entries c.loop-left.invariant.marked c.loop-left.invariant.within
    (λ some. let h = c.if-settled-milestones.false in omega arith)

pub returns-after-loop-left-clause-marked : goal.returns-after-loop-left-clause-marked
returns-after-loop-left-clause-marked c =
    let may = releases_may_be_marked c.args.state c.args.tick c.args.releases.now c.args.entries.now c.args.milestones.now c.requires.milestones c.requires.in_turn in
    ends (release_made c.args.state c.args.tick) (λ (r : Release). r.event.place) (λ (e : RouteNo × SectionNo × Option ℕ). e.2) c.args.releases.now c.args.entries.now no_release no_entry c.args.milestones.now c.args.tick c.args.state.x may c.loop-left.left c.loop-left.settled c.loop-left.entries c.loop-left.invariant.marked c.loop-left.invariant.within
    (λ some. let h = c.loop-left-test.false in absurd (omega arith))

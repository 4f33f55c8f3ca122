use Rattle.std.proofs.Common.{◌≡◌, ◌∙◌, false, filter, get_or, List, map, refl, sym, ap}
use Rattle.std.proofs.lemmas.List.{drop_more}
use Rattle.rail_base.specs.declared.plan.Command.{Command}
use Rattle.rail_base.proofs.Members.{map-map}
use Rattle.rail_spec.specs.Plans.{is_command}
use Rattle.live_clause_spec.specs.Variables.{live_pairs}
use Rattle.cone_form.proofs.Orders.{member_at}
use Rattle.cone_form.proofs.Walks.{drop_end}
use Rattle.cone_spec.specs.Clauses.{Before, Literal}
use Rattle.cone_clause.specs.Contentions.{among}
use Rattle.bound_clause.specs.Left.{gathered, together}
use Rattle.bound_clause.specs.Spoken.{left, routes_in, station_of}
use Rattle.bound_clause.proofs.Numbering.{rival_before, rivals_left}
use Rattle.bound_clause.proofs.Putting.{put_next, put_end}
use Rattle.bound_clause.proofs.numbered.NumberedBound.push_before.Goals as goal

none : Command
none = record { train = record { 0 = 0 }; route = record { 0 = 0 } }

pub loop-other-init : goal.loop-other-init
loop-other-init c = refl

pub say_before-requires : goal.say_before-requires
unfolding none
say_before-requires c =
    let self = c.args.self.now in
    let others : List Command = c.deref-other-items.result.now in
    let run : map (λ e. (c.args.command, e)) others ≡ filter (λ p. is_command p.0 c.args.command) (live_pairs (among self.contention) (station_of self) (routes_in self)) =
    ap (map (λ e. (c.args.command, e))) c.deref-other-items.ensures.value ∙ (c.in_ok-others.ensures.pairs ∙ ap (filter (λ p. is_command p.0 c.args.command)) self.contention.paired) in
    rival_before (among self.contention) (station_of self) (routes_in self) c.args.command others run (get_or others c.loop-other.other-index none) (member_at others c.loop-other.other-index none c.loop-other-test.true)

pub loop-other-preserved : goal.loop-other-preserved
unfolding none
loop-other-preserved c = put_next c.args.self.now (λ (e : Command). record { fact = Before e c.args.command; negated = false }) (gathered c.loop-other.clause) (gathered c.say_before.new.clause) _ _ _ _ (drop_more c.deref-other-items.result.now c.loop-other.other-index none c.loop-other-test.true)
    c.in_ok-say_before.ensures c.loop-other.invariant

pub returns : goal.returns
returns c =
    let self = c.args.self.now in
    let said : Command → Literal = λ e. record { fact = Before e c.args.command; negated = false } in
    let said_of : Command × Command → Literal = λ p. said p.1 in
    let others : List Command = c.deref-other-items.result.now in
    let pair : Command → Command × Command = λ e. (c.args.command, e) in
    let run : map pair others ≡ filter (λ p. is_command p.0 c.args.command) (live_pairs (among self.contention) (station_of self) (routes_in self)) =
    ap (map pair) c.deref-other-items.ensures.value ∙ (c.in_ok-others.ensures.pairs ∙ ap (filter (λ p. is_command p.0 c.args.command)) self.contention.paired) in
    put_end self said (gathered c.loop-other.clause) _ _ (drop_end others c.loop-other.other-index c.loop-other-test.false) c.loop-other.invariant
    ∙ ap (together (gathered c.args.clause.now)) (ap (left self) (sym (map-map said_of pair others) ∙ ap (map said_of) run) ∙ rivals_left (among self.contention) (station_of self) (routes_in self) self.steps.count c.args.command)

-- What is said of a chain of legs and of its end, by what they have.
use Rattle.std.specs.Prelude.{ℕ, ◌+◌, List, [], ◌∷◌, Option}
use Rattle.rail_base.specs.declared.station.Station.{Station}
use Rattle.rail_base.specs.declared.station.TrainNo.{TrainNo}
use Rattle.rail_base.specs.declared.route.RouteNo.{RouteNo}
use Rattle.interlocking.specs.declared.railway.Interlocking.{Interlocking}
use Rattle.interlocking.specs.Plans.{on}
use Rattle.bound_spec.specs.declared.Leg.{Leg}
use Rattle.bound_spec.specs.declared.Origin.{Origin}
use Rattle.bound_spec.specs.declared.Requirement.{Requirement}
use Rattle.bound_ticks.specs.Chains.{chain_of, end_ticks}
use Rattle.leg_targets.specs.declared.targets.Visit.{Visit}
use Rattle.leg_targets.specs.Visits.{origin_of, visit_of}
use Rattle.cone_words.specs.Phrases.{sentence}
use Rattle.evidence_words.specs.declared.legs.Chain.{Chain}
use Rattle.evidence_words.specs.declared.bounds.End.{End}
use Rattle.evidence_words.specs.Bounds.{arrives_text, end_text, leg_text, legs_sentences, meeting_text, only, origin_of_visit_text}
use Rattle.evidence_words.specs.Bounds.{origin_parts, origin_text, since_text, wait_text}

module _ (c : Chain) where
  -- the tick at which these legs are through, from this one on
  abbrev pub end_of_legs : Option Visit → ℕ → List Leg → ℕ
  end_of_legs from tick legs =
      tick + on c.interlocking.now chain_of c.most (origin_of from) (origin_of c.to) legs

  -- the ticks of the last leg
  abbrev pub last_ticks : Option Visit → Leg → ℕ
  last_ticks from leg = on c.interlocking.now end_ticks c.most (origin_of from) (origin_of c.to) leg

  -- the sentences of these legs
  abbrev pub said_of_legs : Option Visit → ℕ → List Leg → List (List ℕ)
  said_of_legs from tick legs =
      on c.interlocking.now legs_sentences c.most c.line (origin_of c.after) (origin_of from) tick legs

  -- the sentence of a leg
  abbrev pub said_of_leg : Leg → List ℕ
  said_of_leg leg = sentence c.line (on c.interlocking.now leg_text leg)

  -- what the leg after it waits for
  abbrev pub said_of_wait : ℕ → Leg → List Leg → List ℕ
  said_of_wait tick leg rest = on c.interlocking.now wait_text (origin_of c.after) tick leg rest

  -- the leg, and what the next one waits for
  abbrev pub said_of_waiting : ℕ → Leg → List Leg → List (List ℕ)
  said_of_waiting tick leg rest = said_of_leg leg ∷ sentence c.line (said_of_wait tick leg rest) ∷ []

module _ (e : End) where
  -- when the train makes the visit at the earliest
  abbrev pub said_of_arrival : TrainNo → ℕ → List ℕ
  said_of_arrival train visit = arrives_text e.interlocking.now.design.station (origin_of e.after) e.tick train visit

  -- when the legs are through, and what is asked for
  abbrev pub said_of_end : Requirement → List ℕ
  said_of_end requirement =
      on e.interlocking.now end_text (origin_of e.after) e.origin_tick e.tick requirement

  -- from when ticks are those of the run
  abbrev pub said_since : List ℕ
  said_since = since_text e.interlocking.now.design.station (origin_of e.after) e.origin_tick

-- from when a visit's ticks are counted
abbrev pub visit_origin_text : Station → Visit → Origin → List ℕ
visit_origin_text d visit origin = origin_of_visit_text d (visit_of visit) origin

module _ (i : Interlocking) where
  -- from when ticks are counted, with the parts of a cone
  abbrev pub said_of_origin : ℕ → Origin → Option Visit → List (List ℕ)
  said_of_origin n origin from =
      sentence n (origin_text i.design.station origin (origin_of from)) ∷ on i origin_parts n origin

  -- what the last routes of a leg share with the first of the next
  abbrev pub said_of_meeting : List RouteNo → List RouteNo → List ℕ
  said_of_meeting last first = on i meeting_text (only last) (only first)

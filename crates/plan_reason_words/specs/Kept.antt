-- Which train keeps another from a section, and how much track it lacks, in words.
use Rattle.std.specs.Prelude.{ℕ, ◌-◌, ◌==◌, List, [], ◌∷◌, ◌++◌, codes, decimal, Option, None, Some, if◌then◌else◌}
use Rattle.rail_base.specs.declared.plan.Command.{Command}
use Rattle.rail_base.specs.declared.route.Route.{Route}
use Rattle.rail_base.specs.declared.route.RouteNo.{RouteNo}
use Rattle.rail_base.specs.declared.station.SectionNo.{SectionNo}
use Rattle.rail_base.specs.declared.station.Station.{Station}
use Rattle.rail_base.specs.declared.station.TrainNo.{TrainNo}
use Rattle.rail_base.specs.Names.{section_name, train_name}
use Rattle.rail_base.specs.Numbering.{entry, first_of_list}
use Rattle.rail_spec.specs.Plans.{routes_given, step_of}
use Rattle.cone_words.specs.Routes.{route_text}
use Rattle.plan_faults.specs.Kept.{keeper, lacking_mm, wanted_mm}

-- `, and until it has left the section 12000 mm of track from the start of that route are wanted: `
abbrev pub wanted_text : ℕ → List ℕ
wanted_text wanted =
    codes ", and until it has left the section " ++ decimal wanted
    ++ codes " mm of track from the start of that route are wanted: "

-- `10000 mm are given before step 2`
abbrev pub given_text : ℕ → ℕ → List ℕ
given_text given i = decimal given ++ (codes " mm are given before step " ++ decimal i)

-- `, and 2000 mm are missing`
abbrev pub lacking_text : ℕ → List ℕ
lacking_text lacking = codes ", and " ++ decimal lacking ++ codes " mm are missing"

abbrev pub missing_text : ℕ → ℕ → ℕ → List ℕ
missing_text wanted lacking i = wanted_text wanted ++ given_text (wanted - lacking) i ++ lacking_text lacking

-- `A has section z1`
abbrev pub section_text : Station → TrainNo → SectionNo → List ℕ
section_text d t z = train_name d t ++ (codes " has section " ++ section_name d z)

module _ (d : Station) (routes : List Route) (plan : List (List Command)) where
  -- ` by route w1 to s1 (1) of step 1`
  abbrev pub by_text : Command → List ℕ
  by_text e = codes " by route " ++ route_text d routes e.route ++ codes " of step " ++ decimal (step_of plan e)

  abbrev pub has_text : Command → SectionNo → List ℕ
  has_text e z = section_text d e.train z ++ by_text e

  -- the two stand in one step, or the first has not been given enough track
  abbrev pub why_text : Command → Command → SectionNo → List ℕ
  why_text e c z =
      if step_of plan e == step_of plan c then codes ", and two trains can't be given a section in one step"
      else missing_text (wanted_mm d routes e z) (lacking_mm d routes plan e c z) (step_of plan c)

  abbrev pub kept_line : Command → Command → SectionNo → List ℕ
  kept_line e c z = has_text e z ++ why_text e c z ++ codes "\n"

  abbrev pub keeper_lines : Command → SectionNo → Option Command → List (List ℕ)
  keeper_lines c z None = []
  keeper_lines c z (Some e) = kept_line e c z ∷ []

  -- of the command that a step has for a train
  abbrev pub command_lines : TrainNo → SectionNo → Option RouteNo → List (List ℕ)
  command_lines t z None = []
  command_lines t z (Some r) =
      let c : Command = record { train = t; route = r } in
      keeper_lines c z (keeper d routes plan c z)

  abbrev pub kept_lines : ℕ → TrainNo → SectionNo → List (List ℕ)
  kept_lines i t z = command_lines t z (first_of_list (routes_given t (entry [] plan i)))

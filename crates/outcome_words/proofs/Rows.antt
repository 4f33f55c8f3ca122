-- Worked examples: a train that is at a node at the end of tick 8, and is to stand there for three ticks.
use Rattle.std.proofs.Common.{◌≡◌, true, false, None, Some, refl}
use Rattle.rail_base.specs.declared.station.NodeNo.{NodeNo}
use Rattle.outcome_words.specs.Stands.{stand_of}

abbrev pub node : NodeNo
node = record { 0 = 2 }

-- it has stood there at the end of tick 11
pub done : stand_of 16 3000 (Some (node, 8)) (Some 11) ≡ Some (record { node = node; from = 8; until = 11; is_done = true })
done = refl

-- the run ends in tick 10, when it still stands
pub to_the_end : stand_of 10 3000 (Some (node, 8)) None ≡ Some (record { node = node; from = 8; until = 10; is_done = false })
to_the_end = refl

-- the run ends as it comes there
pub at_the_end : stand_of 8 3000 (Some (node, 8)) None ≡ None
at_the_end = refl

-- it is not to stand there
pub passes : stand_of 16 0 (Some (node, 8)) None ≡ None
passes = refl

-- it has not come there
pub before : stand_of 7 3000 None None ≡ None
before = refl

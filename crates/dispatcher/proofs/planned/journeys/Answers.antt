use Rattle.dispatcher.proofs.Knowing.{all_give}
use Rattle.dispatcher.proofs.planned.journeys.Goals as goal

pub into_journeys-requires : goal.into_journeys-requires
into_journeys-requires c = all_give c.in_ok-planned.planned c.in_ok-waits.waits.items c.in_ok-waits.ensures

-- What a picture says of the orders and withins, by what has happened up to the last tick that is drawn.
use Rattle.std.specs.Prelude.{ℕ, ◌+◌, ◌-◌, ◌*◌, List, ◌++◌, map, codes, decimal, min, nat_le, nat_lt}
use Rattle.std.specs.Prelude.{Option, None, Some, if◌then◌else◌}
use Rattle.std.specs.List.{enumerate_from}
use Rattle.rail_base.specs.declared.station.Station.{Station}
use Rattle.rail_base.specs.declared.station.Order.{Order}
use Rattle.rail_base.specs.declared.station.TrainNo.{TrainNo}
use Rattle.rail_base.specs.declared.station.Within.{Within}
use Rattle.rail_base.specs.declared.history.TrainHistory.{TrainHistory}
use Rattle.rail_base.specs.Names.{train_name}
use Rattle.rail_require.specs.Ticks.{visit_tick}
use Rattle.rail_spec.specs.Requirements.{most_ticks}
use Rattle.run_drawing.specs.declared.ending.Ending.{Ending}
use Rattle.run_drawing.specs.declared.ending.Ending.TheVariants.{Met, Broken, Open}

-- ---- what came of them

-- an order is met where its first visit is made before the other, broken where the other is made and the first is not made before it
abbrev pub order_ending : Option ℕ → Option ℕ → Ending
order_ending first None = Open
order_ending None (Some second) = Broken
order_ending (Some first) (Some second) = if nat_lt first second then Met else Broken

-- a within of so many ticks is met where its other visit is made at most so many ticks after the first, broken where it is made later or is
-- not made by a last tick though so many have passed
abbrev pub within_ending : ℕ → ℕ → Option ℕ → Option ℕ → Ending
within_ending most last None to = Open
within_ending most last (Some from) None = if nat_le (from + most) last then Broken else Open
within_ending most last (Some from) (Some to) = if nat_le to (from + most) then Met else Broken

-- by what has happened
abbrev pub ending_of_order : List TrainHistory → Order → Ending
ending_of_order history o =
    order_ending (visit_tick history o.first_train o.first_visit) (visit_tick history o.then_train o.then_visit)

abbrev pub ending_of_within : Station → List TrainHistory → ℕ → Within → Ending
ending_of_within d history last w =
    let from = visit_tick history w.from_train w.from_visit in
    let to = visit_tick history w.to_train w.to_visit in
    within_ending (most_ticks d w) last from to

-- the word for it
abbrev pub ending_text : Ending → List ℕ
ending_text Met = codes "met"
ending_text Broken = codes "broken"
ending_text Open = codes "open"

-- ---- texts

-- `<train> visit <j>`
abbrev pub visit_text : List ℕ → ℕ → List ℕ
visit_text name number = name ++ codes " visit " ++ decimal number

abbrev pub visit_of_train : Station → TrainNo → ℕ → List ℕ
visit_of_train d t j = visit_text (train_name d t) j

-- so many ticks in ms, as far as 64 bits go
abbrev pub ms_of : ℕ → ℕ → ℕ
ms_of tick_ms ticks = min (ticks * tick_ms) 18_446_744_073_709_551_615

-- ` in <time> of `, where both visits are made, and else ` in at most `
abbrev pub time_text : ℕ → Option ℕ → Option ℕ → List ℕ
time_text tick_ms (Some from) (Some to) = codes " in " ++ decimal (ms_of tick_ms (to - from)) ++ codes " of "
time_text tick_ms (Some from) None = codes " in at most "
time_text tick_ms None to = codes " in at most "

module _ (d : Station) (history : List TrainHistory) where
  -- `order <o>: <train> visit <j> before <train> visit <i>: <ending>`
  abbrev pub order_text : ℕ × Order → List ℕ
  order_text numbered = let o = numbered.1 in
      codes "order " ++ decimal numbered.0 ++ codes ": " ++ visit_of_train d o.first_train o.first_visit ++ codes " before "
      ++ visit_of_train d o.then_train o.then_visit ++ codes ": " ++ ending_text (ending_of_order history o)

  -- `within <w>: <train> visit <j> to <train> visit <i> in <time> of <greatest> ms: <ending>`
  abbrev pub within_text : ℕ → ℕ × Within → List ℕ
  within_text last numbered = let w = numbered.1 in
      let from = visit_tick history w.from_train w.from_visit in
      let to = visit_tick history w.to_train w.to_visit in
      codes "within " ++ decimal numbered.0 ++ codes ": " ++ visit_of_train d w.from_train w.from_visit ++ codes " to "
      ++ visit_of_train d w.to_train w.to_visit ++ time_text d.tick_ms from to ++ decimal w.max_ms ++ codes " ms: "
      ++ ending_text (ending_of_within d history last w)

  -- each order and then each within, in file order
  abbrev pub requirement_texts : ℕ → List (List ℕ)
  requirement_texts last =
      map order_text (enumerate_from 1 d.orders) ++ map (within_text last) (enumerate_from 1 d.withins)

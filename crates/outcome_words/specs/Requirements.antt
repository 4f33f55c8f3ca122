-- What came of the orders and withins, in words, and by how much.
use Rattle.std.specs.Prelude.{ℕ, ◌+◌, ◌-◌, ◌==◌, List, [], ◌++◌, map, length, codes, decimal, nat_le, nat_lt}
use Rattle.std.specs.Prelude.{Option, None, Some, if◌then◌else◌}
use Rattle.rail_base.specs.declared.station.Station.{Station}
use Rattle.rail_base.specs.declared.station.Order.{Order}
use Rattle.rail_base.specs.declared.station.Within.{Within}
use Rattle.rail_base.specs.declared.history.TrainHistory.{TrainHistory}
use Rattle.rail_base.specs.Numbering.{one_to}
use Rattle.rail_base.specs.Stations.{order_of, within_of}
use Rattle.rail_require.specs.Ticks.{visit_tick}
use Rattle.rail_spec.specs.Requirements.{most_ticks}
use Rattle.cone_words.specs.Times.{ms_of}
use Rattle.asked_words.specs.Quantities.{duration_text}
use Rattle.run_drawing.specs.Requirements.{ending_text, order_ending, within_ending}
use Rattle.outcome_words.specs.Visits.{missing_text, time_text, visit_text}

-- of what no run shows
abbrev pub unknown_text : List ℕ
unknown_text = codes "open, no run shows it"

module _ (d : Station) where
  -- ---- orders

  -- by how much an order is broken whose first visit comes so many ticks after the other
  abbrev pub late_text : ℕ → List ℕ
  late_text ticks = if ticks == 0 then codes ", both at once" else codes ", by " ++ time_text d ticks

  -- `, by 42 s`, or which visit is not made by the last tick
  abbrev pub order_amount : Order → ℕ → Option ℕ → Option ℕ → List ℕ
  order_amount o last first None = codes ", " ++ missing_text d last o.then_train o.then_visit
  order_amount o last None (Some second) = codes ", " ++ missing_text d last o.first_train o.first_visit
  order_amount o last (Some first) (Some second) =
      if nat_lt first second then codes ", by " ++ time_text d (second - first) else late_text (first - second)

  -- `met, by 42 s`
  abbrev pub order_ends : Order → ℕ → Option ℕ → Option ℕ → List ℕ
  order_ends o last first second = ending_text (order_ending first second) ++ order_amount o last first second

  -- by what has happened up to the last tick
  abbrev pub order_outcome : List TrainHistory → Option ℕ → Order → List ℕ
  order_outcome history None o = unknown_text
  order_outcome history (Some last) o =
      order_ends o last (visit_tick history o.first_train o.first_visit) (visit_tick history o.then_train o.then_visit)

  -- `order 1: ICe visit 2, at x, before RB visit 1, at y: met, by 42 s`
  abbrev pub order_line : List TrainHistory → Option ℕ → ℕ → List ℕ
  order_line history last n = let o = order_of d n in
      codes "order " ++ decimal n ++ codes ": " ++ visit_text d history o.first_train o.first_visit ++ codes ", before "
      ++ visit_text d history o.then_train o.then_visit ++ codes ": " ++ order_outcome history last o ++ codes "\n"

  -- ---- withins

  -- `12 s before it, of at most `
  abbrev pub early_text : ℕ → List ℕ
  early_text ticks = time_text d ticks ++ codes " before it, of at most "

  -- `5 min 54 s of at most `
  abbrev pub taken_text : ℕ → List ℕ
  taken_text ticks = time_text d ticks ++ codes " of at most "

  -- the time from the one visit to the other, where both are made
  abbrev pub span_text : Option ℕ → Option ℕ → List ℕ
  span_text (Some from) (Some to) = if nat_lt to from then early_text (from - to) else taken_text (to - from)
  span_text (Some from) None = codes "at most "
  span_text None to = codes "at most "

  -- `, 6 s to spare` or ` by 12 s`
  abbrev pub spare_text : Within → ℕ → ℕ → List ℕ
  spare_text w from to =
      if nat_lt to from then []
      else if nat_le to (from + most_ticks d w) then codes ", " ++ duration_text (w.max_ms - ms_of d (to - from)) ++ codes " to spare"
      else codes " by " ++ duration_text (ms_of d (to - from) - w.max_ms)

  -- the same, or which visit is not made by the last tick
  abbrev pub within_amount : Within → ℕ → Option ℕ → Option ℕ → List ℕ
  within_amount w last None to = codes ", " ++ missing_text d last w.from_train w.from_visit
  within_amount w last (Some from) None = codes ", " ++ missing_text d last w.to_train w.to_visit
  within_amount w last (Some from) (Some to) = spare_text w from to

  -- `5 min 54 s of at most 6 min 0 s, met, 6 s to spare`
  abbrev pub within_ends : Within → ℕ → Option ℕ → Option ℕ → List ℕ
  within_ends w last from to =
      span_text from to ++ duration_text w.max_ms ++ codes ", " ++ ending_text (within_ending (most_ticks d w) last from to)
      ++ within_amount w last from to

  -- by what has happened up to the last tick
  abbrev pub within_outcome : List TrainHistory → Option ℕ → Within → List ℕ
  within_outcome history None w = codes "at most " ++ duration_text w.max_ms ++ codes ", " ++ unknown_text
  within_outcome history (Some last) w =
      within_ends w last (visit_tick history w.from_train w.from_visit) (visit_tick history w.to_train w.to_visit)

  -- `within 1: from ICe visit 1, at w1, to ICe visit 3, at e1: 5 min 54 s of at most 6 min 0 s, met, 6 s to spare`
  abbrev pub within_line : List TrainHistory → Option ℕ → ℕ → List ℕ
  within_line history last n = let w = within_of d n in
      codes "within " ++ decimal n ++ codes ": from " ++ visit_text d history w.from_train w.from_visit ++ codes ", to "
      ++ visit_text d history w.to_train w.to_visit ++ codes ": " ++ within_outcome history last w ++ codes "\n"

  -- each order and then each within, in file order
  abbrev pub requirement_lines : List TrainHistory → Option ℕ → List (List ℕ)
  requirement_lines history last =
      map (order_line history last) (one_to (length d.orders)) ++ map (within_line history last) (one_to (length d.withins))

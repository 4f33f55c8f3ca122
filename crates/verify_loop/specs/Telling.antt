-- How far a search is, and the line that tells it.
use Rattle.std.specs.Prelude.{ℕ, ◌≡◌, ◌+◌, ◌-◌, nat_le, All, List, [], ◌++◌, length, Option, None, Some, codes, decimal, if◌then◌else◌}
use Rattle.rail_base.specs.declared.station.Station.{Station}
use Rattle.rail_outside.specs.Growth.{grown}
use Rattle.log_recorder.specs.Logs.{LogLine, learnt_count}
use Rattle.verify_loop.specs.declared.outcome.Aim.{Aim}
use Rattle.verify_loop.specs.declared.outcome.Wanted.{Wanted}
use Rattle.verify_loop.specs.declared.outcome.Wanted.TheVariants.{Fewest, Any}
use Rattle.verify_loop.specs.declared.progress.Progress.{Progress}
use Rattle.verify_loop.specs.Outcomes.{HasNoneBelow, IsLog, Refutal, cost_of, plans_of}
use Rattle.verify_loop.specs.Quests.{Quest, by_itself}

-- ---- the line

abbrev pub none_text : Option ℕ → List ℕ
none_text None = []
none_text (Some steps) = codes "none of " ++ decimal steps ++ codes " steps; "

-- `none of <steps> steps; <lines> lines, <failed> plans failed, <ticks> ticks`
abbrev pub progress_line : Progress → List ℕ
progress_line p =
    none_text p.none_of ++ decimal p.lines ++ codes " lines, " ++ decimal p.failed ++ codes " plans failed, "
    ++ decimal p.ticks ++ codes " ticks\n"

-- ---- what it tells

-- where a plan of so many steps is asked for, and one of the fewest is wanted: one step less, if that is any
abbrev pub none_before : Wanted → ℕ → Option ℕ
none_before Fewest steps = if nat_le 2 steps then Some (steps - 1) else None
none_before Any steps = None

-- lines are put each of which tells so
abbrev pub TellsLines : (List ℕ → Type 0) → Option (List (List ℕ)) → Option (List (List ℕ)) → Type 0
TellsLines Tells old new = (lines : List (List ℕ)) × All Tells lines × (new ≡ grown old lines)

module _ (m : Quest) (d : Station) (n : ℕ) where
  -- the numbers of a log of the search, and of the plans that failed in it; no plan of fewer steps than it asks for is feasible
  pub record IsProgress (p : Progress) : Type 0 where
    pub lines : List LogLine
    pub rs : List Refutal
    pub text : List ℕ
    pub log : IsLog m d n lines rs text
    pub derived : p.lines ≡ learnt_count lines
    pub failed : p.failed ≡ length rs
    pub ticks : p.ticks ≡ m.spent + cost_of d n (plans_of rs)
    pub steps : ℕ
    pub none_of : p.none_of ≡ none_before m.wanted steps
    pub fewer : HasNoneBelow m.wanted d steps

  -- the line tells such numbers
  abbrev pub TellsProgress : List ℕ → Type 0
  TellsProgress line = (p : Progress) × IsProgress p × (line ≡ progress_line p)

-- a search by itself puts lines that tell how far it is
abbrev pub TellsHowFar : Aim → Station → ℕ → Option (List (List ℕ)) → Option (List (List ℕ)) → Type 0
TellsHowFar m d n = TellsLines (TellsProgress (by_itself m d n) d n)

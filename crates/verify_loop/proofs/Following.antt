-- A search for less time, and the one question that it puts.
use Rattle.std.proofs.Common.{◌≡◌, ℕ, ◌+◌, ◌-◌, ◌*◌, ◌<◌, ◌≤◌, true, List, [], ◌∷◌, ◌++◌, length, Option, None, Some, refl, sym, ap, subst, ◌∙◌, arith, length-set, mul-le-mul, le_refl}
use Rattle.base_spec.specs.Bases.{clauses_of, variables_of}
use Rattle.bound_spec.specs.declared.Evidence.{Evidence}
use Rattle.clause_spec.specs.Laws.{HasFewLiterals}
use Rattle.clause_spec.specs.declared.question.BaseKind.{BaseKind}
use Rattle.clause_spec.specs.declared.question.BaseKind.TheVariants.{Plain, Sorted, Normal, Live}
use Rattle.clause_spec.specs.declared.question.Turns.TheVariants.{All, Beside}
use Rattle.greatest_time.specs.Times.{with_max}
use Rattle.greatest_time.proofs.Alike.{routes_alike}
use Rattle.greatest_time.proofs.InTime.{later_time}
use Rattle.interlocking.specs.declared.railway.Interlocking.{Interlocking}
use Rattle.plan_encoding.specs.Bases.{speaks_of}
use Rattle.plan_encoding.specs.Numberings.{IsNumberingOf, Numbered}
use Rattle.proof_judge.specs.Judged.{names_within, refuted}
use Rattle.rail_base.specs.declared.history.TrainHistory.{TrainHistory}
use Rattle.rail_base.specs.declared.history.Verdict.{Verdict}
use Rattle.rail_base.specs.declared.history.Verdict.TheVariants.{Met}
use Rattle.rail_base.specs.declared.plan.Command.{Command}
use Rattle.rail_base.specs.declared.plan.Plan.{Plan}
use Rattle.rail_base.specs.declared.route.Route.{Route}
use Rattle.rail_base.specs.declared.station.Station.{Station}
use Rattle.rail_base.specs.Admission.{is_from}
use Rattle.rail_base.specs.Stations.{horizon}
use Rattle.rail_spec.specs.Feasible.{IsFeasible}
use Rattle.rail_spec.specs.Histories.{verdict_of}
use Rattle.rail_spec.specs.Track.{routes_of}
use Rattle.time_evidence.specs.Laws.{ShowsMore}
use Rattle.time_evidence.proofs.Bases.{changed_variables}
use Rattle.time_evidence.proofs.LessTime.{evidence_stays}
use Rattle.verify_loop.specs.declared.asked.Asked.{Asked}
use Rattle.verify_loop.specs.declared.asked.TimeSearch.{TimeSearch}
use Rattle.verify_loop.specs.declared.outcome.Outcome.{Outcome}
use Rattle.verify_loop.specs.declared.outcome.Outcome.TheVariants as outcome
use Rattle.verify_loop.specs.declared.outcome.Tried.{Tried}
use Rattle.verify_loop.specs.declared.rounds.PlanSearch.{PlanSearch}
use Rattle.verify_loop.specs.declared.rounds.SearchState.{SearchState}
use Rattle.verify_loop.specs.Asking as asking
use Rattle.verify_loop.specs.Bases.{IsNumberingFor}
use Rattle.verify_loop.specs.Lessening.{IsAsked, IsAtEnd, IsAtPlan, IsTimeSearch, LeadsOn, ShowsLast, With, base_station, in_ticks}
use Rattle.verify_loop.specs.Outcomes.{IsEnd, cost_of, evidence_in, plans_of}
use Rattle.verify_loop.specs.Quests.{Quest}
use Rattle.verify_loop.specs.Searching as searching
use Rattle.verify_loop.specs.Telling.{TellsLines, TellsProgress}
use Rattle.verify_loop.specs.Tightening.{IsPast, TellsAttempts, TellsTightest, as_tried, asked_for, quest, quest_after, steps_of, ticks_taken, within_ticks}
use Rattle.verify_loop.proofs.Attempts.{past_push}
use Rattle.verify_loop.proofs.LessTime as less
use Rattle.verify_loop.proofs.Retiming.{retimed}
use Rattle.verify_loop.proofs.Timely.{taken_by_horizon}
use Rattle.verify_loop.proofs.Told.{told_else}

module _ (t : TimeSearch) (a : Asked) where
  -- what is told of the search is told after attempts
  pub tells_so : IsAsked t a → (known : List Evidence) (spent : ℕ) → IsPast t.base (base_station t a) t.within t.numbering.now.steps a.tried.items a.ticks known spent → (line : List ℕ)
      → TellsProgress (quest t.base (base_station t a) t.within t.numbering.now.steps known spent) a.interlocking.design.station t.numbering.now.steps line → TellsAttempts t.base (base_station t a) t.within t.numbering.now.steps line
  tells_so k known spent p line told = (
    p.attempts,
    a.ticks,
    p.lead,
    subst (λ (s : Station). TellsProgress (quest_after t.base (base_station t a) t.within t.numbering.now.steps p.attempts) s t.numbering.now.steps line) (sym (less.d_is t a k))
        (subst (λ (x : ℕ). TellsProgress (quest t.base (base_station t a) t.within t.numbering.now.steps (less.known_now t a k known spent p) x) a.interlocking.design.station t.numbering.now.steps line) p.spent_is
        (subst (λ (es : List Evidence). TellsProgress (quest t.base (base_station t a) t.within t.numbering.now.steps es spent) a.interlocking.design.station t.numbering.now.steps line) p.known_is told)),
  )

  -- a line tells it with what is known and spent before
  abbrev pub TellsNow : List Tried → List ℕ → Type 0
  TellsNow tried line = (known : List Evidence) × (spent : ℕ) × IsPast t.base (base_station t a) t.within t.numbering.now.steps tried a.ticks known spent
      × TellsProgress (quest t.base (base_station t a) t.within t.numbering.now.steps known spent) a.interlocking.design.station t.numbering.now.steps line

  pub tells_all : IsAsked t a → (tried : List Tried) → tried ≡ a.tried.items → (old new : Option (List (List ℕ))) → TellsLines (TellsNow tried) old new → TellsTightest t.base (base_station t a) t.within t.numbering.now.steps old new
  tells_all k tried same old new told = told_else (TellsNow tried) (TellsAttempts t.base (base_station t a) t.within t.numbering.now.steps) one old new told
    where
      one : (line : List ℕ) → TellsNow tried line → TellsAttempts t.base (base_station t a) t.within t.numbering.now.steps line
      one line h = tells_so k h.0 h.1 (subst (λ (xs : List Tried). IsPast t.base (base_station t a) t.within t.numbering.now.steps xs a.ticks h.0 h.1) same h.2) line h.3

-- ---- designs with another time

-- the numbers of the variables are the same
numbers_stay : (kind : BaseKind) (d : Station) (w ms : ℕ) (table : List Route) (n : ℕ) (b : Numbered) → IsNumberingOf (speaks_of kind d table) d table n b → IsNumberingOf (speaks_of kind (with_max d w ms) table) (with_max d w ms) table n b
numbers_stay Plain d w ms table n b h = record { steps = h.steps; commands = h.commands; pairs = h.pairs }
numbers_stay Sorted d w ms table n b h = record { steps = h.steps; commands = h.commands; pairs = h.pairs }
numbers_stay Normal d w ms table n b h = record { steps = h.steps; commands = h.commands; pairs = h.pairs }
numbers_stay (Live turns) d w ms table n b h = record { steps = h.steps; commands = h.commands; pairs = h.pairs }

-- and so are the withins that are there
named_stay : (kind : BaseKind) (d : Station) (w ms : ℕ) → names_within kind d ≡ true → names_within kind (with_max d w ms) ≡ true
named_stay Plain d w ms h = refl
named_stay Sorted d w ms h = refl
named_stay Normal d w ms h = refl
named_stay (Live All) d w ms h = refl
named_stay (Live (Beside v)) d w ms h = subst (λ (most : ℕ). is_from 1 most v ≡ true) (sym (length-set d.withins (w - 1) _)) h

module _ (t : TimeSearch) (a : Asked) (k : IsAsked t a) (ticks : ℕ) (by_horizon : ticks ≤ horizon a.interlocking.design.station) (later : Interlocking) (is : later.design.station ≡ in_ticks a.interlocking.design.station t.within ticks) where
  abbrev d : Station
  d = a.interlocking.design.station

  abbrev e : Station
  e = later.design.station

  abbrev w : ℕ
  w = t.within

  abbrev n : ℕ
  n = t.numbering.now.steps

  pub routes_same : routes_of e ≡ routes_of d
  routes_same = ap routes_of is ∙ routes_alike d _

  -- without time for the within the two are the same
  pub base_same : with_max e w 0 ≡ with_max d w 0
  base_same = ap (λ (s : Station). with_max s w 0) is ∙ later_time d w k.from_1 k.there (ticks * d.tick_ms) 0

  pub clauses_same : clauses_of t.base e (routes_of e) n ≡ clauses_of t.base d (routes_of d) n
  clauses_same = ap (λ (s : Station). clauses_of t.base s (routes_of s) n) is ∙ k.timeless d n (ticks * d.tick_ms) k.from_1 k.there

  pub variables_same : variables_of t.base e (routes_of e) n ≡ variables_of t.base d (routes_of d) n
  variables_same = ap (λ (s : Station). variables_of t.base s (routes_of s) n) is ∙ (changed_variables d w (ticks * d.tick_ms) t.base n).variables

  pub version_same : d.version ≡ e.version
  version_same = sym (ap (λ (s : Station). s.version) is)

  pub there_too : w ≤ length e.withins
  there_too = subst (λ (s : Station). w ≤ length s.withins) (sym is) (subst (λ (z : ℕ). w ≤ z) (sym (length-set d.withins (w - 1) _)) k.there)

  in_time_too : e ≡ in_ticks e w ticks
  in_time_too = is ∙ sym (ap (λ (s : Station). with_max s w (ticks * s.tick_ms)) is ∙ later_time d w k.from_1 k.there (ticks * d.tick_ms) (ticks * d.tick_ms))

  numbers_too : IsNumberingFor t.base later t.numbering.now
  numbers_too =
      subst (λ (rs : List Route). IsNumberingOf (speaks_of t.base e rs) e rs n t.numbering.now) (sym routes_same)
      (subst (λ (s : Station). IsNumberingOf (speaks_of t.base s (routes_of d)) s (routes_of d) n t.numbering.now) (sym is) (numbers_stay t.base d w (ticks * d.tick_ms) (routes_of d) n t.numbering.now k.numbers))

  -- the next question is one, where the verdict shows the last of what was tried
  module _ (next : Asked) (same : next.interlocking ≡ later) (so_many : next.ticks ≡ ticks) (shown : ShowsLast t next next.shown next.tried.items) where
    on : (P : Interlocking → Type 0) → P later → P next.interlocking
    on P h = subst P (sym same) h

    pub asked_too : IsAsked t next
    asked_too = record {
      from_1 = k.from_1;
      there = on (λ (i : Interlocking). w ≤ length i.design.station.withins) there_too;
      in_time = subst (λ (x : ℕ). next.interlocking.design.station ≡ in_ticks next.interlocking.design.station w x) (sym so_many) (on (λ (i : Interlocking). i.design.station ≡ in_ticks i.design.station w ticks) in_time_too);
      by_horizon = subst (λ (x : ℕ). x ≤ horizon next.interlocking.design.station) (sym so_many) (on (λ (i : Interlocking). ticks ≤ horizon i.design.station) (subst (λ (s : Station). ticks ≤ horizon s) (sym is) by_horizon));
      numbers = on (λ (i : Interlocking). IsNumberingFor t.base i t.numbering.now) numbers_too;
      fits = on (λ (i : Interlocking). HasFewLiterals (clauses_of t.base i.design.station (routes_of i.design.station) n)) (subst HasFewLiterals (sym clauses_same) k.fits);
      timeless = k.timeless;
      named = on (λ (i : Interlocking). names_within t.base i.design.station ≡ true) (subst (λ (s : Station). names_within t.base s ≡ true) (sym is) (named_stay t.base d w (ticks * d.tick_ms) k.named));
      shown = shown;
    }

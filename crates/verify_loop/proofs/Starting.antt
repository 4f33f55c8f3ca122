-- Where a search for the least time begins.
use Rattle.std.proofs.Common.{◌≡◌, ℕ, ◌-◌, ◌*◌, ◌≤◌, ◌&&◌, nat_le, Bool, true, false, List, [], length, None, refl, sym, ap, subst, ◌∙◌, append-nil, le-leb, length-set}
use Rattle.base_spec.specs.Bases.{clauses_of}
use Rattle.base_spec.proofs.Staying.{clauses_stay}
use Rattle.clause_spec.specs.Clauses.{past_limit}
use Rattle.clause_spec.specs.declared.question.BaseKind.{BaseKind}
use Rattle.clause_spec.specs.declared.question.BaseKind.TheVariants.{Live}
use Rattle.clause_spec.specs.declared.question.Turns.TheVariants.{Beside}
use Rattle.greatest_time.specs.Times.{with_max}
use Rattle.greatest_time.proofs.Alike.{routes_alike}
use Rattle.greatest_time.proofs.InTime.{later_time}
use Rattle.order_bounds.specs.Orders.{orders_first}
use Rattle.proof_judge.specs.Judged.{names_within}
use Rattle.rail_base.specs.declared.route.Route.{Route}
use Rattle.rail_base.specs.declared.station.Station.{Station}
use Rattle.rail_base.specs.Stations.{horizon}
use Rattle.rail_base.proofs.Members.{and_both}
use Rattle.rail_spec.specs.Track.{routes_of}
use Rattle.time_evidence.proofs.Bases.{changed_plain}
use Rattle.verify_loop.specs.declared.asked.Asked.{Asked}
use Rattle.verify_loop.specs.declared.asked.TimeSearch.{TimeSearch}
use Rattle.verify_loop.specs.declared.least_time.Tightest.{Tightest}
use Rattle.verify_loop.specs.declared.least_time.Tightest.TheVariants as tightest
use Rattle.verify_loop.specs.declared.outcome.Outcome.{Outcome}
use Rattle.verify_loop.specs.Asking.{IsEarlyEnd}
use Rattle.verify_loop.specs.Lessening.{IsAsked, IsAtEnd, IsTimeless, base_station, in_ticks}
use Rattle.verify_loop.specs.Tightening.{FitsTightest, IsPast, aim_of, as_tried, base_for, known_first, within_ticks}
use Rattle.verify_loop.proofs.LessTime as less

module _ (t : TimeSearch) (a : Asked) (k : IsAsked t a) (all : a.ticks ≡ horizon a.interlocking.design.station) (none : a.tried.items ≡ []) where
  -- nothing was tried, and the bounds by orders are known
  pub start_past : IsPast t.base (base_station t a) t.within t.numbering.now.steps a.tried.items a.ticks (orders_first t.base a.interlocking.design.station t.numbering.now.steps) 0
  start_past =
      let n = t.numbering.now.steps in
      let s = base_station t a in
      record {
        attempts = [];
        lead = sym all;
        all = ap as_tried none;
        known_is = ap (λ (st : Station). orders_first t.base st n) (sym (less.d_is t a k) ∙ ap (within_ticks t.base s t.within n) all) ∙ sym (append-nil (known_first t.base s t.within n));
        spent_is = refl;
      }

  pub early_end_so : (o : Outcome) → IsEarlyEnd (aim_of t.base) a.interlocking.design.station t.numbering.now.steps t.budgets o → IsAtEnd t a o
  early_end_so o h = (h.0, (k, (orders_first t.base a.interlocking.design.station t.numbering.now.steps, 0, start_past, h.1)))

-- the clauses of either base say nothing of the within's time
pub timeless_so : (bounds : Bool) (w : ℕ) → IsTimeless (base_for bounds w) w
timeless_so false w = λ d n ms first there. (changed_plain d w ms n).clauses
timeless_so true w = λ d n ms first there. ap (λ (rs : List Route). clauses_of (Live (Beside w)) (with_max d w ms) rs n) (routes_alike d _) ∙ clauses_stay d (routes_of d) n w ms first there

pub named_so : (bounds : Bool) (w : ℕ) (d : Station) → 1 ≤ w → w ≤ length d.withins → names_within (base_for bounds w) d ≡ true
named_so false w d first there = refl
named_so true w d first there = and_both (nat_le 1 w) (nat_le w (length d.withins)) (le-leb 1 w first) (le-leb w (length d.withins) there)

pub tight_fits : (base : BaseKind) (d : Station) (w n : ℕ) (o : Tightest) → past_limit 16000000 0 (clauses_of base d (routes_of d) n) ≡ None → FitsTightest base d w n o
tight_fits base d w n (tightest.Least interlocking ticks plan verdict log) e = e
tight_fits base d w n (tightest.Infeasible log) e = e
tight_fits base d w n (tightest.ConflictsSpent log clause hints ticks tried) e = e
tight_fits base d w n (tightest.TicksSpent sum at_hand ticks tried) e = e
tight_fits base d w n (tightest.LogSpent log bytes next ticks tried) e = e
tight_fits base d w n (tightest.TooLarge literals) e = tt
tight_fits base d w n tightest.Memory e = tt

-- the clauses are the same at any two times
pub same_clauses : (base : BaseKind) (w : ℕ) (d : Station) (n x y : ℕ) → IsTimeless base w → 1 ≤ w → w ≤ length d.withins
    → clauses_of base (with_max d w x) (routes_of (with_max d w x)) n ≡ clauses_of base (with_max d w y) (routes_of (with_max d w y)) n
same_clauses base w d n x y timeless first there = timeless d n x first there ∙ sym (timeless d n y first there)

-- ---- the first design, in which the within allows as many ticks as there are

module _ (d e : Station) (w ticks : ℕ) (first : 1 ≤ w) (there : w ≤ length d.withins) (all : ticks ≡ horizon d) (is : e ≡ in_ticks d w ticks) where
  pub first_in_time : e ≡ in_ticks e w (horizon e)
  first_in_time =
      is ∙ (ap (λ (x : ℕ). with_max d w (x * d.tick_ms)) all
      ∙ sym (ap (λ (s : Station). with_max s w (horizon s * s.tick_ms)) is ∙ later_time d w first there (ticks * d.tick_ms) (horizon d * d.tick_ms)))

  pub untimed_same : with_max e w 0 ≡ with_max d w 0
  untimed_same = ap (λ (s : Station). with_max s w 0) is ∙ later_time d w first there (ticks * d.tick_ms) 0

  pub there_first : w ≤ length e.withins
  there_first = subst (λ (s : Station). w ≤ length s.withins) (sym is) (subst (λ (z : ℕ). w ≤ z) (sym (length-set d.withins (w - 1) _)) there)

  -- its clauses are those without time for the within
  pub clauses_first : (base : BaseKind) (n : ℕ) → IsTimeless base w → clauses_of base e (routes_of e) n ≡ clauses_of base (with_max d w 0) (routes_of (with_max d w 0)) n
  clauses_first base n timeless = ap (λ (s : Station). clauses_of base s (routes_of s) n) is ∙ same_clauses base w d n (ticks * d.tick_ms) 0 timeless first there

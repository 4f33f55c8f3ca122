-- How many steps can be asked for, by the clauses for one step and for two.
use Rattle.std.proofs.Common.{◌≡◌, ℕ, ◌+◌, ◌-◌, ◌*◌, ◌≤◌, if◌then◌else◌, List, Option, None, Some, sym, ap, subst, ◌∙◌, arith, mul-le-mul_right, one-mul, le-leb}
use Rattle.std.proofs.lemmas.Bool.{lt-leb}
use Rattle.rail_base.specs.declared.route.Route.{Route}
use Rattle.rail_base.specs.declared.station.Station.{Station}
use Rattle.limit_words.specs.Counts.{Exceeds, Fits, literal_count}
use Rattle.limit_words.specs.Counted.{IsFewCount}
use Rattle.limit_words.specs.EvenLimits.{IsEvenLimit, IsEvenLimitFor, even_count}
use Rattle.limit_words.specs.Limits.{IsLimit, IsLimitFor, known_count}
use Rattle.limit_words.specs.declared.greatest.Limit.{Limit}
use Rattle.clause_spec.specs.declared.question.BaseKind.{BaseKind}
use Rattle.limit_words.proofs.Growing.{grow_evenly}

-- ---- numbers that grow evenly

module _ (f : ℕ → ℕ) (even : (m : ℕ) → f (m + 1) ≡ f 1 + m * (f 2 - f 1)) where
  pub second_is_more : f 1 ≤ f 2
  second_is_more =
      let two : f 2 ≡ f 1 + 1 * (f 2 - f 1) = even 1 in
      let once = one-mul (f 2 - f 1) in
      omega arith

  pub by_two : (n : ℕ) → 1 ≤ n → f n ≡ even_count (f 1) (f 2 - f 1) n
  by_two n some = let same : n ≡ n - 1 + 1 = omega arith in ap f same ∙ even (n - 1)

  pub go_up : (i j : ℕ) → 1 ≤ i → i ≤ j → f i ≤ f j
  go_up i j some h =
      let one = by_two i some in
      let other = by_two j (omega arith) in
      let fewer : i - 1 ≤ j - 1 = omega arith in
      let more = mul-le-mul_right (f 2 - f 1) fewer in
      omega arith

module _ (kind : BaseKind) (d : Station) (routes : List Route) where
  pub first_is_less : literal_count kind d routes 1 ≤ literal_count kind d routes 2
  first_is_less = second_is_more (literal_count kind d routes) (grow_evenly kind d routes)

  is_even : (n : ℕ) → 1 ≤ n → literal_count kind d routes n ≡ even_count (literal_count kind d routes 1) (literal_count kind d routes 2 - literal_count kind d routes 1) n
  is_even = by_two (literal_count kind d routes) (grow_evenly kind d routes)

  more : (i j : ℕ) → 1 ≤ i → i ≤ j → literal_count kind d routes i ≤ literal_count kind d routes j
  more = go_up (literal_count kind d routes) (grow_evenly kind d routes)

  not_known : (n : ℕ) → Exceeds kind d routes 2 → None ≡ known_count kind d routes n
  not_known n h = ap (λ b. if b then Some (literal_count kind d routes n) else None) (sym (lt-leb (literal_count kind d routes 2) 16000000 h))

  known : (n : ℕ) → Fits kind d routes 2 → Some (literal_count kind d routes n) ≡ known_count kind d routes n
  known n h = ap (λ b. if b then Some (literal_count kind d routes n) else None) (sym (le-leb (literal_count kind d routes 2) 16000000 h))

  -- those for one step are too many
  pub no_steps : (n : ℕ) → 1 ≤ n → Exceeds kind d routes 1 → IsLimit kind d routes n (record { steps = 0; literals = None })
  no_steps n some many = record {
    fewer = omega arith;
    greatest = record { few = λ m low high. absurd (omega arith); no_more = λ m h. let up = more 1 m (omega arith) (omega arith) in omega arith };
    literals = not_known n (let up = first_is_less in omega arith);
  }

  -- those for two are
  pub one_step : (n : ℕ) → 2 ≤ n → Fits kind d routes 1 → Exceeds kind d routes 2 → IsLimit kind d routes n (record { steps = 1; literals = None })
  one_step n two few many = record {
    fewer = omega arith;
    greatest = record { few = λ m low high. let up = more m 1 low high in omega arith; no_more = λ m h. let up = more 2 m (omega arith) (omega arith) in omega arith };
    literals = not_known n many;
  }

  -- neither are
  even_steps : (n : ℕ) (l : Limit) → 1 ≤ n → Fits kind d routes 2 → IsEvenLimit (literal_count kind d routes 1) (literal_count kind d routes 2 - literal_count kind d routes 1) n l → IsLimit kind d routes n l
  even_steps n l some few e = record {
    fewer = e.fewer;
    greatest = record {
      few = λ m low high. let up = more m l.steps low high in let is = is_even l.steps e.some in let fits = e.few in omega arith;
      no_more = λ m h. let up = more (l.steps + 1) m (omega arith) (omega arith) in let is = is_even (l.steps + 1) (omega arith) in let exceeds = e.one_more in omega arith;
    };
    literals = e.literals ∙ (ap Some (sym (is_even n some)) ∙ known n few);
  }

  all_steps : (n : ℕ) (r : Option Limit) → 1 ≤ n → Fits kind d routes 2 → IsEvenLimitFor (literal_count kind d routes 1) (literal_count kind d routes 2 - literal_count kind d routes 1) n r → IsLimitFor kind d routes n r
  all_steps n None some few e = let is = is_even n some in omega arith
  all_steps n (Some l) some few e = even_steps n l some few e

  pub steps_by_two : (n first second : ℕ) (r : Option Limit) → 1 ≤ n → IsFewCount kind d routes 1 first → IsFewCount kind d routes 2 second → IsEvenLimitFor first (second - first) n r → IsLimitFor kind d routes n r
  steps_by_two n first second r some one two e =
      all_steps n r some two.few
      (subst (λ (a : ℕ). IsEvenLimitFor a (literal_count kind d routes 2 - a) n r) one.is (subst (λ (b : ℕ). IsEvenLimitFor first (b - first) n r) two.is e))

-- The number of a live variable is its place among the live variables.
use Rattle.std.proofs.Common.{◌≡◌, ℕ, suc, ◌+◌, ◌-◌, ◌*◌, ◌≤◌, ◌⊎◌, inl, inr, Bool, true, false, not, ◌||◌, List, [], ◌∷◌, ◌++◌, map, flat_map, length, Some, slice_get, refl, sym, ap, ap₂, subst, ◌∙◌, arith, length-append}
use Rattle.std.proofs.lemmas.Option.{slice_get_within}
use Rattle.rail_base.specs.declared.station.Station.{Station}
use Rattle.rail_base.specs.declared.route.Route.{Route}
use Rattle.rail_base.specs.declared.plan.Command.{Command}
use Rattle.rail_base.specs.Numbering.{one_to, before_first}
use Rattle.rail_base.proofs.Members.{In, and_left, and_right, and_both, filter-append, in_filter, list_any_from}
use Rattle.rail_base.proofs.Lists.{in_append, in_count_back, in_filter_back, in_flat_map_back, in_map_back, length-map, length-count}
use Rattle.rail_spec.specs.Plans.{all_commands, is_command}
use Rattle.sat_clause.specs.Clauses.{clause_holds}
use Rattle.clause_spec.specs.Variables.{Variable, Given, Before, By, Literal, is_pair, pairs, variables}
use Rattle.clause_spec.specs.Models.{literal_holds, holds}
use Rattle.clause_spec.proofs.Numbers.{Known}
use Rattle.clause_spec.proofs.Steps.{is_command_same, is_command_self}
use Rattle.live_clause_spec.specs.Variables.{both_live, is_dead, live_commands, live_pairs, live_variables, live_number, live_count, live_numbered}
use Rattle.live_clause_spec.proofs.Lists.{filter_every, filter_map, filter_rows, get-counted, get-first, get-left, get-map, get-right, get-row, length-rows, not_not, not_true}

-- ---- the variables that there are

pub known_of : (d : Station) (routes : List Route) (n : ℕ) (v : Variable) → In v (variables d routes n) → Known d routes n v
known_of d routes n v m = first (in_append v (flat_map row (all_commands d routes)) (map before (pairs d routes) ++ map By (one_to n)) m)
  where
    row : Command → List Variable
    row c = map (Given c) (one_to n)

    before : Command × Command → Variable
    before p = Before p.0 p.1

    given : (c : Command) → In c (all_commands d routes) → ((i : ℕ) × In i (one_to n) × (Given c i ≡ v)) → Known d routes n v
    given c k (i, j, e) = let r = in_count_back 1 n i j in let low = r.0 in let high = r.1 in subst (Known d routes n) e (k, low, omega arith)

    pair : ((p : Command × Command) × In p (pairs d routes) × (before p ≡ v)) → Known d routes n v
    pair (p, k, e) = subst (Known d routes n) e k

    step : ((i : ℕ) × In i (one_to n) × (By i ≡ v)) → Known d routes n v
    step (i, j, e) = let r = in_count_back 1 n i j in let low = r.0 in let high = r.1 in subst (Known d routes n) e (low, omega arith)

    row_of : ((c : Command) × In c (all_commands d routes) × In v (row c)) → Known d routes n v
    row_of (c, k, j) = given c k (in_map_back (Given c) (one_to n) v j)

    second : In v (map before (pairs d routes)) ⊎ In v (map By (one_to n)) → Known d routes n v
    second (inl k) = pair (in_map_back before (pairs d routes) v k)
    second (inr k) = step (in_map_back By (one_to n) v k)

    first : In v (flat_map row (all_commands d routes)) ⊎ In v (map before (pairs d routes) ++ map By (one_to n)) → Known d routes n v
    first (inl k) = row_of (in_flat_map_back row (all_commands d routes) v k)
    first (inr k) = second (in_append v (map before (pairs d routes)) (map By (one_to n)) k)

module _ (live : Command → Bool) (d : Station) (routes : List Route) (n : ℕ) where
  abbrev row : Command → List Variable
  row c = map (Given c) (one_to n)

  abbrev before : Command × Command → Variable
  before p = Before p.0 p.1

  abbrev alive : Variable → Bool
  alive v = not (is_dead live v)

  -- ---- the live ones, kind by kind

  row_alive : (c : Command) (v : Variable) → In c (all_commands d routes) → In v (map (Given c) (one_to n)) → not (is_dead live v) ≡ live c
  row_alive c v k m =
      let f = in_map_back (Given c) (one_to n) v m in
      ap (λ w. not (is_dead live w)) (sym f.2) ∙ not_not (live c)

  by_alive : (v : Variable) → In v (map By (one_to n)) → not (is_dead live v) ≡ true
  by_alive v m = let f = in_map_back By (one_to n) v m in ap (λ w. not (is_dead live w)) (sym f.2)

  pub variables_are : live_variables live d routes n ≡ flat_map (λ c. map (Given c) (one_to n)) (live_commands live d routes) ++ (map (λ p. Before p.0 p.1) (live_pairs live d routes) ++ map By (one_to n))
  variables_are =
      let one = filter_rows alive live row (all_commands d routes) row_alive in
      let two = filter_map alive (both_live live) before (pairs d routes) (λ p m. not_not (both_live live (p.0, p.1))) in
      let three = filter_every alive (map By (one_to n)) by_alive in
      filter-append alive (flat_map row (all_commands d routes)) (map before (pairs d routes) ++ map By (one_to n))
      ∙ ap₂ (λ xs ys. xs ++ ys) one (filter-append alive (map before (pairs d routes)) (map By (one_to n)) ∙ ap₂ (λ xs ys. xs ++ ys) two three)

  -- ---- places

  length-row : (c : Command) → length (map (Given c) (one_to n)) ≡ n
  length-row c = length-map (Given c) (one_to n) ∙ length-count 1 n

  length-given : length (flat_map (λ c. map (Given c) (one_to n)) (live_commands live d routes)) ≡ length (live_commands live d routes) * n
  length-given = length-rows row n (live_commands live d routes) length-row

  pub length-live : length (live_variables live d routes n) ≡ live_count live d routes n
  length-live =
      let a = length-append (flat_map row (live_commands live d routes)) (map before (live_pairs live d routes) ++ map By (one_to n)) in
      let b = length-append (map before (live_pairs live d routes)) (map By (one_to n)) in
      let e = length-map before (live_pairs live d routes) in
      let f = length-map By (one_to n) in
      let g = length-count 1 n in
      let h = length-given in
      ap length variables_are ∙ (omega arith)

  -- where a variable stands
  pub record Stands (v : Variable) : Type 0 where
    pub index : ℕ
    pub number : live_number live d routes n v ≡ suc index
    pub there : slice_get (live_variables live d routes n) index ≡ Some v

  abbrev rest : List Variable
  rest = map (λ (p : Command × Command). Before p.0 p.1) (live_pairs live d routes) ++ map By (one_to n)

  stands_given : (c : Command) (i : ℕ) → In c (all_commands d routes) → live c ≡ true → 1 ≤ i → i ≤ n → Stands (Given c i)
  stands_given c i m l h k =
      let place = length (before_first (is_command c) (live_commands live d routes)) in
      let f = get-first (is_command c) (live_commands live d routes) (list_any_from (is_command c) (live_commands live d routes) c (in_filter live (all_commands d routes) c m l) (is_command_self c)) in
      let same : f.0 ≡ c = is_command_same c f.0 f.2 in
      let there : slice_get (live_commands live d routes) place ≡ Some c = f.1 ∙ ap (λ e. Some e) same in
      record {
        index = place * n + (i - 1);
        number = omega arith;
        there = ap (λ vs. slice_get vs (place * n + (i - 1))) variables_are
            ∙ get-left (flat_map row (live_commands live d routes)) rest (place * n + (i - 1)) (Given c i)
            (get-row row n (live_commands live d routes) place (i - 1) c (Given c i) length-row there (get-counted (Given c) 1 n i h (omega arith)));
      }

  stands_before : (e c : Command) → In (e, c) (pairs d routes) → both_live live (e, c) ≡ true → Stands (Before e c)
  stands_before e c m l =
      let both : is_pair e c (e, c) ≡ true = and_both (is_command e e) (is_command c c) (is_command_self e) (is_command_self c) in
      let f = get-first (is_pair e c) (live_pairs live d routes) (list_any_from (is_pair e c) (live_pairs live d routes) (e, c) (in_filter (both_live live) (pairs d routes) (e, c) m l) both) in
      let one : f.0.0 ≡ e = is_command_same e f.0.0 (and_left (is_command e f.0.0) (is_command c f.0.1) f.2) in
      let two : f.0.1 ≡ c = is_command_same c f.0.1 (and_right (is_command e f.0.0) (is_command c f.0.1) f.2) in
      let place = length (before_first (is_pair e c) (live_pairs live d routes)) in
      let g = length-given in
      record {
        index = length (live_commands live d routes) * n + place;
        number = omega arith;
        there = ap (λ vs. slice_get vs (length (live_commands live d routes) * n + place)) variables_are
            ∙ (get-right (flat_map row (live_commands live d routes)) rest (length (live_commands live d routes) * n + place) place (omega arith)
            ∙ get-left (map before (live_pairs live d routes)) (map By (one_to n)) place (Before e c) (get-map before (live_pairs live d routes) place f.0 f.1 ∙ (ap (λ g. Some (Before g f.0.1)) one ∙ ap (λ g. Some (Before e g)) two)));
      }

  stands_by : (k : ℕ) → 1 ≤ k → k ≤ n → Stands (By k)
  stands_by k h l =
      let a = length-given in
      let b = length-map before (live_pairs live d routes) in
      record {
        index = length (live_commands live d routes) * n + length (live_pairs live d routes) + (k - 1);
        number = omega arith;
        there = ap (λ vs. slice_get vs (length (live_commands live d routes) * n + length (live_pairs live d routes) + (k - 1))) variables_are
            ∙ (get-right (flat_map row (live_commands live d routes)) rest (length (live_commands live d routes) * n + length (live_pairs live d routes) + (k - 1)) (length (live_pairs live d routes) + (k - 1)) (omega arith)
            ∙ (get-right (map before (live_pairs live d routes)) (map By (one_to n)) (length (live_pairs live d routes) + (k - 1)) (k - 1) (omega arith) ∙ get-counted By 1 n k h (omega arith)));
      }

  alive_if : (b : Bool) → not b ≡ false → b ≡ true
  alive_if true e = refl
  alive_if false e = absurd (cc)

  pub stands_live : (v : Variable) → Known d routes n v → is_dead live v ≡ false → Stands v
  stands_live (Given c i) k a = stands_given c i k.0 (alive_if (live c) a) k.1 k.2
  stands_live (Before e c) k a = stands_before e c k (alive_if (both_live live (e, c)) a)
  stands_live (By k) l a = stands_by k l.0 l.1

  pub live_number_low : (v : Variable) → Known d routes n v → is_dead live v ≡ false → 1 ≤ live_number live d routes n v
  live_number_low v k a = let s = stands_live v k a in let e = s.number in omega arith

  pub live_number_high : (v : Variable) → Known d routes n v → is_dead live v ≡ false → live_number live d routes n v ≤ live_count live d routes n
  live_number_high v k a =
      let s = stands_live v k a in
      let e = s.number in
      let w = slice_get_within (live_variables live d routes n) s.index v s.there in
      let l = length-live in
      omega arith

  pub one_live_number : (v w : Variable) → Known d routes n v → is_dead live v ≡ false → Known d routes n w → is_dead live w ≡ false → live_number live d routes n v ≡ live_number live d routes n w → v ≡ w
  one_live_number v w k a l b e =
      let s = stands_live v k a in
      let t = stands_live w l b in
      let x = s.number in
      let y = t.number in
      let same : s.index ≡ t.index = omega arith in
      only (sym s.there ∙ (ap (slice_get (live_variables live d routes n)) same ∙ t.there))
    where
      only : Some v ≡ Some w → v ≡ w
      only e = cc

  -- the variables that stand among the live ones are those that there are and that aren't dead
  pub live_ones : (v : Variable) → In v (live_variables live d routes n) → Known d routes n v × (is_dead live v ≡ false)
  live_ones v m = let f = in_filter_back alive (variables d routes n) v m in (known_of d routes n v f.0, not_true (is_dead live v) f.1)

  -- ---- the truth of clauses over numbers

  pub live_clause_says : (values : ℕ → Bool) (cl : List Literal) → clause_holds values (map (live_numbered live d routes n) cl) ≡ holds (λ v. values (live_number live d routes n v)) cl
  live_clause_says values [] = refl
  live_clause_says values (l ∷ ls) = ap (λ b. literal_holds (λ v. values (live_number live d routes n v)) l || b) (live_clause_says values ls)

-- The number of a variable is its place among the variables.
use Rattle.std.proofs.Common.{◌≡◌, ℕ, zero, suc, ◌+◌, ◌-◌, ◌*◌, ◌≤◌, ◌<◌, inl, inr, Bool, true, false, cond, not, ◌||◌, if◌then◌else◌, List, [], ◌∷◌, ◌++◌, map, flat_map, length, Some, slice_get, refl, sym, ap, subst, ◌∙◌, arith, true≢false, length-append}
use Rattle.std.proofs.Math.Nat.{suc-mul}
use Rattle.std.specs.List.{list_any}
use Rattle.rail_base.specs.declared.station.Station.{Station}
use Rattle.rail_base.specs.declared.station.TrainNo.{TrainNo}
use Rattle.rail_base.specs.declared.route.Route.{Route}
use Rattle.rail_base.specs.declared.route.RouteNo.{RouteNo}
use Rattle.rail_base.specs.declared.plan.Command.{Command}
use Rattle.rail_base.specs.Numbering.{one_to, count_from, before_first}
use Rattle.rail_base.specs.Stations.{trains}
use Rattle.rail_spec.specs.Plans.{is_command, route_numbers, commands_of, all_commands}
use Rattle.rail_base.proofs.Members.{In, and_left, and_right, and_both, list_any_from, map-map}
use Rattle.sat_clause.specs.Clauses.{clause_holds}
use Rattle.clause_spec.specs.Variables.{Variable, Given, Before, By, Literal, pairs, is_pair, variables, number_of, numbered}
use Rattle.clause_spec.specs.Models.{literal_holds, holds, is_so, is_so_or_false, model_of}
use Rattle.clause_spec.proofs.Steps.{cmd, is_command_same, is_command_self}
use Rattle.clause_spec.proofs.Places.{command_of}
use Rattle.rail_base.proofs.Lists.{in_map_back, in_count_back, length-map, length-count}

-- ---- places in lists

get-left : {X : Type 0} (xs ys : List X) (j : ℕ) (x : X) → slice_get xs j ≡ Some x → slice_get (xs ++ ys) j ≡ Some x
get-left [] ys j x e = absurd (cc)
get-left (y ∷ xs) ys zero x e = e
get-left (y ∷ xs) ys (suc j) x e = get-left xs ys j x e

get-right : {X : Type 0} (xs ys : List X) (i j : ℕ) → i ≡ length xs + j → slice_get (xs ++ ys) i ≡ slice_get ys j
get-right [] ys i j e = ap (slice_get ys) (omega arith)
get-right (x ∷ xs) ys zero j e = absurd (omega arith)
get-right (x ∷ xs) ys (suc i) j e = get-right xs ys i j (omega arith)

get-counted : {X : Type 0} (f : ℕ → X) (a n i : ℕ) → a ≤ i → i < a + n → slice_get (map f (count_from a n)) (i - a) ≡ Some (f i)
get-counted f a zero i h k = absurd (omega arith)
get-counted {X} f a (suc n) i h k = go (i - a) refl (get-counted f (a + 1) n i)
  where
    go : (j : ℕ) → i - a ≡ j → (a + 1 ≤ i → i < a + 1 + n → slice_get (map f (count_from (a + 1) n)) (i - (a + 1)) ≡ Some (f i)) → slice_get (map f (count_from a (suc n))) j ≡ Some (f i)
    go zero e rest = ap (λ m. Some (f m)) (omega arith)
    go (suc j) e rest = ap (slice_get (map f (count_from (a + 1) n))) (omega arith) ∙ rest (omega arith) (omega arith)

-- in rows of one length, the place of an entry is that of its row times the length and its place there
get-row : {X Y : Type 0} (f : X → List Y) (m : ℕ) (xs : List X) (a j : ℕ) (x : X) (y : Y) → ((z : X) → length (f z) ≡ m) → slice_get xs a ≡ Some x → slice_get (f x) j ≡ Some y → slice_get (flat_map f xs) (a * m + j) ≡ Some y
get-row f m [] a j x y l e k = absurd (cc)
get-row f m (z ∷ xs) zero j x y l e k =
    let same : z ≡ x = cc in
    ap (slice_get (f z ++ flat_map f xs)) (omega arith) ∙ get-left (f z) (flat_map f xs) j y (subst (λ w. slice_get (f w) j ≡ Some y) (sym same) k)
get-row f m (z ∷ xs) (suc a) j x y l e k =
    let step = suc-mul a m in
    let row = l z in
    get-right (f z) (flat_map f xs) (suc a * m + j) (a * m + j) (omega arith) ∙ get-row f m xs a j x y l e k

length-rows : {X Y : Type 0} (f : X → List Y) (m : ℕ) (xs : List X) → ((z : X) → length (f z) ≡ m) → length (flat_map f xs) ≡ length xs * m
length-rows f m [] l = omega arith
length-rows f m (z ∷ xs) l =
    let a = length-rows f m xs l in
    let b = l z in
    let c = length-append (f z) (flat_map f xs) in
    let e = suc-mul (length xs) m in
    omega arith

-- the first member that passes a test stands after those before it
get-first : {X : Type 0} (test : X → Bool) (xs : List X) → list_any test xs ≡ true → (x : X) × (slice_get xs (length (before_first test xs)) ≡ Some x) × (test x ≡ true)
get-first test [] h = absurd (true≢false (sym h))
get-first {X} test (y ∷ ys) h = go (test y) refl h (get-first test ys)
  where
    go : (b : Bool) → test y ≡ b → (b || list_any test ys) ≡ true → (list_any test ys ≡ true → (x : X) × (slice_get ys (length (before_first test ys)) ≡ Some x) × (test x ≡ true))
        → (x : X) × (slice_get (y ∷ ys) (length (if b then [] else y ∷ before_first test ys)) ≡ Some x) × (test x ≡ true)
    go true e k rest = (y, refl, e)
    go false e k rest = let r = rest k in (r.0, r.1, r.2)

-- ---- places of variables

module _ (d : Station) (routes : List Route) (n : ℕ) where
  length-commands_of : (t : TrainNo) → length (commands_of routes t) ≡ length routes
  length-commands_of t =
      let f : ℕ → RouteNo = λ r. record { 0 = r } in
      length-map (cmd t) (route_numbers routes) ∙ (length-map f (one_to (length routes)) ∙ length-count 1 (length routes))

  length-commands : length (all_commands d routes) ≡ length d.trains * length routes
  length-commands =
      let f : ℕ → TrainNo = λ t. record { 0 = t } in
      length-rows (commands_of routes) (length routes) (trains d) length-commands_of ∙ ap (λ m. m * length routes) (length-map f (one_to (length d.trains)) ∙ length-count 1 (length d.trains))

  get-command : (c : Command) → In c (all_commands d routes) → slice_get (all_commands d routes) ((c.train.0 - 1) * length routes + (c.route.0 - 1)) ≡ Some c
  get-command c m =
      let o = command_of d routes c m in
      let number : ℕ → TrainNo = λ t. record { 0 = t } in
      let route : ℕ → RouteNo = λ r. record { 0 = r } in
      let t = in_map_back number (one_to (length d.trains)) c.train o.train in
      let r = in_map_back route (one_to (length routes)) c.route o.route in
      let tn : t.0 ≡ c.train.0 = ap (λ (u : TrainNo). u.0) t.2 in
      let rn : r.0 ≡ c.route.0 = ap (λ (q : RouteNo). q.0) r.2 in
      let tr = in_count_back 1 (length d.trains) t.0 t.1 in
      let rr = in_count_back 1 (length routes) r.0 r.1 in
      let tl = tr.0 in let th = tr.1 in let rl = rr.0 in let rh = rr.1 in
      get-row (commands_of routes) (length routes) (trains d) (c.train.0 - 1) (c.route.0 - 1) c.train c length-commands_of
      (get-counted number 1 (length d.trains) c.train.0 (omega arith) (omega arith))
      (ap (λ rs. slice_get rs (c.route.0 - 1)) (map-map (cmd c.train) route (one_to (length routes))) ∙ get-counted (λ q. cmd c.train (route q)) 1 (length routes) c.route.0 (omega arith) (omega arith))

  givens : Command → List Variable
  givens c = map (Given c) (one_to n)

  length-givens : (c : Command) → length (map (Given c) (one_to n)) ≡ n
  length-givens c = length-map (Given c) (one_to n) ∙ length-count 1 n

  -- where a variable stands
  pub record Stands (v : Variable) : Type 0 where
    pub index : ℕ
    pub number : number_of d routes n v ≡ suc index
    pub there : slice_get (variables d routes n) index ≡ Some v

  pub length-all : length (flat_map (λ c. map (Given c) (one_to n)) (all_commands d routes)) ≡ length d.trains * length routes * n
  length-all = length-rows (λ c. map (Given c) (one_to n)) n (all_commands d routes) length-givens ∙ ap (λ m. m * n) length-commands

  stands_given : (c : Command) (i : ℕ) → In c (all_commands d routes) → 1 ≤ i → i ≤ n → Stands (Given c i)
  stands_given c i m h k =
      let row : Command → List Variable = λ e. map (Given e) (one_to n) in
      let rest : List Variable = map (λ (p : Command × Command). Before p.0 p.1) (pairs d routes) ++ map By (one_to n) in
      record {
        index = ((c.train.0 - 1) * length routes + (c.route.0 - 1)) * n + (i - 1);
        number = omega arith;
        there = get-left (flat_map row (all_commands d routes)) rest (((c.train.0 - 1) * length routes + (c.route.0 - 1)) * n + (i - 1)) (Given c i)
            (get-row row n (all_commands d routes) ((c.train.0 - 1) * length routes + (c.route.0 - 1)) (i - 1) c (Given c i) length-givens (get-command c m) (get-counted (Given c) 1 n i h (omega arith)));
      }

  stands_before : (e c : Command) → In (e, c) (pairs d routes) → Stands (Before e c)
  stands_before e c m =
      let both : is_pair e c (e, c) ≡ true = and_both (is_command e e) (is_command c c) (is_command_self e) (is_command_self c) in
      let f = get-first (is_pair e c) (pairs d routes) (list_any_from (is_pair e c) (pairs d routes) (e, c) m both) in
      let one : f.0.0 ≡ e = is_command_same e f.0.0 (and_left (is_command e f.0.0) (is_command c f.0.1) f.2) in
      let two : f.0.1 ≡ c = is_command_same c f.0.1 (and_right (is_command e f.0.0) (is_command c f.0.1) f.2) in
      let place = length (before_first (is_pair e c) (pairs d routes)) in
      let before : Command × Command → Variable = λ p. Before p.0 p.1 in
      let l = length-all in
      record {
        index = length d.trains * length routes * n + place;
        number = omega arith;
        there = get-right (flat_map (λ c. map (Given c) (one_to n)) (all_commands d routes)) (map before (pairs d routes) ++ map By (one_to n)) (length d.trains * length routes * n + place) place (omega arith)
            ∙ get-left (map before (pairs d routes)) (map By (one_to n)) place (Before e c) (get-map before (pairs d routes) place f.0 f.1 ∙ (ap (λ g. Some (Before g f.0.1)) one ∙ ap (λ g. Some (Before e g)) two));
      }
    where
      get-map : {X Y : Type 0} (f : X → Y) (xs : List X) (j : ℕ) (x : X) → slice_get xs j ≡ Some x → slice_get (map f xs) j ≡ Some (f x)
      get-map f [] j x e = absurd (cc)
      get-map f (y ∷ ys) zero x e = let same : y ≡ x = cc in ap (λ z. Some (f z)) same
      get-map f (y ∷ ys) (suc j) x e = get-map f ys j x e

  stands_by : (k : ℕ) → 1 ≤ k → k ≤ n → Stands (By k)
  stands_by k h l =
      let before : Command × Command → Variable = λ p. Before p.0 p.1 in
      let a = length-all in
      let b = length-map before (pairs d routes) in
      record {
        index = length d.trains * length routes * n + length (pairs d routes) + (k - 1);
        number = omega arith;
        there = get-right (flat_map (λ c. map (Given c) (one_to n)) (all_commands d routes)) (map before (pairs d routes) ++ map By (one_to n)) (length d.trains * length routes * n + length (pairs d routes) + (k - 1)) (length (pairs d routes) + (k - 1)) (omega arith)
            ∙ (get-right (map before (pairs d routes)) (map By (one_to n)) (length (pairs d routes) + (k - 1)) (k - 1) (omega arith) ∙ get-counted By 1 n k h (omega arith));
      }

  -- a variable that there is: of a command, of a pair that contends, or of a step
  abbrev pub Known : Variable → Type 0
  Known (Given c i) = In c (all_commands d routes) × (1 ≤ i) × (i ≤ n)
  Known (Before e c) = In (e, c) (pairs d routes)
  Known (By k) = (1 ≤ k) × (k ≤ n)

  pub stands_known : (v : Variable) → Known v → Stands v
  stands_known (Given c i) k = stands_given c i k.0 k.1 k.2
  stands_known (Before e c) k = stands_before e c k
  stands_known (By k) l = stands_by k l.0 l.1

  -- in the model of a plan each variable says what is so
  pub model_says : (plan : List (List Command)) (v : Variable) → Known v → model_of d routes n plan (number_of d routes n v) ≡ is_so plan v
  model_says plan v k =
      let s = stands_known v k in
      ap (model_of d routes n plan) s.number ∙ ap (is_so_or_false plan) s.there

  -- the number of a variable is one of 1 up to their count
  pub number_low : (v : Variable) → Known v → 1 ≤ number_of d routes n v
  number_low v k = let s = stands_known v k in let e = s.number in omega arith

  -- ---- the truth of clauses over numbers

  pub clause_says : (values : ℕ → Bool) (cl : List Literal) → clause_holds values (map (numbered d routes n) cl) ≡ holds (λ v. values (number_of d routes n v)) cl
  clause_says values [] = refl
  clause_says values (l ∷ ls) = ap (λ b. literal_holds (λ v. values (number_of d routes n v)) l || b) (clause_says values ls)

-- clauses are true alike where their variables have the same values
pub holds_alike : (one other : Variable → Bool) (cl : List Literal) → ((l : Literal) → In l cl → one l.variable ≡ other l.variable) → holds one cl ≡ holds other cl
holds_alike one other [] h = refl
holds_alike one other (l ∷ ls) h =
    let a : literal_holds one l ≡ literal_holds other l = ap (λ b. cond l.negated (not b) b) (h l (inl refl)) in
    let b = holds_alike one other ls (λ k m. h k (inr m)) in
    ap (λ x. x || holds one ls) a ∙ ap (λ x. literal_holds other l || x) b

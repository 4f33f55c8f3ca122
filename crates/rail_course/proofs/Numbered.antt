-- The train paths of all trains, by their numbers, and what stands before a command on its path.
use Rattle.std.proofs.Common.{◌≡◌, ℕ, zero, suc, ◌+◌, ◌-◌, ◌<◌, ◌≤◌, Bool, true, false, ◌||◌, if◌then◌else◌, List, [], ◌∷◌, ◌++◌, map, flat_map, length, take, get_or, drop, sum_by, refl, sym, ap, ◌∙◌, append_assoc, arith, length-append, ◌^◌, ◌⊎◌, inl, inr}
use Rattle.std.specs.List.{list_any}
use Rattle.std.proofs.Math.Path.{fun_ext}
use Rattle.std.proofs.lemmas.List.{append-nil, map-append, drop_more}
use Rattle.std.proofs.lemmas.List.Sums.{sum_by-cons}
use Rattle.rail_base.specs.declared.station.Station.{Station}
use Rattle.rail_base.specs.declared.station.TrainNo.{TrainNo}
use Rattle.rail_base.specs.declared.route.Route.{Route}
use Rattle.rail_base.specs.declared.route.RouteNo.{RouteNo}
use Rattle.rail_base.specs.declared.plan.Command.{Command}
use Rattle.rail_base.specs.Numbering.{count_from, before_first, entry}
use Rattle.rail_base.specs.Stations.{IsTrain, trains}
use Rattle.rail_spec.specs.Plans.{is_route}
use Rattle.rail_spec.specs.Dispatches.{Dispatch, routes_before}
use Rattle.rail_base.specs.Routes.{route_at, length_mm, exits}
use Rattle.rail_base.proofs.Members.{below_or_not, get_or-counted, get_or-counted_past, map-map}
use Rattle.rail_base.proofs.Lists.{length-map, length-count, count_step}
use Rattle.rail_course.specs.declared.train_path.TrainPath.{TrainPath}
use Rattle.rail_course.specs.declared.prefixes.PathPrefix.{PathPrefix}
use Rattle.rail_course.specs.Prefixes.{prefix_of, longer, prefixes_from, no_prefix}
use Rattle.rail_course.specs.Tracks.{routes_at, path_length}
use Rattle.rail_course.specs.TrainPaths.{IsTrainPath, AreTrainPaths}

-- ---- numbers in a row

-- the trains of these numbers
abbrev pub numbered : ℕ → ℕ → List TrainNo
numbered a n = map (λ n. record { 0 = n }) (count_from a n)

-- ---- paths by the numbers of their trains

-- the path of one more train
pub paths_step : (f : TrainNo → List RouteNo) (old new : List (List RouteNo)) (n many : ℕ) (path : List RouteNo) (all : List (List RouteNo)) → n < many + 1 → new ≡ old ++ path ∷ [] → path ≡ f (record { 0 = n })
    → old ++ map f (numbered n (many + 1 - n)) ≡ all → new ++ map f (numbered (n + 1) (many + 1 - (n + 1))) ≡ all
paths_step f old new n many path all less made same before =
    let rest = map f (numbered (n + 1) (many + 1 - (n + 1))) in
    ap (λ ps. ps ++ rest) made ∙ append_assoc old (path ∷ []) rest ∙ ap (λ p. old ++ (p ∷ rest)) same
    ∙ ap (λ ns. old ++ map f (map (λ (n : ℕ). record { 0 = n }) ns)) (sym (count_step n many less)) ∙ before

pub paths_done : (f : TrainNo → List RouteNo) (old : List (List RouteNo)) (n many : ℕ) (all : List (List RouteNo)) → many + 1 ≤ n → old ++ map f (numbered n (many + 1 - n)) ≡ all → old ≡ all
paths_done f old n many all past left = let none : many + 1 - n ≡ 0 = omega arith in sym (append-nil old) ∙ ap (λ k. old ++ map f (numbered n k)) (sym none) ∙ left

pub many_trains : (d : Station) → length (trains d) ≡ length d.trains
many_trains d = length-map (λ (n : ℕ). record { 0 = n }) (count_from 1 (length d.trains)) ∙ length-count 1 (length d.trains)

-- paths by number are those of all trains, where no other has one
pub path_of_number : (d : Station) (f : TrainNo → List RouteNo) (paths : List (List RouteNo)) → paths ≡ map f (trains d) → ((t : TrainNo) → (IsTrain d t → ⊥) → f t ≡ []) → (λ t. entry [] paths t.0) ≡ f
path_of_number d f paths all none = fun_ext at
  where
    at : (t : TrainNo) → entry [] paths t.0 ≡ f t
    at t = ap (λ ps. entry [] ps t.0) all ∙ ap (λ ps. entry [] ps t.0) (map-map f (λ (n : ℕ). record { 0 = n }) (count_from 1 (length d.trains))) ∙ go t.0
      where
        go : (n : ℕ) → entry [] (map (λ (m : ℕ). f (record { 0 = m })) (count_from 1 (length d.trains))) n ≡ f (record { 0 = n })
        go zero = sym (none (record { 0 = 0 }) (λ h. let low = h.0 in absurd (omega arith)))
        go (suc i) = which (below_or_not i (length d.trains))
          where
            which : (i < length d.trains) ⊎ (length d.trains ≤ i) → get_or (map (λ (m : ℕ). f (record { 0 = m })) (count_from 1 (length d.trains))) i [] ≡ f (record { 0 = suc i })
            which (inl there) = let one : 1 + i ≡ suc i = omega arith in get_or-counted (λ (m : ℕ). f (record { 0 = m })) 1 (length d.trains) i [] there ∙ ap (λ (m : ℕ). f (record { 0 = m })) one
            which (inr past) = get_or-counted_past (λ (m : ℕ). f (record { 0 = m })) 1 (length d.trains) i [] past ∙ sym (none (record { 0 = suc i }) (λ h. let high = h.1 in absurd (omega arith)))

-- ---- train paths by the numbers of their trains

module _ (d : Station) (routes : List Route) (path : TrainNo → List RouteNo) (cs : List TrainPath) (h : AreTrainPaths d routes path cs) where
  pub many_train_paths : length cs ≡ length d.trains
  many_train_paths = sym (length-map (λ (c : TrainPath). c.train) cs) ∙ ap length h.all ∙ many_trains d

  at_map : (xs : List TrainPath) (k : ℕ) (c : TrainPath) (t : TrainNo) → k < length xs → (get_or xs k c).train ≡ get_or (map (λ (c : TrainPath). c.train) xs) k t
  at_map [] k c t l = absurd (omega arith)
  at_map (x ∷ xs) zero c t l = refl
  at_map (x ∷ xs) (suc k) c t l = at_map xs k c t (omega arith)

  -- the train path at a train's place is its train path
  pub train_at : (t : TrainNo) (c : TrainPath) → IsTrain d t → (get_or cs (t.0 - 1) c).train ≡ t
  train_at t c there =
      let many = many_train_paths in
      let low = there.0 in
      let high = there.1 in
      let one : 1 + (t.0 - 1) ≡ t.0 = omega arith in
      at_map cs (t.0 - 1) c t (omega arith) ∙ ap (λ ts. get_or ts (t.0 - 1) t) h.all ∙ get_or-counted (λ (n : ℕ). record { 0 = n }) 1 (length d.trains) (t.0 - 1) t (omega arith) ∙ ap (λ (n : ℕ). record { 0 = n }) one

  pub train_path_at : (t : TrainNo) (c : TrainPath) → IsTrain d t → IsTrainPath d routes (path (get_or cs (t.0 - 1) c).train) (get_or cs (t.0 - 1) c)
  train_path_at t c there =
      let many = many_train_paths in
      let low = there.0 in
      let high = there.1 in
      h.each (t.0 - 1) c (omega arith)

-- ---- prefixes

length-prefixes : (f : PathPrefix) (rs : List Route) → length (prefixes_from f rs) ≡ length rs + 1
length-prefixes f [] = refl
length-prefixes f (r ∷ rs) = let e = length-prefixes (longer f r) rs in omega arith

pub many_prefixes : (rs : List Route) → length (prefixes_from no_prefix rs) ≡ length rs + 1
many_prefixes rs = length-prefixes no_prefix rs

-- two prefixes behind one another
abbrev joined : PathPrefix → PathPrefix → PathPrefix
joined f g = record { spans = f.spans + g.spans; length = f.length + g.length; holds = f.holds + g.holds; exits = f.exits || g.exits }

abbrev prefix : ℕ → ℕ → ℕ → Bool → PathPrefix
prefix a m h c = record { spans = a; length = m; holds = h; exits = c }

prefix_same : (a b m n h k : ℕ) (c e : Bool) → a ≡ b → m ≡ n → h ≡ k → c ≡ e → prefix a m h c ≡ prefix b n k e
prefix_same a b m n h k c e p q s r = cc

or-none : (b : Bool) → b ≡ (b || false)
or-none true = refl
or-none false = refl

or-assoc : (a b c : Bool) → ((a || b) || c) ≡ (a || (b || c))
or-assoc true b c = refl
or-assoc false b c = refl

joined-none : (f : PathPrefix) → f ≡ joined f (prefix_of [])
joined-none f = prefix_same f.spans (f.spans + 0) f.length (f.length + 0) f.holds (f.holds + 0) f.exits (f.exits || false) (omega arith) (omega arith) (omega arith) (or-none f.exits)

joined-more : (f : PathPrefix) (r : Route) (rs : List Route) → joined (longer f r) (prefix_of rs) ≡ joined f (prefix_of (r ∷ rs))
joined-more f r rs =
    let more = length-append r.edges (flat_map (λ (q : Route). q.edges) rs) in
    let length_more = sum_by-cons length_mm r rs in
    let held_more = length-append r.overlaps (flat_map (λ (q : Route). q.overlaps) rs) in
    prefix_same (f.spans + length r.edges + length (flat_map (λ (q : Route). q.edges) rs)) (f.spans + length (flat_map (λ (q : Route). q.edges) (r ∷ rs))) (f.length + length_mm r + sum_by length_mm rs) (f.length + sum_by length_mm (r ∷ rs)) (f.holds + length r.overlaps + length (flat_map (λ (q : Route). q.overlaps) rs)) (f.holds + length (flat_map (λ (q : Route). q.overlaps) (r ∷ rs))) _ _
    (omega (arith, more)) (omega (arith, length_more)) (omega (arith, held_more)) (or-assoc f.exits (exits r) (list_any exits rs))

prefix_after : (f : PathPrefix) (rs : List Route) (g : ℕ) (other : PathPrefix) → g ≤ length rs → get_or (prefixes_from f rs) g other ≡ joined f (prefix_of (take g rs))
prefix_after f [] zero other l = joined-none f
prefix_after f [] (suc g) other l = absurd (omega arith)
prefix_after f (r ∷ rs) zero other l = joined-none f
prefix_after f (r ∷ rs) (suc g) other l = prefix_after (longer f r) rs g other (omega arith) ∙ joined-more f r (take g rs)

-- the prefix of so many routes
pub prefix_at : (rs : List Route) (g : ℕ) (other : PathPrefix) → g ≤ length rs → get_or (prefixes_from no_prefix rs) g other ≡ prefix_of (take g rs)
prefix_at rs g other l =
    let f = prefix_of (take g rs) in
    prefix_after no_prefix rs g other l ∙ prefix_same (0 + f.spans) f.spans (0 + f.length) f.length (0 + f.holds) f.holds f.exits f.exits (omega arith) (omega arith) (omega arith) refl

-- ---- what stands before a route

pub before_take : {X : Type 0} (test : X → Bool) (xs : List X) → take (length (before_first test xs)) xs ≡ before_first test xs
before_take test [] = refl
before_take test (x ∷ xs) = go (test x) (before_take test xs)
  where
    go : (b : Bool) → take (length (before_first test xs)) xs ≡ before_first test xs
        → take (length (if b then [] else x ∷ before_first test xs)) (x ∷ xs) ≡ (if b then [] else x ∷ before_first test xs)
    go true e = refl
    go false e = ap (λ ys. x ∷ ys) e

pub take-map : {X Y : Type 0} (f : X → Y) (g : ℕ) (xs : List X) → take g (map f xs) ≡ map f (take g xs)
take-map f zero xs = refl
take-map f (suc g) [] = refl
take-map f (suc g) (x ∷ xs) = ap (λ ys. f x ∷ ys) (take-map f g xs)

-- ---- the first routes of a path

pub length_within : (routes : List Route) (g : ℕ) (path : List RouteNo) → sum_by length_mm (take g (routes_at routes path)) ≤ path_length routes path
length_within routes zero path = omega arith
length_within routes (suc g) [] = omega arith
length_within routes (suc g) (r ∷ rs) =
    let a = sum_by-cons length_mm (route_at routes r) (take g (routes_at routes rs)) in
    let b = sum_by-cons length_mm (route_at routes r) (routes_at routes rs) in
    let l = length_within routes g rs in
    omega arith

-- ---- the train path of a command's train

before_within : {X : Type 0} (test : X → Bool) (xs : List X) → length (before_first test xs) ≤ length xs
before_within test [] = omega arith
before_within test (x ∷ xs) = go (test x) (before_within test xs)
  where
    go : (b : Bool) → length (before_first test xs) ≤ length xs → length (if b then [] else x ∷ before_first test xs) ≤ suc (length xs)
    go true l = omega arith
    go false l = omega arith

module _ (d : Station) (routes : List Route) (p : Dispatch) (train_path : TrainPath) (is : IsTrainPath d routes (p.path train_path.train) train_path) (e : Command) (same : train_path.train ≡ e.train) where
  abbrev test : RouteNo → Bool
  test = λ r. is_route r e.route

  abbrev pub number_before : ℕ
  number_before = length (before_first test train_path.path.items)

  path_is : train_path.path.items ≡ p.path e.train
  path_is = is.given ∙ ap p.path same

  pub number_is : number_before ≡ length (routes_before d routes p e)
  number_is = ap (λ rs. length (before_first test rs)) path_is ∙ sym (length-map (route_at routes) (before_first test (p.path e.train)))

  number_within : number_before ≤ length (routes_at routes (p.path train_path.train))
  number_within =
      let l = before_within test train_path.path.items in
      let a = ap length is.given in
      let b = length-map (route_at routes) (p.path train_path.train) in
      omega arith

  pub number_fits : number_before < length train_path.prefixes.items
  number_fits = let l = number_within in let a = ap length is.parts in let b = many_prefixes (routes_at routes (p.path train_path.train)) in omega arith

  pub routes_before_is : take number_before (routes_at routes (p.path train_path.train)) ≡ routes_before d routes p e
  routes_before_is =
      ap (λ t. take number_before (routes_at routes (p.path t))) same ∙ take-map (route_at routes) number_before (p.path e.train)
      ∙ ap (λ rs. map (route_at routes) (take (length (before_first test rs)) (p.path e.train))) path_is
      ∙ ap (map (route_at routes)) (before_take test (p.path e.train))

  pub prefix_is : (other : PathPrefix) → get_or train_path.prefixes.items number_before other ≡ prefix_of (routes_before d routes p e)
  prefix_is other =
      ap (λ fs. get_or fs number_before other) is.parts ∙ prefix_at (routes_at routes (p.path train_path.train)) number_before other number_within
      ∙ ap prefix_of routes_before_is

  pub before_short : sum_by length_mm (routes_before d routes p e) < 2 ^ 47
  before_short =
      let l = length_within routes number_before (p.path train_path.train) in
      let s = ap (sum_by length_mm) routes_before_is in
      let h = is.range.below_2_47 in
      omega arith

-- ---- lists made one by one

pub map_step : {X Y T : Type 0} (f : X → T) (g : Y → T) (old new : List X) (x : X) (ys : List Y) (k : ℕ) (y : Y) (all : List T) → k < length ys → y ≡ get_or ys k y → new ≡ old ++ x ∷ [] → f x ≡ g y
    → map f old ++ map g (drop k ys) ≡ all → map f new ++ map g (drop (k + 1) ys) ≡ all
map_step f g old new x ys k y all lt is made same before =
    let rest = map g (drop (k + 1) ys) in
    ap (λ xs. map f xs ++ rest) made ∙ ap (λ ts. ts ++ rest) (map-append f old (x ∷ [])) ∙ append_assoc (map f old) (f x ∷ []) rest
    ∙ ap (λ t. map f old ++ (t ∷ rest)) same ∙ ap (λ zs. map f old ++ map g zs) (ap (λ z. z ∷ drop (k + 1) ys) is ∙ sym (drop_more ys k y lt)) ∙ before

-- Walks are short, and the least of what follows them is found one route at a time.
use Rattle.std.proofs.Common.{◌≡◌, ℕ, zero, suc, ◌+◌, ◌-◌, ◌*◌, ◌≤◌, ◌<◌, ◌^◌, min, ◌==◌, Bool, true, false, if◌then◌else◌, List, [], ◌∷◌, map, filter, drop, length, sum_by, Option, None, Some, refl, sym, ap, ◌∙◌, subst, arith}
use Rattle.std.specs.List.{list_any}
use Rattle.std.proofs.lemmas.List.{drop_more}
use Rattle.std.proofs.lemmas.List.Sums.{sum_by-cons}
use Rattle.rail_base.specs.declared.station.Station.{Station}
use Rattle.rail_base.specs.declared.station.TrainNo.{TrainNo}
use Rattle.rail_base.specs.declared.route.Route.{Route}
use Rattle.rail_base.specs.declared.route.RouteNo.{RouteNo}
use Rattle.rail_base.specs.Admitted.{IsAdmitted}
use Rattle.rail_base.specs.Routes.{no_route, route_at, length_mm, exits}
use Rattle.rail_base.proofs.Admitting.{admitted}
use Rattle.interlocking.specs.declared.railway.Interlocking.{Interlocking}
use Rattle.rail_spec.specs.Track.{routes_of}
use Rattle.rail_laws.proofs.Admits.{entry_is}
use Rattle.rail_laws.proofs.Small.{short_route}
use Rattle.cone_spec.specs.Clauses.{goes_further}
use Rattle.rail_course.specs.Tracks.{routes_at, path_length}
use Rattle.rail_spec.specs.Motion.{MotorSeen, SpanSeen}
use Rattle.rail_spec.specs.Dispatches.{rates, stretches}
use Rattle.free_spec.specs.Free.{free, steps, steps_from_stop}
use Rattle.free_spec.specs.Legs.{Leg, least_ticks, least_ticks_waited, least_over, least_whatever_follows, following, with_next}

-- ---- lengths

module _ (d : Station) (adm : IsAdmitted d) where
  short_at : (r : RouteNo) → length_mm (route_at (routes_of d) r) ≤ 40000000000
  short_at r = entry_is (λ (q : Route). length_mm q ≤ 40000000000) no_route (routes_of d) r.0 (omega arith) (short_route d adm)

  short_sum : (path : List RouteNo) → path_length (routes_of d) path ≤ length path * 40000000000
  short_sum [] = omega arith
  short_sum (r ∷ rs) =
      let s = sum_by-cons length_mm (route_at (routes_of d) r) (routes_at (routes_of d) rs) in
      let a = short_at r in
      let b = short_sum rs in
      omega arith

pub short_path : (i : Interlocking) (path : List RouteNo) → length path ≤ 65 → path_length i.routes path < 2 ^ 47
short_path i path few = subst (λ routes. path_length routes path < 2 ^ 47) (sym i.table) (let s = short_sum i.design.station (admitted i.design.station i.design.admitted) path in omega arith)

-- ---- what follows

-- the first of the legs may be taken before the others
sooner : (f : Leg → ℕ) (n m : ℕ) (ls : List Leg) → min m (least_over f n ls) ≡ least_over f (min n m) ls
sooner f n m [] = omega arith
sooner f n m (l ∷ ls) = let h = sooner f n m ls in omega arith

pub some_routes : (routes : List Route) (path : List RouteNo) → (length path == 0) ≡ false → routes_at routes path ≡ [] → ⊥
some_routes routes [] h e = absurd (cc)
some_routes routes (r ∷ rs) h e = absurd (cc)

-- the routes from a number on: this one, and those from the next on
pub routes_from : (routes : List Route) (n : ℕ) → 1 ≤ n → n < length routes + 1 → drop (n - 1) routes ≡ route_at routes (record { 0 = n }) ∷ drop (n + 1 - 1) routes
routes_from routes zero some less = absurd (omega arith)
routes_from routes (suc k) some less =
    let here : suc k - 1 ≡ k = omega arith in
    let next : suc k + 1 - 1 ≡ k + 1 = omega arith in
    ap (λ i. drop i routes) here ∙ (drop_more routes k no_route (omega arith) ∙ ap (λ i. route_at routes (record { 0 = suc k }) ∷ drop i routes) (sym next))

module _ (f : Leg → ℕ) (rs : List Route) (rest : Bool) where
  -- of a route that goes further what its leg takes counts
  pub one_more : (now later : List Route) (q : Route) (goes : Bool) (least ticks next all : ℕ) → now ≡ q ∷ later → goes ≡ goes_further rs q → goes ≡ true → ticks ≡ f (with_next rs rest q) → next ≡ min least ticks
      → all ≡ least_over f least (following now rs rest) → all ≡ least_over f next (following later rs rest)
  one_more now later q goes least ticks next all split same further took lower h =
      let kept : following now rs rest ≡ with_next rs rest q ∷ following later rs rest =
      ap (λ qs. following qs rs rest) split ∙ ap (λ b. map (with_next rs rest) (if b then q ∷ filter (goes_further rs) later else filter (goes_further rs) later)) (sym same ∙ further) in
      h ∙ (ap (least_over f least) kept ∙ (sooner f least (f (with_next rs rest q)) (following later rs rest) ∙ ap (λ n. least_over f n (following later rs rest)) (sym (lower ∙ ap (min least) took))))

  -- and of another nothing
  pub no_more : (now later : List Route) (q : Route) (goes : Bool) (least next all : ℕ) → now ≡ q ∷ later → goes ≡ goes_further rs q → goes ≡ false → next ≡ least
      → all ≡ least_over f least (following now rs rest) → all ≡ least_over f next (following later rs rest)
  no_more now later q goes least next all split same none kept h =
      let left : following now rs rest ≡ following later rs rest =
      ap (λ qs. following qs rs rest) split ∙ ap (λ b. map (with_next rs rest) (if b then q ∷ filter (goes_further rs) later else filter (goes_further rs) later)) (sym same ∙ none) in
      h ∙ (ap (least_over f least) left ∙ ap (λ n. least_over f n (following later rs rest)) (sym kept))

  -- where none of the routes exits what follows them counts
  pub goes_on_further : (routes : List Route) (first : ℕ) → (rs ≡ [] → ⊥) → list_any exits rs ≡ false → first ≡ f (record { routes = rs; closed = true; rest = rest })
      → least_over f first (following routes rs rest) ≡ least_whatever_follows f routes rs rest
  goes_on_further routes first some inside took = go rs refl
    where
      go : (qs : List Route) → qs ≡ rs → least_over f first (following routes rs rest) ≡ least_whatever_follows f routes qs rest
      go [] e = absurd (some (sym e))
      go (q ∷ qs) e =
          ap (λ n. least_over f n (following routes rs rest)) took
          ∙ (ap (λ zs. least_over f (f (record { routes = zs; closed = true; rest = rest })) (following routes zs rest)) (sym e)
          ∙ sym (ap (λ b. if b then f (record { routes = q ∷ qs; closed = false; rest = rest }) else least_over f (f (record { routes = q ∷ qs; closed = true; rest = rest })) (following routes (q ∷ qs) rest)) (ap (list_any exits) e ∙ inside)))

-- ---- a leg

abbrev count : (rest waits : Bool) (most from to : ℕ) → MotorSeen → List SpanSeen → Option ℕ → ℕ
count rest waits most from to m ss end = if waits then steps_from_stop (free m ss end rest) (m.accel + m.brake) from 0 most from to else steps (free m ss end rest) most from to

-- what the track of a leg takes is what the leg does
pub on_leg : (d : Station) (t : TrainNo) (rs : List Route) (closed rest waits : Bool) (most from to : ℕ) (m : MotorSeen) (ss : List SpanSeen) (end : Option ℕ) (long n : ℕ)
    → m ≡ rates d t → ss ≡ stretches d rs → long ≡ sum_by length_mm rs → end ≡ (if closed then Some long else None)
    → n ≡ (if waits then steps_from_stop (free m ss end rest) (m.accel + m.brake) from 0 most from to else steps (free m ss end rest) most from to)
    → n ≡ (if waits then least_ticks_waited d t (record { routes = rs; closed = closed; rest = rest }) most from to else least_ticks d t (record { routes = rs; closed = closed; rest = rest }) most from to)
on_leg d t rs closed rest waits most from to m ss end long n motor track size ends h =
    h ∙ (ap (λ r. count rest waits most from to r ss end) motor ∙ (ap (λ zs. count rest waits most from to (rates d t) zs end) track ∙ ap (count rest waits most from to (rates d t) (stretches d rs)) (ends ∙ ap (λ l. if closed then Some l else None) size)))

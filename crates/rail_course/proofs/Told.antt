-- The waits of all trains, taken one after the other.
use Rattle.std.proofs.Common.{◌≡◌, ℕ, zero, suc, ◌+◌, ◌-◌, ◌<◌, List, [], ◌∷◌, length, map, get_or, drop, refl, sym, ap, subst, ◌∙◌, arith}
use Rattle.std.specs.Global.{Vec}
use Rattle.std.proofs.lemmas.List.{get_or_default}
use Rattle.rail_base.specs.declared.station.Station.{Station}
use Rattle.rail_base.specs.declared.station.TrainNo.{TrainNo}
use Rattle.rail_base.specs.declared.route.Route.{Route}
use Rattle.rail_base.specs.declared.route.RouteNo.{RouteNo}
use Rattle.rail_course.specs.declared.waits.Wait.{Wait}
use Rattle.rail_base.specs.Numbering.{entry}
use Rattle.rail_base.specs.Stations.{IsTrain}
use Rattle.rail_spec.specs.Dispatches.{Dispatch}
use Rattle.rail_course.specs.declared.train_path.TrainPath.{TrainPath}
use Rattle.rail_course.specs.Ready.{GiveWhatIsReady, AllGiveWhatIsReady}
use Rattle.rail_course.specs.TrainPaths.{AreTrainPaths}
use Rattle.rail_course.proofs.Numbered.{many_train_paths, train_at}

-- ---- what comes off the front

pub some_left : {X : Type 0} (xs : List X) (i : ℕ) → i < length xs → 0 < length (drop i xs)
some_left [] i h = absurd (omega arith)
some_left (x ∷ xs) zero h = omega arith
some_left (x ∷ xs) (suc i) h = some_left xs i (omega arith)

pub first_left : {X : Type 0} (xs : List X) (i : ℕ) (other : X) → get_or (drop i xs) 0 other ≡ get_or xs i other
first_left [] zero other = refl
first_left [] (suc i) other = refl
first_left (x ∷ xs) zero other = refl
first_left (x ∷ xs) (suc i) other = first_left xs i other

pub rest_left : {X : Type 0} (xs : List X) (i n : ℕ) → n ≡ i + 1 → drop 1 (drop i xs) ≡ drop n xs
rest_left xs i n e = go xs i ∙ ap (λ k. drop k xs) (let f : suc i ≡ n = omega arith in f)
  where
    go : {X : Type 0} (xs : List X) (i : ℕ) → drop 1 (drop i xs) ≡ drop (suc i) xs
    go [] zero = refl
    go [] (suc i) = refl
    go (x ∷ xs) zero = refl
    go (x ∷ xs) (suc i) = go xs i

-- ---- the waits at a train path's place are those of its train

module _ (d : Station) (routes : List Route) (p : Dispatch) (paths : TrainNo → List RouteNo) (cs : List TrainPath) (are : AreTrainPaths d routes paths cs) where
  pub told_at : (waits : List (List (Vec Wait))) → AllGiveWhatIsReady d routes p waits → (i : ℕ) → i < length cs → (train_path : TrainPath) → train_path ≡ get_or cs i train_path → (own : List (Vec Wait)) → own ≡ get_or waits i own
      → GiveWhatIsReady d routes p train_path.train (map (λ (v : Vec Wait). v.items) own)
  told_at waits tell i less train_path here own is =
      subst (λ u. GiveWhatIsReady d routes p u (map (λ (v : Vec Wait). v.items) own)) (sym number)
      (subst (λ vs. GiveWhatIsReady d routes p t (map (λ (v : Vec Wait). v.items) vs)) waits_are (tell.each t train))
    where
      t : TrainNo
      t = record { 0 = suc i }

      many : length cs ≡ length d.trains
      many = many_train_paths d routes paths cs are

      train : IsTrain d t
      train = let m = many in (omega arith, omega arith)

      number : train_path.train ≡ t
      number = ap (λ (c : TrainPath). c.train) here ∙ ap (λ k. (get_or cs k train_path).train) (let e : i ≡ suc i - 1 = omega arith in e) ∙ train_at d routes paths cs are t train_path train

      waits_are : entry [] waits (suc i) ≡ own
      waits_are = let m = many in let w = tell.waits_a_train in get_or_default waits i [] own (omega arith) ∙ sym is

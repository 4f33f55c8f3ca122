-- What is known of a train that a cone names, where the cone is of the design.
use Rattle.std.proofs.Common.{◌≡◌, suc, ◌≤◌, ◌⊎◌, inl, inr, Bool, true, false, cond, not, ◌&&◌, ◌||◌, nat_le, List, [], ◌∷◌, map, filter, length, refl, sym, ap, subst, ◌∙◌, arith, leb-true, eqb-true, eq-eqb}
use Rattle.std.specs.List.{list_any, list_all}
use Rattle.rail_base.specs.declared.station.Station.{Station}
use Rattle.rail_base.specs.declared.station.TrainNo.{TrainNo}
use Rattle.rail_base.specs.declared.route.Route.{Route}
use Rattle.rail_base.specs.declared.route.RouteNo.{RouteNo}
use Rattle.rail_base.specs.declared.plan.Command.{Command}
use Rattle.cone_spec.specs.declared.ConeTrain.{ConeTrain}
use Rattle.cone_spec.specs.declared.Cone.{Cone}
use Rattle.rail_spec.specs.Plans.{route_at, is_train, is_route, is_command, share, all_commands}
use Rattle.rail_base.specs.Members.{all_neighbors}
use Rattle.rail_base.specs.Stations.{horizon}
use Rattle.rail_base.proofs.Members.{In, and_left, and_right, and_both, list_all_at, list_any_gives, list_any_from, in_filter}
use Rattle.cone_spec.specs.Cones.{unnamed, first_named, named, has_route, is_named, is_pair, has_pair, of_cone}
use Rattle.cone_spec.specs.Validity.{is_walk, train_in_design, pair_in_design, holder_in_path, violation_in_design, in_design, is_pair_before}
use Rattle.rail_base.specs.Admission.{is_from}
use Rattle.cone_spec.proofs.Saying.{in_all, is_command_same, is_command_self}
use Rattle.rail_base.proofs.Lists.{in_map}
use Rattle.rail_laws.proofs.Given.{same_route}

pub has_route_in : (rs : List RouteNo) (r : RouteNo) → has_route rs r ≡ true → In r rs
has_route_in rs r h = go (list_any_gives (λ q. is_route q r) rs h)
  where
    go : (q : RouteNo) × In q rs × (is_route q r ≡ true) → In r rs
    go (q, m, e) = subst (λ x. In x rs) (same_route q r e) m

pub in_has_route : (rs : List RouteNo) (r : RouteNo) → In r rs → has_route rs r ≡ true
in_has_route rs r m = list_any_from (λ q. is_route q r) rs r m (eq-eqb r.0 r.0 refl)

-- a train is named by a member of the list, or not at all
pub record IsNamed (cs : List ConeTrain) (t : TrainNo) : Type 0 where
  pub member : In (first_named t cs) cs
  pub train : (first_named t cs).train ≡ t

pub named_or_not : (cs : List ConeTrain) (t : TrainNo) → IsNamed cs t ⊎ (first_named t cs ≡ unnamed t)
named_or_not [] t = inr refl
named_or_not (c ∷ cs) t = go (is_train c.train t) refl (named_or_not cs t)
  where
    go : (b : Bool) → is_train c.train t ≡ b → IsNamed cs t ⊎ (first_named t cs ≡ unnamed t) → IsNamed (c ∷ cs) t ⊎ (first_named t (c ∷ cs) ≡ unnamed t)
    go true e k =
        let first : first_named t (c ∷ cs) ≡ c = ap (λ b. cond b c (first_named t cs)) e in
        inl (record { member = inl (sym first); train = ap (λ (x : ConeTrain). x.train) first ∙ ap (λ n. record { 0 = n }) (eqb-true c.train.0 t.0 e) })
    go false e (inl k) =
        let first : first_named t (c ∷ cs) ≡ first_named t cs = ap (λ b. cond b c (first_named t cs)) e in
        inl (record { member = inr (subst (λ x. In x cs) (sym first) k.member); train = ap (λ (x : ConeTrain). x.train) first ∙ k.train })
    go false e (inr k) = inr (ap (λ b. cond b c (first_named t cs)) e ∙ k)

module _ (d : Station) (routes : List Route) (k : Cone) where
  pub record OfDesign : Type 0 where
    pub trains : list_all (train_in_design d routes k) k.trains ≡ true
    pub holders : list_all (λ c. holder_in_path d routes k c.holder) k.trains ≡ true
    pub pairs : list_all (pair_in_design d routes k) k.pairs ≡ true
    pub violation : violation_in_design d routes k k.violation ≡ true

  pub of_design : in_design d routes k ≡ true → OfDesign
  of_design h =
      let abcde = and_left (list_all (train_in_design d routes k) k.trains && all_neighbors (λ a b. nat_le (suc a.train.0) b.train.0) k.trains && list_all (λ c. holder_in_path d routes k c.holder) k.trains && list_all (pair_in_design d routes k) k.pairs && all_neighbors is_pair_before k.pairs) _ h in
      let abcd = and_left (list_all (train_in_design d routes k) k.trains && all_neighbors (λ a b. nat_le (suc a.train.0) b.train.0) k.trains && list_all (λ c. holder_in_path d routes k c.holder) k.trains && list_all (pair_in_design d routes k) k.pairs) _ abcde in
      let abc = and_left (list_all (train_in_design d routes k) k.trains && all_neighbors (λ a b. nat_le (suc a.train.0) b.train.0) k.trains && list_all (λ c. holder_in_path d routes k c.holder) k.trains) _ abcd in
      let ab = and_left (list_all (train_in_design d routes k) k.trains && all_neighbors (λ a b. nat_le (suc a.train.0) b.train.0) k.trains) _ abc in
      record {
        trains = and_left (list_all (train_in_design d routes k) k.trains) _ ab;
        holders = and_right (list_all (train_in_design d routes k) k.trains && all_neighbors (λ a b. nat_le (suc a.train.0) b.train.0) k.trains) _ abc;
        pairs = and_right (list_all (train_in_design d routes k) k.trains && all_neighbors (λ a b. nat_le (suc a.train.0) b.train.0) k.trains && list_all (λ c. holder_in_path d routes k c.holder) k.trains) _ abcd;
        violation = and_right (list_all (train_in_design d routes k) k.trains && all_neighbors (λ a b. nat_le (suc a.train.0) b.train.0) k.trains && list_all (λ c. holder_in_path d routes k c.holder) k.trains && list_all (pair_in_design d routes k) k.pairs && all_neighbors is_pair_before k.pairs) _ h;
      }

  -- what is known of a named train
  pub record Proper (c : ConeTrain) : Type 0 where
    pub first : 1 ≤ c.train.0
    pub last : c.train.0 ≤ length d.trains
    pub routes_in : list_all (λ r. is_from 1 (length routes) r.0) c.path ≡ true
    pub horizon : c.horizon ≤ horizon d
    pub free : c.free ≤ length c.path
    pub way : is_walk (map (route_at routes) c.path) ≡ true

  pub proper : OfDesign → (c : ConeTrain) → In c k.trains → Proper c
  proper o c m =
      let h = list_all_at (train_in_design d routes k) k.trains c o.trains m in
      let abcd = and_left (is_from 1 (length d.trains) c.train.0 && list_all (λ r. is_from 1 (length routes) r.0) c.path && nat_le c.horizon (horizon d) && nat_le c.free (length c.path)) _ h in
      let abc = and_left (is_from 1 (length d.trains) c.train.0 && list_all (λ r. is_from 1 (length routes) r.0) c.path && nat_le c.horizon (horizon d)) _ abcd in
      let ab = and_left (is_from 1 (length d.trains) c.train.0 && list_all (λ r. is_from 1 (length routes) r.0) c.path) _ abc in
      let a = and_left (is_from 1 (length d.trains) c.train.0) _ ab in
      record {
        first = leb-true _ _ (and_left (nat_le 1 c.train.0) _ a);
        last = leb-true _ _ (and_right (nat_le 1 c.train.0) _ a);
        routes_in = and_right (is_from 1 (length d.trains) c.train.0) _ ab;
        horizon = leb-true _ _ (and_right (is_from 1 (length d.trains) c.train.0 && list_all (λ r. is_from 1 (length routes) r.0) c.path) _ abc);
        free = leb-true _ _ (and_right (is_from 1 (length d.trains) c.train.0 && list_all (λ r. is_from 1 (length routes) r.0) c.path && nat_le c.horizon (horizon d)) _ abcd);
        way = and_right (is_from 1 (length d.trains) c.train.0 && list_all (λ r. is_from 1 (length routes) r.0) c.path && nat_le c.horizon (horizon d) && nat_le c.free (length c.path)) _ h;
      }

  -- a command of the cone is of the design, and its train is named
  pub named_is : OfDesign → (c : Command) → In c.route (named k c.train).path → IsNamed k.trains c.train
  named_is o c m = go (named_or_not k.trains c.train)
    where
      go : IsNamed k.trains c.train ⊎ (first_named c.train k.trains ≡ unnamed c.train) → IsNamed k.trains c.train
      go (inl i) = i
      go (inr e) = absurd (subst (λ (x : ConeTrain). In c.route x.path) e m)

  pub named_in_all : OfDesign → (c : Command) → is_named k c ≡ true → In c (all_commands d routes)
  named_in_all o c h =
      let m = has_route_in (named k c.train).path c.route h in
      let i = named_is o c m in
      let p = proper o (named k c.train) i.member in
      let r = list_all_at (λ (r : RouteNo). is_from 1 (length routes) r.0) (named k c.train).path c.route p.routes_in m in
      let t : (named k c.train).train.0 ≡ c.train.0 = ap (λ (t : TrainNo). t.0) i.train in
      let first = p.first in
      let last = p.last in
      in_all d routes c (omega arith) (omega arith) (leb-true _ _ (and_left (nat_le 1 c.route.0) _ r)) (leb-true _ _ (and_right (nat_le 1 c.route.0) _ r))

  -- a listed pair is one of commands of the cone, of different trains, that share a section
  pub record Listed (e c : Command) : Type 0 where
    pub first : is_named k e ≡ true
    pub second : is_named k c ≡ true
    pub apart : is_train e.train c.train ≡ false
    pub sharing : share (route_at routes e.route) (route_at routes c.route) ≡ true

  pub listed_is : OfDesign → (e c : Command) → has_pair k e c ≡ true → Listed e c
  listed_is o e c h = go (list_any_gives (is_pair e c) k.pairs h)
    where
      is_not : (b : Bool) → not b ≡ true → b ≡ false
      is_not true h = sym h
      is_not false h = refl

      from : (a b : Command) → pair_in_design d routes k (a, b) ≡ true → Listed a b
      from a b t =
          let ab = and_left (is_named k a && is_named k b) _ t in
          let both = and_right (is_named k a && is_named k b) _ t in
          record {
            first = and_left (is_named k a) _ ab;
            second = and_right (is_named k a) _ ab;
            apart = is_not _ (and_left (not (is_train a.train b.train)) _ both);
            sharing = and_right (not (is_train a.train b.train)) _ both;
          }

      go : (p : Command × Command) × In p k.pairs × (is_pair e c p ≡ true) → Listed e c
      go (p, m, t) =
          let a = is_command_same p.0 e (and_left (is_command p.0 e) _ t) in
          let b = is_command_same p.1 c (and_right (is_command p.0 e) _ t) in
          subst (λ x. Listed x c) a (subst (λ y. Listed p.0 y) b (from p.0 p.1 (list_all_at (pair_in_design d routes k) k.pairs p o.pairs m)))

  -- what is listed before a command is what it waits for in the cone's run
  pub listed_waits : (e c : Command) → has_pair k e c ≡ true → In e ((of_cone k).before c)
  listed_waits e c h = go (list_any_gives (is_pair e c) k.pairs h)
    where
      kept : (ps : List (Command × Command)) (p : Command × Command) → In p ps → is_command p.1 c ≡ true → In p (filter (λ p. is_command p.1 c) ps)
      kept ps p m t = in_filter (λ p. is_command p.1 c) ps p m t

      go : (p : Command × Command) × In p k.pairs × (is_pair e c p ≡ true) → In e (map (λ p. p.0) (filter (λ p. is_command p.1 c) k.pairs))
      go (p, m, t) =
          subst (λ x. In x (map (λ p. p.0) (filter (λ p. is_command p.1 c) k.pairs))) (is_command_same p.0 e (and_left (is_command p.0 e) _ t))
          (in_map (λ p. p.0) (filter (λ p. is_command p.1 c) k.pairs) p (kept k.pairs p m (and_right (is_command p.0 e) _ t)))

  pub waits_listed : (e c : Command) → In e ((of_cone k).before c) → has_pair k e c ≡ true
  waits_listed e c m = go k.pairs m
    where
      step : (p : Command × Command) (rest : Bool) → p.0 ≡ e → is_command p.1 c ≡ true → (is_pair e c p || rest) ≡ true
      step p rest a b = ap (λ x. x || rest) (and_both _ _ (subst (λ x. is_command p.0 x ≡ true) a (is_command_self p.0)) b)

      later : (a b : Bool) → b ≡ true → (a || b) ≡ true
      later true b e = refl
      later false b e = e

      go : (ps : List (Command × Command)) → In e (map (λ p. p.0) (filter (λ p. is_command p.1 c) ps)) → list_any (is_pair e c) ps ≡ true
      go [] m = absurd m
      go (p ∷ ps) m = at (is_command p.1 c) refl m (go ps)
        where
          at : (b : Bool) → is_command p.1 c ≡ b → In e (map (λ p. p.0) (cond b (p ∷ filter (λ p. is_command p.1 c) ps) (filter (λ p. is_command p.1 c) ps)))
              → (In e (map (λ p. p.0) (filter (λ p. is_command p.1 c) ps)) → list_any (is_pair e c) ps ≡ true) → list_any (is_pair e c) (p ∷ ps) ≡ true
          at true t (inl a) rest = step p (list_any (is_pair e c) ps) a t
          at true t (inr n) rest = later (is_pair e c p) _ (rest n)
          at false t n rest = later (is_pair e c p) _ (rest n)

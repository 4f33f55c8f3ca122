-- Whether a leg begins with a visit, and what a certificate that names the design has.
use Rattle.std.proofs.Common.{◌≡◌, ℕ, zero, suc, ◌-◌, ◌≤◌, Bool, true, false, not, ◌&&◌, ◌||◌, if◌then◌else◌, List, [], ◌∷◌, length, get_or, refl, ap, ◌∙◌, arith}
use Rattle.std.specs.List.{list_all}
use Rattle.rail_base.specs.declared.station.Station.{Station}
use Rattle.rail_base.specs.declared.station.TrainNo.{TrainNo}
use Rattle.rail_base.specs.declared.route.Route.{Route}
use Rattle.rail_base.proofs.Members.{and_left, and_right}
use Rattle.interlocking.specs.declared.railway.Interlocking.{Interlocking}
use Rattle.bound_spec.specs.declared.Leg.{Leg}
use Rattle.bound_spec.specs.declared.Bound.{Bound}
use Rattle.bound_spec.specs.Certificates.{nodes_of_visit}
use Rattle.bound_spec.specs.Validity.{first_leg, is_empty, is_made_at_end, last_leg, leg_in_design, names_design, requirement_in_design}
use Rattle.bound_design.specs.Covered.{is_made_where_it_exits}

pub begun_first : (b x y r : Bool) → b ≡ true → r ≡ x → r ≡ (if b then x else y)
begun_first true x y r h e = e
begun_first false x y r h e = absurd (cc)

pub begun_not : (b x a c e : Bool) → b ≡ false → a ≡ false → false ≡ (if b then x else (a && (c || e)))
begun_not false x false c e h k = refl
begun_not false x true c e h k = absurd (cc)
begun_not true x a c e h k = absurd (cc)

pub begun_second : (b x a c e : Bool) → b ≡ false → a ≡ true → c ≡ true → true ≡ (if b then x else (a && (c || e)))
begun_second false x true true e h k l = refl
begun_second false x true false e h k l = absurd (cc)
begun_second false x false c e h k l = absurd (cc)
begun_second true x a c e h k l = absurd (cc)

pub begun_last : (b x a c e r : Bool) → b ≡ false → a ≡ true → c ≡ false → r ≡ e → r ≡ (if b then x else (a && (c || e)))
begun_last false x true false e r h k l m = m
begun_last false x true true e r h k l m = absurd (cc)
begun_last false x false c e r h k l m = absurd (cc)
begun_last true x a c e r h k l m = absurd (cc)

pub made_end : (i : Interlocking) (t : TrainNo) (k : ℕ) → 2 ≤ k → is_made_where_it_exits i k (nodes_of_visit i.design.station t k) ≡ is_made_at_end i.design.station i.routes (record { train = t; number = k })
made_end i t zero h = absurd (omega arith)
made_end i t (suc zero) h = absurd (omega arith)
made_end i t (suc (suc k)) h = refl

-- ---- legs by their index

pub some_legs : (ls : List Leg) → not (is_empty ls) ≡ true → 1 ≤ length ls
some_legs [] e = absurd (cc)
some_legs (l ∷ ls) e = omega arith

pub first_leg_at : (ls : List Leg) (other : Leg) → not (is_empty ls) ≡ true → get_or ls 0 other ≡ first_leg ls
first_leg_at [] other e = absurd (cc)
first_leg_at (l ∷ ls) other e = refl

pub last_leg_at : (ls : List Leg) (other : Leg) → not (is_empty ls) ≡ true → get_or ls (length ls - 1) other ≡ last_leg ls
last_leg_at [] other e = absurd (cc)
last_leg_at (l ∷ []) other e = refl
last_leg_at (l ∷ m ∷ ls) other e =
    let k : length (l ∷ m ∷ ls) - 1 ≡ suc (length (m ∷ ls) - 1) = omega arith in
    ap (λ n. get_or (l ∷ m ∷ ls) n other) k ∙ last_leg_at (m ∷ ls) other refl

pub first_leg_passes : (test : Leg → Bool) (ls : List Leg) → not (is_empty ls) ≡ true → list_all test ls ≡ true → test (first_leg ls) ≡ true
first_leg_passes test [] e h = absurd (cc)
first_leg_passes test (l ∷ ls) e h = and_left (test l) (list_all test ls) h

pub last_leg_passes : (test : Leg → Bool) (ls : List Leg) → not (is_empty ls) ≡ true → list_all test ls ≡ true → test (last_leg ls) ≡ true
last_leg_passes test [] e h = absurd (cc)
last_leg_passes test (l ∷ []) e h = and_left (test l) true h
last_leg_passes test (l ∷ m ∷ ls) e h = last_leg_passes test (m ∷ ls) refl (and_right (test l) (list_all test (m ∷ ls)) h)

-- ---- what a certificate that names the design has

module _ (d : Station) (routes : List Route) (b : Bound) where
  pub record Has : Type 0 where
    pub requirement : requirement_in_design d routes b.requirement ≡ true
    pub some : not (is_empty b.legs) ≡ true
    pub legs : list_all (leg_in_design d routes) b.legs ≡ true

  pub has : names_design d routes b ≡ true → Has
  has h =
      let a = requirement_in_design d routes b.requirement in
      let s = not (is_empty b.legs) in
      let prefix = and_left (a && s && list_all (leg_in_design d routes) b.legs) _ (and_left _ _ (and_left _ _ (and_left _ _ (and_left _ _ h)))) in
      record {
        requirement = and_left a s (and_left (a && s) (list_all (leg_in_design d routes) b.legs) prefix);
        some = and_right a s (and_left (a && s) (list_all (leg_in_design d routes) b.legs) prefix);
        legs = and_right (a && s) (list_all (leg_in_design d routes) b.legs) prefix;
      }

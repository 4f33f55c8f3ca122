-- The steps of a plan, and the order of a train's routes.
use Rattle.std.proofs.Common.{◌≡◌, ◌+◌, ◌≤◌, ◌<◌, ◌⊎◌, inl, inr, Bool, true, false, cond, not, if◌then◌else◌, List, [], ◌∷◌, ◌++◌, map, filter, length, Some, refl, sym, ap, subst, ◌∙◌, arith, true≢false, eqb-true, eq-eqb}
use Rattle.std.specs.List.{list_any, list_all}
use Rattle.rail_base.specs.declared.station.TrainNo.{TrainNo}
use Rattle.rail_base.specs.declared.route.RouteNo.{RouteNo}
use Rattle.rail_base.specs.declared.plan.Command.{Command}
use Rattle.rail_base.specs.Numbering.{first_of_list}
use Rattle.rail_spec.specs.Plans.{commands, is_command, is_train, is_route, routes_given, path, step_of, one_each}
use Rattle.rail_base.specs.Members.{all_neighbors}
use Rattle.rail_base.proofs.Members.{In, and_left, and_right, and_both, list_all_at, list_any_gives, list_any_from, in_filter}
use Rattle.clause_spec.proofs.Lists.{Distinct}
use Rattle.rail_base.proofs.Lists.{in_map_back, in_map, in_flat_map_back, in_flat_map, in_filter_back, in_append_left, in_append_right, in_append}
use Rattle.rail_laws.proofs.Given.{same_train}

abbrev pub cmd : TrainNo → RouteNo → Command
cmd t r = record { train = t; route = r }

pub is_train_self : (t : TrainNo) → is_train t t ≡ true
is_train_self t = eq-eqb t.0 t.0 refl

pub is_command_same : (c e : Command) → is_command c e ≡ true → e ≡ c
is_command_same c e h =
    let t : c.train.0 ≡ e.train.0 = eqb-true c.train.0 e.train.0 (and_left (is_train c.train e.train) (is_route c.route e.route) h) in
    let r : c.route.0 ≡ e.route.0 = eqb-true c.route.0 e.route.0 (and_right (is_train c.train e.train) (is_route c.route e.route) h) in
    ap (λ n. record { train = record { 0 = n }; route = record { 0 = e.route.0 } }) (sym t) ∙ ap (λ n. record { train = record { 0 = c.train.0 }; route = record { 0 = n } }) (sym r)

pub is_command_self : (c : Command) → is_command c c ≡ true
is_command_self c = and_both (is_train c.train c.train) (is_route c.route c.route) (eq-eqb c.train.0 c.train.0 refl) (eq-eqb c.route.0 c.route.0 refl)

pub has_gives : (step : List Command) (c : Command) → list_any (is_command c) step ≡ true → In c step
has_gives step c h = let f = list_any_gives (is_command c) step h in subst (λ e. In e step) (is_command_same c f.0 f.2) f.1

pub has_from : (step : List Command) (c : Command) → In c step → list_any (is_command c) step ≡ true
has_from step c m = list_any_from (is_command c) step c m (is_command_self c)

-- ---- steps

pub step_here : (step : List Command) (steps : List (List Command)) (c : Command) → In c step → step_of (step ∷ steps) c ≡ 1
step_here step steps c m = ap (λ b. if b then 1 else step_of steps c + 1) (has_from step c m)

pub has_none : (step : List Command) (c : Command) → (In c step → ⊥) → list_any (is_command c) step ≡ false
has_none step c h = go (list_any (is_command c) step) refl
  where
    go : (b : Bool) → list_any (is_command c) step ≡ b → b ≡ false
    go false e = refl
    go true e = absurd (h (has_gives step c e))

pub step_later : (step : List Command) (steps : List (List Command)) (c : Command) → (In c step → ⊥) → step_of (step ∷ steps) c ≡ step_of steps c + 1
step_later step steps c h = ap (λ b. if b then 1 else step_of steps c + 1) (has_none step c h)

pub step_low : (plan : List (List Command)) (c : Command) → 1 ≤ step_of plan c
step_low [] c = omega arith
step_low (step ∷ steps) c = go (list_any (is_command c) step)
  where
    go : (b : Bool) → 1 ≤ (if b then 1 else step_of steps c + 1)
    go true = omega arith
    go false = omega arith

pub in_or_not : (step : List Command) (c : Command) → In c step ⊎ (In c step → ⊥)
in_or_not step c = go (list_any (is_command c) step) refl
  where
    go : (b : Bool) → list_any (is_command c) step ≡ b → In c step ⊎ (In c step → ⊥)
    go true e = inl (has_gives step c e)
    go false e = inr (λ m. true≢false (sym (has_from step c m) ∙ e))

pub step_high : (plan : List (List Command)) (c : Command) → In c (commands plan) → step_of plan c ≤ length plan
step_high [] c m = absurd m
step_high (step ∷ steps) c m = go (in_append c step (commands steps) m) (in_or_not step c) (step_high steps c)
  where
    go : In c step ⊎ In c (commands steps) → In c step ⊎ (In c step → ⊥) → (In c (commands steps) → step_of steps c ≤ length steps) → step_of (step ∷ steps) c ≤ length (step ∷ steps)
    go m (inl n) rest = let e = step_here step steps c n in omega arith
    go (inl m) (inr n) rest = absurd (n m)
    go (inr m) (inr n) rest = let e = step_later step steps c n in let h = rest m in omega arith

-- ---- what a step gives to a train

pub record GivesNone (t : TrainNo) (step : List Command) : Type 0 where
  pub given : routes_given t step ≡ []
  pub absent : (r : RouteNo) → In (cmd t r) step → ⊥

pub record GivesOne (t : TrainNo) (step : List Command) (r : RouteNo) : Type 0 where
  pub given : routes_given t step ≡ r ∷ []
  pub member : In (cmd t r) step
  pub only : (q : RouteNo) → In (cmd t q) step → q ≡ r

abbrev pub Gives : TrainNo → List Command → Type 0
Gives t step = GivesNone t step ⊎ ((r : RouteNo) × GivesOne t step r)

apart_from : (x : Command) (xs : List Command) (t : TrainNo) → is_train x.train t ≡ true → list_all (λ d. not (is_train x.train d.train)) xs ≡ true → (r : RouteNo) → In (cmd t r) xs → ⊥
apart_from x xs t e h r m =
    let k : not (is_train x.train t) ≡ true = list_all_at (λ d. not (is_train x.train d.train)) xs (cmd t r) h m in
    true≢false (sym k ∙ ap not e)

none_given : (xs : List Command) (t : TrainNo) → ((r : RouteNo) → In (cmd t r) xs → ⊥) → routes_given t xs ≡ []
none_given [] t h = refl
none_given (x ∷ xs) t h = go (is_train x.train t) refl (none_given xs t (λ r m. h r (inr m)))
  where
    go : (b : Bool) → is_train x.train t ≡ b → routes_given t xs ≡ [] → map (λ (c : Command). c.route) (cond b (x ∷ filter (λ c. is_train c.train t) xs) (filter (λ c. is_train c.train t) xs)) ≡ []
    go false e rest = rest
    go true e rest = absurd (h x.route (inl (ap (λ u. cmd u x.route) (same_train x.train t e))))

pub gives : (t : TrainNo) (step : List Command) → one_each step ≡ true → Gives t step
gives t [] h = inl (record { given = refl; absent = λ r m. m })
gives t (x ∷ xs) h = go (is_train x.train t) refl (gives t xs (and_right (list_all (λ d. not (is_train x.train d.train)) xs) (one_each xs) h))
  where
    first : (b : Bool) → b ≡ true → routes_given t xs ≡ [] → map (λ (c : Command). c.route) (cond b (x ∷ filter (λ c. is_train c.train t) xs) (filter (λ c. is_train c.train t) xs)) ≡ x.route ∷ []
    first true e n = ap (λ rs. x.route ∷ rs) n
    first false e n = absurd (true≢false (sym e))

    skipped : (b : Bool) → b ≡ false → map (λ (c : Command). c.route) (cond b (x ∷ filter (λ c. is_train c.train t) xs) (filter (λ c. is_train c.train t) xs)) ≡ routes_given t xs
    skipped false e = refl
    skipped true e = absurd (true≢false e)

    differs : is_train x.train t ≡ false → (r : RouteNo) → (x ≡ cmd t r) → ⊥
    differs e r f = true≢false (sym (is_train_self t) ∙ (ap (λ (c : Command). is_train c.train t) (sym f) ∙ e))

    go : (b : Bool) → is_train x.train t ≡ b → Gives t xs → Gives t (x ∷ xs)
    go true e rest =
        let gone = apart_from x xs t e (and_left (list_all (λ d. not (is_train x.train d.train)) xs) (one_each xs) h) in
        inr (
          x.route,
          record {
            given = first (is_train x.train t) e (none_given xs t gone);
            member = inl (ap (λ u. cmd u x.route) (same_train x.train t e));
            only = only gone;
          },
        )
      where
        only : ((r : RouteNo) → In (cmd t r) xs → ⊥) → (q : RouteNo) → In (cmd t q) (x ∷ xs) → q ≡ x.route
        only gone q (inl f) = ap (λ (c : Command). c.route) (sym f)
        only gone q (inr m) = absurd (gone q m)
    go false e (inl none) = inl (record { given = skipped (is_train x.train t) e ∙ none.given; absent = absent })
      where
        absent : (r : RouteNo) → In (cmd t r) (x ∷ xs) → ⊥
        absent r (inl f) = differs e r f
        absent r (inr m) = none.absent r m
    go false e (inr (r, one)) = inr (r, record { given = skipped (is_train x.train t) e ∙ one.given; member = inr one.member; only = only })
      where
        only : (q : RouteNo) → In (cmd t q) (x ∷ xs) → q ≡ r
        only q (inl f) = absurd (differs e q f)
        only q (inr m) = one.only q m

-- ---- the path of a train

pub in_path_from : (plan : List (List Command)) (t : TrainNo) (r : RouteNo) → In (cmd t r) (commands plan) → In r (path plan t)
in_path_from plan t r m =
    let f = in_flat_map_back (λ s. s) plan (cmd t r) m in
    in_flat_map (routes_given t) plan f.0 r f.1 (in_map (λ (c : Command). c.route) (filter (λ c. is_train c.train t) f.0) (cmd t r) (in_filter (λ c. is_train c.train t) f.0 (cmd t r) f.2 (is_train_self t)))

pub in_path : (plan : List (List Command)) (t : TrainNo) (r : RouteNo) → In r (path plan t) → In (cmd t r) (commands plan)
in_path plan t r m =
    let f = in_flat_map_back (routes_given t) plan r m in
    let g = in_map_back (λ (c : Command). c.route) (filter (λ c. is_train c.train t) f.0) r f.2 in
    let k = in_filter_back (λ (c : Command). is_train c.train t) f.0 g.0 g.1 in
    let same : g.0 ≡ cmd t r = ap (λ u. cmd u g.0.route) (same_train g.0.train t k.1) ∙ ap (cmd t) g.2 in
    in_flat_map (λ s. s) plan f.0 (cmd t r) f.1 (subst (λ c. In c f.0) same k.0)

-- the route is the train's first
pub record IsFirst (plan : List (List Command)) (t : TrainNo) (r : RouteNo) : Type 0 where
  pub head : first_of_list (path plan t) ≡ Some r
  pub least : (q : RouteNo) → In (cmd t q) (commands plan) → step_of plan (cmd t r) ≤ step_of plan (cmd t q)

-- one route goes before another, and none of the train's between
pub record IsNext (links : RouteNo → RouteNo → Bool) (plan : List (List Command)) (t : TrainNo) (q r : RouteNo) : Type 0 where
  pub member : In (cmd t q) (commands plan)
  pub linked : links q r ≡ true
  pub earlier : step_of plan (cmd t q) < step_of plan (cmd t r)
  pub between : (e : RouteNo) → In (cmd t e) (commands plan) → step_of plan (cmd t e) < step_of plan (cmd t r) → step_of plan (cmd t e) ≤ step_of plan (cmd t q)

abbrev pub Placed : (RouteNo → RouteNo → Bool) → List (List Command) → TrainNo → RouteNo → Type 0
Placed links plan t r = IsFirst plan t r ⊎ ((q : RouteNo) × IsNext links plan t q r)

neighbors_tail : (links : RouteNo → RouteNo → Bool) (x : RouteNo) (xs : List RouteNo) → all_neighbors links (x ∷ xs) ≡ true → all_neighbors links xs ≡ true
neighbors_tail links x [] h = refl
neighbors_tail links x (y ∷ ys) h = and_right (links x y) (all_neighbors links (y ∷ ys)) h

neighbors_first : (links : RouteNo → RouteNo → Bool) (x r : RouteNo) (xs : List RouteNo) → all_neighbors links (x ∷ xs) ≡ true → first_of_list xs ≡ Some r → links x r ≡ true
neighbors_first links x r [] h e = absurd (cc)
neighbors_first links x r (y ∷ ys) h e = let same : y ≡ r = cc in subst (λ z. links x z ≡ true) same (and_left (links x y) (all_neighbors links (y ∷ ys)) h)

-- each route of a train is its first, or comes next after another
pub placed : (links : RouteNo → RouteNo → Bool) (plan : List (List Command)) (t : TrainNo) (r : RouteNo) → list_all one_each plan ≡ true → Distinct (path plan t) → all_neighbors links (path plan t) ≡ true → In (cmd t r) (commands plan) → Placed links plan t r
placed links [] t r one apart near m = absurd m
placed links (step ∷ steps) t r one apart near m = go (gives t step (and_left (one_each step) (list_all one_each steps) one)) (placed links steps t r (and_right (one_each step) (list_all one_each steps) one))
  where
    -- a member of a later step alone
    shift : (q : RouteNo) → (In (cmd t q) step → ⊥) → In (cmd t q) (commands (step ∷ steps)) → In (cmd t q) (commands steps)
    shift q no_here n = after (in_append (cmd t q) step (commands steps) n)
      where
        after : In (cmd t q) step ⊎ In (cmd t q) (commands steps) → In (cmd t q) (commands steps)
        after (inl k) = absurd (no_here k)
        after (inr k) = k

    none_case : GivesNone t step → Placed links steps t r → Placed links (step ∷ steps) t r
    none_case none (inl f) = inl (record {
      head = ap (λ rs. first_of_list (rs ++ path steps t)) none.given ∙ f.head;
      least = λ q n. (let a = step_later step steps (cmd t r) (none.absent r) in let b = step_later step steps (cmd t q) (none.absent q) in let c = f.least q (shift q (none.absent q) n) in omega arith);
    })
    none_case none (inr (q, x)) = inr (
      q,
      record {
        member = in_append_right (cmd t q) step (commands steps) x.member;
        linked = x.linked;
        earlier = (let a = step_later step steps (cmd t r) (none.absent r) in let b = step_later step steps (cmd t q) (none.absent q) in let c = x.earlier in omega arith);
        between = λ e n l. (let a = step_later step steps (cmd t r) (none.absent r) in let b = step_later step steps (cmd t q) (none.absent q) in let g = step_later step steps (cmd t e) (none.absent e) in let c = x.between e (shift e (none.absent e) n) (omega arith) in omega arith);
      },
    )

    -- the step gives another route
    one_case : (p : RouteNo) → GivesOne t step p → all_neighbors links (p ∷ path steps t) ≡ true → (In p (path steps t) → ⊥) → (In (cmd t r) step → ⊥) → Placed links steps t r → Placed links (step ∷ steps) t r
    one_case p o n d no_here (inl f) = inr (
      p,
      record {
        member = in_append_left (cmd t p) step (commands steps) o.member;
        linked = neighbors_first links p r (path steps t) n f.head;
        earlier = (let a = step_here step steps (cmd t p) o.member in let b = step_later step steps (cmd t r) no_here in let c = step_low steps (cmd t r) in omega arith);
        between = λ e k l. between e k l (in_or_not step (cmd t e));
      },
    )
      where
        between : (e : RouteNo) → In (cmd t e) (commands (step ∷ steps)) → step_of (step ∷ steps) (cmd t e) < step_of (step ∷ steps) (cmd t r) → In (cmd t e) step ⊎ (In (cmd t e) step → ⊥) → step_of (step ∷ steps) (cmd t e) ≤ step_of (step ∷ steps) (cmd t p)
        between e k l (inl here) = let a = step_here step steps (cmd t e) here in let b = step_here step steps (cmd t p) o.member in omega arith
        between e k l (inr not_here) = let a = step_later step steps (cmd t e) not_here in let b = step_later step steps (cmd t r) no_here in let c = f.least e (shift e not_here k) in absurd (omega arith)
    one_case p o n d no_here (inr (q, x)) = inr (
      q,
      record {
        member = in_append_right (cmd t q) step (commands steps) x.member;
        linked = x.linked;
        earlier = (let a = step_later step steps (cmd t r) no_here in let b = step_later step steps (cmd t q) q_later in let c = x.earlier in omega arith);
        between = λ e k l. between e k l (in_or_not step (cmd t e));
      },
    )
      where
        q_later : In (cmd t q) step → ⊥
        q_later k = d (subst (λ z. In z (path steps t)) (o.only q k) (in_path_from steps t q x.member))

        between : (e : RouteNo) → In (cmd t e) (commands (step ∷ steps)) → step_of (step ∷ steps) (cmd t e) < step_of (step ∷ steps) (cmd t r) → In (cmd t e) step ⊎ (In (cmd t e) step → ⊥) → step_of (step ∷ steps) (cmd t e) ≤ step_of (step ∷ steps) (cmd t q)
        between e k l (inl here) = let a = step_here step steps (cmd t e) here in let b = step_low (step ∷ steps) (cmd t q) in omega arith
        between e k l (inr not_here) = let a = step_later step steps (cmd t e) not_here in let b = step_later step steps (cmd t r) no_here in let g = step_later step steps (cmd t q) q_later in let c = x.between e (shift e not_here k) (omega arith) in omega arith

    first_case : (p : RouteNo) → GivesOne t step p → In (cmd t r) step → Placed links (step ∷ steps) t r
    first_case p o here = inl (record {
      head = ap (λ rs. first_of_list (rs ++ path steps t)) o.given ∙ ap Some (sym (o.only r here));
      least = λ q n. (let a = step_here step steps (cmd t r) here in let b = step_low (step ∷ steps) (cmd t q) in omega arith);
    })

    go : Gives t step → (Distinct (path steps t) → all_neighbors links (path steps t) ≡ true → In (cmd t r) (commands steps) → Placed links steps t r) → Placed links (step ∷ steps) t r
    go (inl none) rest = none_case none (rest
        (subst (λ rs. Distinct (rs ++ path steps t)) none.given apart)
        (subst (λ rs. all_neighbors links (rs ++ path steps t) ≡ true) none.given near)
        (shift r (none.absent r) m))
    go (inr (p, o)) rest = at (in_or_not step (cmd t r))
      where
        apart_one : Distinct (p ∷ path steps t)
        apart_one = subst (λ rs. Distinct (rs ++ path steps t)) o.given apart

        near_one : all_neighbors links (p ∷ path steps t) ≡ true
        near_one = subst (λ rs. all_neighbors links (rs ++ path steps t) ≡ true) o.given near

        at : In (cmd t r) step ⊎ (In (cmd t r) step → ⊥) → Placed links (step ∷ steps) t r
        at (inl here) = first_case p o here
        at (inr not_here) = one_case p o near_one apart_one.0 not_here (rest apart_one.1 (neighbors_tail links p (path steps t) near_one) (shift r not_here m))

-- two routes given to a train in one step are one
pub one_a_step : (plan : List (List Command)) (t : TrainNo) (r q : RouteNo) → list_all one_each plan ≡ true → In (cmd t r) (commands plan) → In (cmd t q) (commands plan) → step_of plan (cmd t r) ≡ step_of plan (cmd t q) → r ≡ q
one_a_step [] t r q one m n e = absurd m
one_a_step (step ∷ steps) t r q one m n e = go (in_or_not step (cmd t r)) (in_or_not step (cmd t q)) (gives t step (and_left (one_each step) (list_all one_each steps) one)) (one_a_step steps t r q (and_right (one_each step) (list_all one_each steps) one))
  where
    shift : (p : RouteNo) → (In (cmd t p) step → ⊥) → In (cmd t p) (commands (step ∷ steps)) → In (cmd t p) (commands steps)
    shift p no_here k = after (in_append (cmd t p) step (commands steps) k)
      where
        after : In (cmd t p) step ⊎ In (cmd t p) (commands steps) → In (cmd t p) (commands steps)
        after (inl j) = absurd (no_here j)
        after (inr j) = j

    go : In (cmd t r) step ⊎ (In (cmd t r) step → ⊥) → In (cmd t q) step ⊎ (In (cmd t q) step → ⊥) → Gives t step → (In (cmd t r) (commands steps) → In (cmd t q) (commands steps) → step_of steps (cmd t r) ≡ step_of steps (cmd t q) → r ≡ q) → r ≡ q
    go (inl a) (inl b) (inl none) rest = absurd (none.absent r a)
    go (inl a) (inl b) (inr (p, o)) rest = o.only r a ∙ sym (o.only q b)
    go (inl a) (inr b) g rest = let x = step_here step steps (cmd t r) a in let y = step_later step steps (cmd t q) b in let z = step_low steps (cmd t q) in absurd (omega arith)
    go (inr a) (inl b) g rest = let x = step_here step steps (cmd t q) b in let y = step_later step steps (cmd t r) a in let z = step_low steps (cmd t r) in absurd (omega arith)
    go (inr a) (inr b) g rest = let x = step_later step steps (cmd t r) a in let y = step_later step steps (cmd t q) b in rest (shift r a m) (shift q b n) (omega arith)

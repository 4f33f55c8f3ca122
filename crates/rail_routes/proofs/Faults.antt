-- What is wrong with closed paths, taken in order.
use Rattle.std.proofs.Common.{◌≡◌, ℕ, zero, suc, ◌+◌, ◌-◌, ◌≤◌, ◌<◌, Bool, true, false, if◌then◌else◌, List, [], ◌∷◌, ◌++◌, flat_map, take, drop, length, Option, None, Some, refl, sym, ap, ◌∙◌, arith, append_assoc, length-append, drop-cons, add-one, get_or}
use Rattle.rail_base.specs.declared.station.Station.{Station}
use Rattle.rail_base.specs.declared.station.End.{End}
use Rattle.rail_base.specs.declared.station.EdgeNo.{EdgeNo}
use Rattle.rail_base.specs.declared.station.Side.TheVariants.{A, B}
use Rattle.rail_base.specs.declared.route.Route.{Route}
use Rattle.rail_base.specs.declared.route.Start.{Start}
use Rattle.rail_base.specs.declared.route.Start.TheVariants as start
use Rattle.rail_base.specs.declared.route.Finish.{Finish}
use Rattle.rail_base.specs.Numbering.{first_of_list}
use Rattle.rail_base.specs.Stations.{leave, IsNode}
use Rattle.rail_base.specs.Admitted.{IsAdmitted}
use Rattle.rail_spec.specs.Track.{is_empty, Walk, Whole, RepeatsEdge, bad_edge, all_walks, walks_from, route_of, route_from, start_end}
use Rattle.rail_laws.specs.Elementary.{IsStart}
use Rattle.rail_routes.specs.declared.fault.RouteFault.{RouteFault}
use Rattle.rail_routes.specs.declared.fault.RouteFault.TheVariants as fault
use Rattle.rail_routes.specs.Refusals.{CanBeListed, HasFault, fault_of, IsFaultOf}

-- ---- paths after others

pub fault-after : (r : ℕ) (xs ys : List Walk) → fault_of r xs ≡ None → fault_of r (xs ++ ys) ≡ fault_of (r - length xs) ys
fault-after r [] ys h = ap (λ n. fault_of n ys) (let e : r ≡ r - 0 = omega arith in e)
fault-after r (RepeatsEdge e ∷ xs) ys h = cc
fault-after zero (Whole p f ∷ xs) ys h = cc
fault-after (suc r) (Whole p f ∷ xs) ys h = fault-after r xs ys h ∙ ap (λ n. fault_of n ys) (let e : r - length xs ≡ suc r - suc (length xs) = omega arith in e)

pub fault-first : (r : ℕ) (xs ys : List Walk) (x : RouteFault) → fault_of r xs ≡ Some x → fault_of r (xs ++ ys) ≡ Some x
fault-first r [] ys x h = cc
fault-first r (RepeatsEdge e ∷ xs) ys x h = h
fault-first zero (Whole p f ∷ xs) ys x h = h
fault-first (suc r) (Whole p f ∷ xs) ys x h = fault-first r xs ys x h

-- where nothing is wrong each is a whole route
pub all-whole : (d : Station) (s : Start) (r : ℕ) (xs : List Walk) → fault_of r xs ≡ None → length (flat_map (route_from d s) xs) ≡ length xs
all-whole d s r [] h = refl
all-whole d s r (RepeatsEdge e ∷ xs) h = cc
all-whole d s zero (Whole p f ∷ xs) h = cc
all-whole d s (suc r) (Whole p f ∷ xs) h = ap suc (all-whole d s r xs h)

-- ---- what it means for the first of them

listed : (r : ℕ) (cs : List Walk) → fault_of r cs ≡ None → (flat_map bad_edge (take (suc r) cs) ≡ []) × (length cs ≤ r)
listed r [] h = (refl, omega arith)
listed r (RepeatsEdge e ∷ cs) h = cc
listed zero (Whole p f ∷ cs) h = cc
listed (suc r) (Whole p f ∷ cs) h = let l = listed r cs h in (l.0, let k = l.1 in omega arith)

again : (r : ℕ) (cs : List Walk) (e : EdgeNo) → fault_of r cs ≡ Some (fault.RepeatsEdge e) → first_of_list (flat_map bad_edge (take (suc r) cs)) ≡ Some e
again r [] e h = cc
again r (RepeatsEdge g ∷ cs) e h = cc
again zero (Whole p f ∷ cs) e h = cc
again (suc r) (Whole p f ∷ cs) e h = again r cs e h

many : (r : ℕ) (cs : List Walk) → fault_of r cs ≡ Some fault.TooMany → (flat_map bad_edge (take (suc r) cs) ≡ []) × (suc r ≤ length cs)
many r [] h = cc
many r (RepeatsEdge g ∷ cs) h = cc
many zero (Whole p f ∷ cs) h = (refl, omega arith)
many (suc r) (Whole p f ∷ cs) h = let l = many r cs h in (l.0, let k = l.1 in omega arith)

pub is_listed : (d : Station) → fault_of 2000 (all_walks d) ≡ None → CanBeListed d
is_listed d h = let l = listed 2000 (all_walks d) h in record { once = l.0; at_most_2000 = l.1 }

pub has_fault : (d : Station) (r : ℕ) (xs ys : List Walk) (x : RouteFault) → IsFaultOf r xs x → fault_of r (xs ++ ys) ≡ fault_of 2000 (all_walks d) → HasFault d x
has_fault d r xs ys (fault.RepeatsEdge e) h same = again 2000 (all_walks d) e (sym same ∙ fault-first r xs ys (fault.RepeatsEdge e) h)
has_fault d r xs ys fault.TooMany h same = many 2000 (all_walks d) (sym same ∙ fault-first r xs ys fault.TooMany h)
has_fault d r xs ys fault.Memory h same = tt

-- ---- one more closed path

pub whole_more : (r : ℕ) (path : List EdgeNo) (f : Finish) (later all : List Walk) (x : Option RouteFault) → r < 2000 → Whole path f ∷ later ≡ all → fault_of (2000 - r) all ≡ x → fault_of (2000 - (r + 1)) later ≡ x
whole_more r path f later all x h e same =
    let room : suc (2000 - (r + 1)) ≡ 2000 - r = omega arith in
    ap (λ n. fault_of n (Whole path f ∷ later)) room ∙ ap (fault_of (2000 - r)) e ∙ same

pub whole_added : (d : Station) (s : Start) (path : List EdgeNo) (f : Finish) (later all : List Walk) (table new whole : List Route) → Whole path f ∷ later ≡ all → new ≡ table ++ route_of d s path f ∷ [] → table ++ flat_map (route_from d s) all ≡ whole → new ++ flat_map (route_from d s) later ≡ whole
whole_added d s path f later all table new whole e added same =
    ap (λ rs. rs ++ flat_map (route_from d s) later) added
    ∙ append_assoc table (route_of d s path f ∷ []) (flat_map (route_from d s) later)
    ∙ ap (λ cs. table ++ flat_map (route_from d s) cs) e ∙ same

-- ---- one more start

pub start_more : (d : Station) (s : Start) (later : List Start) (table new : List Route) (x : Option RouteFault) → length table ≤ 2000 → fault_of (2000 - length table) (walks_from d s) ≡ None → new ≡ table ++ flat_map (route_from d s) (walks_from d s)
    → fault_of (2000 - length table) (walks_from d s ++ flat_map (walks_from d) later) ≡ x → fault_of (2000 - length new) (flat_map (walks_from d) later) ≡ x
start_more d s later table new x few none added same =
    let whole = all-whole d s (2000 - length table) (walks_from d s) none in
    let long = ap length added ∙ length-append table (flat_map (route_from d s) (walks_from d s)) in
    let room : 2000 - length new ≡ 2000 - length table - length (walks_from d s) = omega arith in
    ap (λ n. fault_of n (flat_map (walks_from d) later)) room ∙ sym (fault-after (2000 - length table) (walks_from d s) (flat_map (walks_from d) later) none) ∙ same

pub start_added : (d : Station) (s : Start) (items later : List Start) (table new all : List Route) → items ≡ s ∷ later → new ≡ table ++ flat_map (route_from d s) (walks_from d s)
    → table ++ flat_map (λ q. flat_map (route_from d q) (walks_from d q)) items ≡ all → new ++ flat_map (λ q. flat_map (route_from d q) (walks_from d q)) later ≡ all
start_added d s items later table new all from added same =
    let rest = flat_map (λ q. flat_map (route_from d q) (walks_from d q)) later in
    ap (λ rs. rs ++ rest) added ∙ append_assoc table (flat_map (route_from d s) (walks_from d s)) rest
    ∙ ap (λ ss. table ++ flat_map (λ q. flat_map (route_from d q) (walks_from d q)) ss) (sym from) ∙ same

pub from_start : (items : List Start) (i : ℕ) (other : Start) → i < length items → drop i items ≡ get_or items i other ∷ drop (i + 1) items
from_start items i other h = drop-cons items i other h ∙ ap (λ n. get_or items i other ∷ drop n items) (sym (add-one i))

-- ---- starts

pub start_node_is : (d : Station) (s : Start) → IsAdmitted d → IsStart d s → IsNode d (start_end d s).node
start_node_is d (start.Signal s) adm h = (adm.signal s h).node
start_node_is d (start.Boundary n) adm h = go (is_empty (leave d (record { node = n; side = A })))
  where
    go : (b : Bool) → IsNode d (let end : End = (if b then record { node = n; side = B } else record { node = n; side = A }) in end.node)
    go true = h.0
    go false = h.0

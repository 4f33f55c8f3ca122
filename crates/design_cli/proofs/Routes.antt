-- A design that is read has few routes.
use Rattle.std.proofs.Common.{◌≡◌, ℕ, ◌<◌, ◌^◌, Bool, true, false, List, [], ◌∷◌, map, length, nat_le, Result, Ok, Err, refl, ap, sym, ◌∙◌, arith}
use Rattle.std.proofs.lemmas.Bool.{leb-false}
use Rattle.design_table.specs.declared.fault.Code.{Code}
use Rattle.design_table.specs.declared.fault.Code.TheVariants.{D12, D13}
use Rattle.design_table.specs.declared.place.Place.{Place}
use Rattle.design_table.specs.declared.place.Place.TheVariants as place
use Rattle.design_table.specs.Reads.{at, unless_at}
use Rattle.infra_reader.specs.Design.{design_of}
use Rattle.rail_base.specs.declared.station.Station.{Station}
use Rattle.rail_base.specs.declared.station.EdgeNo.{EdgeNo}
use Rattle.rail_routes.specs.Refusals.{CanBeListed}
use Rattle.rail_routes.proofs.Tables.{listed_all}
use Rattle.rail_spec.specs.Track.{all_walks, edges_met_again, routes_of}
use Rattle.cli_shell.specs.Answers.{and_then, design_in, design_or_answer, edge_place, with_routes}
use Rattle.cli_shell.proofs.Passing.{routes_answer-same}

-- the routes of a design that is read can be listed
can_be_listed : (d : Station) → with_routes d ≡ Ok d → CanBeListed d
can_be_listed d h = go (edges_met_again d) (nat_le 2001 (length (all_walks d))) refl refl h
  where
    go : (es : List EdgeNo) (many : Bool) → edges_met_again d ≡ es → nat_le 2001 (length (all_walks d)) ≡ many
        → unless_at D12 (map edge_place es) (unless_at D13 (at many place.Routes) (Ok d)) ≡ Ok d → CanBeListed d
    go [] true e m h = absurd (cc)
    go [] false e m h = let l : length (all_walks d) < 2001 = leb-false 2001 (length (all_walks d)) m in record { once = e; at_most_2000 = omega arith }
    go (x ∷ xs) many e m h = absurd (cc)

listed : (r : Result Station (Code × Place)) (d : Station) → design_or_answer r ≡ Ok d → r ≡ Ok d
listed (Ok x) d h = let is : x ≡ d = cc in ap Ok is
listed (Err x) d h = absurd (cc)

with_its_routes : (r : Result Station (Code × Place)) (d : Station) → design_or_answer (and_then r with_routes) ≡ Ok d → with_routes d ≡ Ok d
with_its_routes (Ok e) d h =
    let same : e ≡ d = routes_answer-same e d h in
    listed (with_routes d) d (ap (λ x. design_or_answer (with_routes x)) (sym same) ∙ h)
with_its_routes (Err x) d h = absurd (cc)

pub few_routes : (bytes : List ℕ) (d : Station) → design_in bytes ≡ Ok d → length (routes_of d) < 2 ^ 32
few_routes bytes d is =
    let can = can_be_listed d (with_its_routes (design_of bytes) d is) in
    let few = can.at_most_2000 in
    let all = listed_all d can in
    omega arith

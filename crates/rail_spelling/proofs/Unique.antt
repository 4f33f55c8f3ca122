-- What is read is spelled, and nothing else is: a design, and a plan of it.
use Rattle.std.proofs.Common.{◌≡◌, ℕ, List, [], map, Ok, refl, sym, subst, ◌∙◌, true≢false, true}
use Rattle.std.specs.List.{list_all}
use Rattle.design_table.specs.Parsed.{ParsedNode, ParsedSignal, ParsedVehicle, ParsedTrain, ParsedSheet}
use Rattle.design_table.specs.Sheet.{sheet_of}
use Rattle.design_table.specs.Toml.{toml_of}
use Rattle.rail_base.specs.declared.station.Station.{Station}
use Rattle.rail_base.specs.declared.station.Node.{Node}
use Rattle.rail_base.specs.declared.station.Signal.{Signal}
use Rattle.rail_base.specs.declared.station.Vehicle.{Vehicle}
use Rattle.rail_base.specs.declared.station.Train.{Train}
use Rattle.rail_base.specs.Admission.{is_name}
use Rattle.rail_base.specs.Admitted.{IsAdmitted}
use Rattle.rail_base.specs.Members.{In}
use Rattle.rail_base.proofs.Lists.{in_map, in_map_back}
use Rattle.rail_base.proofs.Members.{list_all_at}
use Rattle.infra_reader.specs.Design.{design_of}
use Rattle.infra_reader.specs.Names.{names_of, section_names}
use Rattle.infra_reader.specs.Spelling.{IsSpelled}
use Rattle.infra_reader.specs.Stations.{node_in, signal_in, vehicle_in, train_in, station_of}
use Rattle.infra_reader.proofs.Reading.{spelled_admitted}
use Rattle.infra_reader.proofs.Spelling.{is_spelled}
use Rattle.rail_spelling.specs.Designs.{Spells}
use Rattle.rail_spelling.specs.Laws.{DesignsAreSpelled, SpelledDesignsAreOne, PlansAreSpelled, SpelledPlansAreOne}
use Rattle.rail_spelling.proofs.Once.{same_once}
use Rattle.rail_spelling.proofs.One.{IsNamed, one_design}
use Rattle.rail_spelling.proofs.Plans.{plan_spelled, spelled_plan_one}
use Rattle.rail_spelling.proofs.Reading.{table_read, document_read}
use Rattle.rail_spelling.proofs.Sections.{once_back}
use Rattle.rail_spelling.proofs.Spelled.{spelled}

-- ---- names are not empty

not_empty : (names : List (List ℕ)) (name : List ℕ) → list_all is_name names ≡ true → In name names → name ≡ [] → ⊥
not_empty names name h m e = true≢false (sym (subst (λ n. is_name n ≡ true) e (list_all_at is_name names name h m)))

-- the same of entries that are made of others
made_named : {P X : Type 0} (name : X → List ℕ) (make : P → X) (parsed : P → List ℕ) (ps : List P) → ((p : P) → name (make p) ≡ parsed p) → list_all is_name (map parsed ps) ≡ true
    → (x : X) → In x (map make ps) → name x ≡ [] → ⊥
made_named name make parsed ps same h x m e =
    let p = in_map_back make ps x m in
    not_empty (map parsed ps) (parsed p.0) h (in_map parsed ps p.0 p.1) (sym (same p.0) ∙ subst (λ x. name (make p.0) ≡ name x) p.2 refl ∙ e)

station_named : (s : ParsedSheet) → IsSpelled s → IsNamed (station_of s)
station_named s named = record {
  nodes = made_named (λ (n : Node). n.name) (node_in (names_of s)) (λ (n : ParsedNode). n.name) s.nodes (λ p. refl) named.nodes;
  sections = λ name m. not_empty (section_names s) name named.sections (once_back (section_names s) name (subst (In name) (same_once (section_names s)) m));
  signals = made_named (λ (q : Signal). q.name) (signal_in (names_of s)) (λ (q : ParsedSignal). q.name) s.signals (λ p. refl) named.signals;
  vehicles = made_named (λ (v : Vehicle). v.name) (vehicle_in (names_of s)) (λ (v : ParsedVehicle). v.name) s.vehicles (λ p. refl) named.vehicles;
  trains = made_named (λ (t : Train). t.name) (train_in (names_of s)) (λ (t : ParsedTrain). t.name) s.trains (λ p. refl) named.trains;
}

-- ---- the laws

design_named : (bytes : List ℕ) (d : Station) → design_of bytes ≡ Ok d → IsNamed d
design_named bytes d e =
    let file = table_read (toml_of bytes) d e in
    subst IsNamed file.station (station_named (sheet_of file.keys) (is_spelled file.keys file.forms))

pub designs_spelled : DesignsAreSpelled
designs_spelled bytes d e =
    let file = table_read (toml_of bytes) d e in
    let read = document_read bytes file.keys file.there in
    let good = subst IsAdmitted (sym file.station) (spelled_admitted bytes d e) in
    subst (Spells bytes) file.station (spelled file.keys good bytes read.0 read.1 file.forms file.ranges)

pub spelled_one : SpelledDesignsAreOne
spelled_one bytes d other e spells = sym (one_design bytes d other (design_named bytes d e) (spelled_admitted bytes d e) (designs_spelled bytes d e) spells)

pub plans_spelled : PlansAreSpelled
plans_spelled d routes bytes plan e = plan_spelled d routes bytes plan e

pub spelled_plans_one : SpelledPlansAreOne
spelled_plans_one file d e routes bytes plan other read spells = spelled_plan_one d routes (design_named file d e) (spelled_admitted file d e) bytes plan other read spells

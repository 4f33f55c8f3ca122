-- What a document is in which nothing is refused.
use Rattle.std.proofs.Common.{◌≡◌, ℕ, true, false, Bool, List, [], ◌∷◌, Option, Some, None, Result, Ok, if◌then◌else◌, refl}
use Rattle.std.specs.Str.{is_utf8}
use Rattle.toml.specs.Data.{Members}
use Rattle.toml.specs.Parse.{parse_document}
use Rattle.design_table.specs.declared.fault.Code.{Code}
use Rattle.design_table.specs.declared.fault.Code.TheVariants.{D02, D03, D04, D05, D06, D07, D08, D09, D10, D11}
use Rattle.design_table.specs.declared.place.Place.{Place}
use Rattle.design_table.specs.Reads.{unless_at}
use Rattle.design_table.specs.Sheet.{sheet_of, form_fault}
use Rattle.design_table.specs.Toml.{toml_of}
use Rattle.rail_base.specs.declared.station.Station.{Station}
use Rattle.infra_reader.specs.Design.{ruled, resolved, parsed_by}
use Rattle.infra_reader.specs.Limits.{out_of_range}
use Rattle.infra_reader.specs.Names.{repeated_names}
use Rattle.infra_reader.specs.Stations.{station_of}
use Rattle.infra_reader.specs.Track.{crowded, open_boundaries, misplaced_signals}
use Rattle.infra_reader.specs.Traffic.{zeros, inner_starts, missing_visits}
use Rattle.infra_reader.specs.Unknown.{unknown_names}

-- a table in which all forms are right and all numbers in range, and the design that it is
pub record IsTableOf (document : Option Members) (d : Station) : Type 0 where
  pub keys : Members
  pub there : document ≡ Some keys
  pub forms : form_fault keys ≡ []
  pub ranges : out_of_range (sheet_of keys) ≡ []
  pub station : station_of (sheet_of keys) ≡ d

-- no place is refused, and the rest is read
passes_on : (code : Code) (places : List Place) (next : Result Station (Code × Place)) (d : Station) → unless_at code places next ≡ Ok d → (places ≡ []) × (next ≡ Ok d)
passes_on code [] next d e = (refl, e)
passes_on code (p ∷ ps) next d e = absurd (cc)

ruled_same : (s d : Station) → ruled s ≡ Ok d → s ≡ d
ruled_same s d e =
    let h7 = passes_on D06 (crowded s) _ d e in
    let h8 = passes_on D07 (open_boundaries s) _ d h7.1 in
    let h9 = passes_on D08 (misplaced_signals s) _ d h8.1 in
    let h10 = passes_on D09 (zeros s) _ d h9.1 in
    let h11 = passes_on D10 (inner_starts s) _ d h10.1 in
    let one : Ok s ≡ Ok d = (passes_on D11 (missing_visits s) _ d h11.1).1 in
    cc

pub table_read : (document : Option Members) (d : Station) → parsed_by document ≡ Ok d → IsTableOf document d
table_read None d e = absurd (cc)
table_read (Some keys) d e =
    let s = sheet_of keys in
    let h3 = passes_on D02 (form_fault keys) (resolved s) d e in
    let h4 = passes_on D03 (repeated_names s) _ d h3.1 in
    let h5 = passes_on D04 (unknown_names s) _ d h4.1 in
    let h6 = passes_on D05 (out_of_range s) (ruled (station_of s)) d h5.1 in
    record { keys = keys; there = refl; forms = h3.0; ranges = h6.0; station = ruled_same (station_of s) d h6.1 }

-- the bytes are a document in UTF-8
pub document_read : (bytes : List ℕ) (keys : Members) → toml_of bytes ≡ Some keys → (is_utf8 bytes ≡ true) × (parse_document bytes ≡ Some keys)
unfolding toml_of
document_read bytes keys e = go (is_utf8 bytes) refl e
  where
    go : (b : Bool) → is_utf8 bytes ≡ b → (if b then parse_document bytes else None) ≡ Some keys → (is_utf8 bytes ≡ true) × (parse_document bytes ≡ Some keys)
    go true u k = (u, k)
    go false u k = absurd (cc)

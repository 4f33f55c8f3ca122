-- What the readers of the parts give together.
use Rattle.std.specs.Prelude.{⊤, OnOk, IfErr}
use Rattle.std.proofs.Common.{◌≡◌, ℕ, true, List, [], ◌++◌, Some, Result, Ok, Err, sym, ap, subst, ◌∙◌}
use Rattle.toml.specs.Data.{Members}
use Rattle.design_table.specs.declared.fault.Code.{Code}
use Rattle.design_table.specs.declared.fault.Code.TheVariants.{D02, D03, D04, D05, D06, D07, D08, D09, D10, D11}
use Rattle.design_table.specs.declared.fault.DesignFault.{DesignFault}
use Rattle.design_table.specs.declared.place.Place.{Place}
use Rattle.design_table.specs.Reads.{Fails, ReadsOrRefuses, unless_at, Refuses, GivesOrRefuses}
use Rattle.design_table.specs.Sheet.{sheet_of, form_fault}
use Rattle.design_table.specs.Parsed.{ParsedSheet}
use Rattle.design_table.specs.Toml.{toml_of}
use Rattle.rail_base.specs.declared.station.Station.{Station}
use Rattle.rail_base.specs.declared.design.Design.{Design}
use Rattle.rail_base.specs.Admission.{is_admitted}
use Rattle.infra_reader.specs.Names.{Names, names_of, repeated_names}
use Rattle.infra_reader.specs.Unknown.{track_unknown, traffic_unknown, unknown_names}
use Rattle.infra_reader.specs.Limits.{out_of_range}
use Rattle.infra_reader.specs.Stations.{station_in, station_of}
use Rattle.infra_reader.specs.Track.{crowded, open_boundaries, misplaced_signals}
use Rattle.infra_reader.specs.Traffic.{zeros, inner_starts, missing_visits}
use Rattle.infra_reader.specs.Keeping.{KeepsRules}
use Rattle.infra_reader.specs.Spelling.{IsSpelled}
use Rattle.infra_reader.specs.Design.{ruled, resolved, parsed_by, design_of}
use Rattle.infra_reader.proofs.Phases.{unless_later, refuses_now, refuses_later}
use Rattle.infra_reader.proofs.Admitted.{admitted}

-- ---- the rules on a station

module _ (d : Station) where
  abbrev Reading : Type 0
  Reading = Result Station (Code × Place)

  abbrev from_d11 : Reading
  from_d11 = unless_at D11 (missing_visits d) (Ok d)

  abbrev from_d10 : Reading
  from_d10 = unless_at D10 (inner_starts d) from_d11

  abbrev from_d09 : Reading
  from_d09 = unless_at D09 (zeros d) from_d10

  abbrev from_d08 : Reading
  from_d08 = unless_at D08 (misplaced_signals d) from_d09

  abbrev from_d07 : Reading
  from_d07 = unless_at D07 (open_boundaries d) from_d08

  pub last_rule : (r : Result ⊤ DesignFault) → crowded d ≡ [] → open_boundaries d ≡ [] → misplaced_signals d ≡ [] → zeros d ≡ [] → inner_starts d ≡ [] → ReadsOrRefuses (λ x. x) r D11 (missing_visits d) tt
      → OnOk r (KeepsRules d) × IfErr r (λ fault. Refuses fault (ruled d))
  last_rule (Ok x) h6 h7 h8 h9 h10 h = (record { crowds = h6; ends = h7; signals = h8; moves = h9; starts = h10; visits = h.0 }, tt)
  last_rule (Err e) h6 h7 h8 h9 h10 h =
      (tt, refuses_later e D06 (crowded d) from_d07 h6 (refuses_later e D07 (open_boundaries d) from_d08 h7 (refuses_later e D08 (misplaced_signals d) from_d09 h8 (refuses_later e D09 (zeros d) from_d10 h9 (refuses_later e D10 (inner_starts d) from_d11 h10 (refuses_now e D11 (missing_visits d) (Ok d) h))))))

  rules_kept : KeepsRules d → ruled d ≡ Ok d
  rules_kept k =
      unless_later D06 (crowded d) from_d07 k.crowds ∙ unless_later D07 (open_boundaries d) from_d08 k.ends ∙ unless_later D08 (misplaced_signals d) from_d09 k.signals
      ∙ unless_later D09 (zeros d) from_d10 k.moves ∙ unless_later D10 (inner_starts d) from_d11 k.starts ∙ unless_later D11 (missing_visits d) (Ok d) k.visits

-- ---- the names of a sheet, and its station

module _ (s : ParsedSheet) (names : Names) (same : names ≡ names_of s) where
  pub known_names : track_unknown names s ++ traffic_unknown names s ≡ [] → unknown_names s ≡ []
  known_names h = subst (λ n. track_unknown n s ++ traffic_unknown n s ≡ []) same h

  pub unknown_fails : (e : DesignFault) → Fails e D04 (track_unknown names s ++ traffic_unknown names s) → Fails e D04 (unknown_names s)
  unknown_fails e h = subst (λ n. Fails e D04 (track_unknown n s ++ traffic_unknown n s)) same h

  pub own_station : (d : Station) → d ≡ station_in names s → d ≡ station_of s
  own_station d e = e ∙ ap (λ n. station_in n s) same

-- ---- the rules on a sheet

module _ (s : ParsedSheet) (d03 : repeated_names s ≡ []) where
  abbrev from_d05 : Result Station (Code × Place)
  from_d05 = unless_at D05 (out_of_range s) (ruled (station_of s))

  abbrev from_d04 : Result Station (Code × Place)
  from_d04 = unless_at D04 (unknown_names s) from_d05

  pub refused_d04 : (e : DesignFault) → Fails e D04 (unknown_names s) → Refuses e (resolved s)
  refused_d04 e h = refuses_later e D03 (repeated_names s) from_d04 d03 (refuses_now e D04 (unknown_names s) from_d05 h)

  module _ (d04 : unknown_names s ≡ []) where
    pub refused_d05 : (e : DesignFault) → Fails e D05 (out_of_range s) → Refuses e (resolved s)
    refused_d05 e h = refuses_later e D03 (repeated_names s) from_d04 d03 (refuses_later e D04 (unknown_names s) from_d05 d04 (refuses_now e D05 (out_of_range s) (ruled (station_of s)) h))

    module _ (d05 : out_of_range s ≡ []) (d : Station) (own : d ≡ station_of s) where
      on_station : resolved s ≡ ruled d
      on_station =
          unless_later D03 (repeated_names s) from_d04 d03 ∙ unless_later D04 (unknown_names s) from_d05 d04 ∙ unless_later D05 (out_of_range s) (ruled (station_of s)) d05 ∙ ap ruled (sym own)

      pub refused_by_rules : (e : DesignFault) → Refuses e (ruled d) → Refuses e (resolved s)
      refused_by_rules e h = subst (λ reading. Refuses e reading) (sym on_station) h

      pub resolved_to : KeepsRules d → resolved s ≡ Ok d
      resolved_to k = on_station ∙ rules_kept d k

      pub is_own_admitted : IsSpelled s → KeepsRules d → is_admitted d ≡ true
      is_own_admitted named k =
          let k : KeepsRules (station_of s) = subst KeepsRules own k in
          subst (λ d. is_admitted d ≡ true) (sym own) (admitted s named d03 d04 d05 k.crowds k.ends k.signals k.moves k.starts k.visits)

-- ---- the whole document

module _ (bytes : List ℕ) (ms : Members) (s : ParsedSheet) (document : toml_of bytes ≡ Some ms) (d02 : form_fault ms ≡ []) (parsed : s ≡ sheet_of ms) where
  pub gives_design : (r : Result Design DesignFault) → GivesOrRefuses (λ d. d.station) r (resolved s) → GivesOrRefuses (λ d. d.station) r (design_of bytes)
  gives_design r h =
      subst (λ reading. GivesOrRefuses (λ d. d.station) r reading) (ap resolved parsed ∙ sym (unless_later D02 (form_fault ms) (resolved (sheet_of ms)) d02) ∙ ap parsed_by (sym document)) h

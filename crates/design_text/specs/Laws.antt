-- What the text of a design is read as.
use Rattle.std.specs.Prelude.{◌≡◌, ◌≤◌, true, length, Ok}
use Rattle.infra_reader.specs.Design.{design_of}
use Rattle.rail_base.specs.Admission.{is_admitted}
use Rattle.rail_base.specs.declared.station.Station.{Station}
use Rattle.design_text.specs.Texts.{design_text}

-- the text of each admitted design spells that design
abbrev pub TextsReadBack : Type 0
TextsReadBack = (d : Station) → is_admitted d ≡ true → design_of (design_text d) ≡ Ok d

-- it has no more bytes than the file of a design may have
abbrev pub TextsAreShort : Type 0
TextsAreShort = (d : Station) → is_admitted d ≡ true → length (design_text d) ≤ 8388608

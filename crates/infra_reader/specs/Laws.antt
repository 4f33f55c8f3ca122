-- What follows of what is read.
use Rattle.std.specs.Prelude.{◌≡◌, ℕ, List, Ok}
use Rattle.rail_base.specs.declared.station.Station.{Station}
use Rattle.rail_base.specs.Admitted.{IsAdmitted}
use Rattle.infra_reader.specs.Design.{design_of}

-- a design in bytes is admitted
abbrev pub ParsedAreAdmitted : Type 0
ParsedAreAdmitted = (bytes : List ℕ) (d : Station) → design_of bytes ≡ Ok d → IsAdmitted d

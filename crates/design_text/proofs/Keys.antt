-- Each key is written bare.
use Rattle.std.proofs.Common.{◌≡◌, refl}
use Rattle.design_table.specs.declared.key.Key.{Key}
use Rattle.design_table.specs.declared.key.Key.TheVariants as keys
use Rattle.design_table.specs.Keys.{key_text}
use Rattle.toml_writer.specs.Text.{key_text as written_key}

pub bare : (k : Key) → written_key (key_text k) ≡ key_text k
unfolding written_key
bare keys.Version = refl
bare keys.TickMs = refl
bare keys.HorizonMs = refl
bare keys.Node = refl
bare keys.Edge = refl
bare keys.Signal = refl
bare keys.Vehicle = refl
bare keys.Train = refl
bare keys.Order = refl
bare keys.Within = refl
bare keys.Overlap = refl
bare keys.Name = refl
bare keys.Boundary = refl
bare keys.From = refl
bare keys.FromSide = refl
bare keys.To = refl
bare keys.ToSide = refl
bare keys.LengthMm = refl
bare keys.SpeedMmS = refl
bare keys.Section = refl
bare keys.Toward = refl
bare keys.AccelMmS2 = refl
bare keys.BrakeMmS2 = refl
bare keys.Visits = refl
bare keys.DwellMs = refl
bare keys.FirstTrain = refl
bare keys.FirstVisit = refl
bare keys.ThenTrain = refl
bare keys.ThenVisit = refl
bare keys.FromTrain = refl
bare keys.FromVisit = refl
bare keys.ToTrain = refl
bare keys.ToVisit = refl
bare keys.MaxMs = refl
bare keys.Sections = refl
bare keys.HoldMs = refl

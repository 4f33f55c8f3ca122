-- What the code that makes the names owes.
use Rattle.std.specs.Prelude.{ℕ, List, IsUtf8}
use Rattle.rail_base.specs.declared.station.Station.{Station}
use Rattle.rail_base.specs.declared.station.EdgeNo.{EdgeNo}
use Rattle.rail_base.specs.Members.{In}
use Rattle.rail_base.specs.Stations.{IsEdge}

-- edges have these numbers
abbrev pub AreEdges : Station → List EdgeNo → Type 0
AreEdges d es = (e : EdgeNo) → In e es → IsEdge d e

-- all of them are UTF-8
abbrev pub AreTexts : List (List ℕ) → Type 0
AreTexts names = (name : List ℕ) → In name names → IsUtf8 name

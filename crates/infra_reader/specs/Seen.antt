-- What the values of the code stand for.
use Rattle.design_table.specs.Texts.{texts}
use Rattle.infra_reader.specs.declared.names.Names.{Names as CodeNames}
use Rattle.infra_reader.specs.Names.{Names}
use Rattle.infra_reader.specs.declared.limits.Limit.{Limit as CodeLimit}
use Rattle.infra_reader.specs.Limits.{Limit, limit}

-- the names that a set of them holds, in its order
abbrev pub names_seen : CodeNames → Names
names_seen n = record {
  nodes = texts n.nodes.keys;
  sections = texts n.sections.keys;
  signals = texts n.signals.keys;
  vehicles = texts n.vehicles.keys;
  trains = texts n.trains.keys;
}

-- the numbers at a key, and which are allowed
abbrev pub limit_seen : CodeLimit → Limit
limit_seen l = limit l.key l.least l.greatest l.numbers.now

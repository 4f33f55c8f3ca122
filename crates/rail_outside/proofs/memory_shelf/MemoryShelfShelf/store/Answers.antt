use Rattle.std.proofs.Common.{Some, ap}
use Rattle.rail_outside.specs.Files.{Files}
use Rattle.rail_outside.specs.MemoryShelves.{known_files_by}
use Rattle.rail_outside.proofs.Kept.{updated-kept}
use Rattle.rail_outside.proofs.memory_shelf.MemoryShelfShelf.store.Goals as goal

pub returns-then-fails_next-clause-leaves : goal.returns-then-fails_next-clause-leaves
returns-then-fails_next-clause-leaves c =
    let files : Files = known_files_by c.args.self.now in
    (files c.args.name.now, ap (λ (f : Files). Some f) (updated-kept files c.args.name.now))

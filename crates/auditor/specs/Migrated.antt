-- Dumps of format 1 that are written in format 2.
use Rattle.std.specs.Prelude.{◌≡◌, ℕ, List, None}
use Rattle.dump_text.specs.Boot.{migrated}
use Rattle.dump_text.specs.Dump.{IsDump}
use Rattle.dump_text.specs.Lists.{DumpLists}

-- the bytes are a dump of format 1, and these are the same dump in format 2
abbrev pub IsMigrated : List ℕ → List ℕ → Type 0
IsMigrated bytes file =
    (d : DumpLists) × (d.checkpoint ≡ None) × IsDump bytes d × IsDump file (migrated d)

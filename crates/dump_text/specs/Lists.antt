-- What a dump has, as lists.
use Rattle.std.specs.Prelude.{ℕ, List, Option}
use Rattle.base.specs.declared.ranges.Limits.{Limits}
use Rattle.checkpoints.specs.Checkpoint.{Checkpoint}
use Rattle.kernel_rules.specs.Events.{Event}
use Rattle.kernel_rules.specs.declared.tables.Used.{Used}
use Rattle.kernel_rules.specs.declared.tables.Shown.{Shown}
use Rattle.dump_text.specs.declared.tables.PlacedRead.{PlacedRead}
use Rattle.dump_text.specs.declared.tables.Stored.{Stored}
use Rattle.kernel_rules.specs.declared.tables.Compared.{Compared}

-- the tables
pub record TableLists : Type 0 where
  pub live : List ℕ
  pub uses : List Used
  pub maps : List Shown
  pub labels : List Stored
  pub orders : List Compared

-- the limits, the checkpoint, which format 1 has none of, the events, the reads among them and the tables
pub record DumpLists : Type 0 where
  pub limits : Limits
  pub checkpoint : Option Checkpoint
  pub events : List Event
  pub reads : List PlacedRead
  pub tables : TableLists

-- the dump with these parts
abbrev pub dump_with : Limits → Option Checkpoint → List Event → List PlacedRead → TableLists → DumpLists
dump_with limits checkpoint events reads tables = record {
  limits = limits;
  checkpoint = checkpoint;
  events = events;
  reads = reads;
  tables = tables;
}

-- The checkpoint of a boot, and the dumps of format 1 as dumps of format 2.
use Rattle.std.specs.Prelude.{◌≡◌, ℕ, false, List, [], ◌∷◌, replicate, Option, Some, None, Result, Ok, Err}
use Rattle.std.specs.Global.{Vec}
use Rattle.base.specs.Sets.{no_kind}
use Rattle.base.specs.declared.levels.Level.{Level}
use Rattle.base.specs.declared.levels.Level.TheVariants.{L1, L2, L3}
use Rattle.base.specs.declared.ranges.Limits.{Limits}
use Rattle.call_text.specs.Text.{FaultsAt}
use Rattle.checkpoints.specs.Checkpoint.{Checkpoint}
use Rattle.checkpoints.specs.declared.checkpoints.RawBody.{RawBody}
use Rattle.checkpoints.specs.declared.checkpoints.RawBody.TheVariants as bodies
use Rattle.checkpoints.specs.declared.checkpoints.Recorded.{Recorded}
use Rattle.label_lattice.specs.declared.raw_labels.RawLabel.{RawLabel}
use Rattle.dump_text.specs.declared.lines.Format.TheVariants as formats
use Rattle.dump_text.specs.declared.lines.Line.{Line}
use Rattle.dump_text.specs.declared.lines.Line.TheVariants as lines
use Rattle.dump_text.specs.declared.migrating.MigrateFault.{MigrateFault}
use Rattle.dump_text.specs.declared.migrating.MigrateFault.TheVariants as faults
use Rattle.dump_text.specs.declared.places.Place.{Place}
use Rattle.dump_text.specs.Dump.{IsDump, next, ends, start}
use Rattle.dump_text.specs.Line.{line_text, IsLine}
use Rattle.dump_text.specs.Lists.{DumpLists}

-- a label of one level
abbrev pub plain_label : Level → RawLabel
plain_label level = record { default = level; pairs = [] }

-- metadata that nobody set
abbrev pub no_metadata : List ℕ
no_metadata = replicate 64 0

-- an object of the boot
abbrev pub boot_object : ℕ → Level → ℕ → RawBody → Recorded
boot_object id level quota body = record {
  id = id;
  object = record { label = plain_label level; quota = quota; fixed = false; body = body };
}

-- the boot thread, whose address space is none
abbrev pub boot_thread : RawBody
boot_thread = bodies.Thread (record {
  clearance = plain_label L2;
  verify = plain_label L3;
  space = record { container = 0; object = 0 };
  entry_point = 0;
  closure = 0;
})

-- the root 1, which lists the boot thread 2 and the device 3
abbrev pub boot_checkpoint : Limits → Checkpoint
boot_checkpoint l = record {
  next_id = l.next_id;
  next_category = l.next_category;
  objects =
      boot_object 1 L1 l.pages
      (bodies.Container (record { immutable = false; metadata = no_metadata }) no_kind (2 ∷ 3 ∷ []))
      ∷ boot_object 2 L1 1 boot_thread
      ∷ boot_object 3 l.device 2 (bodies.Device no_metadata [])
      ∷ [];
  next = [];
}

-- the same dump in format 2, whose events begin at the checkpoint of the boot. Format 1 has no reads
abbrev pub migrated : DumpLists → DumpLists
migrated d = record {
  limits = d.limits;
  checkpoint = Some (boot_checkpoint d.limits);
  events = d.events;
  reads = [];
  tables = d.tables;
}

-- where a dump stands after one more line, if format 1 is the only one
abbrev pub first_next : Place → Line → Option Place
first_next p (lines.Version formats.Two) = None
first_next p (lines.Version formats.One) = next p (lines.Version formats.One)
first_next p l = next p l

-- line n is the first at which the bytes stop being the beginning of a dump of format 1
abbrev pub FirstFormatFaultsAt : List ℕ → ℕ → Type 0
FirstFormatFaultsAt bytes n = FaultsAt line_text IsLine first_next ends start bytes n

-- where the fault is a line, the bytes stop there
abbrev pub TellsFirst : List ℕ → MigrateFault → Type 0
TellsFirst bytes faults.Memory = Unit {0}
TellsFirst bytes (faults.NotFormat1 n) = FirstFormatFaultsAt bytes n

-- The dump of format 1 that the bytes spell, as a dump of format 2. Or the line at which they are none of format 1. Where
-- memory ran out nothing is told.
abbrev pub Migrates : List ℕ → Result (Vec ℕ) MigrateFault → Type 0
Migrates bytes (Ok out) =
    (d : DumpLists) × (d.checkpoint ≡ None) × IsDump bytes d × IsDump out.items (migrated d)
Migrates bytes (Err fault) = TellsFirst bytes fault

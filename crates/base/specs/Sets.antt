-- Sets of rights and of kinds.
use Rattle.std.specs.Prelude.{Bool, true, false, ◌||◌}
use Rattle.base.specs.declared.kinds.Kind.{Kind}
use Rattle.base.specs.declared.kinds.Kind.TheVariants.{Container, Segment, AddressSpace, Thread}
use Rattle.base.specs.declared.kinds.Kind.TheVariants.{Gate, Device}
use Rattle.base.specs.declared.sets.Rights.{Rights}
use Rattle.base.specs.declared.sets.TypeSet.{TypeSet}

-- no kind
abbrev pub no_kind : TypeSet
no_kind = record {
  container = false;
  segment = false;
  address_space = false;
  thread = false;
  gate = false;
  device = false;
}

-- one kind
abbrev pub only : Kind → TypeSet
only Container = record no_kind { container = true }
only Segment = record no_kind { segment = true }
only AddressSpace = record no_kind { address_space = true }
only Thread = record no_kind { thread = true }
only Gate = record no_kind { gate = true }
only Device = record no_kind { device = true }

-- whether a kind is in the set
abbrev pub has_kind : TypeSet → Kind → Bool
has_kind kinds Container = kinds.container
has_kind kinds Segment = kinds.segment
has_kind kinds AddressSpace = kinds.address_space
has_kind kinds Thread = kinds.thread
has_kind kinds Gate = kinds.gate
has_kind kinds Device = kinds.device

-- the kinds of either set
abbrev pub union : TypeSet → TypeSet → TypeSet
union a b = record {
  container = a.container || b.container;
  segment = a.segment || b.segment;
  address_space = a.address_space || b.address_space;
  thread = a.thread || b.thread;
  gate = a.gate || b.gate;
  device = a.device || b.device;
}

-- whether reading is among the rights
abbrev pub may_read : Rights → Bool
may_read rights = rights.read

-- whether writing is among the rights
abbrev pub may_write : Rights → Bool
may_write rights = rights.write

-- no right
abbrev pub no_right : Rights
no_right = record { read = false; write = false }

-- the rights without writing
abbrev pub reading : Rights → Rights
reading rights = record { read = rights.read; write = false }

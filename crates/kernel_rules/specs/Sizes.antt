-- How much there is of what.
use Rattle.std.specs.Prelude.{ℕ}

-- the bytes of a page
abbrev pub page_bytes : ℕ
page_bytes = 256

-- the pages of a segment at most, and of a mapping
abbrev pub most_pages : ℕ
most_pages = 16

-- the slots of an address space
abbrev pub slot_count : ℕ
slot_count = 16

-- the last of them, from 0
abbrev pub last_slot : ℕ
last_slot = 15

-- the virtual pages of an address space
abbrev pub page_limit : ℕ
page_limit = 65536

-- the bytes that a call carries at most, those of a packet, and those of metadata
abbrev pub most_bytes : ℕ
most_bytes = 64

-- the packets of a device at most
abbrev pub most_packets : ℕ
most_packets = 4

-- the ids of a list that one reply tells at most
abbrev pub most_told : ℕ
most_told = 16

-- the exceptions of a stored label at most
abbrev pub most_exceptions : ℕ
most_exceptions = 16

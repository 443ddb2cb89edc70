-- The words of a request: what a call names, beside labels.
use Rattle.std.specs.Prelude.{ℕ, ℤ, ◌/◌, ◌%◌, ◌^◌, ◌==◌, List, Bool, Option, Some, None, option_map, nat_lt, nat_le}
use Rattle.std.specs.Prelude.{slice_index, take, if◌then◌else◌}
use Rattle.std.specs.Int.{cast_signed, w32}
use Rattle.base.specs.declared.sets.Rights.{Rights}
use Rattle.base.specs.declared.sets.TypeSet.{TypeSet}
use Rattle.kernel_rules.specs.declared.calls.Entry.{Entry}
use Rattle.call_records.specs.declared.records.Request.{Request}

-- the first entry
abbrev pub entry_of : Request → Entry
entry_of r = record { container = r.container; object = r.object }

-- the second entry
abbrev pub other_of : Request → Entry
other_of r = record { container = r.other_container; object = r.other_object }

-- a number of any size
abbrev pub wide_at : Request → ℕ → ℕ
wide_at r k = slice_index r.numbers k

-- a number, if it has 32 bits
abbrev pub number_at : Request → ℕ → Option ℕ
number_at r k = if nat_lt (wide_at r k) (2 ^ 32) then Some (wide_at r k) else None

-- a number, if it has 16 bits
abbrev pub index_at : Request → ℕ → Option ℕ
index_at r k = if nat_lt (wide_at r k) (2 ^ 16) then Some (wide_at r k) else None

-- a signed number: 32 bits in two's complement
abbrev pub signed_at : Request → ℕ → Option ℤ
signed_at r k = option_map (cast_signed w32) (number_at r k)

-- bit k of a set is there
abbrev pub has_bit : ℕ → ℕ → Bool
has_bit n k = n / 2 ^ k % 2 == 1

-- a set of kinds: six bits, in the order of the kinds
abbrev pub kinds_of : ℕ → Option TypeSet
kinds_of n =
    if nat_lt n 64
    then Some (record {
      container = has_bit n 0;
      segment = has_bit n 1;
      address_space = has_bit n 2;
      thread = has_bit n 3;
      gate = has_bit n 4;
      device = has_bit n 5;
    })
    else None

-- rights: a bit to read, and one to write
abbrev pub rights_of : ℕ → Option Rights
rights_of n =
    if nat_lt n 4 then Some (record { read = has_bit n 0; write = has_bit n 1 }) else None

-- the bytes, if there are at most 64
abbrev pub bytes_of : Request → Option (List ℕ)
bytes_of r = if nat_le r.len 64 then Some (take r.len r.bytes) else None

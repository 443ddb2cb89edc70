-- The lines of a checkpoint, and what its lines tell one by one.
use Rattle.std.specs.Prelude.{ℕ, ◌+◌, ◌/◌, List, [], ◌∷◌, ◌++◌, map, length, take, drop, Option, Some, None, zero, suc}
use Rattle.std.specs.List.{flat_map}
use Rattle.checkpoints.specs.Checkpoint.{Checkpoint}
use Rattle.checkpoints.specs.declared.checkpoints.NextNumber.{NextNumber}
use Rattle.checkpoints.specs.declared.checkpoints.RawBody.{RawBody}
use Rattle.checkpoints.specs.declared.checkpoints.RawBody.TheVariants as bodies
use Rattle.checkpoints.specs.declared.checkpoints.RawObject.{RawObject}
use Rattle.checkpoints.specs.declared.checkpoints.Recorded.{Recorded}
use Rattle.checkpoints.specs.declared.slot_lists.FilledSlot.{FilledSlot}
use Rattle.dump_text.specs.declared.heads.Common.{Common}
use Rattle.dump_text.specs.declared.heads.Head.{Head}
use Rattle.dump_text.specs.declared.heads.Head.TheVariants as heads
use Rattle.dump_text.specs.declared.lines.Line.{Line}
use Rattle.dump_text.specs.declared.lines.Line.TheVariants as lines
use Rattle.dump_text.specs.declared.state_lines.ObjectHead.{ObjectHead}
use Rattle.dump_text.specs.declared.state_lines.Part.{Part}
use Rattle.dump_text.specs.declared.state_lines.Part.TheVariants as parts
use Rattle.dump_text.specs.declared.state_lines.StateLine.{StateLine}
use Rattle.dump_text.specs.declared.state_lines.StateLine.TheVariants as states

-- so many rows of bytes, of 64 each, the last of them of what is left
abbrev pub rows : ℕ → List ℕ → List (List ℕ)
rows zero bytes = []
rows (suc n) bytes = take 64 bytes ∷ rows n (drop 64 bytes)

-- all bytes in rows
abbrev pub rows_of : List ℕ → List (List ℕ)
rows_of bytes = rows ((length bytes + 63) / 64) bytes

-- what an object of any kind has
abbrev pub common_of : RawObject → Common
common_of x = record { label = x.label; quota = x.quota; fixed = x.fixed }

-- what stands of an object in its own line, by its kind
abbrev pub head_with : Common → RawBody → Head
head_with c (bodies.Container a avoid list) =
    heads.Container (record { common = c; attributes = a; avoid = avoid })
head_with c (bodies.Segment a bytes) =
    heads.Segment (record { common = c; attributes = a; pages = length bytes / 256 })
head_with c (bodies.AddressSpace a slots) =
    heads.AddressSpace (record { common = c; attributes = a })
head_with c (bodies.Thread t) = heads.Thread (record { common = c; thread = t })
head_with c (bodies.Gate a g) = heads.Gate (record { common = c; attributes = a; gate = g })
head_with c (bodies.Device m packets) = heads.Device (record { common = c; metadata = m })

abbrev pub head_of : Recorded → ObjectHead
head_of r = record { id = r.id; head = head_with (common_of r.object) r.object.body }

-- the lines of parts
abbrev pub part_line : Part → Line
part_line p = lines.State (states.Part p)

abbrev pub entry_line : ℕ → Line
entry_line id = part_line (parts.Entry id)

abbrev pub row_line : List ℕ → Line
row_line row = part_line (parts.Row (record { bytes = row }))

abbrev pub slot_line : FilledSlot → Line
slot_line f = part_line (parts.Slot f)

abbrev pub packet_line : List ℕ → Line
packet_line packet = part_line (parts.Packet packet)

-- what stands in the lines after the object's own
abbrev pub part_lines : RawBody → List Line
part_lines (bodies.Container a avoid list) = map entry_line list
part_lines (bodies.Segment a bytes) = map row_line (rows_of bytes)
part_lines (bodies.AddressSpace a slots) = map slot_line slots
part_lines (bodies.Thread t) = []
part_lines (bodies.Gate a g) = []
part_lines (bodies.Device m packets) = map packet_line packets

-- the lines of an object
abbrev pub object_lines : Recorded → List Line
object_lines r = lines.State (states.Object (head_of r)) ∷ part_lines r.object.body

-- the line of a thread's next number
abbrev pub next_line : NextNumber → Line
next_line n = lines.State (states.Next n)

-- the line of the counters
abbrev pub counters_line : Checkpoint → Line
counters_line c =
    lines.State (states.Counters (record {
      next_id = c.next_id;
      next_category = c.next_category;
    }))

-- the lines of a checkpoint: its counters, its objects, and the next numbers
abbrev pub checkpoint_lines : Checkpoint → List Line
checkpoint_lines c =
    counters_line c ∷ (flat_map object_lines c.objects ++ map next_line c.next)

-- its lines, where there is one
abbrev pub start_lines : Option Checkpoint → List Line
start_lines None = []
start_lines (Some c) = checkpoint_lines c

-- an object of which no part was told yet
abbrev pub begun_body : Head → RawBody
begun_body (heads.Container h) = bodies.Container h.attributes h.avoid []
begun_body (heads.Segment h) = bodies.Segment h.attributes []
begun_body (heads.AddressSpace h) = bodies.AddressSpace h.attributes []
begun_body (heads.Thread h) = bodies.Thread h.thread
begun_body (heads.Gate h) = bodies.Gate h.attributes h.gate
begun_body (heads.Device h) = bodies.Device h.metadata []

abbrev pub common_in : Head → Common
common_in (heads.Container h) = h.common
common_in (heads.Segment h) = h.common
common_in (heads.AddressSpace h) = h.common
common_in (heads.Thread h) = h.common
common_in (heads.Gate h) = h.common
common_in (heads.Device h) = h.common

abbrev pub recorded : ℕ → Common → RawBody → Recorded
recorded id c body = record {
  id = id;
  object = record { label = c.label; quota = c.quota; fixed = c.fixed; body = body };
}

abbrev pub begun : ObjectHead → Recorded
begun o = recorded o.id (common_in o.head) (begun_body o.head)

-- with one more id that it lists
abbrev pub with_entry : ℕ → RawBody → RawBody
with_entry id (bodies.Container a avoid list) = bodies.Container a avoid (list ++ id ∷ [])
with_entry id body = body

-- with more bytes
abbrev pub with_row : List ℕ → RawBody → RawBody
with_row row (bodies.Segment a bytes) = bodies.Segment a (bytes ++ row)
with_row row body = body

-- with one more filled slot
abbrev pub with_slot : FilledSlot → RawBody → RawBody
with_slot slot (bodies.AddressSpace a slots) = bodies.AddressSpace a (slots ++ slot ∷ [])
with_slot slot body = body

-- with one more packet
abbrev pub with_packet : List ℕ → RawBody → RawBody
with_packet packet (bodies.Device m packets) = bodies.Device m (packets ++ packet ∷ [])
with_packet packet body = body

-- with one more part, where it has such
abbrev pub with_part : Part → RawBody → RawBody
with_part (parts.Entry id) body = with_entry id body
with_part (parts.Row r) body = with_row r.bytes body
with_part (parts.Slot f) body = with_slot f body
with_part (parts.Packet d) body = with_packet d body

abbrev pub extended : Part → Recorded → Recorded
extended p r = record {
  id = r.id;
  object = record {
    label = r.object.label;
    quota = r.object.quota;
    fixed = r.object.fixed;
    body = with_part p r.object.body;
  };
}

-- with one more part of the last object
abbrev pub with_last : Part → List Recorded → List Recorded
with_last p [] = []
with_last p (r ∷ []) = extended p r ∷ []
with_last p (r ∷ s ∷ rs) = r ∷ with_last p (s ∷ rs)

-- with what one more line tells
abbrev pub with_state : StateLine → Option Checkpoint → Option Checkpoint
with_state (states.Counters x) o = Some (record {
  next_id = x.next_id;
  next_category = x.next_category;
  objects = [];
  next = [];
})
with_state (states.Object h) None = None
with_state (states.Object h) (Some c) = Some (record c { objects = c.objects ++ begun h ∷ [] })
with_state (states.Part p) None = None
with_state (states.Part p) (Some c) = Some (record c { objects = with_last p c.objects })
with_state (states.Next n) None = None
with_state (states.Next n) (Some c) = Some (record c { next = c.next ++ n ∷ [] })

-- The lines of a checkpoint that can be restored: metadata and rows are whole, and pages few.
use Rattle.std.proofs.Common.{◌≡◌, ℕ, ◌≤◌, ◌+◌, ◌*◌, ◌/◌, true, ◌&&◌, ◌==◌, nat_le, List, [], ◌∷◌, ◌++◌, map, length, arith}
use Rattle.std.specs.List.{AllByRecursion, list_all, flat_map}
use Rattle.std.proofs.lemmas.Bool.{and_parts, eqb-true, leb-true}
use Rattle.base.specs.declared.ranges.Limits.{Limits}
use Rattle.kernel_rules.specs.State.{State, lists_of, listed, object_at, use_of}
use Rattle.kernel_rules.specs.WellFormed.{is_well_formed, is_kept, is_whole, is_whole_body, is_stored, is_distinct, is_listed_rightly, listers, ids_rise, are_given}
use Rattle.kernel_rules.specs.declared.objects.Object.{Object}
use Rattle.base.specs.Live.{are_live}
use Rattle.std.specs.Prelude.{nat_lt, is_some}
use Rattle.checkpoints.specs.Checkpoint.{Checkpoint}
use Rattle.checkpoints.specs.Restorable.{is_restorable}
use Rattle.checkpoints.specs.Restored.{restored, object_of, body_of, metadata_of}
use Rattle.checkpoints.specs.declared.checkpoints.NextNumber.{NextNumber}
use Rattle.checkpoints.specs.declared.checkpoints.RawBody.{RawBody}
use Rattle.checkpoints.specs.declared.checkpoints.RawBody.TheVariants as bodies
use Rattle.checkpoints.specs.declared.checkpoints.Recorded.{Recorded}
use Rattle.checkpoints.proofs.Parts.{well_formed}
use Rattle.dump_text.specs.declared.heads.Common.{Common}
use Rattle.dump_text.specs.declared.lines.Line.TheVariants as lines
use Rattle.dump_text.specs.declared.state_lines.Part.{Part}
use Rattle.dump_text.specs.declared.state_lines.Part.TheVariants as parts
use Rattle.dump_text.specs.declared.state_lines.StateLine.TheVariants as states
use Rattle.dump_text.specs.CheckpointLines.{rows_of, head_with, common_of, row_line, next_line, part_line, part_lines, object_lines, checkpoint_lines}
use Rattle.dump_text.specs.Fits.{FitsLine}
use Rattle.dump_text.specs.Head.{IsFull}
use Rattle.dump_text.specs.Line.{IsLine}
use Rattle.dump_text.specs.StateLine.{IsAllowedPart}
use Rattle.dump_text.proofs.Joined.{rows_full}
use Rattle.dump_text.proofs.LabelPlaces.{all_append}
use Rattle.dump_text.proofs.Sequence.{HasPages}

-- an object that is kept is whole
whole_of : (s : State) (o : ℕ) (x : Object) → is_kept s o x ≡ true → is_whole x ≡ true
whole_of s o x h =
    (and_parts (is_distinct (listed x.body) && list_all (λ i. is_some (object_at s i)) (listed x.body)
    && nat_le (use_of s o) x.quota && is_listed_rightly (listers s o) o x) (is_whole x) h).1

kept_whole : (s : State) (rs : List Recorded) → list_all (λ (e : ℕ × Object). is_kept s e.0 e.1) (map {B = ℕ × Object} (λ (r : Recorded). (r.id, object_of r.object)) rs) ≡ true → AllByRecursion (λ (r : Recorded). is_whole (object_of r.object) ≡ true) rs
kept_whole s [] h = tt
kept_whole s (r ∷ rs) h =
    let p = and_parts (is_kept s r.id (object_of r.object)) (list_all (λ (e : ℕ × Object). is_kept s e.0 e.1) (map {B = ℕ × Object} (λ (r : Recorded). (r.id, object_of r.object)) rs)) h in
    (whole_of s r.id (object_of r.object) p.0, kept_whole s rs p.1)

all_kept : (s : State) → is_well_formed s ≡ true → list_all (λ (e : ℕ × Object). is_kept s e.0 e.1) s.objects ≡ true
unfolding is_well_formed
all_kept s h =
    (and_parts (nat_lt 3 s.next_id && are_live (lists_of s.objects) && are_given s && ids_rise s.objects)
    (list_all (λ (e : ℕ × Object). is_kept s e.0 e.1) s.objects) h).1

-- each object of a checkpoint that can be restored is whole
pub objects_whole : (limits : Limits) (c : Checkpoint) → is_restorable limits c ≡ true → AllByRecursion (λ (r : Recorded). is_whole (object_of r.object) ≡ true) c.objects
objects_whole limits c can = kept_whole (restored limits c) c.objects (all_kept (restored limits c) (well_formed limits c can))

-- the parts of an object's being whole
record Whole (b : RawBody) : Type 0 where
  metadata : length (metadata_of b) ≡ 64
  body : is_whole_body (body_of b) ≡ true

whole_parts : (r : Recorded) → is_whole (object_of r.object) ≡ true → Whole r.object.body
whole_parts r h =
    let x = object_of r.object in
    let p = and_parts (is_stored x.label && length x.metadata == 64) (is_whole_body x.body) h in
    let m = and_parts (is_stored x.label) (length x.metadata == 64) p.0 in
    record { metadata = eqb-true (length x.metadata) 64 m.1; body = p.1 }

-- lines of parts of which all are allowed
parts_fit : {X : Type 0} (make : X → Part) → ((x : X) → IsAllowedPart (make x)) → (xs : List X) → AllByRecursion FitsLine (map (λ (x : X). part_line (make x)) xs) → AllByRecursion IsLine (map (λ (x : X). part_line (make x)) xs)
parts_fit make allowed [] fits = tt
parts_fit make allowed (x ∷ xs) fits = ((fits.0, allowed x), parts_fit make allowed xs fits.1)

-- full rows
rows_fit : (rs : List (List ℕ)) → AllByRecursion IsFull rs → AllByRecursion FitsLine (map row_line rs) → AllByRecursion IsLine (map row_line rs)
rows_fit [] full fits = tt
rows_fit (r ∷ rs) full fits = ((fits.0, full.0), rows_fit rs full.1 fits.1)

-- the bytes of a whole segment
record Paged (bytes : List ℕ) : Type 0 where
  whole : length bytes ≡ 256 * (length bytes / 256)
  few : length bytes ≤ 4096

paged : (bytes : List ℕ) → (length bytes == 256 * (length bytes / 256) && nat_le (length bytes) 4096) ≡ true → Paged bytes
paged bytes h =
    let p = and_parts (length bytes == 256 * (length bytes / 256)) (nat_le (length bytes) 4096) h in
    record { whole = eqb-true (length bytes) (256 * (length bytes / 256)) p.0; few = leb-true (length bytes) 4096 p.1 }

pub has_pages : (body : RawBody) → is_whole_body (body_of body) ≡ true → HasPages body
has_pages (bodies.Segment a bytes) h = (paged bytes h).whole
has_pages (bodies.Container a avoid list) h = tt
has_pages (bodies.AddressSpace a slots) h = tt
has_pages (bodies.Thread t) h = tt
has_pages (bodies.Gate a g) h = tt
has_pages (bodies.Device m packets) h = tt

-- the lines of a whole object
body_fit : (id : ℕ) (c : Common) (body : RawBody) → Whole body → AllByRecursion FitsLine (lines.State (states.Object (record { id = id; head = head_with c body })) ∷ part_lines body) → AllByRecursion IsLine (lines.State (states.Object (record { id = id; head = head_with c body })) ∷ part_lines body)
body_fit id c (bodies.Container a avoid list) w fits =
    (record { id = fits.0.0; head = (fits.0.1, w.metadata) }, parts_fit parts.Entry (λ x. tt) list fits.1)
body_fit id c (bodies.Segment a bytes) w fits =
    let p = paged bytes w.body in
    let whole = p.whole in
    let few = p.few in
    let pages : length bytes / 256 ≤ 16 = omega (arith, few) in
    let count : length bytes ≡ 64 * ((length bytes + 63) / 64) = omega (arith, whole) in
    (record { id = fits.0.0; head = (fits.0.1, (pages, w.metadata)) }, rows_fit (rows_of bytes) (rows_full ((length bytes + 63) / 64) bytes count) fits.1)
body_fit id c (bodies.AddressSpace a slots) w fits =
    (record { id = fits.0.0; head = (fits.0.1, w.metadata) }, parts_fit parts.Slot (λ x. tt) slots fits.1)
body_fit id c (bodies.Thread t) w fits = (record { id = fits.0.0; head = (fits.0.1, tt) }, tt)
body_fit id c (bodies.Gate a g) w fits = (record { id = fits.0.0; head = (fits.0.1, w.metadata) }, tt)
body_fit id c (bodies.Device m packets) w fits =
    (record { id = fits.0.0; head = (fits.0.1, w.metadata) }, parts_fit parts.Packet (λ x. tt) packets fits.1)

pub all_front : {X : Type 0} (P : X → Type 0) (xs ys : List X) → AllByRecursion P (xs ++ ys) → AllByRecursion P xs
all_front P [] ys all = tt
all_front P (x ∷ xs) ys all = (all.0, all_front P xs ys all.1)

pub all_behind : {X : Type 0} (P : X → Type 0) (xs ys : List X) → AllByRecursion P (xs ++ ys) → AllByRecursion P ys
all_behind P [] ys all = all
all_behind P (x ∷ xs) ys all = all_behind P xs ys all.1

objects_fit : (rs : List Recorded) → AllByRecursion (λ (r : Recorded). is_whole (object_of r.object) ≡ true) rs → AllByRecursion FitsLine (flat_map object_lines rs) → AllByRecursion IsLine (flat_map object_lines rs)
objects_fit [] whole fits = tt
objects_fit (r ∷ rs) whole fits =
    all_append IsLine (object_lines r) (flat_map object_lines rs)
    (body_fit r.id (common_of r.object) r.object.body (whole_parts r whole.0) (all_front FitsLine (object_lines r) (flat_map object_lines rs) fits))
    (objects_fit rs whole.1 (all_behind FitsLine (object_lines r) (flat_map object_lines rs) fits))

numbers_fit : (ns : List NextNumber) → AllByRecursion FitsLine (map next_line ns) → AllByRecursion IsLine (map next_line ns)
numbers_fit [] fits = tt
numbers_fit (n ∷ ns) fits = ((fits.0, tt), numbers_fit ns fits.1)

-- the lines of a checkpoint that can be restored
pub checkpoint_fit : (limits : Limits) (c : Checkpoint) → is_restorable limits c ≡ true → AllByRecursion FitsLine (checkpoint_lines c) → AllByRecursion IsLine (checkpoint_lines c)
checkpoint_fit limits c can fits = (
  (fits.0, tt),
  all_append IsLine (flat_map object_lines c.objects) (map next_line c.next)
      (objects_fit c.objects (objects_whole limits c can) (all_front FitsLine (flat_map object_lines c.objects) (map next_line c.next) fits.1))
      (numbers_fit c.next (all_behind FitsLine (flat_map object_lines c.objects) (map next_line c.next) fits.1)),
)

-- each segment of it has whole pages
pub objects_paged : (rs : List Recorded) → AllByRecursion (λ (r : Recorded). is_whole (object_of r.object) ≡ true) rs → AllByRecursion (λ (r : Recorded). HasPages r.object.body) rs
objects_paged [] whole = tt
objects_paged (r ∷ rs) whole = (has_pages r.object.body (whole_parts r whole.0).body, objects_paged rs whole.1)

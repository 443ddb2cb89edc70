-- The tests together are those of a restorable checkpoint.
use Rattle.std.proofs.Common.{◌≡◌, ℕ, ◌&&◌, ◌==◌, true, false, nat_lt, List, [], ◌∷◌, length, map, refl}
use Rattle.std.specs.List.{list_all}
use Rattle.std.proofs.lemmas.Bool.{and_parts, and_from, both_ways, false_from_ne_true}
use Rattle.base.specs.declared.ranges.Limits.{Limits}
use Rattle.kernel_rules.specs.Sizes.{most_bytes}
use Rattle.kernel_rules.specs.State.{State}
use Rattle.kernel_rules.specs.WellFormed.{is_well_formed, ids_rise, is_kept, is_stored, is_whole, is_whole_body}
use Rattle.kernel_rules.specs.declared.objects.Object.{Object}
use Rattle.kernel_rules.proofs.ListerLaws.{kept_parts}
use Rattle.kernel_rules.proofs.WellFormedLaws.{soundness_of}
use Rattle.checkpoints.specs.Restorable.{is_restorable, each, has_root, names_given, is_made_below, has_counters, is_starless}
use Rattle.checkpoints.specs.Restorable.{lists_rightly, maps_rightly, names_kinds, is_whole_entry, spaces_in}
use Rattle.checkpoints.specs.Restorable.{is_ordered, has_slots, filled_in, threads_rise}
use Rattle.checkpoints.specs.Restored.{restored, object_of, body_of, metadata_of, as_written}
use Rattle.checkpoints.specs.Checkpoint.{Checkpoint}
use Rattle.checkpoints.specs.declared.checkpoints.Recorded.{Recorded}
use Rattle.checkpoints.specs.declared.checkpoints.RawBody as raw_body
use Rattle.checkpoints.specs.declared.checkpoints.RawBody.TheVariants as raw
use Rattle.checkpoints.proofs.Parts.{Parts, parts_of}
use Rattle.plain_core.specs.Holding.{holds, is_written_rightly}
use Rattle.plain_core.specs.Written.{is_written, is_written_body}
use Rattle.plain_core.proofs.FormedLaws.{alike}

restorable_from : (limits : Limits) (c : Checkpoint) → Parts limits (restored limits c) c → is_restorable limits c ≡ true
unfolding is_restorable
restorable_from limits c h =
    and_from _ _ h.well_formed (and_from _ _ h.root (and_from _ _ h.ordered (and_from _ _ h.given
    (and_from _ _ h.threads (and_from _ _ h.made (and_from _ _ h.counters (and_from _ _ h.starless
    (and_from _ _ h.lists (and_from _ _ h.maps (and_from _ _ h.kinds (and_from _ _ h.entries refl)))))))))))

written_body : (b : raw_body.RawBody) → is_whole_body (body_of b) ≡ true → has_slots (filled_in b) ≡ true
    → is_written_body b ≡ true
written_body (raw.AddressSpace marks filled) whole slots = slots
written_body (raw.Thread t) whole slots = whole
written_body (raw.Gate marks g) whole slots = whole
written_body (raw.Container marks avoid list) whole slots = refl
written_body (raw.Segment marks bytes) whole slots = refl
written_body (raw.Device metadata packets) whole slots = refl

all_written : (s : State) (es : List Recorded)
    → list_all (λ (e : ℕ × Object). is_kept s e.0 e.1) (map (λ e. (e.id, object_of e.object)) es) ≡ true
    → list_all (λ e. nat_lt 0 e.id && has_slots (filled_in e.object.body)) es ≡ true
    → list_all (λ (e : Recorded). is_written e.object) es ≡ true
all_written s [] kept slots = refl
all_written s (e ∷ es) kept slots =
    let k = and_parts (is_kept s e.id (object_of e.object)) _ kept in
    let f = and_parts (nat_lt 0 e.id && has_slots (filled_in e.object.body)) _ slots in
    let whole : is_whole (object_of e.object) ≡ true = (kept_parts s e.id (object_of e.object) k.0).whole in
    let b = and_parts (is_stored (as_written e.object.label) && length (metadata_of e.object.body) == most_bytes)
    (is_whole_body (body_of e.object.body)) whole in
    let a = and_parts (is_stored (as_written e.object.label)) (length (metadata_of e.object.body) == most_bytes) b.0 in
    and_from (is_written e.object) _
    (and_from (is_stored (as_written e.object.label)) (is_written_body e.object.body) a.0
    (written_body e.object.body b.1 (and_parts (nat_lt 0 e.id) (has_slots (filled_in e.object.body)) f.0).1))
    (all_written s es k.1 f.1)

-- an object that can't be built is one of a checkpoint that can't be restored
pub unwritten : (limits : Limits) (c : Checkpoint)
    → list_all (λ (e : Recorded). is_written e.object) c.objects ≡ false → is_restorable limits c ≡ false
unwritten limits c off =
    false_from_ne_true (is_restorable limits c)
    (λ h.
    let p = parts_of limits c h in
    let slots = and_parts (list_all (λ e. nat_lt 0 e.id && has_slots (filled_in e.object.body)) c.objects
    && threads_rise c.next) _ p.ordered in
    let first = and_parts (list_all (λ e. nat_lt 0 e.id && has_slots (filled_in e.object.body)) c.objects)
    (threads_rise c.next) slots.0 in
    both_ways (list_all (λ (e : Recorded). is_written e.object) c.objects) off
    (all_written (restored limits c) c.objects (soundness_of (restored limits c) p.well_formed).kept first.0))

-- nor can one that is not written rightly
pub unordered : (limits : Limits) (c : Checkpoint) → is_written_rightly c ≡ false → is_restorable limits c ≡ false
unordered limits c off =
    false_from_ne_true (is_restorable limits c)
    (λ h.
    let p = parts_of limits c h in
    both_ways (is_written_rightly c) off
    (and_from (is_ordered c && ids_rise (map (λ e. (e.id, object_of e.object)) c.objects)) _
    (and_from (is_ordered c) _ p.ordered (soundness_of (restored limits c) p.well_formed).rise) p.threads))

parts_from : (limits : Limits) (c : Checkpoint) → is_written_rightly c ≡ true
    → is_well_formed (restored limits c) ≡ true → holds (restored limits c) ≡ true → Parts limits (restored limits c) c
parts_from limits c w f h =
    let s : State = restored limits c in
    let wb = and_parts (is_ordered c && ids_rise (map (λ e. (e.id, object_of e.object)) c.objects)) _ w in
    let wa = and_parts (is_ordered c) _ wb.0 in
    let j = and_parts (has_root limits (restored limits c) && each (names_given c.next_id) (restored limits c)
    && each (is_made_below c.next_category) (restored limits c)
    && has_counters limits (restored limits c) && each is_starless (restored limits c)
    && each (lists_rightly (restored limits c)) (restored limits c) && each maps_rightly (restored limits c)
    && each (names_kinds (restored limits c)) (restored limits c))
    (each (λ x. list_all is_whole_entry (spaces_in x.body)) (restored limits c)) h in
    let g = and_parts (has_root limits (restored limits c) && each (names_given c.next_id) (restored limits c)
    && each (is_made_below c.next_category) (restored limits c)
    && has_counters limits (restored limits c) && each is_starless (restored limits c)
    && each (lists_rightly (restored limits c)) (restored limits c) && each maps_rightly (restored limits c)) _ j.0 in
    let e = and_parts (has_root limits (restored limits c) && each (names_given c.next_id) (restored limits c)
    && each (is_made_below c.next_category) (restored limits c)
    && has_counters limits (restored limits c) && each is_starless (restored limits c)
    && each (lists_rightly (restored limits c)) (restored limits c)) _ g.0 in
    let d = and_parts (has_root limits (restored limits c) && each (names_given c.next_id) (restored limits c)
    && each (is_made_below c.next_category) (restored limits c)
    && has_counters limits (restored limits c) && each is_starless (restored limits c)) _ e.0 in
    let k = and_parts (has_root limits (restored limits c) && each (names_given c.next_id) (restored limits c)
    && each (is_made_below c.next_category) (restored limits c)
    && has_counters limits (restored limits c)) _ d.0 in
    let l = and_parts (has_root limits (restored limits c) && each (names_given c.next_id) (restored limits c)
    && each (is_made_below c.next_category) (restored limits c)) _ k.0 in
    let m = and_parts (has_root limits (restored limits c) && each (names_given c.next_id) (restored limits c)) _ l.0 in
    let n = and_parts (has_root limits (restored limits c)) _ m.0 in
    record {
      well_formed = f;
      root = n.0;
      ordered = wa.0;
      given = n.1;
      threads = wb.1;
      made = m.1;
      counters = l.1;
      starless = k.1;
      lists = d.1;
      maps = e.1;
      kinds = g.1;
      entries = j.1;
    }

holds_from : (limits : Limits) (c : Checkpoint) → Parts limits (restored limits c) c → holds (restored limits c) ≡ true
holds_from limits c p =
    and_from _ _ (and_from _ _ (and_from _ _ (and_from _ _ (and_from _ _ (and_from _ _ (and_from _ _
    (and_from _ _ p.root p.given) p.made) p.counters) p.starless) p.lists) p.maps) p.kinds) p.entries

-- where it is written rightly, the tests of its state decide
pub tested : (limits : Limits) (c : Checkpoint) → is_written_rightly c ≡ true
    → (is_well_formed (restored limits c) && holds (restored limits c)) ≡ is_restorable limits c
tested limits c w =
    alike (is_well_formed (restored limits c) && holds (restored limits c)) (is_restorable limits c)
    (λ h.
    let parts = and_parts (is_well_formed (restored limits c)) (holds (restored limits c)) h in
    restorable_from limits c (parts_from limits c w parts.0 parts.1))
    (λ h.
    let p = parts_of limits c h in
    and_from (is_well_formed (restored limits c)) (holds (restored limits c)) p.well_formed (holds_from limits c p))

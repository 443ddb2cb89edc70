-- Sound states: what keeps them so, and that their checkpoints can be restored.
use Rattle.std.proofs.Common.{◌≡◌, ◌↔◌, ℕ, ◌≤◌, true, ◌&&◌, nat_lt, List, [], ◌∷◌, refl}
use Rattle.std.specs.List.{list_all}
use Rattle.std.proofs.lemmas.Bool.{and_from, and_parts}
use Rattle.base.specs.declared.ranges.Limits.{Limits}
use Rattle.kernel_rules.specs.State.{State, slots_of}
use Rattle.kernel_rules.specs.Step.{next}
use Rattle.kernel_rules.specs.WellFormed.{is_well_formed}
use Rattle.kernel_rules.specs.declared.calls.Call.{Call}
use Rattle.kernel_rules.specs.declared.objects.Object.{Object}
use Rattle.checkpoints.specs.Laws.{IsWhole}
use Rattle.checkpoints.specs.Reached.{IsSound}
use Rattle.checkpoints.specs.Restorable.{is_restorable, is_made_below, is_starless, maps_rightly}
use Rattle.checkpoints.specs.Restorable.{is_in_bounds, lie_apart, is_whole_entry, spaces_in, is_ordered}
use Rattle.checkpoints.specs.Reached.{is_plain}
use Rattle.checkpoints.specs.Restorable.{has_slots, filled_in, threads_rise}
use Rattle.checkpoints.specs.Restored.{restored, object_of}
use Rattle.checkpoints.specs.Checkpoint.{Checkpoint}
use Rattle.checkpoints.specs.declared.checkpoints.Recorded.{Recorded}
use Rattle.checkpoints.proofs.ApartLaws.{all_apart}
use Rattle.checkpoints.proofs.BootReached.{held_from}
use Rattle.checkpoints.proofs.CounterLaws.{counters_of}
use Rattle.checkpoints.proofs.Everywhere.{Everywhere}
use Rattle.checkpoints.proofs.LocalLaws.{Local}
use Rattle.checkpoints.proofs.NamesLaws.{named_rightly}
use Rattle.checkpoints.proofs.Parts.{Parts, parts_of}
use Rattle.checkpoints.proofs.ReachLaws.{Kept, kept_next}
use Rattle.checkpoints.proofs.ReachedTests.{sound_from}
use Rattle.checkpoints.specs.declared.checkpoints.RawBody.TheVariants as raw
use Rattle.checkpoints.specs.declared.checkpoints.RawObject.{RawObject}
use Rattle.std.specs.Prelude.{map, nat_le}

-- the tests of each object, as what holds of each
local_from : (n : ℕ) (es : List (ℕ × Object)) → list_all (λ e. nat_lt 0 e.0) es ≡ true
    → list_all (λ e. is_made_below n e.1) es ≡ true → list_all (λ e. is_starless e.1) es ≡ true
    → list_all (λ e. maps_rightly e.1) es ≡ true
    → list_all (λ e. list_all is_whole_entry (spaces_in e.1.body)) es ≡ true
    → list_all (λ e. is_plain e.1) es ≡ true → Everywhere (Local n) es
local_from n [] ids made starless maps entries plain = tt
local_from n (e ∷ es) ids made starless maps entries plain =
    let a = and_parts (nat_lt 0 e.0) (list_all (λ e. nat_lt 0 e.0) es) ids in
    let b = and_parts (is_made_below n e.1) (list_all (λ e. is_made_below n e.1) es) made in
    let c = and_parts (is_starless e.1) (list_all (λ e. is_starless e.1) es) starless in
    let d = and_parts (maps_rightly e.1) (list_all (λ e. maps_rightly e.1) es) maps in
    let f = and_parts (list_all is_whole_entry (spaces_in e.1.body))
    (list_all (λ e. list_all is_whole_entry (spaces_in e.1.body)) es) entries in
    let g = and_parts (is_plain e.1) (list_all (λ e. is_plain e.1) es) plain in
    let k = and_parts (list_all is_in_bounds (slots_of e.1.body)) (lie_apart (slots_of e.1.body)) d.0 in (
      record { id = a.0; made = b.0; starless = c.0; bounds = k.0; entries = f.0; plain = g.0 },
      local_from n es a.1 b.1 c.1 d.1 f.1 g.1,
    )

kept_from : (limits : Limits) (s : State) → IsSound limits s → Kept limits s
kept_from limits s h = record {
  root = h.root;
  named = named_rightly s h.given h.kinds;
  counters = counters_of limits s h.counters;
  local = local_from s.next_category s.objects h.ids h.made h.starless h.maps h.entries h.plain;
  apart = all_apart s.objects h.maps;
  held = held_from s h.lists;
}

-- that the next state is well formed is known of each machine
pub sound_next : (limits : Limits) (s : State) (t : ℕ) (c : Call) → 1 ≤ limits.next_category
    → is_well_formed s ≡ true → is_well_formed (next s t c) ≡ true → IsSound limits s → IsSound limits (next s t c)
sound_next limits s t c some wf after h =
    sound_from limits (next s t c) after (kept_next limits s t c some wf (kept_from limits s h))

-- no object of an ordered checkpoint has the id 0
ordered_ids : (es : List Recorded)
    → list_all (λ e. nat_lt 0 e.id && has_slots (filled_in e.object.body)) es ≡ true
    → list_all (λ (e : ℕ × Object). nat_lt 0 e.0) (map (λ e. (e.id, object_of e.object)) es) ≡ true
ordered_ids [] h = refl
ordered_ids (e ∷ es) h =
    let p = and_parts (nat_lt 0 e.id && has_slots (filled_in e.object.body))
    (list_all (λ e. nat_lt 0 e.id && has_slots (filled_in e.object.body)) es) h in
    and_from (nat_lt 0 e.id) _ (and_parts (nat_lt 0 e.id) (has_slots (filled_in e.object.body)) p.0).0
    (ordered_ids es p.1)

ids_of : (c : Checkpoint) (limits : Limits) → is_ordered c ≡ true
    → list_all (λ e. nat_lt 0 e.0) (restored limits c).objects ≡ true
ids_of c limits h =
    let p = and_parts (list_all (λ e. nat_lt 0 e.id && has_slots (filled_in e.object.body)) c.objects
    && threads_rise c.next) (list_all (λ n. nat_le 2 n.number) c.next) h in
    ordered_ids c.objects
    (and_parts (list_all (λ e. nat_lt 0 e.id && has_slots (filled_in e.object.body)) c.objects)
    (threads_rise c.next) p.0).0

-- what is written has no more than it may
plain_object : (x : RawObject) → is_plain (object_of x) ≡ true
plain_object x = elim x.body as (λ b. is_plain (object_of (record x { body = b })) ≡ true) [
  | raw.Container marks avoid list ↦ refl
  | raw.Segment marks bytes ↦ refl
  | raw.AddressSpace marks filled ↦ refl
  | raw.Thread t ↦ refl
  | raw.Gate marks g ↦ refl
  | raw.Device metadata packets ↦ refl
]

plain_written : (es : List Recorded)
    → list_all (λ (e : ℕ × Object). is_plain e.1) (map (λ e. (e.id, object_of e.object)) es) ≡ true
plain_written [] = refl
plain_written (e ∷ es) = and_from (is_plain (object_of e.object)) _ (plain_object e.object) (plain_written es)

whole_of : (limits : Limits) (c : Checkpoint) → Parts limits (restored limits c) c → IsWhole limits c
whole_of limits c p = record {
  well_formed = p.well_formed;
  sound = record {
    root = p.root;
    ids = ids_of c limits p.ordered;
    given = p.given;
    made = p.made;
    counters = p.counters;
    starless = p.starless;
    lists = p.lists;
    maps = p.maps;
    kinds = p.kinds;
    entries = p.entries;
    plain = plain_written c.objects;
  };
  ordered = p.ordered;
  threads = p.threads;
}

restorable_from : (limits : Limits) (c : Checkpoint) → IsWhole limits c → is_restorable limits c ≡ true
unfolding is_restorable
restorable_from limits c h =
    and_from _ _ h.well_formed (and_from _ _ h.sound.root (and_from _ _ h.ordered (and_from _ _ h.sound.given
    (and_from _ _ h.threads (and_from _ _ h.sound.made (and_from _ _ h.sound.counters (and_from _ _ h.sound.starless
    (and_from _ _ h.sound.lists (and_from _ _ h.sound.maps (and_from _ _ h.sound.kinds (and_from _ _ h.sound.entries
    refl)))))))))))

pub restorable_whole : (limits : Limits) (c : Checkpoint) → (is_restorable limits c ≡ true) ↔ IsWhole limits c
restorable_whole limits c = (λ h. whole_of limits c (parts_of limits c h), λ h. restorable_from limits c h)

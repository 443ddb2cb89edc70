-- Each call keeps what holds of each object apart from all others.
use Rattle.std.proofs.Common.{◌≡◌, ℕ, ◌+◌, ◌<◌, ◌≤◌, Bool, true, false, not, ◌&&◌, ◌||◌, nat_lt, List, [], ◌∷◌, ◌++◌}
use Rattle.std.proofs.Common.{Option, Some, None, refl, sym, ◌∙◌, subst, ap, arith}
use Rattle.std.specs.List.{list_all}
use Rattle.std.specs.Prelude.{replicate, slice_set}
use Rattle.std.specs.Option.{option_map, option_and_then}
use Rattle.std.proofs.lemmas.Bool.{and_from, and_parts, or_parts, not-false, ltb-true, lt-ltb, both_ways}
use Rattle.base.specs.Live.{is_live}
use Rattle.base.specs.declared.kinds.Kind as kind
use Rattle.base.specs.declared.kinds.Kind.TheVariants as kinds
use Rattle.base.specs.declared.levels.Level.TheVariants.{Star, L3}
use Rattle.label_lattice.specs.Label.{LabelValue, has_star}
use Rattle.label_lattice.specs.Raw.{all_made, is_bad_below, raw_has_star}
use Rattle.label_lattice.specs.declared.raw_labels.RawLabel.{RawLabel}
use Rattle.label_lattice.specs.LabelRules.{stored, with_category}
use Rattle.kernel_rules.specs.Scratch.{labels_of_body}
use Rattle.kernel_rules.specs.Sizes.{last_slot, page_limit, most_pages}
use Rattle.base.specs.Sets.{may_read, may_write}
use Rattle.std.proofs.Common.{nat_le}
use Rattle.kernel_rules.specs.Changes.{changed, made, listing, fresh_object, owning, labelled}
use Rattle.kernel_rules.specs.Changes.{with_body, rebyte, relist, requeue, reslot, rethread}
use Rattle.kernel_rules.specs.Conditions.{is_mapping}
use Rattle.kernel_rules.specs.Table.{halted, refused, row}
use Rattle.kernel_rules.specs.State.{State, object_at, of_object, is_kind, is_kind_at, is_live_kind, lists_of}
use Rattle.kernel_rules.specs.State.{label_at, clearance_at, clearance_of, is_accessible, gate_of, gate_at, thread_of}
use Rattle.kernel_rules.specs.Step.{edit, owned, made_of, made_bearer, stored_at, with_value}
use Rattle.kernel_rules.specs.Step.{new_thread, new_gate}
use Rattle.kernel_rules.specs.Translate.{names_none}
use Rattle.kernel_rules.specs.WellFormed.{is_well_formed}
use Rattle.kernel_rules.specs.declared.calls.Call.{Call}
use Rattle.kernel_rules.specs.declared.calls.Call.TheVariants as call
use Rattle.kernel_rules.specs.declared.calls.Entry.{Entry}
use Rattle.kernel_rules.specs.declared.objects.Body as body
use Rattle.kernel_rules.specs.declared.objects.Body.TheVariants as is
use Rattle.kernel_rules.specs.declared.objects.Gate.{Gate}
use Rattle.kernel_rules.specs.declared.objects.Mapping.{Mapping}
use Rattle.kernel_rules.specs.declared.objects.Object.{Object}
use Rattle.kernel_rules.specs.declared.objects.Thread as thread
use Rattle.kernel_rules.specs.declared.places.Place.{Place}
use Rattle.kernel_rules.proofs.RowLaws.{none_hold}
use Rattle.kernel_rules.proofs.WellFormedLaws.{soundness_of}
use Rattle.kernel_laws.proofs.Names.{accessible_kind}
use Rattle.checkpoints.specs.Restorable.{is_in_bounds, is_whole_entry, spaces_in}
use Rattle.checkpoints.proofs.Everywhere.{Everywhere, everywhere_changed, everywhere_made, everywhere_weaker, found}
use Rattle.checkpoints.proofs.LocalLaws.{Local, Alike, alike_self, alike_list, alike_bytes, alike_queue, local_body}
use Rattle.checkpoints.proofs.LocalLaws.{IsGoodThread, local_thread, own_made, local_slot, stored_made}
use Rattle.checkpoints.proofs.LocalLaws.{stored_starless, with_made, local_later}

-- each object of the state is so, where the categories below n were made
abbrev pub AreLocal : ℕ → State → Type 0
AreLocal n s = Everywhere (Local n) s.objects

-- a change that leaves all but lists, bytes and packets
local_kept : (n : ℕ) (s : State) (d : ℕ) (f : Object → Object)
    → ((x : Object) → Alike x.body (f x).body) → ((x : Object) → (f x).label ≡ x.label)
    → ((x : Object) → (f x).immutable ≡ x.immutable) → ((x : Object) → (f x).metadata ≡ x.metadata)
    → AreLocal n s → AreLocal n (changed s d f)
local_kept n s d f same label immutable metadata all =
    everywhere_changed (Local n) s d f
    (λ x on h. local_body n d x (f x) (same x) (label x) (immutable x) (metadata x) h) all

local_lists : (n : ℕ) (s : State) (d : ℕ) (f : List ℕ → List ℕ) → AreLocal n s
    → AreLocal n (changed s d (with_body (relist f)))
local_lists n s d f all =
    local_kept n s d (with_body (relist f)) (λ x. alike_list f x.body) (λ x. refl) (λ x. refl) (λ x. refl) all

local_bytes : (n : ℕ) (s : State) (d : ℕ) (f : List ℕ → List ℕ) → AreLocal n s
    → AreLocal n (changed s d (with_body (rebyte f)))
local_bytes n s d f all =
    local_kept n s d (with_body (rebyte f)) (λ x. alike_bytes f x.body) (λ x. refl) (λ x. refl) (λ x. refl) all

local_queue : (n : ℕ) (s : State) (d : ℕ) (f : List (List ℕ) → List (List ℕ)) → AreLocal n s
    → AreLocal n (changed s d (with_body (requeue f)))
local_queue n s d f all =
    local_kept n s d (with_body (requeue f)) (λ x. alike_queue f x.body) (λ x. refl) (λ x. refl) (λ x. refl) all

pub local_value : {X : Type 0} (n : ℕ) (s : State) (v : Option X) (f : X → State)
    → ((x : X) → v ≡ Some x → AreLocal n (f x)) → AreLocal n s → AreLocal n (with_value s v f)
local_value n s None f each all = all
local_value n s (Some x) f each all = each x refl

-- the calling thread is one
caller : (s : State) (t : ℕ) (x : Object) → not (is_live_kind s kinds.Thread t) ≡ false
    → object_at s t ≡ Some x → is_kind kinds.Thread x ≡ true
caller s t x h on =
    subst (λ v. of_object false (is_kind kinds.Thread) v ≡ true) on
    (and_parts (is_kind_at s kinds.Thread t) (is_live (lists_of s.objects) t) (not-false _ h)).0

-- of this kind, or not, as it is found
of_kind : (s : State) (k : kind.Kind) (o : ℕ) (b : Bool) (x : Object) → is_kind_at s k o ≡ b → object_at s o ≡ Some x
    → is_kind k x ≡ b
of_kind s k o b x h on = subst (λ v. of_object false (is_kind k) v ≡ b) on h

-- another label or other fields of the caller
local_caller : (n : ℕ) (s : State) (t : ℕ) (l : Object → LabelValue) (g : thread.Thread → thread.Thread)
    → not (is_live_kind s kinds.Thread t) ≡ false
    → ((x : Object) → Local n t x → all_made n (l x).exceptions ≡ true)
    → ((r : thread.Thread) → IsGoodThread n r → IsGoodThread n (g r)) → AreLocal n s
    → AreLocal n (changed s t (λ x. record x { label = l x; body = rethread g x.body }))
local_caller n s t l g live made new all =
    everywhere_changed (Local n) s t _
    (λ x on h. local_thread n t x (l x) g (caller s t x live on) (made x h) (λ r is good. new r good) h) all

-- what is recorded has an id
recorded_id : (n : ℕ) (s : State) (k : kind.Kind) (o : ℕ) → AreLocal n s → is_kind_at s k o ≡ true
    → nat_lt 0 o ≡ true
recorded_id n s k o all h =
    elim (object_at s o)
    as (λ v. object_at s o ≡ v → of_object false (is_kind k) v ≡ true → nat_lt 0 o ≡ true) [
      | None ↦ λ on f. absurd (both_ways false refl f)
      | Some x ↦ λ on f. (found (Local n) o s.objects x all on).id
    ] refl h

-- an entry that a call keeps
space_whole : (n : ℕ) (s : State) (t : ℕ) (e : Entry) → AreLocal n s
    → (not (names_none e) && not (is_accessible s t e.container)) ≡ false
    → (not (names_none e) && not (is_kind_at s kinds.AddressSpace e.object)) ≡ false
    → is_whole_entry e ≡ true
space_whole n s t e all first second =
    elim (names_none e)
    as (λ v. (not v && not (is_accessible s t e.container)) ≡ false
    → (not v && not (is_kind_at s kinds.AddressSpace e.object)) ≡ false
    → (v || nat_lt 0 e.container && nat_lt 0 e.object) ≡ true) [
      | true ↦ λ a b. refl
      | false ↦ λ a b.
          and_from (nat_lt 0 e.container) (nat_lt 0 e.object)
          (recorded_id n s kinds.Container e.container all (accessible_kind s t e.container (not-false _ a)))
          (recorded_id n s kinds.AddressSpace e.object all (not-false _ b))
    ] first second

-- a new object
local_made : (n : ℕ) (s : State) (d : ℕ) (x : Option LabelValue) (q : ℕ) (b : body.Body) → 1 ≤ s.next_id
    → ((l : LabelValue) → x ≡ Some l → Local n s.next_id (fresh_object l q b)) → AreLocal n s
    → AreLocal n (made_of s d x q b)
local_made n s d x q b some new all =
    local_value n s x (λ l. made s d (fresh_object l q b))
    (λ l is. everywhere_made (Local n) s d (fresh_object l q b)
    (λ z on h. local_body n d z (listing s.next_id z) (alike_list _ z.body) refl refl refl h)
    (new l is) all) all

id_some : (o : ℕ) → 1 ≤ o → nat_lt 0 o ≡ true
id_some o h = lt-ltb 0 o (omega (arith, h))

-- a new container, segment or address space
local_plain_made : (n : ℕ) (s : State) (d : ℕ) (raw : RawLabel) (q : ℕ) (b : body.Body) → 1 ≤ s.next_id
    → ((l : LabelValue) → all_made n l.exceptions ≡ true → not (has_star l) ≡ true → nat_lt 0 s.next_id ≡ true
    → Local n s.next_id (fresh_object l q b))
    → (is_bad_below n raw || raw_has_star raw) ≡ false → AreLocal n s → AreLocal n (made_of s d (stored raw) q b)
local_plain_made n s d raw q b some new good all =
    local_made n s d (stored raw) q b some
    (λ l is. new l (stored_made n raw l (or_parts (is_bad_below n raw) (raw_has_star raw) good).0 is)
    (stored_starless n raw l good is) (id_some s.next_id some)) all

new_container : (n o q : ℕ) (avoid : _) (l : LabelValue) → all_made n l.exceptions ≡ true
    → not (has_star l) ≡ true → nat_lt 0 o ≡ true → Local n o (fresh_object l q (is.Container avoid []))
new_container n o q avoid l made star id = record {
  id = id;
  made = and_from (all_made n l.exceptions) true made refl;
  starless = star;
  bounds = refl;
  entries = refl;
  plain = refl;
}

new_segment : (n o q : ℕ) (bytes : List ℕ) (l : LabelValue) → all_made n l.exceptions ≡ true
    → not (has_star l) ≡ true → nat_lt 0 o ≡ true → Local n o (fresh_object l q (is.Segment bytes))
new_segment n o q bytes l made star id = record {
  id = id;
  made = and_from (all_made n l.exceptions) true made refl;
  starless = star;
  bounds = refl;
  entries = refl;
  plain = refl;
}

new_space : (n o q : ℕ) (l : LabelValue) → all_made n l.exceptions ≡ true
    → not (has_star l) ≡ true → nat_lt 0 o ≡ true
    → Local n o (fresh_object l q (is.AddressSpace (record { slots = replicate 16 None })))
new_space n o q l made star id = record {
  id = id;
  made = and_from (all_made n l.exceptions) true made refl;
  starless = star;
  bounds = refl;
  entries = refl;
  plain = refl;
}

-- a new thread or gate
local_thread_made : (n : ℕ) (s : State) (d : ℕ) (x y : RawLabel) (q entry_point : ℕ) → 1 ≤ s.next_id
    → is_bad_below n x ≡ false → is_bad_below n y ≡ false → AreLocal n s
    → AreLocal n (made_bearer s d (stored x) q (stored y) (λ c. new_thread c entry_point))
local_thread_made n s d x y q entry_point some good_x good_y all =
    local_value n s (stored y) _
    (λ c is_c. local_made n s d (stored x) q (new_thread c entry_point) some
    (λ l is. record {
      id = id_some s.next_id some;
      made = and_from (all_made n l.exceptions) _ (stored_made n x l good_x is)
          (and_from (all_made n c.exceptions) _ (stored_made n y c good_y is_c) refl);
      starless = refl;
      bounds = refl;
      entries = refl;
      plain = refl;
    }) all) all

local_gate_made : (n : ℕ) (s : State) (d : ℕ) (x y : RawLabel) (q : ℕ) (e : Entry) (entry_point closure : ℕ)
    → 1 ≤ s.next_id → is_bad_below n x ≡ false → is_bad_below n y ≡ false → is_whole_entry e ≡ true → AreLocal n s
    → AreLocal n (made_bearer s d (stored x) q (stored y) (λ c. new_gate c e entry_point closure))
local_gate_made n s d x y q e entry_point closure some good_x good_y whole all =
    local_value n s (stored y) _
    (λ c is_c. local_made n s d (stored x) q (new_gate c e entry_point closure) some
    (λ l is. record {
      id = id_some s.next_id some;
      made = and_from (all_made n l.exceptions) _ (stored_made n x l good_x is)
          (and_from (all_made n c.exceptions) true (stored_made n y c good_y is_c) refl);
      starless = refl;
      bounds = refl;
      entries = and_from (is_whole_entry e) true whole refl;
      plain = refl;
    }) all) all

-- the entry that a gate has
gate_whole : (n : ℕ) (s : State) (g : ℕ) (gate : Gate) → AreLocal n s → gate_at s g ≡ Some gate
    → is_whole_entry gate.space ≡ true
gate_whole n s g gate all =
    elim (object_at s g)
    as (λ v. object_at s g ≡ v → option_and_then (λ x. gate_of x.body) v ≡ Some gate
    → is_whole_entry gate.space ≡ true) [
      | None ↦ λ on at. absurd (cc)
      | Some x ↦ λ on at. in_body x.body (found (Local n) g s.objects x all on).entries at
    ] refl
  where
    in_body : (b : body.Body) → list_all is_whole_entry (spaces_in b) ≡ true → gate_of b ≡ Some gate
        → is_whole_entry gate.space ≡ true
    in_body (is.Gate a) h at =
        let same : a ≡ gate = cc in
        subst (λ (z : Gate). is_whole_entry z.space ≡ true) same (and_parts (is_whole_entry a.space) true h).0
    in_body (is.Container avoid list) h at = absurd (cc)
    in_body (is.Segment bytes) h at = absurd (cc)
    in_body (is.AddressSpace slots) h at = absurd (cc)
    in_body (is.Thread r) h at = absurd (cc)
    in_body (is.Device packets) h at = absurd (cc)

rethread_same : (b : body.Body) → rethread (λ r. r) b ≡ b
rethread_same (is.Thread t) = refl
rethread_same (is.Container avoid list) = refl
rethread_same (is.Segment bytes) = refl
rethread_same (is.AddressSpace slots) = refl
rethread_same (is.Gate g) = refl
rethread_same (is.Device packets) = refl

-- another label of the caller
local_label : (n : ℕ) (s : State) (t : ℕ) (l : LabelValue) → not (is_live_kind s kinds.Thread t) ≡ false
    → all_made n l.exceptions ≡ true → AreLocal n s → AreLocal n (changed s t (labelled l))
local_label n s t l live made all =
    everywhere_changed (Local n) s t (labelled l)
    (λ x on h. subst (λ (b : body.Body). Local n t (record x { label = l; body = b })) (rethread_same x.body)
    (local_thread n t x l (λ r. r) (caller s t x live on) made (λ r is good. good) h)) all

-- a thread's clearance
clearance_thread : (b : body.Body) (r : thread.Thread) → thread_of b ≡ Some r → clearance_of b ≡ Some r.clearance
clearance_thread (is.Thread t) r h = let same : t ≡ r = cc in ap (λ (z : thread.Thread). Some z.clearance) same
clearance_thread (is.Container avoid list) r h = absurd (cc)
clearance_thread (is.Segment bytes) r h = absurd (cc)
clearance_thread (is.AddressSpace slots) r h = absurd (cc)
clearance_thread (is.Gate g) r h = absurd (cc)
clearance_thread (is.Device packets) r h = absurd (cc)

-- a new category
local_owned : (n : ℕ) (s : State) (t : ℕ) (l c : Option LabelValue) → 1 ≤ n
    → l ≡ option_and_then (λ z. with_category z (record { 0 = n }) Star) (label_at s t)
    → c ≡ option_and_then (λ z. with_category z (record { 0 = n }) L3) (clearance_at s t)
    → not (is_live_kind s kinds.Thread t) ≡ false → AreLocal n s → AreLocal (n + 1) (owned s t l c)
local_owned n s t None c some is_l is_c live all =
    everywhere_weaker (Local n) (Local (n + 1)) s.objects (λ o x h. local_later n (n + 1) o x (omega arith) h) all
local_owned n s t (Some l) None some is_l is_c live all =
    everywhere_weaker (Local n) (Local (n + 1)) s.objects (λ o x h. local_later n (n + 1) o x (omega arith) h) all
local_owned n s t (Some l) (Some c) some is_l is_c live all =
    let later : AreLocal (n + 1) s =
    everywhere_weaker (Local n) (Local (n + 1)) s.objects (λ o x h. local_later n (n + 1) o x (omega arith) h) all in
    everywhere_changed (Local (n + 1)) s t (owning l c)
    (λ x on h.
    let old : Local n t x = found (Local n) t s.objects x all on in
    let label : with_category x.label (record { 0 = n }) Star ≡ Some l =
    ap (λ v. option_and_then (λ z. with_category z (record { 0 = n }) Star) (option_map (λ y. y.label) v)) (sym on)
    ∙ sym is_l in
    local_thread (n + 1) t x l (λ r. record r { clearance = c }) (caller s t x live on)
    (with_made n x.label l Star some (own_made n t x old) label)
    (λ r is good.
    let clear : with_category r.clearance (record { 0 = n }) L3 ≡ Some c =
    ap (λ v. option_and_then (λ z. with_category z (record { 0 = n }) L3) v) (sym (clearance_thread x.body r is))
    ∙ ap (λ v. option_and_then (λ z. with_category z (record { 0 = n }) L3) (option_and_then (λ y. clearance_of y.body) v)) (sym on)
    ∙ sym is_c in
    (with_made n r.clearance c L3 some (clearance_made n t x r old is) clear, good.1, good.2)) h) later
  where
    in_body : (n : ℕ) (l : LabelValue) (b : body.Body) (r : thread.Thread)
        → list_all (λ k. all_made n k.exceptions) (l ∷ labels_of_body b) ≡ true → thread_of b ≡ Some r
        → all_made n r.clearance.exceptions ≡ true
    in_body n l (is.Thread a) r h is =
        let same : a ≡ r = cc in
        let p = and_parts (all_made n l.exceptions) _ h in
        subst (λ (z : thread.Thread). all_made n z.clearance.exceptions ≡ true) same
        (and_parts (all_made n a.clearance.exceptions) _ p.1).0
    in_body n l (is.Container avoid list) r h is = absurd (cc)
    in_body n l (is.Segment bytes) r h is = absurd (cc)
    in_body n l (is.AddressSpace slots) r h is = absurd (cc)
    in_body n l (is.Gate g) r h is = absurd (cc)
    in_body n l (is.Device packets) r h is = absurd (cc)

    clearance_made : (n t : ℕ) (x : Object) (r : thread.Thread) → Local n t x → thread_of x.body ≡ Some r
        → all_made n r.clearance.exceptions ≡ true
    clearance_made n t x r h is = in_body n x.label x.body r h.made is

-- whether an object is plain, where it is no thread and no device
plain_other : (a d i m : Bool) → a ≡ false → d ≡ false → (not ((a || d) && i) && (not a || m)) ≡ true
plain_other a d i m ha hd =
    subst (λ v. (not ((v || d) && i) && (not v || m)) ≡ true) (sym ha)
    (subst (λ v. (not ((false || v) && i) && (not false || m)) ≡ true) (sym hd) refl)

local_immutable : (n : ℕ) (s : State) (o : ℕ) → is_kind_at s kinds.Thread o ≡ false
    → is_kind_at s kinds.Device o ≡ false → AreLocal n s → AreLocal n (changed s o (λ x. record x { immutable = true }))
local_immutable n s o thread device all =
    everywhere_changed (Local n) s o _
    (λ x on h. record {
      id = h.id;
      made = h.made;
      starless = h.starless;
      bounds = h.bounds;
      entries = h.entries;
      plain = plain_other (is_kind kinds.Thread x) (is_kind kinds.Device x) true _
          (of_kind s kinds.Thread o false x thread on) (of_kind s kinds.Device o false x device on);
    }) all

plain_noted : (a d i m k : Bool) → a ≡ false → (not ((a || d) && i) && (not a || m)) ≡ true
    → (not ((a || d) && i) && (not a || k)) ≡ true
plain_noted a d i m k ha h =
    let p = and_parts (not ((a || d) && i)) (not a || m) h in
    and_from (not ((a || d) && i)) (not a || k) p.0
    (subst (λ v. (not v || k) ≡ true) (sym ha) refl)

local_noted : (n : ℕ) (s : State) (o : ℕ) (bytes : List ℕ) → is_kind_at s kinds.Thread o ≡ false
    → AreLocal n s → AreLocal n (changed s o (λ x. record x { metadata = bytes }))
local_noted n s o bytes thread all =
    everywhere_changed (Local n) s o _
    (λ x on h. record {
      id = h.id;
      made = h.made;
      starless = h.starless;
      bounds = h.bounds;
      entries = h.entries;
      plain = plain_noted (is_kind kinds.Thread x) (is_kind kinds.Device x) x.immutable _ _
          (of_kind s kinds.Thread o false x thread on) h.plain;
    }) all

-- the first condition set aside
but_first : (a b c d e : Bool) → (a && b && c && d && e) ≡ true → (true && b && c && d && e) ≡ true
but_first a b c d e h =
    let p4 = and_parts (a && b && c && d) e h in
    let p3 = and_parts (a && b && c) d p4.0 in
    let p2 = and_parts (a && b) c p3.0 in
    let p1 = and_parts a b p2.0 in
    and_from (true && b && c && d) e
    (and_from (true && b && c) d (and_from (true && b) c (and_from true b refl p1.1) p2.1) p3.1) p4.1

in_bounds : (slot : ℕ) (m : Mapping) → is_mapping slot m ≡ true → is_in_bounds (Some m) ≡ true
in_bounds slot m h =
    but_first (nat_le slot last_slot) (nat_le 1 m.count) (nat_le (m.page + m.count) page_limit)
    (nat_le (m.first + m.count) most_pages) (may_read m.rights || may_write m.rights) h

local_mapped : (n : ℕ) (s : State) (o k : ℕ) (v : Option Mapping) → is_in_bounds v ≡ true → AreLocal n s
    → AreLocal n (changed s o (with_body (reslot (λ slots. slice_set slots k v))))
local_mapped n s o k v new all =
    everywhere_changed (Local n) s o _ (λ x on h. local_slot n o x k v new h) all

local_store : (n : ℕ) (s : State) (p : Option Place) (bytes : List ℕ) → AreLocal n s
    → AreLocal n (stored_at s p bytes)
local_store n s None bytes all = all
local_store n s (Some p) bytes all = local_bytes n s p.segment _ all

-- the next category once the call was made
abbrev pub later : State → Call → ℕ
later s call.CatCreate = s.next_category + 1
later s c = s.next_category

some_id : (s : State) → is_well_formed s ≡ true → 1 ≤ s.next_id
some_id s wf = let more : 3 < s.next_id = ltb-true 3 s.next_id (soundness_of s wf).begun in omega (arith, more)

pub edit_local : (s : State) (t : ℕ) (c : Call) → is_well_formed s ≡ true → 1 ≤ s.next_category
    → refused s t c ≡ None → AreLocal s.next_category s → AreLocal (later s c) (edit s t c)
unfolding refused
edit_local s t call.CatCreate wf some r all =
    let none = none_hold (halted s t ++ row s t call.CatCreate) r in
    local_owned s.next_category s t _ _ some refl refl none.0 all
edit_local s t (call.SelfSetLabel x) wf some r all =
    let none = none_hold (halted s t ++ row s t (call.SelfSetLabel x)) r in
    local_value s.next_category s (stored x) _
    (λ l is. local_label s.next_category s t l none.0 (stored_made s.next_category x l none.1.0 is) all) all
edit_local s t (call.SelfSetClearance y) wf some r all =
    let none = none_hold (halted s t ++ row s t (call.SelfSetClearance y)) r in
    local_value s.next_category s (stored y) _
    (λ c is. local_caller s.next_category s t (λ x. x.label) (λ q. record q { clearance = c }) none.0
    (λ x h. own_made s.next_category t x h)
    (λ q good. (stored_made s.next_category y c none.1.0 is, good.1, good.2)) all) all
edit_local s t (call.SelfSetAs e) wf some r all =
    let none = none_hold (halted s t ++ row s t (call.SelfSetAs e)) r in
    local_caller s.next_category s t (λ x. x.label) (λ q. record q { space = e }) none.0
    (λ x h. own_made s.next_category t x h)
    (λ q good. (good.0, good.1, space_whole s.next_category s t e all none.1.0 none.1.1.1.0)) all
edit_local s t (call.ContainerCreate m) wf some r all =
    let none = none_hold (halted s t ++ row s t (call.ContainerCreate m)) r in
    local_plain_made s.next_category s m.container m.label m.quota _ (some_id s wf)
    (λ l made star id. new_container s.next_category s.next_id m.quota _ l made star id)
    none.1.1.1.1.1.1.1.1.1.0 all
edit_local s t (call.SegmentCreate m) wf some r all =
    let none = none_hold (halted s t ++ row s t (call.SegmentCreate m)) r in
    local_plain_made s.next_category s m.container m.label m.quota _ (some_id s wf)
    (λ l made star id. new_segment s.next_category s.next_id m.quota _ l made star id)
    none.1.1.1.1.1.1.1.1.1.0 all
edit_local s t (call.SegmentCopy m) wf some r all =
    let none = none_hold (halted s t ++ row s t (call.SegmentCopy m)) r in
    local_plain_made s.next_category s m.container m.label m.quota _ (some_id s wf)
    (λ l made star id. new_segment s.next_category s.next_id m.quota _ l made star id)
    none.1.1.1.1.1.1.1.1.1.1.1.1.1.0 all
edit_local s t (call.AsCreate m) wf some r all =
    let none = none_hold (halted s t ++ row s t (call.AsCreate m)) r in
    local_plain_made s.next_category s m.container m.label m.quota _ (some_id s wf)
    (λ l made star id. new_space s.next_category s.next_id m.quota l made star id)
    none.1.1.1.1.1.1.1.1.1.0 all
edit_local s t (call.ThreadCreate m) wf some r all =
    let none = none_hold (halted s t ++ row s t (call.ThreadCreate m)) r in
    local_thread_made s.next_category s m.container m.label m.clearance m.quota m.entry_point (some_id s wf)
    none.1.1.1.1.1.1.1.1.1.0 none.1.1.1.1.1.1.1.1.1.1.0 all
edit_local s t (call.GateCreate m) wf some r all =
    let none = none_hold (halted s t ++ row s t (call.GateCreate m)) r in
    local_gate_made s.next_category s m.container m.label m.clearance m.quota m.space m.entry_point m.closure
    (some_id s wf) none.1.1.1.1.1.1.1.1.1.1.1.1.0 none.1.1.1.1.1.1.1.1.1.1.1.1.1.0
    (space_whole s.next_category s t m.space all none.1.0 none.1.1.1.0) all
edit_local s t (call.Link d e) wf some r all = local_lists s.next_category s d _ all
edit_local s t (call.Unref e) wf some r all = local_lists s.next_category s e.container _ all
edit_local s t (call.QuotaMove e m) wf some r all =
    local_kept s.next_category s e.object _ (λ x. alike_self x.body) (λ x. refl) (λ x. refl) (λ x. refl) all
edit_local s t (call.SetFixed e) wf some r all =
    local_kept s.next_category s e.object _ (λ x. alike_self x.body) (λ x. refl) (λ x. refl) (λ x. refl) all
edit_local s t (call.SetImmutable e) wf some r all =
    let none = none_hold (halted s t ++ row s t (call.SetImmutable e)) r in
    local_immutable s.next_category s e.object none.1.1.1.0 none.1.1.1.1.0 all
edit_local s t (call.MetaSet e bytes) wf some r all =
    let none = none_hold (halted s t ++ row s t (call.MetaSet e bytes)) r in
    local_noted s.next_category s e.object _ none.1.1.1.0 all
edit_local s t (call.SegmentResize e pages) wf some r all = local_bytes s.next_category s e.object _ all
edit_local s t (call.SegmentWrite e a bytes) wf some r all = local_bytes s.next_category s e.object _ all
edit_local s t (call.AsMap e slot m) wf some r all =
    let none = none_hold (halted s t ++ row s t (call.AsMap e slot m)) r in
    local_mapped s.next_category s e.object slot (Some m)
    (in_bounds slot m (not-false (is_mapping slot m) none.1.1.1.1.1.1.1.1.1.1.0)) all
edit_local s t (call.AsUnmap e slot) wf some r all = local_mapped s.next_category s e.object slot None refl all
edit_local s t (call.Store address bytes) wf some r all = local_store s.next_category s _ bytes all
edit_local s t (call.GateEnter e x y z) wf some r all =
    let none = none_hold (halted s t ++ row s t (call.GateEnter e x y z)) r in
    local_value s.next_category s (stored x) _ (λ l is_l. local_value s.next_category s (stored y) _ (λ c is_c.
    local_value s.next_category s (stored z) _ (λ w is_w. local_value s.next_category s (gate_at s e.object) _
    (λ gate at.
    local_caller s.next_category s t (λ q. l) (λ q. record {
      clearance = c;
      verify = w;
      space = gate.space;
      entry_point = gate.entry_point;
      closure = gate.closure;
    }) none.0 (λ q h. stored_made s.next_category x l none.1.1.1.1.0 is_l)
    (λ q good. (
      stored_made s.next_category y c none.1.1.1.1.1.0 is_c,
      stored_made s.next_category z w none.1.1.1.1.1.1.0 is_w,
      gate_whole s.next_category s e.object gate all at,
    )) all)
    all) all) all) all
edit_local s t (call.DevSend e bytes) wf some r all = local_queue s.next_category s e.object _ all
edit_local s t (call.DevRecv e) wf some r all = local_queue s.next_category s e.object _ all

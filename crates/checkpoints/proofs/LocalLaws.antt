-- What calls keep of each object apart from all others: its labels are of made categories, it has no
-- star where it may have none, its mappings are in bounds, its entry is whole, and it is plain.
use Rattle.std.proofs.Common.{◌≡◌, ℕ, ◌+◌, ◌≤◌, zero, suc, Bool, true, false, not, ◌&&◌, ◌||◌, ◌==◌, nat_lt, nat_le, length, List, [], ◌∷◌}
use Rattle.std.proofs.Common.{Option, Some, None, refl, ◌∙◌, subst, ap, arith, cond}
use Rattle.std.specs.List.{list_all, slice_set}
use Rattle.std.proofs.lemmas.Bool.{and_from, and_parts, or_parts, not-false, not_from_false, lt-ltb}
use Rattle.base.specs.declared.kinds.Kind.TheVariants as kinds
use Rattle.base.specs.declared.levels.Level.{Level}
use Rattle.label_lattice.specs.Label.{LabelValue, has_star}
use Rattle.label_lattice.specs.Raw.{all_made, is_made, is_bad, is_bad_below, stored_of, raw_has_star}
use Rattle.label_lattice.specs.Placed.{with_level}
use Rattle.label_lattice.specs.declared.pairings.Pair.{Pair}
use Rattle.label_lattice.specs.declared.raw_labels.RawLabel.{RawLabel}
use Rattle.label_lattice.proofs.MadeLemmas.{made_stored, made_placed, made_later}
use Rattle.label_lattice.proofs.RawLemmas.{star_kept}
use Rattle.label_lattice.specs.LabelRules.{stored, with_category}
use Rattle.kernel_rules.specs.Changes.{rebyte, relist, requeue, rethread, reslot}
use Rattle.kernel_rules.specs.Scratch.{labels_of, labels_of_body}
use Rattle.kernel_rules.specs.State.{kind_of, kind_number, is_kind}
use Rattle.kernel_rules.specs.State.{slots_of, thread_of}
use Rattle.kernel_rules.specs.declared.objects.Body as body
use Rattle.kernel_rules.specs.declared.objects.Body.TheVariants as is
use Rattle.kernel_rules.specs.declared.objects.Mapping.{Mapping}
use Rattle.kernel_rules.specs.declared.objects.Object.{Object}
use Rattle.kernel_rules.specs.declared.objects.Thread as thread
use Rattle.checkpoints.specs.Restorable.{is_made_below, is_starless, is_in_bounds, is_whole_entry, spaces_in}
use Rattle.checkpoints.specs.Reached.{is_plain}

-- the categories below n were made
pub record Local (n : ℕ) (o : ℕ) (x : Object) : Type 0 where
  pub id : nat_lt 0 o ≡ true
  pub made : is_made_below n x ≡ true
  pub starless : is_starless x ≡ true
  pub bounds : list_all is_in_bounds (slots_of x.body) ≡ true
  pub entries : list_all is_whole_entry (spaces_in x.body) ≡ true
  pub plain : is_plain x ≡ true

-- a body that says the same of all this
pub record Alike (b c : body.Body) : Type 0 where
  pub labels : labels_of_body c ≡ labels_of_body b
  pub kind : kind_of c ≡ kind_of b
  pub slots : slots_of c ≡ slots_of b
  pub spaces : spaces_in c ≡ spaces_in b

pub alike_self : (b : body.Body) → Alike b b
alike_self b = record { labels = refl; kind = refl; slots = refl; spaces = refl }

pub alike_list : (f : List ℕ → List ℕ) (b : body.Body) → Alike b (relist f b)
alike_list f (is.Container avoid list) = record { labels = refl; kind = refl; slots = refl; spaces = refl }
alike_list f (is.Segment bytes) = alike_self (is.Segment bytes)
alike_list f (is.AddressSpace slots) = alike_self (is.AddressSpace slots)
alike_list f (is.Thread t) = alike_self (is.Thread t)
alike_list f (is.Gate g) = alike_self (is.Gate g)
alike_list f (is.Device packets) = alike_self (is.Device packets)

pub alike_bytes : (f : List ℕ → List ℕ) (b : body.Body) → Alike b (rebyte f b)
alike_bytes f (is.Segment bytes) = record { labels = refl; kind = refl; slots = refl; spaces = refl }
alike_bytes f (is.Container avoid list) = alike_self (is.Container avoid list)
alike_bytes f (is.AddressSpace slots) = alike_self (is.AddressSpace slots)
alike_bytes f (is.Thread t) = alike_self (is.Thread t)
alike_bytes f (is.Gate g) = alike_self (is.Gate g)
alike_bytes f (is.Device packets) = alike_self (is.Device packets)

pub alike_queue : (f : List (List ℕ) → List (List ℕ)) (b : body.Body) → Alike b (requeue f b)
alike_queue f (is.Device packets) = record { labels = refl; kind = refl; slots = refl; spaces = refl }
alike_queue f (is.Container avoid list) = alike_self (is.Container avoid list)
alike_queue f (is.Segment bytes) = alike_self (is.Segment bytes)
alike_queue f (is.AddressSpace slots) = alike_self (is.AddressSpace slots)
alike_queue f (is.Thread t) = alike_self (is.Thread t)
alike_queue f (is.Gate g) = alike_self (is.Gate g)

-- an object with another body that says the same
pub local_body : (n o : ℕ) (x y : Object) → Alike x.body y.body → y.label ≡ x.label → y.immutable ≡ x.immutable
    → y.metadata ≡ x.metadata → Local n o x → Local n o y
local_body n o x y same label immutable metadata h = record {
  id = h.id;
  made = (λ i. list_all (λ l. all_made n l.exceptions) (label i ∷ same.labels i)) ∙ h.made;
  starless = (λ i. (kind_number (same.kind i) == 3) || (kind_number (same.kind i) == 4) || not (has_star (label i)))
      ∙ h.starless;
  bounds = ap (λ ms. list_all is_in_bounds ms) same.slots ∙ h.bounds;
  entries = ap (λ es. list_all is_whole_entry es) same.spaces ∙ h.entries;
  plain = (λ i. not (((kind_number (same.kind i) == 3) || (kind_number (same.kind i) == 5)) && immutable i)
      && (not (kind_number (same.kind i) == 3) || list_all (λ b. b == 0) (metadata i))) ∙ h.plain;
}

-- what a thread needs, beside its label
abbrev pub IsGoodThread : ℕ → thread.Thread → Type 0
IsGoodThread n r =
    (all_made n r.clearance.exceptions ≡ true) × (all_made n r.verify.exceptions ≡ true)
    × (is_whole_entry r.space ≡ true)

local_rethreaded : (n o : ℕ) (x : Object) (b : body.Body) (l : LabelValue) (g : thread.Thread → thread.Thread)
    → is_kind kinds.Thread (record x { body = b }) ≡ true → all_made n l.exceptions ≡ true
    → ((r : thread.Thread) → thread_of b ≡ Some r → IsGoodThread n r → IsGoodThread n (g r))
    → Local n o (record x { body = b }) → Local n o (record x { label = l; body = rethread g b })
local_rethreaded n o x (is.Thread r) l g on made new h =
    let a = and_parts (all_made n x.label.exceptions) _ h.made in
    let b = and_parts (all_made n r.clearance.exceptions) _ a.1 in
    let c = and_parts (all_made n r.verify.exceptions) true b.1 in
    let d = and_parts (is_whole_entry r.space) true h.entries in
    let good = new r refl (b.0, c.0, d.0) in
    record {
      id = h.id;
      made = and_from (all_made n l.exceptions) _ made
          (and_from (all_made n (g r).clearance.exceptions) _ good.0
          (and_from (all_made n (g r).verify.exceptions) true good.1 refl));
      starless = refl;
      bounds = refl;
      entries = and_from (is_whole_entry (g r).space) true good.2 refl;
      plain = h.plain;
    }
local_rethreaded n o x (is.Container avoid list) l g on made new h = absurd (cc)
local_rethreaded n o x (is.Segment bytes) l g on made new h = absurd (cc)
local_rethreaded n o x (is.AddressSpace slots) l g on made new h = absurd (cc)
local_rethreaded n o x (is.Gate gate) l g on made new h = absurd (cc)
local_rethreaded n o x (is.Device packets) l g on made new h = absurd (cc)

-- a thread with another label, or with other fields
pub local_thread : (n o : ℕ) (x : Object) (l : LabelValue) (g : thread.Thread → thread.Thread)
    → is_kind kinds.Thread x ≡ true → all_made n l.exceptions ≡ true
    → ((r : thread.Thread) → thread_of x.body ≡ Some r → IsGoodThread n r → IsGoodThread n (g r))
    → Local n o x → Local n o (record x { label = l; body = rethread g x.body })
local_thread n o x l g on made new h = local_rethreaded n o x x.body l g on made new h

-- the label of an object is of made categories
pub own_made : (n o : ℕ) (x : Object) → Local n o x → all_made n x.label.exceptions ≡ true
own_made n o x h = (and_parts (all_made n x.label.exceptions) _ h.made).0

-- a list with one place written
pub all_set : (test : Option Mapping → Bool) (ms : List (Option Mapping)) (k : ℕ) (v : Option Mapping)
    → list_all test ms ≡ true → test v ≡ true → list_all test (slice_set ms k v) ≡ true
all_set test [] k v all new = all
all_set test (m ∷ ms) zero v all new =
    and_from (test v) (list_all test ms) new (and_parts (test m) (list_all test ms) all).1
all_set test (m ∷ ms) (suc k) v all new =
    let p = and_parts (test m) (list_all test ms) all in
    and_from (test m) (list_all test (slice_set ms k v)) p.0 (all_set test ms k v p.1 new)

local_reslotted : (n o : ℕ) (x : Object) (b : body.Body) (k : ℕ) (v : Option Mapping) → is_in_bounds v ≡ true
    → Local n o (record x { body = b })
    → Local n o (record x { body = reslot (λ slots. slice_set slots k v) b })
local_reslotted n o x (is.AddressSpace slots) k v new h = record {
  id = h.id;
  made = h.made;
  starless = h.starless;
  bounds = all_set is_in_bounds slots.slots k v h.bounds new;
  entries = h.entries;
  plain = h.plain;
}
local_reslotted n o x (is.Container avoid list) k v new h = h
local_reslotted n o x (is.Segment bytes) k v new h = h
local_reslotted n o x (is.Thread t) k v new h = h
local_reslotted n o x (is.Gate g) k v new h = h
local_reslotted n o x (is.Device packets) k v new h = h

pub local_slot : (n o : ℕ) (x : Object) (k : ℕ) (v : Option Mapping) → is_in_bounds v ≡ true
    → Local n o x → Local n o (record x { body = reslot (λ slots. slice_set slots k v) x.body })
local_slot n o x k v new h = local_reslotted n o x x.body k v new h

-- the label that is stored of a good raw one is of made categories
pub stored_made : (n : ℕ) (raw : RawLabel) (l : LabelValue) → is_bad_below n raw ≡ false → stored raw ≡ Some l
    → all_made n l.exceptions ≡ true
unfolding stored
stored_made n raw l good is =
    let p = or_parts (is_bad raw) (not (all_made n raw.pairs)) good in
    let here : cond (is_bad raw) None (Some (stored_of raw)) ≡ Some l = is in
    let there : Some (stored_of raw) ≡ Some l =
    subst (λ b. cond b None (Some (stored_of raw)) ≡ Some l) p.0 here in
    let same : stored_of raw ≡ l = cc in
    subst (λ (k : LabelValue). all_made n k.exceptions ≡ true) same (made_stored n raw (not-false _ p.1))

-- and has no star where the raw one has none
pub stored_starless : (n : ℕ) (raw : RawLabel) (l : LabelValue)
    → (is_bad_below n raw || raw_has_star raw) ≡ false → stored raw ≡ Some l → not (has_star l) ≡ true
unfolding stored
stored_starless n raw l good is =
    let q = or_parts (is_bad_below n raw) (raw_has_star raw) good in
    let p = or_parts (is_bad raw) (not (all_made n raw.pairs)) q.0 in
    let here : cond (is_bad raw) None (Some (stored_of raw)) ≡ Some l = is in
    let there : Some (stored_of raw) ≡ Some l =
    subst (λ b. cond b None (Some (stored_of raw)) ≡ Some l) p.0 here in
    let same : stored_of raw ≡ l = cc in
    subst (λ (k : LabelValue). not (has_star k) ≡ true) same
    (not_from_false (has_star (stored_of raw)) (star_kept raw p.0 ∙ q.1))

-- a label with the next category
pub with_made : (n : ℕ) (l new : LabelValue) (level : Level) → 1 ≤ n → all_made n l.exceptions ≡ true
    → with_category l (record { 0 = n }) level ≡ Some new → all_made (n + 1) new.exceptions ≡ true
unfolding with_category
with_made n l new level some made is =
    let p : Pair = record { category = record { 0 = n }; level = level } in
    let here : is_made (n + 1) p ≡ true =
    and_from (nat_lt 0 n) (nat_lt n (n + 1)) (lt-ltb 0 n (omega (arith, some))) (lt-ltb n (n + 1) (omega arith)) in
    let all : all_made (n + 1) (with_level l p).exceptions ≡ true =
    made_placed (n + 1) l p (made_later n (n + 1) l.exceptions (omega arith) made) here in
    elim (nat_le (length (with_level l p).exceptions) 16)
    as (λ v. cond v (Some (with_level l p)) None ≡ Some new → all_made (n + 1) new.exceptions ≡ true) [
      | true ↦ λ h. let same : with_level l p ≡ new = cc in
          subst (λ (k : LabelValue). all_made (n + 1) k.exceptions ≡ true) same all
      | false ↦ λ h. absurd (cc)
    ] is

-- the categories that were made stay made
labels_later : (n m : ℕ) (ls : List LabelValue) → n ≤ m → list_all (λ l. all_made n l.exceptions) ls ≡ true
    → list_all (λ l. all_made m l.exceptions) ls ≡ true
labels_later n m [] le h = refl
labels_later n m (l ∷ ls) le h =
    let p = and_parts (all_made n l.exceptions) _ h in
    and_from (all_made m l.exceptions) _ (made_later n m l.exceptions le p.0) (labels_later n m ls le p.1)

pub local_later : (n m o : ℕ) (x : Object) → n ≤ m → Local n o x → Local m o x
local_later n m o x le h = record {
  id = h.id;
  made = labels_later n m (labels_of x) le h.made;
  starless = h.starless;
  bounds = h.bounds;
  entries = h.entries;
  plain = h.plain;
}

-- What the labels are once owners let them go, and what slots hold once objects are gone.
use Rattle.std.proofs.Common.{◌≡◌, ◌⊎◌, ℕ, suc, ◌+◌, ◌<◌, Bool, true, false, cond, ◌&&◌, ◌||◌, ◌==◌, List, [], ◌∷◌, length, get_or, set, replicate, Option, Some, None, refl, sym, ◌∙◌, ap, subst, arith, sum_by, inl, inr, length-set}
use Rattle.std.specs.Prelude.{slice_get, map}
use Rattle.std.proofs.lemmas.Bool.{cases_Bool, cases_lt, both_ways, eq-eqb, eqb-true}
use Rattle.std.proofs.lemmas.List.{get_or-set_same, get_or-set_other, set_past, get_or_past}
use Rattle.base.specs.Live.{has}
use Rattle.kernel_rules.specs.declared.objects.Mapping.{Mapping}
use Rattle.arena_memory.specs.Segments.{bytes_in}
use Rattle.arena_memory.specs.Mappings.{places_at}
use Rattle.arena_state.specs.Stocked.{keeps_space}
use Rattle.std.proofs.lemmas.List.Sums.{sum_by-cons}
use Rattle.std.proofs.lemmas.Option.{slice_get-get_or, slice_get_past}
use Rattle.containers.specs.declared.visitor.Located.{Located}
use Rattle.containers.specs.Visits.{Event, Follows, objects_in}
use Rattle.label_intern.specs.declared.held.Held.{Held}
use Rattle.label_intern.specs.Owners.{one_at, Lets, release_at}
use Rattle.label_intern.proofs.OwnersLemmas.{lets_none, lets_then, lets_as, release_lets}
use Rattle.arena_state.specs.declared.holdings.Holdings.{Holdings}
use Rattle.arena_state.specs.declared.records.Record.{Record}
use Rattle.arena_state.specs.declared.records.Kept as kept
use Rattle.arena_state.specs.declared.records.Kept.TheVariants as keeps
use Rattle.arena_state.specs.Assembled.{claims, body_claims, record_in, blank}
use Rattle.arena_state.specs.Deaths.{released_body, released, forgotten, after_deaths, bytes_left, mappings_left, bytes_then, mappings_then, IsVacated}

body_lets : (ls : List (Option Held)) (b : kept.Kept) → Lets ls (released_body ls b) (λ i. body_claims i b)
body_lets ls (keeps.Container avoid used) = lets_none ls
body_lets ls (keeps.Thread t) =
    lets_then ls (release_at ls t.clearance.0) (release_at (release_at ls t.clearance.0) t.verify.0)
    (λ i. one_at i t.clearance.0) (λ i. one_at i t.verify.0)
    (release_lets ls t.clearance.0) (release_lets (release_at ls t.clearance.0) t.verify.0)
body_lets ls (keeps.Segment pages) = lets_none ls
body_lets ls keeps.AddressSpace = lets_none ls
body_lets ls (keeps.Gate g) = release_lets ls g.clearance.0
body_lets ls keeps.Device = lets_none ls

pub released_lets : (ls : List (Option Held)) (r : Record) → Lets ls (released ls r) (λ i. claims i r)
released_lets ls r =
    lets_then ls (release_at ls r.label.0) (released ls r) (λ i. one_at i r.label.0) (λ i. body_claims i r.body)
    (release_lets ls r.label.0) (body_lets (release_at ls r.label.0) r.body)

-- what the dead owned goes
pub deaths_let : (records : List Record) (dead : List Located) (ls : List (Option Held))
    → ((k : ℕ) (x : Located) → k < length dead → get_or dead k x ≡ x → x.slot.0 < length records)
    → Lets ls (after_deaths records dead ls) (λ i. sum_by (λ x. claims i (record_in records x.slot.0)) dead)
deaths_let records [] ls within = lets_none ls
deaths_let records (x ∷ xs) ls within =
    let at : slice_get records x.slot.0 ≡ Some (record_in records x.slot.0)
    = slice_get-get_or records x.slot.0 blank (within 0 x (omega arith) refl) in
    let first : Lets ls (forgotten ls (slice_get records x.slot.0)) (λ i. claims i (record_in records x.slot.0))
    = subst (λ (v : Option Record). Lets ls (forgotten ls v) (λ i. claims i (record_in records x.slot.0))) (sym at)
    (released_lets ls (record_in records x.slot.0)) in
    lets_as ls (after_deaths records (x ∷ xs) ls)
    (λ i. claims i (record_in records x.slot.0) + sum_by (λ y. claims i (record_in records y.slot.0)) xs)
    (λ i. sum_by (λ y. claims i (record_in records y.slot.0)) (x ∷ xs))
    (λ i. sym (sum_by-cons (λ (y : Located). claims i (record_in records y.slot.0)) x xs))
    (lets_then ls (forgotten ls (slice_get records x.slot.0)) (after_deaths records (x ∷ xs) ls)
    (λ i. claims i (record_in records x.slot.0)) (λ i. sum_by (λ y. claims i (record_in records y.slot.0)) xs)
    first (deaths_let records xs (forgotten ls (slice_get records x.slot.0))
    (λ k y lt is. within (suc k) y (omega arith) is)))

-- a segment
abbrev pub keeps_pages : kept.Kept → Bool
keeps_pages (keeps.Segment pages) = true
keeps_pages (keeps.Container avoid used) = false
keeps_pages keeps.AddressSpace = false
keeps_pages (keeps.Thread t) = false
keeps_pages (keeps.Gate g) = false
keeps_pages keeps.Device = false

-- the slots of what died
abbrev pub dead_slots : List Located → List ℕ
dead_slots dead = map (λ o. o.slot.0) dead

abbrev pub Linked : Holdings → Located → Located → Holdings → Type 0
Linked v c o w = w ≡ v

abbrev pub Died : Holdings → Located → Holdings → Type 0
Died = IsVacated

-- what holdings are once all these died
pub record IsGone (v : Holdings) (dead : List Located) (w : Holdings) : Type 0 where
  pub records : w.records ≡ v.records
  pub labels : w.labels ≡ after_deaths v.records.items dead v.labels
  pub queues : w.queues ≡ v.queues
  pub segments : length w.segments ≡ length v.segments
  pub spaces : length w.spaces ≡ length v.spaces
  pub bytes : (x : ℕ) → bytes_in w.segments x
      ≡ cond (has (dead_slots dead) x && keeps_pages (record_in v.records.items x).body) [] (bytes_in v.segments x)
  pub places : (x : ℕ) → x < length v.spaces → places_at w.spaces x
      ≡ cond (has (dead_slots dead) x && keeps_space (record_in v.records.items x).body) (replicate 16 None)
      (places_at v.spaces x)

no_and : (b : Bool) → (b && false) ≡ false
no_and true = refl
no_and false = refl

read_same : {X : Type 0} (xs : List X) (slot : ℕ) (y d : X) → (slot < length xs) ⊎ (y ≡ d) → get_or (set xs slot y) slot d ≡ y
read_same xs slot y d (inl lt) = get_or-set_same xs slot y d lt
read_same xs slot y d (inr e) = elim (cases_lt slot (length xs)) [
  | inl lt ↦ get_or-set_same xs slot y d lt
  | inr past ↦ ap (λ zs. get_or zs slot d) (set_past xs slot y past) ∙ get_or_past xs slot d past ∙ sym e
]

-- a slot of a list that was written
set_read : {X : Type 0} (xs : List X) (slot x : ℕ) (y d : X) → (x < length xs) ⊎ (y ≡ d)
    → get_or (set xs slot y) x d ≡ cond ((x == slot) && true) y (get_or xs x d)
set_read xs slot x y d fits = elim (cases_Bool (x == slot)) [
  | inl is ↦
      subst (λ (j : ℕ). get_or (set xs j y) x d ≡ y) (eqb-true x slot is) (read_same xs x y d fits)
      ∙ sym (ap (λ (v : Bool). cond (v && true) y (get_or xs x d)) is)
  | inr off ↦
      get_or-set_other xs slot x y d (λ (e : x ≡ slot). both_ways (x == slot) off (eq-eqb x slot e))
      ∙ sym (ap (λ (v : Bool). cond (v && true) y (get_or xs x d)) off)
]

unread : {X : Type 0} (b : Bool) (y base : X) → base ≡ cond (b && false) y base
unread b y base = sym (ap (λ (v : Bool). cond v y base) (no_and b))

bytes_of_left : (b : kept.Kept) (slot x : ℕ) (segs : List (List ℕ)) → bytes_in (bytes_left b slot segs) x
    ≡ cond ((x == slot) && keeps_pages b) [] (bytes_in segs x)
bytes_of_left (keeps.Segment pages) slot x segs = set_read segs slot x [] [] (inr refl)
bytes_of_left (keeps.Container avoid used) slot x segs = unread (x == slot) [] (bytes_in segs x)
bytes_of_left keeps.AddressSpace slot x segs = unread (x == slot) [] (bytes_in segs x)
bytes_of_left (keeps.Thread t) slot x segs = unread (x == slot) [] (bytes_in segs x)
bytes_of_left (keeps.Gate g) slot x segs = unread (x == slot) [] (bytes_in segs x)
bytes_of_left keeps.Device slot x segs = unread (x == slot) [] (bytes_in segs x)

places_of_left : (b : kept.Kept) (slot x : ℕ) (maps : List (List (Option Mapping))) → x < length maps
    → places_at (mappings_left b slot maps) x ≡ cond ((x == slot) && keeps_space b) (replicate 16 None) (places_at maps x)
places_of_left keeps.AddressSpace slot x maps lt = set_read maps slot x (replicate 16 None) [] (inl lt)
places_of_left (keeps.Segment pages) slot x maps lt = unread (x == slot) (replicate 16 None) (places_at maps x)
places_of_left (keeps.Container avoid used) slot x maps lt = unread (x == slot) (replicate 16 None) (places_at maps x)
places_of_left (keeps.Thread t) slot x maps lt = unread (x == slot) (replicate 16 None) (places_at maps x)
places_of_left (keeps.Gate g) slot x maps lt = unread (x == slot) (replicate 16 None) (places_at maps x)
places_of_left keeps.Device slot x maps lt = unread (x == slot) (replicate 16 None) (places_at maps x)

bytes_long : (b : kept.Kept) (slot : ℕ) (segs : List (List ℕ)) → length (bytes_left b slot segs) ≡ length segs
bytes_long (keeps.Segment pages) slot segs = length-set segs slot []
bytes_long (keeps.Container avoid used) slot segs = refl
bytes_long keeps.AddressSpace slot segs = refl
bytes_long (keeps.Thread t) slot segs = refl
bytes_long (keeps.Gate g) slot segs = refl
bytes_long keeps.Device slot segs = refl

places_long : (b : kept.Kept) (slot : ℕ) (maps : List (List (Option Mapping))) → length (mappings_left b slot maps) ≡ length maps
places_long keeps.AddressSpace slot maps = length-set maps slot (replicate 16 None)
places_long (keeps.Segment pages) slot maps = refl
places_long (keeps.Container avoid used) slot maps = refl
places_long (keeps.Thread t) slot maps = refl
places_long (keeps.Gate g) slot maps = refl
places_long keeps.Device slot maps = refl

bytes_long_then : (r : Option Record) (slot : ℕ) (segs : List (List ℕ)) → length (bytes_then r slot segs) ≡ length segs
bytes_long_then None slot segs = refl
bytes_long_then (Some r) slot segs = bytes_long r.body slot segs

places_long_then : (r : Option Record) (slot : ℕ) (maps : List (List (Option Mapping))) → length (mappings_then r slot maps) ≡ length maps
places_long_then None slot maps = refl
places_long_then (Some r) slot maps = places_long r.body slot maps

bytes_of_then : (records : List Record) (slot x : ℕ) (segs : List (List ℕ)) → bytes_in (bytes_then (slice_get records slot) slot segs) x
    ≡ cond ((x == slot) && keeps_pages (record_in records slot).body) [] (bytes_in segs x)
bytes_of_then records slot x segs = elim (cases_lt slot (length records)) [
  | inl lt ↦
      ap (λ (v : Option Record). bytes_in (bytes_then v slot segs) x) (slice_get-get_or records slot blank lt)
      ∙ bytes_of_left (record_in records slot).body slot x segs
  | inr past ↦
      ap (λ (v : Option Record). bytes_in (bytes_then v slot segs) x) (slice_get_past records slot past)
      ∙ unread (x == slot) [] (bytes_in segs x)
      ∙ sym (ap (λ (r : Record). cond ((x == slot) && keeps_pages r.body) [] (bytes_in segs x)) (get_or_past records slot blank past))
]

places_of_then : (records : List Record) (slot x : ℕ) (maps : List (List (Option Mapping))) → x < length maps
    → places_at (mappings_then (slice_get records slot) slot maps) x
    ≡ cond ((x == slot) && keeps_space (record_in records slot).body) (replicate 16 None) (places_at maps x)
places_of_then records slot x maps lt' = elim (cases_lt slot (length records)) [
  | inl lt ↦
      ap (λ (v : Option Record). places_at (mappings_then v slot maps) x) (slice_get-get_or records slot blank lt)
      ∙ places_of_left (record_in records slot).body slot x maps lt'
  | inr past ↦
      ap (λ (v : Option Record). places_at (mappings_then v slot maps) x) (slice_get_past records slot past)
      ∙ unread (x == slot) (replicate 16 None) (places_at maps x)
      ∙ sym (ap (λ (r : Record). cond ((x == slot) && keeps_space r.body) (replicate 16 None) (places_at maps x))
      (get_or_past records slot blank past))
]

twice : {X : Type 0} (a k : Bool) (y base : X) → cond (a && k) y (cond k y base) ≡ cond k y base
twice true true y base = refl
twice true false y base = refl
twice false true y base = refl
twice false false y base = refl

both : {X : Type 0} (a b k j : Bool) (y base : X) → (b ≡ true → j ≡ k)
    → cond (a && k) y (cond (b && j) y base) ≡ cond ((b || a) && k) y base
both a true k j y base same = ap (λ (v : Bool). cond (a && k) y (cond v y base)) (same refl) ∙ twice a k y base
both a false k j y base same = refl

pub told : (v : Holdings) (es : List Event) (w : Holdings) → Follows Linked Died v es w → IsGone v (objects_in es) w
told v [] w f = subst (λ (u : Holdings). IsGone v [] u) f (record {
  records = refl;
  labels = refl;
  queues = refl;
  segments = refl;
  spaces = refl;
  bytes = λ x. refl;
  places = λ x lt. refl;
})
told v (inl x ∷ es) w f = subst (λ (u : Holdings). IsGone u (objects_in es) w) f.1 (told f.0 es w f.2)
told v (inr o ∷ es) w f =
    let u = f.0 in
    let d = f.1 in
    let t = told f.0 es w f.2 in
    record {
      records = t.records ∙ d.records;
      labels = t.labels ∙ (λ i. after_deaths (d.records i).items (objects_in es) (d.labels i));
      queues = t.queues ∙ d.queues;
      segments = t.segments ∙ ap (λ (xs : List (List ℕ)). length xs) d.segments
          ∙ bytes_long_then (slice_get v.records.items o.slot.0) o.slot.0 v.segments;
      spaces = t.spaces ∙ ap (λ (xs : List (List (Option Mapping))). length xs) d.mappings
          ∙ places_long_then (slice_get v.records.items o.slot.0) o.slot.0 v.spaces;
      bytes = λ x. t.bytes x
          ∙ (λ i. cond (has (dead_slots (objects_in es)) x && keeps_pages (record_in (d.records i).items x).body) []
          ((ap (λ (xs : List (List ℕ)). bytes_in xs x) d.segments ∙ bytes_of_then v.records.items o.slot.0 x v.segments) i))
          ∙ both (has (dead_slots (objects_in es)) x) (x == o.slot.0) (keeps_pages (record_in v.records.items x).body)
          (keeps_pages (record_in v.records.items o.slot.0).body) [] (bytes_in v.segments x)
          (λ is. ap (λ (j : ℕ). keeps_pages (record_in v.records.items j).body) (sym (eqb-true x o.slot.0 is)));
      places = λ x lt.
          let long : length u.spaces ≡ length v.spaces
          = ap (λ (xs : List (List (Option Mapping))). length xs) d.mappings
          ∙ places_long_then (slice_get v.records.items o.slot.0) o.slot.0 v.spaces in
          t.places x (omega (arith, lt, long))
          ∙ (λ i. cond (has (dead_slots (objects_in es)) x && keeps_space (record_in (d.records i).items x).body) (replicate 16 None)
          ((ap (λ (xs : List (List (Option Mapping))). places_at xs x) d.mappings
          ∙ places_of_then v.records.items o.slot.0 x v.spaces lt) i))
          ∙ both (has (dead_slots (objects_in es)) x) (x == o.slot.0) (keeps_space (record_in v.records.items x).body)
          (keeps_space (record_in v.records.items o.slot.0).body) (replicate 16 None) (places_at v.spaces x)
          (λ is. ap (λ (j : ℕ). keeps_space (record_in v.records.items j).body) (sym (eqb-true x o.slot.0 is)));
    }

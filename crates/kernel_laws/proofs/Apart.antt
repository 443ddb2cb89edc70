-- The mappings of an address space never overlap.
use Rattle.std.proofs.Common.{◌≡◌, ◌≢◌, ◌+◌, ℕ, Bool, true, false, cond, List, [], ◌∷◌, Option, Some, None}
use Rattle.std.proofs.Common.{zero, suc, refl, sym, ◌∙◌, ap, subst, arith, Less, Equal, Greater}
use Rattle.std.specs.List.{list_any, filter, slice_get, slice_index_or, slice_set, AllByRecursion}
use Rattle.std.specs.Map.{lookup, set_value}
use Rattle.std.specs.BTreeMap.{is_at, insert_entry}
use Rattle.std.specs.Ordering.{nat_cmp, match_ordering}
use Rattle.std.specs.Prelude.{nat_le, nat_lt, replicate, is_some, ◌++◌}
use Rattle.std.proofs.lemmas.Bool.{and_parts, and_from, or_parts, leb-true, ltb-true, lt-ltb}
use Rattle.std.proofs.lemmas.List.{get_or-set_other}
use Rattle.base.specs.declared.ranges.Limits.{Limits}
use Rattle.label_lattice.specs.Label.{LabelValue}
use Rattle.label_lattice.specs.LabelRules.{stored}
use Rattle.kernel_rules.specs.State.{State, object_at, of_object, slots_at, slots_of, gate_at, live_part}
use Rattle.kernel_rules.specs.Translate.{covers, slot_in, slot_at}
use Rattle.kernel_rules.specs.Runs.{booted, state_after}
use Rattle.kernel_rules.specs.Conditions.{meets}
use Rattle.kernel_rules.specs.Table.{halted, refused, row}
use Rattle.kernel_rules.specs.Step.{next, edit, restricted, owned, made_of, made_bearer, through_gate}
use Rattle.kernel_rules.specs.Step.{stored_at, with_value}
use Rattle.kernel_rules.specs.Changes.{changed, put, fresh_object, owning, listing, entered}
use Rattle.kernel_rules.specs.Changes.{rebyte, relist, rethread, requeue, reslot}
use Rattle.kernel_rules.specs.declared.calls.Call.{Call}
use Rattle.kernel_rules.specs.declared.calls.Call.TheVariants as call
use Rattle.kernel_rules.specs.declared.objects.Body.{Body}
use Rattle.kernel_rules.specs.declared.objects.Body.TheVariants as is
use Rattle.kernel_rules.specs.declared.objects.Gate.{Gate}
use Rattle.kernel_rules.specs.declared.objects.Mapping.{Mapping}
use Rattle.kernel_rules.specs.declared.objects.Object.{Object}
use Rattle.kernel_rules.specs.declared.objects.Thread as thread
use Rattle.kernel_rules.specs.declared.places.Place.{Place}
use Rattle.kernel_rules.proofs.LookupLaws.{at_self}
use Rattle.kernel_rules.proofs.RecordLaws.{same_id}
use Rattle.kernel_rules.proofs.RowLaws.{none_hold}
use Rattle.kernel_rules.proofs.StepLaws.{step_refused, step_done}

-- at most one of the slots covers a page
abbrev pub Apart : List (Option Mapping) → Type 0
Apart xs =
    (page i j : ℕ) → covers page (slice_index_or xs i None) ≡ true → covers page (slice_index_or xs j None) ≡ true
    → i ≡ j

-- of each object
abbrev pub AllApart : List (ℕ × Object) → Type 0
AllApart es = AllByRecursion (λ e. Apart (slots_of e.1.body)) es

either : {G : Type 0} (i k : ℕ) → (i ≡ k → G) → (i ≢ k → G) → G
either {G} i k same other =
    elim (is_at (nat_cmp i) k) as (λ v. is_at (nat_cmp i) k ≡ v → G) [
      | true ↦ λ near. same (same_id i k near)
      | false ↦ λ far. other (λ e.
          let near : is_at (nat_cmp i) k ≡ true = subst (λ z. is_at (nat_cmp i) z ≡ true) e (at_self i) in
          absurd (cc))
    ] refl

-- a mapping that covers a page meets each slot that covers it
pub both_meet : (page : ℕ) (m : Mapping) (x : Option Mapping) → covers page (Some m) ≡ true → covers page x ≡ true
    → meets m x ≡ true
both_meet page m None h g = absurd (cc)
both_meet page m (Some n) h g =
    let a = and_parts (nat_le m.page page) (nat_lt page (m.page + m.count)) h in
    let b = and_parts (nat_le n.page page) (nat_lt page (n.page + n.count)) g in
    and_from (nat_lt m.page (n.page + n.count)) (nat_lt n.page (m.page + m.count))
    (lt-ltb m.page (n.page + n.count) (omega (arith, leb-true m.page page a.0, ltb-true page (n.page + n.count) b.1)))
    (lt-ltb n.page (m.page + m.count) (omega (arith, leb-true n.page page b.0, ltb-true page (m.page + m.count) a.1)))

pub none_meets : (page : ℕ) (m : Mapping) (xs : List (Option Mapping)) (j : ℕ) → covers page (Some m) ≡ true
    → list_any (meets m) xs ≡ false → covers page (slice_index_or xs j None) ≡ true → ⊥
none_meets page m [] j h none g = absurd (cc)
none_meets page m (x ∷ xs) zero h none g =
    let met = both_meet page m x h g in
    let not_met = (or_parts (meets m x) (list_any (meets m) xs) none).0 in
    absurd (cc)
none_meets page m (x ∷ xs) (suc j) h none g =
    none_meets page m xs j h (or_parts (meets m x) (list_any (meets m) xs) none).1 g

-- what the place that was set covers, what was put there covers
set_covers : (page : ℕ) (xs : List (Option Mapping)) (k : ℕ) (v : Option Mapping)
    → covers page (slice_index_or (slice_set xs k v) k None) ≡ true → covers page v ≡ true
set_covers page [] k v h = absurd (cc)
set_covers page (x ∷ xs) zero v h = h
set_covers page (x ∷ xs) (suc k) v h = set_covers page xs k v h

other_covers : (page : ℕ) (xs : List (Option Mapping)) (k i : ℕ) (v : Option Mapping) → i ≢ k
    → covers page (slice_index_or (slice_set xs k v) i None) ≡ true → covers page (slice_index_or xs i None) ≡ true
other_covers page xs k i v other h = subst (λ x. covers page x ≡ true) (get_or-set_other xs k i v None other) h

pub apart_set : (xs : List (Option Mapping)) (k : ℕ) (m : Mapping) → list_any (meets m) xs ≡ false → Apart xs
    → Apart (slice_set xs k (Some m))
apart_set xs k m none apart page i j hi hj =
    either i k
    (λ at_i. either j k (λ at_j. at_i ∙ sym at_j)
    (λ not_j. absurd (none_meets page m xs j
    (set_covers page xs k (Some m) (subst (λ z. covers page (slice_index_or (slice_set xs k (Some m)) z None) ≡ true) at_i hi))
    none (other_covers page xs k j (Some m) not_j hj))))
    (λ not_i. either j k
    (λ at_j. absurd (none_meets page m xs i
    (set_covers page xs k (Some m) (subst (λ z. covers page (slice_index_or (slice_set xs k (Some m)) z None) ≡ true) at_j hj))
    none (other_covers page xs k i (Some m) not_i hi)))
    (λ not_j. apart page i j (other_covers page xs k i (Some m) not_i hi) (other_covers page xs k j (Some m) not_j hj)))

apart_emptied : (xs : List (Option Mapping)) (k : ℕ) → Apart xs → Apart (slice_set xs k None)
apart_emptied xs k apart page i j hi hj =
    either i k
    (λ at_i. absurd (nothing (subst (λ z. covers page (slice_index_or (slice_set xs k None) z None) ≡ true) at_i hi)))
    (λ not_i. either j k
    (λ at_j. absurd (nothing (subst (λ z. covers page (slice_index_or (slice_set xs k None) z None) ≡ true) at_j hj)))
    (λ not_j. apart page i j (other_covers page xs k i None not_i hi) (other_covers page xs k j None not_j hj)))
  where
    nothing : covers page (slice_index_or (slice_set xs k None) k None) ≡ true → ⊥
    nothing h = let v : false ≡ true = set_covers page xs k None h in absurd (cc)

-- nothing covers a page among slots of none
empty_slots : (n page i : ℕ) → covers page (slice_index_or (replicate n None) i None) ≡ true → ⊥
empty_slots zero page i h = absurd (cc)
empty_slots (suc n) page zero h = absurd (cc)
empty_slots (suc n) page (suc i) h = empty_slots n page i h

pub apart_empty : (n : ℕ) → Apart (replicate n None)
apart_empty n page i j hi hj = absurd (empty_slots n page i hi)

pub apart_none : Apart []
apart_none page i j hi hj = absurd (cc)

apart_put : (test : ℕ → Bool) (es : List (ℕ × Object)) (x : Object) → Apart (slots_of x.body) → AllApart es
    → AllApart (set_value test es x)
apart_put test [] x new all = tt
apart_put test (e ∷ es) x new all =
    elim (test e.0) as (λ v. AllApart (cond v ((e.0, x) ∷ es) (e ∷ set_value test es x))) [
      | true ↦ (new, all.1)
      | false ↦ (all.0, apart_put test es x new all.1)
    ]

apart_inserted : (es : List (ℕ × Object)) (k : ℕ) (x : Object) → Apart (slots_of x.body) → AllApart es
    → AllApart (insert_entry nat_cmp es k x)
apart_inserted [] k x new all = (new, tt)
apart_inserted (e ∷ es) k x new all =
    elim (nat_cmp k e.0)
    as (λ v. AllApart (match_ordering v ((k, x) ∷ e ∷ es) ((e.0, x) ∷ es) (e ∷ insert_entry nat_cmp es k x))) [
      | Less ↦ (new, all)
      | Equal ↦ (new, all.1)
      | Greater ↦ (all.0, apart_inserted es k x new all.1)
    ]

apart_filtered : (test : ℕ × Object → Bool) (es : List (ℕ × Object)) → AllApart es → AllApart (filter test es)
apart_filtered test [] all = tt
apart_filtered test (e ∷ es) all =
    elim (test e) as (λ v. AllApart (cond v (e ∷ filter test es) (filter test es))) [
      | true ↦ (all.0, apart_filtered test es all.1)
      | false ↦ apart_filtered test es all.1
    ]

pub apart_found : (o : ℕ) (es : List (ℕ × Object)) (x : Object) → AllApart es → lookup (is_at (nat_cmp o)) es ≡ Some x
    → Apart (slots_of x.body)
apart_found o [] x all found = absurd (cc)
apart_found o (e ∷ es) x all found =
    elim (is_at (nat_cmp o) e.0)
    as (λ v. cond v (Some e.1) (lookup (is_at (nat_cmp o)) es) ≡ Some x → Apart (slots_of x.body)) [
      | true ↦ λ h. let same : e.1 ≡ x = cc in subst (λ (z : Object). Apart (slots_of z.body)) same all.0
      | false ↦ λ h. apart_found o es x all.1 h
    ] found

-- the mappings of each address space of a state are apart
abbrev pub Sound : State → Type 0
Sound s = AllApart s.objects

sound_changed : (s : State) (d : ℕ) (f : Object → Object)
    → ((x : Object) → object_at s d ≡ Some x → Apart (slots_of x.body) → Apart (slots_of (f x).body))
    → Sound s → Sound (changed s d f)
sound_changed s d f keeps sound =
    elim (object_at s d) as (λ v. object_at s d ≡ v → Sound (of_object s (λ x. put s d (f x)) v)) [
      | None ↦ λ h. sound
      | Some x ↦ λ h. apart_put (is_at (nat_cmp d)) s.objects (f x) (keeps x h (apart_found d s.objects x sound h)) sound
    ] refl

-- a change that leaves the slots as they are
sound_kept : (s : State) (d : ℕ) (f : Object → Object) → ((x : Object) → slots_of (f x).body ≡ slots_of x.body)
    → Sound s → Sound (changed s d f)
sound_kept s d f same =
    sound_changed s d f (λ x found apart. subst (λ (xs : List (Option Mapping)). Apart xs) (sym (same x)) apart)

bytes_keep : (f : List ℕ → List ℕ) (b : Body) → slots_of (rebyte f b) ≡ slots_of b
bytes_keep f (is.Segment bytes) = refl
bytes_keep f (is.Container avoid list) = refl
bytes_keep f (is.AddressSpace slots) = refl
bytes_keep f (is.Thread t) = refl
bytes_keep f (is.Gate g) = refl
bytes_keep f (is.Device packets) = refl

list_keeps : (f : List ℕ → List ℕ) (b : Body) → slots_of (relist f b) ≡ slots_of b
list_keeps f (is.Segment bytes) = refl
list_keeps f (is.Container avoid list) = refl
list_keeps f (is.AddressSpace slots) = refl
list_keeps f (is.Thread t) = refl
list_keeps f (is.Gate g) = refl
list_keeps f (is.Device packets) = refl

thread_keeps : (f : thread.Thread → thread.Thread) (b : Body) → slots_of (rethread f b) ≡ slots_of b
thread_keeps f (is.Segment bytes) = refl
thread_keeps f (is.Container avoid list) = refl
thread_keeps f (is.AddressSpace slots) = refl
thread_keeps f (is.Thread t) = refl
thread_keeps f (is.Gate g) = refl
thread_keeps f (is.Device packets) = refl

queue_keeps : (f : List (List ℕ) → List (List ℕ)) (b : Body) → slots_of (requeue f b) ≡ slots_of b
queue_keeps f (is.Segment bytes) = refl
queue_keeps f (is.Container avoid list) = refl
queue_keeps f (is.AddressSpace slots) = refl
queue_keeps f (is.Thread t) = refl
queue_keeps f (is.Gate g) = refl
queue_keeps f (is.Device packets) = refl

-- a change of slots that keeps them apart
slots_apart : (f : List (Option Mapping) → List (Option Mapping)) (b : Body)
    → (Apart (slots_of b) → Apart (f (slots_of b))) → Apart (slots_of b) → Apart (slots_of (reslot f b))
slots_apart f (is.AddressSpace slots) keeps apart = keeps apart
slots_apart f (is.Container avoid list) keeps apart = apart
slots_apart f (is.Segment bytes) keeps apart = apart
slots_apart f (is.Thread t) keeps apart = apart
slots_apart f (is.Gate g) keeps apart = apart
slots_apart f (is.Device packets) keeps apart = apart

sound_made : (s : State) (d : ℕ) (x : Option LabelValue) (q : ℕ) (b : Body) → Apart (slots_of b) → Sound s
    → Sound (made_of s d x q b)
sound_made s d None q b new sound = sound
sound_made s d (Some l) q b new sound =
    apart_inserted (changed s d (listing s.next_id)).objects (changed s d (listing s.next_id)).next_id
    (fresh_object l q b) new (sound_kept s d (listing s.next_id) (λ x. list_keeps _ x.body) sound)

sound_value : {X : Type 0} (s : State) (v : Option X) (f : X → State) → ((x : X) → Sound (f x)) → Sound s
    → Sound (with_value s v f)
sound_value s None f each sound = sound
sound_value s (Some x) f each sound = each x

sound_bearer : (s : State) (d : ℕ) (x : Option LabelValue) (q : ℕ) (y : Option LabelValue) (b : LabelValue → Body)
    → ((c : LabelValue) → Apart (slots_of (b c))) → Sound s → Sound (made_bearer s d x q y b)
sound_bearer s d x q y b new sound =
    sound_value s y (λ c. made_of s d x q (b c)) (λ c. sound_made s d x q (b c) (new c) sound) sound

sound_owned : (s : State) (t : ℕ) (l c : Option LabelValue) → Sound s → Sound (owned s t l c)
sound_owned s t None c sound = sound
sound_owned s t (Some l) None sound = sound
sound_owned s t (Some l) (Some c) sound = sound_kept s t (owning l c) (λ x. thread_keeps _ x.body) sound

sound_gate : (s : State) (t : ℕ) (r q v : Option LabelValue) (g : Option Gate) → Sound s
    → Sound (through_gate s t r q v g)
sound_gate s t r q v g sound =
    sound_value s r _ (λ l. sound_value s q _ (λ c. sound_value s v _ (λ w. sound_value s g _ (λ gate.
    sound_kept s t (entered l c w gate) (λ x. thread_keeps _ x.body) sound) sound) sound) sound) sound

sound_stored : (s : State) (p : Option Place) (bytes : List ℕ) → Sound s → Sound (stored_at s p bytes)
sound_stored s None bytes sound = sound
sound_stored s (Some p) bytes sound = sound_kept s p.segment _ (λ x. bytes_keep _ x.body) sound

-- the slots that a call names are those of the object that is found
slots_here : (s : State) (a : ℕ) (x : Object) → object_at s a ≡ Some x → slots_at s a ≡ slots_of x.body
slots_here s a x found = ap (λ v. of_object [] (λ z. slots_of z.body) v) found

edit_sound : (s : State) (t : ℕ) (c : Call) → refused s t c ≡ None → Sound s → Sound (edit s t c)
unfolding refused
edit_sound s t call.CatCreate h sound = sound_owned s t _ _ sound
edit_sound s t (call.SelfSetLabel x) h sound = sound_value s _ _ (λ l. sound_kept s t _ (λ z. refl) sound) sound
edit_sound s t (call.SelfSetClearance y) h sound =
    sound_value s _ _ (λ c. sound_kept s t _ (λ z. thread_keeps _ z.body) sound) sound
edit_sound s t (call.SelfSetAs e) h sound = sound_kept s t _ (λ z. thread_keeps _ z.body) sound
edit_sound s t (call.ContainerCreate m) h sound = sound_made s m.container _ m.quota _ apart_none sound
edit_sound s t (call.SegmentCreate m) h sound = sound_made s m.container _ m.quota _ apart_none sound
edit_sound s t (call.SegmentCopy m) h sound = sound_made s m.container _ m.quota _ apart_none sound
edit_sound s t (call.AsCreate m) h sound = sound_made s m.container _ m.quota _ (apart_empty 16) sound
edit_sound s t (call.ThreadCreate m) h sound = sound_bearer s m.container _ m.quota _ _ (λ c. apart_none) sound
edit_sound s t (call.GateCreate m) h sound = sound_bearer s m.container _ m.quota _ _ (λ c. apart_none) sound
edit_sound s t (call.Link d e) h sound = sound_kept s d _ (λ z. list_keeps _ z.body) sound
edit_sound s t (call.Unref e) h sound = sound_kept s e.container _ (λ z. list_keeps _ z.body) sound
edit_sound s t (call.QuotaMove e m) h sound = sound_kept s e.object _ (λ z. refl) sound
edit_sound s t (call.SetFixed e) h sound = sound_kept s e.object _ (λ z. refl) sound
edit_sound s t (call.SetImmutable e) h sound = sound_kept s e.object _ (λ z. refl) sound
edit_sound s t (call.MetaSet e bytes) h sound = sound_kept s e.object _ (λ z. refl) sound
edit_sound s t (call.SegmentResize e pages) h sound = sound_kept s e.object _ (λ z. bytes_keep _ z.body) sound
edit_sound s t (call.SegmentWrite e a bytes) h sound = sound_kept s e.object _ (λ z. bytes_keep _ z.body) sound
edit_sound s t (call.AsMap e slot m) h sound =
    let none = none_hold (halted s t ++ row s t (call.AsMap e slot m)) h in
    let apart = (or_parts (is_some (slot_at s e.object slot)) (list_any (meets m) (slots_at s e.object))
    none.1.1.1.1.1.1.1.1.1.1.1.0).1 in
    sound_changed s e.object _
    (λ x found. slots_apart (λ slots. slice_set slots slot (Some m)) x.body
    (apart_set (slots_of x.body) slot m
    (ap (λ (xs : List (Option Mapping)). list_any (meets m) xs) (sym (slots_here s e.object x found)) ∙ apart)))
    sound
edit_sound s t (call.AsUnmap e slot) h sound =
    sound_changed s e.object _
    (λ x found. slots_apart (λ slots. slice_set slots slot None) x.body (apart_emptied (slots_of x.body) slot)) sound
edit_sound s t (call.Store address bytes) h sound = sound_stored s _ bytes sound
edit_sound s t (call.GateEnter e r q v) h sound =
    sound_gate s t (stored r) (stored q) (stored v) (gate_at s e.object) sound
edit_sound s t (call.DevSend e bytes) h sound = sound_kept s e.object _ (λ z. queue_keeps _ z.body) sound
edit_sound s t (call.DevRecv e) h sound = sound_kept s e.object _ (λ z. queue_keeps _ z.body) sound

sound_live : (s : State) → Sound s → Sound (restricted s)
unfolding live_part
sound_live s sound = apart_filtered _ s.objects sound

pub next_sound : (s : State) (t : ℕ) (c : Call) → Sound s → Sound (next s t c)
next_sound s t c sound =
    elim (refused s t c) as (λ v. refused s t c ≡ v → Sound (next s t c)) [
      | None ↦ λ h. subst (λ n. Sound n) (sym (step_done s t c h).1) (sound_live (edit s t c) (edit_sound s t c h sound))
      | Some r ↦ λ h. subst (λ n. Sound n) (sym (step_refused s t c r h).1) sound
    ] refl

pub after_sound : (s : State) (calls : List (ℕ × Call)) → Sound s → Sound (state_after s calls)
after_sound s [] sound = sound
after_sound s (c ∷ calls) sound = after_sound (next s c.0 c.1) calls (next_sound s c.0 c.1 sound)

pub boot_sound : (l : Limits) → Sound (booted l)
boot_sound l = (apart_none, (apart_none, (apart_none, tt)))

pub slot_read : (xs : List (Option Mapping)) (i : ℕ) → slot_in (slice_get xs i) ≡ slice_index_or xs i None
slot_read [] i = refl
slot_read (x ∷ xs) zero = refl
slot_read (x ∷ xs) (suc i) = slot_read xs i

pub state_apart : (s : State) (a : ℕ) → Sound s → Apart (slots_at s a)
state_apart s a sound =
    elim (object_at s a)
    as (λ v. object_at s a ≡ v → Apart (of_object [] (λ x. slots_of x.body) v)) [
      | None ↦ λ h. apart_none
      | Some x ↦ λ h. apart_found a s.objects x sound h
    ] refl

pub mappings_apart : (limits : Limits) (calls : List (ℕ × Call)) (a page i j : ℕ)
    → covers page (slot_at (state_after (booted limits) calls) a i) ≡ true
    → covers page (slot_at (state_after (booted limits) calls) a j) ≡ true → i ≡ j
mappings_apart limits calls a page i j hi hj =
    let s = state_after (booted limits) calls in
    state_apart s a (after_sound (booted limits) calls (boot_sound limits)) page i j
    (subst (λ x. covers page x ≡ true) (slot_read (slots_at s a) i) hi)
    (subst (λ x. covers page x ≡ true) (slot_read (slots_at s a) j) hj)

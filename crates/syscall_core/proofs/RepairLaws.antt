-- Rows that a change does not touch.
use Rattle.std.proofs.Common.{◌≡◌, ◌≢◌, ℕ, Bool, true, false, not, ◌&&◌, ◌||◌, ◌==◌, List, [], ◌∷◌, ◌++◌, Option, Some, None}
use Rattle.std.proofs.Common.{refl, sym, subst, ap, ◌∙◌, inl, inr, slice_get, slice_set, suc, zero}
use Rattle.std.specs.List.{list_any}
use Rattle.std.specs.Option.{option_map}
use Rattle.std.proofs.lemmas.Bool.{and_from, both_ways, cases_Bool, eq-eqb}
use Rattle.base.specs.declared.kinds.Kind.TheVariants as kinds
use Rattle.kernel_rules.specs.Changes.{changed, delisting, listing, made_immutable, put, reslot, with_body, without}
use Rattle.kernel_rules.specs.State.{State, is_kind_at, label_at, object_at, of_object, slots_at, slots_of}
use Rattle.kernel_rules.specs.Step.{restricted}
use Rattle.kernel_rules.specs.Translate.{names_none, own_space, slot_at, slot_in, translate}
use Rattle.kernel_rules.specs.declared.calls.Entry.{Entry}
use Rattle.kernel_rules.specs.declared.objects.Mapping.{Mapping}
use Rattle.kernel_rules.specs.declared.objects.Object.{Object}
use Rattle.kernel_rules.proofs.RecordLaws.{restricted_live}
use Rattle.kernel_rules.proofs.WellFormedLaws.{soundness_of}
use Rattle.kernel_laws.specs.Through.{Through, mapped_entry, slot_by}
use Rattle.kernel_laws.proofs.Bodies.{slots-relist, thread-relist, thread-reslot}
use Rattle.kernel_laws.proofs.Depends.{row_reads_lem}
use Rattle.kernel_laws.proofs.Lists.{listing_lem}
use Rattle.kernel_laws.proofs.Made.{none_named_lem}
use Rattle.kernel_laws.proofs.Put.{at_any, at_other, entry_put, found_or_same, label_read, slot_put, space_read}
use Rattle.kernel_laws.proofs.Slots.{slot_lem}
use Rattle.arena_memory.specs.Rows.{BySlot}
use Rattle.arena_state.specs.Shown.{AreKept, AreKeptBut, KeepsAllSlots}
use Rattle.arena_state.specs.States.{state_of}
use Rattle.arena_state.specs.Touched.{goes_by, is_same, maps, reaches, reaches_by, touches}
use Rattle.arena_state.specs.declared.rows.repairs.Change.{Change}
use Rattle.arena_state.specs.declared.rows.repairs.Change.TheVariants as change
use Rattle.arena_state.specs.declared.states.ArenaState.{ArenaState}
use Rattle.arena_state.proofs.RepairedLaws.{rest_live, rest_own, rows_left}
use Rattle.arena_state.proofs.ShownLaws.{by_own_space}
use Rattle.arena_state.proofs.StockLaws.{whole_formed}
use Rattle.containers.specs.Tree.{Tree, HasSlot}
use Rattle.syscall_core.specs.Kernel.{cut_touches}
use Rattle.syscall_core.proofs.RowLaws.{changed_limits, same_space}
use Rattle.syscall_core.proofs.UnrefLaws.{row_rest}

-- what none of the slots is, no slot is
pub or_off : (a b : Bool) → (a || b) ≡ false → (a ≡ false) × (b ≡ false)
or_off true b h = absurd (cc)
or_off false b h = (refl, h)

none_of : (p : Option Mapping → Bool) (slots : List (Option Mapping)) (i : ℕ) → p None ≡ false → list_any p slots ≡ false
    → p (slot_in (slice_get slots i)) ≡ false
none_of p [] i none h = none
none_of p (m ∷ ms) zero none h = (or_off (p m) (list_any p ms) h).0
none_of p (m ∷ ms) (suc i) none h = none_of p ms i none (or_off (p m) (list_any p ms) h).1

-- a row goes through no entry that is the change's
by_mapping : (e f : Entry) (v : Option Mapping) → goes_by e v ≡ false → option_map (λ m. m.entry) v ≡ Some f
    → is_same f e ≡ false
by_mapping e f None h is = absurd (cc)
by_mapping e f (Some m) h is =
    let same : m.entry ≡ f = cc in
    subst (λ (z : Entry). is_same z e ≡ false) same h

entry_untouched : (s : State) (e space : Entry) (t i : ℕ) → own_space s t ≡ Some space → reaches s (change.Entry e) space ≡ false
    → (f : Entry) → Through s t i f → is_same f e ≡ false
entry_untouched s e space t i own off f (inl is) =
    let both : Some space ≡ Some f = sym own ∙ is in
    let same : space ≡ f = cc in
    subst (λ (z : Entry). is_same z e ≡ false) same
    (or_off (is_same space e) (list_any (goes_by e) (slots_at s space.object)) off).0
entry_untouched s e space t i own off f (inr is) =
    by_mapping e f (slot_at s space.object i)
    (none_of (goes_by e) (slots_at s space.object) i refl
    (or_off (is_same space e) (list_any (goes_by e) (slots_at s space.object)) off).1)
    (sym (ap (λ (v : Option Entry). option_map (λ m. m.entry) (slot_by s i v)) own) ∙ is)

-- the thread is in another address space
space_untouched : (a : ℕ) (space f : Entry) → (space.object == a) ≡ false → Some space ≡ Some f → f.object ≢ a
space_untouched a space f off is on =
    let same : space ≡ f = cc in
    both_ways (space.object == a) off (eq-eqb space.object a (ap (λ (z : Entry). z.object) same ∙ on))

-- no slot maps the object
object_untouched : (s : State) (o t i : ℕ) (space : Entry) → own_space s t ≡ Some space
    → reaches s (change.Object o) space ≡ false → (f : Entry) → mapped_entry s t i ≡ Some f → f.object ≢ o
object_untouched s o t i space own off f is =
    by_mapped (slot_at s space.object i) (none_of (maps o) (slots_at s space.object) i refl off)
    (sym (ap (λ (v : Option Entry). option_map (λ m. m.entry) (slot_by s i v)) own) ∙ is)
  where
    by_mapped : (v : Option Mapping) → maps o v ≡ false → option_map (λ m. m.entry) v ≡ Some f → f.object ≢ o
    by_mapped None h is on = absurd (cc)
    by_mapped (Some m) h is on =
        let same : m.entry ≡ f = cc in
        both_ways (m.entry.object == o) h (eq-eqb m.entry.object o (ap (λ (z : Entry). z.object) same ∙ on))

-- what a change touches is the same before and after one that leaves address spaces
pub same_slots_at : (s : State) (o : ℕ) (f : Object → Object) → ((x : Object) → slots_of (f x).body ≡ slots_of x.body) → (a : ℕ)
    → slots_at (changed s o f) a ≡ slots_at s a
same_slots_at s o f same a =
    elim (object_at s o)
    as (λ v. object_at s o ≡ v → slots_at (of_object s (λ x. put s o (f x)) v) a ≡ slots_at s a) [
      | None ↦ λ found. refl
      | Some x ↦ λ found. at_any (of_object [] (λ z. slots_of z.body)) s o a x (f x) found (same x)
    ] refl

same_reach : (s n : State) (c : Change) (space : Entry) → slots_at n space.object ≡ slots_at s space.object
    → reaches n c space ≡ reaches s c space
same_reach s n (change.Entry e) space slots =
    ap (λ (l : List (Option Mapping)). is_same space e || list_any (goes_by e) l) slots
same_reach s n (change.Space a) space slots = refl
same_reach s n (change.Object o) space slots = ap (λ (l : List (Option Mapping)). list_any (maps o) l) slots
same_reach s n change.All space slots = refl

-- a thread that names no address space shows nothing before a change to state n nor after it
spaceless : (s n : State) (c : Change) (t i : ℕ) → own_space n t ≡ own_space s t → touches n c t ≡ false
    → ((space : Entry) → own_space s t ≡ Some space → reaches n c space ≡ false → translate n t i ≡ translate s t i)
    → translate n t i ≡ translate s t i
spaceless s n c t i own off same = by_space (own_space s t) refl
  where
    by_space : (v : Option Entry) → own_space s t ≡ v → translate n t i ≡ translate s t i
    by_space None is = sym (by_own_space n t i None (sym (own ∙ is))) ∙ by_own_space s t i None (sym is)
    by_space (Some space) is = elim (cases_Bool (names_none space)) [
      | inl none ↦ none_named_lem n t i space (own ∙ is) none ∙ sym (none_named_lem s t i space is none)
      | inr named ↦ same space is
          (sym (ap (λ (b : Bool). not b && reaches n c space) named) ∙ sym (ap (reaches_by n c) (own ∙ is)) ∙ off)
    ]

-- after a change to state n
left : (a b : ArenaState) (c : Change) (rows : BySlot) (n : State) → state_of b ≡ n → AreKept a rows → KeepsAllSlots a b
    → n.limits ≡ (state_of a).limits
    → ((t : ℕ) → (object_at n t ≡ None → ⊥) → own_space n t ≡ own_space (state_of a) t)
    → ((t i : ℕ) (space : Entry) → own_space n t ≡ own_space (state_of a) t → own_space (state_of a) t ≡ Some space
    → reaches n c space ≡ false → translate n t i ≡ translate (state_of a) t i) → AreKeptBut b c 0 rows
left a b c rows n is k slots limits own same =
    rows_left a b c rows k slots (ap (λ (s : State). s.limits) is ∙ limits)
    (subst (λ (m : State). (t : ℕ) → (object_at m t ≡ None → ⊥) → own_space m t ≡ own_space (state_of a) t) (sym is) own)
    (subst (λ (m : State). (t i : ℕ) → own_space m t ≡ own_space (state_of a) t → touches m c t ≡ false
    → translate m t i ≡ translate (state_of a) t i) (sym is)
    (λ t i stays off. spaceless (state_of a) n c t i stays off (λ space on away. same t i space stays on away)))

-- what goes by no other entry
apart_from : (d o : ℕ) (f : Entry) → is_same f (record { container = d; object = o }) ≡ false → f.container ≡ d → f.object ≢ o
apart_from d o f off at same =
    both_ways (is_same f (record { container = d; object = o })) off
    (and_from (f.container == d) (f.object == o) (eq-eqb f.container d at) (eq-eqb f.object o same))

-- a container that lists one more touches what goes by that entry
pub link_left : (a b : ArenaState) (rows : BySlot) (d o : ℕ) → AreKept a rows → KeepsAllSlots a b
    → state_of b ≡ changed (state_of a) d (listing o)
    → AreKeptBut b (change.Entry (record { container = d; object = o })) 0 rows
link_left a b rows d o k slots is =
    let s = state_of a in
    let n = changed s d (listing o) in
    let e : Entry = record { container = d; object = o } in
    left a b (change.Entry e) rows n is k slots (changed_limits s d (listing o))
    (λ t there. same_space s d (listing o) (λ x. ap (option_map (λ r. r.space)) (thread-relist (λ ids. ids ++ o ∷ []) x.body)) t)
    (λ t i space stays own off. listing_lem s d o t i (soundness_of s (whole_formed a.pieces a.sound a.stocked)).live
    (λ f on. apart_from d o f
    (entry_untouched s e space t i own
    (sym (same_reach s n (change.Entry e) space
    (same_slots_at s d (listing o) (λ x. slots-relist (λ ids. ids ++ o ∷ []) x.body) space.object)) ∙ off) f on)))

-- after an unreference
module _ (a b : ArenaState) (rows : BySlot) (d o : ℕ) (k : AreKept a rows) (slots : KeepsAllSlots a b)
    (is : state_of b ≡ restricted (changed (state_of a) d (delisting o))) where
  pub cut_own : (t : ℕ) → (object_at (restricted (changed (state_of a) d (delisting o))) t ≡ None → ⊥)
      → own_space (restricted (changed (state_of a) d (delisting o))) t ≡ own_space (state_of a) t
  cut_own t there =
      rest_own (changed (state_of a) d (delisting o)) t there
      ∙ same_space (state_of a) d (delisting o) (λ x. ap (option_map (λ r. r.space)) (thread-relist (without o) x.body)) t

  -- a container that may be gone touches all threads
  all_left : AreKeptBut b change.All 0 rows
  all_left =
      left a b change.All rows (restricted (changed (state_of a) d (delisting o))) is k slots
      (changed_limits (state_of a) d (delisting o)) cut_own (λ t i space stays own off. absurd (both_ways true off refl))

  -- any other object touches what goes by that entry
  plain_left : is_kind_at (state_of a) kinds.Container o ≡ false
      → AreKeptBut b (change.Entry (record { container = d; object = o })) 0 rows
  plain_left plain =
      left a b (change.Entry (record { container = d; object = o })) rows
      (restricted (changed (state_of a) d (delisting o))) is k slots
      (changed_limits (state_of a) d (delisting o)) cut_own
      (λ t i space stays own off. by_object (object_at (state_of a) d) refl t i space (stays ∙ own) own off)
    where
      by_object : (v : Option Object) → object_at (state_of a) d ≡ v → (t i : ℕ) (space : Entry)
          → own_space (restricted (of_object (state_of a) (λ x. put (state_of a) d (delisting o x)) v)) t ≡ Some space
          → own_space (state_of a) t ≡ Some space
          → reaches (restricted (of_object (state_of a) (λ x. put (state_of a) d (delisting o x)) v))
          (change.Entry (record { container = d; object = o })) space ≡ false
          → translate (restricted (of_object (state_of a) (λ x. put (state_of a) d (delisting o x)) v)) t i
          ≡ translate (state_of a) t i
      by_object None found t i space now own off =
          ap (λ (n : State). translate n t i)
          (restricted_live (state_of a) (soundness_of (state_of a) (whole_formed a.pieces a.sound a.stocked)).live)
      by_object (Some x) found t i space now own off =
          let s = state_of a in
          let n = put s d (delisting o x) in
          let e : Entry = record { container = d; object = o } in
          row_rest s d o x found (soundness_of s (whole_formed a.pieces a.sound a.stocked)).rise plain t i space
          (rest_live n t space now) own
          (apart_from d o space
          (or_off (is_same space e) (list_any (goes_by e) (slots_at (restricted n) space.object)) off).0)
          (λ same f on. apart_from d o f
          (entry_untouched s e space t i own (sym (same_reach s (restricted n) (change.Entry e) space same) ∙ off) f on))

  pub unref_left : AreKeptBut b (cut_touches (is_kind_at (state_of a) kinds.Container o) (record { container = d; object = o })) 0 rows
  unref_left = elim (cases_Bool (is_kind_at (state_of a) kinds.Container o)) [
    | inl kind ↦ subst (λ (v : Bool). AreKeptBut b (cut_touches v (record { container = d; object = o })) 0 rows) (sym kind) all_left
    | inr plain ↦
        subst (λ (v : Bool). AreKeptBut b (cut_touches v (record { container = d; object = o })) 0 rows) (sym plain) (plain_left plain)
  ]

-- a slot that is set touches the threads in its address space
pub slot_left : (a b : ArenaState) (rows : BySlot) (id place : ℕ) (m : Option Mapping) → AreKept a rows → KeepsAllSlots a b
    → state_of b ≡ changed (state_of a) id (with_body (reslot (λ slots. slice_set slots place m)))
    → AreKeptBut b (change.Space id) 0 rows
slot_left a b rows id place m k slots is =
    let s = state_of a in
    let n = changed s id (with_body (reslot (λ slots. slice_set slots place m))) in
    left a b (change.Space id) rows n is k slots (changed_limits s id (with_body (reslot (λ slots. slice_set slots place m))))
    (λ t there. same_space s id (with_body (reslot (λ slots. slice_set slots place m)))
    (λ x. ap (option_map (λ r. r.space)) (thread-reslot (λ slots. slice_set slots place m) x.body)) t)
    (λ t i space stays own off. slot_lem s id place t i m
    (λ f mine at on. space_untouched id space f off (sym own ∙ mine) at))

-- an object that is read-only touches those that map it
unwritten_row : (s : State) (o t i : ℕ) (x : Object) → object_at s o ≡ Some x
    → ((f : Entry) → mapped_entry s t i ≡ Some f → f.object ≢ o)
    → translate (put s o (made_immutable x)) t i ≡ translate s t i
unwritten_row s o t i x found apart =
    let y = made_immutable x in
    let labels : (q : ℕ) → label_at (put s o y) q ≡ label_at s q = (λ q. at_any label_read s o q x y found refl) in
    row_reads_lem s (put s o y) t i (at_any space_read s o t x y found refl) (labels t)
    (λ e on. entry_put s o x y found refl refl e (labels e.container) (labels e.object))
    (λ e own. slot_put s o x y found refl e.object i)
    (λ e there. at_other (of_object false (λ z. z.immutable)) s o e.object x y found (apart e there))

pub immutable_left : (a b : ArenaState) (rows : BySlot) (o : ℕ) → AreKept a rows → KeepsAllSlots a b
    → state_of b ≡ changed (state_of a) o made_immutable → AreKeptBut b (change.Object o) 0 rows
immutable_left a b rows o k slots is =
    let s = state_of a in
    left a b (change.Object o) rows (changed s o made_immutable) is k slots (changed_limits s o made_immutable)
    (λ t there. same_space s o made_immutable (λ x. refl) t)
    (λ t i space stays own off. found_or_same s o made_immutable t i (λ x found.
    unwritten_row s o t i x found (object_untouched s o t i space own
    (sym (same_reach s (changed s o made_immutable) (change.Object o) space
    (same_slots_at s o made_immutable (λ x. refl) space.object)) ∙ off))))

-- objects have the slots that they had
pub all_slots : (a b : ArenaState) → b.pieces.places ≡ a.pieces.places → KeepsAllSlots a b
all_slots a b places id slot h = subst (λ (x : Tree (Unit {0})). HasSlot x id slot) places h

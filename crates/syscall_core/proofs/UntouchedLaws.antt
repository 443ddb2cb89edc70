-- Rows after a change that touches no thread.
use Rattle.std.proofs.Common.{◌≡◌, ◌⊎◌, ℕ, Bool, true, false, not, ◌&&◌, ◌||◌, ◌==◌, List, [], ◌∷◌, ◌++◌, Option, Some, None}
use Rattle.std.proofs.Common.{refl, sym, subst, ap, ◌∙◌, inl, inr}
use Rattle.std.specs.List.{list_any}
use Rattle.std.specs.Option.{option_map}
use Rattle.std.proofs.lemmas.Bool.{and_parts, both_ways, cases_Bool, eqb-true}
use Rattle.base.specs.declared.kinds.Kind as kind
use Rattle.base.specs.declared.kinds.Kind.TheVariants as kinds
use Rattle.kernel_rules.specs.Changes.{changed, delisting, listing, made_immutable, without}
use Rattle.kernel_rules.specs.State.{State, is_kind, is_kind_at, kind_of, object_at, of_object, slots_at, thread_of}
use Rattle.kernel_rules.specs.Step.{restricted}
use Rattle.kernel_rules.specs.Translate.{names_none, own_space}
use Rattle.kernel_rules.specs.declared.calls.Entry.{Entry}
use Rattle.kernel_rules.specs.declared.objects.Mapping.{Mapping}
use Rattle.kernel_rules.specs.declared.objects.Object.{Object}
use Rattle.kernel_rules.specs.declared.objects.Thread.{Thread}
use Rattle.kernel_laws.specs.Names.{IsNamedRightly, NamesSpace}
use Rattle.kernel_laws.proofs.Bodies.{slots-relist, thread-relist}
use Rattle.kernel_laws.proofs.Names.{old_space}
use Rattle.kernel_laws.proofs.Put.{space_read}
use Rattle.arena_memory.specs.Rows.{BySlot}
use Rattle.arena_state.specs.Shown.{AreKept, AreKeptBut, KeepsAllSlots}
use Rattle.arena_state.specs.States.{state_of}
use Rattle.arena_state.specs.Touched.{IsUnmapped, goes_by, is_same, maps, reaches, reaches_by}
use Rattle.arena_state.specs.declared.rows.repairs.Change.{Change}
use Rattle.arena_state.specs.declared.rows.repairs.Change.TheVariants as change
use Rattle.arena_state.specs.declared.states.ArenaState.{ArenaState}
use Rattle.arena_state.proofs.RepairedLaws.{rest_slots}
use Rattle.kernel_store.specs.Sights.{kind_at, is_of}
use Rattle.syscall_core.specs.Kernel.{IsUntouched, cut_touches, may_be_of_kind}
use Rattle.syscall_core.proofs.RepairLaws.{cut_own, immutable_left, link_left, or_off, same_slots_at, unref_left}
use Rattle.syscall_core.proofs.RowLaws.{same_space}

-- the kind that was found, or none
pub kind_not_other : (k : kind.Kind) (s : State) (o : ℕ)
    → may_be_of_kind k (kind_at s o) ≡ of_object true (is_kind k) (object_at s o)
unfolding kind_at
kind_not_other k s o = by (object_at s o)
  where
    by : (v : Option Object) → may_be_of_kind k (option_map (λ x. kind_of x.body) v) ≡ of_object true (is_kind k) v
    by None = refl
    by (Some x) = refl

-- a thread's entry names an address space
own_named : (s : State) (t : ℕ) (space : Entry) → IsNamedRightly s → own_space s t ≡ Some space → NamesSpace s space
own_named s t space h own = by (object_at s t) refl own
  where
    by_thread : (x : Object) (v : Option Thread) → object_at s t ≡ Some x → thread_of x.body ≡ v
        → option_map (λ r. r.space) v ≡ Some space → NamesSpace s space
    by_thread x None found on is = absurd (cc)
    by_thread x (Some r) found on is =
        let same : r.space ≡ space = cc in
        subst (λ (e : Entry). NamesSpace s e) same (old_space s t x r h found on)

    by : (v : Option Object) → object_at s t ≡ v → space_read v ≡ Some space → NamesSpace s space
    by None found is = absurd (cc)
    by (Some x) found is = by_thread x (thread_of x.body) found refl is

-- no mapping goes by an entry of an object that none is of
and_off : (b : Bool) → (b && false) ≡ false
and_off true = refl
and_off false = refl

goes_none : (e : Entry) (v : Option Mapping) → maps e.object v ≡ false → goes_by e v ≡ false
goes_none e None h = refl
goes_none e (Some m) h =
    ap (λ (b : Bool). m.entry.container == e.container && b) h ∙ and_off (m.entry.container == e.container)

none_goes : (e : Entry) (slots : List (Option Mapping)) → list_any (maps e.object) slots ≡ false
    → list_any (goes_by e) slots ≡ false
none_goes e [] h = refl
none_goes e (v ∷ vs) h =
    let both = or_off (maps e.object v) (list_any (maps e.object) vs) h in
    ap (λ (b : Bool). b || list_any (goes_by e) vs) (goes_none e v both.0) ∙ none_goes e vs both.1

-- a change misses a thread where it does not reach the address space that its entry names
missed : (s : State) (c : Change) (v : Option Entry)
    → ((space : Entry) → v ≡ Some space → names_none space ≡ false → reaches s c space ≡ false) → reaches_by s c v ≡ false
missed s c None h = refl
missed s c (Some space) h = elim (cases_Bool (names_none space)) [
  | inl none ↦ ap (λ (b : Bool). not b && reaches s c space) none
  | inr named ↦ ap (λ (b : Bool). not b && reaches s c space) named ∙ h space refl named
]

-- an entry of what is no address space, and mapped by none, touches no thread
pub entry_untouched : (s : State) (e : Entry) → IsNamedRightly s
    → of_object true (is_kind kinds.AddressSpace) (object_at s e.object) ≡ false → IsUnmapped s e.object
    → IsUntouched s (change.Entry e)
entry_untouched s e h other none t =
    missed s (change.Entry e) (own_space s t) (λ space own named.
    ap (λ (b : Bool). b || list_any (goes_by e) (slots_at s space.object)) (apart space own named)
    ∙ none_goes e (slots_at s space.object) (none space.object))
  where
    apart : (space : Entry) → own_space s t ≡ Some space → names_none space ≡ false → is_same space e ≡ false
    apart space own named = elim (cases_Bool (is_same space e)) [
      | inl on ↦
          let object = eqb-true space.object e.object
          (and_parts (space.container == e.container) (space.object == e.object) on).1 in
          absurd (both_ways (of_object true (is_kind kinds.AddressSpace) (object_at s e.object)) other
          (ap (λ (o : ℕ). of_object true (is_kind kinds.AddressSpace) (object_at s o)) (sym object)
          ∙ (own_named s t space h own named).kind))
      | inr off ↦ off
    ]

-- so does an object that none maps
pub object_untouched : (s : State) (o : ℕ) → IsUnmapped s o → IsUntouched s (change.Object o)
object_untouched s o none t = missed s (change.Object o) (own_space s t) (λ space own named. none space.object)

-- what touches no thread of state s touches none of state n, where each has the address space that it had, and that its
-- slots or none
module _ (s n : State) (own : (t : ℕ) → (object_at n t ≡ None → ⊥) → own_space n t ≡ own_space s t)
    (slots : (a : ℕ) → (slots_at n a ≡ slots_at s a) ⊎ (slots_at n a ≡ [])) where
  fewer : (p : Option Mapping → Bool) (a : ℕ) → list_any p (slots_at s a) ≡ false → list_any p (slots_at n a) ≡ false
  fewer p a h = elim (slots a) [
    | inl same ↦ ap (list_any p) same ∙ h
    | inr none ↦ ap (list_any p) none
  ]

  reach_after : (c : Change) (space : Entry) → reaches s c space ≡ false → reaches n c space ≡ false
  reach_after (change.Entry e) space h =
      let both = or_off (is_same space e) (list_any (goes_by e) (slots_at s space.object)) h in
      ap (λ (b : Bool). b || list_any (goes_by e) (slots_at n space.object)) both.0 ∙ fewer (goes_by e) space.object both.1
  reach_after (change.Space a) space h = h
  reach_after (change.Object o) space h = fewer (maps o) space.object h
  reach_after change.All space h = h

  still_untouched : (c : Change) → IsUntouched s c → IsUntouched n c
  still_untouched c off t = by (object_at n t) refl
    where
      by : (v : Option Object) → object_at n t ≡ v → reaches_by n c (own_space n t) ≡ false
      by None found = ap (λ (v : Option Object). reaches_by n c (space_read v)) found
      by (Some x) found =
          missed n c (own_space n t) (λ space is named.
          reach_after c space
          (sym (ap (λ (b : Bool). not b && reaches s c space) named)
          ∙ sym (ap (reaches_by s c) (sym (own t (λ none. absurd (cc (found, none)))) ∙ is)) ∙ off t))

-- rows stay as they are where no thread is touched
all_kept : (b : ArenaState) (c : Change) (rows : BySlot) → AreKeptBut b c 0 rows → IsUntouched (state_of b) c → AreKept b rows
all_kept b c rows k off = record {
  size = k.size;
  kept = λ id slot h. k.kept id slot h (inr (off id));
  named = k.named;
}

-- so an entry touches no thread where neither its object's kind nor a mapping lets it
pub entry_off : (s : State) (e : Entry) (found : Option kind.Kind) (mapped : Bool) → IsNamedRightly s
    → found ≡ kind_at s e.object → (mapped ≡ false → IsUnmapped s e.object)
    → (may_be_of_kind kinds.AddressSpace found || mapped) ≡ false → IsUntouched s (change.Entry e)
entry_off s e found mapped h is none off =
    let parts = or_off (may_be_of_kind kinds.AddressSpace found) mapped off in
    entry_untouched s e h
    (sym (kind_not_other kinds.AddressSpace s e.object) ∙ sym (ap (may_be_of_kind kinds.AddressSpace) is) ∙ parts.0)
    (none parts.1)

-- and so does one that is taken out
pub cut_off : (s : State) (e : Entry) (found : Option kind.Kind) (mapped : Bool) → IsNamedRightly s
    → found ≡ kind_at s e.object → (mapped ≡ false → IsUnmapped s e.object)
    → (is_of kinds.Container found || (may_be_of_kind kinds.AddressSpace found || mapped)) ≡ false
    → IsUntouched s (cut_touches (is_of kinds.Container found) e)
cut_off s e found mapped h is none off =
    let parts = or_off (is_of kinds.Container found) (may_be_of_kind kinds.AddressSpace found || mapped) off in
    subst (λ (b : Bool). IsUntouched s (cut_touches b e)) (sym parts.0) (entry_off s e found mapped h is none parts.1)

pub link_kept : (a b : ArenaState) (rows : BySlot) (d o : ℕ) → AreKept a rows → KeepsAllSlots a b
    → state_of b ≡ changed (state_of a) d (listing o)
    → IsUntouched (state_of a) (change.Entry (record { container = d; object = o })) → AreKept b rows
link_kept a b rows d o k slots is off =
    let s = state_of a in
    let e : Entry = record { container = d; object = o } in
    all_kept b (change.Entry e) rows (link_left a b rows d o k slots is)
    (subst (λ (m : State). IsUntouched m (change.Entry e)) (sym is)
    (still_untouched s (changed s d (listing o))
    (λ t there. same_space s d (listing o) (λ x. ap (option_map (λ r. r.space)) (thread-relist (λ ids. ids ++ o ∷ []) x.body)) t)
    (λ q. inl (same_slots_at s d (listing o) (λ x. slots-relist (λ ids. ids ++ o ∷ []) x.body) q))
    (change.Entry e) off))

pub unref_kept : (a b : ArenaState) (rows : BySlot) (d o : ℕ) → AreKept a rows → KeepsAllSlots a b
    → state_of b ≡ restricted (changed (state_of a) d (delisting o))
    → IsUntouched (state_of a) (cut_touches (is_kind_at (state_of a) kinds.Container o) (record { container = d; object = o }))
    → AreKept b rows
unref_kept a b rows d o k slots is off =
    let s = state_of a in
    let c = cut_touches (is_kind_at s kinds.Container o) (record { container = d; object = o }) in
    all_kept b c rows (unref_left a b rows d o k slots is)
    (subst (λ (m : State). IsUntouched m c) (sym is)
    (still_untouched s (restricted (changed s d (delisting o))) (cut_own a b rows d o k slots is) left c off))
  where
    left : (q : ℕ) → (slots_at (restricted (changed (state_of a) d (delisting o))) q ≡ slots_at (state_of a) q)
        ⊎ (slots_at (restricted (changed (state_of a) d (delisting o))) q ≡ [])
    left q = elim (rest_slots (changed (state_of a) d (delisting o)) q) [
      | inl stays ↦ inl (stays ∙ same_slots_at (state_of a) d (delisting o) (λ x. slots-relist (without o) x.body) q)
      | inr gone ↦ inr gone
    ]

pub immutable_kept : (a b : ArenaState) (rows : BySlot) (o : ℕ) → AreKept a rows → KeepsAllSlots a b
    → state_of b ≡ changed (state_of a) o made_immutable → IsUnmapped (state_of b) o → AreKept b rows
immutable_kept a b rows o k slots is none =
    all_kept b (change.Object o) rows (immutable_left a b rows o k slots is) (object_untouched (state_of b) o none)

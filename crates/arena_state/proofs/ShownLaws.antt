-- Rows that say what slots show.
use Rattle.std.proofs.Common.{◌≡◌, ◌≢◌, ℕ, ◌+◌, ◌<◌, ◌≤◌, Bool, true, false, cond, not, ◌&&◌, ◌==◌, List, [], ◌∷◌, ◌++◌, get_or, set, replicate, Option, Some, None, refl, sym, ◌∙◌, ap, subst, length, length-append, inl, inr, arith}
use Rattle.std.specs.Option.{option_map, option_and_then}
use Rattle.std.proofs.lemmas.Bool.{cases_eq, cases_lt, cases_order, and_parts, eqb-true}
use Rattle.std.proofs.lemmas.List.{get_or-replicate, get_or-set_same, get_or-set_other, get_or_append_left}
use Rattle.std.proofs.Math.Seq.{get_or-append_seam}
use Rattle.std.proofs.lemmas.Option.{slice_get_past, none-some}
use Rattle.base.specs.declared.kinds.Kind.TheVariants as kinds
use Rattle.kernel_rules.specs.State.{State, object_at, of_object, slots_of, slots_at, thread_of, is_kind, is_live_kind, kind_of, kind_number}
use Rattle.kernel_rules.specs.Translate.{translate, through, through_space, slot_in, slot_at, names_none, opens, own_space}
use Rattle.kernel_rules.specs.WellFormed.{is_well_formed, is_kept, is_whole_body, is_stored}
use Rattle.kernel_rules.specs.declared.calls.Entry.{Entry}
use Rattle.kernel_rules.specs.declared.objects.Body as body
use Rattle.kernel_rules.specs.declared.objects.Body.TheVariants as is
use Rattle.kernel_rules.specs.declared.objects.Object.{Object}
use Rattle.kernel_rules.specs.declared.objects.Mapping.{Mapping}
use Rattle.kernel_rules.proofs.ListerLaws.{kept_parts}
use Rattle.kernel_rules.proofs.LookupLaws.{all_at}
use Rattle.kernel_rules.proofs.WellFormedLaws.{soundness_of, live_kind}
use Rattle.base.specs.declared.ranges.Limits.{Limits}
use Rattle.containers.specs.Tree.{Tree, HasSlot, ids_in, add_lists}
use Rattle.containers.proofs.Lists.{ids_added}
use Rattle.arena_memory.specs.Rows.{BySlot, Shows, slot_count, thread_at, with_row}
use Rattle.arena_state.specs.Sound.{IsSound}
use Rattle.arena_state.specs.declared.pieces.Pieces.{Pieces}
use Rattle.arena_state.specs.declared.states.ArenaState.{ArenaState}
use Rattle.arena_state.specs.States.{state_of}
use Rattle.arena_state.specs.Creations.{IsPlaced}
use Rattle.arena_state.specs.declared.records.Record.{Record}
use Rattle.arena_state.specs.Shown.{IsRow, AreKept, KeepsSlots, SameAt, Tells, named_by, named_space, thread_named}
use Rattle.arena_state.proofs.StockLaws.{object_whole}

-- an object that is not there shows nothing
pub absent_shows_none : (s : State) (t i : ℕ) → object_at s t ≡ None → translate s t i ≡ None
unfolding translate
absent_shows_none s t i none =
    ap (λ (v : Option Object). through_space s t i (option_map (λ r. r.space) (option_and_then (λ x. thread_of x.body) v))) none

-- what is shown by the entry that a thread has
pub by_own_space : (s : State) (t i : ℕ) (v : Option Entry) → v ≡ own_space s t → through_space s t i v ≡ translate s t i
unfolding translate
by_own_space s t i v is = ap (through_space s t i) is

pub shut_shows_none : (s : State) (t i : ℕ) (e : Entry) → (not (names_none e) && opens s t e) ≡ false → None ≡ through_space s t i (Some e)
shut_shows_none s t i e shut = sym (ap (λ (b : Bool). cond b (through s t (slot_at s e.object i)) None) shut)

-- what names no address space shows nothing
nameless : (s : State) (t i : ℕ) (v : Option Entry) → None ≡ named_space v → None ≡ through_space s t i v
nameless s t i None none = refl
nameless s t i (Some e) none =
    elim (names_none e)
    as (λ b. None ≡ cond b None (Some e) → None ≡ cond (not b && opens s t e) (through s t (slot_at s e.object i)) None) [
      | true ↦ λ h. refl
      | false ↦ λ h. absurd (cc)
    ] none

pub blank_row : (s : State) (t : ℕ) → None ≡ named_space (own_space s t) → IsRow s t (replicate 16 None)
blank_row s t none i lt =
    get_or-replicate {A = Shows} 16 i None None lt ∙ nameless s t i (own_space s t) none ∙ by_own_space s t i (own_space s t) refl

-- what names one is its entry
pub named_own : (e : Entry) (v : Option Entry) → Some e ≡ named_space v → Some e ≡ v
named_own e None h = absurd (cc)
named_own e (Some f) h =
    elim (names_none f) as (λ b. Some e ≡ cond b None (Some f) → Some e ≡ Some f) [ true ↦ λ g. absurd (cc) | false ↦ λ g. g ] h

-- one more place of a row
pub more_shown : (row : List Shows) (n : ℕ) (v : Shows) (f : ℕ → Shows) → n < length row → v ≡ f n
    → ((i : ℕ) → i < n → get_or row i None ≡ f i) → (i : ℕ) → i < n + 1 → get_or (set row n v) i None ≡ f i
more_shown row n v f within is before i lt = elim (cases_eq i n) [
  | inl on ↦ ap (λ (k : ℕ). get_or (set row n v) k None) on ∙ get_or-set_same row n v None within ∙ is ∙ ap f (sym on)
  | inr off ↦ get_or-set_other row n i v None off ∙ before i (omega (arith, lt, off))
]

-- what is no thread shows nothing
not_thread : (s : State) (t i : ℕ) (v : Option Object) → of_object false (is_kind kinds.Thread) v ≡ false
    → through_space s t i (option_map (λ r. r.space) (option_and_then (λ x. thread_of x.body) v)) ≡ None
not_thread s t i None off = refl
not_thread s t i (Some x) off = by x.body off
  where
    by : (b : body.Body) → (kind_number (kind_of b) == kind_number kinds.Thread) ≡ false
        → through_space s t i (option_map (λ r. r.space) (thread_of b)) ≡ None
    by (is.Container avoid list) h = refl
    by (is.Segment bytes) h = refl
    by (is.AddressSpace slots) h = refl
    by (is.Thread w) h = absurd (cc)
    by (is.Gate g) h = refl
    by (is.Device packets) h = refl

pub others_show_none : (s : State) (t i : ℕ) → is_well_formed s ≡ true → is_live_kind s kinds.Thread t ≡ false
    → translate s t i ≡ None
unfolding translate
others_show_none s t i formed off = not_thread s t i (object_at s t) (live_kind s kinds.Thread t formed ∙ off)

-- nor does any slot past the sixteenth
few_in : (b : body.Body) → is_whole_body b ≡ true → length (slots_of b) ≤ 16
few_in (is.Container avoid list) h = omega arith
few_in (is.Segment bytes) h = omega arith
few_in (is.AddressSpace slots) h = let sixteen : length slots.slots ≡ 16 = eqb-true (length slots.slots) 16 h in omega (arith, sixteen)
few_in (is.Thread t) h = omega arith
few_in (is.Gate g) h = omega arith
few_in (is.Device packets) h = omega arith

few_slots : (s : State) (a : ℕ) → is_well_formed s ≡ true → length (slots_at s a) ≤ 16
few_slots s a formed =
    elim (object_at s a) as (λ v. object_at s a ≡ v → length (of_object [] (λ x. slots_of x.body) v) ≤ 16) [
      | None ↦ λ none. omega arith
      | Some x ↦ λ found.
          few_in x.body
          (and_parts (is_stored x.label && length x.metadata == 64) (is_whole_body x.body)
          (kept_parts s a x (all_at (λ o y. is_kept s o y) s.objects a x (soundness_of s formed).kept found)).whole).1
    ] refl

pub past_shows_none : (s : State) (t i : ℕ) → is_well_formed s ≡ true → 16 ≤ i → translate s t i ≡ None
unfolding translate
past_shows_none s t i formed le = by (own_space s t)
  where
    shut : (b : Bool) (v : Option Mapping) → v ≡ None → cond b (through s t v) None ≡ None
    shut true v none = ap (through s t) none
    shut false v none = refl

    by : (v : Option Entry) → through_space s t i v ≡ None
    by None = refl
    by (Some e) =
        shut (not (names_none e) && opens s t e) (slot_at s e.object i)
        (ap slot_in (slice_get_past (slots_at s e.object) i (omega (arith, le, few_slots s e.object formed))))

-- the slot of an object is in the pool
pub slot_in_pool : (p : Pieces) → IsSound p → (id slot : ℕ) → HasSlot p.places id slot → slot < length p.places.cells
slot_in_pool p s id slot h =
    let at : h.place < length p.places.slots = omega (arith, h.within, s.tree.beside) in
    let within : get_or p.places.slots h.place 0 < length p.places.cells = s.tree.within h.place at in
    omega (arith, within, h.slot_is)

-- an object that has a slot is there
pub slot_is_there : (a : ArenaState) (id slot : ℕ) → object_at (state_of a) id ≡ None → HasSlot a.pieces.places id slot → ⊥
slot_is_there a id slot none h = none-some _ (sym none ∙ object_whole a.pieces a.sound id slot h)

-- no two objects have one slot
pub one_place : (p : Pieces) → IsSound p → (id other slot : ℕ) (h : HasSlot p.places id slot) (g : HasSlot p.places other slot)
    → h.place ≡ g.place
one_place p s id other slot h g = elim (cases_order h.place g.place) [
  | inl on ↦ on
  | inr (inl lt) ↦ absurd (s.tree.apart h.place g.place lt (omega (arith, g.within, s.tree.beside)) (h.slot_is ∙ sym g.slot_is))
  | inr (inr gt) ↦ absurd (s.tree.apart g.place h.place gt (omega (arith, h.within, s.tree.beside)) (g.slot_is ∙ sym h.slot_is))
]

pub one_owner : (p : Pieces) → IsSound p → (id other slot : ℕ) → HasSlot p.places id slot → HasSlot p.places other slot → id ≡ other
one_owner p s id other slot h g =
    sym h.id_is ∙ ap (λ (k : ℕ). get_or (ids_in p.places.lists) k 0) (one_place p s id other slot h g) ∙ g.id_is

-- an object has one slot
pub one_slot : (p : Pieces) → IsSound p → (id slot other : ℕ) (h : HasSlot p.places id slot) (g : HasSlot p.places id other)
    → slot ≡ other
one_slot p s id slot other h g = elim (cases_order h.place g.place) [
  | inl on ↦ sym h.slot_is ∙ ap (λ (k : ℕ). get_or p.places.slots k 0) on ∙ g.slot_is
  | inr (inl lt) ↦ absurd (apart h.place g.place lt g.within (h.id_is ∙ sym g.id_is))
  | inr (inr gt) ↦ absurd (apart g.place h.place gt h.within (g.id_is ∙ sym h.id_is))
]
  where
    apart : (k n : ℕ) → k < n → n < length (ids_in p.places.lists)
        → get_or (ids_in p.places.lists) k 0 ≡ get_or (ids_in p.places.lists) n 0 → ⊥
    apart k n lt within same =
        let rises : get_or (ids_in p.places.lists) k 0 < get_or (ids_in p.places.lists) n 0 = s.tree.rises k n lt within in
        omega (arith, rises, same)

-- a slot that stays tells what it told
pub same_tells : (s : State) (id slot : ℕ) (old new : BySlot) → SameAt old new slot → Tells s id old slot → Tells s id new slot
same_tells s id slot old new same told = record {
  row = subst (λ (r : List Shows). IsRow s id r) (sym same.row) told.row;
  thread = same.thread ∙ told.thread;
}

-- and so it does in another state that shows the object the same
still_tells : (s n : State) (id slot : ℕ) (rows : BySlot) → own_space n id ≡ own_space s id
    → ((i : ℕ) → translate n id i ≡ translate s id i) → Tells s id rows slot → Tells n id rows slot
still_tells s n id slot rows own same told = record {
  row = λ i lt. told.row i lt ∙ sym (same i);
  thread = told.thread ∙ ap (named_by id) (sym own);
}

-- what is kept of one object
pub told_of : (a : ArenaState) (rows : BySlot) → AreKept a rows → (id slot : ℕ) → HasSlot a.pieces.places id slot
    → Tells (state_of a) id rows slot
told_of a rows k id slot h = record { row = k.kept id slot h; thread = k.named id slot h }

-- a slot that is set
pub set_tells : (s : State) (id slot other : ℕ) (old : BySlot) (thread : Option ℕ) (row : List Shows) → slot ≡ other
    → slot < slot_count old → thread_at (with_row old slot thread row) slot ≡ thread → thread ≡ thread_named s id
    → IsRow s id row → Tells s id (with_row old slot thread row) other
set_tells s id slot other old thread row on within named is shows = record {
  row = subst (λ (r : List Shows). IsRow s id r)
      (sym (ap (λ (k : ℕ). get_or (set old.rows slot row) k []) (sym on) ∙ get_or-set_same old.rows slot row [] within)) shows;
  thread = ap (λ (k : ℕ). get_or (set old.threads slot thread) k None) (sym on) ∙ named ∙ is;
}

-- the slots of the objects at the first places tell what they are to tell
pub record AreMade (a : ArenaState) (rows : BySlot) (n : ℕ) : Type 0 where
  pub made : (id slot : ℕ) (h : HasSlot a.pieces.places id slot) → h.place < n → Tells (state_of a) id rows slot

pub more_made : (a : ArenaState) (old new : BySlot) (n thread : ℕ) → n < length (ids_in a.pieces.places.lists)
    → thread ≡ get_or (ids_in a.pieces.places.lists) n 0 → AreMade a old n
    → ((slot : ℕ) → HasSlot a.pieces.places thread slot → Tells (state_of a) thread new slot)
    → ((slot : ℕ) → (HasSlot a.pieces.places thread slot → ⊥) → SameAt old new slot)
    → AreMade a new (n + 1)
more_made a old new n thread within is made told others = record {
  made = λ id slot h lt. elim (cases_eq h.place n) [
    | inl on ↦
        let same : id ≡ thread = sym h.id_is ∙ ap (λ (k : ℕ). get_or (ids_in a.pieces.places.lists) k 0) on ∙ sym is in
        subst (λ (t : ℕ). Tells (state_of a) t new slot) (sym same)
        (told slot (subst (λ (t : ℕ). HasSlot a.pieces.places t slot) same h))
    | inr off ↦
        let before : h.place < n = omega (arith, lt, off) in
        same_tells (state_of a) id slot old new (others slot (λ g.
        let same : id ≡ thread = one_owner a.pieces a.sound id thread slot h g in
        let rises : get_or (ids_in a.pieces.places.lists) h.place 0 < get_or (ids_in a.pieces.places.lists) n 0
        = a.sound.tree.rises h.place n before within in
        let one : get_or (ids_in a.pieces.places.lists) h.place 0 ≡ id = h.id_is in
        absurd (omega (arith, rises, one, is, same))))
        (made.made id slot h before)
  ];
}

pub all_made : (a : ArenaState) (rows : BySlot) (n : ℕ) → length (ids_in a.pieces.places.lists) ≤ n
    → slot_count rows ≡ (state_of a).limits.pages → AreMade a rows n → AreKept a rows
all_made a rows n le size made = record {
  size = size;
  kept = λ id slot h. (made.made id slot h (omega (arith, h.within, le))).row;
  named = λ id slot h. (made.made id slot h (omega (arith, h.within, le))).thread;
}

-- what is kept stays so where each object keeps its slot and what it is shown
pub rows_stay : (a b : ArenaState) (rows : BySlot) → AreKept a rows → b.pieces.places ≡ a.pieces.places
    → (state_of b).limits ≡ (state_of a).limits
    → ((t : ℕ) → own_space (state_of b) t ≡ own_space (state_of a) t)
    → ((t i : ℕ) → translate (state_of b) t i ≡ translate (state_of a) t i) → AreKept b rows
rows_stay a b rows k places limits own same =
    let told : (id slot : ℕ) → HasSlot b.pieces.places id slot → Tells (state_of b) id rows slot = (λ id slot h.
    still_tells (state_of a) (state_of b) id slot rows (own id) (same id)
    (told_of a rows k id slot (subst (λ (t : Tree (Unit {0})). HasSlot t id slot) places h))) in
    record {
      size = k.size ∙ ap (λ (l : Limits). l.pages) (sym limits);
      kept = λ id slot h. (told id slot h).row;
      named = λ id slot h. (told id slot h).thread;
    }

grown_ids : (lists : List (ℕ × List ℕ)) (d o : ℕ) → ids_in (add_lists lists d o ++ (o, []) ∷ []) ≡ ids_in lists ++ o ∷ []
grown_ids [] d o = refl
grown_ids (e ∷ es) d o = ap (λ (l : List ℕ). e.0 ∷ l) (grown_ids es d o)

-- a new record moves no other
pub placed_slots : (p q : Pieces) (d parent : ℕ) (x : Record) → IsPlaced p q d parent x → (id slot : ℕ) → id ≢ p.next_id
    → HasSlot q.places id slot → HasSlot p.places id slot
placed_slots p q d parent x placed id slot other h =
    let ids : List ℕ = ids_in p.places.lists in
    let grown : ids_in q.places.lists ≡ ids ++ p.next_id ∷ [] = ap (λ (l : List (ℕ × List ℕ)). ids_in l) placed.lists ∙ grown_ids p.places.lists d p.next_id in
    let many : length (ids_in q.places.lists) ≡ length ids + 1 = ap (λ (l : List ℕ). length l) grown ∙ length-append ids (p.next_id ∷ []) in
    let slots : length q.places.slots ≡ length p.places.slots + 1
    = ap (λ (l : List ℕ). length l) placed.slots ∙ length-append p.places.slots (placed.slot ∷ []) in
    let beside : length ids ≡ length p.places.slots = omega (arith, many, slots, placed.tree.beside) in
    let there : get_or (ids ++ p.next_id ∷ []) h.place 0 ≡ id = ap (λ (l : List ℕ). get_or l h.place 0) (sym grown) ∙ h.id_is in
    elim (cases_lt h.place (length ids)) [
      | inl within ↦ record {
        place = h.place;
        within = within;
        id_is = sym (get_or_append_left ids (p.next_id ∷ []) 0 h.place within) ∙ there;
        slot_is = sym (get_or_append_left p.places.slots (placed.slot ∷ []) 0 h.place (omega (arith, within, beside)))
            ∙ ap (λ (l : List ℕ). get_or l h.place 0) (sym placed.slots) ∙ h.slot_is;
      }
      | inr past ↦
          let last : h.place ≡ length ids = omega (arith, past, h.within, many) in
          absurd (other (sym there ∙ ap (λ (k : ℕ). get_or (ids ++ p.next_id ∷ []) k 0) last
          ∙ get_or-append_seam ids p.next_id [] 0))
    ]

-- rows of which one was remade are kept after a change that touches no other
pub one_remade : (a b : ArenaState) (old new : BySlot) (t : ℕ) → AreKept a old → KeepsSlots a b t
    → (state_of b).limits ≡ (state_of a).limits
    → ((q : ℕ) → q ≢ t → own_space (state_of b) q ≡ own_space (state_of a) q)
    → ((q i : ℕ) → q ≢ t → translate (state_of b) q i ≡ translate (state_of a) q i) → slot_count new ≡ slot_count old
    → ((slot : ℕ) → HasSlot b.pieces.places t slot → Tells (state_of b) t new slot)
    → ((slot : ℕ) → (HasSlot b.pieces.places t slot → ⊥) → SameAt old new slot) → AreKept b new
one_remade a b old new t k slots limits own same size told others =
    let all : (id slot : ℕ) → HasSlot b.pieces.places id slot → Tells (state_of b) id new slot = (λ id slot h. elim (cases_eq id t) [
      | inl on ↦
          subst (λ (o : ℕ). Tells (state_of b) o new slot) (sym on)
          (told slot (subst (λ (o : ℕ). HasSlot b.pieces.places o slot) on h))
      | inr off ↦
          same_tells (state_of b) id slot old new (others slot (λ g. off (one_owner b.pieces b.sound id t slot h g)))
          (still_tells (state_of a) (state_of b) id slot old (own id off) (λ i. same id i off)
          (told_of a old k id slot (slots id slot off h)))
    ]) in
    record {
      size = size ∙ k.size ∙ ap (λ (l : Limits). l.pages) (sym limits);
      kept = λ id slot h. (all id slot h).row;
      named = λ id slot h. (all id slot h).thread;
    }

-- another list of one container moves no object
pub linked_slots : (old new : Tree (Unit {0})) (d o : ℕ) → new ≡ record old { lists = add_lists old.lists d o } → (id slot : ℕ)
    → HasSlot new id slot → HasSlot old id slot
linked_slots old new d o is id slot h =
    moved (subst (λ (t : Tree (Unit {0})). HasSlot t id slot) is h)
  where
    same : ids_in (add_lists old.lists d o) ≡ ids_in old.lists
    same = ids_added old.lists d o

    moved : HasSlot (record old { lists = add_lists old.lists d o }) id slot → HasSlot old id slot
    moved g = record {
      place = g.place;
      within = subst (λ (ids : List ℕ). g.place < length ids) same g.within;
      id_is = ap (λ (ids : List ℕ). get_or ids g.place 0) (sym same) ∙ g.id_is;
      slot_is = g.slot_is;
    }

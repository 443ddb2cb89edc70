-- Rows that are repaired after a change.
use Rattle.std.proofs.Common.{◌≡◌, ◌≢◌, ◌⊎◌, ℕ, ◌+◌, ◌<◌, ◌≤◌, ◌&&◌, not, true, false, cond, List, [], Option, Some, None, refl, sym, ◌∙◌, ap, subst, length, inl, inr, arith}
use Rattle.std.specs.Option.{option_map, option_and_then}
use Rattle.std.proofs.lemmas.Bool.{cases_eq, cases_lt}
use Rattle.base.specs.Live.{is_live}
use Rattle.base.specs.declared.ranges.Limits.{Limits}
use Rattle.containers.specs.Tree.{HasSlot}
use Rattle.kernel_rules.specs.State.{State, lists_of, object_at, of_object, slots_at, slots_of, thread_of}
use Rattle.kernel_rules.specs.Step.{restricted}
use Rattle.kernel_rules.specs.Translate.{names_none, own_space, translate}
use Rattle.kernel_rules.specs.declared.calls.Entry.{Entry}
use Rattle.kernel_rules.specs.declared.objects.Object.{Object}
use Rattle.kernel_laws.proofs.Frames.{restricted_at}
use Rattle.arena_memory.specs.Rows.{BySlot, Shows, slot_count, thread_at}
use Rattle.arena_state.specs.Shown.{AreKept, AreKeptBut, IsRow, KeepsAllSlots, SameAt, Tells, named_by}
use Rattle.arena_state.specs.States.{state_of}
use Rattle.arena_state.specs.Touched.{reaches, reaches_by, touches}
use Rattle.arena_state.specs.declared.rows.repairs.Change.{Change}
use Rattle.arena_state.specs.declared.states.ArenaState.{ArenaState}
use Rattle.arena_state.proofs.ShownLaws.{one_owner, slot_in_pool, slot_is_there}

-- what is still there once the dead are gone has the address space that it had
pub rest_own : (s : State) (t : ℕ) → (object_at (restricted s) t ≡ None → ⊥) → own_space (restricted s) t ≡ own_space s t
rest_own s t there =
    ap (λ (v : Option Object). option_map (λ r. r.space) (option_and_then (λ x. thread_of x.body) v))
    (elim (is_live (lists_of s.objects) t)
    as (λ v. object_at (restricted s) t ≡ cond v (object_at s t) None → object_at (restricted s) t ≡ object_at s t) [
      | true ↦ λ is. is
      | false ↦ λ gone. absurd (there gone)
    ] (restricted_at s t))

-- and who has one then is live
pub rest_live : (s : State) (t : ℕ) (space : Entry) → own_space (restricted s) t ≡ Some space → is_live (lists_of s.objects) t ≡ true
rest_live s t space own =
    elim (is_live (lists_of s.objects) t) as (λ v. object_at (restricted s) t ≡ cond v (object_at s t) None → v ≡ true) [
      | true ↦ λ is. refl
      | false ↦ λ gone.
          let none : own_space (restricted s) t ≡ None =
          ap (λ (v : Option Object). option_map (λ r. r.space) (option_and_then (λ x. thread_of x.body) v)) gone in
          let both : None ≡ Some space = sym none ∙ own in
          absurd (cc)
    ] (restricted_at s t)

-- an address space has the slots that it had, or is gone
pub rest_slots : (s : State) (q : ℕ) → (slots_at (restricted s) q ≡ slots_at s q) ⊎ (slots_at (restricted s) q ≡ [])
rest_slots s q =
    elim (is_live (lists_of s.objects) q)
    as (λ v. object_at (restricted s) q ≡ cond v (object_at s q) None
    → (slots_at (restricted s) q ≡ slots_at s q) ⊎ (slots_at (restricted s) q ≡ [])) [
      | true ↦ λ stays. inl (ap (of_object [] (λ x. slots_of x.body)) stays)
      | false ↦ λ gone. inr (ap (of_object [] (λ x. slots_of x.body)) gone)
    ] (restricted_at s q)

-- after a change that touches what it may touch
pub rows_left : (a b : ArenaState) (c : Change) (rows : BySlot) → AreKept a rows → KeepsAllSlots a b
    → (state_of b).limits ≡ (state_of a).limits
    → ((t : ℕ) → (object_at (state_of b) t ≡ None → ⊥) → own_space (state_of b) t ≡ own_space (state_of a) t)
    → ((t i : ℕ) → own_space (state_of b) t ≡ own_space (state_of a) t → touches (state_of b) c t ≡ false
    → translate (state_of b) t i ≡ translate (state_of a) t i) → AreKeptBut b c 0 rows
rows_left a b c rows k slots limits own same = record {
  size = k.size ∙ ap (λ (l : Limits). l.pages) (sym limits);
  kept = λ id slot h past. elim past [
    | inl lt ↦ absurd (omega (arith, lt))
    | inr off ↦ λ i lt.
        k.kept id slot (slots id slot h) i lt ∙ sym (same id i (own id (λ none. slot_is_there b id slot none h)) off)
  ];
  named = λ id slot h.
      k.named id slot (slots id slot h) ∙ ap (named_by id) (sym (own id (λ none. slot_is_there b id slot none h)));
}

-- the thread of a slot that names one, and none
named_is : (id t : ℕ) (v : Option Entry) → named_by id v ≡ Some t → id ≡ t
named_is id t None h = absurd (cc)
named_is id t (Some space) h =
    elim (names_none space) as (λ b. option_map (λ (e : Entry). id) (cond b None (Some space)) ≡ Some t → id ≡ t) [
      | true ↦ λ g. absurd (cc)
      | false ↦ λ g. cc
    ] h

unnamed : (s : State) (c : Change) (id : ℕ) (v : Option Entry) → named_by id v ≡ None → reaches_by s c v ≡ false
unnamed s c id None h = refl
unnamed s c id (Some space) h =
    elim (names_none space)
    as (λ b. option_map (λ (e : Entry). id) (cond b None (Some space)) ≡ None → (not b && reaches s c space) ≡ false) [
      | true ↦ λ g. refl
      | false ↦ λ g. absurd (cc)
    ] h

-- a slot whose row was not touched
slot_passed : (a : ArenaState) (c : Change) (n : ℕ) (rows : BySlot) → AreKeptBut a c n rows
    → ((id : ℕ) → HasSlot a.pieces.places id n → touches (state_of a) c id ≡ false) → AreKeptBut a c (n + 1) rows
slot_passed a c n rows k off = record {
  size = k.size;
  kept = λ id slot h past. k.kept id slot h (elim past [
    | inl lt ↦ elim (cases_eq slot n) [
      | inl on ↦ inr (off id (subst (λ (m : ℕ). HasSlot a.pieces.places id m) on h))
      | inr away ↦ inl (omega (arith, lt, away))
    ]
    | inr untouched ↦ inr untouched
  ]);
  named = k.named;
}

pub untouched_passed : (a : ArenaState) (c : Change) (n t : ℕ) (rows : BySlot) → AreKeptBut a c n rows
    → Some t ≡ thread_at rows n → touches (state_of a) c t ≡ false → AreKeptBut a c (n + 1) rows
untouched_passed a c n t rows k is off =
    slot_passed a c n rows k (λ id h.
    ap (touches (state_of a) c) (named_is id t (own_space (state_of a) id) (sym (k.named id n h) ∙ sym is)) ∙ off)

-- a slot whose row was remade
pub slot_remade : (a : ArenaState) (c : Change) (n t : ℕ) (old new : BySlot) → AreKeptBut a c n old
    → Some t ≡ thread_at old n → slot_count new ≡ slot_count old
    → ((slot : ℕ) → HasSlot a.pieces.places t slot → Tells (state_of a) t new slot)
    → ((slot : ℕ) → (HasSlot a.pieces.places t slot → ⊥) → SameAt old new slot) → AreKeptBut a c (n + 1) new
slot_remade a c n t old new k is size told others = record {
  size = size ∙ k.size;
  kept = λ id slot h past. elim (cases_eq id t) [
    | inl on ↦ (mine id slot on h).row
    | inr off ↦
        subst (λ (r : List Shows). IsRow (state_of a) id r) (sym (others slot (λ g. off (one_owner a.pieces a.sound id t slot h g))).row)
        (k.kept id slot h (before id slot h off past))
  ];
  named = λ id slot h. elim (cases_eq id t) [
    | inl on ↦ (mine id slot on h).thread
    | inr off ↦ (others slot (λ g. off (one_owner a.pieces a.sound id t slot h g))).thread ∙ k.named id slot h
  ];
}
  where
    mine : (id slot : ℕ) → id ≡ t → HasSlot a.pieces.places id slot → Tells (state_of a) id new slot
    mine id slot on h =
        subst (λ (o : ℕ). Tells (state_of a) o new slot) (sym on)
        (told slot (subst (λ (o : ℕ). HasSlot a.pieces.places o slot) on h))

    before : (id slot : ℕ) → HasSlot a.pieces.places id slot → id ≢ t → (slot < n + 1) ⊎ (touches (state_of a) c id ≡ false)
        → (slot < n) ⊎ (touches (state_of a) c id ≡ false)
    before id slot h off (inr untouched) = inr untouched
    before id slot h off (inl lt) = elim (cases_eq slot n) [
      | inl on ↦ absurd (off (named_is id t (own_space (state_of a) id)
          (sym (k.named id n (subst (λ (m : ℕ). HasSlot a.pieces.places id m) on h)) ∙ sym is)))
      | inr away ↦ inl (omega (arith, lt, away))
    ]

-- rows are kept once each slot was passed
pub all_passed : (a : ArenaState) (c : Change) (n : ℕ) (rows : BySlot) → (state_of a).limits.pages ≤ n → AreKeptBut a c n rows
    → AreKept a rows
all_passed a c n rows le k = record {
  size = k.size;
  kept = λ id slot h.
      let within : slot < length a.pieces.places.cells = slot_in_pool a.pieces a.sound id slot h in
      k.kept id slot h (inl (omega (arith, within, le, a.sound.cells)));
  named = k.named;
}

-- slots that are no thread's are passed
pub none_passed : (a : ArenaState) (c : Change) (from to : ℕ) (rows : BySlot)
    → ((slot : ℕ) → from ≤ slot → slot < to → thread_at rows slot ≡ None) → AreKeptBut a c from rows → AreKeptBut a c to rows
none_passed a c from to rows none k = record {
  size = k.size;
  kept = λ id slot h when. elim when [
    | inl lt ↦ elim (cases_lt slot from) [
      | inl before ↦ k.kept id slot h (inl before)
      | inr past ↦ k.kept id slot h (inr
          (unnamed (state_of a) c id (own_space (state_of a) id) (sym (k.named id slot h) ∙ none slot past lt)))
    ]
    | inr untouched ↦ k.kept id slot h (inr untouched)
  ];
  named = k.named;
}

-- The labels of indexes are the stored labels of the state.
use Rattle.std.proofs.Common.{◌≡◌, ℕ, ◌<◌, Bool, true, false, cond, ◌||◌, List, [], ◌∷◌, length, Option, Some, None, refl, sym, ◌∙◌, ap, arith, inl, inr, true≢false}
use Rattle.std.specs.Option.{option_map}
use Rattle.std.specs.List.{flat_map}
use Rattle.std.proofs.lemmas.Bool.{cases_Bool, eq-eqb}
use Rattle.std.proofs.lemmas.List.Folds.{list_any-append}
use Rattle.std.proofs.lemmas.List.Sums.{sum_by-cons}
use Rattle.std.proofs.lemmas.Option.{same_Some, none-some}
use Rattle.label_lattice.specs.Label.{LabelValue}
use Rattle.containers.specs.Tree.{ids_in}
use Rattle.label_intern.specs.declared.held.Held.{Held}
use Rattle.label_intern.specs.Held.{held_at, label_of, label_in, owners_in, IsInterned}
use Rattle.label_intern.specs.Owners.{one_at}
use Rattle.kernel_rules.specs.Scratch.{labels_of, labels_of_body, is_stored_in, stored_labels}
use Rattle.kernel_rules.specs.declared.objects.Object.{Object}
use Rattle.kernel_laws.proofs.Listed.{labels_listed}
use Rattle.arena_state.specs.declared.records.Record.{Record}
use Rattle.arena_state.specs.declared.records.Kept as kept
use Rattle.arena_state.specs.declared.records.Kept.TheVariants as keeps
use Rattle.arena_state.specs.declared.holdings.Holdings.{Holdings}
use Rattle.arena_state.specs.declared.states.ArenaState.{ArenaState}
use Rattle.arena_state.specs.Rows.{rows_of}
use Rattle.arena_state.specs.Assembled.{assembled, body_of, body_claims, claims, claims_in, objects_in, record_in}
use Rattle.arena_state.specs.Filled.{Content, filled, filled_body, filled_in}
use Rattle.arena_state.specs.Kept.{AreStored, label_kept}
use Rattle.arena_state.specs.Stocked.{content_at}
use Rattle.arena_state.specs.States.{state_of}
use Rattle.arena_state.proofs.CarriedLaws.{held_carried, is_same, same_is, or_rest}

-- a label is that of an index which is claimed
pub record Claimed (labels : List (Option Held)) (l : LabelValue) (claims_at : ℕ → ℕ) : Type 0 where
  pub index : ℕ
  pub some : 0 < claims_at index
  pub label : is_same l (label_of labels index) ≡ true

one_self : (i : ℕ) → one_at i i ≡ 1
one_self i = ap {B = ℕ} (λ (b : Bool). cond b 1 0) (eq-eqb i i refl)

or_none : (b : Bool) → (b || false) ≡ true → b ≡ true
or_none true h = refl
or_none false h = h

body_claimed : (labels : List (Option Held)) (k : kept.Kept) (list : List ℕ) (c : Content) (l : LabelValue)
    → is_stored_in l (labels_of_body (filled_body c (body_of labels k list))) ≡ true
    → Claimed labels l (λ i. body_claims i k)
body_claimed labels (keeps.Container avoid used) list c l h = absurd (true≢false (sym h))
body_claimed labels (keeps.Segment pages) list c l h = absurd (true≢false (sym h))
body_claimed labels keeps.AddressSpace list c l h = absurd (true≢false (sym h))
body_claimed labels (keeps.Thread t) list c l h = elim (cases_Bool (is_same l (label_of labels t.clearance.0))) [
  | inl is ↦ record {
    index = t.clearance.0;
    some = omega (arith, one_self t.clearance.0);
    label = is;
  }
  | inr off ↦ record {
    index = t.verify.0;
    some = omega (arith, one_self t.verify.0);
    label = or_none (is_same l (label_of labels t.verify.0))
        (or_rest (is_same l (label_of labels t.clearance.0))
        (is_stored_in l (label_of labels t.verify.0 ∷ [])) off h);
  }
]
body_claimed labels (keeps.Gate g) list c l h = record {
  index = g.clearance.0;
  some = omega (arith, one_self g.clearance.0);
  label = or_none (is_same l (label_of labels g.clearance.0)) h;
}
body_claimed labels keeps.Device list c l h = absurd (true≢false (sym h))

record_claimed : (labels : List (Option Held)) (r : Record) (list : List ℕ) (c : Content) (l : LabelValue)
    → is_stored_in l (labels_of (filled c (assembled labels r list))) ≡ true
    → Claimed labels l (λ i. claims i r)
record_claimed labels r list c l h = elim (cases_Bool (is_same l (label_of labels r.label.0))) [
  | inl is ↦ record {
    index = r.label.0;
    some = omega (arith, one_self r.label.0);
    label = is;
  }
  | inr off ↦
      let body = body_claimed labels r.body list c l
      (or_rest (is_same l (label_of labels r.label.0))
      (is_stored_in l (labels_of_body (filled_body c (body_of labels r.body list)))) off h) in
      record { index = body.index; some = omega (arith, body.some); label = body.label }
]

rows_claimed : (h : Holdings) (cs : ℕ → Content) (l : LabelValue) (lists : List (ℕ × List ℕ)) (slots : List ℕ)
    → length (ids_in lists) ≡ length slots
    → is_stored_in l (flat_map (λ (e : ℕ × Object). labels_of e.1) (filled_in cs (objects_in h (rows_of lists slots))))
    ≡ true
    → Claimed h.labels l (λ i. claims_in h.records.items slots i)
rows_claimed h cs l [] [] long is = absurd (true≢false (sym is))
rows_claimed h cs l [] (x ∷ slots) long is = absurd (omega arith)
rows_claimed h cs l (e ∷ es) [] long is = absurd (omega arith)
rows_claimed h cs l (e ∷ es) (x ∷ slots) long is =
    let r = record_in h.records.items x in
    let own : List LabelValue = labels_of (filled (cs e.0) (assembled h.labels r e.1)) in
    let others : List LabelValue
    = flat_map (λ (e : ℕ × Object). labels_of e.1) (filled_in cs (objects_in h (rows_of es slots))) in
    let either : (is_stored_in l own || is_stored_in l others) ≡ true
    = sym (list_any-append (is_same l) own others) ∙ is in
    elim (cases_Bool (is_stored_in l own)) as (λ _. Claimed h.labels l (λ i. claims_in h.records.items (x ∷ slots) i)) [
      | inl here ↦
          let found = record_claimed h.labels r e.1 (cs e.0) l here in
          record {
            index = found.index;
            some = omega (
              arith,
              found.some,
              sum_by-cons (λ (s : ℕ). claims found.index (record_in h.records.items s)) x slots,
            );
            label = found.label;
          }
      | inr off ↦
          let found = rows_claimed h cs l es slots (omega arith) (or_rest (is_stored_in l own) (is_stored_in l others) off either) in
          record {
            index = found.index;
            some = omega (
              arith,
              found.some,
              sum_by-cons (λ (s : ℕ). claims found.index (record_in h.records.items s)) x slots,
            );
            label = found.label;
          }
    ]

-- what has an owner has a label
owned_label : (o : Option Held) (l : LabelValue) → 0 < owners_in o → l ≡ label_in o → option_map (λ h. h.label) o ≡ Some l
owned_label None l some is = absurd (omega arith)
owned_label (Some h) l some is = ap Some (sym is)

-- a place whose label is l has it
pub record Holding (o : Option Held) (l : LabelValue) : Type 0 where
  pub held : Held
  pub here : o ≡ Some held
  pub label : held.label ≡ l

holding : (o : Option Held) (l : LabelValue) → option_map (λ h. h.label) o ≡ Some l → Holding o l
holding None l e = absurd (none-some l e)
holding (Some h) l e = record { held = h; here = refl; label = same_Some h.label l e }

pub labels_kept : (a : ArenaState) → IsInterned a.pieces.holdings.labels → AreStored (state_of a) (label_kept a)
labels_kept a interned = record { stored = is_stored; all = has_index; once = is_once }
  where
    is_stored : (i : ℕ) (l : LabelValue) → label_kept a i ≡ Some l
        → is_stored_in l (stored_labels (state_of a).objects) ≡ true
    is_stored i l e =
        let at = holding (held_at a.pieces.holdings.labels i) l e in
        ap (λ (m : LabelValue). is_stored_in m (stored_labels (state_of a).objects)) (sym at.label)
        ∙ held_carried a.pieces a.sound interned i at.held at.here

    has_index : (l : LabelValue) → is_stored_in l (stored_labels (state_of a).objects) ≡ true
        → (i : ℕ) × (label_kept a i ≡ Some l)
    has_index l is =
        let found = rows_claimed a.pieces.holdings (content_at a.pieces) l a.pieces.places.lists a.pieces.places.slots
        a.sound.tree.beside (sym ((labels_listed (state_of a).objects).1 l) ∙ is) in (
          found.index,
          owned_label (held_at a.pieces.holdings.labels found.index) l
              (omega (arith, found.some, a.sound.owned found.index))
              (same_is l (label_of a.pieces.holdings.labels found.index) found.label),
        )

    is_once : (i j : ℕ) (l : LabelValue) → label_kept a i ≡ Some l → label_kept a j ≡ Some l → i ≡ j
    is_once i j l e d =
        let one = holding (held_at a.pieces.holdings.labels i) l e in
        let other = holding (held_at a.pieces.holdings.labels j) l d in
        interned.one_index i j one.held other.held one.here other.here (one.label ∙ sym other.label)

-- The stored labels are those that objects carry.
use Rattle.std.proofs.Common.{◌≡◌, ℕ, suc, ◌+◌, ◌<◌, ◌≤◌, Bool, true, false, cond, ◌||◌, ◌==◌, List, [], ◌∷◌, length, Option, Some, None, is_some, refl, sym, ◌∙◌, ap, arith, inl, inr, true≢false}
use Rattle.std.specs.declared.cmp.Ordering.{Ordering}
use Rattle.std.specs.declared.cmp.Ordering.TheVariants.{Less, Equal, Greater}
use Rattle.std.specs.Ordering.{is_eq}
use Rattle.std.specs.List.{flat_map}
use Rattle.std.proofs.lemmas.Bool.{cases_Bool, cases_eq, eqb-true}
use Rattle.std.proofs.lemmas.List.Folds.{list_any-append}
use Rattle.std.proofs.lemmas.List.Sums.{sum_by-cons}
use Rattle.label_lattice.specs.Label.{LabelValue}
use Rattle.label_lattice.specs.Listing.{label_cmp}
use Rattle.label_lattice.proofs.ListingLemmas.{labels_exact, labels_tied}
use Rattle.containers.specs.Tree.{ids_in}
use Rattle.label_intern.specs.declared.held.Held.{Held}
use Rattle.label_intern.specs.Held.{held_at, label_of, label_in, owners_in, stored, IsInterned}
use Rattle.label_intern.specs.Owners.{one_at}
use Rattle.kernel_rules.specs.Scratch.{labels_of, labels_of_body, is_stored_in, stored_labels}
use Rattle.kernel_rules.specs.declared.objects.Object.{Object}
use Rattle.kernel_laws.proofs.Listed.{labels_listed}
use Rattle.arena_state.specs.declared.records.Record.{Record}
use Rattle.arena_state.specs.declared.records.Kept as kept
use Rattle.arena_state.specs.declared.records.Kept.TheVariants as keeps
use Rattle.arena_state.specs.declared.holdings.Holdings.{Holdings}
use Rattle.arena_state.specs.declared.pieces.Pieces.{Pieces}
use Rattle.arena_state.specs.Rows.{rows_of}
use Rattle.arena_state.specs.Assembled.{assembled, body_of, body_claims, claims, claims_in, objects_in, record_in}
use Rattle.arena_state.specs.Filled.{Content, filled, filled_body, filled_in}
use Rattle.arena_state.specs.Stocked.{content_at, whole_state}
use Rattle.arena_state.specs.Sound.{IsSound}

-- whether two labels are one
abbrev pub is_same : LabelValue → LabelValue → Bool
is_same l m = is_eq (label_cmp l m)

tied : (r : Ordering) → is_eq r ≡ true → r ≡ Equal
tied Less h = absurd (true≢false (sym h))
tied Equal h = refl
tied Greater h = absurd (true≢false (sym h))

pub same_is : (l m : LabelValue) → is_same l m ≡ true → l ≡ m
same_is l m e = labels_exact l m (tied (label_cmp l m) e)

is_itself : (l m : LabelValue) → l ≡ m → is_same l m ≡ true
is_itself l m e = ap is_eq (labels_tied l m e)

or_first : (a b : Bool) → a ≡ true → (a || b) ≡ true
or_first true b e = refl
or_first false b e = absurd (true≢false (sym e))

or_later : (a b : Bool) → b ≡ true → (a || b) ≡ true
or_later true b e = refl
or_later false b e = e

pub or_rest : (a b : Bool) → a ≡ false → (a || b) ≡ true → b ≡ true
or_rest true b e h = absurd (true≢false e)
or_rest false b e h = h

-- these labels without the first that is l
abbrev without : LabelValue → List LabelValue → List LabelValue
without l [] = []
without l (m ∷ ms) = cond (is_same l m) ms (m ∷ without l ms)

shorter : (l : LabelValue) (ms : List LabelValue) → is_stored_in l ms ≡ true
    → length (without l ms) + 1 ≤ length ms
shorter l [] h = absurd (true≢false (sym h))
shorter l (m ∷ ms) h = by (shorter l ms) (is_same l m) refl
  where
    by : (is_stored_in l ms ≡ true → length (without l ms) + 1 ≤ length ms)
        → (b : Bool) → is_same l m ≡ b
        → length (cond b ms (m ∷ without l ms)) + 1 ≤ length (m ∷ ms)
    by later true e = omega arith
    by later false e = omega (arith, later (or_rest (is_same l m) (is_stored_in l ms) e h))

others_stay : (x l : LabelValue) (ms : List LabelValue) → is_same x l ≡ false
    → is_stored_in x ms ≡ true → is_stored_in x (without l ms) ≡ true
others_stay x l [] off h = h
others_stay x l (m ∷ ms) off h = by (others_stay x l ms off) (is_same l m) refl
  where
    by : (is_stored_in x ms ≡ true → is_stored_in x (without l ms) ≡ true)
        → (b : Bool) → is_same l m ≡ b → is_stored_in x (cond b ms (m ∷ without l ms)) ≡ true
    by later true e =
        or_rest (is_same x m) (is_stored_in x ms)
        (ap (is_same x) (sym (same_is l m e)) ∙ off) h
    by later false e = elim (cases_Bool (is_same x m)) [
      | inl here ↦ or_first (is_same x m) (is_stored_in x (without l ms)) here
      | inr there ↦
          or_later (is_same x m) (is_stored_in x (without l ms))
          (later (or_rest (is_same x m) (is_stored_in x ms) there h))
    ]

less_one : (i j : ℕ) → suc i ≡ suc j → i ≡ j
less_one i j e = omega arith

never_first : (i : ℕ) → suc i ≡ 0 → ⊥
never_first i e = omega arith

-- labels each of which has one index, and stands among others, are no more than these
no_more : (slots : List (Option Held)) (ms : List LabelValue)
    → ((i : ℕ) (h : Held) → held_at slots i ≡ Some h → is_stored_in h.label ms ≡ true)
    → ((i j : ℕ) (g h : Held) → held_at slots i ≡ Some g → held_at slots j ≡ Some h
    → g.label ≡ h.label → i ≡ j)
    → stored slots ≤ length ms
no_more [] ms among one = omega arith
no_more (None ∷ slots) ms among one =
    let later : stored slots ≤ length ms
    = no_more slots ms (λ i h e. among (suc i) h e)
    (λ i j g h d e same. less_one i j (one (suc i) (suc j) g h d e same)) in
    omega (arith, sum_by-cons (λ (o : Option Held). cond (is_some o) 1 0) None slots)
no_more (Some x ∷ slots) ms among one =
    let later : stored slots ≤ length (without x.label ms)
    = no_more slots (without x.label ms)
    (λ i h e. others_stay h.label x.label ms (apart i h e) (among (suc i) h e))
    (λ i j g h d e same. less_one i j (one (suc i) (suc j) g h d e same)) in
    omega (
      arith,
      sum_by-cons (λ (o : Option Held). cond (is_some o) 1 0) (Some x) slots,
      shorter x.label ms (among 0 x refl),
    )
  where
    apart : (i : ℕ) (h : Held) → held_at slots i ≡ Some h → is_same h.label x.label ≡ false
    apart i h e = elim (cases_Bool (is_same h.label x.label)) [
      | inl is ↦ absurd (never_first i (one (suc i) 0 h x e refl (same_is h.label x.label is)))
      | inr off ↦ off
    ]

-- an index that is claimed once is the one that is claimed
claimed : (labels : List (Option Held)) (i j : ℕ) → 0 < one_at i j
    → is_same (label_of labels i) (label_of labels j) ≡ true
claimed labels i j one = elim (cases_Bool (i == j)) [
  | inl is ↦ is_itself (label_of labels i) (label_of labels j) (ap (label_of labels) (eqb-true i j is))
  | inr off ↦
      let none : one_at i j ≡ 0 = ap {B = ℕ} (λ (b : Bool). cond b 1 0) off in
      absurd (omega arith)
]

body_carries : (labels : List (Option Held)) (k : kept.Kept) (list : List ℕ) (c : Content) (i : ℕ)
    → 0 < body_claims i k
    → is_stored_in (label_of labels i) (labels_of_body (filled_body c (body_of labels k list)))
    ≡ true
body_carries labels (keeps.Container avoid used) list c i one = absurd (omega arith)
body_carries labels (keeps.Segment pages) list c i one = absurd (omega arith)
body_carries labels keeps.AddressSpace list c i one = absurd (omega arith)
body_carries labels (keeps.Thread t) list c i one = elim (cases_eq 0 (one_at i t.clearance.0)) [
  | inl none ↦
      or_later (is_same (label_of labels i) (label_of labels t.clearance.0))
      (is_stored_in (label_of labels i) (label_of labels t.verify.0 ∷ []))
      (or_first (is_same (label_of labels i) (label_of labels t.verify.0)) false
      (claimed labels i t.verify.0 (omega arith)))
  | inr some ↦
      or_first (is_same (label_of labels i) (label_of labels t.clearance.0))
      (is_stored_in (label_of labels i) (label_of labels t.verify.0 ∷ []))
      (claimed labels i t.clearance.0 (omega arith))
]
body_carries labels (keeps.Gate g) list c i one =
    or_first (is_same (label_of labels i) (label_of labels g.clearance.0)) false
    (claimed labels i g.clearance.0 (omega arith))
body_carries labels keeps.Device list c i one = absurd (omega arith)

-- an index that a record claims has a label that its object carries
record_carries : (labels : List (Option Held)) (r : Record) (list : List ℕ) (c : Content) (i : ℕ)
    → 0 < claims i r
    → is_stored_in (label_of labels i) (labels_of (filled c (assembled labels r list))) ≡ true
record_carries labels r list c i one = elim (cases_eq 0 (one_at i r.label.0)) [
  | inl none ↦
      or_later (is_same (label_of labels i) (label_of labels r.label.0))
      (is_stored_in (label_of labels i) (labels_of_body (filled_body c (body_of labels r.body list))))
      (body_carries labels r.body list c i (omega arith))
  | inr some ↦
      or_first (is_same (label_of labels i) (label_of labels r.label.0))
      (is_stored_in (label_of labels i) (labels_of_body (filled_body c (body_of labels r.body list))))
      (claimed labels i r.label.0 (omega arith))
]

-- and so has an index that the records of rows claim
rows_carry : (h : Holdings) (cs : ℕ → Content) (i : ℕ) (lists : List (ℕ × List ℕ)) (slots : List ℕ)
    → length (ids_in lists) ≡ length slots → 0 < claims_in h.records.items slots i
    → is_stored_in (label_of h.labels i)
    (flat_map (λ (e : ℕ × Object). labels_of e.1) (filled_in cs (objects_in h (rows_of lists slots))))
    ≡ true
rows_carry h cs i [] [] long one = absurd (omega arith)
rows_carry h cs i [] (x ∷ slots) long one = absurd (omega arith)
rows_carry h cs i (e ∷ es) [] long one = absurd (omega arith)
rows_carry h cs i (e ∷ es) (x ∷ slots) long one =
    let r = record_in h.records.items x in
    let own : List LabelValue = labels_of (filled (cs e.0) (assembled h.labels r e.1)) in
    let others : List LabelValue
    = flat_map (λ (e : ℕ × Object). labels_of e.1) (filled_in cs (objects_in h (rows_of es slots))) in
    list_any-append (is_same (label_of h.labels i)) own others
    ∙ elim (cases_eq 0 (claims i r)) as (λ _. (is_stored_in (label_of h.labels i) own
    || is_stored_in (label_of h.labels i) others) ≡ true) [
      | inl none ↦
          or_later (is_stored_in (label_of h.labels i) own) (is_stored_in (label_of h.labels i) others)
          (rows_carry h cs i es slots (omega arith)
          (omega (arith, sum_by-cons (λ (s : ℕ). claims i (record_in h.records.items s)) x slots)))
      | inr some ↦
          or_first (is_stored_in (label_of h.labels i) own) (is_stored_in (label_of h.labels i) others)
          (record_carries h.labels r e.1 (cs e.0) i (omega arith))
    ]

-- the label of an index that has one is a stored label
pub held_carried : (p : Pieces) → IsSound p → IsInterned p.holdings.labels → (i : ℕ) (h : Held)
    → held_at p.holdings.labels i ≡ Some h
    → is_stored_in h.label (stored_labels (whole_state p).objects) ≡ true
held_carried p s interned i h e =
    let owners : owners_in (held_at p.holdings.labels i) ≡ h.owners = ap owners_in e in
    let label : label_of p.holdings.labels i ≡ h.label = ap label_in e in
    (labels_listed (whole_state p).objects).1 h.label
    ∙ ap (λ (l : LabelValue). is_stored_in l
    (flat_map (λ (e : ℕ × Object). labels_of e.1) (whole_state p).objects)) (sym label)
    ∙ rows_carry p.holdings (content_at p) i p.places.lists p.places.slots s.tree.beside
    (omega (arith, s.owned i, interned.has_owner i h e))

-- the stored labels are no more than the different labels that objects carry
pub labels_carried : (p : Pieces) → IsSound p → IsInterned p.holdings.labels
    → stored p.holdings.labels ≤ length (stored_labels (whole_state p).objects)
labels_carried p s interned =
    no_more p.holdings.labels (stored_labels (whole_state p).objects) (held_carried p s interned) interned.one_index

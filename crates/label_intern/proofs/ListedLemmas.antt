-- The list of the indexes of stored labels, as labels come, stay and go.
use Rattle.std.proofs.Common.{◌≡◌, ◌≢◌, ◌⊎◌, inl, inr, ℕ, ◌+◌, ◌-◌, ◌<◌, ◌≤◌, List, [], Option, Some, None, length, get_or, set, replicate, cond, true, false, is_some, IsSome, refl, sym, ap, ◌∙◌, subst, arith}
use Rattle.std.specs.List.{insert, remove}
use Rattle.std.specs.declared.cmp.Ordering.TheVariants.{Less}
use Rattle.std.proofs.lemmas.List.{get_or-set_same, get_or-set_other, get_or-replicate, get_or_past, length-replicate}
use Rattle.std.proofs.lemmas.List.Edits.{length-insert, get_or-insert_below, get_or-insert_at, get_or-insert_above, length-remove, get_or-remove_below, get_or-remove_above}
use Rattle.std.proofs.lemmas.List.Sums.{sum_by-set}
use Rattle.std.proofs.lemmas.Bool.{cases_eq, cases_lt, cases_order, false≢true}
use Rattle.std.proofs.lemmas.List.Folds.{sum_by-replicate}
use Rattle.std.proofs.lemmas.Option.{same_Some}
use Rattle.label_lattice.specs.Label.{LabelValue}
use Rattle.label_lattice.specs.Listing.{label_cmp}
use Rattle.label_intern.specs.declared.held.Held.{Held}
use Rattle.label_intern.specs.Held.{held_at, label_in, label_of, owners_in, stored, raised, fewer, HasLabel}
use Rattle.label_intern.specs.Listed.{Stands, IsListed, IsGap}
use Rattle.label_intern.proofs.HeldLemmas.{held_within, held_read, fewer_given, none}
use Rattle.label_intern.proofs.SearchLemmas.{not_before}

-- 1 where there is a label
abbrev one : Option Held → ℕ
one v = cond (is_some v) 1 0

-- how many labels there are once a place was written
stored_set : (slots : List (Option Held)) (i : ℕ) (x : Option Held) → i < length slots
    → stored (set slots i x) + one (held_at slots i) ≡ stored slots + one x
stored_set slots i x i_in = sum_by-set one slots i x None i_in

-- another index has what it had
kept_other : (slots : List (Option Held)) (i j : ℕ) (x : Option Held) → j ≢ i → held_at (set slots i x) j ≡ held_at slots j
kept_other slots i j x other = get_or-set_other slots i j x None other

kept_here : (slots : List (Option Held)) (i : ℕ) (x : Option Held) → i < length slots → held_at (set slots i x) i ≡ x
kept_here slots i x i_in = get_or-set_same slots i x None i_in

-- the same labels at the same indexes
pub listed_same : (slots new : List (Option Held)) (listed : List ℕ)
    → ((i : ℕ) → is_some (held_at new i) ≡ is_some (held_at slots i)) → ((i : ℕ) → label_of new i ≡ label_of slots i)
    → stored new ≡ stored slots → IsListed slots listed → IsListed new listed
listed_same slots new listed some label count s = record {
  taken = λ k k_in. some (get_or listed k 0) ∙ s.taken k k_in;
  all = λ i here. s.all i (sym (some i) ∙ here);
  rises = λ j k lt k_in.
      ap (λ (a : LabelValue). label_cmp a (label_of new (get_or listed k 0))) (label (get_or listed j 0))
      ∙ ap (λ (a : LabelValue). label_cmp (label_of slots (get_or listed j 0)) a) (label (get_or listed k 0))
      ∙ s.rises j k lt k_in;
  count = s.count ∙ sym count;
}

-- an index has another number of owners
pub listed_set : (slots : List (Option Held)) (listed : List ℕ) (i : ℕ) (g h : Held) (x : Option Held) → i < length slots
    → held_at slots i ≡ Some g → x ≡ Some h → h.label ≡ g.label → IsListed slots listed → IsListed (set slots i x) listed
listed_set slots listed i g h x i_in at new label s =
    listed_same slots (set slots i x) listed
    (λ j. elim (cases_eq j i) as (λ _. is_some (held_at (set slots i x) j) ≡ is_some (held_at slots j)) [
      | inl same ↦ rw same (ap is_some (kept_here slots i x i_in ∙ new) ∙ sym (ap is_some at))
      | inr other ↦ ap is_some (kept_other slots i j x other)
    ])
    (λ j. elim (cases_eq j i) as (λ _. label_of (set slots i x) j ≡ label_of slots j) [
      | inl same ↦ rw same (ap label_in (kept_here slots i x i_in ∙ new) ∙ label ∙ sym (ap label_in at))
      | inr other ↦ ap label_in (kept_other slots i j x other)
    ])
    (omega (arith, stored_set slots i x i_in, ap one at, ap one new)) s

module _ (slots : List (Option Held)) (listed : List ℕ) (i : ℕ) (new : Held) (place : ℕ) (i_in : i < length slots)
    (free : held_at slots i ≡ None) (gap : IsGap slots listed new.label place) (s : IsListed slots listed) where
  abbrev after : List (Option Held)
  after = set slots i (Some new)

  -- who had a label is another
  was : (j : ℕ) → IsSome (held_at slots j) → held_at after j ≡ held_at slots j
  was j some = kept_other slots i j (Some new) (λ e. false≢true (sym (ap is_some (rw (← e) at free)) ∙ some))

  below : (k : ℕ) → k < place → held_at after (get_or (insert listed place i) k 0) ≡ held_at slots (get_or listed k 0)
  below k lt =
      ap (held_at after) (get_or-insert_below listed place i 0 k lt gap.within)
      ∙ was (get_or listed k 0) (s.taken k (omega (arith, gap.within)))

  here : held_at after (get_or (insert listed place i) place 0) ≡ Some new
  here = ap (held_at after) (get_or-insert_at listed place i 0 gap.within) ∙ kept_here slots i (Some new) i_in

  above : (k : ℕ) → place ≤ k → k < length listed → held_at after (get_or (insert listed place i) (k + 1) 0) ≡ held_at slots (get_or listed k 0)
  above k from k_in =
      ap (held_at after) (get_or-insert_above listed place i 0 k from gap.within)
      ∙ was (get_or listed k 0) (s.taken k k_in)

  -- an index of the longer list is below the place, at it, or one more than one from it on
  part : (k : ℕ) → k < length listed + 1 → (k < place) ⊎ ((k ≡ place) ⊎ ((m : ℕ) × (k ≡ m + 1) × (place ≤ m) × (m < length listed)))
  part k k_in = elim (cases_order k place) [
    | inl same ↦ inr (inl same)
    | inr apart ↦ elim apart [
      | inl lt ↦ inl lt
      | inr gt ↦ inr (inr (k - 1, omega arith, omega arith, omega arith))
    ]
  ]

  taken : (k : ℕ) → k < length listed + 1 → IsSome (held_at after (get_or (insert listed place i) k 0))
  taken k k_in = elim (part k k_in) [
    | inl lt ↦ ap is_some (below k lt) ∙ s.taken k (omega (arith, gap.within))
    | inr rest ↦ elim rest [
      | inl same ↦ rw same (ap is_some here)
      | inr m ↦ rw m.1 (ap is_some (above m.0 m.2 m.3) ∙ s.taken m.0 m.3)
    ]
  ]

  all : (j : ℕ) → IsSome (held_at after j) → Stands (insert listed place i) j
  all j some = elim (cases_eq j i) as (λ _. Stands (insert listed place i) j) [
    | inl same ↦ (
      place,
      omega (arith, gap.within, length-insert listed place i gap.within),
      get_or-insert_at listed place i 0 gap.within ∙ sym same,
    )
    | inr other ↦
        let at = s.all j (sym (ap is_some (kept_other slots i j (Some new) other)) ∙ some) in
        elim (cases_lt at.0 place) as (λ _. Stands (insert listed place i) j) [
          | inl lt ↦ (
            at.0,
            omega (arith, at.1, length-insert listed place i gap.within),
            get_or-insert_below listed place i 0 at.0 lt gap.within ∙ at.2,
          )
          | inr from ↦ (
            at.0 + 1,
            omega (arith, at.1, length-insert listed place i gap.within),
            get_or-insert_above listed place i 0 at.0 from gap.within ∙ at.2,
          )
        ]
  ]

  abbrev Rises : Option Held → Option Held → Type 0
  Rises a b = label_cmp (label_in a) (label_in b) ≡ Less

  rises : (j k : ℕ) → j < k → k < length listed + 1
      → Rises (held_at after (get_or (insert listed place i) j 0)) (held_at after (get_or (insert listed place i) k 0))
  rises j k lt k_in = elim (part k k_in) [
    | inl k_lt ↦ rw (below j (omega arith), below k k_lt) (s.rises j k lt (omega (arith, gap.within)))
    | inr rest ↦ elim rest [
      | inl same ↦ rw (same, here, below j (omega arith)) (gap.before j (omega arith))
      | inr m ↦ elim (part j (omega arith)) [
        | inl j_lt ↦ rw (m.1, below j j_lt, above m.0 m.2 m.3) (s.rises j m.0 (omega (arith, m.2)) m.3)
        | inr others ↦ elim others [
          | inl same ↦ rw (m.1, same, here, above m.0 m.2 m.3) (gap.after m.0 m.2 m.3)
          | inr n ↦ rw (m.1, n.1, above n.0 n.2 n.3, above m.0 m.2 m.3) (s.rises n.0 m.0 (omega (arith, m.1, n.1)) m.3)
        ]
      ]
    ]
  ]

  -- a free index has got a label, and is listed in its gap
  pub listed_new : IsListed after (insert listed place i)
  listed_new = record {
    taken = λ k k_in. taken k (omega (arith, length-insert listed place i gap.within));
    all = all;
    rises = λ j k lt k_in. rises j k lt (omega (arith, length-insert listed place i gap.within));
    count = omega (arith, length-insert listed place i gap.within, s.count, stored_set slots i (Some new) i_in, ap one free);
  }

module _ (slots : List (Option Held)) (listed : List ℕ) (i : ℕ) (h : Held) (place : ℕ) (at : held_at slots i ≡ Some h)
    (place_in : place < length listed) (is : get_or listed place 0 ≡ i) (s : IsListed slots listed) where
  abbrev left : List (Option Held)
  left = set slots i None

  -- no index is listed twice
  alone : (k : ℕ) → k < length listed → k ≢ place → get_or listed k 0 ≢ i
  alone k k_in apart e =
      let same : get_or listed k 0 ≡ get_or listed place 0 = e ∙ sym is in
      elim (cases_lt k place) as (λ _. ⊥) [
        | inl lt ↦ not_before (label_of slots (get_or listed place 0))
            (subst (λ (x : ℕ). label_cmp (label_of slots x) (label_of slots (get_or listed place 0)) ≡ Less) same (s.rises k place lt place_in))
        | inr ge ↦ not_before (label_of slots (get_or listed place 0))
            (subst (λ (x : ℕ). label_cmp (label_of slots (get_or listed place 0)) (label_of slots x) ≡ Less) same (s.rises place k (omega arith) k_in))
      ]

  kept : (k : ℕ) → k < length listed → k ≢ place → held_at left (get_or listed k 0) ≡ held_at slots (get_or listed k 0)
  kept k k_in apart = kept_other slots i (get_or listed k 0) None (alone k k_in apart)

  lower : (k : ℕ) → k < place → held_at left (get_or (remove listed place) k 0) ≡ held_at slots (get_or listed k 0)
  lower k lt = ap (held_at left) (get_or-remove_below listed place 0 k lt place_in) ∙ kept k (omega arith) (omega arith)

  upper : (k : ℕ) → place ≤ k → k + 1 < length listed → held_at left (get_or (remove listed place) k 0) ≡ held_at slots (get_or listed (k + 1) 0)
  upper k ge k_in = ap (held_at left) (get_or-remove_above listed place 0 k ge place_in) ∙ kept (k + 1) k_in (omega arith)

  taken_left : (k : ℕ) → k + 1 < length listed → IsSome (held_at left (get_or (remove listed place) k 0))
  taken_left k k_in = elim (cases_lt k place) as (λ _. IsSome (held_at left (get_or (remove listed place) k 0))) [
    | inl lt ↦ ap is_some (lower k lt) ∙ s.taken k (omega arith)
    | inr ge ↦ ap is_some (upper k ge k_in) ∙ s.taken (k + 1) k_in
  ]

  all_left : (j : ℕ) → IsSome (held_at left j) → Stands (remove listed place) j
  all_left j some =
      let other : j ≢ i = λ e. false≢true (sym (ap is_some (ap (held_at left) e ∙ kept_here slots i None (held_within slots i h at))) ∙ some) in
      let p = s.all j (sym (ap is_some (kept_other slots i j None other)) ∙ some) in
      elim (cases_order p.0 place) as (λ _. Stands (remove listed place) j) [
        | inl same ↦ absurd (other (sym p.2 ∙ ap (λ (k : ℕ). get_or listed k 0) same ∙ is))
        | inr apart ↦ elim apart [
          | inl lt ↦ (
            p.0,
            omega (arith, length-remove listed place place_in),
            get_or-remove_below listed place 0 p.0 lt place_in ∙ p.2,
          )
          | inr gt ↦
              let back : (p.0 - 1) + 1 ≡ p.0 = omega arith in (
                p.0 - 1,
                omega (arith, p.1, length-remove listed place place_in),
                get_or-remove_above listed place 0 (p.0 - 1) (omega arith) place_in
                    ∙ ap (λ (k : ℕ). get_or listed k 0) back ∙ p.2,
              )
        ]
      ]

  abbrev Climbs : Option Held → Option Held → Type 0
  Climbs a b = label_cmp (label_in a) (label_in b) ≡ Less

  rises_left : (j k : ℕ) → j < k → k + 1 < length listed
      → Climbs (held_at left (get_or (remove listed place) j 0)) (held_at left (get_or (remove listed place) k 0))
  rises_left j k lt k_in = elim (cases_lt k place) [
    | inl k_lt ↦ rw (lower j (omega arith), lower k k_lt) (s.rises j k lt (omega arith))
    | inr k_ge ↦ elim (cases_lt j place) [
      | inl j_lt ↦ rw (lower j j_lt, upper k k_ge k_in) (s.rises j (k + 1) (omega arith) k_in)
      | inr j_ge ↦ rw (upper j j_ge (omega arith), upper k k_ge k_in) (s.rises (j + 1) (k + 1) (omega arith) k_in)
    ]
  ]

  -- an index has no label any more, and is taken out of the list
  pub listed_gone : IsListed left (remove listed place)
  listed_gone = record {
    taken = λ k k_in. taken_left k (omega (arith, length-remove listed place place_in));
    all = all_left;
    rises = λ j k lt k_in. rises_left j k lt (omega (arith, length-remove listed place place_in));
    count = omega (arith, length-remove listed place place_in, s.count, stored_set slots i None (held_within slots i h at), ap one at);
  }

-- no label is listed
pub listed_none : (n : ℕ) (slots : List (Option Held)) (listed : List ℕ) → slots ≡ replicate n None → listed ≡ [] → IsListed slots listed
listed_none n slots listed e empty = rw (e, empty) (record {
  taken = λ k k_in. absurd (omega arith);
  all = λ i some. absurd (false≢true (sym (ap is_some (free i)) ∙ some));
  rises = λ j k lt k_in. absurd (omega arith);
  count = omega (arith, sum_by-replicate one n none);
})
  where
    free : (i : ℕ) → held_at (replicate n None) i ≡ None
    free i = elim (cases_lt i n) as (λ _. held_at (replicate n None) i ≡ None) [
      | inl within ↦ get_or-replicate n i None None within
      | inr past ↦ get_or_past (replicate n None) i None (omega (arith, length-replicate n none))
    ]

-- an owner less leaves nothing, or the label that was there
pub unlisted_left : (slots : List (Option Held)) (listed : List ℕ) (i place : ℕ) (x : Option Held) → IsSome (held_at slots i) → is_some x ≡ false
    → place < length listed → get_or listed place 0 ≡ i → IsListed slots listed → IsListed (set slots i x) (remove listed place)
unlisted_left slots listed i place x some gone place_in is s = of (held_at slots i) refl some x gone
  where
    of : (v : Option Held) → held_at slots i ≡ v → IsSome v → (x : Option Held) → is_some x ≡ false
        → IsListed (set slots i x) (remove listed place)
    of None at there x gone = absurd (false≢true there)
    of (Some h) at there None gone = listed_gone slots listed i h place at place_in is s
    of (Some h) at there (Some g) gone = absurd (false≢true (sym gone))

pub listed_left : (slots : List (Option Held)) (listed : List ℕ) (i : ℕ) (x : Option Held) → IsSome (held_at slots i) → is_some x ≡ true
    → x ≡ fewer (held_at slots i) → IsListed slots listed → IsListed (set slots i x) listed
listed_left slots listed i x some left made s = of (held_at slots i) refl some x left made
  where
    of : (v : Option Held) → held_at slots i ≡ v → IsSome v → (x : Option Held) → is_some x ≡ true → x ≡ fewer v → IsListed (set slots i x) listed
    of None at there x left made = absurd (false≢true there)
    of (Some g) at there None left made = absurd (false≢true left)
    of (Some g) at there (Some h) left made =
        let k = fewer_given (Some g) h (sym made) in
        let same : g ≡ k.1.0 = same_Some g k.1.0 k.1.1 in
        listed_set slots listed i g h (Some h) (held_within slots i g at) at refl
        (sym k.1.2 ∙ ap (λ (v : Held). v.label) (sym same)) s

-- what one more owner leaves, as the code has it
pub listed_found : (slots slots' seen : List (Option Held)) (listed listed' : List ℕ) (i i' : ℕ) (l : LabelValue) (read placed : Option Held)
    → slots' ≡ slots → listed' ≡ listed → i' ≡ i → seen ≡ slots → HasLabel seen i l → read ≡ get_or slots' i' read → placed ≡ raised read l
    → IsListed slots listed → IsListed (set slots' i' placed) listed'
listed_found slots slots' seen listed listed' i i' l read placed same_slots same_listed same_i same_seen has is made s =
    let at : HasLabel slots i l = rw same_seen at has in
    let i_in : i < length slots = held_within slots i at.held at.here in
    let read_is : read ≡ get_or slots i read = rw (same_slots, same_i) at is in
    let e : placed ≡ raised (held_at slots i) l = rw (held_read slots i read read i_in read_is refl) made in
    let new : Held = record { label = l; owners = owners_in (held_at slots i) + 1 } in
    rw (same_slots, same_listed, same_i, e) (listed_set slots listed i at.held new (Some new) i_in at.here refl (sym at.label) s)

-- what a first owner leaves
pub listed_more : (slots slots' looked seen : List (Option Held)) (listed listed' among : List ℕ) (i i' place : ℕ) (l : LabelValue) (read placed : Option Held)
    → slots' ≡ slots → listed' ≡ insert listed place i → i' ≡ i → looked ≡ slots → among ≡ listed → seen ≡ slots → IsGap looked among l place
    → i < length seen → held_at seen i ≡ None → read ≡ get_or slots' i' read → placed ≡ raised read l
    → IsListed slots listed → IsListed (set slots' i' placed) listed'
listed_more slots slots' looked seen listed listed' among i i' place l read placed same_slots same_listed same_i same_looked same_among same_seen gap seen_in free is made s =
    let i_in : i < length slots = rw same_seen at seen_in in
    let read_is : read ≡ get_or slots i read = rw (same_slots, same_i) at is in
    let e : placed ≡ raised (held_at slots i) l = rw (held_read slots i read read i_in read_is refl) made in
    let new : Held = record { label = l; owners = owners_in (held_at slots i) + 1 } in
    rw (same_slots, same_listed, same_i, e)
    (listed_new slots listed i new place i_in (rw same_seen at free) (rw (same_looked, same_among) at gap) s)

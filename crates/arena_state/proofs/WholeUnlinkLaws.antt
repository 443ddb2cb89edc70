-- What slots hold once objects are gone.
use Rattle.std.proofs.Common.{◌≡◌, ℕ, ◌+◌, ◌*◌, ◌<◌, ◌≤◌, Bool, true, false, cond, ◌&&◌, ◌||◌, ◌==◌, List, [], ◌∷◌, length, replicate, Option, Some, None, refl, sym, ◌∙◌, ap, subst, arith, sum_by, inl, inr}
use Rattle.std.proofs.lemmas.Bool.{cases_Bool, eqb-true}
use Rattle.std.proofs.lemmas.List.Sums.{sum_by-cons}
use Rattle.std.proofs.lemmas.Option.{none-some}
use Rattle.base.specs.Live.{has}
use Rattle.base.specs.declared.ranges.Limits.{Limits}
use Rattle.containers.specs.declared.visitor.Located.{Located}
use Rattle.containers.specs.Tree.{ids_in, HasSlot}
use Rattle.containers.specs.Visits.{IsLost}
use Rattle.containers.proofs.Distinct.{Distinct, distinct_from}
use Rattle.kernel_rules.specs.State.{object_at}
use Rattle.kernel_rules.specs.Changes.{changed, delisting, without}
use Rattle.kernel_rules.specs.Step.{restricted}
use Rattle.kernel_rules.specs.WellFormed.{is_whole_body}
use Rattle.kernel_rules.specs.declared.objects.Body.TheVariants as is
use Rattle.kernel_rules.specs.declared.objects.Mapping.{Mapping}
use Rattle.kernel_rules.specs.declared.objects.Object.{Object}
use Rattle.kernel_rules.proofs.WellFormedLaws.{soundness_of}
use Rattle.arena_state.specs.declared.records.Kept as kept
use Rattle.arena_state.specs.declared.records.Kept.TheVariants as keeps
use Rattle.arena_state.specs.declared.holdings.Holdings.{Holdings}
use Rattle.arena_state.specs.declared.pieces.Pieces.{Pieces}
use Rattle.arena_state.specs.Filled.{filled_state}
use Rattle.arena_state.specs.Assembled.{pieces_state, record_in}
use Rattle.arena_state.specs.Stocked.{content_in, content_at, whole_state, kept_pages, keeps_space, pages_at, is_space_at, IsStocked}
use Rattle.arena_state.specs.Sound.{IsSound}
use Rattle.arena_memory.specs.Segments.{bytes_in}
use Rattle.arena_memory.specs.Queues.{packets_in}
use Rattle.arena_memory.specs.Mappings.{places_at}
use Rattle.arena_state.proofs.SoundLaws.{object_none, slot_within}
use Rattle.arena_state.proofs.DeathLaws.{keeps_pages, dead_slots, IsGone}
use Rattle.arena_state.proofs.FilledLaws.{same_filled, restricted_filled}
use Rattle.arena_state.proofs.HeldLaws.{whole_changed}
use Rattle.arena_state.proofs.StockLaws.{slot_is, slot_there, live_slot}
use Rattle.arena_state.proofs.WholeEditLaws.{relisting_apart}

abbrev once : Bool → ℕ
once b = cond b 1 0

-- how often a list without doubles has a slot
count_once : (x : ℕ) (xs : List ℕ) → Distinct xs → sum_by (λ y. once (x == y)) xs ≡ once (has xs x)
count_once x [] apart = refl
count_once x (y ∷ ys) apart =
    sum_by-cons (λ (z : ℕ). once (x == z)) y ys
    ∙ ap {B = ℕ} (λ (n : ℕ). once (x == y) + n) (count_once x ys apart.1)
    ∙ (elim (cases_Bool (x == y)) [
      | inl is' ↦
          let gone : has ys x ≡ false = ap (has ys) (eqb-true x y is') ∙ apart.0 in
          let left : once (x == y) ≡ 1 = ap once is' in
          let rest : once (has ys x) ≡ 0 = ap once gone in
          let all : once ((x == y) || has ys x) ≡ 1 = ap (λ (v : Bool). once (v || has ys x)) is' in
          omega (arith, left, rest, all)
      | inr off ↦
          let left : once (x == y) ≡ 0 = ap once off in
          let all : once ((x == y) || has ys x) ≡ once (has ys x) = ap (λ (v : Bool). once (v || has ys x)) off in
          omega (arith, left, all)
    ])

-- how often the dead had it, at least, and not at all
count_dead : (x : ℕ) (dead : List Located) → once (has (dead_slots dead) x) ≤ sum_by (λ o. once (x == o.slot.0)) dead
count_dead x [] = omega arith
count_dead x (o ∷ os) =
    let all = sum_by-cons (λ (z : Located). once (x == z.slot.0)) o os in
    let rest = count_dead x os in
    elim (cases_Bool (x == o.slot.0)) [
      | inl is' ↦
          let here : once (x == o.slot.0) ≡ 1 = ap once is' in
          let now : once ((x == o.slot.0) || has (dead_slots os) x) ≡ 1 = ap (λ (v : Bool). once (v || has (dead_slots os) x)) is' in
          omega (arith, all, here, now)
      | inr off ↦
          let now : once ((x == o.slot.0) || has (dead_slots os) x) ≡ once (has (dead_slots os) x)
          = ap (λ (v : Bool). once (v || has (dead_slots os) x)) off in
          omega (arith, all, rest, now)
    ]

count_none : (x : ℕ) (dead : List Located) → has (dead_slots dead) x ≡ false → sum_by (λ o. once (x == o.slot.0)) dead ≡ 0
count_none x [] none = refl
count_none x (o ∷ os) none =
    let all = sum_by-cons (λ (z : Located). once (x == z.slot.0)) o os in
    elim (cases_Bool (x == o.slot.0)) [
      | inl is' ↦ absurd (clash (sym none ∙ ap (λ (v : Bool). v || has (dead_slots os) x) is'))
      | inr off ↦
          let here : once (x == o.slot.0) ≡ 0 = ap once off in
          let rest = count_none x os (ap (λ (v : Bool). v || has (dead_slots os) x) (sym off) ∙ none) in
          omega (arith, all, here, rest)
    ]
  where
    clash : false ≡ true → ⊥
    clash e = cc

as_once : (b : Bool) → 1 ≤ once b → b ≡ true
as_once true h = refl
as_once false h = absurd (omega arith)

as_none : (b : Bool) → once b ≡ 0 → b ≡ false
as_none true h = absurd (omega arith)
as_none false h = refl

no_pages : (b : kept.Kept) → keeps_pages b ≡ false → kept_pages b ≡ 0
no_pages (keeps.Segment pages) h = absurd (cc)
no_pages (keeps.Container avoid used) h = refl
no_pages keeps.AddressSpace h = refl
no_pages (keeps.Thread t) h = refl
no_pages (keeps.Gate g) h = refl
no_pages keeps.Device h = refl

module _ (p : Pieces) (s : IsSound p) (k : IsStocked p) (q : Pieces) (sq : IsSound q) (dead : List Located) (w : Holdings)
    (gone : IsGone p.holdings dead w) (lost : IsLost p.places q.places dead) (limits : q.limits ≡ p.limits)
    (segments : q.holdings.segments ≡ w.segments) (queues : q.holdings.queues ≡ w.queues) (spaces : q.holdings.spaces ≡ w.spaces)
    (kept_slots : (id slot : ℕ) → HasSlot q.places id slot → HasSlot p.places id slot)
    (pages : (x : ℕ) → kept_pages (record_in q.holdings.records.items x).body ≡ kept_pages (record_in p.holdings.records.items x).body)
    (space : (x : ℕ) → keeps_space (record_in q.holdings.records.items x).body ≡ keeps_space (record_in p.holdings.records.items x).body)
  where
    weighed : (x : ℕ) → once (has p.places.slots x) ≡ once (has q.places.slots x) + sum_by (λ o. once (x == o.slot.0)) dead
    weighed x =
        let old = count_once x p.places.slots (distinct_from p.places.slots s.tree.apart) in
        let new = count_once x q.places.slots (distinct_from q.places.slots sq.tree.apart) in
        let both = lost.weighed (λ y. once (x == y)) in
        omega (arith, old, new, both)

    -- a slot that is used was used, and no dead had it
    stayed : (x : ℕ) → has q.places.slots x ≡ true → (has p.places.slots x ≡ true) × (has (dead_slots dead) x ≡ false)
    stayed x here =
        let one : once (has q.places.slots x) ≡ 1 = ap once here in
        let all = weighed x in
        let some = count_dead x dead in
        (as_once (has p.places.slots x) (omega (arith, one, all)), as_none (has (dead_slots dead) x) (omega (arith, one, all, some, most (has p.places.slots x))))
      where
        most : (b : Bool) → once b ≤ 1
        most true = omega arith
        most false = omega arith

    -- one that is not was a dead one's, or was not
    left : (x : ℕ) → has q.places.slots x ≡ false → has p.places.slots x ≡ has (dead_slots dead) x
    left x off =
        let none : once (has q.places.slots x) ≡ 0 = ap once off in
        let all = weighed x in
        elim (cases_Bool (has (dead_slots dead) x)) [
          | inl is' ↦
              let some = count_dead x dead in
              let one : once (has (dead_slots dead) x) ≡ 1 = ap once is' in
              as_once (has p.places.slots x) (omega (arith, none, all, some, one)) ∙ sym is'
          | inr no' ↦
              let zero = count_none x dead no' in
              as_none (has p.places.slots x) (omega (arith, none, all, zero)) ∙ sym no'
        ]

    bytes_are : (x : ℕ) → bytes_in q.holdings.segments x
        ≡ cond (has (dead_slots dead) x && keeps_pages (record_in p.holdings.records.items x).body) [] (bytes_in p.holdings.segments x)
    bytes_are x = ap (λ (xs : List (List ℕ)). bytes_in xs x) segments ∙ gone.bytes x

    bytes_stay : (x : ℕ) → has q.places.slots x ≡ true → bytes_in q.holdings.segments x ≡ bytes_in p.holdings.segments x
    bytes_stay x here = bytes_are x
        ∙ ap (λ (v : Bool). cond (v && keeps_pages (record_in p.holdings.records.items x).body) [] (bytes_in p.holdings.segments x)) (stayed x here).1

    places_are : (x : ℕ) → x < p.limits.pages → places_at q.holdings.spaces x
        ≡ cond (has (dead_slots dead) x && keeps_space (record_in p.holdings.records.items x).body) (replicate 16 None)
        (places_at p.holdings.spaces x)
    places_are x lt = (λ i. places_at (spaces i) x) ∙ gone.places x (omega (arith, lt, k.spaces))

    places_stay : (x : ℕ) → x < p.limits.pages → has q.places.slots x ≡ true
        → places_at q.holdings.spaces x ≡ places_at p.holdings.spaces x
    places_stay x lt here = places_are x lt
        ∙ ap (λ (v : Bool). cond (v && keeps_space (record_in p.holdings.records.items x).body) (replicate 16 None)
        (places_at p.holdings.spaces x)) (stayed x here).1

    paged : (x : ℕ) → length (bytes_in q.holdings.segments x) ≡ 256 * pages_at q x
    paged x = elim (cases_Bool (has q.places.slots x)) [
      | inl here ↦
          let now : pages_at q x ≡ kept_pages (record_in q.holdings.records.items x).body
          = ap {B = ℕ} (λ (v : Bool). cond v (kept_pages (record_in q.holdings.records.items x).body) 0) here in
          let then : pages_at p x ≡ kept_pages (record_in p.holdings.records.items x).body
          = ap {B = ℕ} (λ (v : Bool). cond v (kept_pages (record_in p.holdings.records.items x).body) 0) (stayed x here).0 in
          let long : length (bytes_in q.holdings.segments x) ≡ length (bytes_in p.holdings.segments x)
          = ap (λ (xs : List ℕ). length xs) (bytes_stay x here) in
          omega (arith, now, then, long, k.paged x, pages x)
      | inr off ↦
          let now : pages_at q x ≡ 0 = ap {B = ℕ} (λ (v : Bool). cond v (kept_pages (record_in q.holdings.records.items x).body) 0) off in
          let none : length (bytes_in q.holdings.segments x) ≡ 0
          = ap (λ (xs : List ℕ). length xs) (bytes_are x)
          ∙ vacated (has p.places.slots x) (has (dead_slots dead) x) (keeps_pages (record_in p.holdings.records.items x).body)
          (left x off) (bytes_in p.holdings.segments x) (kept_pages (record_in p.holdings.records.items x).body) (k.paged x)
          (no_pages (record_in p.holdings.records.items x).body) in
          omega (arith, now, none)
    ]
      where
        vacated : (a b c : Bool) → a ≡ b → (xs : List ℕ) (n : ℕ) → length xs ≡ 256 * cond a n 0 → (c ≡ false → n ≡ 0)
            → length (cond (b && c) [] xs) ≡ 0
        vacated true true true same xs n long none = refl
        vacated true true false same xs n long none = let zero = none refl in omega (arith, long, zero)
        vacated false false c same xs n long none = omega (arith, long)
        vacated true false c same xs n long none = absurd (cc)
        vacated false true c same xs n long none = absurd (cc)

    unmapped : (x : ℕ) → x < p.limits.pages → is_space_at q x ≡ false → places_at q.holdings.spaces x ≡ replicate 16 None
    unmapped x lt none = elim (cases_Bool (has q.places.slots x)) [
      | inl here ↦
          let was : is_space_at p x ≡ false
          = (λ i. (stayed x here).0 i && sym (space x) i) ∙ sym (ap (λ (v : Bool). v && keeps_space (record_in q.holdings.records.items x).body) here) ∙ none in
          places_stay x lt here ∙ k.unmapped x lt was
      | inr off ↦
          places_are x lt
          ∙ vacated (has p.places.slots x) (has (dead_slots dead) x) (keeps_space (record_in p.holdings.records.items x).body)
          (left x off) (places_at p.holdings.spaces x) (k.unmapped x lt)
    ]
      where
        vacated : (a b c : Bool) → a ≡ b → (xs : List (Option Mapping)) → ((a && c) ≡ false → xs ≡ replicate 16 None)
            → cond (b && c) (replicate 16 None) xs ≡ replicate 16 None
        vacated true true true same xs none = refl
        vacated true true false same xs none = none refl
        vacated false false c same xs none = none refl
        vacated true false c same xs none = absurd (cc)
        vacated false true c same xs none = absurd (cc)

    sixteen : (x : ℕ) → x < p.limits.pages → length (places_at q.holdings.spaces x) ≡ 16
    sixteen x lt = ap (λ (xs : List (Option Mapping)). length xs) (places_are x lt)
        ∙ either (has (dead_slots dead) x && keeps_space (record_in p.holdings.records.items x).body) (places_at p.holdings.spaces x) (k.sixteen x lt)
      where
        either : (b : Bool) (xs : List (Option Mapping)) → length xs ≡ 16 → length (cond b (replicate 16 None) xs) ≡ 16
        either true xs long = refl
        either false xs long = long

    pub unlinked_stocked : IsStocked q
    unlinked_stocked = record {
      segments = ap (λ (xs : List (List ℕ)). length xs) segments ∙ gone.segments ∙ k.segments ∙ ap (λ (z : Limits). z.pages) (sym limits);
      queues = ap (λ (xs : List (List (List ℕ))). length xs) (queues ∙ gone.queues) ∙ k.queues ∙ ap (λ (z : Limits). z.pages) (sym limits);
      spaces = (λ i. length (spaces i)) ∙ gone.spaces ∙ k.spaces ∙ ap (λ (z : Limits). z.pages) (sym limits);
      paged = paged;
      sixteen = λ x lt. sixteen x (subst (λ (z : Limits). x < z.pages) limits lt);
      unmapped = λ x lt none. unmapped x (subst (λ (z : Limits). x < z.pages) limits lt) none;
      queued = λ x. ap (λ (xs : List (List (List ℕ))). is_whole_body (is.Device (packets_in xs x))) (queues ∙ gone.queues) ∙ k.queued x;
    }

    contents : (i : ℕ) (z : Object) → object_at (pieces_state q) i ≡ Some z → content_at q i ≡ content_at p i
    contents i z found = elim (cases_Bool (has (ids_in q.places.lists) i)) [
      | inl there ↦
          let at = slot_there q sq i there in
          let x = at.0 in
          let here = live_slot q sq i x at.1 in
          let lt : x < p.limits.pages = omega (arith, slot_within p s i x (kept_slots i x at.1), s.records) in
          ap (content_in q.holdings) (slot_is q sq i x at.1)
          ∙ (λ j. record {
            bytes = bytes_stay x here j;
            slots = places_stay x lt here j;
            packets = packets_in ((queues ∙ gone.queues) j) x;
          })
          ∙ ap (content_in p.holdings) (sym (slot_is p s i x (kept_slots i x at.1)))
      | inr off ↦ absurd (none-some z (sym (object_none q sq i off) ∙ found))
    ]

    pub unlinked_whole : (d o : ℕ) → pieces_state q ≡ restricted (changed (pieces_state p) d (delisting o))
        → whole_state q ≡ restricted (changed (whole_state p) d (delisting o))
    unlinked_whole d o is' =
        (λ i. record (pieces_state q) {
          objects = same_filled (content_at p) (content_at q) (pieces_state q).objects contents (soundness_of (pieces_state q) sq.formed).rise i;
        })
        ∙ ap (filled_state (content_at p)) is'
        ∙ restricted_filled (content_at p) (changed (pieces_state p) d (delisting o))
        ∙ ap restricted (whole_changed p s d (delisting o) (relisting_apart (without o)))

-- A segment of another length: its record, its bytes, and that there are frames for them.
use Rattle.std.proofs.Common.{◌≡◌, ◌≢◌, ℕ, zero, suc, ◌+◌, ◌-◌, ◌*◌, ◌/◌, ◌<◌, ◌≤◌, ◌==◌, ◌&&◌, true, false, cond, List, [], ◌∷◌, ◌++◌, length, take, replicate, set, Option, Some, refl, sym, ◌∙◌, ap, subst, arith, inl, inr, sum_by}
use Rattle.std.proofs.Common.{get_or-set_same, get_or-set_other, length-set, length-append}
use Rattle.std.proofs.lemmas.List.{length-take, length-replicate}
use Rattle.std.proofs.lemmas.Bool.{cases_eq, ne_eqb}
use Rattle.base.specs.Live.{has}
use Rattle.base.specs.declared.kinds.Kind.TheVariants as kinds
use Rattle.containers.specs.Tree.{HasSlot}
use Rattle.label_intern.specs.declared.held.Held.{Held}
use Rattle.kernel_rules.specs.declared.objects.Object.{Object}
use Rattle.kernel_rules.specs.declared.objects.Body.TheVariants as is
use Rattle.kernel_rules.specs.declared.objects.Body as body
use Rattle.kernel_rules.specs.State.{State, kind_number, kind_of, object_at, of_object, own_cost, listed, use_of, quota_at, is_kind_at, is_kind, lists_of}
use Rattle.kernel_rules.specs.Changes.{put, changed, with_body, rebyte}
use Rattle.kernel_rules.specs.WellFormed.{is_well_formed}
use Rattle.kernel_rules.specs.Written.{resized}
use Rattle.kernel_rules.proofs.KeptLaws.{at_put}
use Rattle.kernel_rules.proofs.LookupLaws.{at_is, at_self, lookup_put}
use Rattle.kernel_rules.proofs.RecordLaws.{lists_of-set_value}
use Rattle.kernel_rules.proofs.ResizeLaws.{resized_well_formed}
use Rattle.kernel_rules.proofs.WellFormedLaws.{soundness_of}
use Rattle.arena_memory.specs.Segments.{bytes_in, pages_in, HasRoom}
use Rattle.arena_state.specs.declared.records.Record.{Record}
use Rattle.arena_state.specs.declared.records.Kept as kept
use Rattle.arena_state.specs.declared.records.Kept.TheVariants as keeps
use Rattle.arena_state.specs.declared.pieces.Pieces.{Pieces}
use Rattle.arena_state.specs.Assembled.{pieces_state, record_in, assembled, body_of, blank, claims, body_use}
use Rattle.arena_state.specs.Filled.{Content, filled_body, filled_state}
use Rattle.arena_state.specs.Sound.{IsSound}
use Rattle.arena_state.specs.Stocked.{content_at, whole_state, kept_pages, keeps_space, pages_at, is_space_at, IsStocked}
use Rattle.arena_state.proofs.ContentLaws.{unchanged}
use Rattle.arena_state.proofs.EditLaws.{kept_use_is}
use Rattle.arena_state.proofs.FilledLaws.{changed_filled}
use Rattle.arena_state.proofs.HeldLaws.{read_set}
use Rattle.arena_state.proofs.PageLaws.{pages_fit, pages_total, pages_is}
use Rattle.arena_state.proofs.RebindLaws.{sum_changed}
use Rattle.arena_state.proofs.RowLaws.{row_place}
use Rattle.arena_state.proofs.RefillLaws.{with_segments, rebyted_at, bytes_are, bytes_off}
use Rattle.arena_state.proofs.ShapeLaws.{one_id, slot_of, slot_is}
use Rattle.arena_state.proofs.SoundLaws.{object_here, slot_within, with_record, put_state, changed_state}
use Rattle.arena_state.proofs.StayLaws.{IsRekept, rekept_sound}
use Rattle.arena_state.proofs.StockLaws.{live_slot, pages_here}

-- zeros cut off or filled up are zeros
zeros_resized : (n m : ℕ) → take n (replicate m 0) ++ replicate (n - m) 0 ≡ replicate {A = ℕ} n 0
zeros_resized zero m =
    let none : zero - m ≡ 0 = omega arith in
    ap (λ (k : ℕ). replicate {A = ℕ} k 0) none
zeros_resized (suc n) zero =
    let all : suc n - zero ≡ suc n = omega arith in
    ap (λ (k : ℕ). replicate {A = ℕ} k 0) all
zeros_resized (suc n) (suc m) =
    let left : suc n - suc m ≡ n - m = omega arith in
    ap (λ (k : ℕ). 0 ∷ (take n (replicate {A = ℕ} m 0) ++ replicate k 0)) left
    ∙ ap (λ (xs : List ℕ). 0 ∷ xs) (zeros_resized n m)

pub resized_zeros : (n m : ℕ) → resized n (replicate m 0) ≡ replicate n 0
resized_zeros n m =
    ap (λ (k : ℕ). take n (replicate {A = ℕ} m 0) ++ replicate (n - k) 0) (length-replicate {A = ℕ} m 0) ∙ zeros_resized n m

pub length-resized : (n : ℕ) (bytes : List ℕ) → length (resized n bytes) ≡ n
length-resized n bytes =
    length-append (take n bytes) (replicate (n - length bytes) 0)
    ∙ omega (arith, length-take n bytes, length-replicate {A = ℕ} (n - length bytes) 0)

-- what is kept of a segment
segment_kept : (labels : List (Option Held)) (l : List ℕ) (x : Record) → is_kind kinds.Segment (assembled labels x l) ≡ true
    → (old : ℕ) × (x.body ≡ keeps.Segment old)
segment_kept labels l x kind = at x.body kind
  where
    at : (b : kept.Kept) → is_kind kinds.Segment (record (assembled labels x l) { body = body_of labels b l }) ≡ true
        → (old : ℕ) × (b ≡ keeps.Segment old)
    at (keeps.Container avoid used) h = absurd (cc)
    at (keeps.Segment pages) h = (pages, refl)
    at keeps.AddressSpace h = absurd (cc)
    at (keeps.Thread t) h = absurd (cc)
    at (keeps.Gate g) h = absurd (cc)
    at keeps.Device h = absurd (cc)

whole : (n m : ℕ) → n ≡ 256 * m → n / 256 ≡ m
whole n m e = omega arith

module _ (p : Pieces) (s : IsSound p) (id slot : ℕ) (h : HasSlot p.places id slot) (pages : ℕ) (few : pages ≤ 16)
    (kind : is_kind_at (pieces_state p) kinds.Segment id ≡ true) (room : 1 + pages ≤ quota_at (pieces_state p) id)
    (r : Record) (r_is : r ≡ record (record_in p.holdings.records.items slot) { body = keeps.Segment pages }) where
  abbrev was : Record
  was = record_in p.holdings.records.items slot

  abbrev l : List ℕ
  l = (row_place p.places.lists p.places.slots h.place).list

  abbrev before : Object
  before = assembled p.holdings.labels was l

  abbrev now : Object
  now = assembled p.holdings.labels r l

  found : object_at (pieces_state p) id ≡ Some before
  found = object_here p s id slot h

  old : (n : ℕ) × (was.body ≡ keeps.Segment n)
  old = segment_kept p.holdings.labels l was (sym (ap (of_object false (is_kind kinds.Segment)) found) ∙ kind)

  body_before : before.body ≡ is.Segment (replicate (256 * old.0) 0)
  body_before = ap (λ (b : kept.Kept). body_of p.holdings.labels b l) old.1

  body_now : now.body ≡ is.Segment (replicate (256 * pages) 0)
  body_now = ap (λ (z : Record). body_of p.holdings.labels z.body l) r_is

  quota_now : now.quota ≡ before.quota
  quota_now = ap (λ (z : Record). z.quota) r_is

  list_now : listed now.body ≡ listed before.body
  list_now = ap listed body_now ∙ sym (ap listed body_before)

  kind_now : is_kind kinds.Container now ≡ is_kind kinds.Container before
  kind_now = ap (λ b. kind_number (kind_of b) == 0) body_now ∙ sym (ap (λ b. kind_number (kind_of b) == 0) body_before)

  object_now : now ≡ with_body (rebyte (resized (256 * pages))) before
  object_now =
      let body : is.Segment (replicate (256 * pages) 0) ≡ rebyte (resized (256 * pages)) before.body
      = sym (ap (λ xs. is.Segment xs) (resized_zeros (256 * pages) (256 * old.0)))
      ∙ sym (ap (rebyte (resized (256 * pages))) body_before) in
      ap (λ (z : Record). assembled p.holdings.labels z l) r_is ∙ (λ i. record before { body = body i })

  abbrev q : Pieces
  q = with_record p slot r

  put_now : pieces_state q ≡ put (pieces_state p) id now
  put_now = put_state p s id slot h r

  state_now : pieces_state q ≡ changed (pieces_state p) id (with_body (rebyte (resized (256 * pages))))
  state_now = changed_state p s id slot h r (with_body (rebyte (resized (256 * pages)))) object_now

  in_items : slot < length p.holdings.records.items
  in_items = slot_within p s id slot h

  here : record_in q.holdings.records.items slot ≡ r
  here = get_or-set_same p.holdings.records.items slot r blank in_items

  elsewhere : (x : ℕ) → x ≢ slot → record_in q.holdings.records.items x ≡ record_in p.holdings.records.items x
  elsewhere x off = get_or-set_other p.holdings.records.items slot x r blank off

  claim_now : (i : ℕ) → claims i r ≡ claims i was
  claim_now i = ap (claims i) r_is ∙ sym (ap (λ (b : kept.Kept). claims i (record was { body = b })) old.1)

  claim : (i x : ℕ) → claims i (record_in q.holdings.records.items x) ≡ claims i (record_in p.holdings.records.items x)
  claim i x = elim (cases_eq x slot) [
    | inl same ↦
        ap (λ (j : ℕ). claims i (record_in q.holdings.records.items j)) same ∙ ap (claims i) here ∙ claim_now i
        ∙ ap (λ (j : ℕ). claims i (record_in p.holdings.records.items j)) (sym same)
    | inr off ↦ ap (claims i) (elsewhere x off)
  ]

  rekept : IsRekept p q
  rekept = record {
    limits = refl;
    ids = refl;
    slots = refl;
    cells = refl;
    tree = s.tree;
    labels = refl;
    room = length-set p.holdings.records.items slot r;
    claim = claim;
  }

  at_id : object_at (put (pieces_state p) id now) id ≡ Some now
  at_id = lookup_put id id (pieces_state p).objects before now found
      ∙ ap (λ v. cond v (Some now) (object_at (pieces_state p) id)) (at_self id)

  at_other : (i : ℕ) → i ≢ id → object_at (put (pieces_state p) id now) i ≡ object_at (pieces_state p) i
  at_other i off = lookup_put id i (pieces_state p).objects before now found
      ∙ ap (λ v. cond v (Some now) (object_at (pieces_state p) i)) (at_is i id ∙ ne_eqb i id off)

  use_other : (i : ℕ) → i ≢ id → use_of (put (pieces_state p) id now) i ≡ use_of (pieces_state p) i
  use_other i off = (λ j.
      of_object 0 (λ z. own_cost z.body) (at_other i off j)
      + sum_by (λ k. at_put 0 (λ z. z.quota) (pieces_state p) id k before now found quota_now j)
      (of_object [] (λ z. listed z.body) (at_other i off j)))

  use_here : use_of (put (pieces_state p) id now) id ≡ 1 + pages
  use_here =
      let all : use_of (put (pieces_state p) id now) id
      ≡ own_cost (is.Segment (replicate (256 * pages) 0)) + sum_by (quota_at (put (pieces_state p) id now)) []
      = ap (λ o. of_object 0 (λ z. own_cost z.body) o
      + sum_by (quota_at (put (pieces_state p) id now)) (of_object [] (λ z. listed z.body) o)) at_id
      ∙ ap (λ b. own_cost b + sum_by (quota_at (put (pieces_state p) id now)) (listed b)) body_now in
      let none : sum_by (quota_at (put (pieces_state p) id now)) [] ≡ 0 = refl in
      let long = whole (length {A = ℕ} (replicate (256 * pages) 0)) pages (length-replicate {A = ℕ} (256 * pages) 0) in
      omega (arith, all, none, long)

  used : (i j : ℕ) → HasSlot p.places i j → body_use (record_in q.holdings.records.items j).body ≡ use_of (pieces_state q) i
  used i j hj = elim (cases_eq i id) [
    | inl same ↦
        let slots : j ≡ slot = sym (slot_is p s i j hj) ∙ ap (slot_of p s) same ∙ slot_is p s id slot h in
        ap (λ (x : ℕ). body_use (record_in q.holdings.records.items x).body) slots ∙ ap (λ (z : Record). body_use z.body) (here ∙ r_is)
        ∙ sym use_here ∙ ap (use_of (put (pieces_state p) id now)) (sym same) ∙ sym (ap (λ (z : State). use_of z i) put_now)
    | inr off ↦
        let other : j ≢ slot = λ (e : j ≡ slot). off (one_id p s i id slot (subst (λ (x : ℕ). HasSlot p.places i x) e hj) h) in
        ap (λ (z : Record). body_use z.body) (elsewhere j other) ∙ kept_use_is p s i j hj
        ∙ sym (use_other i off) ∙ sym (ap (λ (z : State). use_of z i) put_now)
  ]

  pub resized_sound : IsSound (with_record p slot r)
  resized_sound = rekept_sound p q s rekept
      (subst (λ (z : State). is_well_formed z ≡ true) (sym state_now)
      (resized_well_formed (pieces_state p) id pages few kind room s.formed))
      (ap (λ (z : State). lists_of z.objects) put_now
      ∙ lists_of-set_value id (pieces_state p).objects before now found list_now ∙ s.lists)
      used
      (λ a b is_container link. s.climbs a b
      (sym (at_put false (is_kind kinds.Container) (pieces_state p) id b before now found kind_now)
      ∙ sym (ap (λ (z : State). is_kind_at z kinds.Container b) put_now) ∙ is_container) link)
      (ap (λ (z : State). quota_at z 1) put_now
      ∙ at_put 0 (λ z. z.quota) (pieces_state p) id 1 before now found quota_now)

  -- the record alone shows nothing
  still : whole_state q ≡ whole_state p
  still =
      ap (filled_state (content_at p)) state_now
      ∙ changed_filled (content_at p) (content_at p) id (λ i off. refl) (pieces_state p) (with_body (rebyte (resized (256 * pages)))) (λ x. x)
      (soundness_of (pieces_state p) s.formed).rise
      (λ x there. (λ i. record x { body = filled_rebyted (content_at p id) x.body i }))
      ∙ unchanged (whole_state p) id
    where
      filled_rebyted : (c : Content) (b : body.Body) → filled_body c (rebyte (resized (256 * pages)) b) ≡ filled_body c b
      filled_rebyted c (is.Container avoid list) = refl
      filled_rebyted c (is.Segment bytes) = refl
      filled_rebyted c (is.AddressSpace slots) = refl
      filled_rebyted c (is.Thread t) = refl
      filled_rebyted c (is.Gate g) = refl
      filled_rebyted c (is.Device packets) = refl

  module _ (k : IsStocked p) where
    slot_in : slot < length p.holdings.segments
    slot_in = omega (arith, in_items, s.records, k.segments)

    -- there are frames
    pub resized_room : HasRoom p.holdings.segments slot pages
    resized_room =
        let most = pages_fit q resized_sound in
        let one = sum_changed (λ y. kept_pages (record_in p.holdings.records.items y).body)
        (λ y. kept_pages (record_in q.holdings.records.items y).body) p.places.slots h.place slot s.tree.apart
        (omega (arith, h.within, s.tree.beside)) h.slot_is (λ x off. ap (λ (z : Record). kept_pages z.body) (elsewhere x off)) in
        let given : kept_pages (record_in q.holdings.records.items slot).body ≡ pages = ap (λ (z : Record). kept_pages z.body) (here ∙ r_is) in
        let had : pages_in p.holdings.segments slot ≡ kept_pages (record_in p.holdings.records.items slot).body
        = pages_is p s k slot ∙ pages_here p s k id slot h in
        omega (arith, most, one, given, had, pages_total p s k, k.segments)

    module _ (xs : List (List ℕ))
        (after : xs ≡ set p.holdings.segments slot (resized (256 * pages) (bytes_in p.holdings.segments slot))) where
      pub resized_state : whole_state (with_segments (with_record p slot r) xs)
          ≡ changed (whole_state p) id (with_body (rebyte (resized (256 * pages))))
      resized_state =
          rebyted_at q resized_sound id slot h (resized (256 * pages)) xs after slot_in
          ∙ ap (λ (z : State). changed z id (with_body (rebyte (resized (256 * pages))))) still

      spaces_same : (j : ℕ) → is_space_at (with_segments q xs) j ≡ is_space_at p j
      spaces_same j = ap (λ b. has p.places.slots j && b)
          (read_set keeps_space p.holdings.records.items slot r in_items
          (ap (λ (z : Record). keeps_space z.body) r_is ∙ sym (ap keeps_space old.1)) j)

      paged : (j : ℕ) → length (bytes_in xs j) ≡ 256 * pages_at (with_segments q xs) j
      paged j = elim (cases_eq j slot) [
        | inl same ↦
            ap (λ (x : ℕ). length (bytes_in xs x)) same
            ∙ ap (λ (v : List ℕ). length v) (bytes_are q resized_sound id slot h (resized (256 * pages)) xs after slot_in)
            ∙ length-resized (256 * pages) (bytes_in p.holdings.segments slot)
            ∙ sym (ap {B = ℕ} (λ (x : ℕ). 256 * pages_at (with_segments q xs) x) same
            ∙ ap {B = ℕ} (λ b. 256 * cond b (kept_pages (record_in q.holdings.records.items slot).body) 0) (live_slot p s id slot h)
            ∙ ap {B = ℕ} (λ (z : Record). 256 * kept_pages z.body) (here ∙ r_is))
        | inr off ↦
            ap (λ (v : List ℕ). length v) (bytes_off q resized_sound id slot h (resized (256 * pages)) xs after slot_in j off)
            ∙ k.paged j
            ∙ ap {B = ℕ} (λ (z : Record). 256 * cond (has p.places.slots j) (kept_pages z.body) 0) (sym (elsewhere j off))
      ]

      pub resized_stocked : IsStocked (with_segments (with_record p slot r) xs)
      resized_stocked = record {
        segments = ap (λ (v : List (List ℕ)). length v) after
            ∙ length-set p.holdings.segments slot (resized (256 * pages) (bytes_in p.holdings.segments slot)) ∙ k.segments;
        queues = k.queues;
        spaces = k.spaces;
        paged = paged;
        sixteen = k.sixteen;
        unmapped = λ j within none. k.unmapped j within (sym (spaces_same j) ∙ none);
        queued = k.queued;
      }

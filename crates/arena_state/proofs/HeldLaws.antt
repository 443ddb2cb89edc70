-- Pieces that changed and hold beside their records what they held.
use Rattle.std.proofs.Common.{◌≡◌, ℕ, ◌*◌, ◌<◌, true, cond, false, ◌&&◌, List, [], ◌∷◌, set, get_or, Option, Some, refl, sym, ◌∙◌, ap, subst, length, inl, inr}
use Rattle.std.proofs.lemmas.Bool.{cases_eq}
use Rattle.std.proofs.lemmas.List.{get_or-set_same, get_or-set_other}
use Rattle.std.specs.Ordering.{nat_cmp}
use Rattle.std.specs.Map.{lookup}
use Rattle.std.specs.BTreeMap.{is_at}
use Rattle.base.specs.Live.{has}
use Rattle.base.specs.declared.ranges.Limits.{Limits}
use Rattle.kernel_rules.specs.WellFormed.{is_whole_body}
use Rattle.kernel_rules.specs.Changes.{changed}
use Rattle.kernel_rules.specs.declared.objects.Object.{Object}
use Rattle.kernel_rules.specs.declared.objects.Body.TheVariants as is
use Rattle.kernel_rules.proofs.WellFormedLaws.{soundness_of}
use Rattle.label_intern.specs.declared.held.Held.{Held}
use Rattle.arena_state.specs.declared.records.Record.{Record}
use Rattle.arena_state.specs.declared.records.Kept as kept
use Rattle.arena_state.specs.declared.pieces.Pieces.{Pieces}
use Rattle.containers.specs.Tree.{ids_in}
use Rattle.arena_state.specs.Rows.{Row, rows_of, row_slot}
use Rattle.arena_state.specs.Filled.{Content, filled, filled_state}
use Rattle.arena_state.specs.Assembled.{pieces_state, record_in, blank}
use Rattle.arena_state.specs.Stocked.{slot_of, content_at, whole_state, kept_pages, keeps_space, pages_at, is_space_at, IsStocked}
use Rattle.arena_memory.specs.Segments.{bytes_in}
use Rattle.kernel_rules.specs.declared.objects.Mapping.{Mapping}
use Rattle.arena_memory.specs.Mappings.{places_at}
use Rattle.arena_state.specs.Sound.{IsSound}
use Rattle.arena_state.proofs.FilledLaws.{changed_filled}
use Rattle.arena_state.proofs.RebindLaws.{with_both}

-- a change that what a slot holds leaves as it is
abbrev pub IsApart : (Object → Object) → Type 0
IsApart f = (c : Content) (x : Object) → filled c (f x) ≡ f (filled c x)

-- each slot that is used stays so, with as many pages, an address space where it was one, and what it holds
pub record IsHeld (p q : Pieces) : Type 0 where
  pub limits : q.limits ≡ p.limits
  pub segments : q.holdings.segments ≡ p.holdings.segments
  pub queues : q.holdings.queues ≡ p.holdings.queues
  pub spaces : q.holdings.spaces ≡ p.holdings.spaces
  pub slots : q.places.slots ≡ p.places.slots
  pub ids : (id : ℕ) → slot_of q id ≡ slot_of p id
  pub pages : (slot : ℕ) → kept_pages (record_in q.holdings.records.items slot).body
      ≡ kept_pages (record_in p.holdings.records.items slot).body
  pub space : (slot : ℕ) → keeps_space (record_in q.holdings.records.items slot).body
      ≡ keeps_space (record_in p.holdings.records.items slot).body

-- what a change that leaves what slots hold makes of the state with it
pub whole_changed : (p : Pieces) → IsSound p → (id : ℕ) (f : Object → Object) → IsApart f
    → filled_state (content_at p) (changed (pieces_state p) id f) ≡ changed (whole_state p) id f
whole_changed p s id f apart =
    changed_filled (content_at p) (content_at p) id (λ i off. refl) (pieces_state p) f f
    (soundness_of (pieces_state p) s.formed).rise (λ x found. apart (content_at p id) x)

module _ (p q : Pieces) (h : IsHeld p q) where
  content_held : (id : ℕ) → content_at q id ≡ content_at p id
  content_held id = (λ i. record {
    bytes = bytes_in (h.segments i) (h.ids id i);
    slots = places_at (h.spaces i) (h.ids id i);
    packets = get_or (h.queues i) (h.ids id i) [];
  })

  pages_held : (slot : ℕ) → pages_at q slot ≡ pages_at p slot
  pages_held slot = (λ i. cond (has (h.slots i) slot) (h.pages slot i) 0)

  space_held : (slot : ℕ) → is_space_at q slot ≡ is_space_at p slot
  space_held slot = (λ i. has (h.slots i) slot && h.space slot i)

  pub held_stocked : IsStocked p → IsStocked q
  held_stocked k = record {
    segments = ap (λ (xs : List (List ℕ)). length xs) h.segments ∙ k.segments ∙ ap (λ (l : Limits). l.pages) (sym h.limits);
    queues = ap (λ (xs : List (List (List ℕ))). length xs) h.queues ∙ k.queues ∙ ap (λ (l : Limits). l.pages) (sym h.limits);
    spaces = ap (λ (v : List (List (Option Mapping))). length v) h.spaces ∙ k.spaces ∙ ap (λ (l : Limits). l.pages) (sym h.limits);
    paged = λ slot. ap (λ (xs : List (List ℕ)). length (bytes_in xs slot)) h.segments ∙ k.paged slot
        ∙ ap {B = ℕ} (λ (n : ℕ). 256 * n) (sym (pages_held slot));
    sixteen = λ slot within. ap (λ (v : List (List (Option Mapping))). length (places_at v slot)) h.spaces
        ∙ k.sixteen slot (subst (λ (l : Limits). slot < l.pages) h.limits within);
    unmapped = λ slot within none. ap (λ (v : List (List (Option Mapping))). places_at v slot) h.spaces
        ∙ k.unmapped slot (subst (λ (l : Limits). slot < l.pages) h.limits within) (sym (space_held slot) ∙ none);
    queued = λ slot. ap (λ (xs : List (List (List ℕ))). is_whole_body (is.Device (get_or xs slot []))) h.queues ∙ k.queued slot;
  }

  -- a change of one object
  pub held_state : IsSound p → (id : ℕ) (f : Object → Object) → IsApart f → pieces_state q ≡ changed (pieces_state p) id f
      → whole_state q ≡ changed (whole_state p) id f
  held_state s id f apart is' = (λ i. filled_state (λ o. content_held o i) (is' i)) ∙ whole_changed p s id f apart

-- what is read off the bodies of records of which one was set
pub read_set : {X : Type 0} (f : kept.Kept → X) (items : List Record) (slot : ℕ) (r : Record) → slot < length items
    → f r.body ≡ f (record_in items slot).body → (x : ℕ) → f (record_in (set items slot r) x).body ≡ f (record_in items x).body
read_set f items slot r within same x = elim (cases_eq x slot) [
  | inl is' ↦
      subst (λ (y : ℕ). f (record_in (set items slot r) y).body ≡ f (record_in items y).body) (sym is')
      (ap (λ (y : Record). f y.body) (get_or-set_same items slot r blank within) ∙ same)
  | inr off ↦ ap (λ (y : Record). f y.body) (get_or-set_other items slot x r blank off)
]

-- one record that has as many pages, and is an address space where it was one
pub held_both : (p : Pieces) (slot : ℕ) (r : Record) (ls : List (Option Held)) → slot < length p.holdings.records.items
    → kept_pages r.body ≡ kept_pages (record_in p.holdings.records.items slot).body
    → keeps_space r.body ≡ keeps_space (record_in p.holdings.records.items slot).body → IsHeld p (with_both p slot r ls)
held_both p slot r ls within pages space = record {
  limits = refl;
  segments = refl;
  queues = refl;
  spaces = refl;
  slots = refl;
  ids = λ id. refl;
  pages = read_set kept_pages p.holdings.records.items slot r within pages;
  space = read_set keeps_space p.holdings.records.items slot r within space;
}

-- pieces hold what they hold
pub held_same : (p : Pieces) → IsHeld p p
held_same p = record {
  limits = refl;
  segments = refl;
  queues = refl;
  spaces = refl;
  slots = refl;
  ids = λ id. refl;
  pages = λ slot. refl;
  space = λ slot. refl;
}

-- the counter of categories is bound to nothing else
pub counted_stocked : (p : Pieces) (n : ℕ) → IsStocked p → IsStocked (record p { next_category = n })
counted_stocked p n k = record {
  segments = k.segments;
  queues = k.queues;
  spaces = k.spaces;
  paged = k.paged;
  sixteen = k.sixteen;
  unmapped = k.unmapped;
  queued = k.queued;
}

slot_first : (i k : ℕ) (a b : Row) (v w : Option Row) → a.slot ≡ b.slot → row_slot v ≡ row_slot w
    → row_slot (cond (is_at (nat_cmp i) k) (Some a) v) ≡ row_slot (cond (is_at (nat_cmp i) k) (Some b) w)
slot_first i k a b v w same then =
    elim (is_at (nat_cmp i) k) as (λ t. row_slot (cond t (Some a) v) ≡ row_slot (cond t (Some b) w)) [ true ↦ same | false ↦ then ]

-- the slots of ids do not depend on what they list
pub slots_by_ids : (lists others : List (ℕ × List ℕ)) (slots : List ℕ) → ids_in others ≡ ids_in lists → (i : ℕ)
    → row_slot (lookup (is_at (nat_cmp i)) (rows_of others slots)) ≡ row_slot (lookup (is_at (nat_cmp i)) (rows_of lists slots))
slots_by_ids [] [] slots same i = refl
slots_by_ids [] (f ∷ fs) slots same i = absurd (cc)
slots_by_ids (e ∷ es) [] slots same i = absurd (cc)
slots_by_ids (e ∷ es) (f ∷ fs) [] same i = refl
slots_by_ids (e ∷ es) (f ∷ fs) (s ∷ slots) same i =
    let first : f.0 ≡ e.0 = cc in
    let rest : ids_in fs ≡ ids_in es = cc in
    ap (λ (k : ℕ). row_slot (cond (is_at (nat_cmp i) k) (Some (record { slot = s; list = f.1 }))
    (lookup (is_at (nat_cmp i)) (rows_of fs slots)))) first
    ∙ slot_first i e.0 (record { slot = s; list = f.1 }) (record { slot = s; list = e.1 })
    (lookup (is_at (nat_cmp i)) (rows_of fs slots)) (lookup (is_at (nat_cmp i)) (rows_of es slots)) refl
    (slots_by_ids es fs slots rest i)

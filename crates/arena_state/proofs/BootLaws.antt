-- The newly booted state is sound.
use Rattle.std.proofs.Common.{◌≡◌, ℕ, ◌+◌, ◌*◌, ◌<◌, Bool, true, false, cond, ◌&&◌, ◌||◌, ◌==◌, List, [], ◌∷◌, length, get_or, set, replicate, Option, Some, None, refl, sym, ◌∙◌, ap, subst, arith, sum_by, inl, inr, length-set}
use Rattle.std.specs.Ordering.{nat_cmp}
use Rattle.std.specs.Map.{lookup}
use Rattle.std.specs.BTreeMap.{is_at}
use Rattle.std.proofs.lemmas.Bool.{or_cases, and_parts, cases_lt, both_ways, eqb-true}
use Rattle.std.proofs.lemmas.List.{get_or-set_same, get_or-set_other, get_or_past, length-replicate, get_or-replicate}
use Rattle.std.proofs.lemmas.List.Sums.{sum_by-cons}
use Rattle.base.specs.Limits.{in_range}
use Rattle.base.specs.Live.{has, links}
use Rattle.base.specs.Sets.{no_kind}
use Rattle.containers.specs.Tree.{ids_in}
use Rattle.containers.specs.WellFormed.{IsWellFormed}
use Rattle.label_intern.specs.declared.held.Held.{Held}
use Rattle.label_intern.specs.Held.{held_at, owners_in, label_of}
use Rattle.label_intern.specs.Owners.{one_at}
use Rattle.kernel_rules.specs.State.{State, lists_of, use_of, quota_at, of_object, own_cost, listed}
use Rattle.kernel_rules.specs.Changes.{fresh_object}
use Rattle.kernel_rules.specs.WellFormed.{is_well_formed}
use Rattle.kernel_rules.specs.declared.objects.Body.TheVariants as is
use Rattle.kernel_rules.specs.Runs.{booted, root_object, boot_thread, device_object}
use Rattle.kernel_rules.specs.Step.{uniform}
use Rattle.kernel_rules.proofs.BootLaws.{booted_well_formed}
use Rattle.containers.specs.Objects.{Apart}
use Rattle.base.specs.declared.levels.Level.TheVariants.{L1, L2, L3}
use Rattle.arena_state.specs.declared.records.Record.{Record}
use Rattle.arena_state.specs.declared.records.Kept.TheVariants as keeps
use Rattle.arena_state.specs.declared.pieces.Pieces.{Pieces}
use Rattle.arena_state.specs.Rows.{rows_of}
use Rattle.arena_state.specs.Assembled.{pieces_state, objects_in, record_in, assembled, blank, fresh_record, fresh_thread, claims, claims_in, use_in, body_use}
use Rattle.arena_state.specs.Sound.{IsSound}

pub empty_first : (n i : ℕ) → held_at (replicate n None) i ≡ None
empty_first n i = elim (cases_lt i n) [
  | inl within ↦ get_or-replicate n i None None within
  | inr past ↦ get_or_past (replicate n None) i None (omega (arith, past, length-replicate {A = Option Held} n None))
]

-- the links of a boot lead to later ids
climbing : (a b : ℕ) → links ((1, 2 ∷ 3 ∷ []) ∷ (2, []) ∷ (3, []) ∷ []) a b ≡ true → a < b
climbing a b h = elim (or_cases (a == 1 && has (2 ∷ 3 ∷ []) b) ((a == 2 && false) || ((a == 3 && false) || false)) h) [
  | inl here ↦
      let parts = and_parts (a == 1) (has (2 ∷ 3 ∷ []) b) here in
      let first : a ≡ 1 = eqb-true a 1 parts.0 in
      elim (or_cases (b == 2) ((b == 3) || false) parts.1) [
        | inl two ↦ let e = eqb-true b 2 two in omega arith
        | inr rest ↦ elim (or_cases (b == 3) false rest) [
          | inl three ↦ let e = eqb-true b 3 three in omega arith
          | inr bad ↦ absurd (both_ways false refl bad)
        ]
      ]
  | inr there ↦ absurd (both_ways _ (unlinked (a == 2) (a == 3)) there)
]
  where
    unlinked : (x y : Bool) → ((x && false) || ((y && false) || false)) ≡ false
    unlinked true true = refl
    unlinked true false = refl
    unlinked false true = refl
    unlinked false false = refl

module _ (p : Pieces) (root thread clearance verify device s1 s2 s3 : ℕ) (ok : in_range p.limits ≡ true)
    (next_id : p.next_id ≡ p.limits.next_id) (next_category : p.next_category ≡ p.limits.next_category)
    (lists : p.places.lists ≡ (1, 2 ∷ 3 ∷ []) ∷ (2, []) ∷ (3, []) ∷ []) (slots : p.places.slots ≡ s1 ∷ s2 ∷ s3 ∷ [])
    (tree : IsWellFormed p.places) (cells : length p.places.cells ≡ p.limits.pages)
    (x1 x2 x3 : Record) (x1_is : x1 ≡ fresh_record root p.limits.pages (keeps.Container no_kind 4))
    (x2_is : x2 ≡ fresh_record thread 1 (keeps.Thread (fresh_thread clearance verify 0)))
    (x3_is : x3 ≡ fresh_record device 2 keeps.Device)
    (records : p.holdings.records.items ≡ set (set (replicate p.limits.pages x1) s2 x2) s3 x3)
    (pool : length p.holdings.labels ≡ 3 * p.limits.pages + 3)
    (owners : (i : ℕ) → owners_in (held_at p.holdings.labels i)
    ≡ one_at i root + (one_at i thread + (one_at i clearance + one_at i verify)) + one_at i device)
    (l1 : label_of p.holdings.labels root ≡ uniform L1) (l2 : label_of p.holdings.labels thread ≡ uniform L1)
    (l3 : label_of p.holdings.labels clearance ≡ uniform L2) (l4 : label_of p.holdings.labels verify ≡ uniform L3)
    (l5 : label_of p.holdings.labels device ≡ uniform p.limits.device) where
  apart : Apart (s1 ∷ s2 ∷ s3 ∷ [])
  apart = subst (λ (xs : List ℕ). Apart xs) slots tree.apart

  within : (k : ℕ) → k < 3 → get_or (s1 ∷ s2 ∷ s3 ∷ []) k 0 < p.limits.pages
  within k lt =
      let long : length p.places.slots ≡ 3 = ap (λ (xs : List ℕ). length xs) slots in
      let there : get_or p.places.slots k 0 < length p.places.cells = tree.within k (omega arith) in
      omega (arith, ap (λ (xs : List ℕ). get_or xs k 0) slots, cells)

  sizes : (length (replicate p.limits.pages x1) ≡ p.limits.pages) × (length (set (replicate p.limits.pages x1) s2 x2) ≡ p.limits.pages)
  sizes = (length-replicate p.limits.pages x1, length-set (replicate p.limits.pages x1) s2 x2 ∙ length-replicate p.limits.pages x1)

  at : (k : ℕ) → record_in p.holdings.records.items k ≡ record_in (set (set (replicate p.limits.pages x1) s2 x2) s3 x3) k
  at k = ap (λ (rs : List Record). record_in rs k) records

  first : record_in p.holdings.records.items s1 ≡ fresh_record root p.limits.pages (keeps.Container no_kind 4)
  first = at s1 ∙ get_or-set_other (set (replicate p.limits.pages x1) s2 x2) s3 s1 x3 blank (apart 0 2 (omega arith) (omega arith))
      ∙ get_or-set_other (replicate p.limits.pages x1) s2 s1 x2 blank (apart 0 1 (omega arith) (omega arith))
      ∙ get_or-replicate p.limits.pages s1 x1 blank (within 0 (omega arith)) ∙ x1_is

  second : record_in p.holdings.records.items s2 ≡ fresh_record thread 1 (keeps.Thread (fresh_thread clearance verify 0))
  second = at s2 ∙ get_or-set_other (set (replicate p.limits.pages x1) s2 x2) s3 s2 x3 blank (apart 1 2 (omega arith) (omega arith))
      ∙ get_or-set_same (replicate p.limits.pages x1) s2 x2 blank (omega (arith, within 1 (omega arith), sizes.0)) ∙ x2_is

  third : record_in p.holdings.records.items s3 ≡ fresh_record device 2 keeps.Device
  third = at s3 ∙ get_or-set_same (set (replicate p.limits.pages x1) s2 x2) s3 x3 blank (omega (arith, within 2 (omega arith), sizes.1)) ∙ x3_is

  abbrev ls : List (Option Held)
  ls = p.holdings.labels

  pub booted_state : pieces_state p ≡ booted p.limits
  booted_state =
      (λ i. record (pieces_state p) { objects = objects_in p.holdings (rows_of (lists i) (slots i)) })
      ∙ (λ i. record (pieces_state p) {
        objects = (1, assembled ls (first i) (2 ∷ 3 ∷ [])) ∷ (2, assembled ls (second i) []) ∷ (3, assembled ls (third i) []) ∷ [];
      })
      ∙ (λ i. record {
        limits = p.limits;
        objects = (1, fresh_object (l1 i) p.limits.pages (is.Container no_kind (2 ∷ 3 ∷ [])))
            ∷ (
              2,
              fresh_object (l2 i) 1 (is.Thread (record {
                clearance = l3 i;
                verify = l4 i;
                space = record { container = 0; object = 0 };
                entry_point = 0;
                closure = 0;
              })),
            )
            ∷ (3, fresh_object (l5 i) 2 (is.Device [])) ∷ [];
        next_id = next_id i;
        next_category = next_category i;
      })

  owned : (i : ℕ) → owners_in (held_at ls i) ≡ claims_in p.holdings.records.items p.places.slots i
  owned i =
      let f : ℕ → ℕ = λ k. claims i (record_in p.holdings.records.items k) in
      let all : claims_in p.holdings.records.items p.places.slots i ≡ sum_by f (s1 ∷ s2 ∷ s3 ∷ []) = ap (sum_by f) slots in
      omega (
        arith,
        owners i,
        all,
        sum_by-cons f s1 (s2 ∷ s3 ∷ []),
        sum_by-cons f s2 (s3 ∷ []),
        sum_by-cons f s3 [],
        ap (claims i) first,
        ap (claims i) second,
        ap (claims i) third,
      )

  uses : (o : ℕ) → use_in p.holdings.records.items (lookup (is_at (nat_cmp o)) (rows_of p.places.lists p.places.slots)) ≡ use_of (pieces_state p) o
  uses o =
      (λ i. use_in p.holdings.records.items (lookup (is_at (nat_cmp o)) (rows_of (lists i) (slots i))))
      ∙ split (is_at (nat_cmp o) 1) (is_at (nat_cmp o) 2) (is_at (nat_cmp o) 3)
      ∙ sym (ap (λ (z : State). use_of z o) booted_state)
    where
      split : (a b c : Bool) → use_in p.holdings.records.items
          (cond a (Some (record { slot = s1; list = 2 ∷ 3 ∷ [] })) (cond b (Some (record { slot = s2; list = [] })) (cond c (Some (record { slot = s3; list = [] })) None)))
          ≡ of_object 0 (λ z. own_cost z.body) (cond a (Some (root_object p.limits)) (cond b (Some boot_thread) (cond c (Some (device_object p.limits)) None)))
          + sum_by (quota_at (booted p.limits)) (of_object [] (λ z. listed z.body)
          (cond a (Some (root_object p.limits)) (cond b (Some boot_thread) (cond c (Some (device_object p.limits)) None))))
      split true b c = ap (λ (z : Record). body_use z.body) first
      split false true c = ap (λ (z : Record). body_use z.body) second
      split false false true = ap (λ (z : Record). body_use z.body) third
      split false false false = refl

  pub booted_sound : IsSound p
  booted_sound = record {
    formed = subst (λ (z : State). is_well_formed z ≡ true) (sym booted_state) (booted_well_formed p.limits ok);
    tree = tree;
    lists = ap (λ (z : State). lists_of z.objects) booted_state ∙ sym lists;
    owned = owned;
    uses = uses;
    climbs = λ a b kind link. climbing a b (ap (λ (t : List (ℕ × List ℕ)). links t a b) (sym lists) ∙ link);
    cells = cells;
    records = ap (λ (rs : List Record). length rs) records ∙ length-set (set (replicate p.limits.pages x1) s2 x2) s3 x3 ∙ sizes.1;
    pool = pool;
    rooted = ap (λ (t : List (ℕ × List ℕ)). has (ids_in t) 1) lists;
    root = ap (λ (z : State). quota_at z 1) booted_state;
  }

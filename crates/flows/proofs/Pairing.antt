-- The pairs of what is reached from each start.
use Rattle.std.proofs.Common.{◌≡◌, ℕ, Bool, true, false, ◌&&◌, ◌==◌, nat_lt, List, [], ◌∷◌, ◌++◌}
use Rattle.std.proofs.Common.{refl, sym, ◌∙◌, ap, subst, ◌⊎◌, inl, inr, ◌↔◌, IsTrue}
use Rattle.std.specs.List.{list_all}
use Rattle.std.proofs.lemmas.Bool.{and_parts, and_from, eqb-true, eq-eqb}
use Rattle.base.specs.Limits.{in_range}
use Rattle.base.specs.Live.{has}
use Rattle.base.specs.declared.ranges.Limits.{Limits}
use Rattle.kernel_rules.specs.Runs.{booted}
use Rattle.kernel_rules.specs.State.{State}
use Rattle.kernel_rules.specs.WellFormed.{is_well_formed}
use Rattle.flow_rules.specs.Flows.{Flows}
use Rattle.flow_rules.specs.declared.steps.Step.{Step}
use Rattle.flows.specs.Carriers.{paired, pairs_of, reached, starts, touches}
use Rattle.flows.specs.Pairs.{has_pair, is_before, ids_rise, pairs_rise}
use Rattle.flows.specs.declared.touches.Touch.{Touch}
use Rattle.flows.proofs.Lists.{or_cases, or_left, or_right}
use Rattle.flows.proofs.Exact.{exact, exact_from, exact_starts}
use Rattle.flows.proofs.Placing.{Rises, reached_rises, starts_rises}

pair_joined : (xs ys : List (ℕ × ℕ)) (o p : ℕ) → has_pair (xs ++ ys) o p ≡ true
    → (has_pair xs o p ≡ true) ⊎ (has_pair ys o p ≡ true)
pair_joined [] ys o p h = inr h
pair_joined (x ∷ xs) ys o p h = elim (or_cases ((x.0 == o) && (x.1 == p)) (has_pair (xs ++ ys) o p) h) [
  | inl here ↦ inl (or_left ((x.0 == o) && (x.1 == p)) (has_pair xs o p) here)
  | inr there ↦ elim (pair_joined xs ys o p there) [
    | inl first ↦ inl (or_right ((x.0 == o) && (x.1 == p)) (has_pair xs o p) first)
    | inr last ↦ inr last
  ]
]

pair_first : (xs ys : List (ℕ × ℕ)) (o p : ℕ) → has_pair xs o p ≡ true → has_pair (xs ++ ys) o p ≡ true
pair_first [] ys o p h = absurd (cc)
pair_first (x ∷ xs) ys o p h = elim (or_cases ((x.0 == o) && (x.1 == p)) (has_pair xs o p) h) [
  | inl here ↦ or_left ((x.0 == o) && (x.1 == p)) (has_pair (xs ++ ys) o p) here
  | inr there ↦ or_right ((x.0 == o) && (x.1 == p)) (has_pair (xs ++ ys) o p) (pair_first xs ys o p there)
]

pair_last : (xs ys : List (ℕ × ℕ)) (o p : ℕ) → has_pair ys o p ≡ true → has_pair (xs ++ ys) o p ≡ true
pair_last [] ys o p h = h
pair_last (x ∷ xs) ys o p h =
    or_right ((x.0 == o) && (x.1 == p)) (has_pair (xs ++ ys) o p) (pair_last xs ys o p h)

paired_from : (a : ℕ) (ids : List ℕ) (o p : ℕ) → has_pair (paired a ids) o p ≡ true
    → (a ≡ o) × (has ids p ≡ true)
paired_from a [] o p h = absurd (cc)
paired_from a (i ∷ ids) o p h = elim (or_cases ((a == o) && (i == p)) (has_pair (paired a ids) o p) h) [
  | inl here ↦
      let parts = and_parts (a == o) (i == p) here in
      (eqb-true a o parts.0, or_left (p == i) (has ids p) (eq-eqb p i (sym (eqb-true i p parts.1))))
  | inr there ↦
      let rest = paired_from a ids o p there in (rest.0, or_right (p == i) (has ids p) rest.1)
]

paired_has : (o : ℕ) (ids : List ℕ) (p : ℕ) → has ids p ≡ true → has_pair (paired o ids) o p ≡ true
paired_has o [] p h = absurd (cc)
paired_has o (i ∷ ids) p h = elim (or_cases (p == i) (has ids p) h) [
  | inl here ↦
      or_left ((o == o) && (i == p)) (has_pair (paired o ids) o p)
      (and_from (o == o) (i == p) (eq-eqb o o refl) (eq-eqb i p (sym (eqb-true p i here))))
  | inr there ↦ or_right ((o == o) && (i == p)) (has_pair (paired o ids) o p) (paired_has o ids p there)
]

pairs_from : (ts : List Touch) (os : List ℕ) (o p : ℕ) → has_pair (pairs_of ts os) o p ≡ true
    → has (reached o [] [] ts) p ≡ true
pairs_from ts [] o p h = absurd (cc)
pairs_from ts (a ∷ os) o p h =
    elim (pair_joined (paired a (reached a [] [] ts)) (pairs_of ts os) o p h) [
      | inl here ↦
          let parts = paired_from a (reached a [] [] ts) o p here in
          ap (λ x. has (reached x [] [] ts) p) (sym parts.0) ∙ parts.1
      | inr there ↦ pairs_from ts os o p there
    ]

pairs_have : (ts : List Touch) (os : List ℕ) (o p : ℕ) → has os o ≡ true → has (reached o [] [] ts) p ≡ true
    → has_pair (pairs_of ts os) o p ≡ true
pairs_have ts [] o p h g = absurd (cc)
pairs_have ts (a ∷ os) o p h g = elim (or_cases (o == a) (has os o) h) [
  | inl here ↦
      pair_first (paired a (reached a [] [] ts)) (pairs_of ts os) o p
      (subst (λ x. has_pair (paired x (reached x [] [] ts)) o p ≡ true) (eqb-true o a here)
      (paired_has o (reached o [] [] ts) p g))
  | inr there ↦
      pair_last (paired a (reached a [] [] ts)) (pairs_of ts os) o p (pairs_have ts os o p there g)
]

pub pairs_exact : (limits : Limits) (events : List (ℕ × Step)) (c o p : ℕ) → in_range limits ≡ true
    → IsTrue (has_pair (pairs_of (touches (booted limits) c events)
    (starts [] (touches (booted limits) c events))) o p)
    ↔ Flows (booted limits) events c o p
pairs_exact limits events c o p range =
    let ts : List Touch = touches (booted limits) c events in (
      λ h. (exact limits events c o p range).0 (pairs_from ts (starts [] ts) o p h),
      λ flow.
          pairs_have ts (starts [] ts) o p (exact_starts limits events c o p range flow)
          ((exact limits events c o p range).1 flow),
    )

-- the pairs rise
all_pairs : (q : ℕ × ℕ → Bool) (xs ys : List (ℕ × ℕ)) → list_all q xs ≡ true → list_all q ys ≡ true
    → list_all q (xs ++ ys) ≡ true
all_pairs q [] ys hx hy = hy
all_pairs q (x ∷ xs) ys hx hy =
    let parts = and_parts (q x) (list_all q xs) hx in
    and_from (q x) (list_all q (xs ++ ys)) parts.0 (all_pairs q xs ys parts.1 hy)

joined_rise : (xs ys : List (ℕ × ℕ)) → pairs_rise xs ≡ true → pairs_rise ys ≡ true
    → ((x : ℕ × ℕ) → has_pair xs x.0 x.1 ≡ true → list_all (is_before x) ys ≡ true)
    → pairs_rise (xs ++ ys) ≡ true
joined_rise [] ys hx hy low = hy
joined_rise (x ∷ xs) ys hx hy low =
    let parts = and_parts (list_all (is_before x) xs) (pairs_rise xs) hx in
    and_from (list_all (is_before x) (xs ++ ys)) (pairs_rise (xs ++ ys))
    (all_pairs (is_before x) xs ys parts.0
    (low x (or_left ((x.0 == x.0) && (x.1 == x.1)) (has_pair xs x.0 x.1)
    (and_from (x.0 == x.0) (x.1 == x.1) (eq-eqb x.0 x.0 refl) (eq-eqb x.1 x.1 refl)))))
    (joined_rise xs ys parts.1 hy
    (λ z h. low z (or_right ((x.0 == z.0) && (x.1 == z.1)) (has_pair xs z.0 z.1) h)))

below_all : (a p : ℕ) (ids : List ℕ) → list_all (nat_lt p) ids ≡ true
    → list_all (is_before (a, p)) (paired a ids) ≡ true
below_all a p [] h = refl
below_all a p (i ∷ ids) h =
    let parts = and_parts (nat_lt p i) (list_all (nat_lt p) ids) h in
    and_from (is_before (a, p) (a, i)) (list_all (is_before (a, p)) (paired a ids))
    (or_right (nat_lt a a) ((a == a) && nat_lt p i) (and_from (a == a) (nat_lt p i) (eq-eqb a a refl) parts.0))
    (below_all a p ids parts.1)

paired_rises : (a : ℕ) (ids : List ℕ) → Rises ids → pairs_rise (paired a ids) ≡ true
paired_rises a [] h = refl
paired_rises a (i ∷ ids) h =
    and_from (list_all (is_before (a, i)) (paired a ids)) (pairs_rise (paired a ids)) (below_all a i ids h.0)
    (paired_rises a ids h.1)

above_first : (a p b : ℕ) (ids : List ℕ) → nat_lt a b ≡ true
    → list_all (is_before (a, p)) (paired b ids) ≡ true
above_first a p b [] h = refl
above_first a p b (i ∷ ids) h =
    and_from (is_before (a, p) (b, i)) (list_all (is_before (a, p)) (paired b ids))
    (or_left (nat_lt a b) ((a == b) && nat_lt p i) h) (above_first a p b ids h)

above_others : (a p : ℕ) (ts : List Touch) (os : List ℕ) → list_all (nat_lt a) os ≡ true
    → list_all (is_before (a, p)) (pairs_of ts os) ≡ true
above_others a p ts [] h = refl
above_others a p ts (b ∷ os) h =
    let parts = and_parts (nat_lt a b) (list_all (nat_lt a) os) h in
    all_pairs (is_before (a, p)) (paired b (reached b [] [] ts)) (pairs_of ts os)
    (above_first a p b (reached b [] [] ts) parts.0) (above_others a p ts os parts.1)

pairs_rise_of : (ts : List Touch) (os : List ℕ) → Rises os → pairs_rise (pairs_of ts os) ≡ true
pairs_rise_of ts [] h = refl
pairs_rise_of ts (a ∷ os) h =
    joined_rise (paired a (reached a [] [] ts)) (pairs_of ts os)
    (paired_rises a (reached a [] [] ts) (reached_rises a [] [] ts tt)) (pairs_rise_of ts os h.1)
    (λ x there.
    let first = paired_from a (reached a [] [] ts) x.0 x.1 there in
    subst (λ b. list_all (is_before (b, x.1)) (pairs_of ts os) ≡ true) first.0 (above_others a x.1 ts os h.0))

pub all_pairs_rise : (ts : List Touch) → IsTrue (pairs_rise (pairs_of ts (starts [] ts)))
all_pairs_rise ts = pairs_rise_of ts (starts [] ts) (starts_rises [] ts tt)

-- what is reached, as it was played from a state
pub reached_for : (s : State) (events : List (ℕ × Step)) (c o : ℕ) (items : List ℕ) → is_well_formed s ≡ true
    → items ≡ reached o [] [] (touches s c events) → (p : ℕ)
    → IsTrue (has items p) ↔ Flows s events c o p
reached_for s events c o items formed is p =
    subst (λ (l : List ℕ). IsTrue (has l p) ↔ Flows s events c o p) (sym is) (exact_from s events c o p formed)

rises_is : (ids : List ℕ) → Rises ids → ids_rise ids ≡ true
rises_is [] h = refl
rises_is (i ∷ ids) h = and_from (list_all (nat_lt i) ids) (ids_rise ids) h.0 (rises_is ids h.1)

pub reached_rising : (s : State) (events : List (ℕ × Step)) (c o : ℕ) (items : List ℕ)
    → items ≡ reached o [] [] (touches s c events) → IsTrue (ids_rise items)
reached_rising s events c o items is =
    subst (λ (l : List ℕ). IsTrue (ids_rise l)) (sym is)
    (rises_is (reached o [] [] (touches s c events)) (reached_rises o [] [] (touches s c events) tt))

-- the pairs of what was played from a boot
pub exact_for : (limits : Limits) (events : List (ℕ × Step)) (c : ℕ) (s : State) (items : List (ℕ × ℕ))
    → s ≡ booted limits → (in_range limits ≡ false → ⊥)
    → items ≡ pairs_of (touches s c events) (starts [] (touches s c events)) → (o p : ℕ)
    → IsTrue (has_pair items o p) ↔ Flows (booted limits) events c o p
exact_for limits events c s items boot range is o p =
    let all : items ≡ pairs_of (touches (booted limits) c events) (starts [] (touches (booted limits) c events)) =
    is ∙ ap (λ n. pairs_of (touches n c events) (starts [] (touches n c events))) boot in
    subst (λ (l : List (ℕ × ℕ)). IsTrue (has_pair l o p) ↔ Flows (booted limits) events c o p) (sym all)
    (pairs_exact limits events c o p (in_it (in_range limits) range))
  where
    in_it : (b : Bool) → (b ≡ false → ⊥) → b ≡ true
    in_it true h = refl
    in_it false h = absurd (h refl)

pub rising_for : (events : List (ℕ × Step)) (c : ℕ) (s : State) (items : List (ℕ × ℕ))
    → items ≡ pairs_of (touches s c events) (starts [] (touches s c events)) → IsTrue (pairs_rise items)
rising_for events c s items is =
    subst (λ (l : List (ℕ × ℕ)). IsTrue (pairs_rise l)) (sym is) (all_pairs_rise (touches s c events))

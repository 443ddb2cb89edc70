-- What stands in lists of ids that grow and shrink.
use Rattle.std.proofs.Common.{◌≡◌, ◌≢◌, ℕ, nat_lt, Bool, true, false, cond, not, ◌||◌, ◌==◌, List, [], ◌∷◌, ◌++◌}
use Rattle.std.proofs.Common.{refl, sym, ◌∙◌, ap, ◌⊎◌, inl, inr}
use Rattle.std.proofs.lemmas.Bool.{eqb-true, eq-eqb}
use Rattle.base.specs.Live.{has}
use Rattle.kernel_rules.specs.Changes.{without}
use Rattle.flows.specs.Carriers.{added, all_added, placed, all_placed, meets}

pub or_cases : (a b : Bool) → (a || b) ≡ true → (a ≡ true) ⊎ (b ≡ true)
or_cases true b h = inl refl
or_cases false b h = inr h

pub or_left : (a b : Bool) → a ≡ true → (a || b) ≡ true
or_left true b h = refl
or_left false b h = absurd (cc)

pub or_right : (a b : Bool) → b ≡ true → (a || b) ≡ true
or_right true b h = refl
or_right false b h = h

pub has_joined : (xs ys : List ℕ) (o : ℕ) → has (xs ++ ys) o ≡ true → (has xs o ≡ true) ⊎ (has ys o ≡ true)
has_joined [] ys o h = inr h
has_joined (x ∷ xs) ys o h = elim (or_cases (o == x) (has (xs ++ ys) o) h) [
  | inl here ↦ inl (or_left (o == x) (has xs o) here)
  | inr there ↦ elim (has_joined xs ys o there) [
    | inl first ↦ inl (or_right (o == x) (has xs o) first)
    | inr last ↦ inr last
  ]
]

pub has_first : (xs ys : List ℕ) (o : ℕ) → has xs o ≡ true → has (xs ++ ys) o ≡ true
has_first [] ys o h = absurd (cc)
has_first (x ∷ xs) ys o h = elim (or_cases (o == x) (has xs o) h) [
  | inl here ↦ or_left (o == x) (has (xs ++ ys) o) here
  | inr there ↦ or_right (o == x) (has (xs ++ ys) o) (has_first xs ys o there)
]

pub has_last : (xs ys : List ℕ) (o : ℕ) → has ys o ≡ true → has (xs ++ ys) o ≡ true
has_last [] ys o h = h
has_last (x ∷ xs) ys o h = or_right (o == x) (has (xs ++ ys) o) (has_last xs ys o h)

alone : (x o : ℕ) → has (x ∷ []) o ≡ true → o ≡ x
alone x o h = elim (or_cases (o == x) false h) [
  | inl here ↦ eqb-true o x here
  | inr there ↦ absurd (cc)
]

pub added_old : (ids : List ℕ) (x o : ℕ) → has ids o ≡ true → has (added ids x) o ≡ true
added_old ids x o h =
    elim (has ids x) as (λ v. has (cond v ids (ids ++ x ∷ [])) o ≡ true) [
      | true ↦ h
      | false ↦ has_first ids (x ∷ []) o h
    ]

pub added_new : (ids : List ℕ) (x : ℕ) → has (added ids x) x ≡ true
added_new ids x =
    elim (has ids x) as (λ v. has ids x ≡ v → has (cond v ids (ids ++ x ∷ [])) x ≡ true) [
      | true ↦ λ is. is
      | false ↦ λ is. has_last ids (x ∷ []) x (or_left (x == x) false (eq-eqb x x refl))
    ] refl

pub added_from : (ids : List ℕ) (x o : ℕ) → has (added ids x) o ≡ true → (has ids o ≡ true) ⊎ (o ≡ x)
added_from ids x o =
    elim (has ids x)
    as (λ v. has (cond v ids (ids ++ x ∷ [])) o ≡ true → (has ids o ≡ true) ⊎ (o ≡ x)) [
      | true ↦ λ h. inl h
      | false ↦ λ h. elim (has_joined ids (x ∷ []) o h) [
        | inl old ↦ inl old
        | inr new ↦ inr (alone x o new)
      ]
    ]

pub all_old : (ids xs : List ℕ) (o : ℕ) → has ids o ≡ true → has (all_added ids xs) o ≡ true
all_old ids [] o h = h
all_old ids (x ∷ xs) o h = all_old (added ids x) xs o (added_old ids x o h)

pub all_new : (ids xs : List ℕ) (o : ℕ) → has xs o ≡ true → has (all_added ids xs) o ≡ true
all_new ids [] o h = absurd (cc)
all_new ids (x ∷ xs) o h = elim (or_cases (o == x) (has xs o) h) [
  | inl here ↦
      all_old (added ids x) xs o (ap (has (added ids x)) (eqb-true o x here) ∙ added_new ids x)
  | inr there ↦ all_new (added ids x) xs o there
]

pub all_from : (ids xs : List ℕ) (o : ℕ) → has (all_added ids xs) o ≡ true
    → (has ids o ≡ true) ⊎ (has xs o ≡ true)
all_from ids [] o h = inl h
all_from ids (x ∷ xs) o h = elim (all_from (added ids x) xs o h) [
  | inl first ↦ elim (added_from ids x o first) [
    | inl old ↦ inl old
    | inr is ↦ inr (or_left (o == x) (has xs o) (eq-eqb o x is))
  ]
  | inr last ↦ inr (or_right (o == x) (has xs o) last)
]

pub without_other : (x o : ℕ) (ids : List ℕ) → o ≢ x → has ids o ≡ true → has (without x ids) o ≡ true
without_other x o [] other h = absurd (cc)
without_other x o (i ∷ ids) other h =
    elim (x == i)
    as (λ v. (x == i) ≡ v → has (cond (not v) (i ∷ without x ids) (without x ids)) o ≡ true) [
      | true ↦ λ is. elim (or_cases (o == i) (has ids o) h) [
        | inl here ↦ absurd (other (eqb-true o i here ∙ sym (eqb-true x i is)))
        | inr there ↦ without_other x o ids other there
      ]
      | false ↦ λ is. elim (or_cases (o == i) (has ids o) h) [
        | inl here ↦ or_left (o == i) (has (without x ids) o) here
        | inr there ↦ or_right (o == i) (has (without x ids) o) (without_other x o ids other there)
      ]
    ] refl

-- what is met is the object or a carrier
pub record Met (o : ℕ) (carriers ids : List ℕ) : Type 0 where
  pub met : ℕ
  pub among : has ids met ≡ true
  pub is : (met ≡ o) ⊎ (has carriers met ≡ true)

pub met_by : (o : ℕ) (carriers ids : List ℕ) → meets o carriers ids ≡ true → Met o carriers ids
met_by o carriers [] h = absurd (cc)
met_by o carriers (x ∷ xs) h = elim (or_cases (x == o || has carriers x) (meets o carriers xs) h) [
  | inl here ↦ record {
    met = x;
    among = or_left (x == x) (has xs x) (eq-eqb x x refl);
    is = elim (or_cases (x == o) (has carriers x) here) [
      | inl start ↦ inl (eqb-true x o start)
      | inr one ↦ inr one
    ];
  }
  | inr there ↦
      let m : Met o carriers xs = met_by o carriers xs there in
      record { met = m.met; among = or_right (m.met == x) (has xs m.met) m.among; is = m.is }
]

pub meets_by : (o : ℕ) (carriers ids : List ℕ) (x : ℕ) → has ids x ≡ true
    → (x ≡ o) ⊎ (has carriers x ≡ true) → meets o carriers ids ≡ true
meets_by o carriers [] x h is = absurd (cc)
meets_by o carriers (i ∷ ids) x h is = elim (or_cases (x == i) (has ids x) h) [
  | inl here ↦
      let at : x ≡ i = eqb-true x i here in
      or_left (i == o || has carriers i) (meets o carriers ids)
      (elim is as (λ _. (i == o || has carriers i) ≡ true) [
        | inl start ↦ or_left (i == o) (has carriers i) (eq-eqb i o (sym at ∙ start))
        | inr one ↦ or_right (i == o) (has carriers i) (ap (has carriers) (sym at) ∙ one)
      ])
  | inr there ↦ or_right (i == o || has carriers i) (meets o carriers ids) (meets_by o carriers ids x there is)
]

-- of one that is placed
placed_cases : (P : List ℕ → Type 0) (x i : ℕ) (ids : List ℕ) → (nat_lt i x ≡ true → P (i ∷ placed x ids))
    → (nat_lt i x ≡ false → (i == x) ≡ true → P (i ∷ ids))
    → (nat_lt i x ≡ false → (i == x) ≡ false → P (x ∷ i ∷ ids)) → P (placed x (i ∷ ids))
placed_cases P x i ids below same above =
    elim (nat_lt i x)
    as (λ v. nat_lt i x ≡ v → P (cond v (i ∷ placed x ids) (cond (i == x) (i ∷ ids) (x ∷ i ∷ ids)))) [
      | true ↦ λ is. below is
      | false ↦ λ is. elim (i == x) as (λ v. (i == x) ≡ v → P (cond v (i ∷ ids) (x ∷ i ∷ ids))) [
        | true ↦ λ on. same is on
        | false ↦ λ off. above is off
      ] refl
    ] refl

pub placed_old : (x o : ℕ) (ids : List ℕ) → has ids o ≡ true → has (placed x ids) o ≡ true
placed_old x o [] h = absurd (cc)
placed_old x o (i ∷ ids) h =
    placed_cases (λ l. has l o ≡ true) x i ids
    (λ is. elim (or_cases (o == i) (has ids o) h) [
      | inl here ↦ or_left (o == i) (has (placed x ids) o) here
      | inr there ↦ or_right (o == i) (has (placed x ids) o) (placed_old x o ids there)
    ])
    (λ is on. h) (λ is off. or_right (o == x) (has (i ∷ ids) o) h)

pub placed_new : (x : ℕ) (ids : List ℕ) → has (placed x ids) x ≡ true
placed_new x [] = or_left (x == x) false (eq-eqb x x refl)
placed_new x (i ∷ ids) =
    placed_cases (λ l. has l x ≡ true) x i ids
    (λ is. or_right (x == i) (has (placed x ids) x) (placed_new x ids))
    (λ is on. or_left (x == i) (has ids x) (eq-eqb x i (sym (eqb-true i x on))))
    (λ is off. or_left (x == x) (has (i ∷ ids) x) (eq-eqb x x refl))

pub placed_from : (x o : ℕ) (ids : List ℕ) → has (placed x ids) o ≡ true → (has ids o ≡ true) ⊎ (o ≡ x)
placed_from x o [] h = inr (alone x o h)
placed_from x o (i ∷ ids) h =
    placed_cases (λ l. has l o ≡ true → (has (i ∷ ids) o ≡ true) ⊎ (o ≡ x)) x i ids
    (λ is g. elim (or_cases (o == i) (has (placed x ids) o) g) [
      | inl here ↦ inl (or_left (o == i) (has ids o) here)
      | inr there ↦ elim (placed_from x o ids there) [
        | inl old ↦ inl (or_right (o == i) (has ids o) old)
        | inr new ↦ inr new
      ]
    ])
    (λ is on h. inl h)
    (λ is off h. elim (or_cases (o == x) (has (i ∷ ids) o) h) [
      | inl here ↦ inr (eqb-true o x here)
      | inr there ↦ inl there
    ]) h

pub all_placed_old : (ids xs : List ℕ) (o : ℕ) → has ids o ≡ true → has (all_placed ids xs) o ≡ true
all_placed_old ids [] o h = h
all_placed_old ids (x ∷ xs) o h = all_placed_old (placed x ids) xs o (placed_old x o ids h)

pub all_placed_new : (ids xs : List ℕ) (o : ℕ) → has xs o ≡ true → has (all_placed ids xs) o ≡ true
all_placed_new ids [] o h = absurd (cc)
all_placed_new ids (x ∷ xs) o h = elim (or_cases (o == x) (has xs o) h) [
  | inl here ↦
      all_placed_old (placed x ids) xs o (ap (has (placed x ids)) (eqb-true o x here) ∙ placed_new x ids)
  | inr there ↦ all_placed_new (placed x ids) xs o there
]

pub all_placed_from : (ids xs : List ℕ) (o : ℕ) → has (all_placed ids xs) o ≡ true
    → (has ids o ≡ true) ⊎ (has xs o ≡ true)
all_placed_from ids [] o h = inl h
all_placed_from ids (x ∷ xs) o h = elim (all_placed_from (placed x ids) xs o h) [
  | inl first ↦ elim (placed_from x o ids first) [
    | inl old ↦ inl old
    | inr is ↦ inr (or_left (o == x) (has xs o) (eq-eqb o x is))
  ]
  | inr last ↦ inr (or_right (o == x) (has xs o) last)
]

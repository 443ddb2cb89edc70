-- An id is live by the test exactly where a path leads to it from the root.
use Rattle.std.proofs.Common.{◌≡◌, ℕ, zero, suc, ◌+◌, ◌≤◌, ◌<◌, Bool, true, false, cond, ◌&&◌, ◌||◌, ◌==◌, List, [], ◌∷◌, ◌++◌, length, refl, sym, ◌∙◌, ap, subst, ◌⊎◌, inl, inr, arith}
use Rattle.std.specs.List.{flat_map}
use Rattle.std.proofs.lemmas.Bool.{or_cases, and_parts, and_from, eqb-true, eq-eqb, both_ways}
use Rattle.std.proofs.lemmas.List.Folds.{list_any-append}
use Rattle.base.specs.Live.{has, links, Leads, IsLive, one_further, reached, is_live, LiveByPath}

pub or_left : (a b : Bool) → a ≡ true → (a || b) ≡ true
or_left true b e = refl
or_left false b e = absurd (both_ways false refl e)

pub or_right : (a b : Bool) → b ≡ true → (a || b) ≡ true
or_right true b e = refl
or_right false b e = e

abbrev spread : List ℕ → List (ℕ × List ℕ) → List ℕ
spread ids objects = flat_map (λ e. cond (has ids e.0) (e.1) []) objects

abbrev Within : List ℕ → List ℕ → Type 0
Within xs ys = (o : ℕ) → has xs o ≡ true → has ys o ≡ true

-- what the record's list adds to the rest
has-append : (xs ys : List ℕ) (o : ℕ) → has (xs ++ ys) o ≡ (has xs o || has ys o)
has-append xs ys o = list_any-append (λ i. o == i) xs ys

-- from an id among those given, each link leads into the spread
spread_has : (ids : List ℕ) (objects : List (ℕ × List ℕ)) (a b : ℕ) → has ids a ≡ true → links objects a b ≡ true → has (spread ids objects) b ≡ true
spread_has ids [] a b h l = absurd (both_ways false refl l)
spread_has ids (e ∷ es) a b h l =
    rw (has-append (cond (has ids e.0) (e.1) []) (spread ids es) b)
    (elim (or_cases ((a == e.0) && has (e.1) b) (links es a b) l) [
      | inl here ↦
          let both : ((a == e.0) ≡ true) × (has (e.1) b ≡ true) = and_parts (a == e.0) (has (e.1) b) here in
          let same : a ≡ e.0 = eqb-true a e.0 both.0 in
          let in' : has ids e.0 ≡ true = subst (λ x. has ids x ≡ true) same h in
          or_left _ _ (subst (λ c. has (cond c (e.1) []) b ≡ true) (sym in') both.1)
      | inr there ↦ or_right _ _ (spread_has ids es a b h there)
    ])

-- what is in the spread is linked from one of the ids
spread_from : (ids : List ℕ) (objects : List (ℕ × List ℕ)) (b : ℕ) → has (spread ids objects) b ≡ true → (a : ℕ) × (has ids a ≡ true) × (links objects a b ≡ true)
spread_from ids [] b h = absurd (both_ways false refl h)
spread_from ids (e ∷ es) b h =
    elim (or_cases (has (cond (has ids e.0) (e.1) []) b) (has (spread ids es) b) (sym (has-append (cond (has ids e.0) (e.1) []) (spread ids es) b) ∙ h)) [
      | inl here ↦ elim (has ids e.0) as (λ v. has ids e.0 ≡ v → has (cond v (e.1) []) b ≡ true → (a : ℕ) × (has ids a ≡ true) × (links (e ∷ es) a b ≡ true)) [
        | true ↦ λ is l. (e.0, is, or_left ((e.0 == e.0) && has (e.1) b) (links es e.0 b) (and_from (e.0 == e.0) (has (e.1) b) (eq-eqb e.0 e.0 refl) l))
        | false ↦ λ is l. absurd (both_ways false refl l)
      ] refl here
      | inr there ↦
          let tail : (a : ℕ) × (has ids a ≡ true) × (links es a b ≡ true) = spread_from ids es b there in
          (tail.0, tail.1, or_right ((tail.0 == e.0) && has (e.1) b) (links es tail.0 b) tail.2)
    ]

further_within : (objects : List (ℕ × List ℕ)) (xs ys : List ℕ) → Within xs ys → Within (one_further objects xs) (one_further objects ys)
further_within objects xs ys w o h = elim (or_cases (o == 1) (has (spread xs objects) o) h) [
  | inl root ↦ or_left (o == 1) (has (spread ys objects) o) root
  | inr on ↦
      let from : (a : ℕ) × (has xs a ≡ true) × (links objects a o ≡ true) = spread_from xs objects o on in
      or_right (o == 1) (has (spread ys objects) o) (spread_has ys objects from.0 o (w from.0 from.1) from.2)
]

grows : (n : ℕ) (objects : List (ℕ × List ℕ)) → Within (reached n objects) (reached (suc n) objects)
grows zero objects o h = elim (or_cases (o == 1) false h) [
  | inl root ↦ or_left (o == 1) (has (spread (1 ∷ []) objects) o) root
  | inr never ↦ absurd (both_ways false refl never)
]
grows (suc n) objects o h = further_within objects (reached n objects) (reached (suc n) objects) (grows n objects) o h

-- how many records have their id among these
abbrev counted : List ℕ → List (ℕ × List ℕ) → ℕ
counted ids [] = 0
counted ids (e ∷ es) = cond (has ids e.0) 1 0 + counted ids es

counted-le : (ids : List ℕ) (objects : List (ℕ × List ℕ)) → counted ids objects ≤ length objects
counted-le ids [] = omega arith
counted-le ids (e ∷ es) = elim (has ids e.0) as (λ v. cond v 1 0 + counted ids es ≤ length (e ∷ es)) [
  | true ↦ omega (arith, counted-le ids es)
  | false ↦ omega (arith, counted-le ids es)
]

counted-within : (xs ys : List ℕ) (objects : List (ℕ × List ℕ)) → Within xs ys → counted xs objects ≤ counted ys objects
counted-within xs ys [] w = omega arith
counted-within xs ys (e ∷ es) w =
    elim (has xs e.0) as (λ v. has xs e.0 ≡ v → cond v 1 0 + counted xs es ≤ cond (has ys e.0) 1 0 + counted ys es) [
      | true ↦ λ is. subst (λ v. 1 + counted xs es ≤ cond v 1 0 + counted ys es) (sym (w e.0 is)) (omega (arith, counted-within xs ys es w))
      | false ↦ λ is. omega (arith, counted-within xs ys es w)
    ] refl

-- where no more records are counted, the spread is the same
same_spread : (xs ys : List ℕ) (objects : List (ℕ × List ℕ)) → Within xs ys → counted ys objects ≤ counted xs objects → spread xs objects ≡ spread ys objects
same_spread xs ys [] w c = refl
same_spread xs ys (e ∷ es) w c =
    let le : counted xs es ≤ counted ys es = counted-within xs ys es w in
    elim (has xs e.0) as (λ v. has xs e.0 ≡ v → cond (has ys e.0) 1 0 + counted ys es ≤ cond v 1 0 + counted xs es → cond v (e.1) [] ++ spread xs es ≡ cond (has ys e.0) (e.1) [] ++ spread ys es) [
      | true ↦ λ is.
          subst (λ v. cond v 1 0 + counted ys es ≤ 1 + counted xs es → e.1 ++ spread xs es ≡ cond v (e.1) [] ++ spread ys es) (sym (w e.0 is))
          (λ d. ap (λ t. e.1 ++ t) (same_spread xs ys es w (omega arith)))
      | false ↦ λ is. elim (has ys e.0) as (λ v. cond v 1 0 + counted ys es ≤ 0 + counted xs es → spread xs es ≡ cond v (e.1) [] ++ spread ys es) [
        | true ↦ λ d. absurd (omega arith)
        | false ↦ λ d. same_spread xs ys es w (omega arith)
      ]
    ] refl c

-- either another record is reached at each further link, or nothing more is
settles : (n : ℕ) (objects : List (ℕ × List ℕ)) → (n ≤ counted (reached n objects) objects) ⊎ (reached (suc n) objects ≡ reached n objects)
settles zero objects = inl (omega arith)
settles (suc n) objects = elim (settles n objects) [
  | inr same ↦ inr (ap (one_further objects) same)
  | inl many ↦
      let xs : List ℕ = reached n objects in
      let ys : List ℕ = reached (suc n) objects in
      elim (le_or_more (suc n) (counted (reached (suc n) objects) objects)) [
        | inl enough ↦ inl enough
        | inr few ↦ inr (ap (λ t. 1 ∷ t) (sym (same_spread (reached n objects) (reached (suc n) objects) objects (grows n objects) (omega arith))))
      ]
]
  where
    le_or_more : (a b : ℕ) → (a ≤ b) ⊎ (b < a)
    le_or_more a b = grind arith

settled : (objects : List (ℕ × List ℕ)) → reached (suc (suc (length objects))) objects ≡ reached (suc (length objects)) objects
settled objects = elim (settles (suc (length objects)) objects) [
  | inr same ↦ same
  | inl many ↦ absurd (omega (arith, counted-le (reached (suc (length objects)) objects) objects))
]

-- from what is reached, a path leads to what is reached
stays : (objects : List (ℕ × List ℕ)) (a : ℕ) (path : List ℕ) (o : ℕ) → is_live objects a ≡ true → Leads objects a path o → is_live objects o ≡ true
unfolding is_live
stays objects a [] o h e = subst (λ x. is_live objects x ≡ true) e h
stays objects a (b ∷ path) o h l =
    let ids : List ℕ = reached (suc (length objects)) objects in
    stays objects b path o
    (subst (λ xs. has xs b ≡ true) (settled objects)
    (or_right (b == 1) (has (spread (reached (suc (length objects)) objects) objects) b) (spread_has (reached (suc (length objects)) objects) objects a b h l.0)))
    l.1

pub leads-snoc : (objects : List (ℕ × List ℕ)) (a : ℕ) (path : List ℕ) (b o : ℕ) → Leads objects a path b → links objects b o ≡ true → Leads objects a (path ++ o ∷ []) o
leads-snoc objects a [] b o e l = (subst (λ x. links objects x o ≡ true) (sym e) l, refl)
leads-snoc objects a (c ∷ path) b o p l = (p.0, leads-snoc objects c path b o p.1 l)

reached_leads : (n : ℕ) (objects : List (ℕ × List ℕ)) (o : ℕ) → has (reached n objects) o ≡ true → IsLive objects o
reached_leads zero objects o h = elim (or_cases (o == 1) false h) [
  | inl root ↦ ([], sym (eqb-true o 1 root))
  | inr never ↦ absurd (both_ways false refl never)
]
reached_leads (suc n) objects o h = elim (or_cases (o == 1) (has (spread (reached n objects) objects) o) h) [
  | inl root ↦ ([], sym (eqb-true o 1 root))
  | inr on ↦
      let from : (a : ℕ) × (has (reached n objects) a ≡ true) × (links objects a o ≡ true) = spread_from (reached n objects) objects o on in
      let before : IsLive objects from.0 = reached_leads n objects from.0 from.1 in
      (before.0 ++ o ∷ [], leads-snoc objects 1 before.0 from.0 o before.1 from.2)
]

pub path_from_live : (objects : List (ℕ × List ℕ)) (o : ℕ) → is_live objects o ≡ true → IsLive objects o
unfolding is_live
path_from_live objects o h = reached_leads (suc (length objects)) objects o h

pub live_from_path : (objects : List (ℕ × List ℕ)) (o : ℕ) → IsLive objects o → is_live objects o ≡ true
unfolding is_live
live_from_path objects o p = stays objects 1 p.0 o (or_left (1 == 1) (has (spread (reached (length objects) objects) objects) 1) refl) p.1

pub live_by_path_lem : LiveByPath
live_by_path_lem lists o = (path_from_live lists o, live_from_path lists o)

-- The place of an id in a rising list, and that the list rises with it.
use Rattle.std.proofs.Common.{◌≡◌, ◌≢◌, ℕ, suc, ◌<◌, ◌≤◌, Bool, true, false, cond, ◌&&◌, ◌==◌, nat_lt, List, [], ◌∷◌, ◌++◌}
use Rattle.std.proofs.Common.{length, get_or, take, drop, refl, sym, ◌∙◌, ap, arith}
use Rattle.std.specs.List.{list_all}
use Rattle.std.proofs.lemmas.Bool.{and_parts, and_from, eqb-true, eq-eqb, both_ways, ltb-true, lt-ltb}
use Rattle.flows.specs.Carriers.{placed, all_placed, reached, starts, handed, takers, carriers_after}
use Rattle.flows.specs.Places.{place_in}
use Rattle.flows.specs.declared.touches.Touch.{Touch}

pub placed_there : (x d : ℕ) (xs : List ℕ) → place_in x xs < length xs → get_or xs (place_in x xs) d ≡ x
    → placed x xs ≡ xs
placed_there x d [] less h = absurd (omega arith)
placed_there x d (y ∷ ys) less h =
    elim (nat_lt y x)
    as (λ v. cond v (suc (place_in x ys)) 0 < suc (length ys)
    → get_or (y ∷ ys) (cond v (suc (place_in x ys)) 0) d ≡ x
    → cond v (y ∷ placed x ys) (cond (y == x) (y ∷ ys) (x ∷ y ∷ ys)) ≡ y ∷ ys) [
      | true ↦ λ under at. ap (λ l. y ∷ l) (placed_there x d ys (omega arith) at)
      | false ↦ λ under at. ap (λ b. cond b (y ∷ ys) (x ∷ y ∷ ys)) (eq-eqb y x at)
    ] less h

pub placed_anew : (x d : ℕ) (xs : List ℕ)
    → (place_in x xs < length xs → get_or xs (place_in x xs) d ≢ x)
    → placed x xs ≡ take (place_in x xs) xs ++ x ∷ drop (place_in x xs) xs
placed_anew x d [] h = refl
placed_anew x d (y ∷ ys) h =
    elim (nat_lt y x)
    as (λ v. (cond v (suc (place_in x ys)) 0 < suc (length ys)
    → get_or (y ∷ ys) (cond v (suc (place_in x ys)) 0) d ≢ x)
    → cond v (y ∷ placed x ys) (cond (y == x) (y ∷ ys) (x ∷ y ∷ ys))
    ≡ take (cond v (suc (place_in x ys)) 0) (y ∷ ys) ++ x ∷ drop (cond v (suc (place_in x ys)) 0) (y ∷ ys)) [
      | true ↦ λ off. ap (λ l. y ∷ l) (placed_anew x d ys (λ less. off (omega arith)))
      | false ↦ λ off.
          ap (λ b. cond b (y ∷ ys) (x ∷ y ∷ ys)) (apart (y == x) (λ e. off (omega arith) (eqb-true y x e)))
    ] h
  where
    apart : (b : Bool) → (b ≡ true → ⊥) → b ≡ false
    apart true h = absurd (h refl)
    apart false h = refl

-- each id is below those after it
abbrev pub Rises : List ℕ → Type 0
Rises [] = Unit {0}
Rises (x ∷ xs) = (list_all (nat_lt x) xs ≡ true) × Rises xs

all_with : (p : ℕ → Bool) (x : ℕ) (xs : List ℕ) → p x ≡ true → list_all p xs ≡ true
    → list_all p (placed x xs) ≡ true
all_with p x [] h all = and_from (p x) true h refl
all_with p x (y ∷ ys) h all =
    let parts : (p y ≡ true) × (list_all p ys ≡ true) = and_parts (p y) (list_all p ys) all in
    elim (nat_lt y x)
    as (λ v. list_all p (cond v (y ∷ placed x ys) (cond (y == x) (y ∷ ys) (x ∷ y ∷ ys))) ≡ true) [
      | true ↦ and_from (p y) (list_all p (placed x ys)) parts.0 (all_with p x ys h parts.1)
      | false ↦ elim (y == x) as (λ v. list_all p (cond v (y ∷ ys) (x ∷ y ∷ ys)) ≡ true) [
        | true ↦ all
        | false ↦ and_from (p x) (list_all p (y ∷ ys)) h all
      ]
    ]

all_above : (x y : ℕ) (ys : List ℕ) → x < y → list_all (nat_lt y) ys ≡ true → list_all (nat_lt x) ys ≡ true
all_above x y [] less h = refl
all_above x y (z ∷ zs) less h =
    let parts : (nat_lt y z ≡ true) × (list_all (nat_lt y) zs ≡ true) =
    and_parts (nat_lt y z) (list_all (nat_lt y) zs) h in
    let over : y < z = ltb-true y z parts.0 in
    and_from (nat_lt x z) (list_all (nat_lt x) zs) (lt-ltb x z (omega arith)) (all_above x y zs less parts.1)

pub placed_rises : (x : ℕ) (xs : List ℕ) → Rises xs → Rises (placed x xs)
placed_rises x [] h = (refl, tt)
placed_rises x (y ∷ ys) h =
    elim (nat_lt y x)
    as (λ v. nat_lt y x ≡ v → Rises (cond v (y ∷ placed x ys) (cond (y == x) (y ∷ ys) (x ∷ y ∷ ys)))) [
      | true ↦ λ is. (all_with (nat_lt y) x ys is h.0, placed_rises x ys h.1)
      | false ↦ λ is. elim (y == x) as (λ v. (y == x) ≡ v → Rises (cond v (y ∷ ys) (x ∷ y ∷ ys))) [
        | true ↦ λ on. h
        | false ↦ λ off.
            let apart : y ≢ x = (λ e. both_ways (y == x) off (eq-eqb y x e)) in
            let low : x ≤ y = not_less y x is in
            let less : x < y = omega arith in (
              and_from (nat_lt x y) (list_all (nat_lt x) ys) (lt-ltb x y less) (all_above x y ys less h.0),
              h,
            )
      ] refl
    ] refl
  where
    not_less : (y x : ℕ) → nat_lt y x ≡ false → x ≤ y
    not_less y x h = grind arith

pub all_placed_rises : (ids xs : List ℕ) → Rises ids → Rises (all_placed ids xs)
all_placed_rises ids [] h = h
all_placed_rises ids (x ∷ xs) h = all_placed_rises (placed x ids) xs (placed_rises x ids h)

pub reached_rises : (o : ℕ) (cs found : List ℕ) (ts : List Touch) → Rises found → Rises (reached o cs found ts)
reached_rises o cs found [] h = h
reached_rises o cs found (t ∷ ts) h =
    reached_rises o (carriers_after (takers o cs t) t) (all_placed found (handed (takers o cs t) t)) ts
    (all_placed_rises found (handed (takers o cs t) t) h)

pub starts_rises : (found : List ℕ) (ts : List Touch) → Rises found → Rises (starts found ts)
starts_rises found [] h = h
starts_rises found (t ∷ ts) h =
    starts_rises (all_placed found t.observed) ts (all_placed_rises found t.observed h)

-- a list in which an id was found at its place, and one in which it was not
pub put_there : (x place : ℕ) (b : Bool) (xs ys zs : List ℕ) → ys ≡ xs → zs ≡ xs → place ≡ place_in x ys
    → b ≡ (nat_lt place (length zs) && (get_or zs place 0 == x)) → b ≡ true → xs ≡ placed x xs
put_there x place b xs ys zs hy hz at is found =
    let here : place ≡ place_in x xs = at ∙ ap (place_in x) hy in
    let test : (nat_lt (place_in x xs) (length xs) && (get_or xs (place_in x xs) 0 == x)) ≡ true =
    (λ i. nat_lt (sym here i) (length (sym hz i)) && (get_or (sym hz i) (sym here i) 0 == x)) ∙ sym is ∙ found in
    let parts = and_parts (nat_lt (place_in x xs) (length xs)) (get_or xs (place_in x xs) 0 == x) test in
    sym (placed_there x 0 xs (ltb-true (place_in x xs) (length xs) parts.0)
    (eqb-true (get_or xs (place_in x xs) 0) x parts.1))

pub put_anew : (x place : ℕ) (b : Bool) (xs ys zs : List ℕ) → ys ≡ xs → zs ≡ xs → place ≡ place_in x ys
    → b ≡ (nat_lt place (length zs) && (get_or zs place 0 == x)) → b ≡ false
    → take place xs ++ x ∷ drop place xs ≡ placed x xs
put_anew x place b xs ys zs hy hz at is absent =
    let here : place ≡ place_in x xs = at ∙ ap (place_in x) hy in
    let test : (nat_lt (place_in x xs) (length xs) && (get_or xs (place_in x xs) 0 == x)) ≡ false =
    (λ i. nat_lt (sym here i) (length (sym hz i)) && (get_or (sym hz i) (sym here i) 0 == x)) ∙ sym is ∙ absent in
    ap (λ k. take k xs ++ x ∷ drop k xs) here
    ∙ sym (placed_anew x 0 xs (λ less same.
    both_ways (nat_lt (place_in x xs) (length xs) && (get_or xs (place_in x xs) 0 == x)) test
    (and_from (nat_lt (place_in x xs) (length xs)) (get_or xs (place_in x xs) 0 == x)
    (lt-ltb (place_in x xs) (length xs) less) (eq-eqb (get_or xs (place_in x xs) 0) x same))))

-- Rows of conditions in two worlds: the refusal is the same where each condition is, as long as no
-- condition before it holds.
use Rattle.std.proofs.Common.{◌≡◌, ℕ, Bool, true, false, cond, ◌&&◌, nat_le, [], ◌∷◌}
use Rattle.std.proofs.Common.{Some, None, refl, sym, ◌∙◌, ap, subst, ◌++◌}
use Rattle.std.specs.List.{list_all}
use Rattle.std.proofs.lemmas.Bool.{and_parts}
use Rattle.base.specs.Refusal.{told_as, lesser}
use Rattle.base.specs.declared.refusals.Refusal.{Refusal}
use Rattle.kernel_rules.specs.Rows.{Row, refusal_of, lesser_of}
use Rattle.kernel_rules.proofs.RowLaws.{least_of-least_of}

-- the same refusals, and the same conditions up to the first that holds
abbrev pub AlikeRows : Row → Row → Type 0
AlikeRows [] [] = Unit {0}
AlikeRows [] (d ∷ b) = ⊥
AlikeRows (c ∷ a) [] = ⊥
AlikeRows (c ∷ a) (d ∷ b) = (c.0 ≡ d.0) × (d.1 ≡ c.1) × (c.1 ≡ false → AlikeRows a b)

-- no refusal has a smaller number
abbrev pub none_below : ℕ → Row → Bool
none_below k row = list_all (λ c. nat_le k (told_as c.0).number) row

-- the numbers of the refusals rise or stay
abbrev pub rises : Row → Bool
rises [] = true
rises (c ∷ row) = none_below (told_as c.0).number row && rises row

lesser_at_least : (k : ℕ) (r q : Refusal) → nat_le k (told_as r).number ≡ true → nat_le k (told_as q).number ≡ true
    → nat_le k (told_as (lesser r q)).number ≡ true
lesser_at_least k r q hr hq =
    elim (nat_le (told_as r).number (told_as q).number)
    as (λ b. nat_le k (told_as (cond b r q)).number ≡ true) [ true ↦ hr | false ↦ hq ]

at_least : (k : ℕ) (row : Row) (q : Refusal) → none_below k row ≡ true → refusal_of row ≡ Some q
    → nat_le k (told_as q).number ≡ true
at_least k [] q h is = absurd (cc)
at_least k (c ∷ row) q h is =
    let parts : (nat_le k (told_as c.0).number ≡ true) × (none_below k row ≡ true) =
    and_parts (nat_le k (told_as c.0).number) (none_below k row) h in
    elim c.1
    as (λ b. cond b (Some (lesser_of c.0 (refusal_of row))) (refusal_of row) ≡ Some q
    → nat_le k (told_as q).number ≡ true) [
      | true ↦ λ e. elim (refusal_of row)
          as (λ v. refusal_of row ≡ v → Some (lesser_of c.0 v) ≡ Some q → nat_le k (told_as q).number ≡ true) [
            | None ↦ λ no f.
                let same : c.0 ≡ q = cc in subst (λ (r : Refusal). nat_le k (told_as r).number ≡ true) same parts.0
            | Some p ↦ λ there f.
                let same : lesser c.0 p ≡ q = cc in
                subst (λ (r : Refusal). nat_le k (told_as r).number ≡ true) same
                (lesser_at_least k c.0 p parts.0 (at_least k row p parts.1 there))
          ] refl e
      | false ↦ λ e. at_least k row q parts.1 e
    ] is

least_first : (r : Refusal) (row : Row) → none_below (told_as r).number row ≡ true
    → lesser_of r (refusal_of row) ≡ r
least_first r row h =
    elim (refusal_of row) as (λ v. refusal_of row ≡ v → lesser_of r v ≡ r) [
      | None ↦ λ is. refl
      | Some q ↦ λ is. ap (λ b. cond b r q) (at_least (told_as r).number row q h is)
    ] refl

pub alike_refusal : (a b : Row) → AlikeRows a b → rises a ≡ true → rises b ≡ true → refusal_of b ≡ refusal_of a
alike_refusal [] [] h ra rb = refl
alike_refusal [] (d ∷ b) h ra rb = absurd h
alike_refusal (c ∷ a) [] h ra rb = absurd h
alike_refusal (c ∷ a) (d ∷ b) h ra rb =
    let pa : (none_below (told_as c.0).number a ≡ true) × (rises a ≡ true) = and_parts _ _ ra in
    let pb : (none_below (told_as d.0).number b ≡ true) × (rises b ≡ true) = and_parts _ _ rb in
    elim c.1
    as (λ v. c.1 ≡ v → cond d.1 (Some (lesser_of d.0 (refusal_of b))) (refusal_of b)
    ≡ cond v (Some (lesser_of c.0 (refusal_of a))) (refusal_of a)) [
      | true ↦ λ is.
          ap (λ v. cond v (Some (lesser_of d.0 (refusal_of b))) (refusal_of b)) (h.1 ∙ is)
          ∙ ap Some (least_first d.0 b pb.0 ∙ sym h.0 ∙ sym (least_first c.0 a pa.0))
      | false ↦ λ is.
          ap (λ v. cond v (Some (lesser_of d.0 (refusal_of b))) (refusal_of b)) (h.1 ∙ is)
          ∙ alike_refusal a b (h.2 is) pa.1 pb.1
    ] refl

-- rows of which each condition is the same
abbrev pub SameRows : Row → Row → Type 0
SameRows [] [] = Unit {0}
SameRows [] (d ∷ b) = ⊥
SameRows (c ∷ a) [] = ⊥
SameRows (c ∷ a) (d ∷ b) = (c.0 ≡ d.0) × (d.1 ≡ c.1) × SameRows a b

same_rows : (a b : Row) → SameRows a b → refusal_of b ≡ refusal_of a
same_rows [] [] h = refl
same_rows [] (d ∷ b) h = absurd h
same_rows (c ∷ a) [] h = absurd h
same_rows (c ∷ a) (d ∷ b) h =
    let rest : refusal_of b ≡ refusal_of a = same_rows a b h.2 in
    (λ i. cond (h.1 i) (Some (lesser_of (sym h.0 i) (rest i))) (rest i))

-- a front whose conditions are the same up to the first that holds, and if none holds rows that are the same
abbrev pub AlikeFront : Row → Row → Row → Row → Type 0
AlikeFront [] [] a b = SameRows a b
AlikeFront [] (d ∷ fb) a b = ⊥
AlikeFront (c ∷ fa) [] a b = ⊥
AlikeFront (c ∷ fa) (d ∷ fb) a b = (c.0 ≡ d.0) × (d.1 ≡ c.1) × (c.1 ≡ false → AlikeFront fa fb a b)

-- the numbers of the front rise or stay, and those of the row are none of them smaller
abbrev pub rises_over : Row → Row → Bool
rises_over [] a = true
rises_over (c ∷ fa) a = none_below (told_as c.0).number (fa ++ a) && rises_over fa a

pub front_refusal : (fa fb a b : Row) → AlikeFront fa fb a b → rises_over fa a ≡ true → rises_over fb b ≡ true
    → refusal_of (fb ++ b) ≡ refusal_of (fa ++ a)
front_refusal [] [] a b h ra rb = same_rows a b h
front_refusal [] (d ∷ fb) a b h ra rb = absurd h
front_refusal (c ∷ fa) [] a b h ra rb = absurd h
front_refusal (c ∷ fa) (d ∷ fb) a b h ra rb =
    let pa : (none_below (told_as c.0).number (fa ++ a) ≡ true) × (rises_over fa a ≡ true) = and_parts _ _ ra in
    let pb : (none_below (told_as d.0).number (fb ++ b) ≡ true) × (rises_over fb b ≡ true) = and_parts _ _ rb in
    elim c.1
    as (λ v. c.1 ≡ v → cond d.1 (Some (lesser_of d.0 (refusal_of (fb ++ b)))) (refusal_of (fb ++ b))
    ≡ cond v (Some (lesser_of c.0 (refusal_of (fa ++ a)))) (refusal_of (fa ++ a))) [
      | true ↦ λ is.
          ap (λ v. cond v (Some (lesser_of d.0 (refusal_of (fb ++ b)))) (refusal_of (fb ++ b))) (h.1 ∙ is)
          ∙ ap Some (least_first d.0 (fb ++ b) pb.0 ∙ sym h.0 ∙ sym (least_first c.0 (fa ++ a) pa.0))
      | false ↦ λ is.
          ap (λ v. cond v (Some (lesser_of d.0 (refusal_of (fb ++ b)))) (refusal_of (fb ++ b))) (h.1 ∙ is)
          ∙ front_refusal fa fb a b (h.2 is) pa.1 pb.1
    ] refl

-- conditions that change places
pub cons_same : (c : Refusal × Bool) (a b : Row) → refusal_of a ≡ refusal_of b
    → refusal_of (c ∷ a) ≡ refusal_of (c ∷ b)
cons_same c a b h = ap (λ v. cond c.1 (Some (lesser_of c.0 v)) v) h

pub swapped : (x y : Refusal) → lesser x y ≡ lesser y x → (p q : Bool) (rest : Row)
    → refusal_of ((x, p) ∷ (y, q) ∷ rest) ≡ refusal_of ((y, q) ∷ (x, p) ∷ rest)
swapped x y comm false q rest = refl
swapped x y comm true false rest = refl
swapped x y comm true true rest =
    elim (refusal_of rest)
    as (λ v. Some (lesser_of x (Some (lesser_of y v))) ≡ Some (lesser_of y (Some (lesser_of x v)))) [
      | None ↦ ap Some comm
      | Some r ↦
          sym (least_of-least_of (Some x) (Some y) (Some r)) ∙ ap (λ z. Some (lesser z r)) comm
          ∙ least_of-least_of (Some y) (Some x) (Some r)
    ]

-- a condition that moves before two others, and before three
pub moved_two : (x y z : Refusal) → lesser x z ≡ lesser z x → lesser y z ≡ lesser z y → (p q r : Bool) (rest : Row)
    → refusal_of ((x, p) ∷ (y, q) ∷ (z, r) ∷ rest) ≡ refusal_of ((z, r) ∷ (x, p) ∷ (y, q) ∷ rest)
moved_two x y z cx cy p q r rest =
    cons_same (x, p) ((y, q) ∷ (z, r) ∷ rest) ((z, r) ∷ (y, q) ∷ rest) (swapped y z cy q r rest)
    ∙ swapped x z cx p r ((y, q) ∷ rest)

pub moved_three : (w x y z : Refusal) → lesser w z ≡ lesser z w → lesser x z ≡ lesser z x → lesser y z ≡ lesser z y
    → (o p q r : Bool) (rest : Row)
    → refusal_of ((w, o) ∷ (x, p) ∷ (y, q) ∷ (z, r) ∷ rest) ≡ refusal_of ((z, r) ∷ (w, o) ∷ (x, p) ∷ (y, q) ∷ rest)
moved_three w x y z cw cx cy o p q r rest =
    cons_same (w, o) ((x, p) ∷ (y, q) ∷ (z, r) ∷ rest) ((z, r) ∷ (x, p) ∷ (y, q) ∷ rest)
    (moved_two x y z cx cy p q r rest)
    ∙ swapped w z cw o r ((x, p) ∷ (y, q) ∷ rest)

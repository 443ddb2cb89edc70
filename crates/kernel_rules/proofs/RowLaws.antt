-- What rows of conditions give.
use Rattle.std.proofs.Common.{◌≡◌, ◌≤◌, ◌<◌, ℕ, Bool, true, false, cond, nat_le, [], ◌∷◌}
use Rattle.std.proofs.Common.{◌++◌, Option, Some, None, refl, sym, ◌∙◌, ap, subst, arith}
use Rattle.std.proofs.Common.{◌+◌, drop, length, get_or}
use Rattle.std.proofs.lemmas.Bool.{leb-true, leb-false}
use Rattle.std.proofs.lemmas.List.{at_drop_more}
use Rattle.base.specs.declared.refusals.Refusal.{Refusal}
use Rattle.base.specs.Refusal.{told_as, lesser}
use Rattle.kernel_rules.specs.Rows.{Row, lesser_of, least_of, refusal_of}

-- the choice between three numbers does not hang on where it begins
choice : {X : Type 0} (n : X → ℕ) (a b c : X) →
    cond (nat_le (n (cond (nat_le (n a) (n b)) a b)) (n c)) (cond (nat_le (n a) (n b)) a b) c
    ≡ cond (nat_le (n a) (n (cond (nat_le (n b) (n c)) b c))) a (cond (nat_le (n b) (n c)) b c)
choice n a b c = elim (nat_le (n a) (n b)) as (λ v. nat_le (n a) (n b) ≡ v →
    cond (nat_le (n (cond v a b)) (n c)) (cond v a b) c
    ≡ cond (nat_le (n a) (n (cond (nat_le (n b) (n c)) b c))) a (cond (nat_le (n b) (n c)) b c)) [
      | true ↦ λ ab. elim (nat_le (n b) (n c)) as (λ v. nat_le (n b) (n c) ≡ v →
          cond (nat_le (n a) (n c)) a c ≡ cond (nat_le (n a) (n (cond v b c))) a (cond v b c)) [
            | true ↦ λ bc.
                let le : n a ≤ n c = omega (arith, leb-true (n a) (n b) ab, leb-true (n b) (n c) bc) in
                subst (λ v. cond (nat_le (n a) (n c)) a c ≡ cond v a b) (sym ab)
                (subst (λ v. cond v a c ≡ a) (sym (le_test (n a) (n c) le)) refl)
            | false ↦ λ bc. refl
          ] refl
      | false ↦ λ ab. elim (nat_le (n b) (n c)) as (λ v. nat_le (n b) (n c) ≡ v →
          cond v b c ≡ cond (nat_le (n a) (n (cond v b c))) a (cond v b c)) [
            | true ↦ λ bc. subst (λ v. b ≡ cond v a b) (sym ab) refl
            | false ↦ λ bc.
                let gt : n c < n a = omega (arith, leb-false (n a) (n b) ab, leb-false (n b) (n c) bc) in
                subst (λ v. c ≡ cond v a c) (sym (gt_test (n a) (n c) gt)) refl
          ] refl
    ] refl
  where
    le_test : (x y : ℕ) → x ≤ y → nat_le x y ≡ true
    le_test x y h = grind arith

    gt_test : (x y : ℕ) → y < x → nat_le x y ≡ false
    gt_test x y h = grind arith

lesser-lesser : (a b c : Refusal) → lesser (lesser a b) c ≡ lesser a (lesser b c)
lesser-lesser a b c = choice (λ r. (told_as r).number) a b c

-- the least of three refusals does not hang on where it begins
pub least_of-least_of : (a b c : Option Refusal) → least_of (least_of a b) c ≡ least_of a (least_of b c)
least_of-least_of None b c = refl
least_of-least_of (Some x) None c = refl
least_of-least_of (Some x) (Some y) None = refl
least_of-least_of (Some x) (Some y) (Some z) = ap Some (lesser-lesser x y z)

refusal_of-cons : (c : Refusal × Bool) (row : Row)
    → refusal_of (c ∷ row) ≡ least_of (cond c.1 (Some c.0) None) (refusal_of row)
refusal_of-cons c row =
    elim c.1 as (λ v. cond v (Some (lesser_of c.0 (refusal_of row))) (refusal_of row)
    ≡ least_of (cond v (Some c.0) None) (refusal_of row)) [
      | true ↦ refl
      | false ↦ refl
    ]

-- the refusal of two rows, one after the other
pub appended : (xs ys : Row) → refusal_of (xs ++ ys) ≡ least_of (refusal_of xs) (refusal_of ys)
appended [] ys = refl
appended (c ∷ xs) ys =
    refusal_of-cons c (xs ++ ys)
    ∙ ap (least_of (cond c.1 (Some c.0) None)) (appended xs ys)
    ∙ sym (least_of-least_of (cond c.1 (Some c.0) None) (refusal_of xs) (refusal_of ys))
    ∙ ap (λ r. least_of r (refusal_of ys)) (sym (refusal_of-cons c xs))

abbrev pub NoneHold : Row → Type 0
NoneHold [] = Unit {0}
NoneHold (c ∷ row) = (c.1 ≡ false) × NoneHold row

-- a row gives no refusal only where none of its conditions holds
pub none_hold : (row : Row) → refusal_of row ≡ None → NoneHold row
none_hold [] h = tt
none_hold (c ∷ row) h =
    elim c.1 as (λ v. cond v (Some (lesser_of c.0 (refusal_of row))) (refusal_of row) ≡ None → (v ≡ false)
    × NoneHold row) [
      | true ↦ λ e. absurd (cc)
      | false ↦ λ e. (refl, none_hold row e)
    ] h

-- a refusal and what is left of a row, one condition on
pub held_more : (a b : Option Refusal) (row : Row) (i : ℕ) (d : Refusal × Bool) → i < length row
    → (get_or row i d).1 ≡ true → least_of a (refusal_of (drop i row)) ≡ b
    → least_of (least_of a (Some (get_or row i d).0)) (refusal_of (drop (i + 1) row)) ≡ b
held_more a b row i d lt h so_far =
    least_of-least_of a (Some (get_or row i d).0) rest
    ∙ ap (λ (v : Bool). least_of a (cond v (Some (lesser_of (get_or row i d).0 rest)) rest)) (sym h)
    ∙ sym (at_drop_more (λ (r : Row). least_of a (refusal_of r)) row i d lt) ∙ so_far
  where
    rest : Option Refusal
    rest = refusal_of (drop (i + 1) row)

pub unheld_more : (a b : Option Refusal) (row : Row) (i : ℕ) (d : Refusal × Bool) → i < length row
    → (get_or row i d).1 ≡ false → least_of a (refusal_of (drop i row)) ≡ b
    → least_of a (refusal_of (drop (i + 1) row)) ≡ b
unheld_more a b row i d lt h so_far =
    ap (λ (v : Bool). least_of a (cond v (Some (lesser_of (get_or row i d).0 rest)) rest)) (sym h)
    ∙ sym (at_drop_more (λ (r : Row). least_of a (refusal_of r)) row i d lt) ∙ so_far
  where
    rest : Option Refusal
    rest = refusal_of (drop (i + 1) row)

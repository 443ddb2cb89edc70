-- What a worker had of what all had.
use Rattle.std.proofs.Common.{◌≡◌, ℕ, Bool, true, false, cond, List, [], ◌∷◌, ◌++◌, map, filter, refl, ap, ◌∙◌}
use Rattle.std.specs.Str.{bytes_eq}
use Rattle.std.proofs.lemmas.List.{append-nil, map-append}
use Rattle.std.proofs.lemmas.List.Elements.{filter-append}
use Rattle.script_rules.specs.Output.{own}

-- of two lists
own_both : {A : Type 0} (worker : List ℕ) (xs ys : List (List ℕ × A)) → own worker (xs ++ ys) ≡ own worker xs ++ own worker ys
own_both worker xs ys =
    ap (map (λ (t : List ℕ × _). t.1)) (filter-append (λ (t : List ℕ × _). bytes_eq t.0 worker) xs ys)
    ∙ map-append (λ (t : List ℕ × _). t.1) (filter (λ (t : List ℕ × _). bytes_eq t.0 worker) xs)
    (filter (λ (t : List ℕ × _). bytes_eq t.0 worker) ys)

own_all : {A : Type 0} (w worker : List ℕ) (ts : List A) → bytes_eq w worker ≡ true → own worker (map (λ (t : A). (w, t)) ts) ≡ ts
own_all w worker [] same = refl
own_all {A} w worker (t ∷ ts) same =
    ap (λ (b : Bool). map (λ (p : List ℕ × A). p.1) (cond b ((w, t) ∷ rest) rest)) same ∙ ap (λ (us : List A). t ∷ us) (own_all w worker ts same)
  where
    rest : List (List ℕ × A)
    rest = filter (λ (p : List ℕ × A). bytes_eq p.0 worker) (map (λ (u : A). (w, u)) ts)

own_none : {A : Type 0} (w worker : List ℕ) (ts : List A) → bytes_eq w worker ≡ false → own worker (map (λ (t : A). (w, t)) ts) ≡ []
own_none w worker [] other = refl
own_none {A} w worker (t ∷ ts) other =
    ap (λ (b : Bool). map (λ (p : List ℕ × A). p.1) (cond b ((w, t) ∷ rest) rest)) other ∙ own_none w worker ts other
  where
    rest : List (List ℕ × A)
    rest = filter (λ (p : List ℕ × A). bytes_eq p.0 worker) (map (λ (u : A). (w, u)) ts)

-- what a worker had, after a worker had more: it, or another one
pub own_more : {A : Type 0} (w worker : List ℕ) (xs : List (List ℕ × A)) (ts : List A) → bytes_eq w worker ≡ true
    → own worker (xs ++ map (λ (t : A). (w, t)) ts) ≡ own worker xs ++ ts
own_more w worker xs ts same =
    own_both worker xs (map (λ (t : _). (w, t)) ts) ∙ ap (λ (us : List _). own worker xs ++ us) (own_all w worker ts same)

pub own_same : {A : Type 0} (w worker : List ℕ) (xs : List (List ℕ × A)) (ts : List A) → bytes_eq w worker ≡ false
    → own worker (xs ++ map (λ (t : A). (w, t)) ts) ≡ own worker xs
own_same w worker xs ts other =
    own_both worker xs (map (λ (t : _). (w, t)) ts) ∙ ap (λ (us : List _). own worker xs ++ us) (own_none w worker ts other)
    ∙ append-nil (own worker xs)

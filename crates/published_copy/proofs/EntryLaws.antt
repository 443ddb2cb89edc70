-- What entries make and weigh.
use Rattle.std.proofs.Common.{◌≡◌, ◌+◌, ◌<◌, List, [], ◌∷◌, ◌++◌, Option, Some, None, refl, ap, sym, ◌∙◌, arith, append_assoc, zero-add}
use mathlib.Core.List.{IsPrefix}
use Rattle.std.proofs.lemmas.List.{append-nil}
use Rattle.kernel_rules.specs.Events.{Event}
use Rattle.published_copy.specs.declared.entries.Entry.{Entry}
use Rattle.published_copy.specs.declared.entries.Entry.TheVariants.{Tried, Made}
use Rattle.published_copy.specs.Entries.{made_after, last_after, made, tried, weight, weight_of}

pub made-append : (p : Option Event) (xs ys : List Entry) → made_after p (xs ++ ys) ≡ made_after p xs ++ made_after (last_after p xs) ys
made-append p [] ys = refl
made-append p (Tried e ∷ xs) ys = made-append (Some e) xs ys
made-append None (Made ∷ xs) ys = made-append None xs ys
made-append (Some x) (Made ∷ xs) ys = ap (λ l. x ∷ l) (made-append None xs ys)

-- what is tried makes nothing yet
pub made-tried : (log : List Entry) (e : Event) → made (log ++ tried e ∷ []) ≡ made log
made-tried log e = made-append None log (tried e ∷ []) ∙ append-nil (made log)

-- what was tried last is made
pub made-made : (log : List Entry) (e : Event) → made ((log ++ tried e ∷ []) ++ Made ∷ []) ≡ made log ++ e ∷ []
made-made log e = ap made (append_assoc log (tried e ∷ []) (Made ∷ [])) ∙ made-append None log (tried e ∷ Made ∷ [])

-- a beginning of a log makes a beginning of its events
pub made-prefix : (xs ys : List Entry) → IsPrefix xs ys → IsPrefix (made xs) (made ys)
made-prefix xs ys p = (made_after (last_after None xs) p.0, sym (made-append None xs p.0) ∙ ap made p.1)

pub weight-append : (xs ys : List Entry) → weight (xs ++ ys) ≡ weight xs + weight ys
weight-append [] ys = sym (zero-add (weight ys))
weight-append (x ∷ xs) ys = omega (arith, weight-append xs ys)

pub weighs-more : (x : Entry) → 0 < weight_of x
weighs-more (Tried e) = omega arith
weighs-more Made = omega arith

-- what weighs nothing is no entry
pub weightless : (xs : List Entry) → weight xs ≡ 0 → xs ≡ []
weightless [] is = refl
weightless (x ∷ xs) is = absurd (omega (arith, weighs-more x))

-- a beginning that weighs what the whole does is the whole
pub whole : (xs ys : List Entry) → IsPrefix xs ys → weight ys ≡ weight xs → xs ≡ ys
whole xs ys p is =
    let sum : weight xs + weight p.0 ≡ weight ys = sym (weight-append xs p.0) ∙ ap weight p.1 in
    let none : p.0 ≡ [] = weightless p.0 (omega arith) in
    sym (append-nil xs) ∙ (ap (λ l. xs ++ l) (sym none) ∙ p.1)

-- entries that weigh 1 are one that makes
pub one-made : (xs : List Entry) → weight xs ≡ 1 → xs ≡ Made ∷ []
one-made [] is = absurd (omega arith)
one-made (Tried e ∷ xs) is = absurd (omega arith)
one-made (Made ∷ xs) is = ap (λ l. Made ∷ l) (weightless xs (omega arith))

-- a log that weighs 1 more than its beginning has one entry more, which makes
pub settled : (xs ys : List Entry) → IsPrefix xs ys → weight ys ≡ weight xs + 1 → ys ≡ xs ++ Made ∷ []
settled xs ys p is =
    let sum : weight xs + weight p.0 ≡ weight ys = sym (weight-append xs p.0) ∙ ap weight p.1 in
    sym p.1 ∙ ap (λ l. xs ++ l) (one-made p.0 (omega arith))

-- What was read into a list, once it is known whether something was.
use Rattle.std.proofs.Common.{◌≡◌, ℕ, List, [], ◌++◌, Option, Some, None, ap, ◌∙◌, subst}
use Rattle.text_words.specs.declared.spoken_calls.args.Arg.{Arg}
use Rattle.text_words.specs.declared.spoken_calls.verbs.Verb.{Verb}
use Rattle.text_words.specs.Spoken.{IsSpoken, spoken_text, call_with, ReadsInto}

pub into_is : {H V : Type 0} (whole : H → List Arg → V) (spelling : V → List ℕ) (Fits : V → Type 0) (text : List ℕ) (old new : List Arg) (r : Option H) (h : H) → r ≡ Some h → ReadsInto whole spelling Fits text old new r
    → ReadsInto whole spelling Fits text old new (Some h)
into_is whole spelling Fits text old new r h e is = subst (λ x. ReadsInto whole spelling Fits text old new x) e is

pub into_not : {H V : Type 0} (whole : H → List Arg → V) (spelling : V → List ℕ) (Fits : V → Type 0) (text : List ℕ) (old new : List Arg) (r : Option H) → r ≡ None → ReadsInto whole spelling Fits text old new r
    → ReadsInto whole spelling Fits text old new None
into_not whole spelling Fits text old new r e is = subst (λ x. ReadsInto whole spelling Fits text old new x) e is

-- a call that was read into an empty list
pub reads_one : (text : List ℕ) (old new : List Arg) (r : Option Verb) (verb : Verb) → r ≡ Some verb → old ≡ [] → ReadsInto call_with spoken_text IsSpoken text old new r
    → IsSpoken (call_with verb new) × (text ≡ spoken_text (call_with verb new))
reads_one text old new r verb e none is =
    let one = into_is call_with spoken_text IsSpoken text old new r verb e is in
    let same : new ≡ one.0 = one.1 ∙ ap (λ (xs : List Arg). xs ++ one.0) none in
    (rw same one.2, rw same one.3)

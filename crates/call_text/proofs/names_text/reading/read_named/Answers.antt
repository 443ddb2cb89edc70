use Rattle.std.proofs.Common.{◌≡◌, true, ◌∷◌, List, ℕ, subst, ◌∙◌, sym}
use Rattle.text_words.specs.Lacks.{lacks}
use Rattle.text_words.proofs.PartLemmas.{not_in}
use Rattle.call_text.specs.RunNames.{made_text}
use Rattle.call_text.proofs.NameLines.{named_parts}
use Rattle.call_text.proofs.names_text.reading.read_named.Goals as goal

pub returns-in_default : goal.returns-in_default
returns-in_default c = λ v is e. not_in 32 v.name (61 ∷ 32 ∷ made_text v.value) (subst (λ (x : List ℕ). lacks 32 x ≡ true) e c.in_default.ensures.none)

pub returns-in_default-after_equals : goal.returns-in_default-after_equals
returns-in_default-after_equals c = λ v is e.
    let p = named_parts c.args.text.now c.in-Some.first.now c.in-Some.after.now v c.in-Some.ensures.parts c.in-Some.ensures.first is e in
    c.in_default-after_equals.ensures.none (made_text v.value) p.1

pub returns-in_default-read_name : goal.returns-in_default-read_name
returns-in_default-read_name c = λ v is e.
    let p = named_parts c.args.text.now c.in-Some.first.now c.in-Some.after.now v c.in-Some.ensures.parts c.in-Some.ensures.first is e in
    c.in_default-read_name.ensures v.name is.0 p.0

pub returns-in_default-read_made : goal.returns-in_default-read_made
returns-in_default-read_made c = λ v is e.
    let p = named_parts c.args.text.now c.in-Some.first.now c.in-Some.after.now v c.in-Some.ensures.parts c.in-Some.ensures.first is e in
    let made : c.in-Some-after_equals.made.now ≡ made_text v.value = (let k = sym c.in-Some-after_equals.ensures.some ∙ p.1 in cc) in
    c.in_default-read_made.ensures v.value is.1 made

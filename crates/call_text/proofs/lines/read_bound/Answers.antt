use Rattle.std.proofs.Common.{◌≡◌, true, ◌∷◌, List, ℕ, length, take, take_at, subst, ◌∙◌, sym, ap, refl}
use Rattle.text_words.specs.Lacks.{lacks}
use Rattle.text_words.proofs.IntoLemmas.{into_is, into_not}
use Rattle.text_words.specs.declared.spoken_calls.args.Arg.{Arg}
use Rattle.text_words.specs.Verb.{makes}
use Rattle.call_text.specs.Line.{Saying, said_with, said_text, IsSaid}
use Rattle.text_words.proofs.PartLemmas.{not_in}
use Rattle.call_text.proofs.LineLemmas.{bound_first, bound_parts, said_is_one, makes_not}
use Rattle.call_text.proofs.lines.read_bound.Goals as goal

pub returns-in_default : goal.returns-in_default
returns-in_default c = (refl, λ v is e. not_in 32 v.0 (61 ∷ 32 ∷ said_text v.1) (subst (λ (x : List ℕ). lacks 32 x ≡ true) (bound_first c.args.text.now v e) c.in_default.ensures.none))

pub returns-in_default-after_equals : goal.returns-in_default-after_equals
returns-in_default-after_equals c = (
  refl,
  λ v is e.
      let p = bound_parts c.args.text.now c.in-Some.name.now c.in-Some.after.now v c.in-Some.ensures.parts c.in-Some.ensures.first is e in
      c.in_default-after_equals.ensures.none (said_text v.1) p.1,
)

pub returns-in_default-read_name : goal.returns-in_default-read_name
returns-in_default-read_name c = (
  refl,
  λ v is e.
      let p = bound_parts c.args.text.now c.in-Some.name.now c.in-Some.after.now v c.in-Some.ensures.parts c.in-Some.ensures.first is e in
      c.in_default-read_name.ensures v.0 is.0 p.0,
)

pub returns-in_default-2 : goal.returns-in_default-2
returns-in_default-2 c =
    let not = into_not said_with said_text IsSaid c.in-Some-after_equals.said.now c.args.args.now.items c.read_said.new.args.items c.in_ok-said.field-0 c.in_default-2.is c.in_ok-said.ensures in (
      not.0,
      λ v is e.
          let p = bound_parts c.args.text.now c.in-Some.name.now c.in-Some.after.now v c.in-Some.ensures.parts c.in-Some.ensures.first is e in
          let said : c.in-Some-after_equals.said.now ≡ said_text v.1 = (let k = sym c.in-Some-after_equals.ensures.some ∙ p.1 in cc) in
          not.1 v.1 is.1 said,
    )

pub returns-then-not-makes : goal.returns-then-not-makes
returns-then-not-makes c =
    let found = into_is said_with said_text IsSaid c.in-Some-after_equals.said.now c.args.args.now.items c.read_said.new.args.items c.in_ok-said.field-0 c.in-Some-2.said c.in-Some-2.is c.in_ok-said.ensures in
    let told = said_with c.in-Some-2.said found.0 in (
      c.truncate.ensures.items ∙ ap (λ (xs : List Arg). take (length xs) c.read_said.new.args.items) c.as_slice-before.ensures.value ∙ ap (take (length c.args.args.now.items)) found.1
          ∙ take_at c.args.args.now.items found.0 (length c.args.args.now.items) refl,
      λ v is e.
          let p = bound_parts c.args.text.now c.in-Some.name.now c.in-Some.after.now v c.in-Some.ensures.parts c.in-Some.ensures.first is e in
          let said : c.in-Some-after_equals.said.now ≡ said_text v.1 = (let k = sym c.in-Some-after_equals.ensures.some ∙ p.1 in cc) in
          let same = said_is_one told v.1 found.2 is.1 (sym found.3 ∙ said) in
          let verb : makes c.in-Some-2.said.2 ≡ makes v.1.2.verb = ap (λ (x : Saying). makes x.2.verb) same in
          makes_not c.makes.result (makes c.in-Some-2.said.2) (makes v.1.2.verb) c.if-not-makes.true c.makes.ensures verb is.2,
    )

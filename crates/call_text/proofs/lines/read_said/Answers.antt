use Rattle.std.proofs.Common.{◌≡◌, true, ◌++◌, List, ℕ, length, take, take_at, subst, ◌∙◌, sym, ap, refl}
use Rattle.text_words.specs.Lacks.{lacks}
use Rattle.text_words.specs.declared.spoken_calls.args.Arg.{Arg}
use Rattle.text_words.specs.Spoken.{Spoken, spoken_text, IsSpoken, call_with}
use Rattle.text_words.proofs.IntoLemmas.{into_is, into_not}
use Rattle.text_words.proofs.SpokenLemmas.{spoken_is_one}
use Rattle.text_words.proofs.PartLemmas.{not_in}
use Rattle.call_text.specs.Line.{mark, may_go_on}
use Rattle.call_text.proofs.LineLemmas.{said_parts, mark_same, makes_not}
use Rattle.call_text.proofs.lines.read_said.Goals as goal

pub returns-in_default : goal.returns-in_default
returns-in_default c = (refl, λ v is e. not_in 32 (v.0 ++ mark v.1) (spoken_text v.2) (subst (λ (x : List ℕ). lacks 32 x ≡ true) e c.in_default.ensures.none))

pub returns-in_default-before_mark : goal.returns-in_default-before_mark
returns-in_default-before_mark c = (
  refl,
  λ v is e.
      let p = said_parts c.args.text.now c.in-Some.first.now c.in-Some.words.now v c.in-Some.ensures.parts c.in-Some.ensures.first is e in
      c.in_default-before_mark.ensures.none v.0 v.1 p.0,
)

pub returns-in_default-read_name : goal.returns-in_default-read_name
returns-in_default-read_name c = (
  refl,
  λ v is e.
      let p = said_parts c.args.text.now c.in-Some.first.now c.in-Some.words.now v c.in-Some.ensures.parts c.in-Some.ensures.first is e in
      c.in_default-read_name.ensures v.0 is.0 (mark_same _ v.0 _ v.1 (sym c.in-Some-before_mark.ensures.some ∙ p.0)).0,
)

pub returns-in_default-2 : goal.returns-in_default-2
returns-in_default-2 c =
    let not = into_not call_with spoken_text IsSpoken c.in-Some.words.now c.args.args.now.items c.read_spoken.new.args.items c.in_ok-verb.field-0 c.in_default-2.is c.in_ok-verb.ensures in (
      not.0,
      λ v is e.
          let p = said_parts c.args.text.now c.in-Some.first.now c.in-Some.words.now v c.in-Some.ensures.parts c.in-Some.ensures.first is e in
          not.1 v.2 is.1 p.1,
    )

pub returns-then-not-may_go_on : goal.returns-then-not-may_go_on
returns-then-not-may_go_on c =
    let found = into_is call_with spoken_text IsSpoken c.in-Some.words.now c.args.args.now.items c.read_spoken.new.args.items c.in_ok-verb.field-0 c.in-Some-2.verb c.in-Some-2.is c.in_ok-verb.ensures in (
      c.truncate.ensures.items ∙ ap (λ (xs : List Arg). take (length xs) c.read_spoken.new.args.items) c.as_slice-before.ensures.value ∙ ap (take (length c.args.args.now.items)) found.1
          ∙ take_at c.args.args.now.items found.0 (length c.args.args.now.items) refl,
      λ v is e.
          let p = said_parts c.args.text.now c.in-Some.first.now c.in-Some.words.now v c.in-Some.ensures.parts c.in-Some.ensures.first is e in
          let head = mark_same c.in-Some-before_mark.worker.now v.0 c.in-Some-before_mark.more v.1 (sym c.in-Some-before_mark.ensures.some ∙ p.0) in
          let call = spoken_is_one (call_with c.in-Some-2.verb found.0) v.2 found.2 is.1 (sym found.3 ∙ p.1) in
          let same : may_go_on c.in-Some-before_mark.more c.in-Some-2.verb ≡ may_go_on v.1 v.2.verb = (λ i. may_go_on (head.1 i) (call i).verb) in
          makes_not c.may_go_on.result (may_go_on c.in-Some-before_mark.more c.in-Some-2.verb) (may_go_on v.1 v.2.verb) c.if-not-may_go_on.true c.may_go_on.ensures same is.2,
    )

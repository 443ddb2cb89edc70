use Rattle.std.proofs.Common.{◌++◌, ◌∷◌, List, ℕ, ◌∙◌, ap, sym, decimal}
use Rattle.std.proofs.lemmas.Bool.{false≢true}
use Rattle.text_words.proofs.WordLemmas.{not_so}
use Rattle.base.specs.Refusal.{told_as}
use Rattle.dump_text.proofs.ReportLemmas.{refusal_first, refusal_none}
use Rattle.dump_text.proofs.reports.is_refusal.Goals as goal

pub returns-in_default : goal.returns-in_default
returns-in_default c = ((λ t. absurd (false≢true t)), (λ e. absurd (refusal_none c.args.text.now c.args.refusal c.in_default.ensures.none e)))

pub returns-then-not-is_number : goal.returns-then-not-is_number
returns-then-not-is_number c = (
  (λ t. absurd (false≢true t)),
  (λ e.
      let p = refusal_first c.args.text.now c.in-Some.number.now c.in-Some.name.now c.args.refusal c.in-Some.ensures.parts c.in-Some.ensures.first e in
      absurd (not_so c.is_number.result c.if-not-is_number.true (c.is_number.ensures.1 (p.0 ∙ ap decimal (sym (c.from.ensures ∙ c.number.ensures)))))),
)

pub returns : goal.returns
returns c = (
  (λ t.
      let number = c.is_number.ensures.0 c.if-not-is_number.false ∙ ap decimal (c.from.ensures ∙ c.number.ensures) in
      let name = c.is_same.ensures.0 t ∙ c.as_bytes.ensures.value ∙ c.name.ensures in
      c.in-Some.ensures.parts ∙ ap (λ (x : List ℕ). x ++ 32 ∷ c.in-Some.name.now) number ∙ ap (λ (x : List ℕ). decimal (told_as c.args.refusal).number ++ 32 ∷ x) name),
  (λ e.
      let p = refusal_first c.args.text.now c.in-Some.number.now c.in-Some.name.now c.args.refusal c.in-Some.ensures.parts c.in-Some.ensures.first e in
      c.is_same.ensures.1 (p.1 ∙ sym (c.as_bytes.ensures.value ∙ c.name.ensures))),
)

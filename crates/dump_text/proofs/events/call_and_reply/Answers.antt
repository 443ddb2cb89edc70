use Rattle.std.proofs.Common.{◌≡◌, true, List, ℕ, subst, ◌∷◌, []}
use Rattle.text_words.specs.Lacks.{lacks}
use Rattle.dump_text.proofs.EventLemmas.{lacks_front, no_answer, answer_first}
use Rattle.dump_text.proofs.events.call_and_reply.Goals as goal

pub returns-in_default-clause-none : goal.returns-in_default-clause-none
returns-in_default-clause-none c = λ call reply l e. no_answer c.args.text.now call reply c.in_default.ensures.none e

pub returns-in_default-before_space-clause-none : goal.returns-in_default-before_space-clause-none
returns-in_default-before_space-clause-none c = λ call reply l e.
    let p = answer_first c.args.text.now c.in-Some.before.now c.in-Some.behind.now call reply c.in-Some.ensures.parts c.in-Some.ensures.first l e in
    c.in_default-before_space.ensures.none call p.0

pub returns-in_default-after-clause-none : goal.returns-in_default-after-clause-none
returns-in_default-after-clause-none c = λ call reply l e.
    let p = answer_first c.args.text.now c.in-Some.before.now c.in-Some.behind.now call reply c.in-Some.ensures.parts c.in-Some.ensures.first l e in
    c.in_default-after.ensures.none reply p.1

pub returns-clause-lacks : goal.returns-clause-lacks
returns-clause-lacks c = lacks_front 61 c.in-Some-before_space.call.now (32 ∷ []) (subst (λ (x : List ℕ). lacks 61 x ≡ true) c.in-Some-before_space.ensures.some c.in-Some.ensures.first)

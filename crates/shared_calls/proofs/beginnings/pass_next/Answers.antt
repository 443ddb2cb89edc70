use Rattle.std.proofs.Common.{◌≡◌, ◌++◌, ◌∷◌, [], List, length, ap, sym, ◌∙◌, arith, length-append}
use Rattle.shared_calls.specs.Lists.{made}
use Rattle.shared_calls.specs.declared.rules.Made.{Made}
use Rattle.shared_calls.proofs.BeginningLaws.{prefix_equal}
use Rattle.shared_calls.proofs.beginnings.pass_next.Goals as goal

pub returns-then-not-reach-clause-begins : goal.returns-then-not-reach-clause-begins
returns-then-not-reach-clause-begins c = prefix_equal c.args.cursor.now.seen.log c.reach.new.cursor.seen.log (ap (λ s. s.log) c.reach.ensures.seen)

pub returns-in_default-clause-begins : goal.returns-in_default-clause-begins
returns-in_default-clause-begins c = prefix_equal c.args.cursor.now.seen.log c.reach.new.cursor.seen.log (ap (λ s. s.log) c.reach.ensures.seen)

pub returns : goal.returns
returns c =
    let was = c.args.cursor.now in
    let next = c.in-Some.next.now in
    let told = c.in-Some.ensures.log in
    let cursor = c.step.new.self in
    let m : Made = made told.0 next.thread (next.call ∷ next.more.items) in
    let log : cursor.seen.log ≡ was.seen.log ++ m ∷ [] =
    ap (λ s. s.log) c.step.ensures.seen ∙ (ap (λ s. s.log) c.again-seen.ensures
    ∙ (told.1 ∙ ap (λ (l : List Made). l ++ m ∷ []) (ap (λ s. s.log) c.reach.ensures.seen))) in
    record {
      placed = c.step.ensures.placed;
      list = ap (λ s. s.book) c.step.ensures.seen
          ∙ (ap (λ s. s.book) c.again-seen.ensures ∙ (c.in-Some.ensures.list ∙ ap (λ s. s.book) c.reach.ensures.seen));
      begins = (m ∷ [], sym log);
      count = λ _. omega (arith, c.step.ensures.placed.count, c.requires.placed.count, ap length log, length-append was.seen.log (m ∷ []));
    }

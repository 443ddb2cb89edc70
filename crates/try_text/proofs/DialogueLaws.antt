-- One line more of a dialogue.
use Rattle.std.proofs.Common.{◌≡◌, ℕ, Bool, true, false, if◌then◌else◌, List, [], ◌∷◌, ◌++◌, Option, Some, None, Result, Ok, Err, refl, sym, ap, ◌∙◌}
use Rattle.kernel_rules.specs.State.{State}
use Rattle.kernel_rules.specs.declared.replies.Reply.{Reply}
use Rattle.call_text.specs.declared.known_names.Named.{Named}
use Rattle.call_text.specs.declared.known_names.Value.{Value}
use Rattle.call_text.specs.declared.phases.Line.{Line}
use Rattle.base.specs.declared.ranges.Limits.{Limits}
use Rattle.try_text.specs.Dialogues.{Talk, standing, talk, with_line}
use Rattle.try_text.specs.Standing.{after_all, after_asking, after_kept, after_line, after_question, first_line}
use Rattle.try_text.specs.Standing.{made_by, question, reply_to, start, state_after, with_name}
use Rattle.try_text.specs.Stands.{Stands}
use Rattle.try_text.specs.Takes.{binds_of, checked, if_asked, if_made, kept_as, rebound, unless_rebound}
use Rattle.try_text.specs.declared.tried_lines.answers.LineAnswer.{LineAnswer}
use Rattle.try_text.specs.declared.tried_lines.answers.LineAnswer.TheVariants as is
use Rattle.try_text.specs.declared.tried_lines.kept.TriedLine.{TriedLine}
use Rattle.try_text.specs.declared.tried_lines.questions.Question.{Question}

pub after_all-snoc : (s : Stands) (ks : List TriedLine) (k : TriedLine)
    → after_all s (ks ++ k ∷ []) ≡ after_kept (after_all s ks) k
after_all-snoc s [] k = refl
after_all-snoc s (x ∷ ks) k = after_all-snoc (after_kept s x) ks k

-- a name that is bound where something was made is bound as one that is always tried
pub named_if_made : (names : List Named) (b : Option (List ℕ)) (v : Option Value)
    → with_name names (if_made b v) v ≡ with_name names b v
named_if_made names None None = refl
named_if_made names None (Some v) = refl
named_if_made names (Some n) None = refl
named_if_made names (Some n) (Some v) = refl

-- what is asked is what a line asks
live_one : (live : Bool) (worker : List ℕ) (p q : Question)
    → (if live then Ok p else Err (is.NoThread worker)) ≡ Ok q → p ≡ q
live_one true worker p q h = cc h
live_one false worker p q h = absurd (cc h)

asked_one : (s : State) (worker : List ℕ) (asked : Result Question (List ℕ)) (q : Question)
    → if_asked s worker asked ≡ Ok q → asked ≡ Ok q
asked_one s worker (Ok p) q h = ap (λ (z : Question). Ok z) (live_one _ worker p q h)
asked_one s worker (Err name) q h = absurd (cc h)

line_asks : (name : Option (List ℕ)) (s : Stands) (l : Line) (q : Question)
    → unless_rebound name s l ≡ Ok q → question s.names l ≡ Ok q
line_asks (Some name) s l q h = absurd (cc h)
line_asks None s l q h = asked_one s.state l.worker (question s.names l) q h

pub checked_asks : (s : Stands) (l : Option Line) (q : Question) (binds : Option (List ℕ)) → checked s l ≡ Ok q
    → after_line s binds l ≡ after_question s binds q
checked_asks s None q binds h = absurd (cc h)
checked_asks s (Some l) q binds h = ap (after_asking s binds) (line_asks (rebound l.binds s.names) s l q h)

-- where it stands after one line more
pub taken_stands : (d : Talk) (script : List (List Line)) (q : Question) (reply : Reply)
    → checked (standing d) (first_line script) ≡ Ok q → reply ≡ reply_to (standing d).state q
    → after_question (standing d) (binds_of (first_line script)) q ≡ standing (with_line d (kept_as script reply))
taken_stands d script q reply asks is =
    sym (after_all-snoc (start d.limits) d.lines (kept_as script reply)
    ∙ checked_asks s (first_line script) q (if_made binds (made_by reply)) asks
    ∙ ap (λ r. after_question s (if_made binds (made_by r)) q) is
    ∙ ap (λ names. record { state = state_after s.state q; names = names }) (named_if_made s.names binds made))
  where
    s : Stands
    s = standing d

    binds : Option (List ℕ)
    binds = binds_of (first_line script)

    made : Option Value
    made = made_by (reply_to s.state q)

-- the same where it stood so, and the line was asked and kept
pub taken_more : (limits : Limits) (lines items after : List TriedLine) (script : List (List Line)) (q : Question)
    (reply : Reply) (b made : Option (List ℕ)) (old new : Stands)
    → old ≡ standing (talk limits lines) → Ok q ≡ checked old (first_line script) → reply ≡ reply_to old.state q
    → new ≡ after_question old b q → b ≡ binds_of (first_line script) → made ≡ if_made b (made_by reply)
    → items ≡ lines → after ≡ items ++ record { binds = made; script = script } ∷ []
    → new ≡ standing (talk limits after)
taken_more limits lines items after script q reply b made old new stood asks replied stands bound was kept more =
    stands
    ∙ ap (λ s. after_question s b q) stood
    ∙ ap (λ n. after_question (standing d) n q) bound
    ∙ taken_stands d script q reply (ap (λ s. checked s (first_line script)) (sym stood) ∙ sym asks)
    (replied ∙ ap (λ s. reply_to s.state q) stood)
    ∙ ap (λ l. standing (talk limits l)) (sym (more ∙ ap (λ l. l ++ record { binds = made; script = script } ∷ []) kept
    ∙ ap (λ m. lines ++ record { binds = m; script = script } ∷ []) (was ∙ ap (λ n. if_made n (made_by reply)) bound)))
  where
    d : Talk
    d = talk limits lines

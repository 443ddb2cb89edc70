-- The reply of a write call is found the same as itself.
use Rattle.std.proofs.Common.{◌≡◌, ℕ, true, [], refl}
use Rattle.std.proofs.lemmas.Bool.{and_from, eq-eqb}
use Rattle.std.proofs.lemmas.Slice.Eq.{bytes_eq-Decides}
use Rattle.base.specs.Refusal.{told_as}
use Rattle.kernel_rules.specs.State.{State}
use Rattle.call_text.specs.Reply.{reply_text}
use Rattle.call_text.specs.declared.asking.Asked.{Asked}
use Rattle.call_text.specs.declared.asking.Asked.TheVariants.{Read, Write}
use Rattle.kernel_rules.specs.Step.{answer, query_answer}
use Rattle.kernel_rules.specs.Table.{refused}
use Rattle.kernel_rules.specs.declared.calls.Call.{Call}
use Rattle.kernel_rules.specs.declared.replies.Reply.{Reply}
use Rattle.kernel_rules.specs.declared.replies.Reply.TheVariants as reply
use Rattle.kept_events.specs.Replies.{is_of_call}
use Rattle.kept_events.proofs.AnswerLemmas.{answer_kept}
use Rattle.hidden_replies.specs.Asked.{reply_to, same_by}
use Rattle.hidden_replies.specs.Replies.{same_reply}

by_itself : (r : Reply) → is_of_call r ≡ true → same_reply r r ≡ true
by_itself reply.Done h = refl
by_itself (reply.Category c) h = eq-eqb c.0 c.0 refl
by_itself (reply.Object o) h = eq-eqb o o refl
by_itself (reply.Entered e c) h = and_from _ _ (eq-eqb e e refl) (eq-eqb c c refl)
by_itself (reply.Bytes x) h = (bytes_eq-Decides x x).1 refl
by_itself (reply.Refused f) h = eq-eqb (told_as f).number (told_as f).number refl
by_itself (reply.Own l c v s e k) h = absurd (cc)
by_itself (reply.Label l) h = absurd (cc)
by_itself (reply.Quota q u f i) h = absurd (cc)
by_itself (reply.Listed c ids) h = absurd (cc)
by_itself (reply.Parent o) h = absurd (cc)
by_itself (reply.Pages p) h = absurd (cc)
by_itself (reply.Mapping m) h = absurd (cc)

call_itself : (s : State) (t : ℕ) (c : Call) → same_reply (answer s t c) (answer s t c) ≡ true
unfolding answer
call_itself s t c = by_itself (answer s t c) (answer_kept (refused s t c) s t c)

-- and so is that of what is asked
pub same_itself : (s : State) (t : ℕ) (a : Asked) → same_by a (reply_to s t a) (reply_to s t a) ≡ true
same_itself s t (Write c) = call_itself s t c
same_itself s t (Read q) =
    (bytes_eq-Decides (reply_text [] (query_answer s t q)) (reply_text [] (query_answer s t q))).1 refl

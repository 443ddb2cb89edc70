-- The event of a batch, in the journal that it is added to.
use Rattle.std.proofs.Common.{◌≡◌, ℕ, ◌+◌, ◌≤◌, arith, true, ◌==◌, if◌then◌else◌, length, map, List, [], ◌∷◌, ◌++◌, sym, ap, ◌∙◌, refl}
use Rattle.std.proofs.lemmas.List.{length-map}
use Rattle.base.specs.declared.ranges.Limits.{Limits}
use Rattle.kernel_rules.specs.State.{State}
use Rattle.kernel_rules.specs.Runs.{state_after, replies_to}
use Rattle.kernel_rules.specs.declared.calls.Call.{Call}
use Rattle.kernel_rules.specs.declared.replies.Reply.{Reply}
use Rattle.kernel_rules.specs.Events.{Event, answers, by, replies_in}
use Rattle.kernel_rules.specs.History.{answered, count, is_batch, state_of, IsLegal}
use Rattle.kernel_rules.proofs.BatchLaws.{answered_calls, answered_replies, answered_length, answered_answers}
use Rattle.kernel_rules.proofs.HistoryLaws.{answered_follows, legal-snoc, state_of-snoc}
use Rattle.published_copy.specs.Shares.{EndsWithReplies}
use Rattle.published_copy.specs.Tallies.{tallied, IsTallied}
use Rattle.published_copy.specs.Turns.{Turn, event_at, with_event}
use Rattle.published_copy.specs.declared.tallies.Tally.{Tally}
use Rattle.published_copy.proofs.Prefixes.{last_same}
use Rattle.published_copy.proofs.TallyLaws.{tallied-more}

-- the state after it is that after its calls
pub state_with : (limits : Limits) (old : List Event) (pass : Turn) (calls : List Call)
    → state_of limits (with_event limits old pass calls) ≡ state_after (state_of limits old) (by pass.thread calls)
state_with limits old pass calls =
    state_of-snoc limits old (event_at (state_of limits old) pass calls)
    ∙ ap (λ cs. state_after (state_of limits old) (by pass.thread cs)) (answered_calls (state_of limits old) pass.thread calls)

pub legal_with : (limits : Limits) (old : List Event) (pass : Turn) (calls : List Call) → IsLegal limits old
    → is_batch calls ≡ true → pass.number ≡ count pass.thread old + 1 → IsLegal limits (with_event limits old pass calls)
legal_with limits old pass calls legal size number =
    legal-snoc limits old (event_at (state_of limits old) pass calls) legal
    (answered_follows limits old pass.thread pass.number calls size number)

pub tallied_with : (before after : List Tally) (limits : Limits) (old : List Event) (pass : Turn) (calls : List Call)
    → IsTallied before old
    → ((other : ℕ) → tallied other after ≡ (if pass.thread == other then pass.number else tallied other before))
    → pass.number ≡ count pass.thread old + 1 → IsTallied after (with_event limits old pass calls)
tallied_with before after limits old pass calls right given number =
    tallied-more before after old (event_at (state_of limits old) pass calls) right given number

-- calls with the replies of their run are what they are answered
pub paired : (s : State) (t : ℕ) (calls kept : List Call) (replies : List Reply) → kept ≡ calls
    → replies ≡ replies_to s (by t calls) → answers kept replies ≡ answered s t calls
paired s t calls kept replies k r = (λ i. answers (k i) (r i)) ∙ answered_answers s t calls

pub event_same : (s : State) (pass : Turn) (calls : List Call) (e : Event) → e.thread ≡ pass.thread
    → e.number ≡ pass.number → e.calls ≡ answered s pass.thread calls → e ≡ event_at s pass calls
event_same s pass calls e t n c = λ i. record { thread = t i; number = n i; calls = c i }

-- the replies of the last event are those of its calls
pub told_last : (limits : Limits) (list journal : List Event) (pass : Turn) (calls : List Call) (replies : List Reply)
    → EndsWithReplies journal replies → journal ≡ with_event limits list pass calls
    → replies ≡ replies_to (state_of limits list) (by pass.thread calls)
told_last limits list journal pass calls replies last is =
    sym last.replies_are
    ∙ ap replies_in (last_same last.before list last.event (event_at (state_of limits list) pass calls) (sym last.list_is ∙ is))
    ∙ answered_replies (state_of limits list) pass.thread calls

-- there is a reply for each call
pub replies_length : (s : State) (t : ℕ) (calls : List Call) → length (replies_to s (by t calls)) ≡ length calls
replies_length s t calls =
    ap length (sym (answered_replies s t calls)) ∙ length-map (answered s t calls) (λ a. a.reply) ∙ answered_length s t calls

-- the last event of a journal that ends with that of a batch
pub last_told : (limits : Limits) (old journal before : List Event) (e : Event) (pass : Turn) (calls : List Call)
    → journal ≡ with_event limits old pass calls → journal ≡ before ++ e ∷ []
    → replies_in e ≡ replies_to (state_of limits old) (by pass.thread calls)
last_told limits old journal before e pass calls grown ends =
    told_last limits old journal pass calls (replies_in e)
    (record { before = before; event = e; list_is = ends; replies_are = refl }) grown

pub last_room : (limits : Limits) (old journal before : List Event) (e : Event) (pass : Turn) (calls : List Call) (room : ℕ)
    → journal ≡ with_event limits old pass calls → journal ≡ before ++ e ∷ [] → length calls ≤ room
    → length (replies_in e) ≤ room
last_room limits old journal before e pass calls room grown ends fits =
    let same = ap length (last_told limits old journal before e pass calls grown ends) ∙ replies_length (state_of limits old) pass.thread calls in
    omega (arith, same, fits)

-- What workers that share phases are told, as the code makes it.
use mathlib.Core.List.{IsPrefix}
use Rattle.std.proofs.Common.{◌≡◌, ℕ, zero, suc, ◌+◌, ◌<◌, ◌≤◌, ◌≢◌, ◌==◌, ◌⊎◌, inl, inr, eqb, true≢false, OnOk, ◌||◌, ◌&&◌, nat_le, if◌then◌else◌, arith, Bool, true, false, MatchBool, cond, List, [], ◌∷◌, ◌++◌, map, flat_map, drop, take, length, not, nat_lt, option_map, is_ok, slice_get, Option, Some, None, IfSome, Result, Ok, Err, refl, ap, sym, ◌∙◌, subst}
use Rattle.std.specs.List.{list_all, AllByRecursion, AllZip}
use Rattle.std.proofs.lemmas.Bool.Decides.{eqb_tells}
use Rattle.std.proofs.lemmas.Bool.{eq-eqb}
use Rattle.std.proofs.lemmas.List.{length-append, map-append, take-append-drop}
use Rattle.std.proofs.lemmas.Slice.Zip.{all_zipped_more}
use Rattle.std.proofs.lemmas.Option.{none-some, same_Some}
use Rattle.text_words.proofs.Split.{both_true}
use Rattle.std.specs.Str.{bytes_eq}
use Rattle.base.specs.Live.{has}
use Rattle.base.specs.declared.kinds.Kind.TheVariants as kinds
use Rattle.base.specs.declared.ranges.Limits.{Limits}
use Rattle.base.specs.declared.refusals.Refusal.{Refusal}
use Rattle.base.specs.declared.refusals.Refusal.TheVariants.{BadBatch, NoThread, SeatTaken, SeatsSpent}
use Rattle.kernel_rules.specs.Events.{Event, by}
use Rattle.kernel_rules.specs.History.{count, state_of, IsLegal}
use Rattle.kernel_rules.specs.Runs.{replies_to}
use Rattle.kernel_rules.specs.State.{is_live_kind}
use Rattle.kernel_rules.specs.declared.calls.Call.{Call}
use Rattle.kernel_rules.specs.declared.replies.Reply.{Reply}
use Rattle.call_text.specs.Known.{start_values, value_of}
use Rattle.call_text.specs.Resolve.{resolved}
use Rattle.call_text.specs.declared.asking.Asked.{Asked}
use Rattle.call_text.specs.declared.known_names.Named.{Named}
use Rattle.call_text.specs.declared.known_names.Value.{Value}
use Rattle.call_text.specs.declared.known_names.Value.TheVariants.{Object, Category}
use Rattle.call_text.specs.declared.phases.Line.{Line}
use Rattle.published_copy.proofs.Prefixes.{prefix_self, prefix_trans}
use Rattle.published_copy.specs.Books.{BookView}
use Rattle.published_copy.specs.Boots.{Boot}
use Rattle.published_copy.specs.Refusals.{seat_refusal}
use Rattle.published_copy.specs.Seats.{seat_refused, IsNotOpened, IsOpened}
use Rattle.published_copy.specs.Turns.{SeatView, Turn}
use Rattle.published_copy.specs.declared.refusals.SeatRefusal.{SeatRefusal}
use Rattle.published_copy.specs.declared.refusals.SeatRefusal.TheVariants as seat
use Rattle.script_rules.specs.Asking.{with_calls}
use Rattle.script_rules.specs.Lines.{Stand, are_batch, asked, is_no_read, refuse_all, told}
use Rattle.script_rules.specs.Output.{told_text}
use Rattle.script_rules.specs.Run.{refusal_by, seat_for, seated, unless_refused}
use Rattle.script_runner.specs.Answers.{LineAnswers}
use Rattle.script_runner.specs.Desks.{SeatPlace, events_in, noted_by, noted_in, seat_in, submitted, IsGiven, IsSubmitted}
use Rattle.script_runner.specs.Reads.{ThreadRead}
use Rattle.script_runner.specs.Shared.{NotedStand, Post, noted_at, noted_then, notes_of, unplayed, seeing, with_note, with_waiting, wait_among, made_after, line_among, thread_in, takes_part, object_in, posts_reads, posts_text, left_text, AreLearnt, IsAfter, IsPlayed, IsSeated, Seats, Sits, Plays, Settles, IsPhase, ArePhases, AreLeft, AreSeen, HasSeen, IsAnswered, IsLeftBy, IsSharedBy}
use Rattle.script_runner.specs.Turns.{idle, stand, waiting_for, waiting_in}
use Rattle.script_runner.specs.Workers.{lines_of}
use Rattle.script_runner.specs.declared.answers.Left.{Left}
use Rattle.script_runner.specs.declared.batches.Gathered.{Gathered}
use Rattle.script_runner.proofs.NumberLaws.{take_next}
use Rattle.script_runner.proofs.TurnLaws.{drop_next, not_one}

-- a note tells the same where no event was made
pub noted_still : (noted events : List Event) → noted ≡ noted_then noted events events
noted_still noted events = ap (λ (b : Bool). if b then events else noted) (sym (at (eqb_tells (length events) (length events + 1))))
  where
    at : ((eqb (length events) (length events + 1) ≡ true) × (length events ≡ length events + 1))
        ⊎ ((eqb (length events) (length events + 1) ≡ false) × (length events ≢ length events + 1))
        → (length events == length events + 1) ≡ false
    at (inl h) = absurd (omega (arith, h.1))
    at (inr h) = h.0

one_longer : (events : List Event) (e : Event) → (length (events ++ e ∷ []) == length events + 1) ≡ true
one_longer events e = eq-eqb (length (events ++ e ∷ [])) (length events + 1) (omega (arith, length-append events (e ∷ [])))

-- after calls it is what they make it
pub noted_called : (limits : Limits) (thread : ℕ) (noted events : List Event) (calls : List Call)
    → noted_by calls noted (with_calls limits thread events calls) ≡ noted_then noted events (with_calls limits thread events calls)
noted_called limits thread noted events [] = noted_still noted events
noted_called limits thread noted events (call ∷ calls) =
    let after : List Event = with_calls limits thread events (call ∷ calls) in
    ap (λ (b : Bool). if b then after else noted) (sym (one_longer events _))

-- no events are legal
pub none_legal : (limits : Limits) → IsLegal limits []
none_legal limits [] after e is = absurd (cc is)
none_legal limits (b ∷ before) after e is = absurd (cc is)

-- a place within a list has something
none_within : {A : Type 0} (xs : List A) (k : ℕ) → k < length xs → slice_get xs k ≡ None → ⊥
none_within [] k within none = absurd (omega (arith, within))
none_within (x ∷ xs) zero within none = none-some x (sym none)
none_within (x ∷ xs) (suc k) within none = none_within xs k (omega (arith, within)) none

-- a worker's lines from a place on
pub lines_mine : (worker : List ℕ) (phase : List Line) (k : ℕ) (line : Line) → slice_get phase k ≡ Some line
    → bytes_eq line.worker worker ≡ true
    → lines_of worker (drop k phase) ≡ line ∷ lines_of worker (drop (k + 1) phase)
lines_mine worker phase k line there mine =
    ap (lines_of worker) (drop_next phase k line there)
    ∙ ap (λ (b : Bool). cond b (line ∷ lines_of worker (drop (k + 1) phase)) (lines_of worker (drop (k + 1) phase))) mine

pub lines_other : (worker : List ℕ) (phase : List Line) (k : ℕ) (line : Line) → slice_get phase k ≡ Some line
    → bytes_eq line.worker worker ≡ false → lines_of worker (drop k phase) ≡ lines_of worker (drop (k + 1) phase)
lines_other worker phase k line there other =
    ap (lines_of worker) (drop_next phase k line there)
    ∙ ap (λ (b : Bool). cond b (line ∷ lines_of worker (drop (k + 1) phase)) (lines_of worker (drop (k + 1) phase))) other

-- what the lines from a place on leave is what all leave
abbrev pub SoFar : Limits → List Named → Result ℕ (Option Refusal) → List ℕ → List Line → NotedStand → ℕ → NotedStand → Type 0
SoFar limits known seat worker phase start k p =
    (q : NotedStand) → IsPlayed limits known seat p (lines_of worker (drop k phase)) q
    → IsPlayed limits known seat start (lines_of worker phase) q

-- one line more
pub played_more : (limits : Limits) (known : List Named) (seat : Result ℕ (Option Refusal)) (worker : List ℕ) (phase : List Line)
    (start p q : NotedStand) (k : ℕ) (line : Line) → slice_get phase k ≡ Some line → bytes_eq line.worker worker ≡ true
    → IsAfter (line_among limits known seat p.stand line) p q → SoFar limits known seat worker phase start k p
    → SoFar limits known seat worker phase start (k + 1) q
played_more limits known seat worker phase start p q k line there mine after so_far = λ r rest.
    so_far r (subst (λ (ls : List Line). IsPlayed limits known seat p ls r) (sym (lines_mine worker phase k line there mine)) (q, after, rest))

-- and a line of another worker
pub passed_over : (limits : Limits) (known : List Named) (seat : Result ℕ (Option Refusal)) (worker : List ℕ) (phase : List Line)
    (start p : NotedStand) (k : ℕ) (line : Line) → slice_get phase k ≡ Some line → bytes_eq line.worker worker ≡ false
    → SoFar limits known seat worker phase start k p → SoFar limits known seat worker phase start (k + 1) p
passed_over limits known seat worker phase start p k line there other so_far = λ r rest.
    so_far r (subst (λ (ls : List Line). IsPlayed limits known seat p ls r) (sym (lines_other worker phase k line there other)) rest)

-- a worker that has a seat, or no line, stays as it is
pub sits_still : (limits : Limits) (room : ℕ) (known : List Named) (phase : List Line) (p : Post) (thread : ℕ) → p.seat ≡ Ok thread
    → Sits limits room known phase p p
sits_still limits room known phase p thread has = at (takes_part p.worker phase)
  where
    given : IsSeated limits room (value_of p.worker known) p.seat p.seat
    given = record {
      events = [];
      taken = [];
      legal = none_legal limits;
      seat = has ∙ ap (λ (s : Result ℕ (Option Refusal)). seated (thread_in s) (seat_for (refusal_by limits room [] []) (value_of p.worker known))) (sym has);
    }

    at : (b : Bool) → MatchBool b (Seats limits room known p p) (p ≡ p)
    at true = record {
      seat = given;
      seen = prefix_self p.events;
      noted = ap (λ (s : Result ℕ (Option Refusal)). noted_at s p.noted p.events) (sym has);
      rest = refl;
    }
    at false = refl

-- it sits as it is given a seat, or refused one
pub sits_then : (limits : Limits) (room : ℕ) (known : List Named) (phase : List Line) (before after : Post)
    → IsSeated limits room (value_of before.worker known) before.seat after.seat → IsPrefix before.events after.events
    → after.noted ≡ noted_at before.seat before.noted after.events
    → after ≡ record before { seat = after.seat; events = after.events; noted = after.noted } → takes_part before.worker phase ≡ true
    → Sits limits room known phase before after
sits_then limits room known phase before after seat seen noted rest takes =
    subst (λ (b : Bool). MatchBool b (Seats limits room known before after) (after ≡ before)) (sym takes)
    (record { seat = seat; seen = seen; noted = noted; rest = rest })

pub sits_out : (limits : Limits) (room : ℕ) (known : List Named) (phase : List Line) (before after : Post) → after ≡ before
    → takes_part before.worker phase ≡ false → Sits limits room known phase before after
sits_out limits room known phase before after same takes =
    subst (λ (b : Bool). MatchBool b (Seats limits room known before after) (after ≡ before)) (sym takes) same

-- the seat of a worker that has none is for what its name is bound to
pub given_for : (limits : Limits) (room : ℕ) (bound : Option Value) (refusal : Option Refusal) (thread : ℕ)
    {after : Result ℕ (Option Refusal)} → object_in bound ≡ Some thread → IsGiven limits room thread after
    → IsSeated limits room bound (Err refusal) after
given_for limits room (Some (Object id)) refusal thread is (events, taken, legal, given) = record {
  events = events;
  taken = taken;
  legal = legal;
  seat = given ∙ ap (λ (t : ℕ). unless_refused t (refusal_by limits room events taken t)) (sym (same_Some id thread is));
}
given_for limits room (Some (Category c)) refusal thread is given = absurd (none-some thread is)
given_for limits room None refusal thread is given = absurd (none-some thread is)

-- and it has none where the name is no object's
pub given_none : (limits : Limits) (room : ℕ) (bound : Option Value) (refusal : Option Refusal) → object_in bound ≡ None
    → IsSeated limits room bound (Err refusal) (Err None)
given_none limits room (Some (Object id)) refusal is = absurd (none-some id (sym is))
given_none limits room (Some (Category c)) refusal is = record { events = []; taken = []; legal = none_legal limits; seat = refl }
given_none limits room None refusal is = record { events = []; taken = []; legal = none_legal limits; seat = refl }

-- the phases from a place on leave what all leave
abbrev pub PhasesSoFar : Limits → ℕ → List (List Line) → List Named → List Post → ℕ → List Named → List Post → Type 0
PhasesSoFar limits room script start first k known posts =
    (names : List Named) (after : List Post) → ArePhases limits room (drop k script) known posts names after
    → ArePhases limits room script start first names after

-- the workers stay who they are
names_stay : (R : Post → Post → Type 0) → ((p q : Post) → R p q → q.worker ≡ p.worker) → (ps qs : List Post) → AllZip R ps qs
    → map (λ (p : Post). p.worker) qs ≡ map (λ (p : Post). p.worker) ps
names_stay R same [] [] all = refl
names_stay R same [] (q ∷ qs) all = absurd all
names_stay R same (p ∷ ps) [] all = absurd all
names_stay R same (p ∷ ps) (q ∷ qs) all = λ i. same p q all.0 i ∷ names_stay R same ps qs all.1 i

sits_same : (limits : Limits) (room : ℕ) (known : List Named) (phase : List Line) (p q : Post) → Sits limits room known phase p q
    → q.worker ≡ p.worker
sits_same limits room known phase p q = at (takes_part p.worker phase)
  where
    at : (b : Bool) → MatchBool b (Seats limits room known p q) (q ≡ p) → q.worker ≡ p.worker
    at true is = ap (λ (x : Post). x.worker) is.rest
    at false is = ap (λ (x : Post). x.worker) is

phase_same : (limits : Limits) (room : ℕ) (phase : List Line) (known names : List Named) (before after : List Post)
    → IsPhase limits room phase known before names after
    → map (λ (p : Post). p.worker) after ≡ map (λ (p : Post). p.worker) before
phase_same limits room phase known names before after is =
    names_stay (Settles (notes_of is.played)) (λ p q s. ap (λ (x : Post). x.worker) s.rest) is.played after is.settles
    ∙ names_stay (Plays limits known phase) (λ p q s. ap (λ (x : Post). x.worker) s.2) is.seated is.played is.plays
    ∙ names_stay (Sits limits room known phase) (sits_same limits room known phase) before is.seated is.sits

pub workers_stay : (limits : Limits) (room : ℕ) (script : List (List Line)) (known names : List Named) (before after : List Post)
    → ArePhases limits room script known before names after
    → map (λ (p : Post). p.worker) after ≡ map (λ (p : Post). p.worker) before
workers_stay limits room [] known names before after is = ap (map (λ (p : Post). p.worker)) is.1
workers_stay limits room (phase ∷ more) known names before after (between, posts, first, rest) =
    workers_stay limits room more between names posts after rest ∙ phase_same limits room phase known between before posts first

unplayed_names : (workers : List (List ℕ)) → map (λ (p : Post). p.worker) (map unplayed workers) ≡ workers
unplayed_names [] = refl
unplayed_names (w ∷ workers) = ap (λ (ws : List (List ℕ)). w ∷ ws) (unplayed_names workers)

-- the lines of workers, by what they leave
left_lines : (known : List Named) (posts : List Post) (left : List Left) → AreLeft posts left
    → left_text known (map (λ (p : Post). p.worker) posts) left ≡ posts_text known posts
left_lines known [] [] are = refl
left_lines known [] (l ∷ left) are = absurd are
left_lines known (p ∷ posts) [] are = absurd are
left_lines known (p ∷ posts) (l ∷ left) are = λ i.
    flat_map (told_text known p.worker) (are.0.told i) ++ left_lines known posts left are.1 i

-- what each worker has seen begins the events
all_seen : (events : List Event) (posts : List Post) (passes : List (Option Turn))
    → AllZip (λ (p : Post) (pass : Option Turn). HasSeen pass p.events) posts passes → AllByRecursion (AreSeen events) passes
    → AllByRecursion (λ (p : Post). IsPrefix p.events events) posts
all_seen events [] [] are begin = tt
all_seen events [] (q ∷ passes) are begin = absurd are
all_seen events (p ∷ posts) [] are begin = absurd are
all_seen events (p ∷ posts) (None ∷ passes) are begin =
    (subst (λ (es : List Event). IsPrefix es events) (sym are.0) (events, refl), all_seen events posts passes are.1 begin.1)
all_seen events (p ∷ posts) (Some pass ∷ passes) are begin =
    (subst (λ (es : List Event). IsPrefix es events) are.0 begin.0, all_seen events posts passes are.1 begin.1)

-- so what was played is told
pub shared_by : (limits : Limits) (room : ℕ) (script : List (List Line)) (workers : List (List ℕ)) (known : List Named)
    (left : List Left) (passes : List (Option Turn)) (text : List ℕ) (journal events : List Event)
    → IsAnswered limits room script workers known left passes → AllByRecursion (AreSeen journal) passes → events ≡ journal
    → text ≡ left_text known workers left → (asked : List ThreadRead) → ((posts : List Post) → AreLeft posts left → asked ≡ posts_reads posts)
    → IsSharedBy limits room script workers text events known asked
shared_by limits room script workers known left passes text journal events is begin events_are text_is asked asked_are = record {
  posts = is.posts;
  phases = is.phases;
  seen = subst (λ (es : List Event). AllByRecursion (λ (p : Post). IsPrefix p.events es) is.posts) (sym events_are)
      (all_seen journal is.posts passes is.seen begin);
  output = text_is ∙ ap (λ (ws : List (List ℕ)). left_text known ws left) (sym names) ∙ left_lines known is.posts left is.left_is;
  reads = asked_are is.posts is.left_is;
}
  where
    names : map (λ (p : Post). p.worker) is.posts ≡ workers
    names = workers_stay limits room script start_values known (map unplayed workers) is.posts is.phases ∙ unplayed_names workers

-- no call is no event
pub none_submitted : (limits : Limits) (p : SeatPlace) (calls : List Call) (replies : List Reply) → calls ≡ [] → replies ≡ []
    → IsSubmitted limits (λ s. replies ≡ replies_to s (by p.thread calls)) p calls p
none_submitted limits p calls replies none told = (
  p.events,
  prefix_self p.events,
  ap (submitted limits p p.events) (sym none),
  told ∙ ap (λ (cs : List Call). replies_to (state_of limits p.events) (by p.thread cs)) (sym none),
)

-- a line of which a name is not known is told that
pub asked_unbound : (limits : Limits) (thread : ℕ) (known : List Named) (events : List Event) (names : List Named) (k new : LineAnswers)
    (line : Line) (name : List ℕ) → resolved line.call (names ++ known) ≡ Err name
    → new.told ≡ k.told ++ told line.number (Err name) ∷ [] → new.reads ≡ k.reads
    → (noted : List Event)
    → IsAfter (made_after limits thread (wait_among known (stand events names [] k) line)) (with_note noted (stand events names [] k))
    (with_note noted (stand events names [] new))
asked_unbound limits thread known events names k new line name is told_is reads_is noted = (
  events,
  prefix_self events,
  (λ i. record (stand events names [] k) { told = told_is i; reads = reads_is i })
      ∙ ap (λ (asks : Result Asked (List ℕ)). made_after limits thread
      (with_waiting (stand events names [] k) line.number line.binds asks) events) (sym is),
  noted_still noted events,
)

-- a line asks what its call means
pub asked_as : (limits : Limits) (thread : ℕ) (known : List Named) (p q : NotedStand) (line : Line) (asks : Result Asked (List ℕ))
    → resolved line.call (p.stand.names ++ known) ≡ asks
    → IsAfter (made_after limits thread (with_waiting p.stand line.number line.binds asks)) p q
    → IsAfter (made_after limits thread (wait_among known p.stand line)) p q
asked_as limits thread known p q line asks is after =
    subst (λ (a : Result Asked (List ℕ)). IsAfter (made_after limits thread (with_waiting p.stand line.number line.binds a)) p q)
    (sym is) after

-- several lines that are a batch ask no query
no_query : (several : Bool) (few none : Bool) → several ≡ false → (several || (few && none)) ≡ true → none ≡ true
no_query several few none not_one are = (both_true few none (ap (λ (b : Bool). b || (few && none)) (sym not_one) ∙ are)).1

-- so they are asked at once
pub batch_made : (limits : Limits) (thread : ℕ) (p : Stand) (noted : List Event) (q : NotedStand) → 2 ≤ length p.waiting
    → are_batch p.waiting ≡ true
    → (list_all (λ w. is_no_read w.asks) p.waiting ≡ true
    → IsAfter (λ events. idle (asked limits thread (seeing events p))) (with_note noted p) q)
    → IsAfter (made_after limits thread p) (with_note noted p) q
batch_made limits thread p noted q several are made =
    let after = made (no_query (length p.waiting == 1) (nat_le (length p.waiting) 16) (list_all (λ w. is_no_read w.asks) p.waiting)
    (not_one (length p.waiting) several) are) in (
      after.0,
      after.1,
      after.2 ∙ ap (λ (b : Bool). idle (if b then asked limits thread (seeing after.0 p) else refuse_all BadBatch (seeing after.0 p) p.waiting))
          (sym are),
      after.3,
    )

-- a line waits
pub line_waits : (limits : Limits) (thread : ℕ) (known : List Named) (events : List Event) (names : List Named) (g more : List Gathered)
    (k : LineAnswers) (line : Line) → line.more ≡ true
    → map waiting_in more ≡ map waiting_in g ++ waiting_for line (names ++ known) ∷ [] → (noted : List Event)
    → IsAfter (line_among limits known (Ok thread) (stand events names g k) line) (with_note noted (stand events names g k))
    (with_note noted (stand events names more k))
line_waits limits thread known events names g more k line is waits noted = (
  events,
  prefix_self events,
  (λ i. record (stand events names g k) { waiting = waits i })
      ∙ ap (λ (b : Bool). if b then wait_among known (stand events names g k) line
      else made_after limits thread (wait_among known (stand events names g k) line) events) (sym is),
  noted_still noted events,
)

-- the line at a place is the worker's
pub mine_of : (worker : List ℕ) (phase : List Line) (k : ℕ) (b : Bool) (line : Line)
    → IfSome (slice_get phase k) (λ l. b ≡ bytes_eq l.worker worker) → slice_get phase k ≡ Some line → b ≡ true
    → bytes_eq line.worker worker ≡ true
mine_of worker phase k b line told there is =
    sym (subst (λ (o : Option Line). IfSome o (λ l. b ≡ bytes_eq l.worker worker)) there told) ∙ is

-- or another's
pub passed_by : (limits : Limits) (known : List Named) (seat : Result ℕ (Option Refusal)) (worker : List ℕ) (phase : List Line)
    (start p : NotedStand) (k : ℕ) (b : Bool) → k < length phase → IfSome (slice_get phase k) (λ l. b ≡ bytes_eq l.worker worker)
    → b ≡ false → SoFar limits known seat worker phase start k p → SoFar limits known seat worker phase start (k + 1) p
passed_by limits known seat worker phase start p k b within told is so_far = at (slice_get phase k) refl told
  where
    at : (o : Option Line) → slice_get phase k ≡ o → IfSome o (λ l. b ≡ bytes_eq l.worker worker)
        → SoFar limits known seat worker phase start (k + 1) p
    at None there h = absurd (none_within phase k within there)
    at (Some line) there h = passed_over limits known seat worker phase start p k line there (sym h ∙ is) so_far

-- a list of no length is empty
pub empty_is : {A : Type 0} (xs : List A) → (length xs == 0) ≡ true → xs ≡ []
empty_is [] is = refl
empty_is (x ∷ xs) is = at (eqb_tells (length (x ∷ xs)) 0)
  where
    at : ((eqb (length (x ∷ xs)) 0 ≡ true) × (length (x ∷ xs) ≡ 0)) ⊎ ((eqb (length (x ∷ xs)) 0 ≡ false) × (length (x ∷ xs) ≢ 0))
        → x ∷ xs ≡ []
    at (inl h) = absurd (omega (arith, h.1))
    at (inr h) = absurd (true≢false (sym is ∙ h.0))

-- what follows where there is no error
pub if_ok : {T E : Type 0} {A B : Type 0} (r : Result T E) → (A → B) → OnOk r A → OnOk r B
if_ok (Ok x) follows h = follows h
if_ok (Err e) follows h = h

-- a worker by its name, its seat, its names and its answers
abbrev pub post_of : List ℕ → Result SeatPlace (Option Refusal) → List Named → LineAnswers → Post
post_of worker seating names kept = record {
  worker = worker;
  seat = seat_in seating;
  events = events_in seating;
  noted = noted_in seating;
  names = names;
  told = kept.told;
  reads = kept.reads;
}

-- the lines of a phase that were played are the worker's
pub plays_ok : {T E : Type 0} (limits : Limits) (known : List Named) (phase : List Line) (r : Result T E) (worker : List ℕ)
    (seating then_seating : Result SeatPlace (Option Refusal)) (own then_own : List Named) (k new : LineAnswers) (g : List Gathered)
    → OnOk r (IsPlayed limits known (seat_in seating) (with_note (noted_in seating) (stand (events_in seating) own [] k))
    (lines_of worker phase) (with_note (noted_in then_seating) (stand (events_in then_seating) then_own g new)))
    → OnOk r (seat_in then_seating ≡ seat_in seating)
    → OnOk r (Plays limits known phase (post_of worker seating own k) (post_of worker then_seating then_own new))
plays_ok limits known phase (Ok x) worker seating then_seating own then_own k new g played seat =
    (with_note (noted_in then_seating) (stand (events_in then_seating) then_own g new), played, λ i. record (post_of worker then_seating then_own new) { seat = seat i })
plays_ok limits known phase (Err e) worker seating then_seating own then_own k new g played seat = seat

-- what notes tell stays learnt
still_learnt : (notes : List (List Event)) (events more : List Event) → IsPrefix events more → AreLearnt notes events
    → AreLearnt notes more
still_learnt [] events more later learnt = tt
still_learnt (note ∷ notes) events more later learnt =
    (prefix_trans note events more learnt.0 later, still_learnt notes events more later learnt.1)

all_after : {A : Type 0} (P : A → Type 0) (xs : List A) (x : A) → AllByRecursion P xs → P x → AllByRecursion P (xs ++ x ∷ [])
all_after P [] x all here = (here, tt)
all_after P (y ∷ ys) x all here = (all.0, all_after P ys x all.1 here)

-- and one note more is learnt
pub learnt_more : (notes : List (List Event)) (k : ℕ) (note events more : List Event) → slice_get notes k ≡ Some note
    → IsPrefix events more → IsPrefix note more → AreLearnt (take k notes) events → AreLearnt (take (k + 1) notes) more
learnt_more notes k note events more there later here learnt =
    subst (λ (ns : List (List Event)). AreLearnt ns more) (sym (take_next notes k note there))
    (all_after (λ (n : List Event). IsPrefix n more) (take k notes) note (still_learnt (take k notes) events more later learnt) here)

-- one worker more
pub idle_more : (workers : List (List ℕ)) (k : ℕ) (worker : List ℕ) (now new : List Post) → slice_get workers k ≡ Some worker
    → now ≡ map unplayed (take k workers) → new ≡ now ++ unplayed worker ∷ [] → new ≡ map unplayed (take (k + 1) workers)
idle_more workers k worker now new there so_far is =
    is ∙ ap (λ (ps : List Post). ps ++ unplayed worker ∷ []) so_far ∙ sym (map-append unplayed (take k workers) (worker ∷ []))
    ∙ ap (map unplayed) (sym (take_next workers k worker there))

-- what refuses a thread a seat is one by both tables
refusals_same : (a b c : Bool)
    → (if a then Some SeatTaken else if b then Some NoThread else if c then Some SeatsSpent else None)
    ≡ option_map seat_refusal (if a then Some seat.SeatTaken else if b then Some seat.NoThread else if c then Some seat.SeatsSpent else None)
refusals_same true b c = refl
refusals_same false true c = refl
refusals_same false false true = refl
refusals_same false false false = refl

refused_as : (boot : Boot) (book : BookView) (thread : ℕ)
    → refusal_by boot.limits boot.seats book.journal book.seated thread ≡ option_map seat_refusal (seat_refused boot book thread)
refused_as boot book thread =
    refusals_same (has book.seated thread || nat_lt 0 (count thread book.journal))
    (not (is_live_kind (state_of boot.limits book.journal) kinds.Thread thread)) (length book.seated == boot.seats)

-- its note tells all that it has seen
pub opened_noted : (boot : Boot) (thread : ℕ) (opened : SeatView) → IsOpened boot thread opened → opened.told ≡ opened.pass.seen
opened_noted boot thread opened (book, legal, within, none, live, first, is) =
    ap (λ (s : SeatView). s.told) is ∙ ap (λ (s : SeatView). s.pass.seen) (sym is)

-- a seat that is opened is given
pub opened_given : (boot : Boot) (thread : ℕ) (opened : SeatView) → IsOpened boot thread opened
    → IsGiven boot.limits boot.seats thread (Ok opened.pass.thread)
opened_given boot thread opened (book, legal, within, none, live, first, is) = (
  book.journal,
  book.seated,
  legal,
  ap (λ (s : SeatView). Ok s.pass.thread) is
      ∙ ap (unless_refused thread) (sym (refused_as boot book thread ∙ ap (option_map seat_refusal) none)),
)

-- and one that is not is refused
pub not_opened_given : (boot : Boot) (thread : ℕ) (refusal : SeatRefusal) → IsNotOpened boot thread refusal
    → IsGiven boot.limits boot.seats thread (Err (Some (seat_refusal refusal)))
not_opened_given boot thread refusal (book, legal, within, some) = (
  book.journal,
  book.seated,
  legal,
  ap (unless_refused thread) (sym (refused_as boot book thread ∙ ap (option_map seat_refusal) some)),
)

-- a worker that has a seat stays as it is
pub sits_ok : (limits : Limits) (room : ℕ) (known : List Named) (phase : List Line) (worker : List ℕ)
    (seating : Result SeatPlace (Option Refusal)) (own : List Named) (k : LineAnswers) → is_ok seating ≡ true
    → Sits limits room known phase (post_of worker seating own k) (post_of worker seating own k)
sits_ok limits room known phase worker (Ok p) own k has = sits_still limits room known phase (post_of worker (Ok p) own k) p.thread refl
sits_ok limits room known phase worker (Err r) own k has = absurd (true≢false (sym has))

-- and one that has none is given one, or refused
pub sits_new : (limits : Limits) (room : ℕ) (known : List Named) (phase : List Line) (worker : List ℕ)
    (seating then_seating : Result SeatPlace (Option Refusal)) (own : List Named) (k : LineAnswers) → is_ok seating ≡ false
    → takes_part worker phase ≡ true
    → ((refusal : Option Refusal) → IsSeated limits room (value_of worker known) (Err refusal) (seat_in then_seating))
    → noted_in then_seating ≡ events_in then_seating
    → Sits limits room known phase (post_of worker seating own k) (post_of worker then_seating own k)
sits_new limits room known phase worker (Ok p) then_seating own k none takes given noted = absurd (true≢false none)
sits_new limits room known phase worker (Err r) then_seating own k none takes given noted =
    sits_then limits room known phase (post_of worker (Err r) own k) (post_of worker then_seating own k) (given r)
    (events_in then_seating, refl) noted refl takes

-- what one worker more leaves
pub left_more : (posts : List Post) (left new : List Left) (p : Post) (l : Left) → AreLeft posts left → IsLeftBy p l
    → new ≡ left ++ l ∷ [] → AreLeft (posts ++ p ∷ []) new
left_more posts left new p l are own is =
    subst (AreLeft (posts ++ p ∷ [])) (sym is) (all_zipped_more IsLeftBy posts left p l are own)

pub passes_more : (posts : List Post) (passes new : List (Option Turn)) (p : Post) (pass : Option Turn)
    → AllZip (λ (q : Post) (o : Option Turn). HasSeen o q.events) posts passes → HasSeen pass p.events → new ≡ passes ++ pass ∷ []
    → AllZip (λ (q : Post) (o : Option Turn). HasSeen o q.events) (posts ++ p ∷ []) new
passes_more posts passes new p pass are seen is =
    subst (AllZip (λ (q : Post) (o : Option Turn). HasSeen o q.events) (posts ++ p ∷ [])) (sym is)
    (all_zipped_more (λ (q : Post) (o : Option Turn). HasSeen o q.events) posts passes p pass are seen)

-- what holds of two lists holds of them put together
pub all_of_both : {A B : Type 0} (R : A → B → Type 0) (ps qs : List A) (then_ps then_qs : List B) → AllZip R ps then_ps
    → AllZip R qs then_qs → AllZip R (ps ++ qs) (then_ps ++ then_qs)
all_of_both R [] qs [] then_qs one two = two
all_of_both R [] qs (p ∷ then_ps) then_qs one two = absurd one
all_of_both R (p ∷ ps) qs [] then_qs one two = absurd one
all_of_both R (p ∷ ps) qs (q ∷ then_ps) then_qs one two = (one.0, all_of_both R ps qs then_ps then_qs one.1 two)

-- so what holds of the halves of a list holds of all
pub all_of_halves : (R : Post → Post → Type 0) (all ps qs : List Post) (k : ℕ) (then_ps then_qs new : List Post) → ps ≡ take k all
    → qs ≡ drop k all → new ≡ then_ps ++ then_qs → AllZip R ps then_ps → AllZip R qs then_qs → AllZip R all new
all_of_halves R all ps qs k then_ps then_qs new front back is one two =
    subst (λ (xs : List Post). AllZip R xs new)
    (ap (λ (xs : List Post). xs ++ qs) front ∙ ap (λ (xs : List Post). take k all ++ xs) back ∙ take-append-drop k all)
    (subst (AllZip R (ps ++ qs)) (sym is) (all_of_both R ps qs then_ps then_qs one two))

-- a worker that learnt notes has settled
pub settles : (notes : List (List Event)) (worker : List ℕ) (seating then_seating : Result SeatPlace (Option Refusal))
    (own names : List Named) (k : LineAnswers) → seat_in then_seating ≡ seat_in seating
    → IsPrefix (events_in seating) (events_in then_seating) → IsPrefix (noted_in seating) (noted_in then_seating)
    → OnOk (seat_in seating) (AreLearnt notes (noted_in then_seating) × IsPrefix (noted_in then_seating) (events_in then_seating))
    → names ≡ [] → Settles notes (post_of worker seating own k) (post_of worker then_seating names k)
settles notes worker seating then_seating own names k seat seen noted learnt none = record {
  seen = seen;
  noted = noted;
  learnt = learnt;
  rest = λ i. record (post_of worker then_seating names k) { seat = seat i; names = none i };
}

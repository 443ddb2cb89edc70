-- Where a worker stands after its lines, as the code makes it.
use Rattle.std.proofs.Common.{◌≡◌, ℕ, ◌+◌, ◌≤◌, ◌<◌, ◌==◌, ◌||◌, ◌&&◌, ◌≢◌, ◌⊎◌, inl, inr, eqb, leb, Bool, true, false, if◌then◌else◌, List, [], ◌∷◌, ◌++◌, map, drop, length, slice_get, Option, Some, None, Result, Ok, Err, refl, ap, sym, ◌∙◌, true≢false, nat_le, arith}
use Rattle.std.specs.List.{list_all}
use Rattle.std.proofs.lemmas.Bool.Decides.{eqb_tells, leb_tells}
use Rattle.std.proofs.lemmas.List.{drop_more, length-map}
use Rattle.std.proofs.lemmas.Option.{get_or_from_slice_get, slice_get_within}
use Rattle.text_words.proofs.Split.{both_true}
use Rattle.base.specs.declared.ranges.Limits.{Limits}
use Rattle.base.specs.declared.refusals.Refusal.{Refusal}
use Rattle.base.specs.declared.refusals.Refusal.TheVariants.{BadBatch}
use Rattle.kernel_rules.specs.Events.{Event, by}
use Rattle.kernel_rules.specs.History.{state_of}
use Rattle.kernel_rules.specs.Runs.{replies_to}
use Rattle.kernel_rules.specs.State.{State}
use Rattle.kernel_rules.specs.Step.{answer, next}
use Rattle.kernel_rules.specs.declared.calls.Call.{Call}
use Rattle.kernel_rules.specs.declared.replies.Reply.{Reply}
use Rattle.kernel_rules.specs.declared.replies.Reply.TheVariants.{Refused}
use Rattle.call_text.specs.declared.asking.Asked.{Asked}
use Rattle.call_text.specs.declared.asking.Asked.TheVariants.{Read, Write}
use Rattle.call_text.specs.declared.known_names.Named.{Named}
use Rattle.call_text.specs.declared.phases.Line.{Line}
use Rattle.script_rules.specs.Asking.{with_calls}
use Rattle.script_rules.specs.Lines.{Stand, Waiting, tell, tell_waiting, tell_all, answer_in, state_in, call_in, calls_of, asked, is_no_read, are_batch, refuse_all, make, line_by, lines_by}
use Rattle.script_runner.specs.Answers.{LineAnswers}
use Rattle.script_runner.specs.Turns.{idle, stand, tell_next, tell_with, waiting_in}
use Rattle.script_runner.specs.declared.batches.Gathered.{Gathered}

-- what waits plays no part as lines are told
all_idle : (s : State) (thread : ℕ) (p : Stand) (ws : List Waiting) → tell_all s thread (idle p) ws ≡ idle (tell_all s thread p ws)
all_idle s thread p [] = refl
all_idle s thread p (w ∷ ws) = all_idle (state_in s thread w.asks) thread (tell_waiting p w (answer_in s thread w.asks)) ws

refused_idle : (refusal : Refusal) (p : Stand) (ws : List Waiting) → refuse_all refusal (idle p) ws ≡ idle (refuse_all refusal p ws)
refused_idle refusal p [] = refl
refused_idle refusal p (w ∷ ws) = refused_idle refusal (tell p w.number None (Ok (Refused refusal))) ws

-- lines that ask no query are told the replies to their calls
told_next : (number : ℕ) (binds : Option (List ℕ)) (asks : Result Asked (List ℕ)) (ws : List Waiting) (s : State) (thread : ℕ) (p : Stand)
    → ((s : State) (p : Stand) → tell_all s thread p ws ≡ tell_with ws (replies_to s (by thread (calls_of ws))) p)
    → is_no_read asks ≡ true
    → tell_all (state_in s thread asks) thread
    (tell_waiting p (record { number = number; binds = binds; asks = asks }) (answer_in s thread asks)) ws
    ≡ tell_next (tell_with ws) (replies_to s (by thread (call_in asks ++ calls_of ws))) p
    (record { number = number; binds = binds; asks = asks }) asks
told_next number binds (Ok (Write call)) ws s thread p more calls_only =
    more (next s thread call)
    (tell_waiting p (record { number = number; binds = binds; asks = Ok (Write call) }) (Ok (answer s thread call)))
told_next number binds (Ok (Read query)) ws s thread p more calls_only = absurd (true≢false (sym calls_only))
told_next number binds (Err name) ws s thread p more calls_only =
    more s (tell_waiting p (record { number = number; binds = binds; asks = Err name }) (Err name))

told_all : (ws : List Waiting) (thread : ℕ) → list_all (λ (w : Waiting). is_no_read w.asks) ws ≡ true → (s : State) (p : Stand)
    → tell_all s thread p ws ≡ tell_with ws (replies_to s (by thread (calls_of ws))) p
told_all [] thread calls_only s p = refl
told_all (w ∷ ws) thread calls_only s p =
    let parts = both_true (is_no_read w.asks) (list_all (λ (w : Waiting). is_no_read w.asks) ws) calls_only in
    told_next w.number w.binds w.asks ws s thread p (told_all ws thread parts.1) parts.0

-- lines that waited were asked, by the replies to their calls
pub asked_by : (limits : Limits) (thread : ℕ) (journal after : List Event) (names known : List Named) (g : List Gathered) (k new : LineAnswers)
    (calls : List Call) (replies : List Reply) → list_all (λ (w : Waiting). is_no_read w.asks) (map waiting_in g) ≡ true
    → calls ≡ calls_of (map waiting_in g) → replies ≡ replies_to (state_of limits journal) (by thread calls)
    → after ≡ with_calls limits thread journal calls
    → stand journal known [] new ≡ tell_with (map waiting_in g) replies (stand journal names [] k)
    → stand after known [] new ≡ idle (asked limits thread (stand journal names g k))
asked_by limits thread journal after names known g k new calls replies calls_only calls_are replies_are journal_is is =
    (λ i. record (is i) { events = journal_is i })
    ∙ (λ i. record (tell_with ws (replies_are i) (stand journal names [] k)) { events = with_calls limits thread journal calls })
    ∙ (λ i. record (tell_with ws (replies_to s (by thread (calls_are i))) (stand journal names [] k)) {
      events = with_calls limits thread journal (calls_are i);
    })
    ∙ (λ i. record (sym (told_all ws thread calls_only s (stand journal names [] k)) i) { events = with_calls limits thread journal (calls_of ws) })
    ∙ (λ i. record (all_idle s thread (stand journal names g k) ws i) { events = with_calls limits thread journal (calls_of ws) })
  where
    ws : List Waiting
    ws = map waiting_in g

    s : State
    s = state_of limits journal

pub made_refused : (limits : Limits) (thread : ℕ) (journal : List Event) (names : List Named) (g : List Gathered) (k : LineAnswers) (q : Stand)
    → are_batch (map waiting_in g) ≡ false → q ≡ refuse_all BadBatch (stand journal names [] k) (map waiting_in g)
    → q ≡ make limits thread (stand journal names g k)
made_refused limits thread journal names g k q are is =
    is ∙ refused_idle BadBatch p (map waiting_in g)
    ∙ ap (λ (b : Bool). idle (if b then asked limits thread p else refuse_all BadBatch p p.waiting)) (sym are)
  where
    p : Stand
    p = stand journal names g k

-- two and more are not one
pub not_one : (n : ℕ) → 2 ≤ n → (n == 1) ≡ false
not_one n more = at (eqb_tells n 1)
  where
    at : ((eqb n 1 ≡ true) × (n ≡ 1)) ⊎ ((eqb n 1 ≡ false) × (n ≢ 1)) → (n == 1) ≡ false
    at (inl h) = absurd (omega (arith, h.1, more))
    at (inr h) = h.0

no_reads : (g : List Gathered)
    → list_all (λ (x : Gathered). is_no_read x.asks) g ≡ list_all (λ (w : Waiting). is_no_read w.asks) (map waiting_in g)
no_reads [] = refl
no_reads (x ∷ g) = ap (λ (b : Bool). is_no_read x.asks && b) (no_reads g)

-- of several lines the test is that they are few and ask no query
pub several : (g : List Gathered) (b : Bool) → 2 ≤ length g
    → b ≡ (nat_le (length g) 16 && list_all (λ (x : Gathered). is_no_read x.asks) g) → b ≡ are_batch (map waiting_in g)
several g b more is =
    is ∙ (λ i. nat_le (sym (length-map g waiting_in) i) 16 && no_reads g i)
    ∙ ap (λ (c : Bool). c || (nat_le (length (map waiting_in g)) 16 && list_all (λ (w : Waiting). is_no_read w.asks) (map waiting_in g)))
    (sym (not_one (length (map waiting_in g)) (omega (arith, more, length-map g waiting_in))))

pub few : (g given : List Gathered) (n : ℕ) (b : Bool) → 2 ≤ length g → n ≡ length g → n ≤ 16 → given ≡ g
    → b ≡ list_all (λ (x : Gathered). is_no_read x.asks) given → b ≡ are_batch (map waiting_in g)
few g given n b more n_is small same is =
    several g b more (is ∙ ap (list_all (λ (x : Gathered). is_no_read x.asks)) same
    ∙ ap (λ (c : Bool). c && list_all (λ (x : Gathered). is_no_read x.asks) g) (sym (at (leb_tells (length g) 16))))
  where
    at : ((leb (length g) 16 ≡ true) × (length g ≤ 16)) ⊎ ((leb (length g) 16 ≡ false) × (16 < length g)) → nat_le (length g) 16 ≡ true
    at (inl h) = h.0
    at (inr h) = absurd (omega (arith, h.1, small, n_is))

pub many : (g : List Gathered) (n : ℕ) → 2 ≤ length g → n ≡ length g → 16 < n → nat_le n 16 ≡ are_batch (map waiting_in g)
many g n more n_is large =
    several g (nat_le n 16) more
    (ap (λ (m : ℕ). nat_le m 16) n_is ∙ none
    ∙ ap (λ (c : Bool). c && list_all (λ (x : Gathered). is_no_read x.asks) g) (sym none))
  where
    at : ((leb (length g) 16 ≡ true) × (length g ≤ 16)) ⊎ ((leb (length g) 16 ≡ false) × (16 < length g)) → nat_le (length g) 16 ≡ false
    at (inl h) = absurd (omega (arith, h.1, large, n_is))
    at (inr h) = h.0

    none : nat_le (length g) 16 ≡ false
    none = at (leb_tells (length g) 16)

-- what is left from a place on
pub drop_next : {A : Type 0} (xs : List A) (k : ℕ) (x : A) → slice_get xs k ≡ Some x → drop k xs ≡ x ∷ drop (k + 1) xs
drop_next xs k x there =
    drop_more xs k x (slice_get_within xs k x there) ∙ ap (λ (y : _). y ∷ drop (k + 1) xs) (get_or_from_slice_get xs k x x there)

-- one line more
pub line_next : (limits : Limits) (seat : Result ℕ (Option Refusal)) (p q all : Stand) (lines : List Line) (k : ℕ) (line : Line)
    → slice_get lines k ≡ Some line → lines_by limits seat p (drop k lines) ≡ all → q ≡ line_by limits seat p line
    → lines_by limits seat q (drop (k + 1) lines) ≡ all
line_next limits seat p q all lines k line there rest is =
    ap (λ (r : Stand). lines_by limits seat r (drop (k + 1) lines)) is
    ∙ ap (lines_by limits seat p) (sym (drop_next lines k line there)) ∙ rest

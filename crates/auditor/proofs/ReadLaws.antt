-- Laws of reads that are told by the rules.
use Rattle.std.proofs.Common.{◌≡◌, ℕ, zero, suc, ◌+◌, ◌==◌, ◌&&◌, ◌||◌, not, nat_le, Bool, true, false, if◌then◌else◌}
use Rattle.std.proofs.Common.{List, [], ◌∷◌, ◌++◌, length, take, Option, Some, None, refl, sym, ap, ◌∙◌, arith}
use Rattle.std.specs.List.{AllByRecursion}
use Rattle.std.proofs.lemmas.Bool.{and_parts, le-leb}
use Rattle.std.proofs.lemmas.List.{append_assoc, append-nil, length-append, take_all}
use Rattle.checkpoints.specs.Checkpoint.{Checkpoint}
use Rattle.kernel_rules.proofs.BatchLaws.{answered_calls}
use Rattle.kernel_rules.specs.Events.{Event, calls_in, by}
use Rattle.kernel_rules.specs.History.{Start, calls_of, state_from}
use Rattle.kernel_rules.specs.Runs.{state_after}
use Rattle.kernel_rules.specs.Step.{query_answer}
use Rattle.kernel_rules.specs.declared.calls.Call.{Call}
use Rattle.kernel_rules.specs.declared.calls.Query.{Query}
use Rattle.dump_text.specs.Reads.{are_placed, have_places}
use Rattle.dump_text.specs.Whole.{raw_reply, reply_at, threads_rise, IsAnsweredRightly, AreRead}
use Rattle.dump_text.specs.declared.tables.PlacedRead.{PlacedRead}
use Rattle.auditor.specs.Replay.{true_event, replayed_after, replayed, thread_after, true_read, true_reads_after, true_reads}

-- an event keeps its calls
calls_kept : (start : Start) (before : List Event) (e : Event) (k : ℕ) (front es : List Event)
    → calls_of (take k (front ++ true_event start before e ∷ es)) ≡ calls_of (take k (front ++ e ∷ es))
calls_kept start before e zero front es = refl
calls_kept start before e (suc k) [] es =
    ap (λ (cs : List Call). by e.thread cs ++ calls_of (take k es)) (answered_calls (state_from start.state before) e.thread (calls_in e))
calls_kept start before e (suc k) (f ∷ front) es =
    ap (λ (cs : List (ℕ × Call)). by f.thread (calls_in f) ++ cs) (calls_kept start before e k front es)

-- events that are replayed keep theirs
replayed_calls : (start : Start) (before es : List Event) (k : ℕ)
    → calls_of (take k (replayed_after start before es)) ≡ calls_of (take k (before ++ es))
replayed_calls start before [] k = ap (λ (l : List Event). calls_of (take k l)) (sym (append-nil before))
replayed_calls start before (e ∷ es) k =
    replayed_calls start (before ++ true_event start before e ∷ []) es k
    ∙ ap (λ (l : List Event). calls_of (take k l)) (append_assoc before (true_event start before e ∷ []) es)
    ∙ calls_kept start before e k before es

-- so a query is answered among them as among the events
pub reply_replayed : (start : Start) (es : List Event) (place thread : ℕ) (q : Query)
    → reply_at start (replayed start es) place thread q ≡ reply_at start es place thread q
reply_replayed start es place thread q =
    ap (λ (cs : List (ℕ × Call)). raw_reply (query_answer (state_after start.state cs) thread q)) (replayed_calls start [] es place)

-- the state that replayed events lead to
pub state_replayed : (start : Start) (es : List Event) → state_from start.state (replayed start es) ≡ state_from start.state es
state_replayed start es =
    ap (λ (l : List Event). state_from start.state l) (sym (take_all_of (replayed start es)))
    ∙ ap (state_after start.state) (replayed_calls start [] es (length (replayed start es) + length es))
    ∙ ap (λ (l : List Event). state_from start.state l) (take_long es (length (replayed start es)))
  where
    take_all_of : (l : List Event) → take (length l + length es) l ≡ l
    take_all_of l = take_all (length l + length es) l (omega arith)

    take_long : (l : List Event) (n : ℕ) → take (n + length l) l ≡ l
    take_long l n = take_all (n + length l) l (omega arith)

-- the thread of a read that rises is its own
own_thread : (a b : Bool) (thread own : ℕ) → (not a || b) ≡ true → (if a && not b then thread else own) ≡ own
own_thread true true thread own h = refl
own_thread true false thread own h = absurd (cc h)
own_thread false b thread own h = refl

-- reads that are told by the rules are told as themselves
same_after : (start : Start) (events : List Event) (place thread : ℕ) (rs : List PlacedRead)
    → AllByRecursion (IsAnsweredRightly start events) rs → threads_rise place thread rs ≡ true
    → true_reads_after start events place thread rs ≡ rs
same_after start events place thread [] right rising = refl
same_after start events place thread (r ∷ rs) right rising =
    let p = and_parts (not (r.place == place) || nat_le thread r.read.thread) (threads_rise r.place r.read.thread rs) rising in
    let own : thread_after place thread r ≡ r.read.thread = own_thread (r.place == place) (nat_le thread r.read.thread) thread r.read.thread p.0 in
    let here : true_read start events r.read.thread r ≡ r = (λ i. record {
      place = r.place;
      read = record { thread = r.read.thread; query = r.read.query; reply = sym right.0 i };
    }) in
    (λ i. true_read start events (own i) r ∷ true_reads_after start events r.place (own i) rs)
    ∙ (λ i. here i ∷ same_after start events r.place r.read.thread rs right.1 p.1 i)

pub reads_same : (start : Start) (events : List Event) (rs : List PlacedRead) → AreRead start events rs
    → true_reads start events rs ≡ rs
reads_same start events rs are = same_after start events 0 0 rs are.answers are.rising

-- each told read has the rules' reply among replayed events
pub right_after : (start : Start) (events : List Event) (place thread : ℕ) (rs : List PlacedRead)
    → AllByRecursion (IsAnsweredRightly start (replayed start events)) (true_reads_after start events place thread rs)
right_after start events place thread [] = tt
right_after start events place thread (r ∷ rs) = (
  sym (reply_replayed start events r.place (thread_after place thread r) r.read.query),
  right_after start events r.place (thread_after place thread r) rs,
)

-- its thread is not less than that of the read before it at its place
not_less : (a : Bool) (thread own : ℕ)
    → (not a || nat_le thread (if a && not (nat_le thread own) then thread else own)) ≡ true
not_less false thread own = refl
not_less true thread own = of (nat_le thread own) refl
  where
    of : (b : Bool) → nat_le thread own ≡ b → nat_le thread (if not b then thread else own) ≡ true
    of true is = is
    of false is = le-leb thread thread (omega arith)

rising_after : (start : Start) (events : List Event) (place thread : ℕ) (rs : List PlacedRead)
    → threads_rise place thread (true_reads_after start events place thread rs) ≡ true
rising_after start events place thread [] = refl
rising_after start events place thread (r ∷ rs) =
    rw (not_less (r.place == place) thread r.read.thread) (rising_after start events r.place (thread_after place thread r) rs)

-- told reads are the rules'
pub true_are : (start : Start) (events : List Event) (rs : List PlacedRead)
    → AreRead start (replayed start events) (true_reads start events rs)
true_are start events rs = record {
  answers = right_after start events 0 0 rs;
  rising = rising_after start events 0 0 rs;
}

-- they stand where the reads do
pub placed_after : (start : Start) (events : List Event) (place thread first last : ℕ) (rs : List PlacedRead)
    → are_placed first last (true_reads_after start events place thread rs) ≡ are_placed first last rs
placed_after start events place thread first last [] = refl
placed_after start events place thread first last (r ∷ rs) =
    ap (λ (b : Bool). nat_le first r.place && (nat_le r.place last && b))
    (placed_after start events r.place (thread_after place thread r) r.place last rs)

pub replayed_length : (start : Start) (before es : List Event) → length (replayed_after start before es) ≡ length (before ++ es)
replayed_length start before [] = ap length (sym (append-nil before))
replayed_length start before (e ∷ es) =
    replayed_length start (before ++ true_event start before e ∷ []) es
    ∙ length-append (before ++ true_event start before e ∷ []) es
    ∙ ap (λ (n : ℕ). n + length es) (length-append before (true_event start before e ∷ []))
    ∙ same (length before) (length es) ∙ sym (length-append before (e ∷ es))
  where
    same : (n m : ℕ) → n + 1 + m ≡ n + suc m
    same n m = omega arith

pub true_placed : (start : Start) (c : Option Checkpoint) (events : List Event) (rs : List PlacedRead)
    → have_places c events rs ≡ true → have_places c (replayed start events) (true_reads start events rs) ≡ true
true_placed start None events [] h = refl
true_placed start None events (r ∷ rs) h = absurd (cc h)
true_placed start (Some c) events rs h =
    placed_after start events 0 0 0 (length (replayed start events)) rs
    ∙ ap (λ (n : ℕ). are_placed 0 n rs) (replayed_length start [] events) ∙ h

-- A phase, for the worker of its first line, leaves what the rules say.
use Rattle.std.proofs.Common.{◌≡◌, ◌≢◌, ℕ, zero, suc, true, false, eqb, List, [], ◌∷◌, ◌<◌, length, get_or, map, slice_get, slice_set, length-set, Option, Some, None, IfSome, option_map, Result, refl, ap, sym, ◌∙◌, subst, ◌⊎◌, inl, inr, position, max, min}
use Rattle.std.specs.List.{IsDistinct}
use Rattle.std.specs.Str.{bytes_eq}
use Rattle.std.specs.Cmp.Lexicographic.{bytes_decides}
use Rattle.std.proofs.lemmas.Bool.Decides.{eqb_tells}
use Rattle.std.proofs.lemmas.List.{append-nil}
use Rattle.std.proofs.lemmas.List.Quantifiers.{position-Some}
use Rattle.std.proofs.lemmas.Option.{none-some, slice_get-get_or}
use Rattle.base.specs.declared.ranges.Limits.{Limits}
use Rattle.base.specs.declared.refusals.Refusal.{Refusal}
use Rattle.kernel_rules.specs.Events.{Event}
use Rattle.published_copy.specs.Books.{BookView}
use Rattle.call_text.specs.Known.{value_of}
use Rattle.call_text.specs.declared.known_names.Named.{Named}
use Rattle.call_text.specs.declared.known_names.Value.{Value}
use Rattle.call_text.specs.declared.phases.Line.{Line}
use Rattle.script_rules.specs.Lines.{Stand, lines_by}
use Rattle.script_rules.specs.Output.{own, text_of}
use Rattle.script_rules.specs.Run.{Run, phase_after, played_by, refusal_by, run_from, seat_for, seat_of, seated, stand_in, start, thread_of, room_for}
use Rattle.script_rules.specs.Workers.{lines_in, workers_of}
use Rattle.script_rules.proofs.OwnLaws.{own_more, own_same}
use Rattle.script_rules.proofs.StandLaws.{onto, lines_on}
use Rattle.script_runner.specs.Answers.{LineAnswers}
use Rattle.script_runner.specs.Reads.{ThreadRead}
use Rattle.script_runner.specs.Turns.{reads_in, seated_after, stand, thread_after, AreOwn, IsOwn, IsRun, IsTurns}
use Rattle.script_runner.specs.declared.answers.Left.{Left}
use Rattle.script_runner.specs.declared.batches.Gathered.{Gathered}
use Rattle.script_runner.proofs.NumberLaws.{stands_at, stands_not}
use Rattle.script_runner.proofs.SeatLaws.{seat_other, seat_own, seats_then}

-- what is written at a place, and what stands at others
set_own : {A : Type 0} (xs : List A) (i : ℕ) (x y : A) → slice_get xs i ≡ Some y → slice_get (slice_set xs i x) i ≡ Some x
set_own [] i x y is = absurd (none-some y is)
set_own (z ∷ zs) zero x y is = refl
set_own (z ∷ zs) (suc i) x y is = set_own zs i x y is

set_other : {A : Type 0} (xs : List A) (i j : ℕ) (x : A) → (j ≢ i) → slice_get (slice_set xs i x) j ≡ slice_get xs j
set_other [] i j x other = refl
set_other (y ∷ ys) zero zero x other = absurd (other refl)
set_other (y ∷ ys) zero (suc j) x other = refl
set_other (y ∷ ys) (suc i) zero x other = refl
set_other (y ∷ ys) (suc i) (suc j) x other = set_other ys i j x (λ e. other (ap suc e))

abbrev value : Option (List ℕ) → List ℕ
value None = []
value (Some w) = w

-- a phase is played by the worker of its first line
pub phase_is : (limits : Limits) (room : ℕ) (r : Run) (lines : List Line) (w : List ℕ)
    → option_map (λ (l : Line). l.worker) (slice_get lines 0) ≡ Some w
    → played_by limits r w (seat_of limits room r w) lines ≡ phase_after limits room r lines
phase_is limits room r [] w is = absurd (none-some w is)
phase_is limits room r (l ∷ ls) w is =
    ap (λ (v : List ℕ). played_by limits r v (seat_of limits room r v) (l ∷ ls)) (sym (ap value is))

-- the seat of a worker
pub seat_is : (limits : Limits) (room : ℕ) (r : Run) (w : List ℕ) (book : BookView) (names : List Named) (had : Option ℕ)
    (bound : Option Value) (seat : Result ℕ (Option Refusal)) → had ≡ thread_of w r.seats → book.journal ≡ r.events
    → book.seated ≡ map (λ s. s.1) r.seats → names ≡ r.names → bound ≡ value_of w names
    → seat ≡ seated had (seat_for (refusal_by limits room book.journal book.seated) bound) → seat ≡ seat_of limits room r w
seat_is limits room r w book names had bound seat had_is journal_is seated_is names_are bound_is is =
    is ∙ ap (λ (b : Option Value). seated had (seat_for (refusal_by limits room book.journal book.seated) b)) bound_is
    ∙ (λ i. seated (had_is i) (seat_for (refusal_by limits room (journal_is i) (seated_is i)) (value_of w (names_are i))))

module _ (limits : Limits) (r : Run) (w : List ℕ) (seat : Result ℕ (Option Refusal)) (lines : List Line) where
  abbrev left_then : Stand
  left_then = lines_by limits seat (stand_in r) lines

  abbrev run_then : Run
  run_then = played_by limits r w seat lines

  -- what lines leave after what the worker was told before
  stands_then : (journal after : List Event) (names known : List Named) (g : List Gathered) (k new : LineAnswers)
      → journal ≡ r.events → names ≡ r.names → k.told ≡ own w r.told → k.reads ≡ own w r.reads
      → stand after known g new ≡ lines_by limits seat (stand journal names [] k) lines
      → stand after known g new ≡ onto (own w r.told) (own w r.reads) left_then
  stands_then journal after names known g k new a b c d is =
      is
      ∙ (λ i. lines_by limits seat (record {
        events = a i;
        names = b i;
        waiting = [];
        told = (c ∙ sym (append-nil (own w r.told))) i;
        reads = (d ∙ sym (append-nil (own w r.reads))) i;
      }) lines)
      ∙ lines_on (own w r.told) (own w r.reads) limits seat (stand_in r) lines

  -- the worker's own
  own_then : (left : Left) (had : Option ℕ) (after : List Event) (known : List Named) (g : List Gathered) → bytes_eq w w ≡ true
      → had ≡ thread_of w r.seats → left.thread ≡ thread_after had seat
      → stand after known g left.answers ≡ onto (own w r.told) (own w r.reads) left_then → IsOwn w left run_then
  own_then left had after known g same had_is thread_is is = record {
    thread = thread_is ∙ ap (λ (o : Option ℕ). thread_after o seat) had_is ∙ sym (seat_own w r.seats (thread_of w r.seats) seat same refl);
    told = ap (λ (p : Stand). p.told) is ∙ sym (own_more w w r.told left_then.told same);
    reads = ap (λ (p : Stand). p.reads) is ∙ sym (own_more w w r.reads left_then.reads same);
  }

  -- and another's
  other_then : (v : List ℕ) (left : Left) → bytes_eq w v ≡ false → IsOwn v left r → IsOwn v left run_then
  other_then v left other is = record {
    thread = is.thread ∙ sym (seat_other w v r.seats (thread_of w r.seats) seat other);
    told = is.told ∙ sym (own_same w v r.told left_then.told other);
    reads = is.reads ∙ sym (own_same w v r.reads left_then.reads other);
  }

  -- each worker's, where one stands at its place
  each_then : (workers : List (List ℕ)) (left : List Left) (i : ℕ) (old new : Left) → IsDistinct bytes_eq workers
      → position (bytes_eq w) workers ≡ Some i → slice_get left i ≡ Some old → AreOwn workers left r → IsOwn w new run_then
      → AreOwn workers (slice_set left i new) run_then
  each_then workers left i old new distinct place there are own_is j =
      at (slice_get workers j) (slice_get left j) refl refl (are j) (eqb_tells j i)
    where
      here : (v : List ℕ) → slice_get workers j ≡ Some v → (j ≡ i)
          → IfSome (slice_get (slice_set left i new) j) (λ l. IsOwn v l run_then)
      here v is same =
          subst (λ (o : Option Left). IfSome o (λ l. IsOwn v l run_then))
          (sym (set_own left i new old there) ∙ ap (slice_get (slice_set left i new)) (sym same))
          (subst (λ (u : List ℕ). IsOwn u new run_then) ((bytes_decides w v).0 (stands_at workers w v i j place is same)) own_is)

      at : (o : Option (List ℕ)) (p : Option Left) → slice_get workers j ≡ o → slice_get left j ≡ p
          → IfSome o (λ v. IfSome p (λ l. IsOwn v l r))
          → ((eqb j i ≡ true) × (j ≡ i)) ⊎ ((eqb j i ≡ false) × (j ≢ i))
          → IfSome o (λ v. IfSome (slice_get (slice_set left i new) j) (λ l. IsOwn v l run_then))
      at None p is then was by = tt
      at (Some v) p is then was (inl h) = here v is h.1
      at (Some v) None is then was (inr h) =
          subst (λ (o : Option Left). IfSome o (λ l. IsOwn v l run_then)) (sym (set_other left i j new h.1 ∙ then)) tt
      at (Some v) (Some l) is then was (inr h) =
          subst (λ (o : Option Left). IfSome o (λ l. IsOwn v l run_then)) (sym (set_other left i j new h.1 ∙ then))
          (other_then v l (stands_not workers w v i j distinct place is h.1) was)

-- where a worker stands among all, and what is its own there
worker_at : (workers : List (List ℕ)) (w : List ℕ) (i : ℕ) → position (bytes_eq w) workers ≡ Some i → slice_get workers i ≡ Some w
worker_at workers w i found =
    slice_get-get_or workers i w at.0 ∙ ap Some (sym ((bytes_decides w (get_or workers i w)).0 at.1))
  where
    at : (i < length workers) × (bytes_eq w (get_or workers i w) ≡ true)
        × ((k : ℕ) → k < i → bytes_eq w (get_or workers k w) ≡ false)
    at = position-Some (bytes_eq w) workers i w found

own_at : (workers : List (List ℕ)) (left : List Left) (w : List ℕ) (i : ℕ) (old : Left) → position (bytes_eq w) workers ≡ Some i
    → slice_get left i ≡ Some old → (r : Run) → AreOwn workers left r → IsOwn w old r
own_at workers left w i old place there r are =
    subst (λ (z : Option (List ℕ) × Option Left). IfSome z.0 (λ v. IfSome z.1 (λ l. IsOwn v l r)))
    (λ k. (worker_at workers w i place k, there k)) (are i)

-- so a phase leaves what the rules say
pub phase_run : (limits : Limits) (room : ℕ) (workers : List (List ℕ)) (w : List ℕ) (i : ℕ) (lines : List Line)
    (book between after : BookView) (names known : List Named) (left : List Left) (old new : Left) (g : List Gathered)
    (bound : Option Value) (seat : Result ℕ (Option Refusal)) → IsDistinct bytes_eq workers
    → option_map (λ (l : Line). l.worker) (slice_get lines 0) ≡ Some w → position (bytes_eq w) workers ≡ Some i
    → slice_get left i ≡ Some old → bound ≡ value_of w names
    → seat ≡ seated old.thread (seat_for (refusal_by limits room book.journal book.seated) bound)
    → new.thread ≡ thread_after old.thread seat → between.seated ≡ seated_after book.seated old.thread seat
    → between.journal ≡ book.journal → after.seated ≡ between.seated
    → stand after.journal known g new.answers ≡ lines_by limits seat (stand between.journal names [] old.answers) lines
    → (r : Run) → IsRun workers book names left r
    → IsRun workers after known (slice_set left i new) (phase_after limits room r lines)
phase_run limits room workers w i lines book between after names known left old new g bound seat distinct first place there bound_is seat_by
    thread_is seated_is kept sat is r was =
    subst (IsRun workers after known (slice_set left i new))
    (ap (λ (s : Result ℕ (Option Refusal)). played_by limits r w s lines) seat_of_r ∙ phase_is limits room r lines w first)
    (record {
      journal = ap (λ (p : Stand). p.events) stands;
      seated = sat ∙ seated_is ∙ (λ k. seated_after (was.seated k) (mine.thread k) seat)
          ∙ seats_then w r.seats (thread_of w r.seats) seat;
      names = ap (λ (p : Stand). p.names) stands;
      count = length-set left i new ∙ was.count;
      own = each_then limits r w seat lines workers left i old new distinct place there was.own
          (own_then limits r w seat lines new old.thread after.journal known g same mine.thread thread_is stands);
    })
  where
    same : bytes_eq w w ≡ true
    same = (bytes_decides w w).1 refl

    mine : IsOwn w old r
    mine = own_at workers left w i old place there r was.own

    seat_of_r : seat ≡ seat_of limits room r w
    seat_of_r = seat_is limits room r w book names old.thread bound seat mine.thread was.journal was.seated was.names bound_is seat_by

    stands : stand after.journal known g new.answers ≡ onto (own w r.told) (own w r.reads) (left_then limits r w seat lines)
    stands = stands_then limits r w seat lines between.journal after.journal names known g old.answers new.answers
        (kept ∙ was.journal) was.names mine.told mine.reads is

-- the run of the phases so far, and what the rest of them leaves
abbrev pub SoFar : Limits → ℕ → List (List ℕ) → BookView → List Named → List Left → List (List Line) → Run → Type 0
SoFar limits room workers book names left rest all =
    (r : Run) × IsRun workers book names left r × (run_from limits room r rest ≡ all)

-- so a run whose workers take turns leaves what the rules say
pub turns_are : (limits : Limits) (script : List (List Line)) (workers : List (List ℕ)) (seats n : ℕ) (text : List ℕ) (made : List Event) (known : List Named)
    → workers ≡ workers_of (lines_in script) → n ≡ length workers → seats ≡ max 1 (min 64 n)
    → text ≡ text_of (run_from limits seats start script) workers → made ≡ (run_from limits seats start script).events
    → known ≡ (run_from limits seats start script).names → (asked : List ThreadRead)
    → asked ≡ reads_in (run_from limits seats start script) workers → IsTurns limits script text made known asked
turns_are limits script workers seats n text made known are n_is seats_are text_is made_is known_is asked asked_is = record {
  output = text_is ∙ (λ i. text_of (run_from limits (room i) start script) (are i));
  events = made_is ∙ ap (λ (k : ℕ). (run_from limits k start script).events) room;
  names = known_is ∙ ap (λ (k : ℕ). (run_from limits k start script).names) room;
  reads = asked_is ∙ (λ i. reads_in (run_from limits (room i) start script) (are i));
}
  where
    room : seats ≡ room_for (workers_of (lines_in script))
    room = seats_are ∙ ap (λ (k : ℕ). max 1 (min 64 k)) (n_is ∙ ap length are)

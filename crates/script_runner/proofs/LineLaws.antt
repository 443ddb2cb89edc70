-- What one line of a worker that shares its phase leaves, as the code makes it: a call that is made, a query that is asked.
use mathlib.Core.List.{IsPrefix}
use Rattle.std.proofs.Common.{◌≡◌, ℕ, List, [], ◌∷◌, ◌++◌, length, Option, Some, None, Result, Ok, Err, refl, ap, sym, subst, ◌∙◌}
use Rattle.base.specs.declared.ranges.Limits.{Limits}
use Rattle.base.specs.declared.refusals.Refusal.{Refusal}
use Rattle.kernel_rules.specs.Events.{Event}
use Rattle.kernel_rules.specs.History.{state_of}
use Rattle.kernel_rules.specs.Step.{answer, query_answer}
use Rattle.kernel_rules.specs.declared.calls.Call.{Call}
use Rattle.kernel_rules.specs.declared.calls.Query.{Query}
use Rattle.kernel_rules.specs.declared.replies.Reply.{Reply}
use Rattle.call_text.specs.declared.asking.Asked.TheVariants.{Read, Write}
use Rattle.call_text.specs.declared.known_names.Named.{Named}
use Rattle.call_text.specs.declared.phases.Line.{Line}
use Rattle.script_rules.specs.Lines.{seen, told, unseated}
use Rattle.script_rules.specs.Names.{made_by, names_after, with_name}
use Rattle.script_runner.specs.Answers.{LineAnswers}
use Rattle.script_runner.specs.Desks.{SeatPlace, events_in, noted_in, seat_in, submitted, IsSubmitted}
use Rattle.script_runner.specs.Shared.{line_among, made_after, noted_then, with_note, with_waiting, IsAfter}
use Rattle.script_runner.specs.Turns.{stand}
use Rattle.script_runner.specs.declared.batches.Gathered.{Gathered}
use Rattle.script_runner.proofs.SharedLaws.{noted_called, noted_still}

-- what a note tells after calls
pub noted_after : (limits : Limits) (before after : SeatPlace) (events : List Event) (calls : List Call)
    → after ≡ submitted limits before events calls → after.noted ≡ noted_then before.noted events after.events
noted_after limits before after events calls is =
    ap (λ (p : SeatPlace). p.noted) is ∙ noted_called limits before.thread before.noted events calls
    ∙ ap (λ (p : SeatPlace). noted_then before.noted events p.events) (sym is)

-- a call is answered after the events that its worker had then seen
pub call_made : (limits : Limits) (before after : SeatPlace) (names known : List Named) (k new : LineAnswers) (number : ℕ)
    (binds : Option (List ℕ)) (call : Call) (reply : Reply)
    → IsSubmitted limits (λ s. reply ≡ answer s before.thread call) before (call ∷ []) after
    → known ≡ with_name names binds (made_by reply) → new.told ≡ k.told ++ told number (Ok reply) ∷ [] → new.reads ≡ k.reads
    → IsAfter (made_after limits before.thread (with_waiting (stand before.events names [] k) number binds (Ok (Write call))))
    (with_note before.noted (stand before.events names [] k)) (with_note after.noted (stand after.events known [] new))
call_made limits before after names known k new number binds call reply made names_are told_is reads_are = (
  made.0,
  made.1,
  (λ i. record {
    events = (made.2 i).events;
    names = (names_are ∙ ap (λ (r : Reply). with_name names binds (made_by r)) made.3) i;
    waiting = [];
    told = (told_is ∙ ap (λ (r : Reply). k.told ++ told number (Ok r) ∷ []) made.3) i;
    reads = reads_are i;
  }),
  noted_after limits before after made.0 (call ∷ []) made.2,
)

-- and so is a query
pub query_made : (limits : Limits) (thread : ℕ) (events after : List Event) (names : List Named) (k new : LineAnswers) (number count : ℕ)
    (binds : Option (List ℕ)) (query : Query) (reply : Reply) → IsPrefix events after → count ≡ length after
    → reply ≡ query_answer (state_of limits after) thread query → new.told ≡ k.told ++ told number (Ok reply) ∷ []
    → new.reads ≡ k.reads ++ seen count query reply ∷ []
    → (noted : List Event)
    → IsAfter (made_after limits thread (with_waiting (stand events names [] k) number binds (Ok (Read query))))
    (with_note noted (stand events names [] k)) (with_note noted (stand after names [] new))
query_made limits thread events after names k new number count binds query reply more count_is reply_is told_is reads_are noted = (
  after,
  more,
  (λ i. record {
    events = after;
    names = names;
    waiting = [];
    told = (told_is ∙ ap (λ (r : Reply). k.told ++ told number (Ok r) ∷ []) reply_is) i;
    reads = (reads_are ∙ (λ j. k.reads ++ seen (count_is j) query (reply_is j) ∷ [])) i;
  }),
  noted_still noted after,
)

-- what has no seat binds no name
none_bound : (names : List Named) (binds : Option (List ℕ)) (refusal : Option Refusal) (worker : List ℕ)
    → names ≡ names_after names binds (unseated refusal worker)
none_bound names binds None worker = refl
none_bound names (Some name) (Some refusal) worker = refl
none_bound names None (Some refusal) worker = refl

-- a line without a seat is told what refused it one
pub told_unseated : (limits : Limits) (known : List Named) (seating : Result SeatPlace (Option Refusal)) (refusal : Option Refusal)
    (names : List Named) (g : List Gathered) (k new : LineAnswers) (line : Line) → seating ≡ Err refusal
    → new.told ≡ k.told ++ told line.number (unseated refusal line.worker) ∷ [] → new.reads ≡ k.reads
    → IsAfter (line_among limits known (seat_in seating) (stand (events_in seating) names g k) line)
    (with_note (noted_in seating) (stand (events_in seating) names g k)) (with_note [] (stand [] names g new))
told_unseated limits known seating refusal names g k new line is told_is reads_is =
    subst (λ (s : Result SeatPlace (Option Refusal)).
    IsAfter (line_among limits known (seat_in s) (stand (events_in s) names g k) line)
    (with_note (noted_in s) (stand (events_in s) names g k)) (with_note [] (stand [] names g new))) (sym is) (
      [],
      ([], refl),
      (λ i. record (stand [] names g k) {
        names = none_bound names line.binds refusal line.worker i;
        told = told_is i;
        reads = reads_is i;
      }),
      noted_still [] [],
    )

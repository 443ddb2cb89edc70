-- Lines leave the same, whatever was told and read before them.
use Rattle.std.proofs.Common.{◌≡◌, ℕ, Bool, true, false, if◌then◌else◌, List, [], ◌∷◌, ◌++◌, length, Option, None, Result, Ok, Err, refl, ap, ◌∙◌, append_assoc}
use Rattle.base.specs.declared.ranges.Limits.{Limits}
use Rattle.base.specs.declared.refusals.Refusal.{Refusal}
use Rattle.base.specs.declared.refusals.Refusal.TheVariants.{BadBatch}
use Rattle.kernel_rules.specs.History.{state_of}
use Rattle.kernel_rules.specs.State.{State}
use Rattle.kernel_rules.specs.declared.replies.Reply.{Reply}
use Rattle.kernel_rules.specs.declared.replies.Reply.TheVariants as replies
use Rattle.call_text.specs.declared.asking.Asked.{Asked}
use Rattle.call_text.specs.declared.asking.Asked.TheVariants.{Read, Write}
use Rattle.call_text.specs.declared.phases.Line.{Line}
use Rattle.script_rules.specs.Asking.{with_calls}
use Rattle.script_rules.specs.Lines.{AnsweredLine, Seen, Stand, Waiting, told, seen, with_read, tell, tell_waiting, tell_all, answer_in, state_in, calls_of, asked, are_batch, refuse_all, make, wait, unseated, line_by, lines_by}

-- where a worker stands, with what was told and read before
abbrev pub onto : List AnsweredLine → List Seen → Stand → Stand
onto before read p = record p { told = before ++ p.told; reads = read ++ p.reads }

module _ (before : List AnsweredLine) (read : List Seen) where
  tell_on : (p : Stand) (number : ℕ) (binds : Option (List ℕ)) (answer : Result Reply (List ℕ))
      → tell (onto before read p) number binds answer ≡ onto before read (tell p number binds answer)
  tell_on p number binds answer =
      λ i. record (onto before read (tell p number binds answer)) { told = append_assoc before p.told (told number answer ∷ []) i }

  read_on : (reads : List Seen) (length : ℕ) (asks : Result Asked (List ℕ)) (answer : Result Reply (List ℕ))
      → with_read (read ++ reads) length asks answer ≡ read ++ with_read reads length asks answer
  read_on reads length (Ok (Read query)) (Ok reply) = append_assoc read reads (seen length query reply ∷ [])
  read_on reads length (Ok (Read query)) (Err name) = refl
  read_on reads length (Ok (Write call)) answer = refl
  read_on reads length (Err name) answer = refl

  waiting_on : (p : Stand) (w : Waiting) (answer : Result Reply (List ℕ))
      → tell_waiting (onto before read p) w answer ≡ onto before read (tell_waiting p w answer)
  waiting_on p w answer = λ i. record (onto before read (tell_waiting p w answer)) {
    told = append_assoc before p.told (told w.number answer ∷ []) i;
    reads = read_on p.reads (length p.events) w.asks answer i;
  }

  all_on : (s : State) (thread : ℕ) (p : Stand) (ws : List Waiting)
      → tell_all s thread (onto before read p) ws ≡ onto before read (tell_all s thread p ws)
  all_on s thread p [] = refl
  all_on s thread p (w ∷ ws) =
      ap (λ (r : Stand). tell_all (state_in s thread w.asks) thread r ws) (waiting_on p w (answer_in s thread w.asks))
      ∙ all_on (state_in s thread w.asks) thread (tell_waiting p w (answer_in s thread w.asks)) ws

  refused_on : (refusal : Refusal) (p : Stand) (ws : List Waiting)
      → refuse_all refusal (onto before read p) ws ≡ onto before read (refuse_all refusal p ws)
  refused_on refusal p [] = refl
  refused_on refusal p (w ∷ ws) =
      ap (λ (r : Stand). refuse_all refusal r ws) (tell_on p w.number None (Ok (replies.Refused refusal)))
      ∙ refused_on refusal (tell p w.number None (Ok (replies.Refused refusal))) ws

  asked_on : (limits : Limits) (thread : ℕ) (p : Stand)
      → asked limits thread (onto before read p) ≡ onto before read (asked limits thread p)
  asked_on limits thread p =
      ap (λ (r : Stand). record r { events = with_calls limits thread p.events (calls_of p.waiting) })
      (all_on (state_of limits p.events) thread p p.waiting)

  make_on : (limits : Limits) (thread : ℕ) (p : Stand)
      → make limits thread (onto before read p) ≡ onto before read (make limits thread p)
  make_on limits thread p = ap (λ (r : Stand). record r { waiting = [] }) (at (are_batch p.waiting))
    where
      at : (b : Bool) → (if b then asked limits thread (onto before read p) else refuse_all BadBatch (onto before read p) p.waiting)
          ≡ onto before read (if b then asked limits thread p else refuse_all BadBatch p p.waiting)
      at true = asked_on limits thread p
      at false = refused_on BadBatch p p.waiting

  line_on : (limits : Limits) (seat : Result ℕ (Option Refusal)) (p : Stand) (l : Line)
      → line_by limits seat (onto before read p) l ≡ onto before read (line_by limits seat p l)
  line_on limits (Ok thread) p l = at l.more
    where
      at : (b : Bool) → (if b then wait (onto before read p) l else make limits thread (wait (onto before read p) l))
          ≡ onto before read (if b then wait p l else make limits thread (wait p l))
      at true = refl
      at false = make_on limits thread (wait p l)
  line_on limits (Err refusal) p l = tell_on p l.number l.binds (unseated refusal l.worker)

  -- and so of several lines
  pub lines_on : (limits : Limits) (seat : Result ℕ (Option Refusal)) (p : Stand) (ls : List Line)
      → lines_by limits seat (onto before read p) ls ≡ onto before read (lines_by limits seat p ls)
  lines_on limits seat p [] = refl
  lines_on limits seat p (l ∷ ls) =
      ap (λ (r : Stand). lines_by limits seat r ls) (line_on limits seat p l)
      ∙ lines_on limits seat (line_by limits seat p l) ls

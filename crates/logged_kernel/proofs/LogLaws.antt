-- A legal list of events with that of one call more.
use Rattle.std.proofs.Common.{◌≡◌, ℕ, ◌+◌, ◌&&◌, nat_lt, nat_le, true, false, Bool, Result, Ok, Err, IfOk, OnOk, OnErr, length, take, List, [], ◌∷◌, ◌++◌, Some, None, refl, sym, ap, ◌∙◌, subst, arith}
use Rattle.base.specs.declared.ranges.Limits.{Limits}
use Rattle.checkpoints.proofs.LimitsLaws.{next_limits}
use Rattle.checkpoints.proofs.SoundLaws.{restorable_whole}
use Rattle.checkpoints.specs.Checkpoint.{Checkpoint}
use Rattle.checkpoints.specs.Restorable.{is_restorable, threads_rise, has_slots, filled_in}
use Rattle.std.proofs.lemmas.Bool.{and_parts}
use Rattle.std.specs.List.{list_all}
use Rattle.checkpoints.specs.Restored.{restored}
use Rattle.checkpoints.specs.Starts.{number_of, start_of}
use Rattle.checkpoints.specs.declared.checkpoints.NextNumber.{NextNumber}
use Rattle.kernel_rules.specs.State.{State}
use Rattle.kernel_rules.specs.Step.{answer, next}
use Rattle.kernel_rules.specs.declared.calls.Call.{Call}
use Rattle.kernel_rules.specs.Events.{Event, told}
use Rattle.kernel_rules.specs.History.{Start, count, state_from, IsLegalFrom}
use Rattle.kernel_rules.proofs.HistoryLaws.{legal-snoc_from, legal_none_from, state_from-snoc}
use Rattle.syscall_core.proofs.CheckpointLaws.{unrefused}
use Rattle.syscall_core.specs.Kernel.{kernel_state}
use Rattle.syscall_core.specs.Restored.{restore_refusal}
use Rattle.syscall_core.specs.declared.kernel.Kernel.{Kernel}
use Rattle.std.specs.Option.{option_map}
use Rattle.kernel_rules.specs.Step.{query_answer}
use Rattle.kernel_rules.specs.declared.calls.Query.{Query}
use Rattle.std.proofs.lemmas.List.{take_all}
use Rattle.dump_text.specs.Fits.{FitsLine}
use Rattle.dump_text.specs.Whole.{raw_reply, AreRead, IsAnsweredRightly}
use Rattle.dump_text.specs.declared.lines.Line.TheVariants as lines
use Rattle.dump_text.specs.declared.reads.Read.{Read}
use Rattle.dump_text.specs.declared.tables.PlacedRead.{PlacedRead}
use Rattle.logged_kernel.proofs.EntryLaws.{answers_event, events_among, events_append, tell_among, told_event, told_in}
use Rattle.base.specs.Limits.{in_range}
use Rattle.kernel_rules.specs.declared.replies.Reply.{Reply}
use Rattle.logged_kernel.specs.Entries.{among, events_of}
use Rattle.logged_kernel.specs.ReadLines.{line_of, read_of}
use Rattle.logged_kernel.specs.declared.entries.Entry.{Entry}
use Rattle.logged_kernel.specs.declared.entries.Entry.TheVariants as entries
use Rattle.logged_kernel.specs.Logged.{Logged, AreNumbered, IsMade, IsSound, Leads, Writes, event_after, with_call, with_read}

-- the events of a legal list are numbered
pub numbered : (start : Start) (events : List Event) → IsLegalFrom start events
    → (before after : List Event) (e : Event) → events ≡ before ++ e ∷ after
    → e.number ≡ count e.thread before + start.first e.thread
numbered start events legal before after e is = (legal before after e is).number

-- one call more is legal
legal_more : (start : Start) (events : List Event) (thread : ℕ) (call : Call) → IsLegalFrom start events
    → IsLegalFrom start (events ++ event_after start events thread call ∷ [])
legal_more start events thread call legal =
    legal-snoc_from start events (event_after start events thread call) legal
    (record { size = refl; number = refl; replies = refl })

-- what is kept still leads to the state, with an event more
pub leads_call : (start : Start) (s : State) (thread : ℕ) (call : Call) (kept : List Entry) → Leads start s kept
    → Leads start (next s thread call) (with_call start thread call kept)
leads_call start s thread call kept leads =
    let events = events_of kept in
    let event = event_after start events thread call in
    let more : events_of (with_call start thread call kept) ≡ events ++ event ∷ [] = events_append kept (entries.Event event ∷ []) in
    let read = leads.told.2 in
    record {
      legal = subst (λ (l : List Event). IsLegalFrom start l) (sym more) (legal_more start events thread call leads.legal);
      state = ap (λ (z : State). next z thread call) leads.state ∙ sym (state_from-snoc start.state events event)
          ∙ ap (state_from start.state) (sym more);
      told = (
        leads.told.0,
        told_event 0 kept event leads.told.0 leads.told.1,
        subst (λ (l : List Event). AreRead start l leads.told.0) (sym more) (record {
          answers = answers_event start events event leads.told.0 (told_in kept leads.told.0 leads.told.1) read.answers;
          rising = read.rising;
        }),
      );
    }

-- and with a read
pub leads_read : (start : Start) (s : State) (thread : ℕ) (query : Query) (kept : List Entry) → Leads start s kept
    → FitsLine (lines.Read (read_of thread query (query_answer s thread query))) → Leads start s (with_read s thread query kept)
leads_read start s thread query kept leads fits =
    let read : Read = read_of thread query (query_answer s thread query) in
    let events = events_of kept in
    let placed_read : PlacedRead = record { place = length events; read = read } in
    let same : events_of (with_read s thread query kept) ≡ events = events_among (line_of read) kept in
    let now : state_from start.state (take (length events) events) ≡ s =
    ap (state_from start.state) (take_all (length events) events (omega arith)) ∙ sym leads.state in
    let right : IsAnsweredRightly start events placed_read =
    ap (λ (z : State). raw_reply (query_answer z thread query)) (sym now) in
    let more = tell_among (IsAnsweredRightly start events) 0 0 0 placed_read kept leads.told.0 leads.told.1 leads.told.2.rising leads.told.2.answers
    right fits (omega arith) (λ is. omega arith) in
    record {
      legal = subst (λ (l : List Event). IsLegalFrom start l) (sym same) leads.legal;
      state = leads.state ∙ ap (state_from start.state) (sym same);
      told = (more.0, more.1, subst (λ (l : List Event). AreRead start l more.0) (sym same) (record { answers = more.3; rising = more.2 }));
    }

-- nothing leads to the state at which a log begins
pub leads_none : (limits : Limits) (origin : Checkpoint) (s : State) → s ≡ restored limits origin → Leads (start_of limits origin) s []
leads_none limits origin s is = record {
  legal = legal_none_from (start_of limits origin) [] refl;
  state = is;
  told = ([], refl, record { answers = tt; rising = refl });
}

pub sound_begun : (limits : Limits) (origin : Checkpoint) (s : State) (is_new : Bool) → s.limits ≡ limits → in_range limits ≡ true
    → is_restorable limits origin ≡ true → s ≡ restored limits origin → IsSound limits origin s is_new (Some [])
sound_begun limits origin s is_new same range fit is = record {
  same = same;
  range = range;
  fit = fit;
  new = λ e. is;
  log = leads_none limits origin s is;
}

called : (P : Type 0) → false ≡ true → P
called P e = absurd (cc e)

-- a call is made of a kernel whose calls are not kept
pub sound_called : (limits : Limits) (origin : Checkpoint) (before after : State) (was : Bool) (thread : ℕ) (call : Call)
    → IsSound limits origin before was None → after ≡ next before thread call → IsSound limits origin after false None
sound_called limits origin before after was thread call sound stepped = record {
  same = ap (λ (s : State). s.limits) stepped ∙ next_limits before thread call ∙ sound.same;
  range = sound.range;
  fit = sound.fit;
  new = λ e. called (after ≡ restored limits origin) e;
  log = tt;
}

-- the event that is kept is that of the call
pub items_kept : (limits : Limits) (origin : Checkpoint) (before : State) (was : Bool) (old new : List Entry) (thread : ℕ) (call : Call)
    → IsSound limits origin before was (Some old)
    → new ≡ old ++ entries.Event (record {
      thread = thread;
      number = count thread (events_of old) + number_of origin.next thread;
      calls = told call (answer before thread call) ∷ [];
    }) ∷ []
    → new ≡ with_call (start_of limits origin) thread call old
items_kept limits origin before was old new thread call sound added =
    added ∙ ap (λ (s : State). old ++ entries.Event (record {
      thread = thread;
      number = count thread (events_of old) + number_of origin.next thread;
      calls = told call (answer s thread call) ∷ [];
    }) ∷ []) sound.log.state

-- a call is made and kept
pub sound_kept : (limits : Limits) (origin : Checkpoint) (before after : State) (was : Bool) (old new : List Entry) (thread : ℕ)
    (call : Call) → IsSound limits origin before was (Some old) → after ≡ next before thread call
    → new ≡ old ++ entries.Event (record {
      thread = thread;
      number = count thread (events_of old) + number_of origin.next thread;
      calls = told call (answer before thread call) ∷ [];
    }) ∷ []
    → IsSound limits origin after false (Some new)
sound_kept limits origin before after was old new thread call sound stepped added =
    let start : Start = start_of limits origin in
    let items : new ≡ with_call start thread call old =
    items_kept limits origin before was old new thread call sound added in
    record {
      same = ap (λ (s : State). s.limits) stepped ∙ next_limits before thread call ∙ sound.same;
      range = sound.range;
      fit = sound.fit;
      new = λ e. called (after ≡ restored limits origin) e;
      log = rw (items, stepped) (leads_call start before thread call old sound.log);
    }

-- a query is asked and kept
pub sound_asked : (limits : Limits) (origin : Checkpoint) (s : State) (is_new : Bool) (old new : List Entry) (thread : ℕ) (query : Query)
    → IsSound limits origin s is_new (Some old)
    → FitsLine (lines.Read (read_of thread query (query_answer s thread query)))
    → new ≡ with_read s thread query old
    → IsSound limits origin s is_new (Some new)
sound_asked limits origin s is_new old new thread query sound fits added = record {
  same = sound.same;
  range = sound.range;
  fit = sound.fit;
  new = sound.new;
  log = rw added (leads_read (start_of limits origin) s thread query old sound.log fits);
}

-- the same, whether there was memory for it or not
pub sound_read : {A E : Type 0} (r : Result A E) (limits : Limits) (origin : Checkpoint) (s : State) (is_new : Bool) (old new : List Entry)
    (thread : ℕ) (query : Query) (reply : Reply) → IsSound limits origin s is_new (Some old) → reply ≡ query_answer s thread query
    → OnOk r (new ≡ among (line_of (read_of thread query reply)) old) → OnOk r (FitsLine (lines.Read (read_of thread query reply)))
    → OnErr r (new ≡ old) → IsSound limits origin s is_new (Some new)
sound_read (Ok x) limits origin s is_new old new thread query reply sound is kept fits same =
    sound_asked limits origin s is_new old new thread query sound
    (subst (λ (a : Reply). FitsLine (lines.Read (read_of thread query a))) is fits)
    (kept ∙ ap (λ (a : Reply). among (line_of (read_of thread query a)) old) is)
sound_read (Err e) limits origin s is_new old new thread query reply sound is kept fits same =
    subst (λ (l : List Entry). IsSound limits origin s is_new (Some l)) (sym same) sound

-- the numbers of a checkpoint that can be restored are from 2
pub first_later : (limits : Limits) (c : Checkpoint) → is_restorable limits c ≡ true
    → list_all (λ (n : NextNumber). nat_le 2 n.number) c.next ≡ true
first_later limits c fit =
    (and_parts (list_all (λ e. nat_lt 0 e.id && has_slots (filled_in e.object.body)) c.objects && threads_rise c.next)
    (list_all (λ (n : NextNumber). nat_le 2 n.number) c.next) ((restorable_whole limits c).0 fit).ordered).1

-- what follows from three facts of a result
pub all_three : {A E : Type 0} (r : Result A E) (P Q R S : A → Type 0) → ((x : A) → P x → Q x → R x → S x)
    → IfOk r P → IfOk r Q → IfOk r R → IfOk r S
all_three (Ok x) P Q R S f p q r = f x p q r
all_three (Err e) P Q R S f p q r = tt

-- a call is made
pub made_called : (k : Logged) (kernel : Kernel) (thread : ℕ) (call : Call) → k.log ≡ None
    → kernel_state kernel ≡ next (kernel_state k.kernel) thread call
    → IsMade k (record { kernel = kernel; limits = k.limits; origin = k.origin; is_new = false; log = None; most = k.most; reads = k.reads }) thread call
made_called k kernel thread call none stepped = record {
  state = stepped;
  limits = refl;
  origin = refl;
  called = refl;
  log = sym (ap (option_map (with_call (start_of k.limits k.origin) thread call)) none);
  most = refl;
  reads = refl;
}

pub made_kept : (k : Logged) (kernel : Kernel) (thread : ℕ) (call : Call) (old new : List Entry) → k.log ≡ Some old
    → kernel_state kernel ≡ next (kernel_state k.kernel) thread call
    → new ≡ with_call (start_of k.limits k.origin) thread call old
    → IsMade k (record { kernel = kernel; limits = k.limits; origin = k.origin; is_new = false; log = Some new; most = k.most; reads = k.reads }) thread call
made_kept k kernel thread call old new some stepped items = record {
  state = stepped;
  limits = refl;
  origin = refl;
  called = refl;
  log = ap Some items ∙ sym (ap (option_map (with_call (start_of k.limits k.origin) thread call)) some);
  most = refl;
  reads = refl;
}

-- a checkpoint of the kernel as it stands
pub writes : (k : Logged) (made : Checkpoint) (next : List NextNumber) → (kernel_state k.kernel).limits ≡ k.limits
    → restored (kernel_state k.kernel).limits made ≡ kernel_state k.kernel → made.next ≡ next
    → restore_refusal (kernel_state k.kernel).limits made ≡ None → AreNumbered k next → Writes k made
writes k made next same state numbers fit numbered = record {
  state = ap (λ (l : Limits). restored l made) (sym same) ∙ state;
  fit = (unrefused k.limits made (ap (λ (l : Limits). restore_refusal l made) (sym same) ∙ fit)).1;
  numbers = λ t below. ap (λ ns. number_of ns t) numbers ∙ numbered t below;
}

-- Where a replay stops, and what it has told then.
use Rattle.std.proofs.Common.{◌≡◌, ℕ, ◌+◌, ◌≤◌, ◌<◌, Bool, true, false, List, [], ◌∷◌, ◌++◌, length, take, drop, get_or}
use Rattle.std.proofs.Common.{refl, sym, ap, ◌∙◌, subst, arith, append_assoc, inl, inr}
use Rattle.std.proofs.lemmas.List.{append-nil, length-take-le, take-append-drop, take_all, drop_more}
use Rattle.kernel_rules.specs.Events.{Event}
use Rattle.kernel_rules.specs.History.{Start, state_from}
use Rattle.kernel_rules.specs.Scratch.{scratch}
use Rattle.kernel_rules.specs.Tables.{TableLists}
use Rattle.plain_core.specs.Kernel.{kernel_state}
use Rattle.dump_text.specs.Lists.{DumpLists, dump_with}
use Rattle.dump_text.specs.Whole.{start_with, placed}
use Rattle.dump_text.specs.Reads.{are_placed}
use Rattle.dump_text.specs.declared.tables.PlacedRead.{PlacedRead}
use Rattle.dump_text.proofs.Placing.{placed_parts, placed_from}
use Rattle.auditor.specs.Replay.{thread_after, true_read, true_reads_after, true_reads, TakesAll}
use Rattle.auditor.specs.Told.{HasNoNumber, StopsBetween, TellsAll, IsTold}
use Rattle.auditor.specs.declared.replays.Replay.{Replay}
use Rattle.auditor.proofs.SplitLaws.{lower, reads_front}

-- a replay that stays as it is at an event without a number stops there
pub stops_at : (start : Start) (events : List Event) (from to place : ℕ) (e : Event) (was now : Replay)
    → from ≤ place → place < to → to ≤ length events → e ≡ get_or events place e → TakesAll start (take place events) was
    → (now ≡ was) × HasNoNumber start was.events.items e → StopsBetween start events from to now
stops_at start events from to place e was now late early within is takes stop = record {
  place = place;
  late = late;
  early = early;
  takes = subst (λ (r : Replay). TakesAll start (take place events) r) (sym stop.0) takes;
  event = e;
  rest = drop (place + 1) events;
  events_are = sym (take-append-drop place events)
      ∙ ap (λ (l : List Event). take place events ++ l) (drop_more events place e (omega (arith, early, within))
      ∙ ap (λ (x : Event). x ∷ drop (place + 1) events) (sym is));
  number = subst (λ (l : List Event). HasNoNumber start l e) takes.all stop.1;
}

-- reads have their places up to a later one too
raised : (first last further : ℕ) (rs : List PlacedRead) → last ≤ further → are_placed first last rs ≡ true
    → are_placed first further rs ≡ true
raised first last further [] le h = refl
raised first last further (r ∷ rs) le h =
    let p = placed_parts first last r rs h in
    let high = p.high in
    placed_from first further r rs p.low (omega (arith, le, high)) (raised r.place last further rs le p.rest)

-- one read more
pub placed_push : (first last : ℕ) (rs : List PlacedRead) (r : PlacedRead) → first ≤ last → last ≤ r.place
    → are_placed first last rs ≡ true → are_placed first r.place (rs ++ r ∷ []) ≡ true
placed_push first last [] r low le h = placed_from first r.place r [] (omega (arith, low, le)) (omega arith) refl
placed_push first last (x ∷ rs) r low le h =
    let p = placed_parts first last x rs h in
    let high = p.high in
    placed_from first r.place x (rs ++ r ∷ []) p.low (omega (arith, le, high)) (placed_push x.place last rs r high le p.rest)

-- what is told with one read more
pub told_more : (start : Start) (events : List Event) (place thread own : ℕ) (front more old new : List PlacedRead) (r x : PlacedRead)
    → more ≡ front ++ r ∷ [] → new ≡ old ++ x ∷ [] → own ≡ thread_after place thread r → x ≡ true_read start events own r
    → ((rest : List PlacedRead) → old ++ true_reads_after start events place thread rest ≡ true_reads start events (front ++ rest))
    → (rest : List PlacedRead) → new ++ true_reads_after start events r.place own rest ≡ true_reads start events (more ++ rest)
told_more start events place thread own front more old new r x more_is new_is own_is x_is told rest =
    ap (λ (l : List PlacedRead). l ++ true_reads_after start events r.place own rest) new_is
    ∙ append_assoc old (x ∷ []) (true_reads_after start events r.place own rest)
    ∙ (λ i. old ++ ((x_is ∙ ap (λ (t : ℕ). true_read start events t r) own_is) i ∷ true_reads_after start events r.place (own_is i) rest))
    ∙ told (r ∷ rest)
    ∙ ap (true_reads start events) (sym (append_assoc front (r ∷ []) rest) ∙ ap (λ (l : List PlacedRead). l ++ rest) (sym more_is))

-- what is told where none comes after it
pub told_so : (start : Start) (events : List Event) (place thread : ℕ) (front old : List PlacedRead)
    → ((rest : List PlacedRead) → old ++ true_reads_after start events place thread rest ≡ true_reads start events (front ++ rest))
    → old ≡ true_reads start events front
told_so start events place thread front old told =
    sym (append-nil old) ∙ told [] ∙ ap (true_reads start events) (append-nil front)

-- one that stopped has told the reads up to there
pub told_part : (start : Start) (events : List Event) (reads rs later told : List PlacedRead) (from to : ℕ) (r : Replay)
    → reads ≡ rs ++ later → are_placed 0 from rs ≡ true → are_placed to (length events) later ≡ true → to ≤ length events
    → StopsBetween start events from to r → told ≡ true_reads start events rs → TellsAll start events reads r told
told_part start events reads rs later told from to r reads_are front back within s are =
    let early = s.early in
    let es = take s.place events in
    let long : length es ≡ s.place = length-take-le s.place events (omega (arith, early, within)) in
    let placed : are_placed 0 (length es) rs ≡ true =
    subst (λ (n : ℕ). are_placed 0 n rs ≡ true) (sym long) (raised 0 from s.place rs s.late front) in
    record {
      es = es;
      rs = rs;
      are = inr (record {
        event = s.event;
        rest = s.rest;
        later = later;
        events_are = s.events_are;
        reads_are = reads_are;
        placed = placed;
        past = lower (length es + 1) to (length events) later (omega (arith, early, long)) back;
        number = s.number;
      });
      takes = s.takes;
      reads_are = are ∙ ap (λ (l : List Event). true_reads start l rs) s.events_are
          ∙ reads_front start es (s.event ∷ s.rest) 0 0 0 rs placed;
    }

-- one that came to the last read has told all, or stopped after it
pub told_end : (start : Start) (events : List Event) (reads told : List PlacedRead) (from : ℕ) (all : Bool) (r : Replay)
    → are_placed 0 from reads ≡ true → told ≡ true_reads start events reads
    → (all ≡ true → TakesAll start (take (length events) events) r)
    → (all ≡ false → StopsBetween start events from (length events) r) → TellsAll start events reads r told
told_end start events reads told from true r front are whole stops = record {
  es = events;
  rs = reads;
  are = inl (refl, refl);
  takes = subst (λ (l : List Event). TakesAll start l r) (take_all (length events) events (omega arith)) (whole refl);
  reads_are = are;
}
told_end start events reads told from false r front are whole stops =
    told_part start events reads reads [] told from (length events) r (sym (append-nil reads)) front refl (omega arith) (stops refl) are

-- the dump of what was told, with the tables of the kernel
pub told_dump : (d whole : DumpLists) (tables : TableLists) (told : List PlacedRead) (r : Replay)
    → TellsAll (start_with d.limits d.checkpoint) d.events d.reads r told → tables ≡ scratch (kernel_state r.kernel)
    → whole ≡ dump_with d.limits d.checkpoint r.events.items told (placed tables) → IsTold d whole
told_dump d whole tables told r tells tables_are whole_is =
    let state = tables_are ∙ ap scratch (tells.takes.replay.state
    ∙ ap (λ (l : List Event). state_from (start_with d.limits d.checkpoint).state l) tells.takes.all) in
    record {
      es = tells.es;
      rs = tells.rs;
      are = tells.are;
      told_is = whole_is
          ∙ (λ i. dump_with d.limits d.checkpoint (tells.takes.all i) (tells.reads_are i) (placed (state i)));
    }

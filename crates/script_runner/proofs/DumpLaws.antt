-- The dump of a run: its first events are told by their checkpoint, and the others follow from there.
use Rattle.std.proofs.Common.{◌≡◌, ℕ, Bool, true, if◌then◌else◌, List, Option, Some, min, length}
use Rattle.std.proofs.Common.{take, drop, Result, Ok, Err, IfOk}
use Rattle.std.proofs.Common.{sym, ap, ◌∙◌, subst}
use Rattle.std.specs.Option.{IfSome}
use Rattle.std.proofs.lemmas.List.{take-append-drop}
use Rattle.base.specs.declared.ranges.Limits.{Limits}
use Rattle.checkpoints.specs.Checkpoint.{Checkpoint}
use Rattle.checkpoints.specs.Laws.{LaterAreLegal}
use Rattle.checkpoints.specs.Restorable.{is_restorable}
use Rattle.checkpoints.specs.Starts.{start_of, IsCheckpointOf}
use Rattle.dump_text.specs.Dump.{dump_text, IsDump}
use Rattle.dump_text.specs.Fits.{FitsWords}
use Rattle.dump_text.specs.Line.{IsBootable}
use Rattle.dump_text.specs.Reads.{have_places}
use Rattle.dump_text.specs.Whole.{AreRead, CanBegin, IsAnsweredRightly, start_with, whole_dump}
use Rattle.dump_text.specs.declared.tables.PlacedRead.{PlacedRead}
use Rattle.std.specs.List.{AllByRecursion}
use Rattle.kernel_rules.proofs.LaterLaws.{state_from-append}
use Rattle.kernel_rules.specs.Events.{Event}
use Rattle.kernel_rules.specs.History.{IsLegal, IsLegalFrom, state_from, state_of}
use Rattle.kernel_rules.specs.Runs.{booted}
use Rattle.kernel_rules.specs.Scratch.{scratch}
use Rattle.kernel_rules.specs.Tables.{TableLists}
use Rattle.script_runner.specs.Dumps.{are_given, folded, if_given, IsPlayed, IsRunDump}
use Rattle.script_runner.specs.Reads.{told_reads}
use Rattle.script_runner.specs.declared.reads.SeenRead.{SeenRead}
use Rattle.script_runner.proofs.ReadLaws.{told_are}

-- from the checkpoint of the first events the others lead to the state of all
same_state : (limits : Limits) (events : List Event) (k : ℕ) (c : Checkpoint) → IsCheckpointOf limits (take k events) c
    → state_from (start_of limits c).state (drop k events) ≡ state_of limits events
same_state limits events k c made =
    ap (λ s. state_from s (drop k events)) made.state ∙ sym (state_from-append (booted limits) (take k events) (drop k events))
    ∙ ap (state_from (booted limits)) (take-append-drop k events)

pub same_tables : (limits : Limits) (events : List Event) (k : ℕ) (c : Checkpoint) (tables : TableLists)
    → IsCheckpointOf limits (take k events) c → IsPlayed limits events tables
    → tables ≡ scratch (state_from (start_of limits c).state (drop k events))
same_tables limits events k c tables made played = played.1.1 ∙ ap scratch (sym (same_state limits events k c made))

-- and they are legal from there
pub later_legal : LaterAreLegal → (limits : Limits) (events : List Event) (k : ℕ) (c : Checkpoint)
    → IsCheckpointOf limits (take k events) c → IsLegal limits events → IsLegalFrom (start_of limits c) (drop k events)
later_legal law limits events k c made legal =
    law limits c (take k events) (drop k events) made
    (subst (λ (l : List Event). IsLegal limits l) (sym (take-append-drop k events)) legal)

-- where the threads of the first events were given, as many are folded as are asked for or all, and else none
pub folds : (limits : Limits) (n k : ℕ) (events : List Event) (b : Bool) → k ≡ min n (length events)
    → are_given limits (take k events) ≡ b → folded limits n events ≡ (if b then k else 0)
folds limits n k events b k_is is = ap (λ (m : ℕ). if_given limits m events) (sym k_is) ∙ ap (λ (v : Bool). if v then k else 0) is

pub run_dump : LaterAreLegal → (limits : Limits) (n k : ℕ) (events : List Event) (reads : List SeenRead) (tables : TableLists)
    (c : Checkpoint) (bytes : List ℕ) → IsPlayed limits events tables → folded limits n events ≡ k
    → IsCheckpointOf limits (take k events) c → is_restorable limits c ≡ true
    → IsDump bytes (whole_dump limits (Some c) (drop k events) (told_reads limits k events reads))
    → IsRunDump limits n events reads bytes
run_dump law limits n k events reads tables c bytes played k_is made can told = record {
  checkpoint = c;
  legal = played.1.0;
  made = subst (λ (j : ℕ). IsCheckpointOf limits (take j events) c) (sym k_is) made;
  told = subst (λ (j : ℕ). IsDump bytes (whole_dump limits (Some c) (drop j events) (told_reads limits j events reads)))
      (sym k_is) told;
  dump = (
    played.0,
    can,
    (
      drop k events,
      told_reads limits k events reads,
      later_legal law limits events k c made played.1.0,
      told_are limits events k c reads made,
      told,
    ),
  );
}

-- that the dump of legal events, and of reads that the rules answer so, is a dump, where its values fit their words
abbrev pub LegalIsDump : Type 0
LegalIsDump = (limits : Limits) (c : Option Checkpoint) (events : List Event) (reads : List PlacedRead) → IsBootable limits
    → CanBegin limits c → IsLegalFrom (start_with limits c) events
    → AllByRecursion (IsAnsweredRightly (start_with limits c) events) reads → have_places c events reads ≡ true
    → FitsWords (whole_dump limits c events reads)
    → IsDump (dump_text (whole_dump limits c events reads)) (whole_dump limits c events reads)

-- what is written of these events and reads is their dump
pub dumped : LegalIsDump → (limits : Limits) (c : Checkpoint) (events written : List Event) (reads : List PlacedRead)
    (bytes : List ℕ) → IsBootable limits → is_restorable limits c ≡ true → IsLegalFrom (start_of limits c) events
    → AreRead (start_of limits c) events reads → have_places (Some c) events reads ≡ true → written ≡ events
    → bytes ≡ dump_text (whole_dump limits (Some c) written reads) → FitsWords (whole_dump limits (Some c) written reads)
    → IsDump bytes (whole_dump limits (Some c) events reads)
dumped law limits c events written reads bytes bootable can legal are placed written_are bytes_are fits =
    subst (λ (l : List Event). IsDump bytes (whole_dump limits (Some c) l reads)) written_are
    (subst (λ (b : List ℕ). IsDump b (whole_dump limits (Some c) written reads)) (sym bytes_are)
    (law limits (Some c) written reads bootable can
    (subst (λ (l : List Event). IsLegalFrom (start_of limits c) l) (sym written_are) legal)
    (subst (λ (l : List Event). AllByRecursion (IsAnsweredRightly (start_of limits c) l) reads) (sym written_are) are.answers)
    (subst (λ (l : List Event). have_places (Some c) l reads ≡ true) (sym written_are) placed) fits))

pub made_is : (limits : Limits) (o : Option Checkpoint) (c : Checkpoint) (slice events : List Event)
    → IfSome o (IsCheckpointOf limits slice) → o ≡ Some c → slice ≡ events → IsCheckpointOf limits events c
made_is limits o c slice events made is same =
    subst (λ (l : List Event). IsCheckpointOf limits l c) same
    (subst (λ (p : Option Checkpoint). IfSome p (IsCheckpointOf limits slice)) is made)

pub ok_then : {T E : Type 0} (r : Result T E) (P Q : T → Type 0) → ((x : T) → P x → Q x) → IfOk r P → IfOk r Q
ok_then (Ok x) P Q step h = step x h
ok_then (Err e) P Q step h = h

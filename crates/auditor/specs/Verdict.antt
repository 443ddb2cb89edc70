-- What an audit finds.
use Rattle.std.specs.Prelude.{◌≡◌, ℕ, ◌+◌, ◌==◌, ◌⊎◌, Bool, true, false, if◌then◌else◌, List, [], ◌∷◌, take, slice_get}
use Rattle.std.specs.Prelude.{Option, Some, None}
use Rattle.base.specs.declared.ranges.Limits.{Limits}
use Rattle.checkpoints.specs.Checkpoint.{Checkpoint}
use Rattle.checkpoints.specs.Restorable.{is_restorable}
use Rattle.dump_text.specs.Dump.{lines_of, dump_text, IsDump, DumpFaultsAt}
use Rattle.dump_text.specs.Lists.{DumpLists}
use Rattle.dump_text.specs.declared.lines.Line.{Line}
use Rattle.dump_text.specs.Whole.{start_with, whole_dump, IsLegalDump}
use Rattle.auditor.specs.Replay.{replayed, true_reads}
use Rattle.auditor.specs.declared.verdicts.Verdict.{Verdict}
use Rattle.auditor.specs.declared.verdicts.Verdict.TheVariants as is

-- the dump of a dump's own limits, checkpoint, calls and queries, with the numbers, the replies and the
-- tables of the rules, and with threads of reads that rise at each place
abbrev pub true_dump : DumpLists → DumpLists
true_dump d =
    whole_dump d.limits d.checkpoint (replayed (start_with d.limits d.checkpoint) d.events)
    (true_reads (start_with d.limits d.checkpoint) d.events d.reads)

-- whether events can begin there: a boot can, and a checkpoint where it can be restored
abbrev pub can_begin : Limits → Option Checkpoint → Bool
can_begin limits None = true
can_begin limits (Some c) = is_restorable limits c

abbrev pub begins : DumpLists → Bool
begins d = can_begin d.limits d.checkpoint

-- the first line in which two texts differ that begin in line n
abbrev pub first_difference : ℕ → List ℕ → List ℕ → Option ℕ
first_difference n [] [] = None
first_difference n (x ∷ xs) (y ∷ ys) =
    if x == y then first_difference (if x == 10 then n + 1 else n) xs ys else Some n
first_difference n (x ∷ xs) [] = Some n
first_difference n [] (y ∷ ys) = Some n

-- Line 3, with which a checkpoint begins, where it can't be restored. Else the first line in which the
-- bytes differ from the text of the true dump. Each event keeps its thread and its calls there, so the
-- line with its number differs where that is not the rules', and the line of a call where its reply is
-- not. The line of a read differs where its reply is not the rules', or where its thread is less than
-- that of the read line directly before it.
abbrev pub false_line : List ℕ → DumpLists → Option ℕ
false_line bytes d =
    if begins d then first_difference 1 bytes (dump_text (true_dump d)) else Some 3

-- Clean: a dump whose events can begin, and which is the true dump. False: line n is the first false one.
-- Unreadable: line n is the first at which the bytes stop being the beginning of a dump.
abbrev pub IsVerdict : List ℕ → Verdict → Type 0
IsVerdict bytes is.Clean = (d : DumpLists) × IsDump bytes d × (begins d ≡ true) × (d ≡ true_dump d)
IsVerdict bytes (is.False n) = (d : DumpLists) × IsDump bytes d × (false_line bytes d ≡ Some n)
IsVerdict bytes (is.Unreadable n) = DumpFaultsAt bytes n

-- two lists of lines differ in the line after the first i, and in none before
abbrev pub DifferAt : ℕ → List Line → List Line → Type 0
DifferAt i xs ys = (take i xs ≡ take i ys) × (slice_get xs i ≡ slice_get ys i → ⊥)

-- What false at line n means: it is the third, and the checkpoint can't be restored. Or it is the first
-- line that isn't the true dump's: where it is an event's, its number or its reply is not the rules',
-- where it is a read's, its reply is not, or its thread is less than that of the read line directly
-- before it, and else the tables' lines are others.
abbrev pub TellsFalse : List ℕ → Verdict → Type 0
TellsFalse bytes (is.False n) =
    (d : DumpLists) × IsDump bytes d
    × (((begins d ≡ false) × (n ≡ 3))
    ⊎ ((i : ℕ) × (n ≡ i + 1) × DifferAt i (lines_of d) (lines_of (true_dump d))))
TellsFalse bytes v = Unit {0}

-- the bytes are the dump of a list of events that is legal from the boot, or from a checkpoint that can
-- be restored, and of reads at their places among them, as the rules answer them
abbrev pub IsLegalText : List ℕ → Type 0
IsLegalText bytes =
    (limits : Limits) × (checkpoint : Option Checkpoint) × IsLegalDump limits checkpoint bytes

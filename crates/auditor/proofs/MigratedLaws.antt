-- The verdict on a dump that is migrated: six lines more come before its events.
use Rattle.std.proofs.Common.{◌≡◌, ℕ, ◌+◌, Bool, true, if◌then◌else◌, List, [], ◌∷◌, ◌++◌}
use Rattle.std.proofs.Common.{Option, Some, None, sym, ap, ◌∙◌, subst}
use Rattle.std.specs.Prelude.{option_map}
use Rattle.std.specs.List.{flat_map}
use Rattle.base.specs.declared.ranges.Limits.{Limits}
use Rattle.kernel_rules.specs.Events.{Event}
use Rattle.kernel_rules.specs.History.{Start, boot_start, state_from}
use Rattle.kernel_rules.specs.Scratch.{scratch}
use Rattle.call_text.specs.Text.{lines_text}
use Rattle.checkpoints.specs.Checkpoint.{Checkpoint}
use Rattle.dump_text.specs.Boot.{boot_checkpoint, migrated}
use Rattle.dump_text.specs.CheckpointLines.{start_lines}
use Rattle.dump_text.specs.Dump.{event_lines, table_lines, dump_text, IsDump}
use Rattle.dump_text.specs.Line.{line_text}
use Rattle.dump_text.specs.Lists.{TableLists, DumpLists, dump_with}
use Rattle.dump_text.specs.Whole.{placed}
use Rattle.dump_text.specs.declared.lines.Format.TheVariants as formats
use Rattle.dump_text.specs.declared.lines.Line.{Line}
use Rattle.dump_text.specs.declared.lines.Line.TheVariants as lines
use Rattle.dump_text.specs.Reads.{have_places}
use Rattle.dump_text.proofs.Migration.{boot_state, boot_restorable}
use Rattle.dump_text.proofs.Placing.{first_unread}
use Rattle.auditor.specs.Replay.{replayed}
use Rattle.auditor.specs.Migrated.{IsMigrated}
use Rattle.auditor.specs.Verdict.{true_dump, first_difference, false_line, IsVerdict}
use Rattle.auditor.specs.declared.verdicts.Verdict.TheVariants as is
use Rattle.auditor.proofs.DifferenceLaws.{differ_later}
use Rattle.auditor.proofs.LineLaws.{after_all}

-- the lines of events and tables, to the end
abbrev later_lines : List Event → TableLists → List Line
later_lines events tables = (flat_map event_lines events ++ table_lines tables) ++ lines.End ∷ []

-- those of the calls of these events from a start, by the rules
abbrev true_lines : Start → List Event → List Line
true_lines start events =
    later_lines (replayed start events) (placed (scratch (state_from start.state (replayed start events))))

-- the first line in which the events and the tables, which begin in line n, are not those of the rules after a boot
abbrev difference_from : ℕ → DumpLists → Option ℕ
difference_from n d =
    first_difference n (lines_text line_text (later_lines d.events d.tables))
    (lines_text line_text (true_lines (boot_start d.limits) d.events))

-- the dump in format 1
abbrev in_first_format : DumpLists → DumpLists
in_first_format d = dump_with d.limits None d.events [] d.tables

-- the false line of a dump of format 1, whose events begin in line 3
first_format_line : (bytes : List ℕ) (d : DumpLists) → IsDump bytes (in_first_format d)
    → false_line bytes (in_first_format d) ≡ difference_from 3 d
first_format_line bytes d is =
    ap (λ (t : List ℕ). first_difference 1 t (dump_text (true_dump (in_first_format d)))) is.spelled.bytes_are
    ∙ after_all 1 (lines.Version formats.One ∷ lines.Limits d.limits ∷ []) (later_lines d.events d.tables)
    (true_lines (boot_start d.limits) d.events) is.spelled.fit

-- what stands before the events of a dump that begins at the checkpoint of the boot
abbrev first_lines : Limits → List Line
first_lines l = lines.Version formats.Two ∷ lines.Limits l ∷ start_lines (Some (boot_checkpoint l))

-- its false line, where its events begin in line 9
migrated_line : (out : List ℕ) (d : DumpLists) → IsDump out (migrated d)
    → false_line out (migrated d) ≡ difference_from 9 d
migrated_line out d is =
    ap (λ (b : Bool). if b then first_difference 1 out (dump_text (true_dump (migrated d))) else Some 3)
    (boot_restorable d.limits is.spelled.fit.1.0.1)
    ∙ ap (λ (t : List ℕ). first_difference 1 t (dump_text (true_dump (migrated d)))) is.spelled.bytes_are
    ∙ ap (λ (s : Start). first_difference 1
    (lines_text line_text (first_lines d.limits ++ later_lines d.events d.tables))
    (lines_text line_text (first_lines d.limits ++ true_lines s d.events))) (boot_state d.limits)
    ∙ after_all 1 (first_lines d.limits) (later_lines d.events d.tables)
    (true_lines (boot_start d.limits) d.events) is.spelled.fit

-- bytes spell one dump
abbrev pub SpellOne : List ℕ → Type 0
SpellOne bytes = (a b : DumpLists) → IsDump bytes a → IsDump bytes b → a ≡ b

-- a dump without a checkpoint is one of format 1
first_format : (bytes : List ℕ) (d : DumpLists) → d.checkpoint ≡ None → IsDump bytes d → d ≡ in_first_format d
first_format bytes d none is =
    let unread = first_unread d.events d.reads (subst (λ (c : Option Checkpoint). have_places c d.events d.reads ≡ true) none is.placed) in
    λ i. dump_with d.limits (none i) d.events (unread i) d.tables

-- the migrated dump's false line is that of the bytes, six lines further down
false_later : (bytes out : List ℕ) (line : Option ℕ) (d e : DumpLists) → SpellOne bytes → d.checkpoint ≡ None
    → IsDump bytes d → IsDump out (migrated d) → IsDump bytes e → false_line bytes e ≡ line
    → false_line out (migrated d) ≡ option_map (λ (n : ℕ). n + 6) line
false_later bytes out line d e one none is out_is e_is e_line =
    let first = first_format bytes d none is in
    let same : e ≡ in_first_format d = one e d e_is is ∙ first in
    let first_is : IsDump bytes (in_first_format d) = subst (λ (x : DumpLists). IsDump bytes x) first is in
    migrated_line out d out_is
    ∙ differ_later 6 3 (lines_text line_text (later_lines d.events d.tables))
    (lines_text line_text (true_lines (boot_start d.limits) d.events))
    ∙ ap (option_map (λ (n : ℕ). n + 6)) (sym (first_format_line bytes d first_is) ∙ ap (false_line bytes) (sym same) ∙ e_line)

-- the migrated dump is the true one where that of format 1 is
true_later : (d : DumpLists) → in_first_format d ≡ true_dump (in_first_format d) → migrated d ≡ true_dump (migrated d)
true_later d first =
    let events : d.events ≡ replayed (boot_start d.limits) d.events = ap (λ (x : DumpLists). x.events) first in
    let tables : d.tables ≡ placed (scratch (state_from (boot_start d.limits).state (replayed (boot_start d.limits) d.events))) =
    ap (λ (x : DumpLists). x.tables) first in
    (λ i. dump_with d.limits (Some (boot_checkpoint d.limits)) (events i) [] (tables i))
    ∙ ap (λ (s : Start). dump_with d.limits (Some (boot_checkpoint d.limits)) (replayed s d.events) []
    (placed (scratch (state_from s.state (replayed s d.events))))) (sym (boot_state d.limits))

-- clean where it was clean
pub migrated_clean : (bytes out : List ℕ) → SpellOne bytes → IsMigrated bytes out → IsVerdict bytes is.Clean
    → IsVerdict out is.Clean
migrated_clean bytes out one m v =
    let same : v.0 ≡ in_first_format m.0 = one v.0 m.0 v.1 m.2 ∙ first_format bytes m.0 m.1 m.2 in
    let first_true : in_first_format m.0 ≡ true_dump (in_first_format m.0) = subst (λ (x : DumpLists). x ≡ true_dump x) same v.3 in
    (migrated m.0, m.3, boot_restorable m.0.limits m.3.spelled.fit.1.0.1, true_later m.0 first_true)

-- false six lines further down where it was false
pub migrated_false : (bytes out : List ℕ) (n : ℕ) → SpellOne bytes → IsMigrated bytes out
    → IsVerdict bytes (is.False n) → IsVerdict out (is.False (n + 6))
migrated_false bytes out n one m v =
    (migrated m.0, m.3, false_later bytes out (Some n) m.0 v.0 one m.1 m.2 m.3 v.1 v.2)

-- The events of a dump have 1 to 16 calls each.
use Rattle.std.proofs.Common.{◌≡◌, ℕ, ◌+◌, ◌≤◌, true, List, [], ◌∷◌, ◌++◌, map, length, refl, subst, arith}
use Rattle.std.specs.List.{AllByRecursion}
use Rattle.std.proofs.lemmas.Bool.{le-leb}
use Rattle.kernel_rules.specs.Events.{Event}
use Rattle.kernel_rules.specs.History.{is_batch}
use Rattle.kernel_rules.specs.declared.histories.events.Answered.{Answered}
use Rattle.dump_text.specs.declared.lines.Line.TheVariants as lines
use Rattle.dump_text.specs.Lists.{DumpLists}
use Rattle.dump_text.specs.Line.{IsLine}
use Rattle.dump_text.specs.CheckpointLines.{start_lines}
use Rattle.dump_text.specs.Dump.{lines_with, event_lines, told_lines, history_lines, lines_of, table_lines}
use Rattle.dump_text.specs.Reads.{read_line, reads_at, reads_past}
use Rattle.dump_text.specs.declared.lines.Line.{Line}
use Rattle.dump_text.specs.declared.tables.PlacedRead.{PlacedRead}
use Rattle.dump_text.proofs.Placing.{history_told}
use Rattle.dump_text.proofs.RestorableLines.{all_front, all_behind}

lines_batch : (t n : ℕ) (calls : List Answered) → AllByRecursion IsLine (lines_with t n calls) → is_batch calls ≡ true
lines_batch t n [] fit = let many = fit.0.1.0 in absurd (omega (arith, many))
lines_batch t n (a ∷ []) fit = refl
lines_batch t n (a ∷ b ∷ calls) fit =
    let most : length (a ∷ b ∷ calls) ≤ 16 = fit.0.1.1 in
    let some : 1 ≤ length (a ∷ b ∷ calls) = omega arith in
    rw (le-leb 1 (length (a ∷ b ∷ calls)) some, le-leb (length (a ∷ b ∷ calls)) 16 most) refl

events_batches : (es : List Event) (place : ℕ) (rs : List PlacedRead) → AllByRecursion IsLine (told_lines place es rs) → AllByRecursion (λ (e : Event). is_batch e.calls ≡ true) es
events_batches [] place rs fit = tt
events_batches (e ∷ es) place rs fit =
    let later = told_lines (place + 1) es (reads_past place rs) in
    let rest = all_behind IsLine (map read_line (reads_at place rs)) (event_lines e ++ later) fit in (
      lines_batch e.thread e.number e.calls (all_front IsLine (event_lines e) later rest),
      events_batches es (place + 1) (reads_past place rs) (all_behind IsLine (event_lines e) later rest),
    )

pub lines_batches : (d : DumpLists) → AllByRecursion IsLine (lines_of d) → AllByRecursion (λ (e : Event). is_batch e.calls ≡ true) d.events
lines_batches d fit =
    let body = history_lines d.events d.reads ++ table_lines d.tables in
    events_batches d.events 0 d.reads
    (subst (λ (ls : List Line). AllByRecursion IsLine ls) (history_told d.events d.reads)
    (all_front IsLine (history_lines d.events d.reads) (table_lines d.tables)
    (all_behind IsLine (start_lines d.checkpoint) body
    (all_front IsLine (start_lines d.checkpoint ++ body) (lines.End ∷ []) fit.1.1))))

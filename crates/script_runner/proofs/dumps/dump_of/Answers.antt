use Rattle.std.proofs.Common.{◌≡◌, true, List, Some, drop, sym, ap, ◌∙◌, subst}
use Rattle.checkpoints.specs.Starts.{start_of}
use Rattle.dump_text.specs.Dump.{IsDump}
use Rattle.dump_text.specs.Reads.{have_places}
use Rattle.dump_text.specs.Whole.{AreRead, whole_dump}
use Rattle.dump_text.specs.declared.tables.PlacedRead.{PlacedRead}
use Rattle.kernel_rules.specs.Events.{Event}
use Rattle.kernel_rules.specs.History.{IsLegalFrom, state_from}
use Rattle.kernel_rules.specs.Scratch.{scratch}
use Rattle.script_runner.specs.Dumps.{IsRunDump}
use Rattle.script_runner.specs.Reads.{told_reads}
use Rattle.script_runner.proofs.DumpLaws.{later_legal, ok_then, run_dump, same_tables}
use Rattle.script_runner.proofs.ReadLaws.{told_are, told_places}
use Rattle.script_runner.proofs.dumps.dump_of.Goals as goal

pub dump_from-requires-clause-legal : goal.dump_from-requires-clause-legal
dump_from-requires-clause-legal c =
    let limits = c.args.limits.now in
    let from = c.in_ok-count.field-0 in
    subst (λ (l : List Event). IsLegalFrom (start_of limits from.checkpoint) l) (sym c.split_at.ensures.back)
    (later_legal c.later_are_legal.ensures limits c.args.events.now from.count from.checkpoint c.in_ok-count.ensures.made c.requires.1.0)

pub dump_from-requires-clause-reads : goal.dump_from-requires-clause-reads
dump_from-requires-clause-reads c =
    let limits = c.args.limits.now in
    let events = c.args.events.now in
    let from = c.in_ok-count.field-0 in
    subst (λ (rs : List PlacedRead). AreRead (start_of limits from.checkpoint) c.split_at.result.1.now rs) (sym c.in_ok-told.ensures)
    (subst (λ (l : List Event). AreRead (start_of limits from.checkpoint) l (told_reads limits from.count events c.args.reads.now))
    (sym c.split_at.ensures.back) (told_are limits events from.count from.checkpoint c.args.reads.now c.in_ok-count.ensures.made))

pub dump_from-requires-clause-places : goal.dump_from-requires-clause-places
dump_from-requires-clause-places c =
    let limits = c.args.limits.now in
    let events = c.args.events.now in
    let from = c.in_ok-count.field-0 in
    subst (λ (rs : List PlacedRead). have_places (Some from.checkpoint) c.split_at.result.1.now rs ≡ true) (sym c.in_ok-told.ensures)
    (subst (λ (l : List Event). have_places (Some from.checkpoint) l (told_reads limits from.count events c.args.reads.now) ≡ true)
    (sym c.split_at.ensures.back) (told_places limits events from.count from.checkpoint c.args.reads.now))

pub dump_from-requires-clause-tables : goal.dump_from-requires-clause-tables
dump_from-requires-clause-tables c =
    let limits = c.args.limits.now in
    let from = c.in_ok-count.field-0 in
    same_tables limits c.args.events.now from.count from.checkpoint c.args.tables c.in_ok-count.ensures.made c.requires
    ∙ ap (λ (l : List Event). scratch (state_from (start_of limits from.checkpoint).state l)) (sym c.split_at.ensures.back)

pub returns : goal.returns
returns c =
    let limits = c.args.limits.now in
    let events = c.args.events.now in
    let reads = c.args.reads.now in
    let from = c.in_ok-count.field-0 in
    ok_then c.dump_from.result (λ bytes. IsDump bytes.items (whole_dump limits (Some from.checkpoint) c.split_at.result.1.now c.in_ok-told.told.items))
    (λ bytes. IsRunDump limits c.args.first events reads bytes.items)
    (λ bytes told. run_dump c.later_are_legal.ensures limits c.args.first from.count events reads c.args.tables from.checkpoint bytes.items
    c.requires c.in_ok-count.ensures.folded c.in_ok-count.ensures.made c.in_ok-count.ensures.restorable
    (subst (λ (rs : List PlacedRead). IsDump bytes.items (whole_dump limits (Some from.checkpoint) (drop from.count events) rs)) c.in_ok-told.ensures
    (subst (λ (l : List Event). IsDump bytes.items (whole_dump limits (Some from.checkpoint) l c.in_ok-told.told.items)) c.split_at.ensures.back told)))
    c.dump_from.ensures

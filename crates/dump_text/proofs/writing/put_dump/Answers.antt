use Rattle.std.proofs.Common.{◌++◌, ◌∷◌, [], ap, ◌∙◌}
use Rattle.dump_text.specs.CheckpointLines.{start_lines}
use Rattle.dump_text.specs.Dump.{history_lines, table_lines, format_of}
use Rattle.dump_text.specs.Line.{line_text}
use Rattle.dump_text.specs.declared.lines.Format.{Format}
use Rattle.dump_text.specs.declared.lines.Line.TheVariants as lines
use Rattle.dump_text.proofs.EventLines.{put_lines}
use Rattle.dump_text.proofs.writing.put_dump.Goals as goal

pub returns-clause-text : goal.returns-clause-text
returns-clause-text c =
    put_lines (lines.Version (format_of c.args.checkpoint.now)) (lines.Limits c.args.limits.now) lines.End
    (start_lines c.args.checkpoint.now) (history_lines c.args.events.now c.args.reads.now) (table_lines c.args.tables.now)
    c.args.out.now.items c.put_line.new.out.items c.put_line-2.new.out.items c.put_start.new.out.items c.put_history.new.out.items c.put_tables.new.out.items c.put_line-3.new.out.items
    (c.in_ok-put_line.ensures.text ∙ ap (λ (f : Format). c.args.out.now.items ++ (line_text (lines.Version f) ++ 10 ∷ [])) c.format_of.ensures)
    c.in_ok-put_line-2.ensures.text c.in_ok-put_start.ensures.text c.in_ok-put_history.ensures.text c.in_ok-put_tables.ensures.text c.in_ok-put_line-3.ensures.text

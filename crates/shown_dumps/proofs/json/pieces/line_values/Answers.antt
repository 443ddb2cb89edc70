use Rattle.std.proofs.Common.{◌+◌, ◌++◌, map, ap, sym, ◌∙◌, arith}
use Rattle.std.proofs.lemmas.List.{append-nil}
use Rattle.serde_json.specs.View.{view}
use Rattle.shown_dumps.specs.Json.{line_data, lines_data}
use Rattle.shown_dumps.specs.Pieces.{lines_of}
use Rattle.shown_dumps.proofs.PieceLaws.{next_line, last_line}
use Rattle.shown_dumps.proofs.ValueLaws.{one_more}
use Rattle.shown_dumps.proofs.json.pieces.line_values.Goals as goal

pub lines-preserved : goal.lines-preserved
lines-preserved c = record {
  told = one_more c.lines.values.items c.push.new.list.items c.in_ok-line_value.field-0
      (line_data c.lines.number c.in-Some.line.now) (lines_data (c.lines.number + 1) (lines_of c.in-Some.more.now))
      (lines_data 1 (lines_of c.args.text.now)) c.in_ok-push.ensures.ok c.in_ok-line_value.ensures
      (ap (λ l. map view c.lines.values.items ++ lines_data c.lines.number l)
      (sym (next_line c.lines.rest.now c.in-Some.line.now c.in-Some.more.now c.in-Some.ensures.parts c.in-Some.ensures.first))
      ∙ c.lines.invariant.told);
  few = omega (arith, c.lines.invariant.few, c.in-Some.ensures.shorter);
}

pub returns : goal.returns
returns c =
    sym (append-nil (map view c.lines.values.items))
    ∙ ap (λ l. map view c.lines.values.items ++ lines_data c.lines.number l)
    (sym (last_line c.lines.rest.now c.in_default.ensures.none))
    ∙ c.lines.invariant.told

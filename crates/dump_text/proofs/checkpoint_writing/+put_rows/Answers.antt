use Rattle.std.proofs.Common.{ℕ, ◌++◌, ◌∷◌, [], List, map, ap, sym, ◌∙◌, subst}
use Rattle.std.specs.List.{AllByRecursion}
use Rattle.call_text.specs.Text.{lines_text}
use Rattle.dump_text.specs.CheckpointLines.{row_line}
use Rattle.dump_text.specs.Fits.{FitsLine}
use Rattle.dump_text.specs.Line.{line_text}
use Rattle.dump_text.proofs.Joined.{rows_step}
use Rattle.dump_text.proofs.WordLemmas.{put_two}
use Rattle.dump_text.proofs.checkpoint_writing.+put_rows.Goals as goal

pub returns-clause-text : goal.returns-clause-text
returns-clause-text t c =
    let step = rows_step c.args.count c.args.bytes.now c.min-cut.result c.if-count-eq0.false c.min-cut.ensures in
    let line = c.in_ok-put_line.ensures.text ∙ ap (λ (r : List ℕ). c.args.out.now.items ++ (line_text (row_line r) ++ 10 ∷ [])) c.from_slice.ensures in
    put_two c.args.out.now.items c.put_line.new.out.items c.put_rows.new.out.items _ _ line c.in_ok-put_rows.ensures.text
    ∙ ap (λ (rs : List (List ℕ)). c.args.out.now.items ++ lines_text line_text (map row_line rs)) (sym step)

pub returns-clause-fits : goal.returns-clause-fits
returns-clause-fits t c =
    let step = rows_step c.args.count c.args.bytes.now c.min-cut.result c.if-count-eq0.false c.min-cut.ensures in
    subst (λ (rs : List (List ℕ)). AllByRecursion FitsLine (map row_line rs)) (sym step)
    (subst (λ (r : List ℕ). FitsLine (row_line r)) c.from_slice.ensures c.in_ok-put_line.ensures.fits, c.in_ok-put_rows.ensures.fits)

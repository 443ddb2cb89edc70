use Rattle.std.proofs.Common.{◌≡◌, ◌∙◌, refl, ap, subst}
use Rattle.call_text.specs.Text.{lines_text}
use Rattle.dump_text.specs.Fits.{FitTables}
use Rattle.dump_text.specs.Line.{line_text}
use Rattle.dump_text.specs.Pieces.{tail_lines}
use Rattle.dump_text.specs.Whole.{placed}
use Rattle.kernel_rules.specs.History.{state_from}
use Rattle.kernel_rules.specs.Scratch.{scratch}
use Rattle.kernel_rules.specs.Tables.{TableLists}
use Rattle.shared_calls.specs.Dumps.{events_in, state_in}
use Rattle.shared_calls.proofs.TellingLaws.{all_told}
use Rattle.shared_calls.proofs.tellings.tell_tables.Goals as goal

pub returns : goal.returns
returns c =
    let t = c.args.telling.now in
    let was = c.requires.telling in
    let tables : c.in_ok-tables.tables ≡ scratch (state_from (state_in t) (events_in t)) =
    c.in_ok-tables.ensures ∙ ap scratch (was.journal.state ∙ ap (state_from (state_in t)) (all_told t was c.compare.ensures c.requires.all)) in
    record {
      telling = record {
        list = was.list;
        whole = was.whole;
        placed = was.placed;
        ended = was.ended;
        begun = was.begun;
        within = was.within;
        range = was.range;
        fit = was.fit;
        anew = was.anew;
        journal = record { legal = was.journal.legal; state = was.journal.state; counts = was.journal.counts };
      };
      same = (refl, refl, refl, refl);
      count = refl;
      text = c.in_ok-text.ensures.text ∙ ap (λ (k : TableLists). lines_text line_text (tail_lines (placed k))) tables;
      fits = subst (λ (k : TableLists). FitTables (placed k)) tables c.in_ok-text.ensures.fits;
    }

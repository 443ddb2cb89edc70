use Rattle.std.proofs.Common.{List, [], refl, arith, sym, subst}
use Rattle.std.specs.Arc.{arc_value}
use Rattle.checkpoints.specs.Restored.{restored}
use Rattle.kernel_rules.specs.State.{State}
use Rattle.shared_calls.specs.Events.{IsJournal}
use Rattle.shared_calls.specs.declared.rules.Made.{Made}
use Rattle.shared_calls.proofs.BeginningLaws.{nothing_after}
use Rattle.shared_calls.proofs.beginnings.begin_telling.Goals as goal

pub returns : goal.returns
returns c =
    let cursor = c.args.cursor in
    let journal = c.in_ok-journal.journal in
    let begin : State = restored (arc_value c.args.chair.list).limits c.args.origin in
    let here : IsJournal begin [] journal = subst (λ (s : State). IsJournal s [] journal) c.requires.state c.in_ok-journal.ensures in
    record {
      telling = record {
        list = c.requires.list.0;
        whole = c.requires.list.1;
        placed = c.requires.placed.0;
        ended = c.requires.placed.1;
        begun = omega arith;
        within = c.requires.within;
        range = c.requires.fit.0;
        fit = c.requires.fit.1;
        anew = c.requires.anew;
        journal = subst (λ (l : List Made). IsJournal begin l journal) (sym (nothing_after cursor c.requires.placed.0)) here;
      };
      at = omega arith;
      list = refl;
      origin = refl;
      before = refl;
      end = refl;
    }

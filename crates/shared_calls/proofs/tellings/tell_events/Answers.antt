use Rattle.std.proofs.Common.{◌≡◌, ℕ, ◌+◌, ◌-◌, min, ◌∙◌, take, drop, List, ap, subst}
use Rattle.std.specs.List.{flat_map, AllByRecursion}
use Rattle.call_text.specs.Text.{lines_text}
use Rattle.dump_text.specs.Dump.{event_lines}
use Rattle.dump_text.specs.Fits.{FitsLine}
use Rattle.dump_text.specs.Line.{line_text}
use Rattle.kernel_rules.specs.Events.{Event}
use Rattle.shared_calls.specs.Dumps.{events_in}
use Rattle.shared_calls.proofs.TellingLaws.{some_told}
use Rattle.shared_calls.proofs.tellings.tell_events.Goals as goal

pub returns : goal.returns
returns c =
    let t = c.args.telling.now in
    let u = c.tell_more.new.telling in
    let told = c.in_ok-events.ensures in
    let es : List Event = c.in_ok-events.events.items in
    let count : u.cursor.count ≡ t.cursor.count + min (t.end.count - t.cursor.count) 64 =
    told.count ∙ ap (λ (n : ℕ). t.cursor.count + n) c.min-few.ensures in
    let cut : es ≡ take 64 (drop c.args.from (events_in t)) =
    some_told t u es c.args.from c.requires.telling told.telling told.same told.events c.compare.ensures c.requires.at c.requires.within count in
    record {
      telling = told.telling;
      same = told.same;
      count = count;
      text = c.in_ok-text.ensures.text ∙ ap (λ (l : List Event). lines_text line_text (flat_map event_lines l)) (c.as_slice.ensures.value ∙ cut);
      fits = subst (λ (l : List Event). AllByRecursion FitsLine (flat_map event_lines l)) (c.as_slice.ensures.value ∙ cut) c.in_ok-text.ensures.fits;
    }

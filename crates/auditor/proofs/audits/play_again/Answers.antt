use Rattle.std.proofs.Common.{◌≡◌, [], subst, Option, List, IfSome}
use Rattle.kernel_rules.specs.Events.{Event}
use Rattle.dump_text.specs.Lists.{DumpLists}
use Rattle.dump_text.specs.Whole.{start_with}
use Rattle.dump_text.specs.declared.tables.PlacedRead.{PlacedRead}
use Rattle.auditor.specs.Replay.{IsReplay}
use Rattle.auditor.specs.Told.{TellsAll, IsTold}
use Rattle.auditor.specs.declared.replays.Replay.{Replay}
use Rattle.auditor.proofs.StopLaws.{told_dump}
use Rattle.auditor.proofs.audits.play_again.Goals as goal

pub returns-clause-text : goal.returns-clause-text
returns-clause-text c =
    let at = c.dump.inside in
    let tables = at.tables in
    let seen : DumpLists = record {
      limits = at.limits;
      checkpoint = at.checkpoint;
      events = at.events.items;
      reads = at.reads.items;
      tables = tables;
    } in
    let start = start_with at.limits at.checkpoint in
    let begun : IsReplay start c.in-Some.replay =
    subst (λ (o : Option Replay). IfSome o (IsReplay start)) c.in-Some.is c.in_ok-replay.ensures.replay in
    let empty : c.in-Some.replay.events.items ≡ [] =
    subst (λ (o : Option Replay). IfSome o (λ r. r.events.items ≡ [])) c.in-Some.is c.in_ok-replay.ensures.empty in
    let tells = subst (λ (es : List Event). TellsAll start es at.reads.items c.take_all.new.self c.in_ok-told.told.items) c.as_slice.ensures.value
    (subst (λ (rs : List PlacedRead). TellsAll start c.as_slice.result.now rs c.take_all.new.self c.in_ok-told.told.items) c.as_slice-2.ensures.value
    (c.in_ok-told.ensures start begun empty)) in
    record {
      told = c.in_ok-whole.whole;
      is_told = subst (λ (d : DumpLists). IsTold d c.in_ok-whole.whole) c.dump.view_is
          (told_dump seen c.in_ok-whole.whole c.in_ok-left.left c.in_ok-told.told.items c.take_all.new.self tells c.in_ok-left.ensures c.in_ok-whole.ensures);
      text_is = c.in_ok-text.ensures.text;
      fits = c.in_ok-text.ensures.fits;
    }

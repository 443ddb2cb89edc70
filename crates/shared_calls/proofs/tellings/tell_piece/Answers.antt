use Rattle.std.proofs.Common.{refl}
use Rattle.shared_calls.proofs.TellingLaws.{events_told_of, from_events, from_nothing, from_tables, head_told, nothing_told, tables_told, within}
use Rattle.shared_calls.proofs.tellings.tell_piece.Goals as goal

pub tell_events-requires : goal.tell_events-requires
tell_events-requires c =
    let t = c.args.telling.now in
    record {
      telling = c.requires.telling;
      at = from_events t c.args.number c.in-Events.from c.requires.telling c.requires.at c.in-Events.ensures.piece;
      within = within t c.args.number c.requires.telling c.requires.at;
    }

pub tell_tables-requires : goal.tell_tables-requires
tell_tables-requires c = record {
  telling = c.requires.telling;
  all = from_tables c.args.telling.now c.args.number c.requires.telling c.requires.at c.in-Tables.ensures.piece;
}

pub are_legal-requires : goal.are_legal-requires
are_legal-requires c = record {
  telling = c.requires.telling;
  all = from_nothing c.args.telling.now c.args.number c.requires.telling c.requires.at c.in-Nothing.ensures.piece;
}

pub returns-in_ok-tell_head-in-Head : goal.returns-in_ok-tell_head-in-Head
returns-in_ok-tell_head-in-Head c =
    let told = c.in_ok-tell_head-in-Head.ensures in
    record {
      same = (refl, refl, refl, refl);
      piece = head_told c.args.telling.now c.args.number c.in_ok-tell_head-in-Head.field-0.items c.requires.telling c.requires.at c.in-Head.ensures.piece
          told.text told.fits;
    }

pub returns-in_ok-tell_events-in-Events : goal.returns-in_ok-tell_events-in-Events
returns-in_ok-tell_events-in-Events c =
    let told = c.in_ok-tell_events-in-Events.ensures in
    record {
      same = told.same;
      piece = events_told_of c.args.telling.now c.tell_events.new.telling c.args.number c.in-Events.from c.in_ok-tell_events-in-Events.field-0.items
          c.requires.telling c.requires.at c.in-Events.ensures.piece told.telling told.same told.count told.text told.fits;
    }

pub returns-in_ok-tell_tables-in-Tables : goal.returns-in_ok-tell_tables-in-Tables
returns-in_ok-tell_tables-in-Tables c =
    let told = c.in_ok-tell_tables-in-Tables.ensures in
    record {
      same = told.same;
      piece = tables_told c.args.telling.now c.tell_tables.new.telling c.args.number c.in_ok-tell_tables-in-Tables.field-0.items
          c.requires.telling c.requires.at c.in-Tables.ensures.piece told.telling told.same told.count told.text told.fits;
    }

pub returns-in-Nothing : goal.returns-in-Nothing
returns-in-Nothing c = record {
  same = (refl, refl, refl, refl);
  piece = nothing_told c.args.telling.now c.args.number c.requires.telling c.in-Nothing.ensures.piece c.are_legal.ensures;
}

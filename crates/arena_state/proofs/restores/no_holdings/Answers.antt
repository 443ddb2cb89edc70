use Rattle.std.proofs.Common.{rules, ◌≡◌, replicate}
use Rattle.arena_state.specs.declared.holdings.Holdings.{Holdings}
use Rattle.arena_state.proofs.BlankLaws.{blank_filled}
use Rattle.arena_state.proofs.restores.no_holdings.Goals as goal

pub returns : goal.returns
returns c = λ s pages slots.
    let h : Holdings = record {
      records = c.in_ok-records.records;
      labels = c.in_ok-labels.labels;
      segments = c.in_ok-segments.segments;
      queues = c.in_ok-queues.queues;
      spaces = c.in_ok-spaces.spaces;
    } in
    let items : c.in_ok-records.records.items ≡ replicate c.args.pool c.fresh_record-blank.result = search rules in
    blank_filled s c.args.pool slots h c.fresh_record-blank.result pages items c.in_ok-labels.ensures c.in_ok-segments.ensures
    c.in_ok-queues.ensures c.in_ok-spaces.ensures

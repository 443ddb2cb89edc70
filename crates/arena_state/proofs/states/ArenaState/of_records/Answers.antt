use Rattle.std.proofs.Common.{refl}
use Rattle.plain_state.specs.Recorded.{records_state}
use Rattle.arena_state.specs.declared.pieces.Pieces.{Pieces}
use Rattle.arena_state.proofs.HoldLaws.{few}
use Rattle.arena_state.proofs.AssemblyLaws.{assembled_sound, assembled_stocked, assembled_whole}
use Rattle.arena_state.proofs.states.ArenaState.of_records.Goals as goal

pub no_holdings-requires : goal.no_holdings-requires
no_holdings-requires c = few (records_state c.args.records.now) c.requires

pub invariant_of-result : goal.invariant_of-result
invariant_of-result c =
    let s = records_state c.args.records.now in
    let p : Pieces = record {
      limits = s.limits;
      places = c.in_ok-places.places;
      holdings = c.fill.new.holdings;
      next_id = s.next_id;
      next_category = s.next_category;
    } in
    record {
      sound = assembled_sound s c.requires p refl refl refl c.in_ok-places.ensures.lists c.in_ok-places.ensures.cells c.len-count.ensures.well_formed c.fill.ensures;
      stocked = assembled_stocked s c.requires p refl refl refl c.in_ok-places.ensures.lists c.in_ok-places.ensures.cells c.len-count.ensures.well_formed c.fill.ensures;
    }

pub returns : goal.returns
returns c =
    let s = records_state c.args.records.now in
    let p : Pieces = record {
      limits = s.limits;
      places = c.in_ok-places.places;
      holdings = c.fill.new.holdings;
      next_id = s.next_id;
      next_category = s.next_category;
    } in
    assembled_whole s c.requires p refl refl refl c.in_ok-places.ensures.lists c.in_ok-places.ensures.cells c.len-count.ensures.well_formed c.fill.ensures

use Rattle.std.proofs.Common.{sym, subst, arith}
use Rattle.arena_state.specs.declared.records.Record.{Record}
use Rattle.arena_state.specs.States.{Shows, HasRow}
use Rattle.arena_state.proofs.EditLaws.{read_is}
use Rattle.arena_state.proofs.WholeLaws.{shown}
use Rattle.arena_state.proofs.states.ArenaState.record.Goals as goal

pub index-requires : goal.index-requires
index-requires c =
    let row : HasRow c.args.self.now c.args.at.id c.in-Some.slot.0 = c.in-Some.ensures.found in
    omega (arith, row.within, c.args.self.now.pieces.holdings.records.ok.0)

pub returns-in-Some : goal.returns-in-Some
returns-in-Some c =
    let row : HasRow c.args.self.now c.args.at.id c.in-Some.slot.0 = c.in-Some.ensures.found in
    record {
      some = subst (λ (r : Record). Shows c.args.self.now c.args.at.id r)
          (sym (read_is c.args.self.now.pieces c.args.self.now.sound c.args.at.id c.in-Some.slot.0 row.has c.index.result.now c.index.ensures))
          (shown c.args.self.now c.args.at.id c.in-Some.slot.0 row.has);
      none = tt;
    }

pub returns-in-None : goal.returns-in-None
returns-in-None c = record {
  some = tt;
  none = c.in-None.ensures.none;
}

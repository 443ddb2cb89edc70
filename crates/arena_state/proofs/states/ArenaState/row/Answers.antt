use Rattle.std.proofs.Common.{ℕ, subst}
use Rattle.std.specs.Option.{option_copied}
use Rattle.arena_state.specs.States.{Finds}
use Rattle.arena_state.proofs.SightLaws.{found_some, found_none}
use Rattle.arena_state.proofs.states.ArenaState.row.Goals as goal

pub returns-clause-found : goal.returns-clause-found
returns-clause-found c =
    found_some c.args.self.now c.args.id c.record.result
    (subst (λ (i : ℕ). Finds c.args.self.now i (option_copied c.record.result)) c.find-at.ensures.id c.record.ensures)

pub returns-clause-none : goal.returns-clause-none
returns-clause-none c =
    found_none c.args.self.now c.args.id c.record.result
    (subst (λ (i : ℕ). Finds c.args.self.now i (option_copied c.record.result)) c.find-at.ensures.id c.record.ensures)

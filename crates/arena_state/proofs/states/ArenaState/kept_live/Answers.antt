use Rattle.std.proofs.Common.{ℕ, Option, Some, sym, ap, ◌∙◌, arith}
use Rattle.arena_state.proofs.WholeLaws.{id_at, id_past}
use Rattle.arena_state.proofs.states.ArenaState.kept_live.Goals as goal

pub returns-then-place-len-clause-value : goal.returns-then-place-len-clause-value
returns-then-place-len-clause-value c =
    ap (λ (n : ℕ). let some : Option ℕ = Some n in some) c.live.ensures.value
    ∙ sym (id_at c.args.self.now.pieces c.args.self.now.sound c.args.place (omega (arith, c.len.ensures.count)))

pub returns-else-place-len-clause-value : goal.returns-else-place-len-clause-value
returns-else-place-len-clause-value c =
    sym (id_past c.args.self.now.pieces c.args.self.now.sound c.args.place (omega (arith, c.len.ensures.count)))

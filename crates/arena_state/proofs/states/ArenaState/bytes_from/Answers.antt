use Rattle.std.proofs.Common.{◌≤◌, ◌+◌, length, sym, ◌∙◌, ap, arith, inl, inr, slice_range}
use Rattle.arena_state.proofs.BodyLaws.{bytes_here, read_none}
use Rattle.arena_state.proofs.states.ArenaState.bytes_from.Goals as goal

pub read-requires-clause-within : goal.read-requires-clause-within
read-requires-clause-within c =
    elim (bytes_here c.args.self.now c.args.at.id c.in-Some.slot.0 c.in-Some.ensures.found.has) [
      | inl is ↦ omega (arith, c.requires.inside, ap length is)
      | inr is ↦ omega (arith, c.requires.inside, ap length is)
    ]

pub returns-in-Some-clause-value : goal.returns-in-Some-clause-value
returns-in-Some-clause-value c =
    c.read.ensures.value
    ∙ (elim (bytes_here c.args.self.now c.args.at.id c.in-Some.slot.0 c.in-Some.ensures.found.has) [
      | inl is ↦ ap (λ xs. slice_range xs c.args.from (c.args.from + c.args.count)) (sym is)
      | inr is ↦
          let none : c.args.from + c.args.count ≤ 0 = omega (arith, c.requires.inside, ap length is) in
          read_none _ c.args.from c.args.count none ∙ sym (read_none _ c.args.from c.args.count none)
    ])

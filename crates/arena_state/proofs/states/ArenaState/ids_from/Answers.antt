use Rattle.std.proofs.Common.{ap, sym, ◌∙◌, ℕ, List, take, drop}
use Rattle.containers.specs.Tree.{list_of}
use Rattle.arena_state.proofs.WholeLaws.{listed_is}
use Rattle.arena_state.proofs.WindowLaws.{window_is}
use Rattle.arena_state.proofs.states.ArenaState.ids_from.Goals as goal

pub returns-in-Some-clause-value : goal.returns-in-Some-clause-value
returns-in-Some-clause-value c =
    c.from_slice.ensures
    ∙ window_is (list_of c.args.self.now.pieces.places.lists c.args.container.id) c.entries-count.new.window c.args.from
    c.entries-count.result c.entries-count.auto.window c.entries-count.ensures.count c.entries-count.ensures.listed
    ∙ sym (ap (λ (l : List ℕ). take 16 (drop c.args.from l)) (listed_is c.args.self.now.pieces c.args.self.now.sound c.args.container.id))

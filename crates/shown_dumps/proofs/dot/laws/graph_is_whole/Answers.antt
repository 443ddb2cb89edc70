use Rattle.std.proofs.Common.{arith, refl}
use Rattle.kernel_rules.specs.State.{quota_at}
use Rattle.plain_state.specs.StateOf.{state_of}
use Rattle.shown_dumps.specs.Dots.{arrows_at, arrows_of, closed_at, closed_of, opened_at, opened_of}
use Rattle.shown_dumps.specs.TreePlaces.{nothing, root}
use Rattle.shown_dumps.proofs.Whole.{no_deeper, of_objects}
use Rattle.shown_dumps.proofs.dot.laws.graph_is_whole.Goals as goal

pub returns-clause-objects : goal.returns-clause-objects
returns-clause-objects c = λ names reached more.
    let s = state_of c.args.state.now in
    no_deeper (opened_at names s reached) (closed_at s) s (of_objects s (opened_of names s reached)) (of_objects s (closed_of s))
    c.well_formed-2.ensures (quota_at s 1) more root (omega arith)

pub returns-clause-arrows : goal.returns-clause-arrows
returns-clause-arrows c = λ more.
    let s = state_of c.args.state.now in
    no_deeper (arrows_at s) nothing s (of_objects s (arrows_of s)) (λ p gone. refl)
    c.well_formed-2.ensures (quota_at s 1) more root (omega arith)

use Rattle.std.proofs.Common.{arith, refl}
use Rattle.kernel_rules.specs.State.{quota_at}
use Rattle.plain_state.specs.StateOf.{state_of}
use Rattle.shown_dumps.specs.TreePlaces.{nothing, root}
use Rattle.shown_dumps.specs.Trees.{lines_at, object_lines}
use Rattle.shown_dumps.proofs.Whole.{no_deeper, of_objects}
use Rattle.shown_dumps.proofs.tree.laws.tree_is_whole.Goals as goal

pub returns : goal.returns
returns c = λ names asked more.
    let s = state_of c.args.state.now in
    no_deeper (lines_at names asked s) nothing s (of_objects s (object_lines names asked s)) (λ p gone. refl) c.well_formed-2.ensures
    (quota_at s 1) more root (omega arith)

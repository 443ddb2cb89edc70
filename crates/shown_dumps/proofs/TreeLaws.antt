-- Why there is no tree.
use Rattle.std.proofs.Common.{ℕ, List, Option}
use Rattle.shown_dumps.specs.States.{IsWhyNone}
use Rattle.shown_dumps.specs.TreeShown.{IsNoTree}
use Rattle.shown_dumps.specs.declared.states.faults.ShowFault.{ShowFault}
use Rattle.shown_dumps.specs.declared.states.faults.ShowFault.TheVariants as faults

-- where there is no state there is no tree
pub no_state : (asked : Option ℕ) (text : List ℕ) (after : Option ℕ) (fault : ShowFault) → IsWhyNone text fault → IsNoTree asked text after fault
no_state asked text after (faults.Unreadable m) why = why
no_state asked text after faults.IllFormed why = why
no_state asked text after faults.Memory why = tt
no_state asked text after faults.NoCall why = why
no_state asked text after faults.NoThread why = absurd why

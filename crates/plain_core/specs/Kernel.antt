-- What contracts see of a plain kernel.
use Rattle.kernel_rules.specs.State.{State}
use Rattle.plain_state.specs.StateOf.{state_of}
use Rattle.plain_core.specs.declared.kernel.PlainKernel.{PlainKernel}

-- the state that the kernel is in
abbrev pub kernel_state : PlainKernel → State
kernel_state k = state_of k.state

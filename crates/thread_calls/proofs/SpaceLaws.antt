-- What the entry of an address space names where nothing refuses to make a gate with it.
use Rattle.std.proofs.Common.{◌≡◌, ℕ, true, None, ◌++◌}
use Rattle.kernel_rules.specs.Table.{halted, refused, row}
use Rattle.kernel_rules.specs.State.{State}
use Rattle.kernel_rules.specs.declared.calls.Call.TheVariants as call
use Rattle.kernel_rules.specs.declared.creations.NewGate.{NewGate}
use Rattle.kernel_rules.proofs.RowLaws.{none_hold}
use Rattle.kernel_store.specs.Named.{names_space}
use Rattle.kernel_store.proofs.NamedLaws.{space_from}

pub gate_space : (s : State) (t : ℕ) (n : NewGate) → refused s t (call.GateCreate n) ≡ None → names_space s n.space ≡ true
unfolding refused
gate_space s t n h =
    let none = none_hold (halted s t ++ row s t (call.GateCreate n)) h in
    space_from s t n.space none.1.0 none.1.1.1.0

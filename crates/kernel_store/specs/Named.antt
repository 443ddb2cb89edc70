-- What the entries that a store is handed name.
use Rattle.std.specs.Prelude.{Bool, ◌&&◌, ◌||◌}
use Rattle.base.specs.declared.kinds.Kind as kind
use Rattle.base.specs.declared.kinds.Kind.TheVariants as kinds
use Rattle.kernel_rules.specs.State.{State, is_kind_at}
use Rattle.kernel_rules.specs.Translate.{names_none}
use Rattle.kernel_rules.specs.declared.calls.Entry.{Entry}

-- a container, and an object of kind k
abbrev pub names : State → kind.Kind → Entry → Bool
names s k e = is_kind_at s kinds.Container e.container && is_kind_at s k e.object

-- an address space, or none
abbrev pub names_space : State → Entry → Bool
names_space s e = names_none e || names s kinds.AddressSpace e

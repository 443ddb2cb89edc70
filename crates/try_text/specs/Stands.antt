-- Where a dialogue stands: the state of its kernel, and the names that are known, in the order in which they were bound.
use Rattle.std.specs.Prelude.{List}
use Rattle.kernel_rules.specs.State.{State}
use Rattle.call_text.specs.declared.known_names.Named.{Named}

pub record Stands : Type 0 where
  pub state : State
  pub names : List Named

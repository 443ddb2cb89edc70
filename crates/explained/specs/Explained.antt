-- Why a call is refused, or is not: what is told of each condition of its row.
use Rattle.std.specs.Prelude.{ℕ, List, ◌++◌}
use Rattle.kernel_rules.specs.State.{State}
use Rattle.kernel_rules.specs.Rows.{running}
use Rattle.kernel_rules.specs.Table.{conditions, query_conditions}
use Rattle.kernel_rules.specs.declared.calls.Call.{Call}
use Rattle.kernel_rules.specs.declared.calls.Query.{Query}
use Rattle.explained.specs.declared.parts.Finding.{Finding}
use Rattle.explained.specs.Told.{told}

-- the calling thread is t
module _ (s : State) (t : ℕ) where
  -- all conditions of a call, in the order of its row
  unfoldable pub explained : Call → List Finding
  explained c = told s t (running ++ conditions s c)

  -- and of a query
  unfoldable pub query_explained : Query → List Finding
  query_explained c = told s t (running ++ query_conditions s c)

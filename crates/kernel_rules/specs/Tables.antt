-- The lists of tables.
use Rattle.std.specs.Prelude.{ℕ, List}
use Rattle.label_lattice.specs.declared.raw_labels.RawLabel.{RawLabel}
use Rattle.kernel_rules.specs.declared.tables.Compared.{Compared}
use Rattle.kernel_rules.specs.declared.tables.Shown.{Shown}
use Rattle.kernel_rules.specs.declared.tables.Used.{Used}

-- what contracts see of tables
pub record TableLists : Type 0 where
  pub live : List ℕ
  pub uses : List Used
  pub shown : List Shown
  pub labels : List RawLabel
  pub orders : List Compared

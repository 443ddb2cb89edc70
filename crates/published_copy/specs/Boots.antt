-- Which boot it is.
use Rattle.std.specs.Prelude.{ℕ}
use Rattle.logbook.specs.Pages.{Book as Log}
use Rattle.base.specs.declared.ranges.Limits.{Limits}

-- the log of its events, by its name, its limits, and how many seats it has
pub record Boot : Type 0 where
  pub log : Log
  pub limits : Limits
  pub seats : ℕ

abbrev pub boot_of : Log → Limits → ℕ → Boot
boot_of log limits seats = record { log = log; limits = limits; seats = seats }

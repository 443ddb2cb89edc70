-- The status that a program ends with where clap answers to its words.
use Rattle.std.specs.Prelude.{◌≡◌, ◌⊎◌, ℕ}
use Rattle.clap.specs.declared.error.kind.ErrorKind.{ErrorKind}
use Rattle.clap.specs.declared.error.kind.ErrorKind.TheVariants as kind

-- 4 for want of memory; 0 for help, or 3 where it can't be printed, or 4 where there is no memory for it; and 2 for a
-- fault of usage
abbrev pub IsStatusOf : ErrorKind → ℕ → Type 0
IsStatusOf kind.OutOfMemory status = status ≡ 4
IsStatusOf kind.DisplayHelp status = (status ≡ 0) ⊎ (status ≡ 3) ⊎ (status ≡ 4)
IsStatusOf kind.DisplayVersion status = (status ≡ 0) ⊎ (status ≡ 3) ⊎ (status ≡ 4)
IsStatusOf _ status = status ≡ 2

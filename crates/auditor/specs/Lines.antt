-- The lines that tell verdicts.
use Rattle.std.specs.Prelude.{ℕ, List, [], ◌∷◌, ◌++◌, codes, decimal}
use Rattle.auditor.specs.declared.verdicts.Verdict.{Verdict}
use Rattle.auditor.specs.declared.verdicts.Verdict.TheVariants as is

-- the line that tells a verdict
abbrev pub verdict_line : Verdict → List ℕ
verdict_line is.Clean = codes "clean" ++ 10 ∷ []
verdict_line (is.False n) = codes "false at line " ++ decimal n ++ 10 ∷ []
verdict_line (is.Unreadable n) = codes "unreadable at line " ++ decimal n ++ 10 ∷ []

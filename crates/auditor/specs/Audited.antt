-- What is known of a dump that was read and audited.
use Rattle.std.specs.Prelude.{ℕ, Option, Some, None}
use Rattle.dump_text.specs.Dump.{IsDump}
use Rattle.auditor.specs.Verdict.{IsVerdict, TellsFalse}
use Rattle.auditor.specs.declared.audits.Audited.{Audited}
use Rattle.auditor.specs.declared.verdicts.Verdict.{Verdict}
use Rattle.auditor.specs.declared.verdicts.Verdict.TheVariants as is

-- the verdict on a dump with this first false line
abbrev pub verdict_of : Option ℕ → Verdict
verdict_of None = is.Clean
verdict_of (Some n) = is.False n

-- the bytes spell the dump, and this is the verdict on them
pub record IsAudited (a : Audited) : Type 0 where
  pub spelt : IsDump a.bytes.now a.dump
  pub found : IsVerdict a.bytes.now (verdict_of a.false_line)
  pub tells : TellsFalse a.bytes.now (verdict_of a.false_line)

use Rattle.auditor.proofs.MigratedLaws.{migrated_clean, migrated_false}
use Rattle.auditor.proofs.audits.migrated_verdicts.Goals as goal

pub returns-clause-clean : goal.returns-clause-clean
returns-clause-clean c = λ bytes out m v. migrated_clean bytes out (c.one_reading.ensures.value bytes) m v

pub returns-clause-false_line : goal.returns-clause-false_line
returns-clause-false_line c = λ bytes out n m v. migrated_false bytes out n (c.one_reading.ensures.value bytes) m v

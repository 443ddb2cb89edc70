use Rattle.auditor.proofs.VerdictLaws.{clean_legal, legal_clean}
use Rattle.auditor.proofs.audits.clean_is_legal.Goals as goal

pub returns-clause-legal : goal.returns-clause-legal
returns-clause-legal c = clean_legal

pub returns-clause-clean : goal.returns-clause-clean
returns-clause-clean c = λ bytes is. legal_clean bytes is.0 is.1 is.2.2.0 is.2.2.1 is.2.1 is.2.2.2 is.2.2.3 is.2.2.4

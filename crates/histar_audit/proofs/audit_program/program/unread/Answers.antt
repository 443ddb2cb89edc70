use Rattle.histar_audit.proofs.audit_program.program.unread.Goals as goal

pub returns-in_ok-none-in-Line : goal.returns-in_ok-none-in-Line
returns-in_ok-none-in-Line c = (
  c.in-Line.line,
  c.in-Line.is,
  c.in_ok-none-in-Line.ensures.verdict,
  c.in_ok-none-in-Line.ensures.file,
  c.in_ok-none-in-Line.ensures.text,
)

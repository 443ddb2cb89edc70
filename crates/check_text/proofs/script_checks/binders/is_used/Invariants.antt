use Rattle.std.proofs.Common.{◌≡◌, drop}
use Rattle.check_text.specs.Binders.{is_used}
use Rattle.check_text.proofs.script_checks.binders.is_used.Given as goal

abbrev pub invariant-loop-mention : goal.invariant-loop-mention
invariant-loop-mention l = is_used l.name l.mentions ≡ is_used l.name (drop l.mention-index l.mentions)

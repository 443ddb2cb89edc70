use Rattle.std.proofs.Common.{◌≡◌, ◌++◌, drop}
use Rattle.std.specs.Prelude.{map}
use Rattle.check_text.specs.Warnings.{unbound}
use Rattle.check_text.proofs.script_checks.warnings.put_unbound.Given as goal

abbrev pub invariant-loop-mention : goal.invariant-loop-mention
invariant-loop-mention l = l.out.items ++ map (unbound l.line) (drop l.mention-index l.unknown) ≡ l.fn.out.items ++ map (unbound l.line) l.unknown

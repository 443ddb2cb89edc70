use Rattle.std.proofs.Common.{◌≡◌, ◌++◌, drop}
use Rattle.try_text.specs.Saved.{saved_after, saved_text}
use Rattle.try_text.proofs.tried_lines.saving.put_saved.Given as goal

abbrev pub invariant-loop-one : goal.invariant-loop-one
invariant-loop-one l = l.out.items ++ saved_after l.before (drop l.one-index l.kept) ≡ l.fn.out.items ++ saved_text l.kept

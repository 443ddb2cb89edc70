use Rattle.std.proofs.Common.{◌≡◌, drop}
use Rattle.std.specs.Prelude.{fold}
use Rattle.check_text.specs.Surveys.{with_unknown, unknown}
use Rattle.check_text.proofs.script_checks.surveys.Survey.unknown.Given as goal

abbrev pub invariant-loop-mention : goal.invariant-loop-mention
invariant-loop-mention l =
    unknown l.self.outlines l.line l.mentions
    ≡ fold (with_unknown l.self.outlines l.line) l.found.items (drop l.mention-index l.mentions)

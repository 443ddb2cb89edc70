use Rattle.std.proofs.Common.{◌∙◌, sym}
use Rattle.call_text.specs.Line.{written_with}
use Rattle.call_text.specs.Script.{binds_of}
use Rattle.call_text.proofs.ScriptLemmas.{binds_name}
use Rattle.call_text.proofs.scripts.bind.Goals as goal

pub returns : goal.returns
returns c = λ xs.
    binds_name (binds_of (written_with c.args.outline.now xs)) c.in-Some.name c.args.bound.now.keys c.insert.new.self.keys c.in_ok-fresh.fresh
    (sym (c.binds.ensures xs) ∙ c.in-Some.is) c.in_ok-fresh.ensures.added c.in_ok-fresh.ensures.keys

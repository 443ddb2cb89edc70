use Rattle.std.specs.Prelude.{Some}
use Rattle.std.proofs.Common.{refl}
use Rattle.call_text.proofs.ScriptLemmas.{binds_name}
use Rattle.call_text.proofs.names_text.reading.note.Goals as goal

pub returns : goal.returns
returns c = binds_name (Some c.args.name.now) c.args.name.now c.args.known.now.keys c.insert.new.self.keys c.in_ok-fresh.fresh refl c.in_ok-fresh.ensures.added c.in_ok-fresh.ensures.keys

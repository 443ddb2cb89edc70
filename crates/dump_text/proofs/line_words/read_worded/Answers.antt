use Rattle.dump_text.proofs.Readings.{no_args, made}
use Rattle.dump_text.proofs.line_words.read_worded.Goals as goal

pub returns-in_default-2 : goal.returns-in_default-2
returns-in_default-2 g c = no_args g.V.Worded.words g.V.Worded.Allows c.args.kinds.now c.args.beginning.now c.args.text.now c.in-Some.rest.now c.in_ok-args.field-0 c.in_default-2.is c.in_ok-args.ensures c.in-Some.ensures.some

pub returns : goal.returns
returns g c = made g.V.Worded.words g.V.Worded.Allows c.args.kinds.now c.args.beginning.now c.args.text.now c.in-Some.rest.now c.in_ok-args.field-0 c.in-Some-2.args c.as_slice.result.now c.of_args.result c.requires c.in-Some-2.is c.in_ok-args.ensures c.in-Some.ensures.some c.as_slice.ensures.value c.of_args.ensures

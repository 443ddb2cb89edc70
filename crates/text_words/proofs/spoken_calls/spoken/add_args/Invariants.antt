use Rattle.text_words.proofs.FurtherLemmas.{ArgsRead}
use Rattle.text_words.proofs.spoken_calls.spoken.add_args.Given as goal

abbrev pub invariant-loop-kind : goal.invariant-loop-kind
invariant-loop-kind l = ArgsRead l.kinds l.text l.fn.args.items l.args.items l.kind-index l.rest

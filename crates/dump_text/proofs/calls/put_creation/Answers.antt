use Rattle.text_words.specs.Arg.{FitsArg}
use Rattle.dump_text.specs.Call.{creation_words}
use Rattle.dump_text.specs.Word.{arg_of}
use Rattle.dump_text.proofs.LabelPlaces.{all_append}
use Rattle.dump_text.proofs.WordLemmas.{put_more}
use Rattle.dump_text.proofs.calls.put_creation.Goals as goal

pub returns-clause-text : goal.returns-clause-text
returns-clause-text c = put_more c.args.verb (creation_words c.args.container c.args.label c.args.quota) c.args.further.now c.args.out.now.items _ _ c.in_ok-put_spoken.ensures.text c.in_ok-put_further.ensures.text

pub returns-clause-fits : goal.returns-clause-fits
returns-clause-fits c = all_append (λ w. FitsArg (arg_of w)) (creation_words c.args.container c.args.label c.args.quota) c.args.further.now c.in_ok-put_spoken.ensures.fits c.in_ok-put_further.ensures.fits

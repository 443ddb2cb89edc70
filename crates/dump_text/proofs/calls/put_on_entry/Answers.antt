use Rattle.std.proofs.Common.{◌++◌, List, ◌∙◌, ap, subst}
use Rattle.std.specs.List.{AllByRecursion}
use Rattle.text_words.specs.Arg.{FitsArg}
use Rattle.text_words.specs.Spoken.{spoken_text}
use Rattle.dump_text.specs.Call.{spoken_as}
use Rattle.dump_text.specs.Word.{arg_of}
use Rattle.dump_text.specs.declared.words.Word.{Word}
use Rattle.dump_text.proofs.LabelPlaces.{all_append}
use Rattle.dump_text.proofs.WordLemmas.{put_more}
use Rattle.dump_text.proofs.calls.put_on_entry.Goals as goal

pub returns-clause-text : goal.returns-clause-text
returns-clause-text c =
    put_more c.args.verb c.entry_words.result c.args.further.now c.args.out.now.items _ _ c.in_ok-put_spoken.ensures.text c.in_ok-put_further.ensures.text
    ∙ ap (λ (ws : List Word). c.args.out.now.items ++ spoken_text (spoken_as c.args.verb (ws ++ c.args.further.now))) c.entry_words.ensures

pub returns-clause-fits : goal.returns-clause-fits
returns-clause-fits c =
    subst (λ (ws : List Word). AllByRecursion (λ w. FitsArg (arg_of w)) (ws ++ c.args.further.now)) c.entry_words.ensures
    (all_append (λ w. FitsArg (arg_of w)) c.entry_words.result c.args.further.now c.in_ok-put_spoken.ensures.fits c.in_ok-put_further.ensures.fits)

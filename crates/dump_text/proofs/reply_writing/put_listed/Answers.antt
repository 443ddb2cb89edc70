use Rattle.std.proofs.Common.{◌++◌, ◌∷◌, List, ℕ, map, ◌∙◌, ap, subst}
use Rattle.std.specs.Prelude.{codes}
use Rattle.std.specs.List.{flat_map, AllByRecursion}
use Rattle.text_words.specs.Arg.{arg_text, FitsArg}
use Rattle.dump_text.specs.Word.{arg_of}
use Rattle.dump_text.specs.declared.words.Word.TheVariants as words
use Rattle.dump_text.proofs.ReplyLemmas.{list_fits}
use Rattle.dump_text.proofs.WordLemmas.{put_list}
use Rattle.dump_text.proofs.reply_writing.put_listed.Goals as goal

pub returns-clause-text : goal.returns-clause-text
returns-clause-text c =
    put_list (codes "list ") (words.Wide c.args.listed.now.count) (map words.Object c.args.listed.now.ids) c.args.out.now.items _ _ c.in_ok-put_words.ensures.text
    (c.in_ok-put_ids.ensures.text
    ∙ ap (λ (ids : List ℕ). c.put_words.new.out.items ++ flat_map (λ w. 32 ∷ arg_text (arg_of w)) (map words.Object ids)) c.as_slice.ensures.value)

pub returns-clause-fits : goal.returns-clause-fits
returns-clause-fits c = (
  list_fits c.args.listed.now c.in_ok-put_words.ensures.fits.0
      (subst (λ (ids : List ℕ). AllByRecursion (λ w. FitsArg (arg_of w)) (map words.Object ids)) c.as_slice.ensures.value c.in_ok-put_ids.ensures.fits),
  c.as_slice.ensures.few,
)

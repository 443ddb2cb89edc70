use Rattle.base.proofs.PaddedLaws.{written_front}
use Rattle.text_words.proofs.WordLemmas.{short_name, name_front}
use Rattle.text_words.proofs.names.Name.from_slice.Goals as goal

pub invariant_of-result : goal.invariant_of-result
invariant_of-result c =
    let w = written_front 16 0 c.args.bytes.now c.copy_from_slice.new.self c.copy_from_slice.ensures.after (short_name c.args.bytes.now c.requires) in
    (w.0, w.1, w.2, name_front c.args.bytes.now c.copy_from_slice.new.self _ c.copy_from_slice.ensures.after c.requires)

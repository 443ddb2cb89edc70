use Rattle.std.proofs.Common.{◌≡◌, ◌∙◌, sym, ap, arith, get_or}
use Rattle.text_words.specs.declared.spoken_calls.verbs.Verb.TheVariants as verbs
use Rattle.text_words.specs.Verb.{name_of}
use Rattle.check_text.proofs.FaultLemmas.{in_place}
use Rattle.check_text.proofs.line_faults.verbs.verb_of.Goals as goal

pub returns : goal.returns
returns c = λ v fits is.
    let one = c.all_verbs-verb-items.ensures.each v in
    let items = c.all_verbs-verb-items.result.now in
    let same : get_or items one.0 verbs.CatCreate ≡ v = in_place items one.0 v verbs.CatCreate one.1 one.2 in
    c.loop-verb.invariant one.0 (omega (arith, one.1, c.loop-verb-test.false)) (ap name_of same ∙ sym is)

use Rattle.std.proofs.Common.{◌≡◌, ℕ, ◌<◌, get_or}
use Rattle.text_words.specs.declared.spoken_calls.verbs.Verb.TheVariants as verbs
use Rattle.text_words.specs.Verb.{name_of}
use Rattle.text_words.proofs.spoken_calls.verbs.read_verb.Given as goal

abbrev pub invariant-loop-verb : goal.invariant-loop-verb
invariant-loop-verb l = (k : ℕ) → k < l.verb-index → name_of (get_or l.verb-items k verbs.CatCreate) ≡ l.word → ⊥

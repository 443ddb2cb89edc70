-- Lines without the arguments of their calls.
use Rattle.std.specs.Prelude.{ℕ, suc, List, [], ◌∷◌, ◌++◌, map, Bool, true, false}
use Rattle.text_words.specs.declared.spoken_calls.verbs.Verb.{Verb}
use Rattle.text_words.specs.declared.spoken_calls.verbs.Verb.TheVariants as verbs
use Rattle.call_text.specs.declared.phases.Line.{Line}
use Rattle.check_text.specs.declared.script_checks.outlines.Outline.{Outline}

-- the one call that makes a category
abbrev pub makes_category : Verb → Bool
makes_category verbs.CatCreate = true
makes_category _ = false

-- a line of the phase at a place
abbrev pub outline_of : ℕ → Line → Outline
outline_of phase l = record {
  number = l.number;
  phase = phase;
  worker = l.worker;
  more = l.more;
  binds = l.binds;
  category = makes_category l.call.verb;
}

-- the lines of phases, the first of which is at a place
abbrev pub outlines_from : ℕ → List (List Line) → List Outline
outlines_from place [] = []
outlines_from place (phase ∷ more) = map (outline_of place) phase ++ outlines_from (suc place) more

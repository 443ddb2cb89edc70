-- The first unbound name of the places that were read so far.
use Rattle.std.specs.Prelude.{ℕ, suc, ◌+◌, List, [], ◌∷◌, slice_get, Option, Some, None}
use Rattle.text_words.specs.declared.spoken_labels.SpokenPair.{SpokenPair}
use Rattle.text_words.specs.declared.spoken_calls.args.Arg.{Arg}
use Rattle.text_words.specs.declared.spoken_calls.args.Arg.TheVariants as args
use Rattle.text_words.specs.declared.spoken_calls.args.ArgKind.{ArgKind}
use Rattle.text_words.specs.declared.spoken_calls.args.ArgKind.TheVariants as kinds
use Rattle.text_words.specs.declared.spoken_calls.verbs.Verb.{Verb}
use Rattle.text_words.specs.Verb.{kinds_of}
use Rattle.call_text.specs.declared.known_names.Named.{Named}
use Rattle.call_text.specs.Resolve.{or_else, unbound_object, unbound_category}

-- the first so far, after one more was found or not
abbrev pub noted : Option (List ℕ) → Option (List ℕ) → Option (List ℕ)
noted None so_far = so_far
noted (Some name) so_far = or_else so_far (Some name)

-- after an object
abbrev pub noted_object : Option Arg → List Named → Option (List ℕ) → Option (List ℕ)
noted_object (Some (args.Object r)) names so_far = noted (unbound_object r names) so_far
noted_object (Some _) names so_far = so_far
noted_object None names so_far = so_far

-- after the objects at two places
abbrev pub noted_entry : ℕ → List Arg → List Named → Option (List ℕ) → Option (List ℕ)
noted_entry i xs names so_far =
    noted_object (slice_get xs (i + 1)) names (noted_object (slice_get xs i) names so_far)

-- after the pairs of a label
abbrev pub noted_pairs : List SpokenPair → List Named → Option (List ℕ) → Option (List ℕ)
noted_pairs [] names so_far = so_far
noted_pairs (p ∷ ps) names so_far =
    noted_pairs ps names (noted (unbound_category p.category names) so_far)

-- after a label
abbrev pub noted_label : Option Arg → List Named → Option (List ℕ) → Option (List ℕ)
noted_label (Some (args.Label l)) names so_far = noted_pairs l.pairs names so_far
noted_label (Some _) names so_far = so_far
noted_label None names so_far = so_far

-- after the places from this one on, which are of these kinds
abbrev pub noted_kinds : List ArgKind → ℕ → List Arg → List Named → Option (List ℕ)
    → Option (List ℕ)
noted_kinds [] i xs names so_far = so_far
noted_kinds (kinds.Object ∷ ks) i xs names so_far =
    noted_kinds ks (suc i) xs names (noted_object (slice_get xs i) names so_far)
noted_kinds (kinds.Label ∷ ks) i xs names so_far =
    noted_kinds ks (suc i) xs names (noted_label (slice_get xs i) names so_far)
noted_kinds (_ ∷ ks) i xs names so_far = noted_kinds ks (suc i) xs names so_far

-- after all places of a verb
abbrev pub noted_all : Verb → List Arg → List Named → Option (List ℕ) → Option (List ℕ)
noted_all verb xs names so_far = noted_kinds (kinds_of verb) 0 xs names so_far

-- A call as its words.
use Rattle.std.specs.Prelude.{◌≡◌, ℕ, List, [], ◌∷◌, ◌++◌, map, Bool, true, false, Option, Some, None}
use Rattle.std.specs.List.{join_with_byte, flat_map}
use Rattle.std.specs.Global.{Vec}
use Rattle.text_words.specs.declared.spoken_calls.verbs.Verb.{Verb}
use Rattle.text_words.specs.declared.spoken_calls.args.ArgKind.{ArgKind}
use Rattle.text_words.specs.declared.spoken_calls.args.Arg.{Arg}
use Rattle.text_words.specs.Verb.{name_of, kinds_of}
use Rattle.text_words.specs.Arg.{arg_text, IsArg}

-- a call: its verb and its arguments
pub record Spoken : Type 0 where
  pub verb : Verb
  pub args : List Arg

-- a verb's call with these arguments
abbrev pub call_with : Verb → List Arg → Spoken
call_with verb args = record { verb = verb; args = args }

-- arguments of these kinds, each in its range
abbrev pub AreArgs : List ArgKind → List Arg → Type 0
AreArgs [] [] = Unit {0}
AreArgs [] (a ∷ more) = ⊥
AreArgs (k ∷ ks) [] = ⊥
AreArgs (k ∷ ks) (a ∷ more) = IsArg k a × AreArgs ks more

-- the arguments are those that the verb takes
abbrev pub IsSpoken : Spoken → Type 0
IsSpoken r = AreArgs (kinds_of r.verb) r.args

-- the words of a call
abbrev pub words_of : Spoken → List (List ℕ)
words_of r = name_of r.verb ∷ map arg_text r.args

-- the words, parted by single spaces
abbrev pub spoken_text : Spoken → List ℕ
spoken_text r = join_with_byte 32 (words_of r)

-- nothing, or a space and what follows
abbrev pub IsRest : List ℕ → Type 0
IsRest [] = Unit {0}
IsRest (b ∷ bytes) = b ≡ 32

-- arguments, each after a space
abbrev pub further_text : List Arg → List ℕ
further_text xs = flat_map (λ a. 32 ∷ arg_text a) xs

-- Whether the text is arguments of these kinds, each after a space. The new arguments then are the
-- old ones and these, and otherwise the old ones and some.
abbrev pub AddsArgs : List ArgKind → List ℕ → List Arg → List Arg → Bool → Type 0
AddsArgs ks text old new true =
    (found : List Arg) × AreArgs ks found × (text ≡ further_text found) × (new ≡ old ++ found)
AddsArgs ks text old new false =
    ((found : List Arg) → AreArgs ks found → text ≡ further_text found → ⊥)
    × (more : List Arg) × (new ≡ old ++ more)

-- What was read of a text, whose arguments were added to a list: with these it is a whole value that
-- the text spells. Nothing is read only where the text spells none, and then none was added.
abbrev pub ReadsInto : {H V : Type 0} → (H → List Arg → V) → (V → List ℕ) → (V → Type 0)
    → List ℕ → List Arg → List Arg → Option H → Type 0
ReadsInto whole spelling Fits text old new (Some h) =
    (found : List Arg) × (new ≡ old ++ found) × Fits (whole h found)
    × (text ≡ spelling (whole h found))
ReadsInto {H} {V} whole spelling Fits text old new None =
    (new ≡ old) × ((v : V) → Fits v → text ≡ spelling v → ⊥)

-- arguments, parted by single spaces
abbrev pub arguments_text : List Arg → List ℕ
arguments_text xs = join_with_byte 32 (map arg_text xs)

-- what is read of a text of arguments
abbrev pub ReadsArguments : List ArgKind → List ℕ → Option (Vec Arg) → Type 0
ReadsArguments ks text (Some v) = AreArgs ks v.items × (text ≡ arguments_text v.items)
ReadsArguments ks text None =
    (found : List Arg) → AreArgs ks found → text ≡ arguments_text found → ⊥

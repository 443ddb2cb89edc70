-- What a spoken call asks, with the names that are known.
use Rattle.std.specs.Prelude.{ℕ, List, [], ◌∷◌, Option, Some, None, Result, Ok, Err}
use Rattle.kernel_rules.specs.declared.calls.Call.{Call}
use Rattle.kernel_rules.specs.declared.calls.Query.{Query}
use Rattle.text_words.specs.declared.references.Reference.{Reference}
use Rattle.text_words.specs.declared.references.Reference.TheVariants.{Number, Name}
use Rattle.text_words.specs.declared.spoken_labels.SpokenPair.{SpokenPair}
use Rattle.text_words.specs.declared.spoken_calls.args.Arg.{Arg}
use Rattle.text_words.specs.declared.spoken_calls.args.Arg.TheVariants as args
use Rattle.text_words.specs.Spoken.{Spoken}
use Rattle.call_text.specs.declared.known_names.Named.{Named}
use Rattle.call_text.specs.declared.known_names.Value.{Value}
use Rattle.call_text.specs.declared.known_names.Value.TheVariants.{Object, Category}
use Rattle.call_text.specs.declared.asking.Asked.{Asked}
use Rattle.call_text.specs.declared.asking.Asked.TheVariants.{Read, Write}
use Rattle.call_text.specs.Asked.{asked_of, asked_by}
use Rattle.call_text.specs.Known.{value_of}

-- the name, unless it is an object's
abbrev pub unless_object : List ℕ → Option Value → Option (List ℕ)
unless_object name (Some (Object id)) = None
unless_object name (Some (Category c)) = Some name
unless_object name None = Some name

-- the name, unless it is a category's
abbrev pub unless_category : List ℕ → Option Value → Option (List ℕ)
unless_category name (Some (Category c)) = None
unless_category name (Some (Object id)) = Some name
unless_category name None = Some name

-- the name, unless it is known as an object's; a number has none
abbrev pub unbound_object : Reference → List Named → Option (List ℕ)
unbound_object (Number n) names = None
unbound_object (Name name) names = unless_object name (value_of name names)

-- the name, unless it is known as a category's
abbrev pub unbound_category : Reference → List Named → Option (List ℕ)
unbound_category (Number n) names = None
unbound_category (Name name) names = unless_category name (value_of name names)

-- the first, or else the second
abbrev pub or_else : Option (List ℕ) → Option (List ℕ) → Option (List ℕ)
or_else (Some name) other = Some name
or_else None other = other

-- the first name of the pairs that is no known category's
abbrev pub unbound_pair : List SpokenPair → List Named → Option (List ℕ)
unbound_pair [] names = None
unbound_pair (p ∷ ps) names = or_else (unbound_category p.category names) (unbound_pair ps names)

-- the first name of the argument that is not known, or known as the other kind
abbrev pub unbound_in : Arg → List Named → Option (List ℕ)
unbound_in (args.Object r) names = unbound_object r names
unbound_in (args.Number n) names = None
unbound_in (args.Wide n) names = None
unbound_in (args.Signed n) names = None
unbound_in (args.Label l) names = unbound_pair l.pairs names
unbound_in (args.Data d) names = None
unbound_in (args.Types s) names = None
unbound_in (args.Rights r) names = None

-- the first such name, in the order of the words
abbrev pub first_unbound : List Arg → List Named → Option (List ℕ)
first_unbound [] names = None
first_unbound (a ∷ more) names = or_else (unbound_in a names) (first_unbound more names)

-- an unbound name, or else what is asked
abbrev pub or_unbound : Option (List ℕ) → Asked → Result Asked (List ℕ)
or_unbound (Some name) asked = Err name
or_unbound None asked = Ok asked

-- what the call asks, or the first name that is not known, or known as the other kind
abbrev pub resolved : Spoken → List Named → Result Asked (List ℕ)
resolved call names = or_unbound (first_unbound call.args names) (asked_of call.verb call.args names)

-- an unbound name, or else the query, or else the call
abbrev pub resolved_by : Result (Option Query) (List ℕ) → Call → Result Asked (List ℕ)
resolved_by (Err name) call = Err name
resolved_by (Ok query) call = Ok (asked_by query call)

-- what stands where the call is to be written: what stood there, after a query
abbrev pub written : Asked → Call → Call
written (Read query) call = call
written (Write new) call = new

-- The spelling of queries in dumps: each object by its number.
use Rattle.std.specs.Prelude.{ℕ, List, [], ◌∷◌, ◌++◌, Option, Some, None, Result, Ok, Err}
use Rattle.kernel_rules.specs.declared.calls.Query.{Query}
use Rattle.kernel_rules.specs.declared.calls.Query.TheVariants as queries
use Rattle.text_words.specs.declared.spoken_calls.verbs.Verb.TheVariants as verbs
use Rattle.text_words.specs.Spoken.{Spoken, IsSpoken, spoken_text}
use Rattle.call_text.specs.declared.asking.Asked.{Asked}
use Rattle.call_text.specs.declared.asking.Asked.TheVariants.{Write, Read}
use Rattle.dump_text.specs.declared.words.Word.TheVariants as words
use Rattle.dump_text.specs.Call.{spoken_as, entry_words}

-- what spells a query
abbrev pub query_spoken : Query → Spoken
query_spoken queries.SelfGet = spoken_as verbs.SelfGet []
query_spoken (queries.ObjLabel e) = spoken_as verbs.ObjLabel (entry_words e)
query_spoken (queries.ObjQuota e) = spoken_as verbs.ObjQuota (entry_words e)
query_spoken (queries.ContainerList d n) =
    spoken_as verbs.ContainerList (words.Object d ∷ words.Number n ∷ [])
query_spoken (queries.ContainerParent d) = spoken_as verbs.ContainerParent (words.Object d ∷ [])
query_spoken (queries.SegmentLen e) = spoken_as verbs.SegmentLen (entry_words e)
query_spoken (queries.SegmentRead e a n) =
    spoken_as verbs.SegmentRead (entry_words e ++ words.Number a ∷ words.Number n ∷ [])
query_spoken (queries.MetaGet e) = spoken_as verbs.MetaGet (entry_words e)
query_spoken (queries.AsGet e n) = spoken_as verbs.AsGet (entry_words e ++ words.Number n ∷ [])
query_spoken (queries.Load p n) = spoken_as verbs.Load (words.Wide p ∷ words.Number n ∷ [])

-- a query's one spelling
abbrev pub query_text : Query → List ℕ
query_text q = spoken_text (query_spoken q)

-- each word is in its range
abbrev pub IsQuery : Query → Type 0
IsQuery q = IsSpoken (query_spoken q)

-- the query among what is asked
abbrev pub query_of : Result Asked (List ℕ) → Option Query
query_of (Ok (Write c)) = None
query_of (Ok (Read q)) = Some q
query_of (Err name) = None

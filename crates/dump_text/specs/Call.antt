-- The spelling of calls in dumps: each object and category by its number.
use Rattle.std.specs.Prelude.{ℕ, List, [], ◌∷◌, ◌++◌, Option, Some, None, Result, Ok, Err}
use Rattle.label_lattice.specs.declared.raw_labels.RawLabel.{RawLabel}
use Rattle.kernel_rules.specs.declared.calls.Call.{Call}
use Rattle.kernel_rules.specs.declared.calls.Call.TheVariants as calls
use Rattle.kernel_rules.specs.declared.calls.Entry.{Entry}
use Rattle.kernel_rules.specs.declared.objects.Mapping.{Mapping}
use Rattle.text_words.specs.declared.spoken_calls.verbs.Verb.{Verb}
use Rattle.text_words.specs.declared.spoken_calls.verbs.Verb.TheVariants as verbs
use Rattle.text_words.specs.Spoken.{Spoken, IsSpoken, spoken_text}
use Rattle.call_text.specs.declared.asking.Asked.{Asked}
use Rattle.call_text.specs.declared.asking.Asked.TheVariants.{Write, Read}
use Rattle.dump_text.specs.declared.words.Word.{Word}
use Rattle.dump_text.specs.declared.words.Word.TheVariants as words
use Rattle.dump_text.specs.Word.{args_of}

-- a verb with these words
abbrev pub spoken_as : Verb → List Word → Spoken
spoken_as verb ws = record { verb = verb; args = args_of ws }

-- the words of an entry
abbrev pub entry_words : Entry → List Word
entry_words e = words.Object e.container ∷ words.Object e.object ∷ []

-- where a new object is listed, its label and its quota
abbrev pub creation_words : ℕ → RawLabel → ℕ → List Word
creation_words d l q = words.Object d ∷ words.Label l ∷ words.Number q ∷ []

-- a mapping in a slot
abbrev pub mapping_words : ℕ → Mapping → List Word
mapping_words n m =
    words.Number n ∷ words.Number m.page ∷ words.Object m.entry.container
    ∷ words.Object m.entry.object ∷ words.Number m.first ∷ words.Number m.count
    ∷ words.Rights m.rights ∷ []

-- what spells a call
abbrev pub spoken_of : Call → Spoken
spoken_of calls.CatCreate = spoken_as verbs.CatCreate []
spoken_of (calls.SelfSetLabel l) = spoken_as verbs.SelfSetLabel (words.Label l ∷ [])
spoken_of (calls.SelfSetClearance l) = spoken_as verbs.SelfSetClearance (words.Label l ∷ [])
spoken_of (calls.SelfSetAs e) = spoken_as verbs.SelfSetAs (entry_words e)
spoken_of (calls.ContainerCreate n) =
    spoken_as verbs.ContainerCreate
    (creation_words n.container n.label n.quota ++ words.Types n.avoid ∷ [])
spoken_of (calls.SegmentCreate n) =
    spoken_as verbs.SegmentCreate
    (creation_words n.container n.label n.quota ++ words.Number n.pages ∷ [])
spoken_of (calls.SegmentCopy n) =
    spoken_as verbs.SegmentCopy
    (creation_words n.container n.label n.quota ++ entry_words n.source)
spoken_of (calls.AsCreate n) =
    spoken_as verbs.AsCreate (creation_words n.container n.label n.quota)
spoken_of (calls.ThreadCreate n) =
    spoken_as verbs.ThreadCreate
    (creation_words n.container n.label n.quota
    ++ words.Label n.clearance ∷ words.Wide n.entry_point ∷ [])
spoken_of (calls.GateCreate n) =
    spoken_as verbs.GateCreate
    (creation_words n.container n.label n.quota
    ++ words.Label n.clearance
    ∷ (entry_words n.space ++ words.Wide n.entry_point ∷ words.Wide n.closure ∷ []))
spoken_of (calls.Link t e) = spoken_as verbs.Link (words.Object t ∷ entry_words e)
spoken_of (calls.Unref e) = spoken_as verbs.Unref (entry_words e)
spoken_of (calls.QuotaMove e z) = spoken_as verbs.QuotaMove (entry_words e ++ words.Signed z ∷ [])
spoken_of (calls.SetFixed e) = spoken_as verbs.SetFixed (entry_words e)
spoken_of (calls.SetImmutable e) = spoken_as verbs.SetImmutable (entry_words e)
spoken_of (calls.MetaSet e b) = spoken_as verbs.MetaSet (entry_words e ++ words.Data b ∷ [])
spoken_of (calls.SegmentResize e n) =
    spoken_as verbs.SegmentResize (entry_words e ++ words.Number n ∷ [])
spoken_of (calls.SegmentWrite e n b) =
    spoken_as verbs.SegmentWrite (entry_words e ++ words.Number n ∷ words.Data b ∷ [])
spoken_of (calls.AsMap e n m) = spoken_as verbs.AsMap (entry_words e ++ mapping_words n m)
spoken_of (calls.AsUnmap e n) = spoken_as verbs.AsUnmap (entry_words e ++ words.Number n ∷ [])
spoken_of (calls.Store p b) = spoken_as verbs.Store (words.Wide p ∷ words.Data b ∷ [])
spoken_of (calls.GateEnter e l c v) =
    spoken_as verbs.GateEnter (entry_words e ++ words.Label l ∷ words.Label c ∷ words.Label v ∷ [])
spoken_of (calls.DevSend e b) = spoken_as verbs.DevSend (entry_words e ++ words.Data b ∷ [])
spoken_of (calls.DevRecv e) = spoken_as verbs.DevRecv (entry_words e)

-- a call's one spelling
abbrev pub call_text : Call → List ℕ
call_text c = spoken_text (spoken_of c)

-- each word is in its range
abbrev pub IsCall : Call → Type 0
IsCall c = IsSpoken (spoken_of c)

-- the write call among what is asked
abbrev pub write_of : Result Asked (List ℕ) → Option Call
write_of (Ok (Write c)) = Some c
write_of (Ok (Read q)) = None
write_of (Err name) = None

-- All calls.
use Rattle.std.specs.Prelude.{List, [], ◌∷◌}
use Rattle.text_words.specs.declared.spoken_calls.verbs.Verb.{Verb}
use Rattle.text_words.specs.declared.spoken_calls.verbs.Verb.TheVariants as verbs

-- the write calls, and after them the read calls
abbrev pub all_verbs : List Verb
all_verbs =
    verbs.CatCreate ∷ verbs.SelfSetLabel ∷ verbs.SelfSetClearance ∷ verbs.SelfSetAs ∷
    verbs.ContainerCreate ∷ verbs.SegmentCreate ∷ verbs.SegmentCopy ∷ verbs.AsCreate ∷
    verbs.ThreadCreate ∷ verbs.GateCreate ∷ verbs.Link ∷ verbs.Unref ∷ verbs.QuotaMove ∷
    verbs.SetFixed ∷ verbs.SetImmutable ∷ verbs.MetaSet ∷ verbs.SegmentResize ∷ verbs.SegmentWrite ∷
    verbs.AsMap ∷ verbs.AsUnmap ∷ verbs.Store ∷ verbs.GateEnter ∷ verbs.DevSend ∷ verbs.DevRecv ∷
    verbs.SelfGet ∷ verbs.ObjLabel ∷ verbs.ObjQuota ∷ verbs.ContainerList ∷ verbs.ContainerParent ∷
    verbs.SegmentLen ∷ verbs.SegmentRead ∷ verbs.MetaGet ∷ verbs.AsGet ∷ verbs.Load ∷ []

-- The table of calls: the word of each, the kinds of its arguments, and whether it makes something.
use Rattle.std.specs.Prelude.{◌≡◌, ℕ, ◌<◌, Bool, true, false, List, [], ◌∷◌, length, slice_index_or, codes}
use Rattle.text_words.specs.declared.spoken_calls.verbs.Verb.{Verb}
use Rattle.text_words.specs.declared.spoken_calls.verbs.Verb.TheVariants as verbs
use Rattle.text_words.specs.declared.spoken_calls.args.ArgKind.{ArgKind}
use Rattle.text_words.specs.declared.spoken_calls.args.ArgKind.TheVariants.{Object, Number, Wide, Signed, Label}
use Rattle.text_words.specs.declared.spoken_calls.args.ArgKind.TheVariants.{Data, Types, Rights}

-- the word of a call
abbrev pub name_of : Verb → List ℕ
name_of verbs.CatCreate = codes "cat_create"
name_of verbs.SelfSetLabel = codes "self_set_label"
name_of verbs.SelfSetClearance = codes "self_set_clearance"
name_of verbs.SelfSetAs = codes "self_set_as"
name_of verbs.ContainerCreate = codes "container_create"
name_of verbs.SegmentCreate = codes "segment_create"
name_of verbs.SegmentCopy = codes "segment_copy"
name_of verbs.AsCreate = codes "as_create"
name_of verbs.ThreadCreate = codes "thread_create"
name_of verbs.GateCreate = codes "gate_create"
name_of verbs.Link = codes "link"
name_of verbs.Unref = codes "unref"
name_of verbs.QuotaMove = codes "quota_move"
name_of verbs.SetFixed = codes "set_fixed"
name_of verbs.SetImmutable = codes "set_immutable"
name_of verbs.MetaSet = codes "meta_set"
name_of verbs.SegmentResize = codes "segment_resize"
name_of verbs.SegmentWrite = codes "segment_write"
name_of verbs.AsMap = codes "as_map"
name_of verbs.AsUnmap = codes "as_unmap"
name_of verbs.Store = codes "store"
name_of verbs.GateEnter = codes "gate_enter"
name_of verbs.DevSend = codes "dev_send"
name_of verbs.DevRecv = codes "dev_recv"
name_of verbs.SelfGet = codes "self_get"
name_of verbs.ObjLabel = codes "obj_label"
name_of verbs.ObjQuota = codes "obj_quota"
name_of verbs.ContainerList = codes "container_list"
name_of verbs.ContainerParent = codes "container_parent"
name_of verbs.SegmentLen = codes "segment_len"
name_of verbs.SegmentRead = codes "segment_read"
name_of verbs.MetaGet = codes "meta_get"
name_of verbs.AsGet = codes "as_get"
name_of verbs.Load = codes "load"

-- the kinds of its arguments, in order
abbrev pub kinds_of : Verb → List ArgKind
kinds_of verbs.CatCreate = []
kinds_of verbs.SelfSetLabel = Label ∷ []
kinds_of verbs.SelfSetClearance = Label ∷ []
kinds_of verbs.SelfSetAs = Object ∷ Object ∷ []
kinds_of verbs.ContainerCreate = Object ∷ Label ∷ Number ∷ Types ∷ []
kinds_of verbs.SegmentCreate = Object ∷ Label ∷ Number ∷ Number ∷ []
kinds_of verbs.SegmentCopy = Object ∷ Label ∷ Number ∷ Object ∷ Object ∷ []
kinds_of verbs.AsCreate = Object ∷ Label ∷ Number ∷ []
kinds_of verbs.ThreadCreate = Object ∷ Label ∷ Number ∷ Label ∷ Wide ∷ []
kinds_of verbs.GateCreate = Object ∷ Label ∷ Number ∷ Label ∷ Object ∷ Object ∷ Wide ∷ Wide ∷ []
kinds_of verbs.Link = Object ∷ Object ∷ Object ∷ []
kinds_of verbs.Unref = Object ∷ Object ∷ []
kinds_of verbs.QuotaMove = Object ∷ Object ∷ Signed ∷ []
kinds_of verbs.SetFixed = Object ∷ Object ∷ []
kinds_of verbs.SetImmutable = Object ∷ Object ∷ []
kinds_of verbs.MetaSet = Object ∷ Object ∷ Data ∷ []
kinds_of verbs.SegmentResize = Object ∷ Object ∷ Number ∷ []
kinds_of verbs.SegmentWrite = Object ∷ Object ∷ Number ∷ Data ∷ []
kinds_of verbs.AsMap =
    Object ∷ Object ∷ Number ∷ Number ∷ Object ∷ Object ∷ Number ∷ Number ∷ Rights ∷ []
kinds_of verbs.AsUnmap = Object ∷ Object ∷ Number ∷ []
kinds_of verbs.Store = Wide ∷ Data ∷ []
kinds_of verbs.GateEnter = Object ∷ Object ∷ Label ∷ Label ∷ Label ∷ []
kinds_of verbs.DevSend = Object ∷ Object ∷ Data ∷ []
kinds_of verbs.DevRecv = Object ∷ Object ∷ []
kinds_of verbs.SelfGet = []
kinds_of verbs.ObjLabel = Object ∷ Object ∷ []
kinds_of verbs.ObjQuota = Object ∷ Object ∷ []
kinds_of verbs.ContainerList = Object ∷ Number ∷ []
kinds_of verbs.ContainerParent = Object ∷ []
kinds_of verbs.SegmentLen = Object ∷ Object ∷ []
kinds_of verbs.SegmentRead = Object ∷ Object ∷ Number ∷ Number ∷ []
kinds_of verbs.MetaGet = Object ∷ Object ∷ []
kinds_of verbs.AsGet = Object ∷ Object ∷ Number ∷ []
kinds_of verbs.Load = Wide ∷ Number ∷ []

-- whether it makes something that a name can be bound to
abbrev pub makes : Verb → Bool
makes verbs.CatCreate = true
makes verbs.ContainerCreate = true
makes verbs.SegmentCreate = true
makes verbs.SegmentCopy = true
makes verbs.AsCreate = true
makes verbs.ThreadCreate = true
makes verbs.GateCreate = true
makes _ = false

-- whether it is a write call
abbrev pub writes : Verb → Bool
writes verbs.SelfGet = false
writes verbs.ObjLabel = false
writes verbs.ObjQuota = false
writes verbs.ContainerList = false
writes verbs.ContainerParent = false
writes verbs.SegmentLen = false
writes verbs.SegmentRead = false
writes verbs.MetaGet = false
writes verbs.AsGet = false
writes verbs.Load = false
writes _ = true

-- the verb stands in the list
abbrev pub IsOneOf : Verb → List Verb → Type 0
IsOneOf v vs = (k : ℕ) × (k < length vs) × (slice_index_or vs k v ≡ v)

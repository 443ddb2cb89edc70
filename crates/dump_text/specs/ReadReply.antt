-- The replies of queries.
use Rattle.std.specs.Prelude.{ℕ, ◌≤◌, List, [], ◌∷◌, ◌++◌, length, map, replicate, codes}
use Rattle.text_words.specs.declared.spoken_calls.args.ArgKind.{ArgKind}
use Rattle.text_words.specs.declared.spoken_calls.args.ArgKind.TheVariants as kinds
use Rattle.kernel_rules.specs.declared.objects.Mapping.{Mapping}
use Rattle.call_text.specs.ReplyWord.{refusal_text}
use Rattle.dump_text.specs.declared.read_replies.OwnReply.{OwnReply}
use Rattle.dump_text.specs.declared.read_replies.LabelReply.{LabelReply}
use Rattle.dump_text.specs.declared.read_replies.QuotaReply.{QuotaReply}
use Rattle.dump_text.specs.declared.read_replies.ListReply.{ListReply}
use Rattle.dump_text.specs.declared.read_replies.ParentReply.{ParentReply}
use Rattle.dump_text.specs.declared.read_replies.PagesReply.{PagesReply}
use Rattle.dump_text.specs.declared.read_replies.ReadReply.{ReadReply}
use Rattle.dump_text.specs.declared.read_replies.ReadReply.TheVariants as reads
use Rattle.dump_text.specs.declared.words.Word.{Word}
use Rattle.dump_text.specs.declared.words.Word.TheVariants as words
use Rattle.dump_text.specs.Allowed.{AreWords, AreAllowed, Anything}
use Rattle.dump_text.specs.Call.{entry_words}
use Rattle.dump_text.specs.Head.{flag_of}
use Rattle.dump_text.specs.Report.{IsKernels}
use Rattle.dump_text.specs.StateLine.{packet_words, packet_kinds}
use Rattle.dump_text.specs.Word.{words_text}

-- LABEL CLEARANCE VERIFY D A ENTRY CLOSURE
abbrev pub own_words : OwnReply → List Word
own_words o =
    words.Label o.label ∷ words.Label o.thread.clearance ∷ words.Label o.thread.verify
    ∷ (entry_words o.thread.space
    ++ words.Wide o.thread.entry_point ∷ words.Wide o.thread.closure ∷ [])

-- LABEL
abbrev pub shown_words : LabelReply → List Word
shown_words l = words.Label l.label ∷ []

-- Q U F I
abbrev pub quota_words : QuotaReply → List Word
quota_words q =
    words.Number q.quota ∷ words.Number q.used ∷ words.Number (flag_of q.fixed)
    ∷ words.Number (flag_of q.immutable) ∷ []

-- LENGTH, and ids
abbrev pub listed_words : ListReply → List Word
listed_words l = words.Wide l.count ∷ map words.Object l.ids

-- ID
abbrev pub parent_words : ParentReply → List Word
parent_words p = words.Object p.container ∷ []

-- P
abbrev pub pages_words : PagesReply → List Word
pages_words p = words.Number p.pages ∷ []

-- VA D O PG COUNT RIGHTS
abbrev pub mapped_words : Mapping → List Word
mapped_words m =
    words.Number m.page
    ∷ (entry_words m.entry
    ++ words.Number m.first ∷ words.Number m.count ∷ words.Rights m.rights ∷ [])

abbrev pub own_kinds : List ArgKind
own_kinds =
    kinds.Label ∷ kinds.Label ∷ kinds.Label ∷ kinds.Object ∷ kinds.Object ∷ kinds.Wide
    ∷ kinds.Wide ∷ []

abbrev pub shown_kinds : List ArgKind
shown_kinds = kinds.Label ∷ []

abbrev pub quota_kinds : List ArgKind
quota_kinds = kinds.Number ∷ kinds.Number ∷ kinds.Number ∷ kinds.Number ∷ []

abbrev pub listed_kinds : ℕ → List ArgKind
listed_kinds n = kinds.Wide ∷ replicate n kinds.Object

abbrev pub parent_kinds : List ArgKind
parent_kinds = kinds.Object ∷ []

abbrev pub pages_kinds : List ArgKind
pages_kinds = kinds.Number ∷ []

abbrev pub mapped_kinds : List ArgKind
mapped_kinds =
    kinds.Number ∷ kinds.Object ∷ kinds.Object ∷ kinds.Number ∷ kinds.Number ∷ kinds.Rights ∷ []

-- at most 16 ids
abbrev pub HasFew : ListReply → Type 0
HasFew l = length l.ids ≤ 16

-- a reply's one spelling
abbrev pub read_reply_text : ReadReply → List ℕ
read_reply_text (reads.Own o) = codes "self " ++ words_text (own_words o)
read_reply_text (reads.Label l) = codes "label " ++ words_text (shown_words l)
read_reply_text (reads.Quota q) = codes "quota " ++ words_text (quota_words q)
read_reply_text (reads.Listed l) = codes "list " ++ words_text (listed_words l)
read_reply_text (reads.Parent p) = codes "parent " ++ words_text (parent_words p)
read_reply_text (reads.Pages p) = codes "pages " ++ words_text (pages_words p)
read_reply_text (reads.Bytes d) = codes "data " ++ words_text (packet_words d)
read_reply_text (reads.Mapping m) = codes "mapping " ++ words_text (mapped_words m)
read_reply_text reads.Unmapped = codes "mapping none"
read_reply_text (reads.Refused r) = codes "refused " ++ refusal_text r

-- each word is in its range
abbrev pub IsReadReply : ReadReply → Type 0
IsReadReply (reads.Own o) = AreAllowed own_kinds own_words Anything o
IsReadReply (reads.Label l) = AreAllowed shown_kinds shown_words Anything l
IsReadReply (reads.Quota q) = AreAllowed quota_kinds quota_words Anything q
IsReadReply (reads.Listed l) = AreAllowed (listed_kinds (length l.ids)) listed_words HasFew l
IsReadReply (reads.Parent p) = AreAllowed parent_kinds parent_words Anything p
IsReadReply (reads.Pages p) = AreAllowed pages_kinds pages_words Anything p
IsReadReply (reads.Bytes d) = AreAllowed packet_kinds packet_words Anything d
IsReadReply (reads.Mapping m) = AreAllowed mapped_kinds mapped_words Anything m
IsReadReply reads.Unmapped = Unit {0}
IsReadReply (reads.Refused r) = IsKernels r

-- the values of a reply fit their words. Nothing is asked of a refusal
abbrev pub FitsReadReply : ReadReply → Type 0
FitsReadReply (reads.Own o) = AreWords own_kinds (own_words o)
FitsReadReply (reads.Label l) = AreWords shown_kinds (shown_words l)
FitsReadReply (reads.Quota q) = AreWords quota_kinds (quota_words q)
FitsReadReply (reads.Listed l) = AreAllowed (listed_kinds (length l.ids)) listed_words HasFew l
FitsReadReply (reads.Parent p) = AreWords parent_kinds (parent_words p)
FitsReadReply (reads.Pages p) = AreWords pages_kinds (pages_words p)
FitsReadReply (reads.Bytes d) = AreWords packet_kinds (packet_words d)
FitsReadReply (reads.Mapping m) = AreWords mapped_kinds (mapped_words m)
FitsReadReply reads.Unmapped = Unit {0}
FitsReadReply (reads.Refused r) = Unit {0}

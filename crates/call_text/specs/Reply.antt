-- The spelling of replies.
use Rattle.std.specs.Prelude.{ℕ, Bool, List, [], ◌∷◌, map, Option, Some, None}
use Rattle.label_lattice.specs.Label.{LabelValue}
use Rattle.kernel_rules.specs.declared.calls.Entry.{Entry}
use Rattle.kernel_rules.specs.declared.objects.Mapping.{Mapping}
use Rattle.kernel_rules.specs.declared.replies.Reply.{Reply}
use Rattle.kernel_rules.specs.declared.replies.Reply.TheVariants as replies
use Rattle.call_text.specs.declared.known_names.Named.{Named}
use Rattle.call_text.specs.declared.known_names.Value.{Value}
use Rattle.call_text.specs.declared.known_names.Value.TheVariants as values
use Rattle.call_text.specs.declared.reply_words.Head.TheVariants as heads
use Rattle.call_text.specs.declared.reply_words.Word.{Word}
use Rattle.call_text.specs.declared.reply_words.Word.TheVariants as words
use Rattle.call_text.specs.ReplyWord.{words_text}

-- the words of what a slot maps
abbrev pub mapping_words : Option Mapping → List Word
mapping_words None = words.Nothing ∷ []
mapping_words (Some m) =
    words.Number m.page ∷ words.Object m.entry.container ∷ words.Object m.entry.object
    ∷ words.Number m.first ∷ words.Number m.count ∷ words.Rights m.rights ∷ []

-- the words of what a thread is
abbrev pub own_words : LabelValue → LabelValue → LabelValue → Entry → ℕ → ℕ → List Word
own_words label clearance verify space point closure =
    words.Label label ∷ words.Label clearance ∷ words.Label verify ∷ words.Object space.container
    ∷ words.Object space.object ∷ words.Number point ∷ words.Number closure ∷ []

-- the words of what an object may use and uses, and whether its quota is fixed and it is immutable
abbrev pub quota_words : ℕ → ℕ → Bool → Bool → List Word
quota_words quota used fixed immutable =
    words.Number quota ∷ words.Number used ∷ words.Flag fixed ∷ words.Flag immutable ∷ []

-- the table of replies
abbrev pub reply_text : List Named → Reply → List ℕ
reply_text names replies.Done = words_text names heads.Ok []
reply_text names (replies.Category c) = words_text names heads.Cat (words.Category c ∷ [])
reply_text names (replies.Object id) = words_text names heads.Id (words.Object id ∷ [])
reply_text names (replies.Entered point closure) =
    words_text names heads.Entered (words.Number point ∷ words.Number closure ∷ [])
reply_text names (replies.Bytes d) = words_text names heads.Data (words.Data d ∷ [])
reply_text names (replies.Own label clearance verify space point closure) =
    words_text names heads.Own
    (own_words label clearance verify space point closure)
reply_text names (replies.Label l) = words_text names heads.Label (words.Label l ∷ [])
reply_text names (replies.Quota quota used fixed immutable) =
    words_text names heads.Quota
    (quota_words quota used fixed immutable)
reply_text names (replies.Listed count ids) =
    words_text names heads.List (words.Number count ∷ map words.Object ids)
reply_text names (replies.Parent id) = words_text names heads.Parent (words.Object id ∷ [])
reply_text names (replies.Pages pages) = words_text names heads.Pages (words.Number pages ∷ [])
reply_text names (replies.Mapping m) = words_text names heads.Mapping (mapping_words m)
reply_text names (replies.Refused r) = words_text names heads.Refused (words.Refusal r ∷ [])

-- the reply of a call that made this
abbrev pub making : Value → Reply
making (values.Object id) = replies.Object id
making (values.Category c) = replies.Category c

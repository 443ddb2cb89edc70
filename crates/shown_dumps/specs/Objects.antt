-- The line of an object at one place where it is listed.
use Rattle.std.specs.Prelude.{ℕ, ◌+◌, ◌==◌, ◌&&◌, not, Bool, List, [], ◌∷◌, ◌++◌, Option, codes, decimal, if◌then◌else◌, zero, suc}
use Rattle.std.specs.List.{flat_map}
use Rattle.base.specs.Level.{rank_of}
use Rattle.base.specs.Live.{has}
use Rattle.base.specs.declared.kinds.Kind.{Kind}
use Rattle.base.specs.declared.kinds.Kind.TheVariants as kinds
use Rattle.call_text.specs.Reply.{reply_text}
use Rattle.call_text.specs.ReplyWord.{value_text}
use Rattle.call_text.specs.declared.known_names.Named.{Named}
use Rattle.call_text.specs.declared.known_names.Value.TheVariants.{Object as OfObject, Category as OfCategory}
use Rattle.kernel_rules.specs.Scratch.{ids_of}
use Rattle.kernel_rules.specs.State.{State, kind_of, list_at, use_of}
use Rattle.kernel_rules.specs.Translate.{names_none}
use Rattle.kernel_rules.specs.declared.calls.Entry.{Entry}
use Rattle.kernel_rules.specs.declared.objects.Object.{Object}
use Rattle.kernel_rules.specs.declared.objects.Body as body
use Rattle.kernel_rules.specs.declared.objects.Body.TheVariants as is
use Rattle.kernel_rules.specs.declared.replies.Reply.TheVariants as replies
use Rattle.label_lattice.specs.Label.{LabelValue}
use Rattle.label_lattice.specs.declared.pairings.Pair.{Pair}
use Rattle.shown_dumps.specs.Deleting.{deletable_text}
use Rattle.shown_dumps.specs.declared.tree.places.Place.{Place}

-- two spaces for each level
abbrev pub indent : ℕ → List ℕ
indent zero = []
indent (suc n) = indent n ++ codes "  "

-- the word of a kind
abbrev pub kind_word : Kind → List ℕ
kind_word kinds.Container = codes " container, "
kind_word kinds.Segment = codes " segment, "
kind_word kinds.AddressSpace = codes " address space, "
kind_word kinds.Thread = codes " thread, "
kind_word kinds.Gate = codes " gate, "
kind_word kinds.Device = codes " device, "

-- a label, with each category by its name, or by its number where it has none
abbrev pub label_text : List Named → LabelValue → List ℕ
label_text names l = reply_text names (replies.Label l)

-- its id, its kind and its label
abbrev pub head_text : List Named → ℕ → Object → List ℕ
head_text names id x = value_text names (OfObject id) ++ kind_word (kind_of x.body) ++ label_text names x.label

-- the categories that the label owns
abbrev pub owned_one : List Named → Pair → List ℕ
owned_one names pair =
    if rank_of pair.level == 0 then codes ", owns " ++ value_text names (OfCategory pair.category) else []

abbrev pub owned_text : List Named → List Pair → List ℕ
owned_text names pairs = flat_map (owned_one names) pairs

-- the clearance of a thread or of a gate, and its address space where it has one
abbrev pub space_text : List Named → Entry → List ℕ
space_text names e =
    if names_none e then []
    else codes ", space " ++ value_text names (OfObject e.container) ++ codes " " ++ value_text names (OfObject e.object)

abbrev pub bearer_text : List Named → LabelValue → Entry → List ℕ
bearer_text names clearance space = codes ", clearance " ++ label_text names clearance ++ space_text names space

abbrev pub body_text : List Named → body.Body → List ℕ
body_text names (is.Thread t) = bearer_text names t.clearance t.space
body_text names (is.Gate g) = bearer_text names g.clearance g.space
body_text names (is.Container avoid list) = []
body_text names (is.Segment bytes) = []
body_text names (is.AddressSpace slots) = []
body_text names (is.Device packets) = []

-- its quota, and how much of it is used, in pages of 256 bytes
abbrev pub quota_text : ℕ → ℕ → List ℕ
quota_text quota used = codes ", quota " ++ decimal quota ++ codes ", used " ++ decimal used

-- whether its quota is fixed, and whether it is read-only for good
abbrev pub flags_text : Bool → Bool → List ℕ
flags_text fixed immutable =
    (if fixed then codes ", fixed" else []) ++ (if immutable then codes ", immutable" else [])

-- another container that lists it
abbrev pub other_one : List Named → State → Place → ℕ → List ℕ
other_one names s p c =
    if has (list_at s c) p.id && not (c == p.container) then codes ", also in " ++ value_text names (OfObject c) else []

abbrev pub others_text : List Named → State → Place → List ℕ
others_text names s p = flat_map (other_one names s p) (ids_of s.objects)

-- what stands of the object alone
abbrev pub own_text : List Named → ℕ → Object → List ℕ
own_text names id x = head_text names id x ++ owned_text names x.label.exceptions ++ body_text names x.body

-- what is told of the object at a place
abbrev pub object_text : List Named → State → Place → Object → List ℕ
object_text names s p x =
    own_text names p.id x ++ quota_text x.quota (use_of s p.id) ++ flags_text x.fixed x.immutable ++ others_text names s p

-- its line, which is as far in as the place is deep, and says whether the thread that is asked about may delete it
abbrev pub object_line : List Named → Option ℕ → State → Place → Object → List ℕ
object_line names asked s p x = indent p.depth ++ object_text names s p x ++ deletable_text s asked p.id ++ 10 ∷ []

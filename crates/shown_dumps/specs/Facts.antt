-- Facts in words: what is to be so, for the call to be accepted, and what is so where it is not.
use Rattle.std.specs.Prelude.{List, codes, ℕ, Bool, if◌then◌else◌}
use Rattle.base.specs.declared.kinds.Kind.{Kind}
use Rattle.base.specs.declared.kinds.Kind.TheVariants as kinds
use Rattle.explained.specs.declared.facts.Fact.{Fact}
use Rattle.explained.specs.declared.facts.Fact.TheVariants as facts

-- that the object is of a kind, and that it is not
abbrev pub kind_words : Kind → List ℕ × List ℕ
kind_words kinds.Container = (codes "the object is a container", codes "the object is not a container")
kind_words kinds.Segment = (codes "the object is a segment", codes "the object is not a segment")
kind_words kinds.AddressSpace = (codes "the object is an address space", codes "the object is not an address space")
kind_words kinds.Thread = (codes "the object is a thread", codes "the object is not a thread")
kind_words kinds.Gate = (codes "the object is a gate", codes "the object is not a gate")
kind_words kinds.Device = (codes "the object is a device", codes "the object is not a device")

-- what is to be so, and what is so in its place, where the call is refused for it
abbrev pub fact_words : Fact → List ℕ × List ℕ
fact_words facts.NoThread = (codes "the caller is a live thread", codes "the caller is no live thread")
fact_words facts.NoContainer = (codes "the container is live", codes "the container is not live")
fact_words facts.NoEntry = (codes "the container lists the object, or is it", codes "the container does not list the object, and is not it")
fact_words facts.NotListed = (codes "the container lists the object", codes "the container does not list the object")
fact_words facts.Listed = (codes "the container does not list the object yet", codes "the container lists the object")
fact_words facts.IsRoot = (codes "the entry is not that of the root in itself", codes "the entry is that of the root in itself")
fact_words (facts.NotOfKind kind) = kind_words kind
fact_words (facts.OfKind kind) = ((kind_words kind).1, (kind_words kind).0)
fact_words facts.Immutable = (codes "the object is not read-only for good", codes "the object is read-only for good")
fact_words facts.NotFixed = (codes "the quota of the object is fixed", codes "the quota of the object is not fixed")
fact_words facts.Fixed = (codes "the quota of the object is not fixed", codes "the quota of the object is fixed")
fact_words facts.Avoided = (codes "the container takes objects of this kind", codes "the container takes no objects of this kind")
fact_words facts.Unstorable = (codes "the label can be stored", codes "the label can not be stored")
fact_words facts.NotMade = (codes "the categories of the label were made", codes "a category of the label was never made")
fact_words facts.HasStar = (codes "the label has no star", codes "the label has a star")
fact_words facts.LabelFull = (codes "the label of the thread has room for a category", codes "the label of the thread has no room for a category")
fact_words facts.ClearanceFull = (codes "the clearance of the thread has room for a category", codes "the clearance of the thread has no room for a category")
fact_words facts.IdsSpent = (codes "an id is left", codes "no id is left")
fact_words facts.CategoriesSpent = (codes "a category is left", codes "no category is left")
fact_words facts.NoRights = (codes "the mapping allows reads or writes", codes "the mapping allows neither reads nor writes")
fact_words facts.SlotEmpty = (codes "the slot maps something", codes "the slot maps nothing")
fact_words facts.Unmapped = (codes "the address is in a mapping that the thread can use", codes "the address is in no mapping that the thread can use")
fact_words facts.RightsLacking = (codes "the mapping allows it", codes "the mapping does not allow it")
fact_words facts.QueueFull = (codes "fewer than four packets wait", codes "four packets wait")
fact_words facts.QueueEmpty = (codes "a packet waits", codes "no packet waits")

-- the one or the other
abbrev pub told_text : Bool → Fact → List ℕ
told_text against fact = if against then (fact_words fact).1 else (fact_words fact).0

-- What stands at the places of a call, with the names that are known.
-- A place of another kind has 0, or nothing.
use Rattle.std.specs.Prelude.{ℕ, ℤ, pos, ◌+◌, List, [], map, slice_get, Option, Some, None}
use Rattle.base.specs.declared.ids.Category.{Category as Cat}
use Rattle.base.specs.declared.levels.Level.TheVariants.{Star}
use Rattle.base.specs.declared.sets.Rights.{Rights}
use Rattle.base.specs.declared.sets.TypeSet.{TypeSet}
use Rattle.base.specs.Sets.{no_kind, no_right}
use Rattle.label_lattice.specs.declared.pairings.Pair.{Pair}
use Rattle.label_lattice.specs.declared.raw_labels.RawLabel.{RawLabel}
use Rattle.kernel_rules.specs.declared.calls.Entry.{Entry}
use Rattle.kernel_rules.specs.declared.objects.Mapping.{Mapping}
use Rattle.text_words.specs.declared.references.Reference.{Reference}
use Rattle.text_words.specs.declared.references.Reference.TheVariants.{Number, Name}
use Rattle.text_words.specs.declared.spoken_labels.SpokenPair.{SpokenPair}
use Rattle.text_words.specs.Label.{LabelValue}
use Rattle.text_words.specs.declared.spoken_calls.args.Arg.{Arg}
use Rattle.text_words.specs.declared.spoken_calls.args.Arg.TheVariants as args
use Rattle.call_text.specs.declared.known_names.Named.{Named}
use Rattle.call_text.specs.declared.known_names.Value.{Value}
use Rattle.call_text.specs.declared.known_names.Value.TheVariants.{Object, Category}
use Rattle.call_text.specs.Known.{value_of}

-- an object's id
abbrev pub as_object : Option Value → ℕ
as_object (Some (Object id)) = id
as_object (Some (Category c)) = 0
as_object None = 0

-- a category
abbrev pub as_category : Option Value → Cat
as_category (Some (Category c)) = c
as_category (Some (Object id)) = record { 0 = 0 }
as_category None = record { 0 = 0 }

-- the object that is meant
abbrev pub object_of : Reference → List Named → ℕ
object_of (Number n) names = n
object_of (Name name) names = as_object (value_of name names)

-- the category that is meant
abbrev pub category_of : Reference → List Named → Cat
category_of (Number n) names = record { 0 = n }
category_of (Name name) names = as_category (value_of name names)

-- a pair that is meant
abbrev pub pair_of : List Named → SpokenPair → Pair
pair_of names p = record { category = category_of p.category names; level = p.level }

-- the raw label that is meant: the pairs stay as they were written
abbrev pub raw_of : LabelValue → List Named → RawLabel
raw_of l names = record { default = l.default; pairs = map (pair_of names) l.pairs }

-- an object where one stands, and so for each kind
abbrev pub object_in : Option Arg → List Named → ℕ
object_in (Some (args.Object r)) names = object_of r names
object_in (Some _) names = 0
object_in None names = 0

abbrev pub label_in : Option Arg → List Named → RawLabel
label_in (Some (args.Label l)) names = raw_of l names
label_in (Some _) names = record { default = Star; pairs = [] }
label_in None names = record { default = Star; pairs = [] }

abbrev pub number_in : Option Arg → ℕ
number_in (Some (args.Number n)) = n
number_in (Some _) = 0
number_in None = 0

abbrev pub wide_in : Option Arg → ℕ
wide_in (Some (args.Wide n)) = n
wide_in (Some _) = 0
wide_in None = 0

abbrev pub signed_in : Option Arg → ℤ
signed_in (Some (args.Signed z)) = z
signed_in (Some _) = pos 0
signed_in None = pos 0

abbrev pub data_in : Option Arg → List ℕ
data_in (Some (args.Data d)) = d
data_in (Some _) = []
data_in None = []

abbrev pub types_in : Option Arg → TypeSet
types_in (Some (args.Types s)) = s
types_in (Some _) = no_kind
types_in None = no_kind

abbrev pub rights_in : Option Arg → Rights
rights_in (Some (args.Rights r)) = r
rights_in (Some _) = no_right
rights_in None = no_right

-- the object at a place, and so for each kind
abbrev pub object_at : ℕ → List Arg → List Named → ℕ
object_at i xs names = object_in (slice_get xs i) names

abbrev pub label_at : ℕ → List Arg → List Named → RawLabel
label_at i xs names = label_in (slice_get xs i) names

abbrev pub number_at : ℕ → List Arg → ℕ
number_at i xs = number_in (slice_get xs i)

abbrev pub wide_at : ℕ → List Arg → ℕ
wide_at i xs = wide_in (slice_get xs i)

abbrev pub signed_at : ℕ → List Arg → ℤ
signed_at i xs = signed_in (slice_get xs i)

abbrev pub data_at : ℕ → List Arg → List ℕ
data_at i xs = data_in (slice_get xs i)

abbrev pub types_at : ℕ → List Arg → TypeSet
types_at i xs = types_in (slice_get xs i)

abbrev pub rights_at : ℕ → List Arg → Rights
rights_at i xs = rights_in (slice_get xs i)

-- a container, and after it an object
abbrev pub entry_at : ℕ → List Arg → List Named → Entry
entry_at i xs names =
    record { container = object_at i xs names; object = object_at (i + 1) xs names }

-- a virtual page, an entry, a page of the segment, how many pages, and rights
abbrev pub mapping_at : ℕ → List Arg → List Named → Mapping
mapping_at i xs names = record {
  page = number_at i xs;
  entry = entry_at (i + 1) xs names;
  first = number_at (i + 3) xs;
  count = number_at (i + 4) xs;
  rights = rights_at (i + 5) xs;
}

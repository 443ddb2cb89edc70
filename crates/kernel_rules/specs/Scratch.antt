-- What a machine may keep beside its records, recomputed from the state: the live ids, what each
-- object uses, what slots show, and the stored labels with how they compare.
use Rattle.std.specs.Prelude.{ℕ, zero, suc, ◌+◌, Bool, List, [], ◌∷◌, ◌++◌, map, Option, Some, None}
use Rattle.std.specs.Prelude.{if◌then◌else◌}
use Rattle.std.specs.List.{flat_map, insert, list_any}
use Rattle.std.specs.Ordering.{is_eq, is_gt}
use Rattle.base.specs.declared.sets.Rights.{Rights}
use Rattle.base.specs.declared.kinds.Kind.TheVariants as kinds
use Rattle.label_lattice.specs.Bits.{bits_of}
use Rattle.label_lattice.specs.Label.{LabelValue}
use Rattle.label_lattice.specs.Listing.{label_cmp}
use Rattle.label_lattice.specs.Raw.{raw_of}
use Rattle.kernel_rules.specs.Sizes.{slot_count}
use Rattle.kernel_rules.specs.State.{State, live_part, use_of, is_kind}
use Rattle.kernel_rules.specs.Tables.{TableLists}
use Rattle.kernel_rules.specs.Translate.{translate}
use Rattle.kernel_rules.specs.declared.objects.Body as body
use Rattle.kernel_rules.specs.declared.objects.Body.TheVariants as is
use Rattle.kernel_rules.specs.declared.objects.Object.{Object}
use Rattle.kernel_rules.specs.declared.tables.Compared.{Compared}
use Rattle.kernel_rules.specs.declared.tables.Shown.{Shown}
use Rattle.kernel_rules.specs.declared.tables.Used.{Used}

-- the ids of records
abbrev pub ids_of : List (ℕ × Object) → List ℕ
ids_of objects = map (λ e. e.0) objects

-- what each of these uses
abbrev pub uses_of : State → List ℕ → List Used
uses_of s ids = map (λ o. record { id = o; pages = use_of s o }) ids

-- what a slot of a thread shows, if anything
abbrev pub shown_as : ℕ → ℕ → Option (ℕ × Rights) → List Shown
shown_as t i None = []
shown_as t i (Some x) = record { thread = t; slot = i; segment = x.0; rights = x.1 } ∷ []

-- what n slots of a thread show, from slot i on
abbrev pub shown_from : State → ℕ → ℕ → ℕ → List Shown
shown_from s t i zero = []
shown_from s t i (suc n) = shown_as t i (translate s t i) ++ shown_from s t (i + 1) n

-- what the sixteen slots of a record show, where it is a thread's
abbrev pub shown_by : State → ℕ × Object → List Shown
shown_by s e = if is_kind kinds.Thread e.1 then shown_from s e.0 0 slot_count else []

-- the labels that a body stores: the clearance and the verify label of a thread, the clearance of
-- a gate
abbrev pub labels_of_body : body.Body → List LabelValue
labels_of_body (is.Thread t) = t.clearance ∷ t.verify ∷ []
labels_of_body (is.Gate g) = g.clearance ∷ []
labels_of_body (is.Container avoid list) = []
labels_of_body (is.Segment bytes) = []
labels_of_body (is.AddressSpace slots) = []
labels_of_body (is.Device packets) = []

-- the labels that an object stores: its own, and those of its body
abbrev pub labels_of : Object → List LabelValue
labels_of x = x.label ∷ labels_of_body x.body

-- how many of these labels come before l, up to the first that doesn't
abbrev pub place_of_label : LabelValue → List LabelValue → ℕ
place_of_label l [] = 0
place_of_label l (m ∷ ms) = if is_gt (label_cmp l m) then place_of_label l ms + 1 else 0

-- l stands among these labels
abbrev pub is_stored_in : LabelValue → List LabelValue → Bool
is_stored_in l ms = list_any (λ m. is_eq (label_cmp l m)) ms

-- these labels with l in its place, unless it stands among them
abbrev pub with_label : LabelValue → List LabelValue → List LabelValue
with_label l ms = if is_stored_in l ms then ms else insert ms (place_of_label l ms) l

-- these labels with each of some others in its place
abbrev pub with_labels : List LabelValue → List LabelValue → List LabelValue
with_labels ms [] = ms
with_labels ms (l ∷ ls) = with_labels (with_label l ms) ls

-- the labels that these objects store, each once and in their order
abbrev pub stored_labels : List (ℕ × Object) → List LabelValue
stored_labels objects = with_labels [] (flat_map (λ e. labels_of e.1) objects)

-- how label a, which has the place i, compares with labels from the place j on
abbrev pub compared_with : ℕ → LabelValue → ℕ → List LabelValue → List Compared
compared_with i a j [] = []
compared_with i a j (b ∷ bs) =
    record { first = i; second = j; bits = bits_of a b } ∷ compared_with i a (j + 1) bs

-- how labels, the first of which has the place i, compare with all
abbrev pub compared_from : List LabelValue → ℕ → List LabelValue → List Compared
compared_from all i [] = []
compared_from all i (a ∷ rest) = compared_with i a 0 all ++ compared_from all (i + 1) rest

-- the tables of a state whose live records are these
abbrev pub tables_of : State → List (ℕ × Object) → TableLists
tables_of s objects = record {
  live = ids_of objects;
  uses = uses_of s (ids_of objects);
  shown = flat_map (shown_by s) objects;
  labels = map raw_of (stored_labels objects);
  orders = compared_from (stored_labels objects) 0 (stored_labels objects);
}

-- the tables of a state, recomputed
unfoldable pub scratch : State → TableLists
scratch s = tables_of s (live_part s.objects)

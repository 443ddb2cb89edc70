-- The label rules of calls, over labels that may not be there. A rule fails where one is not there.
use Rattle.std.specs.Prelude.{Bool, false, ◌&&◌, nat_le, Option, Some, None, length}
use Rattle.std.specs.Prelude.{if◌then◌else◌}
use Rattle.base.specs.declared.levels.Level.{Level}
use Rattle.base.specs.declared.ids.Category.{Category}
use Rattle.label_lattice.specs.declared.raw_labels.RawLabel.{RawLabel}
use Rattle.label_lattice.specs.Label.{LabelValue}
use Rattle.label_lattice.specs.Order.{levels, leq_test, up, join, gate_floor}
use Rattle.label_lattice.specs.Placed.{with_level}
use Rattle.label_lattice.specs.Raw.{is_bad, stored_of}
use Rattle.label_lattice.specs.declared.label_rules.gates.Bearer.{Bearer}
use Rattle.label_lattice.specs.declared.label_rules.gates.Asked.{Asked}

-- a test of two values, which fails where one is not there
abbrev pub both : {A B : Type 0} → (A → B → Bool) → Option A → Option B → Bool
both test (Some a) (Some b) = test a b
both test (Some a) None = false
both test None b = false

-- a test of three values, which fails where one is not there
abbrev pub all_three : {A : Type 0} → (A → A → A → Bool) → Option A → Option A → Option A → Bool
all_three test (Some a) b c = both (test a) b c
all_three test None b c = false

-- the first label is at most the second
unfoldable pub below : LabelValue → LabelValue → Bool
below a b = leq_test (levels a) (levels b)

-- the first label is at most the second with star raised to J, above all levels
unfoldable pub visible : LabelValue → LabelValue → Bool
visible a b = leq_test (levels a) (up (levels b))

-- the first label with star raised is at most the second with star raised
unfoldable pub shown : LabelValue → LabelValue → Bool
shown a b = leq_test (up (levels a)) (up (levels b))

-- the first label is at most the maximum of the others
unfoldable pub below_join : LabelValue → LabelValue → LabelValue → Bool
below_join a b c = leq_test (levels a) (join (levels b) (levels c))

-- the first label is at most the maximum of the second and of the third with star raised
unfoldable pub below_join_up : LabelValue → LabelValue → LabelValue → Bool
below_join_up a b c = leq_test (levels a) (join (levels b) (up (levels c)))

-- the third label is at least what a thread of the first may have past a gate of the second: star
-- where one of them has it, and elsewhere their maximum
unfoldable pub above_floor : LabelValue → LabelValue → LabelValue → Bool
above_floor own gate asked = leq_test (gate_floor (levels own) (levels gate)) (levels asked)

-- a label is at least one and at most another: so is the label of a new object between the thread's
-- label and clearance, and the clearance of a new thread between its label and the maker's
-- clearance
abbrev pub between : Option LabelValue → Option LabelValue → Option LabelValue → Bool
between low label high = both below low label && both below label high

-- what a thread of this label and clearance may have as its new clearance
abbrev pub may_clear : Option LabelValue → Option LabelValue → Option LabelValue → Bool
may_clear own clearance asked = both below own asked && all_three below_join_up asked clearance own

-- the thread may enter the gate with what it asks: its label is at most the gate's clearance and at
-- most the verify label; the new label is at least the floor of thread and gate, and at most the
-- new clearance; and that is at most the maximum of both clearances
abbrev pub may_enter : Bearer → Bearer → Asked → Bool
may_enter thread gate asked =
    both below thread.label gate.clearance && both below thread.label asked.verify
    && all_three above_floor thread.label gate.label asked.label
    && both below asked.label asked.clearance
    && all_three below_join asked.clearance thread.clearance gate.clearance

-- the one stored label of a raw label, where it has one
unfoldable pub stored : RawLabel → Option LabelValue
stored raw = if is_bad raw then None else Some (stored_of raw)

-- the label with a category at a level, where it has room for it
unfoldable pub with_category : LabelValue → Category → Level → Option LabelValue
with_category l c level =
    let new = with_level l (record { category = c; level = level }) in
    if nat_le (length new.exceptions) 16 then Some new else None

-- What is told of each condition of the table of calls: the parts by which it is decided.
--
-- A fact stands against the call where the condition refuses it. Of labels and numbers the values are
-- told, and whose they are. That the parts refuse exactly where the condition does is a law of Laws.
use Rattle.std.specs.Prelude.{ℕ, ◌+◌, ◌%◌, Bool, not, ◌||◌, nat_lt, List, [], ◌∷◌, ◌++◌, map, Option}
use Rattle.std.specs.Prelude.{is_none, if◌then◌else◌, ℤ}
use Rattle.base.specs.Sets.{may_read, may_write}
use Rattle.base.specs.declared.kinds.Kind.TheVariants as kinds
use Rattle.label_lattice.specs.Label.{LabelValue}
use Rattle.label_lattice.specs.Raw.{is_bad, all_made, raw_has_star}
use Rattle.label_lattice.specs.declared.raw_labels.RawLabel.{RawLabel}
use Rattle.label_lattice.specs.LabelRules.{stored}
use Rattle.label_lattice.specs.declared.label_rules.gates.Asked.{Asked}
use Rattle.label_lattice.specs.declared.label_rules.gates.Bearer.{Bearer}
use Rattle.kernel_rules.specs.Sizes.{page_bytes, most_bytes, page_limit, most_pages, last_slot}
use Rattle.kernel_rules.specs.State.{State, is_live_kind, is_kind_at, label_at, clearance_at}
use Rattle.kernel_rules.specs.State.{quota_at, use_of, slots_at}
use Rattle.kernel_rules.specs.Translate.{slot_at}
use Rattle.kernel_rules.specs.Conditions.{Condition, pages_up, pages_down, own_label, own_clearance}
use Rattle.kernel_rules.specs.Conditions.{own_bearer, gate_bearer, asked_of_gate}
use Rattle.kernel_rules.specs.Conditions as condition
use Rattle.kernel_rules.specs.Rows.{Conditions}
use Rattle.kernel_rules.specs.declared.calls.Entry.{Entry}
use Rattle.kernel_rules.specs.declared.objects.Mapping.{Mapping}
use Rattle.explained.specs.declared.facts.Fact.{Fact}
use Rattle.explained.specs.declared.facts.Fact.TheVariants as facts
use Rattle.explained.specs.declared.parts.Comparison as comparison
use Rattle.explained.specs.declared.parts.Comparison.TheVariants as compared
use Rattle.explained.specs.declared.parts.Part as part
use Rattle.explained.specs.declared.parts.Part.TheVariants as is
use Rattle.explained.specs.declared.parts.Finding.{Finding}
use Rattle.explained.specs.declared.parts.Role.{Role}
use Rattle.explained.specs.declared.parts.Role.TheVariants as roles
use Rattle.explained.specs.declared.parts.Side.{Side}

-- a label, and whose it is
abbrev pub side : Role → Option LabelValue → Side
side role label = record { role = role; label = label }

-- a label that the call gives, as it is stored
abbrev pub given : RawLabel → Side
given x = side roles.Given (stored x)

abbrev pub given_clearance : RawLabel → Side
given_clearance x = side roles.GivenClearance (stored x)

-- parts that are asked only where a test says so
abbrev pub asked : Bool → List part.Part → List part.Part
asked b parts = if b then parts else []

-- a comparison alone
abbrev pub compared_by : comparison.Comparison → List part.Part
compared_by labels = is.Compared labels ∷ []

-- a label is at least one and at most another
abbrev pub between_parts : Side → Side → Side → List part.Part
between_parts low label high =
    is.Compared (compared.Below low label) ∷ is.Compared (compared.Below label high) ∷ []

-- the five gate rules, in the order of `may_enter`
abbrev pub gate_parts : ℕ → Bearer → Bearer → Asked → List part.Part
gate_parts g thread gate asked =
    is.Compared (compared.Below (side roles.Own thread.label) (side (roles.Gate g) gate.clearance))
    ∷ is.Compared (compared.Below (side roles.Own thread.label) (side roles.Verified asked.verify))
    ∷ is.Compared (compared.AboveFloor (side roles.Own thread.label) (side (roles.Object g) gate.label) (side roles.Given asked.label))
    ∷ is.Compared (compared.Below (side roles.Given asked.label) (side roles.GivenClearance asked.clearance))
    ∷ is.Compared (compared.BelowJoin (side roles.GivenClearance asked.clearance) (side roles.OwnClearance thread.clearance)
    (side (roles.Gate g) gate.clearance)) ∷ []

-- n is 1 to 64 bytes of one page, from a on
abbrev pub shape_parts : ℕ → ℕ → List part.Part
shape_parts a n =
    is.AtLeast n 1 ∷ is.AtMost n most_bytes ∷ is.AtMost (a % page_bytes + n) page_bytes ∷ []

-- the bounds of a mapping
abbrev pub mapping_parts : ℕ → Mapping → List part.Part
mapping_parts slot m =
    is.AtMost slot last_slot ∷ is.AtLeast m.count 1 ∷ is.AtMost (m.page + m.count) page_limit
    ∷ is.AtMost (m.first + m.count) most_pages
    ∷ is.Fact facts.NoRights (not (may_read m.rights || may_write m.rights)) ∷ []

-- a mapping meets no page of what these slots map, of which the first is slot i
abbrev pub apart_parts : ℕ → Mapping → List (Option Mapping) → List part.Part
apart_parts i m [] = []
apart_parts i m (other ∷ others) = is.Apart i m other ∷ apart_parts (i + 1) m others

-- the calling thread is t
module _ (s : State) (t : ℕ) where
  -- the condition is a fact
  abbrev pub fact : Fact → Condition → List part.Part
  fact told c = is.Fact told (condition.refuses s t c) ∷ []

  -- the label of the calling thread, its clearance, and the label of an object
  abbrev pub own : Side
  own = side roles.Own (label_at s t)

  abbrev pub top : Side
  top = side roles.OwnClearance (clearance_at s t)

  abbrev pub of : ℕ → Side
  of o = side (roles.Object o) (label_at s o)

  -- d is a live container, and the thread observes it
  abbrev pub access_parts : ℕ → List part.Part
  access_parts d =
      is.Fact facts.NoContainer (not (is_live_kind s kinds.Container d))
      ∷ is.Compared (compared.Visible (of d) own) ∷ []

  -- a raw label can be stored, and its categories were made
  abbrev pub label_parts : RawLabel → List part.Part
  label_parts x =
      is.Fact facts.Unstorable (is_bad x)
      ∷ is.Fact facts.NotMade (not (all_made s.next_category x.pairs)) ∷ []

  -- q pages more are within d's quota
  abbrev pub sum_part : ℕ → ℕ → part.Part
  sum_part d q = is.Sum d (use_of s d) q (quota_at s d)

  -- a change of an object's quota has room: upwards in its container, downwards in itself
  abbrev pub room_parts : Entry → ℤ → List part.Part
  room_parts e n =
      asked (nat_lt 0 (pages_up n)) (sum_part e.container (pages_up n) ∷ [])
      ++ asked (nat_lt 0 (pages_down n)) (sum_part e.object (pages_down n) ∷ [])

  -- the parts of each condition
  abbrev pub parts_of : Condition → List part.Part
  parts_of condition.Halted = fact facts.NoThread condition.Halted
  parts_of (condition.NotAccessible d) = access_parts d
  parts_of (condition.NotHeld e) = fact facts.NoEntry (condition.NotHeld e)
  parts_of (condition.NotListed e) = fact facts.NotListed (condition.NotListed e)
  parts_of (condition.NotLinked e) = fact facts.NotListed (condition.NotLinked e)
  parts_of (condition.Listed d o) = fact facts.Listed (condition.Listed d o)
  parts_of (condition.Root e) = fact facts.IsRoot (condition.Root e)
  parts_of (condition.NotOfKind k o) = fact (facts.NotOfKind k) (condition.NotOfKind k o)
  parts_of (condition.OfKind k o) = fact (facts.OfKind k) (condition.OfKind k o)
  parts_of (condition.NotObserved o) = compared_by (compared.Visible (of o) own)
  parts_of (condition.NotFlowing o) = compared_by (compared.Below own (of o))
  parts_of (condition.NotShown o) =
      asked (is_kind_at s kinds.Thread o) (compared_by (compared.Shown (of o) own))
  parts_of (condition.BadLabel x) = label_parts x
  parts_of (condition.BadOrStarred x) = label_parts x ++ is.Fact facts.HasStar (raw_has_star x) ∷ []
  parts_of (condition.BelowThread x) = compared_by (compared.Below own (given x))
  parts_of (condition.OutOfRange x) = between_parts own (given x) top
  parts_of (condition.OutOfClearance x y) =
      between_parts (given x) (given_clearance y) top
  parts_of (condition.NotClearable y) =
      is.Compared (compared.Below own (given_clearance y))
      ∷ is.Compared (compared.BelowJoinUp (given_clearance y) top own) ∷ []
  parts_of (condition.AboveClearance o) =
      compared_by (compared.Below (of o) top)
  parts_of (condition.Avoided k d) = fact facts.Avoided (condition.Avoided k d)
  parts_of (condition.KindAvoided d o) = fact facts.Avoided (condition.KindAvoided d o)
  parts_of (condition.Above n most) = is.AtMost n most ∷ []
  parts_of (condition.Zero n) = is.AtLeast n 1 ∷ []
  parts_of (condition.Overfull d n) = sum_part d n ∷ []
  parts_of (condition.WithoutRoom e n) = room_parts e n
  parts_of (condition.Immutable o) = fact facts.Immutable (condition.Immutable o)
  parts_of (condition.Fixed o) = fact facts.Fixed (condition.Fixed o)
  parts_of (condition.NotFixed o) = fact facts.NotFixed (condition.NotFixed o)
  parts_of condition.IdsSpent = fact facts.IdsSpent condition.IdsSpent
  parts_of condition.CategoriesSpent = fact facts.CategoriesSpent condition.CategoriesSpent
  parts_of condition.LabelFull =
      is.Fact facts.LabelFull (is_none (own_label s t))
      ∷ is.Fact facts.ClearanceFull (is_none (own_clearance s t)) ∷ []
  parts_of (condition.NotShaped a n) = shape_parts a n
  parts_of (condition.NotMapping slot m) = mapping_parts slot m
  parts_of (condition.Overlapping o slot m) =
      is.Empty slot (slot_at s o slot) ∷ apart_parts 0 m (slots_at s o)
  parts_of (condition.SlotEmpty o slot) = fact facts.SlotEmpty (condition.SlotEmpty o slot)
  parts_of (condition.NotMapped a) = fact facts.Unmapped (condition.NotMapped a)
  parts_of (condition.NotAllowed a right) =
      fact facts.RightsLacking (condition.NotAllowed a right)
  parts_of (condition.NotAdmitted g r q v) =
      gate_parts g (own_bearer s t) (gate_bearer s g) (asked_of_gate r q v)
  parts_of (condition.QueueFull o) = fact facts.QueueFull (condition.QueueFull o)
  parts_of (condition.QueueEmpty o) = fact facts.QueueEmpty (condition.QueueEmpty o)
  parts_of (condition.When b c) = asked b (parts_of c)

  -- what is told of conditions: of each its refusal and its parts
  unfoldable pub told : Conditions → List Finding
  told conditions = map (λ c. record { refusal = c.0; parts = parts_of c.1 }) conditions

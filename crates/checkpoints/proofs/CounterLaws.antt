-- The counters stay within their bounds, and never fall.
use Rattle.std.proofs.Common.{◌≡◌, ℕ, ◌<◌, ◌≤◌, true, false, ◌&&◌, nat_le, ◌++◌}
use Rattle.std.proofs.Common.{Option, Some, None, refl, ◌∙◌, arith}
use Rattle.std.proofs.lemmas.Bool.{leb-false, le-leb, leb-true, and_from, and_parts}
use Rattle.base.specs.Limits.{spent}
use Rattle.base.specs.declared.ranges.Limits.{Limits}
use Rattle.label_lattice.specs.Label.{LabelValue}
use Rattle.label_lattice.specs.LabelRules.{stored}
use Rattle.kernel_rules.specs.Changes.{listing}
use Rattle.kernel_rules.specs.Conditions.{own_label, own_clearance}
use Rattle.kernel_rules.specs.Table.{halted, refused, row}
use Rattle.kernel_rules.specs.State.{State}
use Rattle.kernel_rules.specs.Step.{edit, made_of, made_bearer}
use Rattle.kernel_rules.specs.declared.calls.Call.{Call}
use Rattle.kernel_rules.specs.declared.calls.Call.TheVariants as call
use Rattle.kernel_rules.specs.declared.objects.Body as body
use Rattle.kernel_rules.proofs.RecordLaws.{next_id-changed}
use Rattle.kernel_rules.proofs.RowLaws.{none_hold}
use Rattle.kernel_laws.proofs.Given.{gives, edit_same, category-changed, made_category, bearer_category, owned_next, owned_id}
use Rattle.checkpoints.specs.Restorable.{has_counters}
use Rattle.checkpoints.proofs.LocalSteps.{later}

-- a counter that was at n is at m: no less, and at most 2^61
abbrev pub Rises : ℕ → ℕ → Type 0
Rises n m = (n ≤ m) × (m ≤ spent)

rises_same : (n m : ℕ) → m ≡ n → n ≤ spent → Rises n m
rises_same n m is within = (omega (arith, is), omega (arith, is, within))

made_rises : (s : State) (d : ℕ) (x : Option LabelValue) (q : ℕ) (b : body.Body) → nat_le spent s.next_id ≡ false
    → Rises s.next_id (made_of s d x q b).next_id
made_rises s d None q b left =
    let less : s.next_id < spent = leb-false spent s.next_id left in (omega arith, omega (arith, less))
made_rises s d (Some l) q b left =
    let less : s.next_id < spent = leb-false spent s.next_id left in
    let is = next_id-changed s d (listing s.next_id) in
    (omega (arith, is), omega (arith, is, less))

bearer_rises : (s : State) (d : ℕ) (x : Option LabelValue) (q : ℕ) (y : Option LabelValue)
    (b : LabelValue → body.Body) → nat_le spent s.next_id ≡ false → Rises s.next_id (made_bearer s d x q y b).next_id
bearer_rises s d x q None b left =
    let less : s.next_id < spent = leb-false spent s.next_id left in (omega arith, omega (arith, less))
bearer_rises s d x q (Some c) b left = made_rises s d x q (b c) left

id_rises : (s : State) (t : ℕ) (c : Call) → refused s t c ≡ None → s.next_id ≤ spent
    → Rises s.next_id (edit s t c).next_id
unfolding refused
id_rises s t call.CatCreate r within =
    rises_same s.next_id _ (owned_id s t (own_label s t) (own_clearance s t)) within
id_rises s t (call.ContainerCreate m) r within =
    let none = none_hold (halted s t ++ row s t (call.ContainerCreate m)) r in
    made_rises s m.container (stored m.label) m.quota _ none.1.1.1.1.1.1.1.1.0
id_rises s t (call.SegmentCreate m) r within =
    let none = none_hold (halted s t ++ row s t (call.SegmentCreate m)) r in
    made_rises s m.container (stored m.label) m.quota _ none.1.1.1.1.1.1.1.1.0
id_rises s t (call.SegmentCopy m) r within =
    let none = none_hold (halted s t ++ row s t (call.SegmentCopy m)) r in
    made_rises s m.container (stored m.label) m.quota _ none.1.1.1.1.1.1.1.1.1.1.1.1.0
id_rises s t (call.AsCreate m) r within =
    let none = none_hold (halted s t ++ row s t (call.AsCreate m)) r in
    made_rises s m.container (stored m.label) m.quota _ none.1.1.1.1.1.1.1.1.0
id_rises s t (call.ThreadCreate m) r within =
    let none = none_hold (halted s t ++ row s t (call.ThreadCreate m)) r in
    bearer_rises s m.container (stored m.label) m.quota (stored m.clearance) _ none.1.1.1.1.1.1.1.1.0
id_rises s t (call.GateCreate m) r within =
    let none = none_hold (halted s t ++ row s t (call.GateCreate m)) r in
    bearer_rises s m.container (stored m.label) m.quota (stored m.clearance) _ none.1.1.1.1.1.1.1.1.1.1.1.0
id_rises s t c r within =
    elim (gives c) as (λ v. gives c ≡ v → Rises s.next_id (edit s t c).next_id) [
      | true ↦ λ is. absurd (cc)
      | false ↦ λ is. rises_same s.next_id _ (edit_same (λ z. z.next_id) next_id-changed s t c is) within
    ] refl

-- the next category once a call was made
pub category_after : (s : State) (t : ℕ) (c : Call) → refused s t c ≡ None
    → (edit s t c).next_category ≡ later s c
unfolding refused
category_after s t call.CatCreate r =
    let none = none_hold (halted s t ++ row s t call.CatCreate) r in
    owned_next s t (own_label s t) (own_clearance s t) none.1.0
category_after s t (call.ContainerCreate m) r = made_category s m.container (stored m.label) m.quota _
category_after s t (call.SegmentCreate m) r = made_category s m.container (stored m.label) m.quota _
category_after s t (call.SegmentCopy m) r = made_category s m.container (stored m.label) m.quota _
category_after s t (call.AsCreate m) r = made_category s m.container (stored m.label) m.quota _
category_after s t (call.ThreadCreate m) r =
    bearer_category s m.container (stored m.label) m.quota (stored m.clearance) _
category_after s t (call.GateCreate m) r =
    bearer_category s m.container (stored m.label) m.quota (stored m.clearance) _
category_after s t c r =
    elim (gives c) as (λ v. gives c ≡ v → (edit s t c).next_category ≡ later s c) [
      | true ↦ λ is. absurd (cc)
      | false ↦ λ is. edit_same (λ z. z.next_category) category-changed s t c is ∙ same s c is
    ] refl
  where
    same : (s : State) (c : Call) → gives c ≡ false → s.next_category ≡ later s c
    same s call.CatCreate h = absurd (cc)
    same s c h = refl

category_rises : (s : State) (t : ℕ) (c : Call) → refused s t c ≡ None → s.next_category ≤ spent
    → Rises s.next_category (later s c)
unfolding refused
category_rises s t call.CatCreate r within =
    let none = none_hold (halted s t ++ row s t call.CatCreate) r in
    let less : s.next_category < spent = leb-false spent s.next_category none.1.1.0 in
    (omega arith, omega (arith, less))
category_rises s t c r within = (omega arith, within)

-- the counters, as numbers
pub record Counters (limits : Limits) (s : State) : Type 0 where
  pub id : limits.next_id ≤ s.next_id
  pub id_within : s.next_id ≤ spent
  pub category : limits.next_category ≤ s.next_category
  pub category_within : s.next_category ≤ spent

pub counters_of : (limits : Limits) (s : State) → has_counters limits s ≡ true → Counters limits s
counters_of limits s h =
    let p3 = and_parts (nat_le limits.next_id s.next_id && nat_le s.next_id spent
    && nat_le limits.next_category s.next_category) (nat_le s.next_category spent) h in
    let p2 = and_parts (nat_le limits.next_id s.next_id && nat_le s.next_id spent)
    (nat_le limits.next_category s.next_category) p3.0 in
    let p1 = and_parts (nat_le limits.next_id s.next_id) (nat_le s.next_id spent) p2.0 in
    record {
      id = leb-true limits.next_id s.next_id p1.0;
      id_within = leb-true s.next_id spent p1.1;
      category = leb-true limits.next_category s.next_category p2.1;
      category_within = leb-true s.next_category spent p3.1;
    }

pub counters_from : (limits : Limits) (s : State) → Counters limits s → has_counters limits s ≡ true
counters_from limits s h =
    and_from (nat_le limits.next_id s.next_id && nat_le s.next_id spent
    && nat_le limits.next_category s.next_category) (nat_le s.next_category spent)
    (and_from (nat_le limits.next_id s.next_id && nat_le s.next_id spent)
    (nat_le limits.next_category s.next_category)
    (and_from (nat_le limits.next_id s.next_id) (nat_le s.next_id spent)
    (le-leb limits.next_id s.next_id h.id) (le-leb s.next_id spent h.id_within))
    (le-leb limits.next_category s.next_category h.category))
    (le-leb s.next_category spent h.category_within)

pub edit_counters : (limits : Limits) (s : State) (t : ℕ) (c : Call) → refused s t c ≡ None → Counters limits s
    → Counters limits (edit s t c)
edit_counters limits s t c r h =
    let i = id_rises s t c r h.id_within in
    let k = category_rises s t c r h.category_within in
    let is = category_after s t c r in
    record {
      id = omega (arith, h.id, i.0);
      id_within = i.1;
      category = omega (arith, h.category, k.0, is);
      category_within = omega (arith, k.1, is);
    }

-- How the two calls that may lower the caller's label change it.
use Rattle.std.proofs.Common.{◌≡◌, ℕ, Bool, true, false, cond, ◌++◌, ◌⊎◌, inl, inr, nat_le, length}
use Rattle.std.proofs.Common.{Option, Some, None, refl, sym, ◌∙◌, ap, subst}
use Rattle.std.specs.Option.{option_map, option_and_then}
use Rattle.std.proofs.lemmas.Bool.{and_parts, not-false}
use Rattle.base.specs.declared.levels.Level.TheVariants.{Star}
use Rattle.label_lattice.specs.Label.{LabelValue}
use Rattle.label_lattice.specs.Placed.{with_level}
use Rattle.label_lattice.specs.declared.pairings.Pair.{Pair}
use Rattle.label_lattice.specs.declared.raw_labels.RawLabel.{RawLabel}
use Rattle.label_lattice.specs.LabelRules.{both, below, all_three, above_floor, may_enter, stored, with_category}
use Rattle.kernel_rules.specs.State.{State, object_at, of_object, label_at, gate_at, kind_of}
use Rattle.kernel_rules.specs.Conditions.{own_label, own_clearance, own_bearer, gate_bearer}
use Rattle.kernel_rules.specs.Table.{halted, refused, row}
use Rattle.kernel_rules.specs.Step.{edit, owned, through_gate}
use Rattle.kernel_rules.specs.Changes.{put, changed, owning, entered, rethread}
use Rattle.kernel_rules.specs.declared.calls.Call.TheVariants as call
use Rattle.kernel_rules.specs.declared.calls.Entry.{Entry}
use Rattle.kernel_rules.specs.declared.objects.Gate.{Gate}
use Rattle.kernel_rules.specs.declared.objects.Object.{Object}
use Rattle.kernel_rules.specs.declared.objects.Thread as thread
use Rattle.kernel_rules.specs.declared.objects.Body as body
use Rattle.kernel_rules.specs.declared.objects.Body.TheVariants as is
use Rattle.kernel_rules.proofs.LookupLaws.{lookup_put, at_self}
use Rattle.kernel_rules.proofs.RowLaws.{none_hold}

-- the object of a change, after it
pub changed_here : (s : State) (d : ℕ) (f : Object → Object) (x y : Object) → object_at s d ≡ Some x
    → object_at (changed s d f) d ≡ Some y → y ≡ f x
changed_here s d f x y found now =
    let there : object_at (changed s d f) d ≡ Some (f x) =
    ap (λ v. object_at (of_object s (λ z. put s d (f z)) v) d) found
    ∙ lookup_put d d s.objects x (f x) found
    ∙ ap (λ b. cond b (Some (f x)) (object_at s d)) (at_self d) in
    let same : Some y ≡ Some (f x) = sym now ∙ there in cc

same_object : (s : State) (t : ℕ) (x y : Object) → object_at s t ≡ Some x → object_at s t ≡ Some y → y ≡ x
same_object s t x y before now = let same : Some y ≡ Some x = sym now ∙ before in cc

thread_stays : (f : thread.Thread → thread.Thread) (b : body.Body) → kind_of (rethread f b) ≡ kind_of b
thread_stays f (is.Container avoid list) = refl
thread_stays f (is.Segment bytes) = refl
thread_stays f (is.AddressSpace slots) = refl
thread_stays f (is.Thread t) = refl
thread_stays f (is.Gate g) = refl
thread_stays f (is.Device packets) = refl

owned_label : (s : State) (t : ℕ) (v w : Option LabelValue) (x y : Object) → object_at s t ≡ Some x
    → object_at (owned s t v w) t ≡ Some y
    → (y ≡ x) ⊎ ((v ≡ Some y.label) × (kind_of y.body ≡ kind_of x.body))
owned_label s t None w x y before now = inl (same_object s t x y before now)
owned_label s t (Some l) None x y before now = inl (same_object s t x y before now)
owned_label s t (Some l) (Some c) x y before now =
    let at : y ≡ owning l c x = changed_here s t (owning l c) x y before now in
    inr (
      ap (λ (z : Object). Some z.label) (sym at),
      ap (λ (z : Object). kind_of z.body) at ∙ thread_stays (λ t. record t { clearance = c }) x.body,
    )

-- the pair of the category that is made next, as the maker has it
abbrev pub own_pair : State → Pair
own_pair s = record { category = record { 0 = s.next_category }; level = Star }

placed_label : (s : State) (l m : LabelValue) → with_category l (record { 0 = s.next_category }) Star ≡ Some m
    → m ≡ with_level l (own_pair s)
unfolding with_category
placed_label s l m h =
    elim (nat_le (length (with_level l (own_pair s)).exceptions) 16)
    as (λ v. cond v (Some (with_level l (own_pair s))) None ≡ Some m → m ≡ with_level l (own_pair s)) [
      | true ↦ λ is. cc
      | false ↦ λ is. absurd (cc)
    ] h

-- who makes a category is as before, or has its label with that category, and is of its kind
pub record Made (s : State) (x y : Object) : Type 0 where
  pub label : y.label ≡ with_level x.label (own_pair s)
  pub kind : kind_of y.body ≡ kind_of x.body

pub maker : (s : State) (t : ℕ) (x y : Object) → object_at s t ≡ Some x
    → object_at (edit s t call.CatCreate) t ≡ Some y → (y ≡ x) ⊎ Made s x y
maker s t x y before now =
    elim (owned_label s t (own_label s t) (own_clearance s t) x y before now) [
      | inl same ↦ inl same
      | inr is ↦
          let own : own_label s t ≡ with_category x.label (record { 0 = s.next_category }) Star =
          ap (λ v. option_and_then (λ l. with_category l (record { 0 = s.next_category }) Star)
          (option_map (λ z. z.label) v)) before in
          inr (record { label = placed_label s x.label y.label (sym own ∙ is.0); kind = is.1 })
    ]

-- a test of two values that are there
pub record Tested {A B : Type 0} (test : A → B → Bool) (a : Option A) (b : Option B) : Type 0 where
  pub first : A
  pub second : B
  pub is_first : a ≡ Some first
  pub is_second : b ≡ Some second
  pub holds : test first second ≡ true

pub tested : {A B : Type 0} (test : A → B → Bool) (a : Option A) (b : Option B) → both test a b ≡ true
    → Tested test a b
tested test (Some x) (Some y) h =
    record { first = x; second = y; is_first = refl; is_second = refl; holds = h }
tested test (Some x) None h = absurd (cc)
tested test None b h = absurd (cc)

-- a test of three
record Thrice {A : Type 0} (test : A → A → A → Bool) (a b c : Option A) : Type 0 where
  first : A
  second : A
  third : A
  is_first : a ≡ Some first
  is_second : b ≡ Some second
  is_third : c ≡ Some third
  holds : test first second third ≡ true

thrice : {A : Type 0} (test : A → A → A → Bool) (a b c : Option A) → all_three test a b c ≡ true
    → Thrice test a b c
thrice test (Some x) b c h =
    let rest : Tested (test x) b c = tested (test x) b c h in
    record {
      first = x;
      second = rest.first;
      third = rest.second;
      is_first = refl;
      is_second = rest.is_first;
      is_third = rest.is_second;
      holds = rest.holds;
    }
thrice test None b c h = absurd (cc)

gate_there : (g : Option Gate) (l : LabelValue) → option_map (λ gate. gate.clearance) g ≡ Some l
    → (gate : Gate) × (g ≡ Some gate)
gate_there (Some gate) l h = (gate, refl)
gate_there None l h = absurd (cc)

through : (s : State) (t : ℕ) (r q v : Option LabelValue) (g : Option Gate) (l c w : LabelValue) (gate : Gate)
    → r ≡ Some l → q ≡ Some c → v ≡ Some w → g ≡ Some gate
    → through_gate s t r q v g ≡ changed s t (entered l c w gate)
through s t r q v g l c w gate hr hq hv hg = (λ i. through_gate s t (hr i) (hq i) (hv i) (hg i))

-- what a thread's label is past a gate
pub record Passed (s : State) (g : ℕ) (raw : RawLabel) (x y : Object) : Type 0 where
  pub gate : LabelValue
  pub is_gate : label_at s g ≡ Some gate
  pub is_stored : stored raw ≡ Some y.label
  pub floor : above_floor x.label gate y.label ≡ true

pub passed_label : (s : State) (t : ℕ) (e : Entry) (r q v : RawLabel) (x y : Object)
    → refused s t (call.GateEnter e r q v) ≡ None → object_at s t ≡ Some x
    → object_at (edit s t (call.GateEnter e r q v)) t ≡ Some y → Passed s e.object r x y
unfolding refused
passed_label s t e r q v x y h before now =
    let none = none_hold (halted s t ++ row s t (call.GateEnter e r q v)) h in
    let may : may_enter (own_bearer s t) (gate_bearer s e.object) (record {
      label = stored r;
      clearance = stored q;
      verify = stored v;
    }) ≡ true = not-false _ none.1.1.1.1.1.1.1.0 in
    let last = and_parts _ _ may in
    let next = and_parts _ _ last.0 in
    let third = and_parts _ _ next.0 in
    let first = and_parts _ _ third.0 in
    let floor : Thrice above_floor (label_at s t) (label_at s e.object) (stored r) =
    thrice above_floor (label_at s t) (label_at s e.object) (stored r) third.1 in
    let cleared : Tested below (stored r) (stored q) = tested below (stored r) (stored q) next.1 in
    let gated = tested below (label_at s t) (option_map (λ gate. gate.clearance) (gate_at s e.object)) first.0 in
    let proved : Tested below (label_at s t) (stored v) = tested below (label_at s t) (stored v) first.1 in
    let gate = gate_there (gate_at s e.object) gated.second gated.is_second in
    let is_y : y ≡ entered floor.third cleared.second proved.second gate.0 x =
    changed_here s t (entered floor.third cleared.second proved.second gate.0) x y before
    (ap (λ n. object_at n t) (sym (through s t (stored r) (stored q) (stored v) (gate_at s e.object) floor.third
    cleared.second proved.second gate.0 floor.is_third cleared.is_second proved.is_second gate.1)) ∙ now) in
    let label : floor.third ≡ y.label = ap (λ (z : Object). z.label) (sym is_y) in
    let mine : Some floor.first ≡ Some x.label = sym floor.is_first ∙ ap (option_map (λ z. z.label)) before in
    let own : floor.first ≡ x.label = cc in
    record {
      gate = floor.second;
      is_gate = floor.is_second;
      is_stored = floor.is_third ∙ ap Some label;
      floor =
          subst (λ (l : LabelValue). above_floor l floor.second y.label ≡ true) own
          (subst (λ (l : LabelValue). above_floor floor.first floor.second l ≡ true) label floor.holds);
    }

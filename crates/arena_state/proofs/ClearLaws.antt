-- A thread of another clearance.
use Rattle.std.proofs.Common.{◌≡◌, ◌<◌, ◌+◌, ℕ, List, Option, Some, refl, sym, ◌∙◌, ap, subst, arith}
use Rattle.std.specs.Ordering.{nat_cmp}
use Rattle.std.specs.BTreeMap.{is_at}
use Rattle.std.specs.Map.{set_value}
use Rattle.std.proofs.lemmas.Map.Steps.{set_value_same}
use Rattle.label_lattice.specs.Label.{LabelValue, IsStored}
use Rattle.containers.specs.Tree.{HasSlot}
use Rattle.label_intern.specs.declared.held.Held.{Held}
use Rattle.label_intern.specs.Held.{label_of}
use Rattle.label_intern.specs.Owners.{one_at, Takes, Lets}
use Rattle.kernel_rules.specs.Changes.{changed, cleared, put, rethread}
use Rattle.kernel_rules.specs.State.{State, object_at, of_object}
use Rattle.kernel_rules.specs.declared.objects.Object.{Object}
use Rattle.kernel_rules.specs.declared.objects.Body.TheVariants as is
use Rattle.kernel_rules.proofs.StoredLaws.{stored_test}
use Rattle.kernel_rules.proofs.ThreadLaws.{cleared_keeps, cleared_well_formed}
use Rattle.arena_state.specs.declared.records.Record.{Record}
use Rattle.arena_state.specs.declared.records.KeptThread.{KeptThread}
use Rattle.arena_state.specs.declared.records.Kept as kept
use Rattle.arena_state.specs.declared.records.Kept.TheVariants as keeps
use Rattle.arena_state.specs.declared.pieces.Pieces.{Pieces}
use Rattle.arena_state.specs.Assembled.{pieces_state, record_in, assembled, body_of, claims, body_claims, body_use, recleared, with_clearance}
use Rattle.arena_state.specs.Sound.{IsSound}
use Rattle.arena_state.proofs.RecordLaws.{mine, last}
use Rattle.arena_state.proofs.RowLaws.{row_place}
use Rattle.arena_state.proofs.SoundLaws.{object_here}
use Rattle.arena_state.proofs.RebindLaws.{with_both, label_kept, owned_here, owned_before, rebound_sound, rebound_state}

-- a change that leaves its object changes nothing
pub unchanged : (s : State) (o : ℕ) (f : Object → Object) (x : Object) → object_at s o ≡ Some x → f x ≡ x → changed s o f ≡ s
unchanged s o f x found same =
    ap (of_object s (λ y. put s o (f y))) found
    ∙ (λ i. record s { objects = (ap (set_value (is_at (nat_cmp o)) s.objects) same ∙ set_value_same (is_at (nat_cmp o)) s.objects x found) i })

-- no thread
abbrev pub NoThread : kept.Kept → Type 0
NoThread b = (t : KeptThread) → b ≡ keeps.Thread t → ⊥

pub uncleared : (labels : List (Option Held)) (r : Record) (l : List ℕ) (c : LabelValue) → NoThread r.body
    → cleared c (assembled labels r l) ≡ assembled labels r l
uncleared labels r l c none = (λ i. record (assembled labels r l) { body = of_body r.body none i })
  where
    of_body : (b : kept.Kept) → NoThread b → rethread (λ t. record t { clearance = c }) (body_of labels b l) ≡ body_of labels b l
    of_body (keeps.Container avoid used) none = refl
    of_body (keeps.Segment pages) none = refl
    of_body keeps.AddressSpace none = refl
    of_body (keeps.Gate g) none = refl
    of_body keeps.Device none = refl
    of_body (keeps.Thread t) none = absurd (none t refl)

module _ (p : Pieces) (s : IsSound p) (id slot : ℕ) (h : HasSlot p.places id slot) (new : ℕ) (l : LabelValue) (stored : IsStored l)
    (mid ls : List (Option Held)) (takes : Takes p.holdings.labels mid (λ i. one_at i new)) (given : label_of mid new ≡ l)
    (t : KeptThread) (t_is : (record_in p.holdings.records.items slot).body ≡ keeps.Thread t)
    (lets : Lets mid ls (λ i. one_at i t.clearance.0)) where
  abbrev was : Record
  was = record_in p.holdings.records.items slot

  abbrev list : List ℕ
  list = (row_place p.places.lists p.places.slots h.place).list

  named : (i : ℕ) → body_claims i was.body ≡ one_at i t.clearance.0 + one_at i t.verify.0
  named i = ap (body_claims i) t_is

  names : (i : ℕ) → body_claims i (recleared new was.body) ≡ one_at i new + one_at i t.verify.0
  names i = ap (λ (b : kept.Kept). body_claims i (recleared new b)) t_is

  balance : (i : ℕ) → claims i (with_clearance new was) + one_at i t.clearance.0 ≡ claims i was + one_at i new
  balance i = omega (arith, named i, names i)

  kept_label : (i : ℕ) → 0 < claims i was → 0 < claims i (with_clearance new was) → label_of ls i ≡ label_of p.holdings.labels i
  kept_label i before after =
      label_kept p s id slot h (with_clearance new was) mid ls (λ i. one_at i new) (λ i. one_at i t.clearance.0) takes lets balance i
      (owned_before p s id slot h (with_clearance new was) mid ls (λ i. one_at i new) (λ i. one_at i t.clearance.0) takes lets balance i before)
      (owned_here p s id slot h (with_clearance new was) mid ls (λ i. one_at i new) (λ i. one_at i t.clearance.0) takes lets balance i after)

  object : assembled ls (with_clearance new was) list ≡ cleared l (assembled p.holdings.labels was list)
  object =
      let own : label_of ls was.label.0 ≡ label_of p.holdings.labels was.label.0 =
      kept_label was.label.0 (mine was.label.0 (body_claims was.label.0 was.body)) (mine was.label.0 (body_claims was.label.0 (recleared new was.body))) in
      let verified = last t.verify.0 (one_at t.verify.0 t.clearance.0) in
      let verify : label_of ls t.verify.0 ≡ label_of p.holdings.labels t.verify.0 =
      kept_label t.verify.0 (omega (arith, named t.verify.0, verified)) (omega (arith, names t.verify.0, last t.verify.0 (one_at t.verify.0 new))) in
      let clearance : label_of ls new ≡ l = lets.labels new
      (owned_here p s id slot h (with_clearance new was) mid ls (λ i. one_at i new) (λ i. one_at i t.clearance.0) takes lets balance new
      (omega (arith, names new, mine new (one_at new t.verify.0)))) ∙ given in
      let bodies : body_of ls (recleared new was.body) list ≡ rethread (λ u. record u { clearance = l }) (body_of p.holdings.labels was.body list)
      = ap (λ (b : kept.Kept). body_of ls (recleared new b) list) t_is
      ∙ (λ i. is.Thread (record {
        clearance = clearance i;
        verify = verify i;
        space = t.space;
        entry_point = t.entry_point;
        closure = t.closure;
      }))
      ∙ sym (ap (λ (b : kept.Kept). rethread (λ u. record u { clearance = l }) (body_of p.holdings.labels b list)) t_is) in
      (λ i. record (assembled p.holdings.labels was list) { label = own i; body = bodies i })

  used : body_use (with_clearance new was).body ≡ body_use was.body
  used = ap (λ (b : kept.Kept). body_use (recleared new b)) t_is ∙ sym (ap body_use t_is)

  pub cleared_sound : (x : Record) → x ≡ was → IsSound (with_both p slot (with_clearance new x) ls)
  cleared_sound x is' = subst (λ (y : Record). IsSound (with_both p slot (with_clearance new y) ls)) (sym is')
      (rebound_sound p s id slot h (with_clearance new was) mid ls (λ i. one_at i new) (λ i. one_at i t.clearance.0) takes lets balance (cleared l) object
      (cleared_keeps l (stored_test l stored)) used (cleared_well_formed (pieces_state p) id l stored s.formed))

  pub cleared_state : (x : Record) → x ≡ was → pieces_state (with_both p slot (with_clearance new x) ls) ≡ changed (pieces_state p) id (cleared l)
  cleared_state x is' = subst (λ (y : Record). pieces_state (with_both p slot (with_clearance new y) ls) ≡ changed (pieces_state p) id (cleared l)) (sym is')
      (rebound_state p s id slot h (with_clearance new was) mid ls (λ i. one_at i new) (λ i. one_at i t.clearance.0) takes lets balance (cleared l) object
      (cleared_keeps l (stored_test l stored)) used (cleared_well_formed (pieces_state p) id l stored s.formed))

-- where there is no thread nothing changes
pub uncleared_state : (p : Pieces) (s : IsSound p) (id slot : ℕ) (h : HasSlot p.places id slot) (l : LabelValue)
    → NoThread (record_in p.holdings.records.items slot).body → pieces_state p ≡ changed (pieces_state p) id (cleared l)
uncleared_state p s id slot h l none =
    let list = (row_place p.places.lists p.places.slots h.place).list in
    sym (unchanged (pieces_state p) id (cleared l) (assembled p.holdings.labels (record_in p.holdings.records.items slot) list)
    (object_here p s id slot h) (uncleared p.holdings.labels (record_in p.holdings.records.items slot) list l none))

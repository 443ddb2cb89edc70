-- An object of another label.
use Rattle.std.proofs.Common.{◌≡◌, ◌+◌, ℕ, List, Option, refl, sym, ◌∙◌, ap, subst, arith}
use Rattle.label_lattice.specs.Label.{LabelValue, IsStored}
use Rattle.containers.specs.Tree.{HasSlot}
use Rattle.label_intern.specs.declared.held.Held.{Held}
use Rattle.label_intern.specs.Held.{label_of}
use Rattle.label_intern.specs.Owners.{one_at, Takes, Lets}
use Rattle.kernel_rules.specs.Changes.{changed, labelled}
use Rattle.kernel_rules.specs.declared.objects.Object.{Object}
use Rattle.kernel_rules.proofs.KeptLaws.{KeepsPlace}
use Rattle.kernel_rules.proofs.StoredLaws.{stored_test}
use Rattle.kernel_rules.proofs.ThreadLaws.{labelled_keeps, labelled_well_formed}
use Rattle.arena_state.specs.declared.records.Record.{Record}
use Rattle.arena_state.specs.declared.pieces.Pieces.{Pieces}
use Rattle.arena_state.specs.Assembled.{pieces_state, record_in, assembled, claims, body_claims}
use Rattle.arena_state.specs.Sound.{IsSound}
use Rattle.arena_state.proofs.RecordLaws.{body_same, mine, further}
use Rattle.arena_state.proofs.RowLaws.{row_place}
use Rattle.arena_state.proofs.RebindLaws.{with_both, label_kept, owned_here, owned_before, rebound_sound, rebound_state}

module _ (p : Pieces) (s : IsSound p) (id slot : ℕ) (h : HasSlot p.places id slot) (new old : ℕ) (l : LabelValue) (stored : IsStored l)
    (mid ls : List (Option Held)) (takes : Takes p.holdings.labels mid (λ i. one_at i new)) (given : label_of mid new ≡ l)
    (was_label : old ≡ (record_in p.holdings.records.items slot).label.0) (lets : Lets mid ls (λ i. one_at i old)) where
  abbrev was : Record
  was = record_in p.holdings.records.items slot

  abbrev relabelled : Record → Record
  relabelled x = record x { label = record { 0 = new } }

  abbrev list : List ℕ
  list = (row_place p.places.lists p.places.slots h.place).list

  balance : (i : ℕ) → claims i (relabelled was) + one_at i old ≡ claims i was + one_at i new
  balance i = let same : one_at i old ≡ one_at i was.label.0 = ap (one_at i) was_label in omega arith

  object : assembled ls (relabelled was) list ≡ labelled l (assembled p.holdings.labels was list)
  object =
      let label : label_of ls new ≡ l = lets.labels new
      (owned_here p s id slot h (relabelled was) mid ls (λ i. one_at i new) (λ i. one_at i old) takes lets balance new (mine new (body_claims new was.body)))
      ∙ given in
      let body = body_same ls p.holdings.labels was.body list
      (λ j some. label_kept p s id slot h (relabelled was) mid ls (λ i. one_at i new) (λ i. one_at i old) takes lets balance j
      (owned_before p s id slot h (relabelled was) mid ls (λ i. one_at i new) (λ i. one_at i old) takes lets balance j (further (one_at j was.label.0) (body_claims j was.body) some))
      (owned_here p s id slot h (relabelled was) mid ls (λ i. one_at i new) (λ i. one_at i old) takes lets balance j (further (one_at j new) (body_claims j was.body) some))) in
      (λ i. record (assembled p.holdings.labels was list) { label = label i; body = body i })

  keeps : (x : Object) → KeepsPlace x (labelled l x)
  keeps = labelled_keeps l (stored_test l stored)

  pub labelled_sound : (x : Record) → x ≡ was → IsSound (with_both p slot (relabelled x) ls)
  labelled_sound x is = subst (λ (y : Record). IsSound (with_both p slot (relabelled y) ls)) (sym is)
      (rebound_sound p s id slot h (relabelled was) mid ls (λ i. one_at i new) (λ i. one_at i old) takes lets balance (labelled l) object keeps refl
      (labelled_well_formed (pieces_state p) id l stored s.formed))

  pub labelled_state : (x : Record) → x ≡ was → pieces_state (with_both p slot (relabelled x) ls) ≡ changed (pieces_state p) id (labelled l)
  labelled_state x is = subst (λ (y : Record). pieces_state (with_both p slot (relabelled y) ls) ≡ changed (pieces_state p) id (labelled l)) (sym is)
      (rebound_state p s id slot h (relabelled was) mid ls (λ i. one_at i new) (λ i. one_at i old) takes lets balance (labelled l) object keeps refl
      (labelled_well_formed (pieces_state p) id l stored s.formed))

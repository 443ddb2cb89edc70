-- A new object of a fresh record: what is made of it, and what stays true.
use Rattle.std.proofs.Common.{◌≡◌, ℕ, true, ◌+◌, List, [], Option, refl, sym, ◌∙◌, ap, arith}
use Rattle.label_intern.specs.declared.held.Held.{Held}
use Rattle.label_intern.specs.Held.{label_of}
use Rattle.label_intern.specs.Owners.{one_at, Takes}
use Rattle.label_intern.proofs.OwnersLemmas.{takes_as, one_same}
use Rattle.label_lattice.specs.Label.{LabelValue}
use Rattle.containers.specs.Tree.{HasSlot}
use Rattle.kernel_rules.specs.State.{own_cost}
use Rattle.kernel_rules.specs.Changes.{made, fresh_object}
use Rattle.kernel_rules.specs.Fitting.{IsFitting}
use Rattle.kernel_rules.specs.WellFormed.{is_stored}
use Rattle.kernel_rules.specs.declared.objects.Body.{Body}
use Rattle.arena_state.specs.declared.records.Record.{Record}
use Rattle.arena_state.specs.declared.records.Kept.{Kept}
use Rattle.arena_state.specs.declared.pieces.Pieces.{Pieces}
use Rattle.arena_state.specs.Assembled.{pieces_state, assembled, body_of, claims, body_claims, body_use, fresh_record}
use Rattle.arena_state.specs.Creations.{IsPlaced}
use Rattle.arena_state.specs.Sound.{IsSound}
use Rattle.arena_state.proofs.CreateLaws.{with_labels, created_state}
use Rattle.arena_state.proofs.CreatedLaws.{created_sound}

module _ (p : Pieces) (s : IsSound p) (d quota : ℕ) (l : LabelValue) (b : Body) (fits : IsFitting (pieces_state p) d quota b)
    (stored : is_stored l ≡ true) (pslot : ℕ) (at_d : HasSlot p.places d pslot) (ls : List (Option Held)) (index : ℕ) (k : Kept)
    (x : Record) (x_is : x ≡ fresh_record index quota k) (q : Pieces) (c : IsPlaced (with_labels p ls) q d pslot x)
    (takes : Takes p.holdings.labels ls (λ i. one_at i index + body_claims i k)) (label : label_of ls index ≡ l)
    (body : body_of ls k [] ≡ b) (used : body_use k ≡ own_cost b) where
  pub claims_are : Takes p.holdings.labels ls (λ i. claims i x)
  claims_are = takes_as p.holdings.labels ls (λ i. one_at i index + body_claims i k) (λ i. claims i x)
      (λ i. ap (claims i) (sym x_is)) takes

  pub object_is : assembled ls x [] ≡ fresh_object l quota b
  object_is = ap (λ (r : Record). assembled ls r []) x_is ∙ (λ i. fresh_object (label i) quota (body i))

  pub used_is : body_use x.body ≡ own_cost b
  used_is = ap (λ (r : Record). body_use r.body) x_is ∙ used

  pub new_sound : IsSound q
  new_sound = created_sound p s d quota l b fits stored pslot at_d ls x q c claims_are object_is used_is

  pub new_state : pieces_state q ≡ made (pieces_state p) d (fresh_object l quota b)
  new_state = created_state p s d quota l b fits stored pslot at_d ls x q c claims_are object_is used_is

-- a label that was stored just now stays as more are
pub still : (a b c : List (Option Held)) (j : ℕ) (n : ℕ → ℕ) (l : LabelValue) → Takes a b (λ i. one_at i j) → label_of b j ≡ l → Takes b c n
    → label_of c j ≡ l
still a b c j n l first label then =
    then.labels j (omega (arith, first.owners j, one_same j j refl)) ∙ label

-- What is seen of objects that were looked up.
use Rattle.std.proofs.Common.{◌≡◌, ℕ, List, Option, Some, None, Bor, IfSome, IfNone, sym, ap, ◌∙◌, arith}
use Rattle.std.specs.Prelude.{option_copied}
use Rattle.std.specs.Option.{option_map}
use Rattle.base.specs.declared.kinds.Kind as kind
use Rattle.label_intern.specs.declared.held.Held.{Held}
use Rattle.kernel_rules.specs.State.{object_at, of_object, kind_of, label_at, is_immutable, is_fixed}
use Rattle.kernel_rules.specs.State.{is_live_kind, page_count}
use Rattle.kernel_rules.proofs.WellFormedLaws.{live_kind}
use Rattle.kernel_store.specs.Sights.{kind_at, is_of}
use Rattle.kernel_store.proofs.SightLaws.{kind_seen}
use Rattle.arena_state.specs.declared.records.Record.{Record}
use Rattle.arena_state.specs.declared.states.ArenaState.{ArenaState}
use Rattle.arena_state.specs.Assembled.{body_of}
use Rattle.arena_state.specs.Filled.{Content, filled_body}
use Rattle.arena_state.specs.States.{state_of, Shows, Finds, IsLabelled, label_found}
use Rattle.arena_state.specs.Stocked.{kept_pages}
use Rattle.arena_state.proofs.StockLaws.{whole_formed}

module _ (a : ArenaState) (id : ℕ) where
  -- what a look-up tells
  pub finds : (r : Option (Bor Record)) → IfSome r (λ x. Shows a id x.now) → IfNone r (object_at (state_of a) id ≡ None)
      → Finds a id (option_copied r)
  finds None some none = record { some = some; none = none }
  finds (Some x) some none = record { some = some; none = none }

  pub found_some : (r : Option (Bor Record)) → Finds a id (option_copied r) → IfSome r (λ x. Shows a id x.now)
  found_some None f = f.some
  found_some (Some x) f = f.some

  pub found_none : (r : Option (Bor Record)) → Finds a id (option_copied r) → IfNone r (object_at (state_of a) id ≡ None)
  found_none None f = f.none
  found_none (Some x) f = f.none

  -- its labels are stored, and its own is the object's
  pub labelled : (r : Option Record) → Finds a id r → IsLabelled a r
  labelled None f = f.some
  labelled (Some x) f = f.some.named

  pub label_is : (r : Option Record) → Finds a id r → label_found a r ≡ label_at (state_of a) id
  label_is None f = sym (ap (option_map (λ y. y.label)) f.none)
  label_is (Some x) f = sym (ap (option_map (λ y. y.label)) f.some.is)

  -- what is there has the kind and the flags of its record
  pub kind_some : (x : Record) → Shows a id x → (k : kind.Kind)
      → ((content : Content) (labels : List (Option Held)) (list : List ℕ) → kind_of (filled_body content (body_of labels x.body list)) ≡ k)
      → Some k ≡ kind_at (state_of a) id
  unfolding kind_at
  kind_some x shows k is =
      ap (λ (j : kind.Kind). let some : Option kind.Kind = Some j in some) (sym (is shows.content a.pieces.holdings.labels shows.list))
      ∙ sym (ap (option_map (λ y. kind_of y.body)) shows.is)

  pub immutable_some : (x : Record) → Shows a id x → x.immutable ≡ is_immutable (state_of a) id
  immutable_some x shows = sym (ap (of_object _ (λ y. y.immutable)) shows.is)

  pub fixed_some : (x : Record) → Shows a id x → x.fixed ≡ is_fixed (state_of a) id
  fixed_some x shows = sym (ap (of_object _ (λ y. y.fixed)) shows.is)

  -- and what is not there has none
  pub kind_none : object_at (state_of a) id ≡ None → None ≡ kind_at (state_of a) id
  unfolding kind_at
  kind_none none = sym (ap (option_map (λ y. kind_of y.body)) none)

  -- nor pages, of which what is there has as many as its record says
  pub pages_some : (x : Record) → Shows a id x → kept_pages x.body ≡ page_count (state_of a) id
  pages_some x shows = grind arith

  pub pages_none : object_at (state_of a) id ≡ None → 0 ≡ page_count (state_of a) id
  pages_none none = grind arith

  -- the kind that was seen is that of a live object
  pub live_seen : (k : kind.Kind) → is_of k (kind_at (state_of a) id) ≡ is_live_kind (state_of a) k id
  live_seen k =
      kind_seen (state_of a) k id ∙ live_kind (state_of a) k id (whole_formed a.pieces a.sound a.stocked)

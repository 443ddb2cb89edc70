-- The entries of a restored state name what they may name.
use Rattle.std.proofs.Common.{◌≡◌, ℕ, zero, suc, Bool, true, List, [], ◌∷◌, Option, Some, None, subst}
use Rattle.std.proofs.Common.{slice_get, nat_lt}
use Rattle.std.specs.List.{list_all}
use Rattle.std.proofs.lemmas.Bool.{and_parts, ltb-true}
use Rattle.base.specs.declared.kinds.Kind as kind
use Rattle.base.specs.declared.kinds.Kind.TheVariants as kinds
use Rattle.base.specs.declared.ranges.Limits.{Limits}
use Rattle.kernel_rules.specs.State.{State, slots_of}
use Rattle.kernel_rules.specs.Translate.{slot_in}
use Rattle.kernel_rules.specs.declared.calls.Entry.{Entry}
use Rattle.kernel_rules.specs.declared.objects.Body as body
use Rattle.kernel_rules.specs.declared.objects.Body.TheVariants as is
use Rattle.kernel_rules.specs.declared.objects.Mapping.{Mapping}
use Rattle.kernel_rules.proofs.LookupLaws.{all_at}
use Rattle.kernel_laws.specs.Names.{NamesKind, IsNamedRightly, space_in}
use Rattle.checkpoints.specs.Restorable.{is_restorable, each, names_given, names_kinds, names_kind}
use Rattle.checkpoints.specs.Restorable.{is_entry_given, mapped, spaces_in}
use Rattle.checkpoints.specs.Restored.{restored}
use Rattle.checkpoints.specs.Checkpoint.{Checkpoint}
use Rattle.checkpoints.proofs.Parts.{parts_of}

-- what holds of the entries of all mappings holds of that of one
mapped_at : (test : Entry → Bool) (ms : List (Option Mapping)) (i : ℕ) (m : Mapping)
    → list_all test (mapped ms) ≡ true → slot_in (slice_get ms i) ≡ Some m → test m.entry ≡ true
mapped_at test [] i m all found = absurd (cc)
mapped_at test (None ∷ ms) zero m all found = absurd (cc)
mapped_at test (Some n ∷ ms) zero m all found =
    let same : n ≡ m = cc in
    subst (λ (k : Mapping). test k.entry ≡ true) same
    (and_parts (test n.entry) (list_all test (mapped ms)) all).0
mapped_at test (None ∷ ms) (suc i) m all found = mapped_at test ms i m all found
mapped_at test (Some n ∷ ms) (suc i) m all found =
    mapped_at test ms i m (and_parts (test n.entry) (list_all test (mapped ms)) all).1 found

-- and so for the address space of a thread or a gate
space_at : (test : Entry → Bool) (b : body.Body) (e : Entry)
    → list_all test (spaces_in b) ≡ true → space_in b ≡ Some e → test e ≡ true
space_at test (is.Thread t) e all found =
    let same : t.space ≡ e = cc in
    subst (λ (k : Entry). test k ≡ true) same (and_parts (test t.space) true all).0
space_at test (is.Gate g) e all found =
    let same : g.space ≡ e = cc in
    subst (λ (k : Entry). test k ≡ true) same (and_parts (test g.space) true all).0
space_at test (is.Container avoid list) e all found = absurd (cc)
space_at test (is.Segment bytes) e all found = absurd (cc)
space_at test (is.AddressSpace slots) e all found = absurd (cc)
space_at test (is.Device packets) e all found = absurd (cc)

-- an entry of given ids whose object is of kind k
named : (s : State) (k : kind.Kind) (e : Entry) → is_entry_given s.next_id e ≡ true
    → names_kind s k e ≡ true → NamesKind s k e
named s k e given right =
    let below = and_parts (nat_lt e.container s.next_id) (nat_lt e.object s.next_id) given in
    record {
      container = ltb-true e.container s.next_id below.0;
      object = ltb-true e.object s.next_id below.1;
      kind = right;
    }

pub named_rightly : (s : State) → each (names_given s.next_id) s ≡ true → each (names_kinds s) s ≡ true
    → IsNamedRightly s
named_rightly s given right o x found =
    let g = and_parts _ _ (all_at (λ q y. names_given s.next_id y) s.objects o x given found) in
    let r = and_parts _ _ (all_at (λ q y. names_kinds s y) s.objects o x right found) in
    record {
      space = λ e on some. named s kinds.AddressSpace e
          (space_at (is_entry_given s.next_id) x.body e g.1 on)
          (space_at (names_kind s kinds.AddressSpace) x.body e r.1 on);
      slots = λ i m on. named s kinds.Segment m.entry
          (mapped_at (is_entry_given s.next_id) (slots_of x.body) i m g.0 on)
          (mapped_at (names_kind s kinds.Segment) (slots_of x.body) i m r.0 on);
    }

pub restored_named : (limits : Limits) (c : Checkpoint) → is_restorable limits c ≡ true
    → IsNamedRightly (restored limits c)
restored_named limits c h =
    let p = parts_of limits c h in named_rightly (restored limits c) p.given p.kinds

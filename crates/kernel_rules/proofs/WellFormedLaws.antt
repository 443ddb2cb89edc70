-- What a well-formed state gives, and what keeps it well formed.
use Rattle.std.proofs.Common.{◌≡◌, ℕ, Bool, true, ◌&&◌, nat_lt}
use Rattle.std.specs.List.{list_all}
use Rattle.std.proofs.lemmas.Bool.{and_parts, and_from}
use Rattle.base.specs.Live.{are_live}
use Rattle.base.specs.declared.kinds.Kind as kind
use Rattle.kernel_rules.specs.State.{State, lists_of, is_kind_at, is_live_kind}
use Rattle.kernel_rules.specs.WellFormed.{is_well_formed, are_given, ids_rise, is_kept}
use Rattle.kernel_rules.proofs.RecordLaws.{kind_live}

-- the parts of a well-formed state
pub record Soundness (s : State) : Type 0 where
  pub begun : nat_lt 3 s.next_id ≡ true
  pub live : are_live (lists_of s.objects) ≡ true
  pub given : are_given s ≡ true
  pub rise : ids_rise s.objects ≡ true
  pub kept : list_all (λ e. is_kept s e.0 e.1) s.objects ≡ true

four : (a b c d e : Bool) → (a && b && c && d && e) ≡ true
    → (a ≡ true) × (b ≡ true) × (c ≡ true) × (d ≡ true) × (e ≡ true)
four a b c d e h =
    let last : ((a && b && c && d) ≡ true) × (e ≡ true) = and_parts (a && b && c && d) e h in
    let third : ((a && b && c) ≡ true) × (d ≡ true) = and_parts (a && b && c) d last.0 in
    let second : ((a && b) ≡ true) × (c ≡ true) = and_parts (a && b) c third.0 in
    let first : (a ≡ true) × (b ≡ true) = and_parts a b second.0 in
    (first.0, first.1, second.1, third.1, last.1)

pub soundness_of : (s : State) → is_well_formed s ≡ true → Soundness s
unfolding is_well_formed
soundness_of s h =
    let parts =
    four (nat_lt 3 s.next_id) (are_live (lists_of s.objects)) (are_given s) (ids_rise s.objects)
    (list_all (λ e. is_kept s e.0 e.1) s.objects) h in
    record { begun = parts.0; live = parts.1; given = parts.2; rise = parts.3; kept = parts.4 }

pub well_formed_from : (s : State) → Soundness s → is_well_formed s ≡ true
unfolding is_well_formed
well_formed_from s h =
    and_from (nat_lt 3 s.next_id && are_live (lists_of s.objects) && are_given s && ids_rise s.objects)
    (list_all (λ e. is_kept s e.0 e.1) s.objects)
    (and_from (nat_lt 3 s.next_id && are_live (lists_of s.objects) && are_given s) (ids_rise s.objects)
    (and_from (nat_lt 3 s.next_id && are_live (lists_of s.objects)) (are_given s)
    (and_from (nat_lt 3 s.next_id) (are_live (lists_of s.objects)) h.begun h.live) h.given) h.rise)
    h.kept

-- each record is live
pub live_kind : (s : State) (k : kind.Kind) (o : ℕ) → is_well_formed s ≡ true
    → is_kind_at s k o ≡ is_live_kind s k o
live_kind s k o h = kind_live s k o (soundness_of s h).live

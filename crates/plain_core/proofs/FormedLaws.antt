-- What is tested of records is that their state is well formed.
use Rattle.std.proofs.Common.{◌≡◌, ℕ, ◌&&◌, Bool, true, false, nat_lt, nat_le, List, [], ◌∷◌, is_some, refl, sym, ◌∙◌, ap}
use Rattle.std.specs.List.{list_all}
use Rattle.std.specs.BTreeMap.{BTreeMap}
use Rattle.std.proofs.lemmas.Bool.{and_parts, and_from, both_ways, false_from_ne_true}
use Rattle.kernel_rules.specs.State.{State, object_at, listed, use_of}
use Rattle.kernel_rules.specs.WellFormed.{is_well_formed, are_given, ids_rise, is_kept, is_distinct, is_listed_rightly}
use Rattle.kernel_rules.specs.WellFormed.{is_whole, listers}
use Rattle.kernel_rules.specs.declared.objects.Object.{Object}
use Rattle.kernel_rules.proofs.ListerLaws.{kept_parts}
use Rattle.kernel_rules.proofs.WellFormedLaws.{soundness_of, well_formed_from}
use Rattle.plain_core.specs.Counted.{CountsListers, count_in}
use Rattle.plain_core.specs.Keeping.{is_held}
use Rattle.plain_core.proofs.CountLaws.{rightly_capped}
use Rattle.plain_state.proofs.QuotaLive.{live_by_quotas}

-- tests that hold together are the same
pub alike : (a b : Bool) → (a ≡ true → b ≡ true) → (b ≡ true → a ≡ true) → a ≡ b
alike true b f g = sym (f refl)
alike false true f g = g refl
alike false false f g = refl

held_kept : (s : State) (m : BTreeMap ℕ ℕ) → CountsListers s m → (o : ℕ) (x : Object)
    → is_distinct (listed x.body) ≡ true → is_held s (count_in m o) o x ≡ is_kept s o x
held_kept s m counts o x distinct =
    let rightly : is_listed_rightly (count_in m o) o x ≡ is_listed_rightly (listers s o) o x
    = ap (λ n. is_listed_rightly n o x) (counts o) ∙ rightly_capped (listers s o) o x in
    sym (λ i. distinct i && list_all (λ i. is_some (object_at s i)) (listed x.body) && nat_le (use_of s o) x.quota
    && sym rightly i && is_whole x)

all_held_kept : (s : State) (m : BTreeMap ℕ ℕ) → CountsListers s m → (es : List (ℕ × Object))
    → list_all (λ (e : ℕ × Object). is_distinct (listed e.1.body)) es ≡ true
    → list_all (λ e. is_held s (count_in m e.0) e.0 e.1) es ≡ list_all (λ e. is_kept s e.0 e.1) es
all_held_kept s m counts [] distinct = refl
all_held_kept s m counts (e ∷ es) distinct =
    let parts = and_parts (is_distinct (listed e.1.body)) (list_all (λ (e : ℕ × Object). is_distinct (listed e.1.body)) es)
    distinct in
    (λ i. held_kept s m counts e.0 e.1 parts.0 i && all_held_kept s m counts es parts.1 i)

pub formed : (s : State) (m : BTreeMap ℕ ℕ) → ids_rise s.objects ≡ true → CountsListers s m
    → list_all (λ (e : ℕ × Object). is_distinct (listed e.1.body)) s.objects ≡ true
    → (nat_lt 3 s.next_id && are_given s && list_all (λ e. is_held s (count_in m e.0) e.0 e.1) s.objects)
    ≡ is_well_formed s
formed s m rise counts distinct =
    let same = all_held_kept s m counts s.objects distinct in
    alike (nat_lt 3 s.next_id && are_given s && list_all (λ e. is_held s (count_in m e.0) e.0 e.1) s.objects)
    (is_well_formed s)
    (λ h.
    let b = and_parts (nat_lt 3 s.next_id && are_given s)
    (list_all (λ e. is_held s (count_in m e.0) e.0 e.1) s.objects) h in
    let a = and_parts (nat_lt 3 s.next_id) (are_given s) b.0 in
    let kept : list_all (λ e. is_kept s e.0 e.1) s.objects ≡ true = sym same ∙ b.1 in
    well_formed_from s (record {
      begun = a.0;
      live = live_by_quotas s kept rise;
      given = a.1;
      rise = rise;
      kept = kept;
    }))
    (λ h.
    let k = soundness_of s h in
    and_from (nat_lt 3 s.next_id && are_given s) (list_all (λ e. is_held s (count_in m e.0) e.0 e.1) s.objects)
    (and_from (nat_lt 3 s.next_id) (are_given s) k.begun k.given) (same ∙ k.kept))

kept_distinct : (s : State) (es : List (ℕ × Object)) → list_all (λ e. is_kept s e.0 e.1) es ≡ true
    → list_all (λ (e : ℕ × Object). is_distinct (listed e.1.body)) es ≡ true
kept_distinct s [] h = refl
kept_distinct s (e ∷ es) h =
    let parts = and_parts (is_kept s e.0 e.1) (list_all (λ e. is_kept s e.0 e.1) es) h in
    and_from (is_distinct (listed e.1.body)) _ (kept_parts s e.0 e.1 parts.0).distinct (kept_distinct s es parts.1)

pub unformed : (s : State)
    → list_all (λ (e : ℕ × Object). is_distinct (listed e.1.body)) s.objects ≡ false → is_well_formed s ≡ false
unformed s off =
    false_from_ne_true (is_well_formed s)
    (λ h. both_ways (list_all (λ (e : ℕ × Object). is_distinct (listed e.1.body)) s.objects) off
    (kept_distinct s s.objects (soundness_of s h).kept))

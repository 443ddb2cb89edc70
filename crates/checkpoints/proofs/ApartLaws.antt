-- The mappings of a restored state lie apart.
use Rattle.std.proofs.Common.{◌≡◌, ℕ, zero, suc, true, not, List, [], ◌∷◌, Option, Some, None, refl, subst, ap}
use Rattle.std.specs.List.{list_all, list_any}
use Rattle.std.proofs.lemmas.Bool.{and_parts, not-true}
use Rattle.base.specs.declared.ranges.Limits.{Limits}
use Rattle.kernel_rules.specs.Conditions.{meets}
use Rattle.kernel_rules.specs.Runs.{state_after}
use Rattle.kernel_rules.specs.State.{slots_at, slots_of}
use Rattle.kernel_rules.specs.Translate.{covers, slot_at}
use Rattle.kernel_rules.specs.declared.calls.Call.{Call}
use Rattle.kernel_rules.specs.declared.objects.Mapping.{Mapping}
use Rattle.kernel_rules.specs.declared.objects.Object.{Object}
use Rattle.kernel_laws.proofs.Apart.{Apart, AllApart, Sound, none_meets, after_sound}
use Rattle.kernel_laws.proofs.Apart.{state_apart, slot_read}
use Rattle.checkpoints.specs.Restorable.{is_restorable, maps_rightly, lie_apart, is_in_bounds}
use Rattle.checkpoints.specs.Restored.{restored}
use Rattle.checkpoints.specs.Checkpoint.{Checkpoint}
use Rattle.checkpoints.proofs.Parts.{parts_of}

-- mappings of which no two meet cover a page once at most
pub apart_from : (ms : List (Option Mapping)) → lie_apart ms ≡ true → Apart ms
apart_from [] h page i j hi hj = absurd (cc)
apart_from (None ∷ ms) h page zero j hi hj = absurd (cc)
apart_from (None ∷ ms) h page (suc i) zero hi hj = absurd (cc)
apart_from (None ∷ ms) h page (suc i) (suc j) hi hj = ap suc (apart_from ms h page i j hi hj)
apart_from (Some m ∷ ms) h page zero zero hi hj = refl
apart_from (Some m ∷ ms) h page zero (suc j) hi hj =
    let p = and_parts (not (list_any (meets m) ms)) (lie_apart ms) h in
    absurd (none_meets page m ms j hi (not-true (list_any (meets m) ms) p.0) hj)
apart_from (Some m ∷ ms) h page (suc i) zero hi hj =
    let p = and_parts (not (list_any (meets m) ms)) (lie_apart ms) h in
    absurd (none_meets page m ms i hj (not-true (list_any (meets m) ms) p.0) hi)
apart_from (Some m ∷ ms) h page (suc i) (suc j) hi hj =
    let p = and_parts (not (list_any (meets m) ms)) (lie_apart ms) h in
    ap suc (apart_from ms p.1 page i j hi hj)

pub all_apart : (es : List (ℕ × Object)) → list_all (λ e. maps_rightly e.1) es ≡ true → AllApart es
all_apart [] h = tt
all_apart (e ∷ es) h =
    let p = and_parts (maps_rightly e.1) (list_all (λ e. maps_rightly e.1) es) h in
    let q = and_parts (list_all is_in_bounds (slots_of e.1.body)) (lie_apart (slots_of e.1.body)) p.0 in
    (apart_from (slots_of e.1.body) q.1, all_apart es p.1)

pub restored_sound : (limits : Limits) (c : Checkpoint) → is_restorable limits c ≡ true
    → Sound (restored limits c)
restored_sound limits c h = all_apart (restored limits c).objects (parts_of limits c h).maps

pub restored_apart : (limits : Limits) (c : Checkpoint) (calls : List (ℕ × Call)) (a page i j : ℕ)
    → is_restorable limits c ≡ true
    → covers page (slot_at (state_after (restored limits c) calls) a i) ≡ true
    → covers page (slot_at (state_after (restored limits c) calls) a j) ≡ true → i ≡ j
restored_apart limits c calls a page i j h hi hj =
    let s = state_after (restored limits c) calls in
    state_apart s a (after_sound (restored limits c) calls (restored_sound limits c h)) page i j
    (subst (λ x. covers page x ≡ true) (slot_read (slots_at s a) i) hi)
    (subst (λ x. covers page x ≡ true) (slot_read (slots_at s a) j) hj)

-- What holds of each record holds of each after a change.
use Rattle.std.proofs.Common.{◌≡◌, ℕ, Bool, true, false, cond, List, [], ◌∷◌, Some, None, Less, Equal, Greater}
use Rattle.std.proofs.Common.{refl, sym, subst, ap}
use Rattle.std.specs.List.{filter, list_all, AllByRecursion}
use Rattle.std.specs.Map.{lookup, set_value}
use Rattle.std.specs.BTreeMap.{is_at, insert_entry}
use Rattle.std.specs.Ordering.{nat_cmp, match_ordering, is_eq}
use Rattle.std.proofs.lemmas.Bool.{and_from}
use Rattle.kernel_rules.specs.Changes.{changed, put, made, listing}
use Rattle.kernel_rules.specs.State.{State, object_at, of_object}
use Rattle.kernel_rules.specs.declared.objects.Object.{Object}
use Rattle.kernel_rules.proofs.RecordLaws.{same_id, next_id-changed}

-- P holds of each id and its object
abbrev pub Everywhere : (ℕ → Object → Type 0) → List (ℕ × Object) → Type 0
Everywhere P es = AllByRecursion (λ e. P e.0 e.1) es

pub everywhere_put : (P : ℕ → Object → Type 0) (o : ℕ) (es : List (ℕ × Object)) (x : Object) → P o x
    → Everywhere P es → Everywhere P (set_value (is_at (nat_cmp o)) es x)
everywhere_put P o [] x new all = tt
everywhere_put P o (e ∷ es) x new all =
    elim (is_at (nat_cmp o) e.0)
    as (λ v. is_at (nat_cmp o) e.0 ≡ v
    → Everywhere P (cond v ((e.0, x) ∷ es) (e ∷ set_value (is_at (nat_cmp o)) es x))) [
      | true ↦ λ is. (subst (λ k. P k x) (same_id o e.0 is) new, all.1)
      | false ↦ λ is. (all.0, everywhere_put P o es x new all.1)
    ] refl

everywhere_inserted : (P : ℕ → Object → Type 0) (es : List (ℕ × Object)) (k : ℕ) (x : Object) → P k x
    → Everywhere P es → Everywhere P (insert_entry nat_cmp es k x)
everywhere_inserted P [] k x new all = (new, tt)
everywhere_inserted P (e ∷ es) k x new all =
    elim (nat_cmp k e.0)
    as (λ v. nat_cmp k e.0 ≡ v
    → Everywhere P (match_ordering v ((k, x) ∷ e ∷ es) ((e.0, x) ∷ es) (e ∷ insert_entry nat_cmp es k x))) [
      | Less ↦ λ is. (new, all)
      | Equal ↦ λ is. (subst (λ j. P j x) (same_id k e.0 (ap is_eq is)) new, all.1)
      | Greater ↦ λ is. (all.0, everywhere_inserted P es k x new all.1)
    ] refl

pub everywhere_filtered : (P : ℕ → Object → Type 0) (test : ℕ × Object → Bool) (es : List (ℕ × Object))
    → Everywhere P es → Everywhere P (filter test es)
everywhere_filtered P test [] all = tt
everywhere_filtered P test (e ∷ es) all =
    elim (test e) as (λ v. Everywhere P (cond v (e ∷ filter test es) (filter test es))) [
      | true ↦ (all.0, everywhere_filtered P test es all.1)
      | false ↦ everywhere_filtered P test es all.1
    ]

pub found : (P : ℕ → Object → Type 0) (o : ℕ) (es : List (ℕ × Object)) (x : Object) → Everywhere P es
    → lookup (is_at (nat_cmp o)) es ≡ Some x → P o x
found P o [] x all is = absurd (cc)
found P o (e ∷ es) x all is =
    elim (is_at (nat_cmp o) e.0)
    as (λ v. is_at (nat_cmp o) e.0 ≡ v → cond v (Some e.1) (lookup (is_at (nat_cmp o)) es) ≡ Some x → P o x) [
      | true ↦ λ near h.
          let same : e.1 ≡ x = cc in
          subst (λ k. P k x) (sym (same_id o e.0 near)) (subst (λ (z : Object). P e.0 z) same all.0)
      | false ↦ λ far h. found P o es x all.1 h
    ] refl is

pub everywhere_changed : (P : ℕ → Object → Type 0) (s : State) (d : ℕ) (f : Object → Object)
    → ((x : Object) → object_at s d ≡ Some x → P d x → P d (f x))
    → Everywhere P s.objects → Everywhere P (changed s d f).objects
everywhere_changed P s d f keeps all =
    elim (object_at s d)
    as (λ v. object_at s d ≡ v → Everywhere P (of_object s (λ x. put s d (f x)) v).objects) [
      | None ↦ λ is. all
      | Some x ↦ λ is. everywhere_put P d s.objects (f x) (keeps x is (found P d s.objects x all is)) all
    ] refl

pub everywhere_made : (P : ℕ → Object → Type 0) (s : State) (d : ℕ) (x : Object)
    → ((z : Object) → object_at s d ≡ Some z → P d z → P d (listing s.next_id z)) → P s.next_id x
    → Everywhere P s.objects → Everywhere P (made s d x).objects
everywhere_made P s d x keeps new all =
    let mid : State = changed s d (listing s.next_id) in
    everywhere_inserted P mid.objects mid.next_id x
    (subst (λ k. P k x) (sym (next_id-changed s d (listing s.next_id))) new)
    (everywhere_changed P s d (listing s.next_id) keeps all)

pub everywhere_weaker : (P Q : ℕ → Object → Type 0) (es : List (ℕ × Object))
    → ((o : ℕ) (x : Object) → P o x → Q o x) → Everywhere P es → Everywhere Q es
everywhere_weaker P Q [] f all = tt
everywhere_weaker P Q (e ∷ es) f all = (f e.0 e.1 all.0, everywhere_weaker P Q es f all.1)

-- a test of each
pub tested : (P : ℕ → Object → Type 0) (test : Object → Bool) (es : List (ℕ × Object))
    → ((o : ℕ) (x : Object) → P o x → test x ≡ true) → Everywhere P es → list_all (λ e. test e.1) es ≡ true
tested P test [] f all = refl
tested P test (e ∷ es) f all =
    and_from (test e.1) (list_all (λ e. test e.1) es) (f e.0 e.1 all.0) (tested P test es f all.1)

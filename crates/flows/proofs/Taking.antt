-- Who takes, what is handed and who carries after one event.
use Rattle.std.proofs.Common.{◌≡◌, ◌≢◌, ℕ, Bool, true, false, cond, not, ◌&&◌, ◌||◌, ◌==◌}
use Rattle.std.proofs.Common.{List, [], ◌∷◌, refl, sym, ◌∙◌, ap, subst, ◌⊎◌, inl, inr}
use Rattle.std.proofs.lemmas.Bool.{and_parts, and_from, eqb-true, eq-eqb, both_ways}
use Rattle.base.specs.Live.{has}
use Rattle.kernel_rules.specs.Changes.{without}
use Rattle.flows.specs.Carriers.{added, all_added, meets, takers, handed, carriers_after}
use Rattle.flows.specs.declared.touches.Touch.{Touch}
use Rattle.flows.proofs.Lists.{or_cases, or_left, added_old, added_new, added_from, all_from}
use Rattle.flows.proofs.Lists.{without_other}

-- what is left without an id
without_from : (x o : ℕ) (ids : List ℕ) → has (without x ids) o ≡ true → (o ≢ x) × (has ids o ≡ true)
without_from x o [] h = absurd (cc)
without_from x o (i ∷ ids) h =
    elim (x == i)
    as (λ v. (x == i) ≡ v → has (cond (not v) (i ∷ without x ids) (without x ids)) o ≡ true
    → (o ≢ x) × (has (i ∷ ids) o ≡ true)) [
      | true ↦ λ is g.
          let rest = without_from x o ids g in (rest.0, or_right_of (o == i) (has ids o) rest.1)
      | false ↦ λ is g. elim (or_cases (o == i) (has (without x ids) o) g) [
        | inl here ↦ (
          λ e. both_ways (x == i) is (eq-eqb x i (sym e ∙ eqb-true o i here)),
          or_left (o == i) (has ids o) here,
        )
        | inr there ↦ let rest = without_from x o ids there in (rest.0, or_right_of (o == i) (has ids o) rest.1)
      ]
    ] refl h
  where
    or_right_of : (a b : Bool) → b ≡ true → (a || b) ≡ true
    or_right_of true b h = refl
    or_right_of false b h = h

pub not-both : (a b : Bool) → (not a && not b) ≡ true → (a ≡ false) × (b ≡ false)
not-both true b h = absurd (cc)
not-both false true h = absurd (cc)
not-both false false h = (refl, refl)

pub both-not : (a b : Bool) → a ≡ false → b ≡ false → (not a && not b) ≡ true
both-not true b h g = absurd (cc)
both-not false true h g = absurd (cc)
both-not false false h g = refl

-- who takes: a carrier, or the thread of an event outside that meets one
pub taker_from : (o : ℕ) (cs : List ℕ) (t : Touch) (x : ℕ) → has (takers o cs t) x ≡ true
    → (has cs x ≡ true) ⊎ ((x ≡ t.thread) × (t.outside ≡ true) × (meets o cs t.observed ≡ true))
taker_from o cs t x =
    elim (t.outside && meets o cs t.observed)
    as (λ v. (t.outside && meets o cs t.observed) ≡ v → has (cond v (added cs t.thread) cs) x ≡ true
    → (has cs x ≡ true) ⊎ ((x ≡ t.thread) × (t.outside ≡ true) × (meets o cs t.observed ≡ true))) [
      | true ↦ λ is h.
          let parts = and_parts t.outside (meets o cs t.observed) is in
          elim (added_from cs t.thread x h) [
            | inl old ↦ inl old
            | inr new ↦ inr (new, parts.0, parts.1)
          ]
      | false ↦ λ is h. inl h
    ] refl

pub taker_old : (o : ℕ) (cs : List ℕ) (t : Touch) (x : ℕ) → has cs x ≡ true → has (takers o cs t) x ≡ true
taker_old o cs t x h =
    elim (t.outside && meets o cs t.observed) as (λ v. has (cond v (added cs t.thread) cs) x ≡ true) [
      | true ↦ added_old cs t.thread x h
      | false ↦ h
    ]

pub taker_new : (o : ℕ) (cs : List ℕ) (t : Touch) → t.outside ≡ true → meets o cs t.observed ≡ true
    → has (takers o cs t) t.thread ≡ true
taker_new o cs t out met =
    subst (λ v. has (cond v (added cs t.thread) cs) t.thread ≡ true)
    (sym (and_from t.outside (meets o cs t.observed) out met)) (added_new cs t.thread)

-- what is reached in an event
pub handed_from : (taken : List ℕ) (t : Touch) (x : ℕ) → has (handed taken t) x ≡ true
    → (t.outside ≡ true) × (has taken t.thread ≡ true) × (has t.modified x ≡ true)
handed_from taken t x =
    elim (t.outside && has taken t.thread)
    as (λ v. (t.outside && has taken t.thread) ≡ v → has (cond v t.modified []) x ≡ true
    → (t.outside ≡ true) × (has taken t.thread ≡ true) × (has t.modified x ≡ true)) [
      | true ↦ λ is h.
          let parts = and_parts t.outside (has taken t.thread) is in (parts.0, parts.1, h)
      | false ↦ λ is h. absurd (cc)
    ] refl

pub handed_new : (taken : List ℕ) (t : Touch) (x : ℕ) → t.outside ≡ true → has taken t.thread ≡ true
    → has t.modified x ≡ true → has (handed taken t) x ≡ true
handed_new taken t x out takes h =
    subst (λ v. has (cond v t.modified []) x ≡ true) (sym (and_from t.outside (has taken t.thread) out takes)) h

-- who carries after an event
pub after_from : (taken : List ℕ) (t : Touch) (x : ℕ) → has (carriers_after taken t) x ≡ true
    → ((has taken x ≡ true) ⊎ (has (handed taken t) x ≡ true))
    × ((x ≢ t.thread) ⊎ ((t.outside ≡ true) × (t.owner ≡ false)))
after_from taken t x =
    elim (t.outside && not t.owner)
    as (λ v. (t.outside && not t.owner) ≡ v
    → has (cond v (all_added taken (handed taken t)) (without t.thread (all_added taken (handed taken t)))) x ≡ true
    → ((has taken x ≡ true) ⊎ (has (handed taken t) x ≡ true))
    × ((x ≢ t.thread) ⊎ ((t.outside ≡ true) × (t.owner ≡ false)))) [
      | true ↦ λ is h.
          let parts = and_parts t.outside (not t.owner) is in
          (all_from taken (handed taken t) x h, inr (parts.0, not-true t.owner parts.1))
      | false ↦ λ is h.
          let rest = without_from t.thread x (all_added taken (handed taken t)) h in
          (all_from taken (handed taken t) x rest.1, inl rest.0)
    ] refl
  where
    not-true : (b : Bool) → not b ≡ true → b ≡ false
    not-true true h = absurd (cc)
    not-true false h = refl

pub after_kept : (taken : List ℕ) (t : Touch) (x : ℕ) → has (all_added taken (handed taken t)) x ≡ true
    → (x ≡ t.thread → (t.outside ≡ true) × (t.owner ≡ false)) → has (carriers_after taken t) x ≡ true
after_kept taken t x h stays =
    elim (t.outside && not t.owner)
    as (λ v. (t.outside && not t.owner) ≡ v
    → has (cond v (all_added taken (handed taken t)) (without t.thread (all_added taken (handed taken t)))) x
    ≡ true) [
      | true ↦ λ is. h
      | false ↦ λ is.
          without_other t.thread x (all_added taken (handed taken t))
          (λ e. let s = stays e in
          both_ways (t.outside && not t.owner) is (and_from t.outside (not t.owner) s.0 (ap not s.1))) h
    ] refl

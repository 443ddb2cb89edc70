-- Two worlds side by side.
use Rattle.std.proofs.Common.{◌≡◌, ℕ, true, [], ◌∷◌, sym, ◌∙◌, inl, inr}
use Rattle.label_lattice.specs.Label.{LabelValue}
use Rattle.kernel_rules.specs.State.{State}
use Rattle.kernel_rules.specs.Step.{next, answer}
use Rattle.kernel_rules.specs.WellFormed.{is_well_formed}
use Rattle.kernel_rules.specs.declared.calls.Call.{Call}
use Rattle.kernel_rules.specs.declared.calls.Call.TheVariants as call
use Rattle.worlds.specs.Laws.{is_unref}
use Rattle.worlds.specs.Seen.{IsSame, IsOpen, is_within}
use Rattle.worlds.specs.TwoRuns.{InFirst, InSecond, InBoth, Asked, NothingIsTold, Agreed, IsHidden}
use Rattle.worlds.proofs.Quietly.{hidden_stays}
use Rattle.worlds.proofs.Queries.{queries_alike}
use Rattle.worlds.proofs.Plainly.{steps_alike}
use Rattle.worlds.proofs.Counting.{counted_alike}
use Rattle.worlds.proofs.Naming.{named_alike}
use Rattle.worlds.proofs.Ending.{open_hidden, unrefs_alike}
use Rattle.worlds.proofs.Wholeness.{well_formed_stays}

-- the first world went on, unseen
pub first_on : (l : LabelValue) (s n m : State) → IsSame l s n → IsSame l s m → IsSame l m n
first_on l s n m a b = record {
  objects = λ o. a.objects o ∙ sym (b.objects o);
  told = λ d o. a.told d o ∙ sym (b.told d o);
  parents = λ d. a.parents d ∙ sym (b.parents d);
}

-- or the second
pub second_on : (l : LabelValue) (s n m : State) → IsSame l s n → IsSame l n m → IsSame l s m
second_on l s n m a b = record {
  objects = λ o. b.objects o ∙ a.objects o;
  told = λ d o. b.told d o ∙ a.told d o;
  parents = λ d. b.parents d ∙ a.parents d;
}

by_unref : (l : LabelValue) (s n : State) (t : ℕ) (c : Call) → is_well_formed s ≡ true
    → is_well_formed n ≡ true → IsSame l s n → is_within l s t ≡ true → is_unref c ≡ true → IsOpen l s → IsOpen l n
    → (answer n t c ≡ answer s t c) × IsSame l (next s t c) (next n t c)
by_unref l s n t (call.Unref e) sound sound_too same within is apart apart_too =
    unrefs_alike l s n t e sound sound_too same within apart apart_too
by_unref l s n t c sound sound_too same within is apart apart_too = absurd (cc)

pub hidden : (l : LabelValue) (s : State) (t : ℕ) (c : Call) → is_well_formed s ≡ true → IsHidden l s t c
    → IsSame l s (next s t c)
hidden l s t c sound h =
    elim h.keeps [
      | inl keeps ↦ hidden_stays l s t c sound keeps h.before h.after
      | inr apart ↦ open_hidden l s t c sound apart h.before h.after
    ]

pub agreed_alike : (l : LabelValue) (s n : State) (t : ℕ) (c : Call) → is_well_formed s ≡ true
    → is_well_formed n ≡ true → IsSame l s n → is_within l s t ≡ true → Agreed l s n c
    → (answer n t c ≡ answer s t c) × IsSame l (next s t c) (next n t c)
agreed_alike l s n t c sound sound_too same within agreed =
    elim agreed [
      | inl plain ↦ steps_alike l s n t c sound sound_too same within plain
      | inr more ↦ elim more [
        | inl counted ↦
            let both = counted_alike l s n t c sound sound_too same within counted.0 counted.1 in
            (both.0, both.1)
        | inr named ↦ elim named [
          | inl told ↦ named_alike l s n t c sound sound_too same within told
          | inr ended ↦ by_unref l s n t c sound sound_too same within ended.0 ended.1 ended.2
        ]
      ]
    ]

pub nothing_told : NothingIsTold
nothing_told l s n [] sound sound_too same h = same
nothing_told l s n (InFirst t c ∷ ms) sound sound_too same h = (
  tt,
  nothing_told l (next s t c) n ms (well_formed_stays s t c sound h.0) sound_too
      (first_on l s n (next s t c) same (hidden l s t c sound h.1)) h.2,
)
nothing_told l s n (InSecond t c ∷ ms) sound sound_too same h = (
  tt,
  nothing_told l s (next n t c) ms sound (well_formed_stays n t c sound_too h.0)
      (second_on l s n (next n t c) same (hidden l n t c sound_too h.1)) h.2,
)
nothing_told l s n (InBoth t c ∷ ms) sound sound_too same h =
    let both = agreed_alike l s n t c sound sound_too same h.1.0 h.1.1 in (
      both.0,
      nothing_told l (next s t c) (next n t c) ms (well_formed_stays s t c sound h.0)
          (well_formed_stays n t c sound_too h.0) both.1 h.2,
    )
nothing_told l s n (Asked t q ∷ ms) sound sound_too same h =
    (queries_alike l s n t q sound sound_too same h.1, nothing_told l s n ms sound sound_too same h.2)

-- Two worlds in which hidden threads are quiet.
use Rattle.std.proofs.Common.{◌≡◌, ℕ, Bool, true, false, not, List, [], ◌∷◌, Some, None, sym, ◌∙◌, ◌⊎◌, inl, inr, refl}
use Rattle.std.proofs.lemmas.Bool.{and_parts}
use Rattle.label_lattice.specs.Label.{LabelValue}
use Rattle.kernel_rules.specs.State.{State}
use Rattle.kernel_rules.specs.Step.{next, answer}
use Rattle.kernel_rules.specs.WellFormed.{is_well_formed}
use Rattle.kernel_rules.specs.declared.calls.Call.{Call}
use Rattle.kernel_rules.specs.declared.calls.Call.TheVariants as call
use Rattle.kernel_laws.specs.Laws.{may_lower}
use Rattle.worlds.specs.Laws.{is_maker, is_counted, is_sendable, IsSameCount, IsNamedAlike, IsGuarded}
use Rattle.worlds.specs.Seen.{IsSame, IsOpen, seen_at, is_within}
use Rattle.worlds.specs.TwoRuns.{Move, InFirst, InSecond, InBoth, Asked, AreAlike, Agreed, AreQuiet, NothingIsToldQuietly}
use Rattle.worlds.specs.TwoRuns.{is_quiet, is_aside}
use Rattle.worlds.proofs.Unseen.{same_refl}
use Rattle.worlds.proofs.Queries.{queries_alike}
use Rattle.worlds.proofs.Counting.{counted_alike}
use Rattle.worlds.proofs.Ending.{open_hidden}
use Rattle.worlds.proofs.Apartness.{open_stays}
use Rattle.worlds.proofs.Staying.{stays_hidden, counts_stay}
use Rattle.worlds.proofs.Wholeness.{well_formed_stays}
use Rattle.worlds.proofs.Shared.{Worlds, flip, Caller, caller_of, shown_visible, seen_if}
use Rattle.worlds.proofs.Together.{agreed_alike, first_on, second_on}

-- what holds all along
record Held (l : LabelValue) (s n : State) : Type 0 where
  sound : is_well_formed s ≡ true
  sound_too : is_well_formed n ≡ true
  same : IsSame l s n
  apart : IsOpen l s
  apart_too : IsOpen l n
  count : IsSameCount s n

quiet_parts : (c : Call) → is_quiet c ≡ true → (is_maker c ≡ false) × (may_lower c ≡ false)
quiet_parts (call.Link d e) h = absurd (cc)
quiet_parts c h =
    let parts : (not (is_maker c) ≡ true) × (not (may_lower c) ≡ true) =
    and_parts (not (is_maker c)) (not (may_lower c)) h in
    (off (is_maker c) parts.0, off (may_lower c) parts.1)
  where
    off : (b : Bool) → not b ≡ true → b ≡ false
    off true g = sym g
    off false g = refl

quiet_guarded : (l : LabelValue) (s : State) (t : ℕ) (c : Call) → is_quiet c ≡ true → IsGuarded l s c t
quiet_guarded l s t (call.Link d e) h = absurd (cc)
quiet_guarded l s t c h = tt

-- a hidden thread's quiet call
record Passed (l : LabelValue) (s m : State) : Type 0 where
  sound : is_well_formed m ≡ true
  same : IsSame l s m
  apart : IsOpen l m
  count : IsSameCount s m

passes : (l : LabelValue) (s : State) (t : ℕ) (c : Call) → is_well_formed s ≡ true → IsOpen l s
    → is_sendable c ≡ true → is_quiet c ≡ true → seen_at l s t ≡ None → Passed l s (next s t c)
passes l s t c sound apart fits quiet off =
    let parts = quiet_parts c quiet in
    let after : seen_at l (next s t c) t ≡ None = stays_hidden l s t c sound parts.1 off in
    record {
      sound = well_formed_stays s t c sound fits;
      same = open_hidden l s t c sound apart off after;
      apart = open_stays l s t c sound apart (inl off) (quiet_guarded l s t c quiet) (λ o. after);
      count = counts_stay s t c parts.0;
    }

-- who observes no more than l is seen
seen_caller : (l : LabelValue) (s : State) (t : ℕ) → is_within l s t ≡ true → seen_at l s t ≡ None → ⊥
seen_caller l s t within off =
    let c : Caller l s t = caller_of l s t within in
    let both : Some c.object ≡ None =
    sym (seen_if l s t c.object c.found (shown_visible c.object.label l c.within)) ∙ off in
    absurd (cc)

seen_guarded : (l : LabelValue) (s : State) (t : ℕ) (c : Call) → is_within l s t ≡ true → IsGuarded l s c t
seen_guarded l s t (call.Link d e) within = (λ off. absurd (seen_caller l s t within off))
seen_guarded l s t c within = tt

agrees : (l : LabelValue) (s n : State) (c : Call) → Held l s n → (is_aside c ≡ false) ⊎ IsNamedAlike s n c
    → Agreed l s n c
agrees l s n (call.SelfSetAs e) held named = inl refl
agrees l s n (call.SetFixed e) held named = inl refl
agrees l s n (call.SetImmutable e) held named = inl refl
agrees l s n (call.MetaSet e bytes) held named = inl refl
agrees l s n (call.SegmentResize e pages) held named = inl refl
agrees l s n (call.SegmentWrite e a bytes) held named = inl refl
agrees l s n (call.AsMap e slot m) held named = inl refl
agrees l s n (call.AsUnmap e slot) held named = inl refl
agrees l s n (call.Store address bytes) held named = inl refl
agrees l s n (call.DevSend e bytes) held named = inl refl
agrees l s n (call.DevRecv e) held named = inl refl
agrees l s n call.CatCreate held named = inr (inl (refl, held.count))
agrees l s n (call.SelfSetLabel x) held named = inr (inl (refl, held.count))
agrees l s n (call.SelfSetClearance y) held named = inr (inl (refl, held.count))
agrees l s n (call.ContainerCreate k) held named = inr (inl (refl, held.count))
agrees l s n (call.SegmentCreate k) held named = inr (inl (refl, held.count))
agrees l s n (call.SegmentCopy k) held named = inr (inl (refl, held.count))
agrees l s n (call.AsCreate k) held named = inr (inl (refl, held.count))
agrees l s n (call.ThreadCreate k) held named = inr (inl (refl, held.count))
agrees l s n (call.GateCreate k) held named = inr (inl (refl, held.count))
agrees l s n (call.GateEnter e r q v) held named = inr (inl (refl, held.count))
agrees l s n (call.Link d e) held (inl aside) = absurd (cc)
agrees l s n (call.Link d e) held (inr named) = inr (inr (inl named))
agrees l s n (call.QuotaMove e k) held (inl aside) = absurd (cc)
agrees l s n (call.QuotaMove e k) held (inr named) = inr (inr (inl named))
agrees l s n (call.Unref e) held named = inr (inr (inr (refl, held.apart, held.apart_too)))

maker_counted : (c : Call) → is_maker c ≡ true → is_counted c ≡ true
maker_counted (call.SelfSetAs e) h = absurd (cc)
maker_counted (call.SetFixed e) h = absurd (cc)
maker_counted (call.SetImmutable e) h = absurd (cc)
maker_counted (call.MetaSet e bytes) h = absurd (cc)
maker_counted (call.SegmentResize e pages) h = absurd (cc)
maker_counted (call.SegmentWrite e a bytes) h = absurd (cc)
maker_counted (call.AsMap e slot m) h = absurd (cc)
maker_counted (call.AsUnmap e slot) h = absurd (cc)
maker_counted (call.Store address bytes) h = absurd (cc)
maker_counted (call.DevSend e bytes) h = absurd (cc)
maker_counted (call.DevRecv e) h = absurd (cc)
maker_counted (call.Link d e) h = absurd (cc)
maker_counted (call.QuotaMove e k) h = absurd (cc)
maker_counted (call.Unref e) h = absurd (cc)
maker_counted (call.SelfSetLabel x) h = absurd (cc)
maker_counted (call.SelfSetClearance y) h = absurd (cc)
maker_counted (call.GateEnter e r q v) h = absurd (cc)
maker_counted call.CatCreate h = refl
maker_counted (call.ContainerCreate k) h = refl
maker_counted (call.SegmentCreate k) h = refl
maker_counted (call.SegmentCopy k) h = refl
maker_counted (call.AsCreate k) h = refl
maker_counted (call.ThreadCreate k) h = refl
maker_counted (call.GateCreate k) h = refl

counts_after : (l : LabelValue) (s n : State) (t : ℕ) (c : Call) → Held l s n → is_within l s t ≡ true
    → IsSameCount (next s t c) (next n t c)
counts_after l s n t c held within =
    elim (is_maker c)
    as (λ b. is_maker c ≡ b → IsSameCount (next s t c) (next n t c)) [
      | true ↦ λ is.
          (counted_alike l s n t c held.sound held.sound_too held.same within (maker_counted c is) held.count).2
      | false ↦ λ is.
          let a : IsSameCount s (next s t c) = counts_stay s t c is in
          let b : IsSameCount n (next n t c) = counts_stay n t c is in
          record {
            next_id = b.next_id ∙ held.count.next_id ∙ sym a.next_id;
            next_category = b.next_category ∙ held.count.next_category ∙ sym a.next_category;
          }
    ] refl

-- a call in both worlds
both_pass : (l : LabelValue) (s n : State) (t : ℕ) (c : Call) → Held l s n → is_sendable c ≡ true
    → is_within l s t ≡ true → (is_aside c ≡ false) ⊎ IsNamedAlike s n c
    → (answer n t c ≡ answer s t c) × Held l (next s t c) (next n t c)
both_pass l s n t c held fits within named =
    let both = agreed_alike l s n t c held.sound held.sound_too held.same within (agrees l s n c held named) in
    let w : Worlds l s n t =
    record { sound = held.sound; sound_too = held.sound_too; same = held.same; within = within } in
    let within_n : is_within l n t ≡ true = (flip l s n t w).within in (
      both.0,
      record {
        sound = well_formed_stays s t c held.sound fits;
        sound_too = well_formed_stays n t c held.sound_too fits;
        same = both.1;
        apart = open_stays l s t c held.sound held.apart (inr within) (seen_guarded l s t c within)
            (λ off. absurd (seen_caller l s t within off));
        apart_too = open_stays l n t c held.sound_too held.apart_too (inr within_n) (seen_guarded l n t c within_n)
            (λ off. absurd (seen_caller l n t within_n off));
        count = counts_after l s n t c held within;
      },
    )

goes_on : (l : LabelValue) (s n : State) (moves : List Move) → Held l s n → AreQuiet l s n moves
    → AreAlike l s n moves
goes_on l s n [] held h = held.same
goes_on l s n (InFirst t c ∷ ms) held h =
    let p : Passed l s (next s t c) = passes l s t c held.sound held.apart h.0 h.1.0 h.1.1 in (
      tt,
      goes_on l (next s t c) n ms (record {
        sound = p.sound;
        sound_too = held.sound_too;
        same = first_on l s n (next s t c) held.same p.same;
        apart = p.apart;
        apart_too = held.apart_too;
        count = record {
          next_id = held.count.next_id ∙ sym p.count.next_id;
          next_category = held.count.next_category ∙ sym p.count.next_category;
        };
      }) h.2,
    )
goes_on l s n (InSecond t c ∷ ms) held h =
    let p : Passed l n (next n t c) = passes l n t c held.sound_too held.apart_too h.0 h.1.0 h.1.1 in (
      tt,
      goes_on l s (next n t c) ms (record {
        sound = held.sound;
        sound_too = p.sound;
        same = second_on l s n (next n t c) held.same p.same;
        apart = held.apart;
        apart_too = p.apart;
        count = record {
          next_id = p.count.next_id ∙ held.count.next_id;
          next_category = p.count.next_category ∙ held.count.next_category;
        };
      }) h.2,
    )
goes_on l s n (InBoth t c ∷ ms) held h =
    let both = both_pass l s n t c held h.0 h.1.0 h.1.1 in
    (both.0, goes_on l (next s t c) (next n t c) ms both.1 h.2)
goes_on l s n (Asked t q ∷ ms) held h =
    (queries_alike l s n t q held.sound held.sound_too held.same h.1, goes_on l s n ms held h.2)

pub quiet_told : NothingIsToldQuietly
quiet_told l s moves sound apart h =
    goes_on l s s moves (record {
      sound = sound;
      sound_too = sound;
      same = same_refl l s;
      apart = apart;
      apart_too = apart;
      count = record { next_id = refl; next_category = refl };
    }) h

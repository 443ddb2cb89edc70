-- Each reply that differs is told.
use Rattle.std.proofs.Common.{◌≡◌, ℕ, Bool, true, false, not, ◌&&◌, cond, List, [], ◌∷◌, ◌++◌, map, Option, Some, None, refl, sym, ◌∙◌, ap, subst}
use Rattle.std.proofs.lemmas.Bool.{or_parts, true≢false}
use Rattle.label_lattice.specs.Label.{LabelValue}
use Rattle.kernel_rules.specs.State.{State}
use Rattle.call_text.specs.declared.asking.Asked.{Asked}
use Rattle.call_text.specs.declared.asking.Asked.TheVariants.{Read, Write}
use Rattle.kernel_rules.specs.Step.{next}
use Rattle.kernel_rules.specs.WellFormed.{is_well_formed}
use Rattle.kernel_rules.specs.declared.replies.Reply.{Reply}
use Rattle.kernel_rules.specs.declared.replies.Reply.TheVariants as reply
use Rattle.worlds.specs.Seen.{IsSame}
use Rattle.worlds.proofs.Together.{agreed_alike, hidden, first_on}
use Rattle.worlds.proofs.Queries.{queries_alike}
use Rattle.worlds.proofs.Unseen.{same_refl}
use Rattle.hidden_replies.specs.Exceptions.{first_of, is_met, when_hidden, when_met}
use Rattle.hidden_replies.specs.Hidden.{Runs, after, both_from, differences, exception_at, exception_in, IsAgreed}
use Rattle.hidden_replies.specs.Hidden.{replied, replied_at, replied_in, TellsAll, told, told_at, told_by}
use Rattle.hidden_replies.specs.Asked.{is_call, reply_to, same_by, state_by}
use Rattle.hidden_replies.specs.declared.differences.Channel.{Channel}
use Rattle.hidden_replies.specs.declared.differences.Placed.{Placed}
use Rattle.hidden_replies.proofs.Itself.{same_itself}
use Rattle.hidden_replies.proofs.Apart.{hidden_so, met_agreed, none_first, read_within}

-- what is asked in both runs is answered alike where no exception holds, and l sees the same after it
asked_alike : (l : LabelValue) (s n : State) (t : ℕ) (a : Asked) → is_well_formed s ≡ true → is_well_formed n ≡ true
    → IsSame l s n → when_met l s n t a ≡ None
    → (reply_to n t a ≡ reply_to s t a) × IsSame l (state_by s t a) (state_by n t a)
asked_alike l s n t (Write c) sound sound_too same none =
    let both = met_agreed l s n t c none in
    agreed_alike l s n t c sound sound_too same both.0 both.1
asked_alike l s n t (Read q) sound sound_too same none =
    (queries_alike l s n t q sound sound_too same (read_within l s n t q none), same)

-- after what a hidden thread asks, where no exception holds
hidden_alike : (l : LabelValue) (s n : State) (t : ℕ) (a : Asked) → is_well_formed s ≡ true → IsSame l s n
    → is_met l s n t ≡ false → when_hidden l s t a ≡ None → IsSame l (state_by s t a) n
hidden_alike l s n t (Write c) sound same off none =
    first_on l s n (next s t c) same (hidden l s t c sound (hidden_so l s n t c off none))
hidden_alike l s n t (Read q) sound same off none = same

-- the replies of one call or read in two runs that are agreed, and what l sees after it
met_alike : (l : LabelValue) (r : Runs) (p : Placed) → is_well_formed r.whole ≡ true → is_well_formed r.purged ≡ true
    → IsAgreed l r → r.exception ≡ None
    → cond r.parted (when_met l r.whole r.purged p.thread p.asked) None ≡ None
    → (reply_to r.purged p.thread p.asked ≡ reply_to r.whole p.thread p.asked)
    × IsSame l (state_by r.whole p.thread p.asked) (state_by r.purged p.thread p.asked)
met_alike l r p sound sound_too h none met =
    elim r.parted
    as (λ b. r.parted ≡ b → cond b (when_met l r.whole r.purged p.thread p.asked) None ≡ None
    → (reply_to r.purged p.thread p.asked ≡ reply_to r.whole p.thread p.asked)
    × IsSame l (state_by r.whole p.thread p.asked) (state_by r.purged p.thread p.asked)) [
      | true ↦ λ is g.
          asked_alike l r.whole r.purged p.thread p.asked sound sound_too (h.same none) g
      | false ↦ λ is g. (
        ap (λ (s : State). reply_to s p.thread p.asked) (h.one is),
        subst (λ (s : State). IsSame l (state_by r.whole p.thread p.asked) (state_by s p.thread p.asked)) (sym (h.one is))
            (same_refl l (state_by r.whole p.thread p.asked)),
      )
    ] refl met

-- as long as no exception was met, l sees the same
step_same : (l : LabelValue) (r : Runs) (p : Placed) → is_well_formed r.whole ≡ true
    → is_well_formed r.purged ≡ true → IsAgreed l r → (after l r p).exception ≡ None
    → IsSame l (after l r p).whole (after l r p).purged
step_same l r p sound sound_too h none =
    let parts = none_first r.exception (exception_at l r p) none in
    elim (is_met l r.whole r.purged p.thread)
    as (λ b. is_met l r.whole r.purged p.thread ≡ b
    → cond b (cond r.parted (when_met l r.whole r.purged p.thread p.asked) None)
    (when_hidden l r.whole p.thread p.asked) ≡ None
    → IsSame l (state_by r.whole p.thread p.asked) (cond b (state_by r.purged p.thread p.asked) r.purged)) [
      | true ↦ λ is g. (met_alike l r p sound sound_too h parts.0 g).1
      | false ↦ λ is g.
          hidden_alike l r.whole r.purged p.thread p.asked sound (h.same parts.0) is g
    ] refl parts.1

-- what is asked leads one state to one, where it is no hidden call
one_after : (a : Asked) (met : Bool) (s n : State) (t : ℕ) → n ≡ s → (is_call a && not met) ≡ false
    → cond met (state_by n t a) n ≡ state_by s t a
one_after (Write c) true s n t is h = ap (λ (z : State). next z t c) is
one_after (Write c) false s n t is h = absurd (true≢false h)
one_after (Read q) true s n t is h = is
one_after (Read q) false s n t is h = is

-- and as long as no call was hidden, the runs are one
step_one : (l : LabelValue) (r : Runs) (p : Placed) → IsAgreed l r → (after l r p).parted ≡ false
    → (after l r p).purged ≡ (after l r p).whole
step_one l r p h none =
    let parts = or_parts (is_call p.asked && not (is_met l r.whole r.purged p.thread)) r.parted none in
    one_after p.asked (is_met l r.whole r.purged p.thread) r.whole r.purged p.thread (h.one parts.1) parts.0

-- each reply that differs in a call is told, with an exception
step_told : (l : LabelValue) (r : Runs) (p : Placed) → is_well_formed r.whole ≡ true
    → is_well_formed r.purged ≡ true → IsAgreed l r → map replied_in (told l r p) ≡ replied l r.whole r.purged p
step_told l r p sound sound_too h =
    elim (is_met l r.whole r.purged p.thread)
    as (λ b. is_met l r.whole r.purged p.thread ≡ b
    → map replied_in (cond b (told_at l r p) []) ≡ cond b (replied_at r.whole r.purged p) []) [
      | true ↦ λ is. elim (same_by p.asked x y)
          as (λ b. same_by p.asked x y ≡ b
          → map replied_in (cond b [] (told_by p x y (first_of (exception_at l r p) r.exception)))
          ≡ cond b [] ((record { event = p.event; place = p.place; is_call = is_call p.asked; reply = x; otherwise = y }) ∷ [])) [
            | true ↦ λ found. refl
            | false ↦ λ found. named (first_of (exception_at l r p) r.exception)
                (λ none. both_false is found (none_first (exception_at l r p) r.exception none))
          ] refl
      | false ↦ λ is. refl
    ] refl
  where
    x : Reply
    x = reply_to r.whole p.thread p.asked

    y : Reply
    y = reply_to r.purged p.thread p.asked

    named : (c : Option Channel) → (c ≡ None → ⊥)
        → map replied_in (told_by p x y c) ≡ (record { event = p.event; place = p.place; is_call = is_call p.asked; reply = x; otherwise = y }) ∷ []
    named None g = absurd (g refl)
    named (Some c) g = refl

    both_false : is_met l r.whole r.purged p.thread ≡ true → same_by p.asked x y ≡ false
        → (exception_at l r p ≡ None) × (r.exception ≡ None) → ⊥
    both_false is found none =
        let met : cond r.parted (when_met l r.whole r.purged p.thread p.asked) None ≡ None =
        subst (λ (b : Bool). cond b (cond r.parted (when_met l r.whole r.purged p.thread p.asked) None)
        (when_hidden l r.whole p.thread p.asked) ≡ None) is none.0 in
        let alike = (met_alike l r p sound sound_too h none.1 met).0 in
        true≢false (sym (same_itself r.whole p.thread p.asked) ∙ ap (same_by p.asked x) (sym alike) ∙ found)

pub tells_all : (l : LabelValue) (r : Runs) (p : Placed) → is_well_formed r.whole ≡ true
    → is_well_formed r.purged ≡ true → TellsAll l r p
tells_all l r p sound sound_too h = (
  step_told l r p sound sound_too h,
  record { same = step_same l r p sound sound_too h; one = step_one l r p h },
)

-- two runs that are one are agreed
pub one_agreed : (l : LabelValue) (r : Runs) → r.purged ≡ r.whole → IsAgreed l r
one_agreed l r h = record {
  same = λ none. subst (λ (s : State). IsSame l r.whole s) (sym h) (same_refl l r.whole);
  one = λ none. h;
}

-- and where they begin, they begin in one state
pub one_begun : (s n : State) → n ≡ s → record { whole = s; purged = n; parted = false; exception = None } ≡ both_from s
one_begun s n h = (λ i. record { whole = s; purged = h i; parted = false; exception = None })

-- without an exception in the end, none was met, and nothing is told
pub quiet : (l : LabelValue) (r : Runs) (ps : List Placed) → exception_in l r ps ≡ None
    → (differences l r ps ≡ []) × (r.exception ≡ None)
quiet l r [] h = (refl, h)
quiet l r (p ∷ ps) h =
    let rest = quiet l (after l r p) ps h in
    let parts = none_first r.exception (exception_at l r p) rest.1 in
    (ap (λ ds. ds ++ differences l (after l r p) ps) (nothing parts) ∙ rest.0, parts.0)
  where
    nothing : (r.exception ≡ None) × (exception_at l r p ≡ None) → told l r p ≡ []
    nothing none =
        elim (is_met l r.whole r.purged p.thread) as (λ b. cond b (told_at l r p) [] ≡ []) [
          | true ↦ elim (same_by p.asked (reply_to r.whole p.thread p.asked) (reply_to r.purged p.thread p.asked))
              as (λ b. cond b [] (told_by p (reply_to r.whole p.thread p.asked) (reply_to r.purged p.thread p.asked)
              (first_of (exception_at l r p) r.exception)) ≡ []) [
                | true ↦ refl
                | false ↦
                    ap (told_by p (reply_to r.whole p.thread p.asked) (reply_to r.purged p.thread p.asked))
                    (ap (λ c. first_of c r.exception) none.1 ∙ none.0)
              ]
          | false ↦ refl
        ]

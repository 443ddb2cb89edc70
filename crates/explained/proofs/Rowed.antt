-- The findings of each call are the conditions of its row.
use Rattle.std.proofs.Common.{◌≡◌, ℕ, ◌+◌, ◌%◌, ◌++◌, Bool, true, false, not, ◌&&◌, ◌||◌, nat_lt, arith, List, [], ◌∷◌, map, refl, ap, sym, ◌∙◌, Option, Some, None, cond, ◌==◌, IsTrue, ◌↔◌, ℤ}
use Rattle.std.specs.List.{list_any}
use Rattle.std.proofs.lemmas.Bool.Decides.{nat_tests}
use Rattle.base.specs.declared.refusals.Refusal.{Refusal}
use Rattle.base.specs.Sets.{may_read, may_write}
use Rattle.kernel_rules.specs.State.{State}
use Rattle.kernel_rules.specs.Conditions.{Condition, is_shape, is_mapping, is_without_room, meets, pages_up, pages_down}
use Rattle.kernel_rules.specs.Conditions as rules
use Rattle.kernel_rules.specs.Rows.{Conditions}
use Rattle.kernel_rules.specs.Rows as rows
use Rattle.kernel_rules.specs.Step as step
use Rattle.kernel_rules.specs.Table as table
use Rattle.kernel_rules.specs.declared.calls.Call.{Call}
use Rattle.kernel_rules.specs.declared.calls.Entry.{Entry}
use Rattle.kernel_rules.specs.declared.calls.Query.{Query}
use Rattle.kernel_rules.specs.declared.objects.Mapping.{Mapping}
use Rattle.explained.specs.Parts.{condition, refuses, is_against}
use Rattle.explained.specs.Told.{asked, sum_part, room_parts, apart_parts, parts_of, told}
use Rattle.explained.specs.Laws as laws
use Rattle.explained.specs.Explained as explained
use Rattle.explained.specs.declared.parts.Part as part
use Rattle.explained.specs.declared.parts.Finding.{Finding}

or_false : (a : Bool) → (a || false) ≡ a
or_false true = refl
or_false false = refl

not_and : (a b : Bool) → (not a || not b) ≡ not (a && b)
not_and true b = refl
not_and false b = refl

and_assoc : (a b c : Bool) → ((a && b) && c) ≡ (a && (b && c))
and_assoc true b c = refl
and_assoc false b c = refl

or_assoc : (a b c : Bool) → ((a || b) || c) ≡ (a || (b || c))
or_assoc true b c = refl
or_assoc false b c = refl

asked_refuses : (b : Bool) (parts : List part.Part) → refuses (asked b parts) ≡ (b && refuses parts)
asked_refuses true parts = refl
asked_refuses false parts = refl

shape_fails : (a n : ℕ)
    → (nat_lt n 1 || (nat_lt 64 n || nat_lt 256 (a % 256 + n))) ≡ not (is_shape a n)
shape_fails a n = grind (arith, nat_tests)

mapping_fails : (slot : ℕ) (m : Mapping)
    → (nat_lt 15 slot || (nat_lt m.count 1 || (nat_lt 65536 (m.page + m.count)
    || (nat_lt 16 (m.first + m.count) || not (may_read m.rights || may_write m.rights)))))
    ≡ not (is_mapping slot m)
mapping_fails slot m = grind (arith, nat_tests)

empty_is : (n : ℕ) → nat_lt n 1 ≡ (n == 0)
empty_is n = grind (arith, nat_tests)

refuses_append : (xs ys : List part.Part) → refuses (xs ++ ys) ≡ (refuses xs || refuses ys)
refuses_append [] ys = refl
refuses_append (x ∷ xs) ys = ap (λ b. is_against x || b) (refuses_append xs ys) ∙ sym (or_assoc (is_against x) (refuses xs) (refuses ys))

room_refuses : (s : State) (t : ℕ) (e : Entry) (n : ℤ)
    → refuses (room_parts s t e n) ≡ is_without_room s t e n
room_refuses s t e n =
    refuses_append
    (asked (nat_lt 0 (pages_up n)) (sum_part s t e.container (pages_up n) ∷ []))
    (asked (nat_lt 0 (pages_down n)) (sum_part s t e.object (pages_down n) ∷ []))
    ∙ simp (asked_refuses, or_false)

apart_refuses : (i : ℕ) (m : Mapping) (others : List (Option Mapping))
    → list_any is_against (apart_parts i m others) ≡ list_any (meets m) others
apart_refuses i m [] = refl
apart_refuses i m (other ∷ others) = ap (λ b. meets m other || b) (apart_refuses (i + 1) m others)

pub parts_are_the_condition : (s : State) (t : ℕ) (c : Condition) → refuses (parts_of s t c) ≡ rules.refuses s t c
parts_are_the_condition s t rules.Halted = or_false _
parts_are_the_condition s t (rules.NotAccessible d) = simp (or_false, not_and)
parts_are_the_condition s t (rules.NotHeld e) = or_false _
parts_are_the_condition s t (rules.NotListed e) = or_false _
parts_are_the_condition s t (rules.NotLinked e) = or_false _
parts_are_the_condition s t (rules.Listed d o) = or_false _
parts_are_the_condition s t (rules.Root e) = or_false _
parts_are_the_condition s t (rules.NotOfKind k o) = or_false _
parts_are_the_condition s t (rules.OfKind k o) = or_false _
parts_are_the_condition s t (rules.NotObserved o) = or_false _
parts_are_the_condition s t (rules.NotFlowing o) = or_false _
parts_are_the_condition s t (rules.NotShown o) = simp (asked_refuses, or_false)
parts_are_the_condition s t (rules.BadLabel x) = simp (or_false)
parts_are_the_condition s t (rules.BadOrStarred x) = simp (or_false, or_assoc)
parts_are_the_condition s t (rules.BelowThread x) = or_false _
parts_are_the_condition s t (rules.OutOfRange x) = simp (or_false, not_and)
parts_are_the_condition s t (rules.OutOfClearance x y) = simp (or_false, not_and)
parts_are_the_condition s t (rules.NotClearable y) = simp (or_false, not_and)
parts_are_the_condition s t (rules.AboveClearance o) = or_false _
parts_are_the_condition s t (rules.Avoided k d) = or_false _
parts_are_the_condition s t (rules.KindAvoided d o) = or_false _
parts_are_the_condition s t (rules.Above n most) = or_false _
parts_are_the_condition s t (rules.Zero n) = or_false _ ∙ empty_is n
parts_are_the_condition s t (rules.Overfull d n) = or_false _
parts_are_the_condition s t (rules.WithoutRoom e n) = room_refuses s t e n
parts_are_the_condition s t (rules.Immutable o) = or_false _
parts_are_the_condition s t (rules.Fixed o) = or_false _
parts_are_the_condition s t (rules.NotFixed o) = or_false _
parts_are_the_condition s t rules.IdsSpent = or_false _
parts_are_the_condition s t rules.CategoriesSpent = or_false _
parts_are_the_condition s t rules.LabelFull = simp (or_false)
parts_are_the_condition s t (rules.NotShaped a n) = simp (or_false, shape_fails)
parts_are_the_condition s t (rules.NotMapping slot m) = simp (or_false, mapping_fails)
parts_are_the_condition s t (rules.Overlapping o slot m) = simp (apart_refuses)
parts_are_the_condition s t (rules.SlotEmpty o slot) = or_false _
parts_are_the_condition s t (rules.NotMapped a) = or_false _
parts_are_the_condition s t (rules.NotAllowed a right) = or_false _
parts_are_the_condition s t (rules.NotAdmitted g r q v) = simp (or_false, not_and, and_assoc)
parts_are_the_condition s t (rules.QueueFull o) = or_false _
parts_are_the_condition s t (rules.QueueEmpty o) = or_false _
parts_are_the_condition s t (rules.When b c) =
    asked_refuses b (parts_of s t c) ∙ ap (λ v. b && v) (parts_are_the_condition s t c)

told_is_the_row : (s : State) (t : ℕ) (cs : rows.Conditions) → map condition (told s t cs) ≡ rows.row_of s t cs
unfolding told
told_is_the_row s t [] = refl
told_is_the_row s t (c ∷ cs) =
    λ i. (c.0, parts_are_the_condition s t c.1 i) ∷ told_is_the_row s t cs i

pub findings_are_the_row : (s : State) (t : ℕ) (c : Call)
    → map condition (explained.explained s t c) ≡ table.halted s t ++ table.row s t c
unfolding explained.explained
findings_are_the_row s t c = told_is_the_row s t (rows.running ++ table.conditions s c)

pub query_findings_are_the_row : (s : State) (t : ℕ) (c : Query)
    → map condition (explained.query_explained s t c) ≡ table.halted s t ++ table.query_row s t c
unfolding explained.query_explained
query_findings_are_the_row s t c = told_is_the_row s t (rows.running ++ table.query_conditions s c)

pub least_is_the_refusal : (s : State) (t : ℕ) (c : Call)
    → laws.least (explained.explained s t c) ≡ table.refused s t c
unfolding table.refused
least_is_the_refusal s t c = ap rows.refusal_of (findings_are_the_row s t c)

pub least_is_the_query_refusal : (s : State) (t : ℕ) (c : Query)
    → laws.least (explained.query_explained s t c) ≡ table.query_refused s t c
unfolding table.query_refused
least_is_the_query_refusal s t c = ap rows.refusal_of (query_findings_are_the_row s t c)

none_some : (r : Refusal) (o : Option Refusal) → Some (rows.lesser_of r o) ≡ None → ⊥
none_some r o e = cc

none_holds : (fs : List Finding) → (laws.least fs ≡ None) ↔ IsTrue (laws.none_holds fs)
none_holds [] = (λ _. refl, λ _. refl)
none_holds (f ∷ fs) =
    elim (refuses f.parts)
    as (λ v. (cond v (Some (rows.lesser_of f.refusal (laws.least fs))) (laws.least fs) ≡ None)
    ↔ IsTrue (not v && laws.none_holds fs)) [
      | true ↦ (λ e. absurd (none_some f.refusal (laws.least fs) e), λ h. absurd (cc))
      | false ↦ none_holds fs
    ]

pub none_holds_where_accepted : (s : State) (t : ℕ) (c : Call)
    → (table.refused s t c ≡ None) ↔ IsTrue (laws.none_holds (explained.explained s t c))
none_holds_where_accepted s t c =
    let e = least_is_the_refusal s t c in (
      λ none. (none_holds (explained.explained s t c)).0 (e ∙ none),
      λ holds. sym e ∙ (none_holds (explained.explained s t c)).1 holds,
    )

pub none_holds_where_found : (s : State) (t : ℕ) (c : Query)
    → (table.query_refused s t c ≡ None) ↔ IsTrue (laws.none_holds (explained.query_explained s t c))
none_holds_where_found s t c =
    let e = least_is_the_query_refusal s t c in (
      λ none. (none_holds (explained.query_explained s t c)).0 (e ∙ none),
      λ holds. sym e ∙ (none_holds (explained.query_explained s t c)).1 holds,
    )

-- of the first condition and those of a call
pub made : (s : State) (t : ℕ) (c : Call) (r0 r1 r2 : Conditions) (fs : List Finding) → r0 ≡ [] → r1 ≡ r0 ++ rows.running
    → r2 ≡ r1 ++ table.conditions s c → fs ≡ told s t r2 → fs ≡ explained.explained s t c
unfolding explained.explained
made s t c r0 r1 r2 fs e0 e1 e2 e =
    e ∙ ap (told s t) (e2 ∙ ap (λ r. r ++ table.conditions s c) (e1 ∙ ap (λ r. r ++ rows.running) e0))

pub query_made : (s : State) (t : ℕ) (c : Query) (r0 r1 r2 : Conditions) (fs : List Finding) → r0 ≡ []
    → r1 ≡ r0 ++ rows.running → r2 ≡ r1 ++ table.query_conditions s c → fs ≡ told s t r2
    → fs ≡ explained.query_explained s t c
unfolding explained.query_explained
query_made s t c r0 r1 r2 fs e0 e1 e2 e =
    e ∙ ap (told s t) (e2 ∙ ap (λ r. r ++ table.query_conditions s c) (e1 ∙ ap (λ r. r ++ rows.running) e0))

pub reply_told : (s : State) (t : ℕ) (c : Call) (fs : List Finding) → fs ≡ explained.explained s t c
    → step.answer s t c ≡ step.or_refused (laws.least fs) (step.accepted s t c)
unfolding step.answer
reply_told s t c fs e =
    ap (λ r. step.or_refused r (step.accepted s t c)) (sym (ap laws.least e ∙ least_is_the_refusal s t c))

pub query_reply_told : (s : State) (t : ℕ) (c : Query) (fs : List Finding) → fs ≡ explained.query_explained s t c
    → step.query_answer s t c ≡ step.or_refused (laws.least fs) (step.found s t c)
unfolding step.query_answer
query_reply_told s t c fs e =
    ap (λ r. step.or_refused r (step.found s t c)) (sym (ap laws.least e ∙ least_is_the_query_refusal s t c))

-- The numbers of threads' last events.
use Rattle.std.proofs.Common.{◌≡◌, ℕ, ◌+◌, ◌==◌, Bool, true, false, cond, if◌then◌else◌, List, [], ◌∷◌, ◌++◌, Option, Some, None, Result, Ok, Err, OnOk, OnErr, refl, sym, ◌∙◌, ap, subst, arith}
use Rattle.std.specs.BTreeMap.{BTreeMap, get}
use Rattle.std.specs.Ordering.{nat_cmp}
use Rattle.std.proofs.lemmas.Bool.{eqb-true}
use Rattle.checkpoints.specs.Starts.{number_of}
use Rattle.checkpoints.specs.declared.checkpoints.NextNumber.{NextNumber}
use Rattle.kernel_rules.specs.Events.{Event}
use Rattle.kernel_rules.specs.History.{count}
use Rattle.kernel_rules.proofs.HistoryLaws.{count-append}
use Rattle.logged_kernel.proofs.EntryLaws.{events_among}
use Rattle.logged_kernel.specs.Entries.{among, events_of}
use Rattle.logged_kernel.specs.Numbers.{AreLast, IsLast}
use Rattle.logged_kernel.specs.ReadLines.{ReadLine}
use Rattle.logged_kernel.specs.declared.entries.Entry.{Entry}

-- an event more, of this thread or of another
one_more : (own : Bool) (old : Option ℕ) (number events first : ℕ) → (own ≡ true → number ≡ events + first) → IsLast old events first
    → IsLast (cond own (Some number) old) (events + ((if own then 1 else 0) + 0)) first
one_more true old number events first is last =
    let same : number ≡ events + first = is refl in
    omega arith
one_more false None number events first is last = omega arith
one_more false (Some n) number events first is last = omega arith

-- the map with the number of an event more
pub last_more : (first : List NextNumber) (old new : BTreeMap ℕ ℕ) (events : List Event) (e : Event) (thread number : ℕ) → e.thread ≡ thread
    → ((t : ℕ) → get nat_cmp new t ≡ cond (thread == t) (Some number) (get nat_cmp old t))
    → number ≡ count thread events + number_of first thread → AreLast first old events → AreLast first new (events ++ e ∷ [])
last_more first old new events e thread number own noted is last = λ t.
    let counted : count t (events ++ e ∷ []) ≡ count t events + ((if thread == t then 1 else 0) + 0) =
    count-append t events (e ∷ []) ∙ ap (λ s. count t events + ((if s == t then 1 else 0) + 0)) own in
    subst (λ (o : Option ℕ). IsLast o (count t (events ++ e ∷ [])) (number_of first t)) (sym (noted t))
    (subst (λ (n : ℕ). IsLast (cond (thread == t) (Some number) (get nat_cmp old t)) n (number_of first t)) (sym counted)
    (one_more (thread == t) (get nat_cmp old t) number (count t events) (number_of first t)
    (λ yes. is ∙ ap (λ s. count s events + number_of first s) (eqb-true thread t yes)) (last t)))

-- a read more, if there was memory for it, is no event
pub last_read : {A E : Type 0} (r : Result A E) (first : List NextNumber) (old new : BTreeMap ℕ ℕ) (kept more : List Entry) (l : ReadLine)
    → OnOk r (more ≡ among l kept) → OnErr r (more ≡ kept) → new ≡ old → AreLast first old (events_of kept) → AreLast first new (events_of more)
last_read (Ok x) first old new kept more l added same is last =
    subst (λ (m : BTreeMap ℕ ℕ). AreLast first m (events_of more)) (sym is)
    (subst (λ (es : List Event). AreLast first old es) (sym (ap events_of added ∙ events_among l kept)) last)
last_read (Err e) first old new kept more l added same is last =
    subst (λ (m : BTreeMap ℕ ℕ). AreLast first m (events_of more)) (sym is)
    (subst (λ (es : List Event). AreLast first old es) (sym (ap events_of same)) last)

-- the log of nothing
pub last_none : (first : List NextNumber) (last : BTreeMap ℕ ℕ) (kept : List Entry) → kept ≡ [] → AreLast first last []
    → AreLast first last (events_of kept)
last_none first last kept is none = subst (λ (es : List Entry). AreLast first last (events_of es)) (sym is) none

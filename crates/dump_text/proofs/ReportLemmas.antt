-- The replies of events.
use Rattle.std.proofs.Common.{lit<, ◌≡◌, ℕ, ◌-◌, ◌^◌, ◌<◌, ◌≤◌, true, List, [], ◌∷◌, ◌++◌, Option, Some, None, get_or, refl, ap, ap₂, ◌∙◌, sym, subst, arith, decimal}
use Rattle.std.specs.Prelude.{codes}
use Rattle.std.proofs.lemmas.List.{append-nil}
use Rattle.base.specs.declared.refusals.Refusal.{Refusal}
use Rattle.base.specs.declared.refusals.Refusal.TheVariants as refusals
use Rattle.base.specs.Refusal.{told_as}
use Rattle.kernel_rules.specs.declared.replies.Reply.{Reply}
use Rattle.kernel_rules.specs.declared.replies.Reply.TheVariants as replies
use Rattle.text_words.specs.Lacks.{lacks}
use Rattle.text_words.specs.Reading.{Reads}
use Rattle.text_words.specs.DataWord.{data_text, IsData}
use Rattle.text_words.proofs.OneLemmas.{first_part}
use Rattle.text_words.proofs.LackLemmas.{decimal_lacks, lacks-append, data_lacks}
use Rattle.text_words.proofs.WordLemmas.{data_is_one}
use Rattle.std.proofs.lemmas.Fmt.{decimal_injective}
use Rattle.call_text.specs.ReplyWord.{refusal_text}
use Rattle.text_words.proofs.PartLemmas.{not_in}
use Rattle.dump_text.specs.Report.{report_text, IsReport, IsKernels, entered_text, AreEntered}
use Rattle.dump_text.proofs.Readings.{cancel}

-- the number behind a beginning
pub number_reads : (b text digits : List ℕ) (r : Option ℕ) → text ≡ b ++ digits → Reads decimal (λ n. n ≤ 18446744073709551615) digits r → Reads (λ n. b ++ decimal n) (λ n. n < 2 ^ 64) text r
number_reads b text digits (Some n) is h = (omega (arith, h.0), is ∙ ap (λ (x : List ℕ). b ++ x) h.1)
number_reads b text digits None is h = λ n lt e. h n (omega arith) (cancel b digits (decimal n) (sym is ∙ e))

-- a number's spelling has no space
pub number_lacks : (n : ℕ) → n < 2 ^ 64 → lacks 32 (decimal n) ≡ true
number_lacks n lt = decimal_lacks 32 n (lit< tt) lt

small_refusal : (r : Refusal) → (told_as r).number < 2 ^ 64
small_refusal refusals.Halted = lit< tt
small_refusal refusals.NoAccess = lit< tt
small_refusal refusals.NoEntry = lit< tt
small_refusal refusals.WrongType = lit< tt
small_refusal refusals.CannotObserve = lit< tt
small_refusal refusals.CannotModify = lit< tt
small_refusal refusals.BadLabel = lit< tt
small_refusal refusals.LabelRange = lit< tt
small_refusal refusals.ClearanceRange = lit< tt
small_refusal refusals.LabelFull = lit< tt
small_refusal refusals.AvoidType = lit< tt
small_refusal refusals.NoQuota = lit< tt
small_refusal refusals.FixedQuota = lit< tt
small_refusal refusals.NotFixed = lit< tt
small_refusal refusals.AlreadyLinked = lit< tt
small_refusal refusals.RootKept = lit< tt
small_refusal refusals.Immutable = lit< tt
small_refusal refusals.Bounds = lit< tt
small_refusal refusals.NotMapped = lit< tt
small_refusal refusals.RightsDenied = lit< tt
small_refusal refusals.Overlap = lit< tt
small_refusal refusals.GateDenied = lit< tt
small_refusal refusals.DeviceFull = lit< tt
small_refusal refusals.DeviceEmpty = lit< tt
small_refusal refusals.Spent = lit< tt
small_refusal refusals.Unavailable = lit< tt
small_refusal refusals.BadLimits = lit< tt
small_refusal refusals.Memory = lit< tt
small_refusal refusals.SeatTaken = lit< tt
small_refusal refusals.NoThread = lit< tt
small_refusal refusals.SeatsSpent = lit< tt
small_refusal refusals.OutOfTurn = lit< tt
small_refusal refusals.BadBatch = lit< tt
small_refusal refusals.Unread = lit< tt
small_refusal refusals.TextFault = lit< tt
small_refusal refusals.TextMemory = lit< tt
small_refusal refusals.IllFormed = lit< tt
small_refusal refusals.NotFormat1 = lit< tt
small_refusal refusals.NotClean = lit< tt

-- a refusal's number ends before the space
pub refusal_first : (text number name : List ℕ) (r : Refusal) → text ≡ number ++ 32 ∷ name → lacks 32 number ≡ true → text ≡ refusal_text r → (number ≡ decimal (told_as r).number) × (name ≡ (told_as r).name)
refusal_first text number name r is lack e = first_part 32 number (decimal (told_as r).number) name (told_as r).name lack (number_lacks (told_as r).number (small_refusal r)) (sym is ∙ e)

pub refusal_none : (text : List ℕ) (r : Refusal) → lacks 32 text ≡ true → text ≡ refusal_text r → ⊥
refusal_none text r lack e = not_in 32 (decimal (told_as r).number) (told_as r).name (subst (λ (x : List ℕ). lacks 32 x ≡ true) e lack)

abbrev pub kernels : List Refusal
kernels = refusals.Halted ∷ refusals.NoAccess ∷ refusals.NoEntry ∷ refusals.WrongType ∷ refusals.CannotObserve ∷ refusals.CannotModify ∷ refusals.BadLabel ∷ refusals.LabelRange ∷ refusals.ClearanceRange ∷ refusals.LabelFull ∷ refusals.AvoidType ∷ refusals.NoQuota ∷ refusals.FixedQuota ∷ refusals.NotFixed ∷ refusals.AlreadyLinked ∷ refusals.RootKept ∷ refusals.Immutable ∷ refusals.Bounds ∷ refusals.NotMapped ∷ refusals.RightsDenied ∷ refusals.Overlap ∷ refusals.GateDenied ∷ refusals.DeviceFull ∷ refusals.DeviceEmpty ∷ refusals.Spent ∷ []

-- each refusal of a kernel stands in the table
pub listed : (r : Refusal) → IsKernels r → (k : ℕ) × (k < 25) × (get_or kernels k refusals.Halted ≡ r)
listed refusals.Halted is = (0, lit< tt, refl)
listed refusals.NoAccess is = (1, lit< tt, refl)
listed refusals.NoEntry is = (2, lit< tt, refl)
listed refusals.WrongType is = (3, lit< tt, refl)
listed refusals.CannotObserve is = (4, lit< tt, refl)
listed refusals.CannotModify is = (5, lit< tt, refl)
listed refusals.BadLabel is = (6, lit< tt, refl)
listed refusals.LabelRange is = (7, lit< tt, refl)
listed refusals.ClearanceRange is = (8, lit< tt, refl)
listed refusals.LabelFull is = (9, lit< tt, refl)
listed refusals.AvoidType is = (10, lit< tt, refl)
listed refusals.NoQuota is = (11, lit< tt, refl)
listed refusals.FixedQuota is = (12, lit< tt, refl)
listed refusals.NotFixed is = (13, lit< tt, refl)
listed refusals.AlreadyLinked is = (14, lit< tt, refl)
listed refusals.RootKept is = (15, lit< tt, refl)
listed refusals.Immutable is = (16, lit< tt, refl)
listed refusals.Bounds is = (17, lit< tt, refl)
listed refusals.NotMapped is = (18, lit< tt, refl)
listed refusals.RightsDenied is = (19, lit< tt, refl)
listed refusals.Overlap is = (20, lit< tt, refl)
listed refusals.GateDenied is = (21, lit< tt, refl)
listed refusals.DeviceFull is = (22, lit< tt, refl)
listed refusals.DeviceEmpty is = (23, lit< tt, refl)
listed refusals.Spent is = (24, lit< tt, refl)
listed refusals.Unavailable is = absurd (omega (arith, is))
listed refusals.BadLimits is = absurd (omega (arith, is))
listed refusals.Memory is = absurd (omega (arith, is))
listed refusals.SeatTaken is = absurd (omega (arith, is))
listed refusals.NoThread is = absurd (omega (arith, is))
listed refusals.SeatsSpent is = absurd (omega (arith, is))
listed refusals.OutOfTurn is = absurd (omega (arith, is))
listed refusals.BadBatch is = absurd (omega (arith, is))
listed refusals.Unread is = absurd (omega (arith, is))
listed refusals.TextFault is = absurd (omega (arith, is))
listed refusals.TextMemory is = absurd (omega (arith, is))
listed refusals.IllFormed is = absurd (omega (arith, is))
listed refusals.NotFormat1 is = absurd (omega (arith, is))
listed refusals.NotClean is = absurd (omega (arith, is))

-- the first of two numbers ends before the space
pub entered_first : (text numbers first second : List ℕ) (p : ℕ × ℕ) → AreEntered p → text ≡ codes "entered " ++ numbers → numbers ≡ first ++ 32 ∷ second → lacks 32 first ≡ true → text ≡ entered_text p → (first ≡ decimal p.0) × (second ≡ decimal p.1)
entered_first text numbers first second p is at parts lack e =
    let same = cancel (codes "entered ") numbers (decimal p.0 ++ 32 ∷ decimal p.1) (sym at ∙ e) in
    first_part 32 first (decimal p.0) second (decimal p.1) lack (number_lacks p.0 is.0) (sym parts ∙ same)

pub entered_none : (text numbers : List ℕ) (p : ℕ × ℕ) → text ≡ codes "entered " ++ numbers → lacks 32 numbers ≡ true → text ≡ entered_text p → ⊥
entered_none text numbers p at lack e =
    let same = cancel (codes "entered ") numbers (decimal p.0 ++ 32 ∷ decimal p.1) (sym at ∙ e) in
    not_in 32 (decimal p.0) (decimal p.1) (subst (λ (x : List ℕ). lacks 32 x ≡ true) same lack)

-- a text that no form of a reply spells
pub report_none : (text : List ℕ) → (text ≡ codes "ok" → ⊥) → ((n : ℕ) → n < 2 ^ 64 → text ≡ codes "cat #" ++ decimal n → ⊥) → ((n : ℕ) → n < 2 ^ 64 → text ≡ codes "id #" ++ decimal n → ⊥)
    → ((p : ℕ × ℕ) → AreEntered p → text ≡ entered_text p → ⊥) → ((d : List ℕ) → IsData d → text ≡ codes "data " ++ data_text d → ⊥) → ((r : Refusal) → IsKernels r → text ≡ codes "refused " ++ refusal_text r → ⊥)
    → (v : Reply) → IsReport v → text ≡ report_text v → ⊥
report_none text ok cat id entered data' refused replies.Done is e = ok e
report_none text ok cat id entered data' refused (replies.Category c) is e = cat c.0 is (e ∙ ap (λ (x : List ℕ). codes "cat #" ++ x) (append-nil (decimal c.0)))
report_none text ok cat id entered data' refused (replies.Object o) is e = id o is (e ∙ ap (λ (x : List ℕ). codes "id #" ++ x) (append-nil (decimal o)))
report_none text ok cat id entered data' refused (replies.Entered p q) is e = entered (p, q) is (e ∙ ap (λ (x : List ℕ). codes "entered " ++ (decimal p ++ 32 ∷ x)) (append-nil (decimal q)))
report_none text ok cat id entered data' refused (replies.Bytes d) is e = data' d is (e ∙ ap (λ (x : List ℕ). codes "data " ++ x) (append-nil (data_text d)))
report_none text ok cat id entered data' refused (replies.Own l c v s p q) is e = absurd is
report_none text ok cat id entered data' refused (replies.Label l) is e = absurd is
report_none text ok cat id entered data' refused (replies.Quota a b c d) is e = absurd is
report_none text ok cat id entered data' refused (replies.Listed n ids) is e = absurd is
report_none text ok cat id entered data' refused (replies.Parent n) is e = absurd is
report_none text ok cat id entered data' refused (replies.Pages n) is e = absurd is
report_none text ok cat id entered data' refused (replies.Mapping m) is e = absurd is
report_none text ok cat id entered data' refused (replies.Refused r) is e = refused r is (e ∙ ap (λ (x : List ℕ). codes "refused " ++ x) (append-nil (refusal_text r)))

-- a refusal by its number
refusal_again : (r : Refusal) → IsKernels r → get_or kernels ((told_as r).number - 1) refusals.Halted ≡ r
refusal_again refusals.Halted is = refl
refusal_again refusals.NoAccess is = refl
refusal_again refusals.NoEntry is = refl
refusal_again refusals.WrongType is = refl
refusal_again refusals.CannotObserve is = refl
refusal_again refusals.CannotModify is = refl
refusal_again refusals.BadLabel is = refl
refusal_again refusals.LabelRange is = refl
refusal_again refusals.ClearanceRange is = refl
refusal_again refusals.LabelFull is = refl
refusal_again refusals.AvoidType is = refl
refusal_again refusals.NoQuota is = refl
refusal_again refusals.FixedQuota is = refl
refusal_again refusals.NotFixed is = refl
refusal_again refusals.AlreadyLinked is = refl
refusal_again refusals.RootKept is = refl
refusal_again refusals.Immutable is = refl
refusal_again refusals.Bounds is = refl
refusal_again refusals.NotMapped is = refl
refusal_again refusals.RightsDenied is = refl
refusal_again refusals.Overlap is = refl
refusal_again refusals.GateDenied is = refl
refusal_again refusals.DeviceFull is = refl
refusal_again refusals.DeviceEmpty is = refl
refusal_again refusals.Spent is = refl
refusal_again refusals.Unavailable is = absurd (omega (arith, is))
refusal_again refusals.BadLimits is = absurd (omega (arith, is))
refusal_again refusals.Memory is = absurd (omega (arith, is))
refusal_again refusals.SeatTaken is = absurd (omega (arith, is))
refusal_again refusals.NoThread is = absurd (omega (arith, is))
refusal_again refusals.SeatsSpent is = absurd (omega (arith, is))
refusal_again refusals.OutOfTurn is = absurd (omega (arith, is))
refusal_again refusals.BadBatch is = absurd (omega (arith, is))
refusal_again refusals.Unread is = absurd (omega (arith, is))
refusal_again refusals.TextFault is = absurd (omega (arith, is))
refusal_again refusals.TextMemory is = absurd (omega (arith, is))
refusal_again refusals.IllFormed is = absurd (omega (arith, is))
refusal_again refusals.NotFormat1 is = absurd (omega (arith, is))
refusal_again refusals.NotClean is = absurd (omega (arith, is))

pub refusal_is_one : (a b : Refusal) → IsKernels a → IsKernels b → refusal_text a ≡ refusal_text b → a ≡ b
refusal_is_one a b ia ib e =
    let p = refusal_first (refusal_text a) (decimal (told_as a).number) (told_as a).name b refl (number_lacks (told_as a).number (small_refusal a)) e in
    let n : (told_as a).number ≡ (told_as b).number = decimal_injective (told_as a).number (told_as b).number (small_refusal a) (small_refusal b) p.0 in
    sym (refusal_again a ia) ∙ ap (λ (k : ℕ). get_or kernels (k - 1) refusals.Halted) n ∙ refusal_again b ib

name_lacks_end : (r : Refusal) → lacks 10 (told_as r).name ≡ true
name_lacks_end refusals.Halted = refl
name_lacks_end refusals.NoAccess = refl
name_lacks_end refusals.NoEntry = refl
name_lacks_end refusals.WrongType = refl
name_lacks_end refusals.CannotObserve = refl
name_lacks_end refusals.CannotModify = refl
name_lacks_end refusals.BadLabel = refl
name_lacks_end refusals.LabelRange = refl
name_lacks_end refusals.ClearanceRange = refl
name_lacks_end refusals.LabelFull = refl
name_lacks_end refusals.AvoidType = refl
name_lacks_end refusals.NoQuota = refl
name_lacks_end refusals.FixedQuota = refl
name_lacks_end refusals.NotFixed = refl
name_lacks_end refusals.AlreadyLinked = refl
name_lacks_end refusals.RootKept = refl
name_lacks_end refusals.Immutable = refl
name_lacks_end refusals.Bounds = refl
name_lacks_end refusals.NotMapped = refl
name_lacks_end refusals.RightsDenied = refl
name_lacks_end refusals.Overlap = refl
name_lacks_end refusals.GateDenied = refl
name_lacks_end refusals.DeviceFull = refl
name_lacks_end refusals.DeviceEmpty = refl
name_lacks_end refusals.Spent = refl
name_lacks_end refusals.Unavailable = refl
name_lacks_end refusals.BadLimits = refl
name_lacks_end refusals.Memory = refl
name_lacks_end refusals.SeatTaken = refl
name_lacks_end refusals.NoThread = refl
name_lacks_end refusals.SeatsSpent = refl
name_lacks_end refusals.OutOfTurn = refl
name_lacks_end refusals.BadBatch = refl
name_lacks_end refusals.Unread = refl
name_lacks_end refusals.TextFault = refl
name_lacks_end refusals.TextMemory = refl
name_lacks_end refusals.IllFormed = refl
name_lacks_end refusals.NotFormat1 = refl
name_lacks_end refusals.NotClean = refl

pub refusal_lacks_end : (r : Refusal) → lacks 10 (refusal_text r) ≡ true
refusal_lacks_end r = lacks-append 10 (decimal (told_as r).number) (32 ∷ (told_as r).name) (decimal_lacks 10 (told_as r).number (lit< tt) (small_refusal r)) (name_lacks_end r)

bare : (xs ys : List ℕ) → xs ++ [] ≡ ys ++ [] → xs ≡ ys
bare xs ys e = sym (append-nil xs) ∙ e ∙ append-nil ys

-- no line's end stands in a reply
pub report_lacks_end : (r : Reply) → IsReport r → lacks 10 (report_text r) ≡ true
report_lacks_end replies.Done is = refl
report_lacks_end (replies.Category c) is = lacks-append 10 (decimal c.0) [] (decimal_lacks 10 c.0 (lit< tt) is) refl
report_lacks_end (replies.Object o) is = lacks-append 10 (decimal o) [] (decimal_lacks 10 o (lit< tt) is) refl
report_lacks_end (replies.Entered p q) is = lacks-append 10 (decimal p) (32 ∷ (decimal q ++ [])) (decimal_lacks 10 p (lit< tt) is.0) (lacks-append 10 (decimal q) [] (decimal_lacks 10 q (lit< tt) is.1) refl)
report_lacks_end (replies.Bytes d) is = lacks-append 10 (data_text d) [] (data_lacks 10 d refl is) refl
report_lacks_end (replies.Refused r) is = lacks-append 10 (refusal_text r) [] (refusal_lacks_end r) refl
report_lacks_end (replies.Own l c v s p q) is = absurd is
report_lacks_end (replies.Label l) is = absurd is
report_lacks_end (replies.Quota a b c d) is = absurd is
report_lacks_end (replies.Listed n ids) is = absurd is
report_lacks_end (replies.Parent n) is = absurd is
report_lacks_end (replies.Pages n) is = absurd is
report_lacks_end (replies.Mapping m) is = absurd is

-- no two replies have one spelling
pub report_is_one : (a b : Reply) → IsReport a → IsReport b → report_text a ≡ report_text b → a ≡ b
report_is_one replies.Done replies.Done ia ib e = refl
report_is_one replies.Done (replies.Category c') ia ib e = absurd (let h : ◌≡◌ {A = ℕ} 111 99 = ap (λ (x : List ℕ). get_or x 0 0) e in omega (arith, h))
report_is_one replies.Done (replies.Object o') ia ib e = absurd (let h : ◌≡◌ {A = ℕ} 111 105 = ap (λ (x : List ℕ). get_or x 0 0) e in omega (arith, h))
report_is_one replies.Done (replies.Entered p' q') ia ib e = absurd (let h : ◌≡◌ {A = ℕ} 111 101 = ap (λ (x : List ℕ). get_or x 0 0) e in omega (arith, h))
report_is_one replies.Done (replies.Bytes d') ia ib e = absurd (let h : ◌≡◌ {A = ℕ} 111 100 = ap (λ (x : List ℕ). get_or x 0 0) e in omega (arith, h))
report_is_one replies.Done (replies.Refused r') ia ib e = absurd (let h : ◌≡◌ {A = ℕ} 111 114 = ap (λ (x : List ℕ). get_or x 0 0) e in omega (arith, h))
report_is_one replies.Done (replies.Own l' c' v' s' p' q') ia ib e = absurd ib
report_is_one replies.Done (replies.Label l') ia ib e = absurd ib
report_is_one replies.Done (replies.Quota a' b' c' d') ia ib e = absurd ib
report_is_one replies.Done (replies.Listed n' ids') ia ib e = absurd ib
report_is_one replies.Done (replies.Parent n') ia ib e = absurd ib
report_is_one replies.Done (replies.Pages n') ia ib e = absurd ib
report_is_one replies.Done (replies.Mapping m') ia ib e = absurd ib
report_is_one (replies.Category c) replies.Done ia ib e = absurd (let h : ◌≡◌ {A = ℕ} 99 111 = ap (λ (x : List ℕ). get_or x 0 0) e in omega (arith, h))
report_is_one (replies.Category c) (replies.Category c') ia ib e = (let n = decimal_injective c.0 c'.0 ia ib (bare (decimal c.0) (decimal c'.0) (cancel (codes "cat #") (decimal c.0 ++ []) (decimal c'.0 ++ []) e)) in (λ i. replies.Category (record { 0 = n i })))
report_is_one (replies.Category c) (replies.Object o') ia ib e = absurd (let h : ◌≡◌ {A = ℕ} 99 105 = ap (λ (x : List ℕ). get_or x 0 0) e in omega (arith, h))
report_is_one (replies.Category c) (replies.Entered p' q') ia ib e = absurd (let h : ◌≡◌ {A = ℕ} 99 101 = ap (λ (x : List ℕ). get_or x 0 0) e in omega (arith, h))
report_is_one (replies.Category c) (replies.Bytes d') ia ib e = absurd (let h : ◌≡◌ {A = ℕ} 99 100 = ap (λ (x : List ℕ). get_or x 0 0) e in omega (arith, h))
report_is_one (replies.Category c) (replies.Refused r') ia ib e = absurd (let h : ◌≡◌ {A = ℕ} 99 114 = ap (λ (x : List ℕ). get_or x 0 0) e in omega (arith, h))
report_is_one (replies.Category c) (replies.Own l' c' v' s' p' q') ia ib e = absurd ib
report_is_one (replies.Category c) (replies.Label l') ia ib e = absurd ib
report_is_one (replies.Category c) (replies.Quota a' b' c' d') ia ib e = absurd ib
report_is_one (replies.Category c) (replies.Listed n' ids') ia ib e = absurd ib
report_is_one (replies.Category c) (replies.Parent n') ia ib e = absurd ib
report_is_one (replies.Category c) (replies.Pages n') ia ib e = absurd ib
report_is_one (replies.Category c) (replies.Mapping m') ia ib e = absurd ib
report_is_one (replies.Object o) replies.Done ia ib e = absurd (let h : ◌≡◌ {A = ℕ} 105 111 = ap (λ (x : List ℕ). get_or x 0 0) e in omega (arith, h))
report_is_one (replies.Object o) (replies.Category c') ia ib e = absurd (let h : ◌≡◌ {A = ℕ} 105 99 = ap (λ (x : List ℕ). get_or x 0 0) e in omega (arith, h))
report_is_one (replies.Object o) (replies.Object o') ia ib e = ap replies.Object (decimal_injective o o' ia ib (bare (decimal o) (decimal o') (cancel (codes "id #") (decimal o ++ []) (decimal o' ++ []) e)))
report_is_one (replies.Object o) (replies.Entered p' q') ia ib e = absurd (let h : ◌≡◌ {A = ℕ} 105 101 = ap (λ (x : List ℕ). get_or x 0 0) e in omega (arith, h))
report_is_one (replies.Object o) (replies.Bytes d') ia ib e = absurd (let h : ◌≡◌ {A = ℕ} 105 100 = ap (λ (x : List ℕ). get_or x 0 0) e in omega (arith, h))
report_is_one (replies.Object o) (replies.Refused r') ia ib e = absurd (let h : ◌≡◌ {A = ℕ} 105 114 = ap (λ (x : List ℕ). get_or x 0 0) e in omega (arith, h))
report_is_one (replies.Object o) (replies.Own l' c' v' s' p' q') ia ib e = absurd ib
report_is_one (replies.Object o) (replies.Label l') ia ib e = absurd ib
report_is_one (replies.Object o) (replies.Quota a' b' c' d') ia ib e = absurd ib
report_is_one (replies.Object o) (replies.Listed n' ids') ia ib e = absurd ib
report_is_one (replies.Object o) (replies.Parent n') ia ib e = absurd ib
report_is_one (replies.Object o) (replies.Pages n') ia ib e = absurd ib
report_is_one (replies.Object o) (replies.Mapping m') ia ib e = absurd ib
report_is_one (replies.Entered p q) replies.Done ia ib e = absurd (let h : ◌≡◌ {A = ℕ} 101 111 = ap (λ (x : List ℕ). get_or x 0 0) e in omega (arith, h))
report_is_one (replies.Entered p q) (replies.Category c') ia ib e = absurd (let h : ◌≡◌ {A = ℕ} 101 99 = ap (λ (x : List ℕ). get_or x 0 0) e in omega (arith, h))
report_is_one (replies.Entered p q) (replies.Object o') ia ib e = absurd (let h : ◌≡◌ {A = ℕ} 101 105 = ap (λ (x : List ℕ). get_or x 0 0) e in omega (arith, h))
report_is_one (replies.Entered p q) (replies.Entered p' q') ia ib e = (let f = first_part 32 (decimal p) (decimal p') (decimal q ++ []) (decimal q' ++ []) (number_lacks p ia.0) (number_lacks p' ib.0) (cancel (codes "entered ") (decimal p ++ 32 ∷ (decimal q ++ [])) (decimal p' ++ 32 ∷ (decimal q' ++ [])) e) in ap₂ replies.Entered (decimal_injective p p' ia.0 ib.0 f.0) (decimal_injective q q' ia.1 ib.1 (bare (decimal q) (decimal q') f.1)))
report_is_one (replies.Entered p q) (replies.Bytes d') ia ib e = absurd (let h : ◌≡◌ {A = ℕ} 101 100 = ap (λ (x : List ℕ). get_or x 0 0) e in omega (arith, h))
report_is_one (replies.Entered p q) (replies.Refused r') ia ib e = absurd (let h : ◌≡◌ {A = ℕ} 101 114 = ap (λ (x : List ℕ). get_or x 0 0) e in omega (arith, h))
report_is_one (replies.Entered p q) (replies.Own l' c' v' s' p' q') ia ib e = absurd ib
report_is_one (replies.Entered p q) (replies.Label l') ia ib e = absurd ib
report_is_one (replies.Entered p q) (replies.Quota a' b' c' d') ia ib e = absurd ib
report_is_one (replies.Entered p q) (replies.Listed n' ids') ia ib e = absurd ib
report_is_one (replies.Entered p q) (replies.Parent n') ia ib e = absurd ib
report_is_one (replies.Entered p q) (replies.Pages n') ia ib e = absurd ib
report_is_one (replies.Entered p q) (replies.Mapping m') ia ib e = absurd ib
report_is_one (replies.Bytes d) replies.Done ia ib e = absurd (let h : ◌≡◌ {A = ℕ} 100 111 = ap (λ (x : List ℕ). get_or x 0 0) e in omega (arith, h))
report_is_one (replies.Bytes d) (replies.Category c') ia ib e = absurd (let h : ◌≡◌ {A = ℕ} 100 99 = ap (λ (x : List ℕ). get_or x 0 0) e in omega (arith, h))
report_is_one (replies.Bytes d) (replies.Object o') ia ib e = absurd (let h : ◌≡◌ {A = ℕ} 100 105 = ap (λ (x : List ℕ). get_or x 0 0) e in omega (arith, h))
report_is_one (replies.Bytes d) (replies.Entered p' q') ia ib e = absurd (let h : ◌≡◌ {A = ℕ} 100 101 = ap (λ (x : List ℕ). get_or x 0 0) e in omega (arith, h))
report_is_one (replies.Bytes d) (replies.Bytes d') ia ib e = ap replies.Bytes (data_is_one d d' ia ib (bare (data_text d) (data_text d') (cancel (codes "data ") (data_text d ++ []) (data_text d' ++ []) e)))
report_is_one (replies.Bytes d) (replies.Refused r') ia ib e = absurd (let h : ◌≡◌ {A = ℕ} 100 114 = ap (λ (x : List ℕ). get_or x 0 0) e in omega (arith, h))
report_is_one (replies.Bytes d) (replies.Own l' c' v' s' p' q') ia ib e = absurd ib
report_is_one (replies.Bytes d) (replies.Label l') ia ib e = absurd ib
report_is_one (replies.Bytes d) (replies.Quota a' b' c' d') ia ib e = absurd ib
report_is_one (replies.Bytes d) (replies.Listed n' ids') ia ib e = absurd ib
report_is_one (replies.Bytes d) (replies.Parent n') ia ib e = absurd ib
report_is_one (replies.Bytes d) (replies.Pages n') ia ib e = absurd ib
report_is_one (replies.Bytes d) (replies.Mapping m') ia ib e = absurd ib
report_is_one (replies.Refused r) replies.Done ia ib e = absurd (let h : ◌≡◌ {A = ℕ} 114 111 = ap (λ (x : List ℕ). get_or x 0 0) e in omega (arith, h))
report_is_one (replies.Refused r) (replies.Category c') ia ib e = absurd (let h : ◌≡◌ {A = ℕ} 114 99 = ap (λ (x : List ℕ). get_or x 0 0) e in omega (arith, h))
report_is_one (replies.Refused r) (replies.Object o') ia ib e = absurd (let h : ◌≡◌ {A = ℕ} 114 105 = ap (λ (x : List ℕ). get_or x 0 0) e in omega (arith, h))
report_is_one (replies.Refused r) (replies.Entered p' q') ia ib e = absurd (let h : ◌≡◌ {A = ℕ} 114 101 = ap (λ (x : List ℕ). get_or x 0 0) e in omega (arith, h))
report_is_one (replies.Refused r) (replies.Bytes d') ia ib e = absurd (let h : ◌≡◌ {A = ℕ} 114 100 = ap (λ (x : List ℕ). get_or x 0 0) e in omega (arith, h))
report_is_one (replies.Refused r) (replies.Refused r') ia ib e = ap replies.Refused (refusal_is_one r r' ia ib (bare (refusal_text r) (refusal_text r') (cancel (codes "refused ") (refusal_text r ++ []) (refusal_text r' ++ []) e)))
report_is_one (replies.Refused r) (replies.Own l' c' v' s' p' q') ia ib e = absurd ib
report_is_one (replies.Refused r) (replies.Label l') ia ib e = absurd ib
report_is_one (replies.Refused r) (replies.Quota a' b' c' d') ia ib e = absurd ib
report_is_one (replies.Refused r) (replies.Listed n' ids') ia ib e = absurd ib
report_is_one (replies.Refused r) (replies.Parent n') ia ib e = absurd ib
report_is_one (replies.Refused r) (replies.Pages n') ia ib e = absurd ib
report_is_one (replies.Refused r) (replies.Mapping m') ia ib e = absurd ib
report_is_one (replies.Own l c v s p q) b ia ib e = absurd ia
report_is_one (replies.Label l) b ia ib e = absurd ia
report_is_one (replies.Quota q u f i) b ia ib e = absurd ia
report_is_one (replies.Listed n ids) b ia ib e = absurd ia
report_is_one (replies.Parent n) b ia ib e = absurd ia
report_is_one (replies.Pages n) b ia ib e = absurd ia
report_is_one (replies.Mapping m) b ia ib e = absurd ia

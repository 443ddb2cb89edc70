-- What an answer tells.
use Rattle.std.specs.Prelude.{◌≡◌, ℕ, List, [], ◌∷◌, length, take, Bool, true, false, Some, None}
use Rattle.base.specs.Refusal.{told_as}
use Rattle.kernel_rules.specs.declared.replies.Reply.{Reply}
use Rattle.kernel_rules.specs.declared.replies.Reply.TheVariants as replies
use Rattle.label_lattice.specs.Label.{LabelValue}
use Rattle.label_lattice.specs.Raw.{raw_of}
use Rattle.call_records.specs.declared.records.Answer.{Answer}
use Rattle.call_records.specs.declared.records.LabelRecord.{LabelRecord}
use Rattle.call_records.specs.Labels.{label_of}

-- the number of the refusal, 0 for none
abbrev pub refusal_number : Reply → ℕ
refusal_number (replies.Refused r) = (told_as r).number
refusal_number replies.Done = 0
refusal_number (replies.Category c) = 0
refusal_number (replies.Object o) = 0
refusal_number (replies.Entered e c) = 0
refusal_number (replies.Bytes b) = 0
refusal_number (replies.Own l c v s e d) = 0
refusal_number (replies.Label l) = 0
refusal_number (replies.Quota q u f i) = 0
refusal_number (replies.Listed n ids) = 0
refusal_number (replies.Parent o) = 0
refusal_number (replies.Pages p) = 0
refusal_number (replies.Mapping m) = 0

-- the answer has this number of a reply, and begins with these numbers
abbrev pub Has : ℕ → List ℕ → Answer → Type 0
Has reply numbers a = (a.reply ≡ reply) × (take (length numbers) a.numbers ≡ numbers)

-- the record is of this label
abbrev pub IsOf : LabelValue → LabelRecord → Type 0
IsOf l r = label_of r ≡ Some (raw_of l)

-- 1 for true
abbrev pub bit : Bool → ℕ
bit true = 1
bit false = 0

-- the answer tells the reply
abbrev pub Tells : Reply → Answer → Type 0
Tells replies.Done a = Has 0 [] a
Tells (replies.Category c) a = Has 1 (c.0 ∷ []) a
Tells (replies.Object o) a = Has 2 (o ∷ []) a
Tells (replies.Entered entry_point closure) a = Has 3 (entry_point ∷ closure ∷ []) a
Tells (replies.Bytes b) a = Has 4 [] a × (a.len ≡ length b) × (take (length b) a.bytes ≡ b)
Tells (replies.Own l c v s entry_point closure) a =
    Has 5 (s.container ∷ s.object ∷ entry_point ∷ closure ∷ []) a
    × IsOf l a.label × IsOf c a.clearance × IsOf v a.verify
Tells (replies.Label l) a = Has 6 [] a × IsOf l a.label
Tells (replies.Quota quota used fixed immutable) a =
    Has 7 (quota ∷ used ∷ bit fixed ∷ bit immutable ∷ []) a
Tells (replies.Listed count ids) a = Has 8 (count ∷ ids) a × (a.len ≡ length ids)
Tells (replies.Parent o) a = Has 9 (o ∷ []) a
Tells (replies.Pages p) a = Has 10 (p ∷ []) a
Tells (replies.Mapping None) a = Has 11 [] a × (a.len ≡ 0)
Tells (replies.Mapping (Some m)) a =
    Has 11
    (m.page ∷ m.entry.container ∷ m.entry.object ∷ m.first ∷ m.count ∷ bit m.rights.read
    ∷ bit m.rights.write ∷ [])
    a
    × (a.len ≡ 1)
Tells (replies.Refused r) a = Has 12 ((told_as r).number ∷ []) a

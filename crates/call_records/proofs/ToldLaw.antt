-- One answer tells one reply.
use Rattle.std.proofs.Common.{◌≡◌, ℕ, suc, ◌∷◌, length, take, Bool, true, false, Some, None, refl, sym, ap, ◌∙◌, arith}
use Rattle.base.specs.Refusal.{told_as}
use Rattle.kernel_rules.specs.declared.replies.Reply.{Reply}
use Rattle.kernel_rules.specs.declared.replies.Reply.TheVariants as replies
use Rattle.label_lattice.specs.Label.{LabelValue}
use Rattle.label_lattice.specs.Raw.{raw_of}
use Rattle.label_lattice.specs.declared.raw_labels.RawLabel.{RawLabel}
use Rattle.call_records.specs.declared.records.Answer.{Answer}
use Rattle.call_records.specs.declared.records.LabelRecord.{LabelRecord}
use Rattle.call_records.specs.Told.{Tells, IsOf, bit}
use Rattle.call_records.proofs.RefusalLaw.{same_refusal}

-- the number of a reply
kind : Reply → ℕ
kind replies.Done = 0
kind (replies.Category c) = 1
kind (replies.Object o) = 2
kind (replies.Entered e c) = 3
kind (replies.Bytes b) = 4
kind (replies.Own l c v s e d) = 5
kind (replies.Label l) = 6
kind (replies.Quota q u f i) = 7
kind (replies.Listed n ids) = 8
kind (replies.Parent o) = 9
kind (replies.Pages p) = 10
kind (replies.Mapping m) = 11
kind (replies.Refused r) = 12

-- an answer has the number of the reply that it tells
has_kind : (r : Reply) (a : Answer) → Tells r a → a.reply ≡ kind r
unfolding kind
has_kind replies.Done a t = t.0
has_kind (replies.Category c) a t = t.0
has_kind (replies.Object o) a t = t.0
has_kind (replies.Entered e c) a t = t.0
has_kind (replies.Bytes b) a t = t.0.0
has_kind (replies.Own l c v s e d) a t = t.0.0
has_kind (replies.Label l) a t = t.0.0
has_kind (replies.Quota q u f i) a t = t.0
has_kind (replies.Listed n ids) a t = t.0.0
has_kind (replies.Parent o) a t = t.0
has_kind (replies.Pages p) a t = t.0
has_kind (replies.Mapping None) a t = t.0.0
has_kind (replies.Mapping (Some m)) a t = t.0.0
has_kind (replies.Refused r) a t = t.0

-- a bit is that of one value
same_bit : (f g : Bool) → bit f ≡ bit g → f ≡ g
same_bit true true e = refl
same_bit true false e = cc
same_bit false true e = cc
same_bit false false e = refl

-- the label that a raw label came from
abbrev from_raw : RawLabel → LabelValue
from_raw raw = record { default_level = raw.default; exceptions = raw.pairs }

-- a record is of one label
same_label : (l m : LabelValue) (r : LabelRecord) → IsOf l r → IsOf m r → l ≡ m
same_label l m r t u =
    let e : raw_of l ≡ raw_of m = cc in ap from_raw e

-- one answer tells one reply
pub one_reply : (r s : Reply) (a : Answer) → Tells r a → Tells s a → r ≡ s
unfolding kind
one_reply replies.Done replies.Done a t u = refl
one_reply (replies.Category c) (replies.Category d) a t u =
    let e : c.0 ≡ d.0 = cc in ap (λ n. replies.Category (record { 0 = n })) e
one_reply (replies.Object o) (replies.Object p) a t u = let e : o ≡ p = cc in ap replies.Object e
one_reply (replies.Entered e c) (replies.Entered f d) a t u =
    let h : e ≡ f = cc in let k : c ≡ d = cc in cc
one_reply (replies.Bytes b) (replies.Bytes c) a t u =
    let n : length b ≡ length c = sym t.1 ∙ u.1 in
    ap replies.Bytes (sym t.2 ∙ (ap (λ k. take k a.bytes) n ∙ u.2))
one_reply (replies.Own l c v s e d) (replies.Own m x w z f g) a t u =
    let ll : l ≡ m = same_label l m a.label t.1 u.1 in
    let cl : c ≡ x = same_label c x a.clearance t.2 u.2 in
    let vl : v ≡ w = same_label v w a.verify t.3 u.3 in
    let sc : s.container ≡ z.container = cc in
    let so : s.object ≡ z.object = cc in
    let ee : e ≡ f = cc in
    let de : d ≡ g = cc in
    let se : s ≡ z = λ i. record { container = sc i; object = so i } in
    cc
one_reply (replies.Label l) (replies.Label m) a t u =
    ap replies.Label (same_label l m a.label t.1 u.1)
one_reply (replies.Quota q w f i) (replies.Quota r x g j) a t u =
    let qe : q ≡ r = cc in
    let we : w ≡ x = cc in
    let bf : bit f ≡ bit g = cc in
    let bi : bit i ≡ bit j = cc in
    let fe = same_bit f g bf in
    let ie = same_bit i j bi in
    cc
one_reply (replies.Listed n ids) (replies.Listed m others) a t u =
    let len : length ids ≡ length others = sym t.1 ∙ u.1 in
    let e : n ∷ ids ≡ m ∷ others = sym t.0.1 ∙ (ap (λ k. take (suc k) a.numbers) len ∙ u.0.1) in
    cc
one_reply (replies.Parent o) (replies.Parent p) a t u = let e : o ≡ p = cc in ap replies.Parent e
one_reply (replies.Pages o) (replies.Pages p) a t u = let e : o ≡ p = cc in ap replies.Pages e
one_reply (replies.Mapping None) (replies.Mapping None) a t u = refl
one_reply (replies.Mapping None) (replies.Mapping (Some m)) a t u = absurd (omega arith)
one_reply (replies.Mapping (Some m)) (replies.Mapping None) a t u = absurd (omega arith)
one_reply (replies.Mapping (Some m)) (replies.Mapping (Some n)) a t u =
    let page : m.page ≡ n.page = cc in
    let container : m.entry.container ≡ n.entry.container = cc in
    let object : m.entry.object ≡ n.entry.object = cc in
    let first : m.first ≡ n.first = cc in
    let count : m.count ≡ n.count = cc in
    let read : bit m.rights.read ≡ bit n.rights.read = cc in
    let write : bit m.rights.write ≡ bit n.rights.write = cc in
    λ i. replies.Mapping (Some (record {
      page = page i;
      entry = record { container = container i; object = object i };
      first = first i;
      count = count i;
      rights = record {
        read = same_bit m.rights.read n.rights.read read i;
        write = same_bit m.rights.write n.rights.write write i;
      };
    }))
one_reply (replies.Refused r) (replies.Refused s) a t u =
    let e : (told_as r).number ≡ (told_as s).number = cc in ap replies.Refused (same_refusal r s e)
one_reply r s a t u =
    let e : kind r ≡ kind s = sym (has_kind r a t) ∙ has_kind s a u in absurd (omega arith)

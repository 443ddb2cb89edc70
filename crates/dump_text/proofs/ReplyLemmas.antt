-- The replies of queries: no two have one spelling, and none holds a line's end.
use Rattle.std.proofs.Common.{lit<, ◌≡◌, ℕ, zero, suc, ◌≤◌, true, List, [], ◌∷◌, ◌++◌, length, map, take, replicate, get_or, ◌<◌, ◌+◌, Option, Some, None, inl, inr, refl, ap, ap₂, ◌∙◌, sym, subst, arith, decimal}
use Rattle.std.specs.Prelude.{codes}
use Rattle.std.specs.List.{AllByRecursion}
use Rattle.std.proofs.lemmas.Bool.Decides.{eqb_tells}
use Rattle.text_words.specs.Lacks.{lacks}
use Rattle.text_words.specs.Reading.{Reads}
use Rattle.text_words.proofs.ReadLemmas.{read_is, read_not}
use Rattle.dump_text.specs.Allowed.{AreAllowed}
use Rattle.text_words.proofs.LackLemmas.{lacks-append}
use Rattle.text_words.proofs.PartLemmas.{not_in}
use Rattle.text_words.specs.declared.spoken_calls.args.ArgKind.{ArgKind}
use Rattle.text_words.specs.declared.spoken_calls.args.ArgKind.TheVariants as kinds
use Rattle.text_words.specs.declared.spoken_calls.args.Arg.{Arg}
use Rattle.text_words.specs.Arg.{arg_text, kind_of, FitsArg}
use Rattle.text_words.specs.Spoken.{AreArgs}
use Rattle.text_words.proofs.SpokenLemmas.{args_are_one, arguments_split}
use Rattle.call_text.specs.ReplyWord.{refusal_text}
use Rattle.kernel_rules.specs.declared.objects.Mapping.{Mapping}
use Rattle.dump_text.specs.declared.read_replies.OwnReply.{OwnReply}
use Rattle.dump_text.specs.declared.read_replies.LabelReply.{LabelReply}
use Rattle.dump_text.specs.declared.read_replies.QuotaReply.{QuotaReply}
use Rattle.dump_text.specs.declared.read_replies.ListReply.{ListReply}
use Rattle.dump_text.specs.declared.read_replies.ParentReply.{ParentReply}
use Rattle.dump_text.specs.declared.read_replies.PagesReply.{PagesReply}
use Rattle.dump_text.specs.declared.read_replies.ReadReply.{ReadReply}
use Rattle.dump_text.specs.declared.read_replies.ReadReply.TheVariants as raw
use Rattle.dump_text.specs.declared.words.Word.TheVariants as words
use Rattle.dump_text.specs.Head.{flag_of}
use Rattle.dump_text.specs.ReadReply.{own_words, shown_words, quota_words, listed_words, parent_words, pages_words, mapped_words, own_kinds, shown_kinds, quota_kinds, listed_kinds, parent_kinds, pages_kinds, mapped_kinds, HasFew, read_reply_text, IsReadReply}
use Rattle.dump_text.specs.StateLine.{packet_words, packet_kinds}
use Rattle.dump_text.specs.Word.{arg_of, args_of, words_text, spoken_label}
use Rattle.dump_text.proofs.HeadLemmas.{words_lack_end, words_same, raw_is_one, flag_is_one, apart}
use Rattle.dump_text.proofs.Readings.{cancel}
use Rattle.dump_text.proofs.ReportLemmas.{refusal_is_one, refusal_lacks_end}
use Rattle.dump_text.proofs.StateLemmas.{mark, packet_is_one}
use Rattle.dump_text.proofs.WordLemmas.{words_fit}

own_is_one : (a b : OwnReply) → args_of (own_words a) ≡ args_of (own_words b) → a ≡ b
own_is_one a b e =
    let l : spoken_label a.label ≡ spoken_label b.label = cc in
    let k : spoken_label a.thread.clearance ≡ spoken_label b.thread.clearance = cc in
    let v : spoken_label a.thread.verify ≡ spoken_label b.thread.verify = cc in
    let d : a.thread.space.container ≡ b.thread.space.container = cc in
    let o : a.thread.space.object ≡ b.thread.space.object = cc in
    let p : a.thread.entry_point ≡ b.thread.entry_point = cc in
    let x : a.thread.closure ≡ b.thread.closure = cc in
    let l' = raw_is_one a.label b.label l in
    let k' = raw_is_one a.thread.clearance b.thread.clearance k in
    let v' = raw_is_one a.thread.verify b.thread.verify v in
    (λ i. record {
      label = l' i;
      thread = record {
        clearance = k' i;
        verify = v' i;
        space = record { container = d i; object = o i };
        entry_point = p i;
        closure = x i;
      };
    })

shown_is_one : (a b : LabelReply) → args_of (shown_words a) ≡ args_of (shown_words b) → a ≡ b
shown_is_one a b e =
    let l : spoken_label a.label ≡ spoken_label b.label = cc in
    let l' = raw_is_one a.label b.label l in
    (λ i. record { label = l' i })

quota_is_one : (a b : QuotaReply) → args_of (quota_words a) ≡ args_of (quota_words b) → a ≡ b
quota_is_one a b e =
    let q : a.quota ≡ b.quota = cc in
    let u : a.used ≡ b.used = cc in
    let f : flag_of a.fixed ≡ flag_of b.fixed = cc in
    let g : flag_of a.immutable ≡ flag_of b.immutable = cc in
    let f' = flag_is_one a.fixed b.fixed f in
    let g' = flag_is_one a.immutable b.immutable g in
    (λ i. record { quota = q i; used = u i; fixed = f' i; immutable = g' i })

ids_are_one : (xs ys : List ℕ) → args_of (map words.Object xs) ≡ args_of (map words.Object ys) → xs ≡ ys
ids_are_one [] [] e = refl
ids_are_one [] (y ∷ ys) e = absurd cc
ids_are_one (x ∷ xs) [] e = absurd cc
ids_are_one (x ∷ xs) (y ∷ ys) e =
    let h : x ≡ y = cc in
    let t : args_of (map words.Object xs) ≡ args_of (map words.Object ys) = cc in
    ap₂ (λ (z : ℕ) (zs : List ℕ). z ∷ zs) h (ids_are_one xs ys t)

parent_is_one : (a b : ParentReply) → args_of (parent_words a) ≡ args_of (parent_words b) → a ≡ b
parent_is_one a b e = let c : a.container ≡ b.container = cc in (λ i. record { container = c i })

pages_are_one : (a b : PagesReply) → args_of (pages_words a) ≡ args_of (pages_words b) → a ≡ b
pages_are_one a b e = let p : a.pages ≡ b.pages = cc in (λ i. record { pages = p i })

mapped_is_one : (a b : Mapping) → args_of (mapped_words a) ≡ args_of (mapped_words b) → a ≡ b
mapped_is_one a b e =
    let p : a.page ≡ b.page = cc in
    let d : a.entry.container ≡ b.entry.container = cc in
    let o : a.entry.object ≡ b.entry.object = cc in
    let f : a.first ≡ b.first = cc in
    let c : a.count ≡ b.count = cc in
    let r : a.rights ≡ b.rights = cc in
    (λ i. record {
      page = p i;
      entry = record { container = d i; object = o i };
      first = f i;
      count = c i;
      rights = r i;
    })

-- ids have the kinds of ids, whatever kinds they were read as
ids_fit : (ks : List ArgKind) (ids : List ℕ) → AreArgs ks (args_of (map words.Object ids)) → AreArgs (replicate (length ids) kinds.Object) (args_of (map words.Object ids))
ids_fit [] [] is = tt
ids_fit [] (x ∷ ids) is = absurd is
ids_fit (k ∷ ks) [] is = absurd is
ids_fit (k ∷ ks) (x ∷ ids) is = (record { kind_is = refl; fits = is.0.fits }, ids_fit ks ids is.1)

pub listed_fit : (ks : List ArgKind) (l : ListReply) → AreArgs ks (args_of (listed_words l)) → AreArgs (listed_kinds (length l.ids)) (args_of (listed_words l))
listed_fit [] l is = absurd is
listed_fit (k ∷ ks) l is = (record { kind_is = refl; fits = is.0.fits }, ids_fit ks l.ids is.1)

-- the first kinds of a longer list
pub kinds_taken : (n m : ℕ) → n ≤ m → take (suc n) (listed_kinds m) ≡ listed_kinds n
kinds_taken n m le = ap (λ (ks : List ArgKind). kinds.Wide ∷ ks) (fewer n m le)
  where
    fewer : (n m : ℕ) → n ≤ m → take n (replicate m kinds.Object) ≡ replicate n kinds.Object
    fewer zero m le = refl
    fewer (suc n) zero le = absurd (omega (arith, le))
    fewer (suc n) (suc m) le = ap (λ (ks : List ArgKind). kinds.Object ∷ ks) (fewer n m (omega (arith, le)))

ids_counted : (ids : List ℕ) → length (map arg_text (args_of (map words.Object ids))) ≡ length ids
ids_counted [] = refl
ids_counted (x ∷ ids) = ap suc (ids_counted ids)

-- texts of lists have as many words as the lists have ids
same_count : (a b : ListReply) → map arg_text (args_of (listed_words a)) ≡ map arg_text (args_of (listed_words b)) → length a.ids ≡ length b.ids
same_count a b e =
    let n = ids_counted a.ids in
    let m = ids_counted b.ids in
    let s = ap length e in
    omega (arith, n, m, s)

lists_are_one : (a b : ListReply) → AreArgs (listed_kinds (length a.ids)) (args_of (listed_words a)) → AreArgs (listed_kinds (length b.ids)) (args_of (listed_words b)) → words_text (listed_words a) ≡ words_text (listed_words b) → a ≡ b
lists_are_one a b ia ib same =
    let xs = args_of (listed_words a) in
    let ys = args_of (listed_words b) in
    let texts : map arg_text xs ≡ map arg_text ys =
    sym (arguments_split (listed_kinds (length a.ids)) xs (words_text (listed_words a)) (omega arith) ia refl)
    ∙ arguments_split (listed_kinds (length b.ids)) ys (words_text (listed_words a)) (omega arith) ib same in
    let count = same_count a b texts in
    let ib' : AreArgs (listed_kinds (length a.ids)) ys = subst (λ (k : ℕ). AreArgs (listed_kinds k) ys) (sym count) ib in
    let e : xs ≡ ys = args_are_one (listed_kinds (length a.ids)) xs ys ia ib' texts in
    let n : a.count ≡ b.count = cc in
    let t : args_of (map words.Object a.ids) ≡ args_of (map words.Object b.ids) = cc in
    let ids = ids_are_one a.ids b.ids t in
    (λ i. record { count = n i; ids = ids i })

pub reply_lacks_end : (r : ReadReply) → IsReadReply r → lacks 10 (read_reply_text r) ≡ true
reply_lacks_end (raw.Own o) is = words_lack_end own_kinds (codes "self ") (own_words o) (lit< tt) refl is.0
reply_lacks_end (raw.Label l) is = words_lack_end shown_kinds (codes "label ") (shown_words l) (lit< tt) refl is.0
reply_lacks_end (raw.Quota q) is = words_lack_end quota_kinds (codes "quota ") (quota_words q) (lit< tt) refl is.0
reply_lacks_end (raw.Listed l) is = words_lack_end (listed_kinds (length l.ids)) (codes "list ") (listed_words l) (omega arith) refl is.0
reply_lacks_end (raw.Parent p) is = words_lack_end parent_kinds (codes "parent ") (parent_words p) (lit< tt) refl is.0
reply_lacks_end (raw.Pages p) is = words_lack_end pages_kinds (codes "pages ") (pages_words p) (lit< tt) refl is.0
reply_lacks_end (raw.Bytes d) is = words_lack_end packet_kinds (codes "data ") (packet_words d) (lit< tt) refl is.0
reply_lacks_end (raw.Mapping m) is = words_lack_end mapped_kinds (codes "mapping ") (mapped_words m) (lit< tt) refl is.0
reply_lacks_end raw.Unmapped is = refl
reply_lacks_end (raw.Refused r) is = lacks-append 10 (codes "refused ") (refusal_text r) refl (refusal_lacks_end r)

-- which reply a text is, by its first three bytes
reply_kind : ReadReply → ℕ
reply_kind (raw.Own o) = mark (codes "sel")
reply_kind (raw.Label l) = mark (codes "lab")
reply_kind (raw.Quota q) = mark (codes "quo")
reply_kind (raw.Listed l) = mark (codes "lis")
reply_kind (raw.Parent p) = mark (codes "par")
reply_kind (raw.Pages p) = mark (codes "pag")
reply_kind (raw.Bytes d) = mark (codes "dat")
reply_kind (raw.Mapping m) = mark (codes "map")
reply_kind raw.Unmapped = mark (codes "map")
reply_kind (raw.Refused r) = mark (codes "ref")

reply_kind_is : (r : ReadReply) → mark (read_reply_text r) ≡ reply_kind r
unfolding mark reply_kind
reply_kind_is (raw.Own o) = refl
reply_kind_is (raw.Label l) = refl
reply_kind_is (raw.Quota q) = refl
reply_kind_is (raw.Listed l) = refl
reply_kind_is (raw.Parent p) = refl
reply_kind_is (raw.Pages p) = refl
reply_kind_is (raw.Bytes d) = refl
reply_kind_is (raw.Mapping m) = refl
reply_kind_is raw.Unmapped = refl
reply_kind_is (raw.Refused r) = refl

-- what a slot maps has more words than one
mapped_parts : (m : Mapping) → codes "mapping none" ≡ codes "mapping " ++ words_text (mapped_words m) → ⊥
mapped_parts m e =
    let first : codes "none" ≡ words_text (mapped_words m) = cancel (codes "mapping ") (codes "none") (words_text (mapped_words m)) e in
    not_in 32 (decimal m.page) _ (subst (λ (x : List ℕ). lacks 32 x ≡ true) first refl)

-- no two replies have one spelling
pub reply_is_one : (a b : ReadReply) → IsReadReply a → IsReadReply b → read_reply_text a ≡ read_reply_text b → a ≡ b
unfolding mark reply_kind
reply_is_one (raw.Own a) (raw.Own b) ia ib same = ap raw.Own (own_is_one a b (words_same own_kinds (codes "self ") (own_words a) (own_words b) (lit< tt) ia.0 ib.0 same))
reply_is_one (raw.Label a) (raw.Label b) ia ib same = ap raw.Label (shown_is_one a b (words_same shown_kinds (codes "label ") (shown_words a) (shown_words b) (lit< tt) ia.0 ib.0 same))
reply_is_one (raw.Quota a) (raw.Quota b) ia ib same = ap raw.Quota (quota_is_one a b (words_same quota_kinds (codes "quota ") (quota_words a) (quota_words b) (lit< tt) ia.0 ib.0 same))
reply_is_one (raw.Listed a) (raw.Listed b) ia ib same = ap raw.Listed (lists_are_one a b ia.0 ib.0 (cancel (codes "list ") (words_text (listed_words a)) (words_text (listed_words b)) same))
reply_is_one (raw.Parent a) (raw.Parent b) ia ib same = ap raw.Parent (parent_is_one a b (words_same parent_kinds (codes "parent ") (parent_words a) (parent_words b) (lit< tt) ia.0 ib.0 same))
reply_is_one (raw.Pages a) (raw.Pages b) ia ib same = ap raw.Pages (pages_are_one a b (words_same pages_kinds (codes "pages ") (pages_words a) (pages_words b) (lit< tt) ia.0 ib.0 same))
reply_is_one (raw.Bytes a) (raw.Bytes b) ia ib same = ap raw.Bytes (packet_is_one a b (words_same packet_kinds (codes "data ") (packet_words a) (packet_words b) (lit< tt) ia.0 ib.0 same))
reply_is_one (raw.Mapping a) (raw.Mapping b) ia ib same = ap raw.Mapping (mapped_is_one a b (words_same mapped_kinds (codes "mapping ") (mapped_words a) (mapped_words b) (lit< tt) ia.0 ib.0 same))
reply_is_one (raw.Mapping a) raw.Unmapped ia ib same = absurd (mapped_parts a (sym same))
reply_is_one raw.Unmapped (raw.Mapping b) ia ib same = absurd (mapped_parts b same)
reply_is_one raw.Unmapped raw.Unmapped ia ib same = refl
reply_is_one (raw.Refused a) (raw.Refused b) ia ib same = ap raw.Refused (refusal_is_one a b ia ib (cancel (codes "refused ") (refusal_text a) (refusal_text b) same))
reply_is_one a b ia ib same = absurd (apart (reply_kind a) (reply_kind b) refl (sym (reply_kind_is a) ∙ ap mark same ∙ reply_kind_is b))

-- an argument that is no id stands in no list of ids
pub no_id : (xs : List Arg) (i : ℕ) (a : Arg) (ids : List ℕ) → i < length xs → a ≡ get_or xs i a → xs ≡ args_of (map words.Object ids)
    → ((id : ℕ) → a ≡ arg_of (words.Object id) → ⊥) → ⊥
no_id [] i a ids less at is none = omega (arith, less)
no_id (x ∷ xs) i a [] less at is none = absurd (cc is)
no_id (x ∷ xs) zero a (n ∷ ids) less at is none = let h : x ≡ arg_of (words.Object n) = cc in none n (at ∙ h)
no_id (x ∷ xs) (suc i) a (n ∷ ids) less at is none = no_id xs i a ids (omega (arith, less)) at (cc) none

object_kinds : (ids : List ℕ) → map (λ w. kind_of (arg_of w)) (map words.Object ids) ≡ replicate (length ids) kinds.Object
object_kinds [] = refl
object_kinds (x ∷ ids) = ap (λ (ks : List ArgKind). kinds.Object ∷ ks) (object_kinds ids)

-- the words of a list are of its kinds
pub list_fits : (l : ListReply) → FitsArg (arg_of (words.Wide l.count)) → AllByRecursion (λ w. FitsArg (arg_of w)) (map words.Object l.ids)
    → AreArgs (listed_kinds (length l.ids)) (args_of (listed_words l))
list_fits l count ids =
    (record { kind_is = refl; fits = count }, words_fit (replicate (length l.ids) kinds.Object) (map words.Object l.ids) (object_kinds l.ids) ids)

-- a list that was read has the kinds of a list of its length
pub list_found : (text : List ℕ) (ks : List ArgKind) (o : Option ListReply) (l : ListReply) → o ≡ Some l
    → Reads (λ v. codes "list " ++ words_text (listed_words v)) (AreAllowed ks listed_words HasFew) text o
    → AreAllowed (listed_kinds (length l.ids)) listed_words HasFew l × (text ≡ codes "list " ++ words_text (listed_words l))
list_found text ks o l some read =
    let h = read_is (λ v. codes "list " ++ words_text (listed_words v)) (AreAllowed ks listed_words HasFew) text o l some read in
    ((listed_fit ks l h.0.0, h.0.1), h.1)

-- no list of fewer words than so many
abbrev pub NoneBefore : List ℕ → ℕ → Type 0
NoneBefore text count =
    (v : ListReply) → length v.ids + 1 < count → AreAllowed (listed_kinds (length v.ids)) listed_words HasFew v
    → text ≡ codes "list " ++ words_text (listed_words v) → ⊥

-- nor of so many
pub list_not : (text : List ℕ) (count : ℕ) (ks : List ArgKind) (o : Option ListReply) → o ≡ None → ks ≡ take count (listed_kinds 16)
    → Reads (λ v. codes "list " ++ words_text (listed_words v)) (AreAllowed ks listed_words HasFew) text o
    → NoneBefore text count → NoneBefore text (count + 1)
list_not text count ks o none ks_are read before v less allowed e =
    elim (eqb_tells (length v.ids + 1) count) as (λ _. ⊥) [
      | inl same ↦
          let n = length v.ids in
          let few : n ≤ 16 = allowed.1 in
          let at : count ≡ suc n = omega (arith, same.1) in
          let kinds_are : listed_kinds n ≡ ks = sym (kinds_taken n 16 few) ∙ ap (λ (k : ℕ). take k (listed_kinds 16)) (sym at) ∙ sym ks_are in
          read_not (λ v. codes "list " ++ words_text (listed_words v)) (AreAllowed ks listed_words HasFew) text o none read v
          (subst (λ (l : List ArgKind). AreArgs l (args_of (listed_words v))) kinds_are allowed.0, allowed.1) e
      | inr other ↦ before v (let apart' = other.1 in omega (arith, less, apart')) allowed e
    ]

-- Calls that name nothing are read as they were written.
use Rattle.std.proofs.Common.{◌≡◌, ℕ, ◌+◌, List, [], ◌∷◌, ◌++◌, length, map, Option, Some, None, Result, Ok, Err, refl, ap, ap₂, ◌∙◌, sym, subst, arith, append_assoc, length-append}
use Rattle.std.specs.Prelude.{slice_get}
use Rattle.label_lattice.specs.declared.pairings.Pair.{Pair}
use Rattle.label_lattice.specs.declared.raw_labels.RawLabel.{RawLabel}
use Rattle.kernel_rules.specs.declared.calls.Call.{Call}
use Rattle.kernel_rules.specs.declared.calls.Call.TheVariants as calls
use Rattle.kernel_rules.specs.declared.calls.Query.{Query}
use Rattle.kernel_rules.specs.declared.calls.Query.TheVariants as queries
use Rattle.text_words.specs.Reading.{Reads}
use Rattle.text_words.specs.Label.{LabelValue}
use Rattle.text_words.specs.declared.references.Reference.{Reference}
use Rattle.text_words.specs.declared.references.Reference.TheVariants as references
use Rattle.text_words.specs.declared.spoken_labels.SpokenPair.{SpokenPair}
use Rattle.text_words.specs.declared.spoken_calls.verbs.Verb.{Verb}
use Rattle.text_words.specs.declared.spoken_calls.verbs.Verb.TheVariants as verbs
use Rattle.text_words.specs.declared.spoken_calls.args.ArgKind.{ArgKind}
use Rattle.text_words.specs.declared.spoken_calls.args.ArgKind.TheVariants as kinds
use Rattle.text_words.specs.declared.spoken_calls.args.Arg.{Arg}
use Rattle.text_words.specs.declared.spoken_calls.args.Arg.TheVariants as args
use Rattle.text_words.specs.Arg.{kind_of}
use Rattle.text_words.specs.Verb.{kinds_of}
use Rattle.text_words.specs.Spoken.{AreArgs, Spoken, IsSpoken, spoken_text}
use Rattle.text_words.proofs.SpokenLemmas.{spoken_is_one}
use Rattle.call_text.specs.declared.asking.Asked.{Asked}
use Rattle.call_text.specs.declared.asking.Asked.TheVariants.{Write, Read}
use Rattle.call_text.specs.Place.{pair_of, raw_of, category_of, object_in, label_in, number_in, wide_in, signed_in, data_in, types_in, rights_in, object_at, label_at, number_at, wide_at, signed_at, data_at, types_at, rights_at}
use Rattle.call_text.specs.Asked.{asked_of}
use Rattle.call_text.specs.Resolve.{unbound_category, unbound_pair, unbound_in, or_else, first_unbound, or_unbound, resolved}
use Rattle.dump_text.specs.Word.{spoken_pair, spoken_label}
use Rattle.dump_text.specs.Call.{spoken_of, call_text, IsCall, write_of}
use Rattle.dump_text.specs.Query.{query_spoken, query_text, IsQuery, query_of}

-- numbered pairs name nothing
no_pair : (ps : List Pair) → unbound_pair (map spoken_pair ps) [] ≡ None
no_pair [] = refl
no_pair (p ∷ ps) = no_pair ps

pairs_again : (ps : List Pair) → map (pair_of []) (map spoken_pair ps) ≡ ps
pairs_again [] = refl
pairs_again (p ∷ ps) = ap (λ (qs : List Pair). p ∷ qs) (pairs_again ps)

pub label_again : (l : RawLabel) → raw_of (spoken_label l) [] ≡ l
label_again l = ap (λ (ps : List Pair). let r : RawLabel = record { default = l.default; pairs = ps } in r) (pairs_again l.pairs)

-- what names nothing is numbered, where no name is known
category_spoken : (r : Reference) (rest : Option (List ℕ)) → or_else (unbound_category r []) rest ≡ None → (references.Number (category_of r []).0 ≡ r) × (rest ≡ None)
category_spoken (references.Number n) rest e = (refl, e)
category_spoken (references.Name name) rest e = cc

pairs_spoken : (ps : List SpokenPair) → unbound_pair ps [] ≡ None → map spoken_pair (map (pair_of []) ps) ≡ ps
pairs_spoken [] e = refl
pairs_spoken (p ∷ ps) e =
    let h = category_spoken p.category (unbound_pair ps []) e in
    let rest = pairs_spoken ps h.1 in
    (λ i. record { category = h.0 i; level = p.level } ∷ rest i)

label_spoken : (l : LabelValue) → unbound_pair l.pairs [] ≡ None → spoken_label (raw_of l []) ≡ l
label_spoken l e = let ps = pairs_spoken l.pairs e in (λ i. record { pairs = ps i; default = l.default })

-- the argument of a kind at a place, where no name is known
from_kind : ArgKind → ℕ → List Arg → Arg
from_kind kinds.Object i xs = args.Object (references.Number (object_at i xs []))
from_kind kinds.Number i xs = args.Number (number_at i xs)
from_kind kinds.Wide i xs = args.Wide (wide_at i xs)
from_kind kinds.Signed i xs = args.Signed (signed_at i xs)
from_kind kinds.Label i xs = args.Label (spoken_label (label_at i xs []))
from_kind kinds.Data i xs = args.Data (data_at i xs)
from_kind kinds.Types i xs = args.Types (types_at i xs)
from_kind kinds.Rights i xs = args.Rights (rights_at i xs)

arg_again : (a : Arg) (i : ℕ) (xs : List Arg) → slice_get xs i ≡ Some a → unbound_in a [] ≡ None → from_kind (kind_of a) i xs ≡ a
unfolding from_kind
arg_again (args.Object (references.Number n)) i xs at none = ap (λ (o : Option Arg). args.Object (references.Number (object_in o []))) at
arg_again (args.Object (references.Name name)) i xs at none = cc
arg_again (args.Number n) i xs at none = ap (λ (o : Option Arg). args.Number (number_in o)) at
arg_again (args.Wide n) i xs at none = ap (λ (o : Option Arg). args.Wide (wide_in o)) at
arg_again (args.Signed z) i xs at none = ap (λ (o : Option Arg). args.Signed (signed_in o)) at
arg_again (args.Label l) i xs at none = ap (λ (o : Option Arg). args.Label (spoken_label (label_in o []))) at ∙ ap args.Label (label_spoken l none)
arg_again (args.Data d) i xs at none = ap (λ (o : Option Arg). args.Data (data_in o)) at
arg_again (args.Types t) i xs at none = ap (λ (o : Option Arg). args.Types (types_in o)) at
arg_again (args.Rights r) i xs at none = ap (λ (o : Option Arg). args.Rights (rights_in o)) at

-- the arguments of these kinds, from a place on
rebuilt : List ArgKind → ℕ → List Arg → List Arg
rebuilt [] i xs = []
rebuilt (k ∷ ks) i xs = from_kind k i xs ∷ rebuilt ks (i + 1) xs

slice_get_after : (before : List Arg) (a : Arg) (rest : List Arg) → slice_get (before ++ a ∷ rest) (length before) ≡ Some a
slice_get_after [] a rest = refl
slice_get_after (b ∷ before) a rest = slice_get_after before a rest

both_none : (a b : Option (List ℕ)) → or_else a b ≡ None → (a ≡ None) × (b ≡ None)
both_none None b e = (refl, e)
both_none (Some x) b e = cc

rebuilt_from : (ks : List ArgKind) (before xs : List Arg) (i : ℕ) → i ≡ length before → AreArgs ks xs → first_unbound xs [] ≡ None → rebuilt ks i (before ++ xs) ≡ xs
unfolding rebuilt
rebuilt_from [] before [] i at are none = refl
rebuilt_from [] before (x ∷ xs) i at are none = absurd are
rebuilt_from (k ∷ ks) before [] i at are none = absurd are
rebuilt_from (k ∷ ks) before (x ∷ xs) i at are none =
    let n = both_none (unbound_in x []) (first_unbound xs []) none in
    let here : slice_get (before ++ x ∷ xs) i ≡ Some x = ap (λ (j : ℕ). slice_get (before ++ x ∷ xs) j) at ∙ slice_get_after before x xs in
    let first : from_kind k i (before ++ x ∷ xs) ≡ x = ap (λ (j : ArgKind). from_kind j i (before ++ x ∷ xs)) (sym are.0.kind_is) ∙ arg_again x i (before ++ x ∷ xs) here n.0 in
    let whole : before ++ x ∷ xs ≡ (before ++ x ∷ []) ++ xs = sym (append_assoc before (x ∷ []) xs) in
    let rest : rebuilt ks (i + 1) (before ++ x ∷ xs) ≡ xs = ap (λ (ys : List Arg). rebuilt ks (i + 1) ys) whole ∙ rebuilt_from ks (before ++ x ∷ []) xs (i + 1) (omega (arith, at, length-append before (x ∷ []))) are.1 n.1 in
    ap₂ (λ (y : Arg) (ys : List Arg). y ∷ ys) first rest

-- what is asked is spoken with these arguments
Sound : Verb → List Arg → Asked → Type 0
Sound v xs (Write c) = let r : Spoken = record { verb = v; args = rebuilt (kinds_of v) 0 xs } in spoken_of c ≡ r
Sound v xs (Read q) = let r : Spoken = record { verb = v; args = rebuilt (kinds_of v) 0 xs } in query_spoken q ≡ r

sound : (v : Verb) (xs : List Arg) → Sound v xs (asked_of v xs [])
unfolding Sound rebuilt from_kind
sound verbs.CatCreate xs = refl
sound verbs.SelfSetLabel xs = refl
sound verbs.SelfSetClearance xs = refl
sound verbs.SelfSetAs xs = refl
sound verbs.ContainerCreate xs = refl
sound verbs.SegmentCreate xs = refl
sound verbs.SegmentCopy xs = refl
sound verbs.AsCreate xs = refl
sound verbs.ThreadCreate xs = refl
sound verbs.GateCreate xs = refl
sound verbs.Link xs = refl
sound verbs.Unref xs = refl
sound verbs.QuotaMove xs = refl
sound verbs.SetFixed xs = refl
sound verbs.SetImmutable xs = refl
sound verbs.MetaSet xs = refl
sound verbs.SegmentResize xs = refl
sound verbs.SegmentWrite xs = refl
sound verbs.AsMap xs = refl
sound verbs.AsUnmap xs = refl
sound verbs.Store xs = refl
sound verbs.GateEnter xs = refl
sound verbs.DevSend xs = refl
sound verbs.DevRecv xs = refl
sound verbs.SelfGet xs = refl
sound verbs.ObjLabel xs = refl
sound verbs.ObjQuota xs = refl
sound verbs.ContainerList xs = refl
sound verbs.ContainerParent xs = refl
sound verbs.SegmentLen xs = refl
sound verbs.SegmentRead xs = refl
sound verbs.MetaGet xs = refl
sound verbs.AsGet xs = refl
sound verbs.Load xs = refl

sound_write : (v : Verb) (xs : List Arg) (a : Asked) (c : Call) → a ≡ Write c → Sound v xs a → spoken_of c ≡ (let r : Spoken = record { verb = v; args = rebuilt (kinds_of v) 0 xs } in r)
unfolding Sound
sound_write v xs a c e h = subst (Sound v xs) e h

sound_read : (v : Verb) (xs : List Arg) (a : Asked) (q : Query) → a ≡ Read q → Sound v xs a → query_spoken q ≡ (let r : Spoken = record { verb = v; args = rebuilt (kinds_of v) 0 xs } in r)
unfolding Sound
sound_read v xs a q e h = subst (Sound v xs) e h

bound : (o : Option (List ℕ)) (a b : Asked) → or_unbound o a ≡ Ok b → (o ≡ None) × (a ≡ b)
bound None a b e = (refl, cc)
bound (Some n) a b e = cc

-- what asks a write call spells it
spoken_again : (said : Spoken) (c : Call) → IsSpoken said → resolved said [] ≡ Ok (Write c) → spoken_of c ≡ said
spoken_again said c is e =
    let h = bound (first_unbound said.args []) (asked_of said.verb said.args []) (Write c) e in
    let built = rebuilt_from (kinds_of said.verb) [] said.args 0 refl is h.0 in
    sound_write said.verb said.args _ c h.1 (sound said.verb said.args) ∙ ap (λ (xs : List Arg). let r : Spoken = record { verb = said.verb; args = xs } in r) built

-- what asks a query spells it
query_again : (said : Spoken) (q : Query) → IsSpoken said → resolved said [] ≡ Ok (Read q) → query_spoken q ≡ said
query_again said q is e =
    let h = bound (first_unbound said.args []) (asked_of said.verb said.args []) (Read q) e in
    let built = rebuilt_from (kinds_of said.verb) [] said.args 0 refl is h.0 in
    sound_read said.verb said.args _ q h.1 (sound said.verb said.args) ∙ ap (λ (xs : List Arg). let r : Spoken = record { verb = said.verb; args = xs } in r) built

-- what spells a write call asks it
resolves : (c : Call) → resolved (spoken_of c) [] ≡ Ok (Write c)
resolves calls.CatCreate = refl
resolves (calls.SelfSetLabel l) = rw (no_pair l.pairs, label_again l) refl
resolves (calls.SelfSetClearance l) = rw (no_pair l.pairs, label_again l) refl
resolves (calls.SelfSetAs e) = refl
resolves (calls.ContainerCreate n) = rw (no_pair n.label.pairs, label_again n.label) refl
resolves (calls.SegmentCreate n) = rw (no_pair n.label.pairs, label_again n.label) refl
resolves (calls.SegmentCopy n) = rw (no_pair n.label.pairs, label_again n.label) refl
resolves (calls.AsCreate n) = rw (no_pair n.label.pairs, label_again n.label) refl
resolves (calls.ThreadCreate n) = rw (no_pair n.label.pairs, no_pair n.clearance.pairs, label_again n.label, label_again n.clearance) refl
resolves (calls.GateCreate n) = rw (no_pair n.label.pairs, no_pair n.clearance.pairs, label_again n.label, label_again n.clearance) refl
resolves (calls.Link t e) = refl
resolves (calls.Unref e) = refl
resolves (calls.QuotaMove e z) = refl
resolves (calls.SetFixed e) = refl
resolves (calls.SetImmutable e) = refl
resolves (calls.MetaSet e b) = refl
resolves (calls.SegmentResize e n) = refl
resolves (calls.SegmentWrite e n b) = refl
resolves (calls.AsMap e n m) = refl
resolves (calls.AsUnmap e n) = refl
resolves (calls.Store p b) = refl
resolves (calls.GateEnter e l c v) = rw (no_pair l.pairs, no_pair c.pairs, no_pair v.pairs, label_again l, label_again c, label_again v) refl
resolves (calls.DevSend e b) = refl
resolves (calls.DevRecv e) = refl

-- what is read of a spoken call that the text spells
pub call_reads : (text : List ℕ) (said : Spoken) → IsSpoken said → text ≡ spoken_text said → Reads call_text IsCall text (write_of (resolved said []))
call_reads text said is e = go (resolved said []) refl
  where
    not_this : (v : Call) → IsCall v → text ≡ call_text v → resolved said [] ≡ Ok (Write v)
    not_this v iv t =
        let same : said ≡ spoken_of v = spoken_is_one said (spoken_of v) is iv (sym e ∙ t) in
        ap (λ (r : Spoken). resolved r []) same ∙ resolves v

    go : (r : Result Asked (List ℕ)) → resolved said [] ≡ r → Reads call_text IsCall text (write_of r)
    go (Ok (Write c)) h =
        let same = spoken_again said c is h in
        (subst IsSpoken (sym same) is, e ∙ ap spoken_text (sym same))
    go (Ok (Read q)) h = λ v iv t. let k = not_this v iv t in absurd cc
    go (Err n) h = λ v iv t. let k = not_this v iv t in absurd cc

-- no two calls have one spelling
pub call_is_one : (a b : Call) → IsCall a → IsCall b → call_text a ≡ call_text b → a ≡ b
call_is_one a b ia ib e =
    let same : spoken_of a ≡ spoken_of b = spoken_is_one (spoken_of a) (spoken_of b) ia ib e in
    let k : Ok (Write a) ≡ Ok (Write b) = sym (resolves a) ∙ ap (λ (r : Spoken). resolved r []) same ∙ resolves b in cc

-- what spells a query asks it
asks : (q : Query) → resolved (query_spoken q) [] ≡ Ok (Read q)
asks queries.SelfGet = refl
asks (queries.ObjLabel e) = refl
asks (queries.ObjQuota e) = refl
asks (queries.ContainerList d n) = refl
asks (queries.ContainerParent d) = refl
asks (queries.SegmentLen e) = refl
asks (queries.SegmentRead e a n) = refl
asks (queries.MetaGet e) = refl
asks (queries.AsGet e n) = refl
asks (queries.Load p n) = refl

-- what is read of a spoken query that the text spells
pub query_reads : (text : List ℕ) (said : Spoken) → IsSpoken said → text ≡ spoken_text said → Reads query_text IsQuery text (query_of (resolved said []))
query_reads text said is e = go (resolved said []) refl
  where
    not_this : (v : Query) → IsQuery v → text ≡ query_text v → resolved said [] ≡ Ok (Read v)
    not_this v iv t =
        let same : said ≡ query_spoken v = spoken_is_one said (query_spoken v) is iv (sym e ∙ t) in
        ap (λ (r : Spoken). resolved r []) same ∙ asks v

    go : (r : Result Asked (List ℕ)) → resolved said [] ≡ r → Reads query_text IsQuery text (query_of r)
    go (Ok (Write c)) h = λ v iv t. let k = not_this v iv t in absurd cc
    go (Ok (Read q)) h =
        let same = query_again said q is h in
        (subst IsSpoken (sym same) is, e ∙ ap spoken_text (sym same))
    go (Err n) h = λ v iv t. let k = not_this v iv t in absurd cc

-- no two queries have one spelling
pub query_is_one : (a b : Query) → IsQuery a → IsQuery b → query_text a ≡ query_text b → a ≡ b
query_is_one a b ia ib e =
    let same : query_spoken a ≡ query_spoken b = spoken_is_one (query_spoken a) (query_spoken b) ia ib e in
    let k : Ok (Read a) ≡ Ok (Read b) = sym (asks a) ∙ ap (λ (r : Spoken). resolved r []) same ∙ asks b in cc

-- Spoken calls: their words one by one, and no two of one spelling.
use Rattle.std.proofs.Common.{◌≡◌, ℕ, zero, suc, ◌^◌, ◌<◌, Bool, true, false, cond, eqb, List, [], ◌∷◌, ◌++◌, length, subst, get_or, map, refl, ap, ◌∙◌, sym, arith}
use Rattle.text_words.specs.Lacks.{lacks, AllLack}
use Rattle.text_words.specs.declared.spoken_calls.verbs.Verb.{Verb}
use Rattle.text_words.specs.declared.spoken_calls.verbs.Verb.TheVariants as verbs
use Rattle.text_words.specs.declared.spoken_calls.args.ArgKind.{ArgKind}
use Rattle.text_words.specs.declared.spoken_calls.args.Arg.{Arg}
use Rattle.text_words.specs.declared.spoken_calls.args.Arg.TheVariants as args
use Rattle.text_words.specs.Verb.{name_of, kinds_of}
use Rattle.text_words.specs.Arg.{arg_text, IsArg}
use Rattle.text_words.specs.Spoken.{AreArgs, Spoken, IsSpoken, spoken_text, words_of, arguments_text}
use Rattle.std.specs.List.{slice_split, join_with_byte, flat_map}
use Rattle.std.proofs.lemmas.List.{append-nil}
use Rattle.text_words.proofs.Split.{split_join}
use Rattle.text_words.proofs.LackLemmas.{join_lacks}
use Rattle.text_words.proofs.Outside.{IsOutside, number_outside, signed_outside, reference_outside, label_outside, data_outside, space_outside, end_outside}
use Rattle.text_words.proofs.WordLemmas.{data_is_one}
use Rattle.text_words.proofs.OneLemmas.{reference_is_one, label_is_one, types_are_one}
use Rattle.text_words.proofs.SignedLemmas.{signed_is_one, rights_are_one}
use Rattle.std.proofs.lemmas.Fmt.{decimal_injective}

pub same_length : (ks : List ArgKind) (found : List Arg) → AreArgs ks found → length ks ≡ length found
same_length [] [] h = refl
same_length [] (a ∷ more) h = absurd h
same_length (k ∷ ks) [] h = absurd h
same_length (k ∷ ks) (a ∷ more) h = ap suc (same_length ks more h.1)

pub AreArgs-push : (ks : List ArgKind) (found : List Arg) (k : ArgKind) (a : Arg) → AreArgs ks found → IsArg k a → AreArgs (ks ++ k ∷ []) (found ++ a ∷ [])
AreArgs-push [] [] k a h is = (is, tt)
AreArgs-push [] (b ∷ more) k a h is = absurd h
AreArgs-push (j ∷ ks) [] k a h is = absurd h
AreArgs-push (j ∷ ks) (b ∷ more) k a h is = (h.0, AreArgs-push ks more k a h.1 is)

-- a word that is no argument at its place
pub no_args : (ks : List ArgKind) (found : List Arg) (i : ℕ) (d : ArgKind) → AreArgs ks found → i < length ks → ((a : Arg) → IsArg (get_or ks i d) a → get_or (map arg_text found) i [] ≡ arg_text a → ⊥) → ⊥
no_args [] found i d h lt none = absurd (omega arith)
no_args (k ∷ ks) [] i d h lt none = absurd h
no_args (k ∷ ks) (a ∷ more) zero d h lt none = none a h.0 refl
no_args (k ∷ ks) (a ∷ more) (suc i) d h lt none = no_args ks more i d h.1 (omega arith) none

pub arg_outside : (c : ℕ) (k : ArgKind) (a : Arg) → IsOutside c → IsArg k a → lacks c (arg_text a) ≡ true
arg_outside c k (args.Object r) out is = reference_outside c r out is.fits
arg_outside c k (args.Number n) out is = let small : n < 2 ^ 32 = is.fits in number_outside c n out (omega arith)
arg_outside c k (args.Wide n) out is = number_outside c n out is.fits
arg_outside c k (args.Signed z) out is = signed_outside c z out is.fits
arg_outside c k (args.Label l) out is = label_outside c l out is.fits
arg_outside c k (args.Data d) out is = data_outside c d out is.fits
arg_outside c k (args.Types s) out is = out.types s
arg_outside c k (args.Rights r) out is = out.rights r

-- a byte that no call's words have
pub record IsParting (c : ℕ) : Type 0 where
  pub outside : IsOutside c
  pub verbs : (v : Verb) → lacks c (name_of v) ≡ true

pub name_lacks_space : (v : Verb) → lacks 32 (name_of v) ≡ true
name_lacks_space verbs.CatCreate = refl
name_lacks_space verbs.SelfSetLabel = refl
name_lacks_space verbs.SelfSetClearance = refl
name_lacks_space verbs.SelfSetAs = refl
name_lacks_space verbs.ContainerCreate = refl
name_lacks_space verbs.SegmentCreate = refl
name_lacks_space verbs.SegmentCopy = refl
name_lacks_space verbs.AsCreate = refl
name_lacks_space verbs.ThreadCreate = refl
name_lacks_space verbs.GateCreate = refl
name_lacks_space verbs.Link = refl
name_lacks_space verbs.Unref = refl
name_lacks_space verbs.QuotaMove = refl
name_lacks_space verbs.SetFixed = refl
name_lacks_space verbs.SetImmutable = refl
name_lacks_space verbs.MetaSet = refl
name_lacks_space verbs.SegmentResize = refl
name_lacks_space verbs.SegmentWrite = refl
name_lacks_space verbs.AsMap = refl
name_lacks_space verbs.AsUnmap = refl
name_lacks_space verbs.Store = refl
name_lacks_space verbs.GateEnter = refl
name_lacks_space verbs.DevSend = refl
name_lacks_space verbs.DevRecv = refl
name_lacks_space verbs.SelfGet = refl
name_lacks_space verbs.ObjLabel = refl
name_lacks_space verbs.ObjQuota = refl
name_lacks_space verbs.ContainerList = refl
name_lacks_space verbs.ContainerParent = refl
name_lacks_space verbs.SegmentLen = refl
name_lacks_space verbs.SegmentRead = refl
name_lacks_space verbs.MetaGet = refl
name_lacks_space verbs.AsGet = refl
name_lacks_space verbs.Load = refl

name_lacks_end : (v : Verb) → lacks 10 (name_of v) ≡ true
name_lacks_end verbs.CatCreate = refl
name_lacks_end verbs.SelfSetLabel = refl
name_lacks_end verbs.SelfSetClearance = refl
name_lacks_end verbs.SelfSetAs = refl
name_lacks_end verbs.ContainerCreate = refl
name_lacks_end verbs.SegmentCreate = refl
name_lacks_end verbs.SegmentCopy = refl
name_lacks_end verbs.AsCreate = refl
name_lacks_end verbs.ThreadCreate = refl
name_lacks_end verbs.GateCreate = refl
name_lacks_end verbs.Link = refl
name_lacks_end verbs.Unref = refl
name_lacks_end verbs.QuotaMove = refl
name_lacks_end verbs.SetFixed = refl
name_lacks_end verbs.SetImmutable = refl
name_lacks_end verbs.MetaSet = refl
name_lacks_end verbs.SegmentResize = refl
name_lacks_end verbs.SegmentWrite = refl
name_lacks_end verbs.AsMap = refl
name_lacks_end verbs.AsUnmap = refl
name_lacks_end verbs.Store = refl
name_lacks_end verbs.GateEnter = refl
name_lacks_end verbs.DevSend = refl
name_lacks_end verbs.DevRecv = refl
name_lacks_end verbs.SelfGet = refl
name_lacks_end verbs.ObjLabel = refl
name_lacks_end verbs.ObjQuota = refl
name_lacks_end verbs.ContainerList = refl
name_lacks_end verbs.ContainerParent = refl
name_lacks_end verbs.SegmentLen = refl
name_lacks_end verbs.SegmentRead = refl
name_lacks_end verbs.MetaGet = refl
name_lacks_end verbs.AsGet = refl
name_lacks_end verbs.Load = refl

pub space_parting : IsParting 32
space_parting = record { outside = space_outside; verbs = name_lacks_space }

pub end_parting : IsParting 10
end_parting = record { outside = end_outside; verbs = name_lacks_end }

args_lack : (c : ℕ) (ks : List ArgKind) (found : List Arg) → IsParting c → AreArgs ks found → AllLack c (map arg_text found)
args_lack c [] [] p h = tt
args_lack c [] (a ∷ more) p h = absurd h
args_lack c (k ∷ ks) [] p h = absurd h
args_lack c (k ∷ ks) (a ∷ more) p h = (arg_outside c k a p.outside h.0, args_lack c ks more p h.1)

-- the words of a line that spells a call are the call's
pub spoken_split : (line : List ℕ) (v : Spoken) → IsSpoken v → line ≡ spoken_text v → slice_split (λ b. eqb b 32) line ≡ words_of v
spoken_split line v is e =
    ap (slice_split (λ b. eqb b 32)) e ∙ split_join 32 (name_of v.verb) (map arg_text v.args) (name_lacks_space v.verb, args_lack 32 (kinds_of v.verb) v.args space_parting is)

same_text : List ℕ → List ℕ → Bool
same_text [] [] = true
same_text [] (y ∷ ys) = false
same_text (x ∷ xs) [] = false
same_text (x ∷ xs) (y ∷ ys) = cond (eqb x y) (same_text xs ys) false

abbrev all_verbs : List Verb
all_verbs = verbs.CatCreate ∷ verbs.SelfSetLabel ∷ verbs.SelfSetClearance ∷ verbs.SelfSetAs ∷ verbs.ContainerCreate ∷ verbs.SegmentCreate ∷ verbs.SegmentCopy ∷ verbs.AsCreate ∷ verbs.ThreadCreate ∷ verbs.GateCreate ∷ verbs.Link ∷ verbs.Unref ∷ verbs.QuotaMove ∷ verbs.SetFixed ∷ verbs.SetImmutable ∷ verbs.MetaSet ∷ verbs.SegmentResize ∷ verbs.SegmentWrite ∷ verbs.AsMap ∷ verbs.AsUnmap ∷ verbs.Store ∷ verbs.GateEnter ∷ verbs.DevSend ∷ verbs.DevRecv ∷ verbs.SelfGet ∷ verbs.ObjLabel ∷ verbs.ObjQuota ∷ verbs.ContainerList ∷ verbs.ContainerParent ∷ verbs.SegmentLen ∷ verbs.SegmentRead ∷ verbs.MetaGet ∷ verbs.AsGet ∷ verbs.Load ∷ []

first_named : List ℕ → List Verb → Verb
first_named word [] = verbs.CatCreate
first_named word (v ∷ vs) = cond (same_text (name_of v) word) v (first_named word vs)

verb_again : (v : Verb) → first_named (name_of v) all_verbs ≡ v
unfolding same_text first_named
verb_again verbs.CatCreate = refl
verb_again verbs.SelfSetLabel = refl
verb_again verbs.SelfSetClearance = refl
verb_again verbs.SelfSetAs = refl
verb_again verbs.ContainerCreate = refl
verb_again verbs.SegmentCreate = refl
verb_again verbs.SegmentCopy = refl
verb_again verbs.AsCreate = refl
verb_again verbs.ThreadCreate = refl
verb_again verbs.GateCreate = refl
verb_again verbs.Link = refl
verb_again verbs.Unref = refl
verb_again verbs.QuotaMove = refl
verb_again verbs.SetFixed = refl
verb_again verbs.SetImmutable = refl
verb_again verbs.MetaSet = refl
verb_again verbs.SegmentResize = refl
verb_again verbs.SegmentWrite = refl
verb_again verbs.AsMap = refl
verb_again verbs.AsUnmap = refl
verb_again verbs.Store = refl
verb_again verbs.GateEnter = refl
verb_again verbs.DevSend = refl
verb_again verbs.DevRecv = refl
verb_again verbs.SelfGet = refl
verb_again verbs.ObjLabel = refl
verb_again verbs.ObjQuota = refl
verb_again verbs.ContainerList = refl
verb_again verbs.ContainerParent = refl
verb_again verbs.SegmentLen = refl
verb_again verbs.SegmentRead = refl
verb_again verbs.MetaGet = refl
verb_again verbs.AsGet = refl
verb_again verbs.Load = refl

pub verb_is : (v w : Verb) → name_of v ≡ name_of w → v ≡ w
verb_is v w e = sym (verb_again v) ∙ ap (λ (x : List ℕ). first_named x all_verbs) e ∙ verb_again w

-- no line's end stands in a spoken call
pub spoken_lacks_end : (v : Spoken) → IsSpoken v → lacks 10 (spoken_text v) ≡ true
spoken_lacks_end v is = join_lacks 10 32 (name_of v.verb) (map arg_text v.args) (λ e. cc) (name_lacks_end v.verb, args_lack 10 (kinds_of v.verb) v.args end_parting is)

pub arg_is_one : (k : ArgKind) (a b : Arg) → IsArg k a → IsArg k b → arg_text a ≡ arg_text b → a ≡ b
arg_is_one k (args.Object m) (args.Object n) ia ib e = ap args.Object (reference_is_one m n ia.fits ib.fits e)
arg_is_one k (args.Number m) (args.Number n) ia ib e = let p : m < 2 ^ 32 = ia.fits in let q : n < 2 ^ 32 = ib.fits in ap args.Number (decimal_injective m n (omega arith) (omega arith) e)
arg_is_one k (args.Wide m) (args.Wide n) ia ib e = ap args.Wide (decimal_injective m n ia.fits ib.fits e)
arg_is_one k (args.Signed m) (args.Signed n) ia ib e = ap args.Signed (signed_is_one m n ia.fits ib.fits e)
arg_is_one k (args.Label m) (args.Label n) ia ib e = ap args.Label (label_is_one m n ia.fits ib.fits e)
arg_is_one k (args.Data m) (args.Data n) ia ib e = ap args.Data (data_is_one m n ia.fits ib.fits e)
arg_is_one k (args.Types m) (args.Types n) ia ib e = ap args.Types (types_are_one m n e)
arg_is_one k (args.Rights m) (args.Rights n) ia ib e = ap args.Rights (rights_are_one m n e)
arg_is_one k _ _ ia ib e = absurd (let p = ia.kind_is in let q = ib.kind_is in cc)

pub args_are_one : (ks : List ArgKind) (xs ys : List Arg) → AreArgs ks xs → AreArgs ks ys → map arg_text xs ≡ map arg_text ys → xs ≡ ys
args_are_one [] [] [] hx hy e = refl
args_are_one [] (x ∷ xs) ys hx hy e = absurd hx
args_are_one [] [] (y ∷ ys) hx hy e = absurd hy
args_are_one (k ∷ ks) [] ys hx hy e = absurd hx
args_are_one (k ∷ ks) (x ∷ xs) [] hx hy e = absurd hy
args_are_one (k ∷ ks) (x ∷ xs) (y ∷ ys) hx hy e =
    let p = arg_is_one k x y hx.0 hy.0 cc in let q = args_are_one ks xs ys hx.1 hy.1 cc in cc

pub spoken_is_one : (v w : Spoken) → IsSpoken v → IsSpoken w → spoken_text v ≡ spoken_text w → v ≡ w
spoken_is_one v w iv iw e =
    let k : name_of v.verb ∷ map arg_text v.args ≡ name_of w.verb ∷ map arg_text w.args = sym (spoken_split (spoken_text v) v iv refl) ∙ spoken_split (spoken_text v) w iw e in
    let p : v.verb ≡ w.verb = verb_is v.verb w.verb cc in
    let q : v.args ≡ w.args = args_are_one (kinds_of w.verb) v.args w.args (subst (λ (u : Verb). AreArgs (kinds_of u) v.args) p iv) iw cc in
    ap (λ (x : Verb). let r : Spoken = record { verb = x; args = v.args } in r) p ∙ ap (λ (y : List Arg). let r : Spoken = record { verb = w.verb; args = y } in r) q

-- as the code writes it
pub spoken_text_is : (name : List ℕ) (xs : List Arg) → name ++ flat_map (λ a. 32 ∷ arg_text a) xs ≡ join_with_byte 32 (name ∷ map arg_text xs)
spoken_text_is name [] = append-nil name
spoken_text_is name (x ∷ xs) = ap (λ (rest : List ℕ). name ++ 32 ∷ rest) (spoken_text_is (arg_text x) xs)

-- the words of arguments, one by one
pub arguments_split : (ks : List ArgKind) (found : List Arg) (text : List ℕ) → 0 < length ks → AreArgs ks found → text ≡ arguments_text found → slice_split (λ b. eqb b 32) text ≡ map arg_text found
arguments_split [] found text some are e = absurd (omega arith)
arguments_split (k ∷ ks) [] text some are e = absurd are
arguments_split (k ∷ ks) (a ∷ more) text some are e =
    let l = args_lack 32 (k ∷ ks) (a ∷ more) space_parting are in
    ap (slice_split (λ b. eqb b 32)) e ∙ split_join 32 (arg_text a) (map arg_text more) l

-- no two lists of arguments have one spelling
pub arguments_are_one : (ks : List ArgKind) (xs ys : List Arg) → 0 < length ks → AreArgs ks xs → AreArgs ks ys → arguments_text xs ≡ arguments_text ys → xs ≡ ys
arguments_are_one ks xs ys some ix iy e =
    args_are_one ks xs ys ix iy (sym (arguments_split ks xs (arguments_text xs) some ix refl) ∙ arguments_split ks ys (arguments_text xs) some iy e)

-- no line's end stands in arguments
pub arguments_lack_end : (ks : List ArgKind) (xs : List Arg) → 0 < length ks → AreArgs ks xs → lacks 10 (arguments_text xs) ≡ true
arguments_lack_end [] xs some is = absurd (omega arith)
arguments_lack_end (k ∷ ks) [] some is = absurd is
arguments_lack_end (k ∷ ks) (a ∷ more) some is = join_lacks 10 32 (arg_text a) (map arg_text more) (λ e. cc) (args_lack 10 (k ∷ ks) (a ∷ more) end_parting is)

-- Events: what parts a call from its reply stands in no call.
use Rattle.std.proofs.Common.{lit<, ◌≡◌, ℕ, ◌+◌, ◌^◌, ◌<◌, true, false, eqb, List, [], ◌∷◌, ◌++◌, map, refl, ◌∙◌, sym, subst, arith, append_assoc, decimal, ℤ, pos, negsuc}
use Rattle.std.specs.Prelude.{codes}
use Rattle.std.specs.List.{AllByRecursion, join_with_byte}
use Rattle.std.proofs.lemmas.Bool.{ne_eqb}
use Rattle.std.proofs.lemmas.Fmt.{decimal_injective}
use Rattle.base.specs.declared.levels.Level.{Level}
use Rattle.base.specs.declared.levels.Level.TheVariants.{Star, L0, L1, L2, L3}
use Rattle.base.specs.declared.sets.TypeSet.{TypeSet}
use Rattle.base.specs.declared.sets.Rights.{Rights}
use Rattle.kernel_rules.specs.declared.calls.Call.{Call}
use Rattle.kernel_rules.specs.declared.calls.Query.{Query}
use Rattle.text_words.specs.Lacks.{lacks, AllLack}
use Rattle.text_words.specs.Label.{LabelValue, label_text, IsLabel, pair_text, IsPair}
use Rattle.text_words.specs.LevelWord.{level_text}
use Rattle.text_words.specs.RightsWord.{rights_text}
use Rattle.text_words.specs.SignedWord.{signed_text, IsSigned}
use Rattle.text_words.specs.Name.{is_name_byte}
use Rattle.text_words.specs.DataWord.{data_text, IsData}
use Rattle.text_words.specs.TypeWord.{types_text}
use Rattle.text_words.specs.declared.references.Reference.{Reference}
use Rattle.text_words.specs.declared.spoken_labels.SpokenPair.{SpokenPair}
use Rattle.text_words.specs.Reference.{reference_text, IsReference}
use Rattle.text_words.proofs.Split.{cond_false}
use Rattle.text_words.proofs.SignedLemmas.{rights_lack}
use Rattle.text_words.proofs.OneLemmas.{of_each_set, at_set, first_part}
use Rattle.text_words.proofs.LabelLemmas.{before_last}
use Rattle.text_words.proofs.LackLemmas.{lacks-append, decimal_lacks, decimal_lacks_byte, data_lacks, join_lacks, reference_lacks}
use Rattle.text_words.specs.declared.spoken_calls.verbs.Verb.{Verb}
use Rattle.text_words.specs.declared.spoken_calls.verbs.Verb.TheVariants as verbs
use Rattle.text_words.specs.declared.spoken_calls.args.ArgKind.{ArgKind}
use Rattle.text_words.specs.declared.spoken_calls.args.Arg.{Arg}
use Rattle.text_words.specs.declared.spoken_calls.args.Arg.TheVariants as args
use Rattle.text_words.specs.Verb.{name_of, kinds_of}
use Rattle.text_words.specs.Arg.{arg_text, IsArg}
use Rattle.text_words.specs.Spoken.{AreArgs, Spoken, IsSpoken, spoken_text}
use Rattle.text_words.proofs.SpokenLemmas.{spoken_lacks_end}
use Rattle.text_words.proofs.PartLemmas.{not_in}
use Rattle.kernel_rules.specs.declared.histories.events.Answered.{Answered}
use Rattle.dump_text.specs.declared.events.Single.{Single}
use Rattle.dump_text.specs.Call.{call_text, IsCall, spoken_of}
use Rattle.dump_text.specs.Query.{query_text, IsQuery, query_spoken}
use Rattle.dump_text.specs.Report.{report_text}
use Rattle.dump_text.specs.Event.{answered_text, IsAnswered, single_text, IsSingle}
use Rattle.dump_text.proofs.CallLemmas.{call_is_one}
use Rattle.dump_text.proofs.ReportLemmas.{number_lacks, report_lacks_end, report_is_one}

-- a byte that stands in no word
record IsApart (c : ℕ) : Type 0 where
  away : (d : ℕ) → d < 10 → 48 + d ≡ c → ⊥
  hash : 35 ≡ c → ⊥
  comma : 44 ≡ c → ⊥
  dash : 45 ≡ c → ⊥
  colon : 58 ≡ c → ⊥
  opening : 123 ≡ c → ⊥
  closing : 125 ≡ c → ⊥
  names : is_name_byte c ≡ false
  bytes : (d : List ℕ) → IsData d → lacks c (data_text d) ≡ true
  levels : (l : Level) → lacks c (level_text l) ≡ true
  types : (s : TypeSet) → lacks c (types_text s) ≡ true
  rights : (r : Rights) → lacks c (rights_text r) ≡ true

reference_lacks_it : (c : ℕ) → IsApart c → (r : Reference) → IsReference r → lacks c (reference_text r) ≡ true
reference_lacks_it c apart r is = reference_lacks c r apart.away apart.hash apart.names is

signed_lacks_it : (c : ℕ) → IsApart c → (z : ℤ) → IsSigned z → lacks c (signed_text z) ≡ true
signed_lacks_it c apart (pos n) is = let small : n < 2 ^ 31 = is.sfits in decimal_lacks_byte c n apart.away (omega arith)
signed_lacks_it c apart (negsuc n) is = let small : n < 2 ^ 31 = is.sfits in rw (ne_eqb 45 c apart.dash) (decimal_lacks_byte c (n + 1) apart.away (omega arith))

pair_lacks_it : (c : ℕ) → IsApart c → (p : SpokenPair) → IsPair p → lacks c (pair_text p) ≡ true
pair_lacks_it c apart p is = lacks-append c (reference_text p.category) (58 ∷ level_text p.level) (reference_lacks_it c apart p.category is) (rw (ne_eqb 58 c apart.colon) (apart.levels p.level))

parts_lack_it : (c : ℕ) → IsApart c → (ps : List SpokenPair) (l : Level) → AllByRecursion IsPair ps → AllLack c (map pair_text ps ++ level_text l ∷ [])
parts_lack_it c apart [] l h = (apart.levels l, tt)
parts_lack_it c apart (p ∷ ps) l h = (pair_lacks_it c apart p h.0, parts_lack_it c apart ps l h.1)

joined_lacks_it : (c : ℕ) → IsApart c → (ps : List SpokenPair) (l : Level) → AllByRecursion IsPair ps → lacks c (join_with_byte 44 (map pair_text ps ++ level_text l ∷ [])) ≡ true
joined_lacks_it c apart [] l h = apart.levels l
joined_lacks_it c apart (p ∷ ps) l h = join_lacks c 44 (pair_text p) (map pair_text ps ++ level_text l ∷ []) apart.comma (parts_lack_it c apart (p ∷ ps) l h)

label_lacks_it : (c : ℕ) → IsApart c → (l : LabelValue) → IsLabel l → lacks c (label_text l) ≡ true
label_lacks_it c apart l is =
    rw (ne_eqb 123 c apart.opening) (lacks-append c (join_with_byte 44 (map pair_text l.pairs ++ level_text l.default ∷ [])) (125 ∷ []) (joined_lacks_it c apart l.pairs l.default is.pairs) (rw (ne_eqb 125 c apart.closing) refl))

arg_lacks_it : (c : ℕ) → IsApart c → (k : ArgKind) (a : Arg) → IsArg k a → lacks c (arg_text a) ≡ true
arg_lacks_it c apart k (args.Object r) is = reference_lacks_it c apart r is.fits
arg_lacks_it c apart k (args.Number n) is = let small : n < 2 ^ 32 = is.fits in decimal_lacks_byte c n apart.away (omega arith)
arg_lacks_it c apart k (args.Wide n) is = decimal_lacks_byte c n apart.away is.fits
arg_lacks_it c apart k (args.Signed z) is = signed_lacks_it c apart z is.fits
arg_lacks_it c apart k (args.Label l) is = label_lacks_it c apart l is.fits
arg_lacks_it c apart k (args.Data d) is = apart.bytes d is.fits
arg_lacks_it c apart k (args.Types s) is = apart.types s
arg_lacks_it c apart k (args.Rights r) is = apart.rights r

args_lack_it : (c : ℕ) → IsApart c → (ks : List ArgKind) (xs : List Arg) → AreArgs ks xs → AllLack c (map arg_text xs)
args_lack_it c apart [] [] h = tt
args_lack_it c apart [] (a ∷ xs) h = absurd h
args_lack_it c apart (k ∷ ks) [] h = absurd h
args_lack_it c apart (k ∷ ks) (a ∷ xs) h = (arg_lacks_it c apart k a h.0, args_lack_it c apart ks xs h.1)

spoken_lacks_it : (c : ℕ) → IsApart c → (32 ≡ c → ⊥) → (r : Spoken) → IsSpoken r → lacks c (name_of r.verb) ≡ true → lacks c (spoken_text r) ≡ true
spoken_lacks_it c apart space r is name = join_lacks c 32 (name_of r.verb) (map arg_text r.args) space (name, args_lack_it c apart (kinds_of r.verb) r.args is)

-- an equals sign
levels_lack_sign : (l : Level) → lacks 61 (level_text l) ≡ true
levels_lack_sign Star = refl
levels_lack_sign L0 = refl
levels_lack_sign L1 = refl
levels_lack_sign L2 = refl
levels_lack_sign L3 = refl

types_lack_sign : (s : TypeSet) → lacks 61 (types_text s) ≡ true
unfolding of_each_set
types_lack_sign s = at_set (λ x. lacks 61 (types_text x)) s refl

sign_apart : IsApart 61
sign_apart = record {
  away = λ d lt e. omega arith;
  hash = λ e. omega arith;
  comma = λ e. omega arith;
  dash = λ e. omega arith;
  colon = λ e. omega arith;
  opening = λ e. omega arith;
  closing = λ e. omega arith;
  names = refl;
  bytes = λ d is. data_lacks 61 d refl is;
  levels = levels_lack_sign;
  types = types_lack_sign;
  rights = rights_lack 61 refl;
}

name_lacks_sign : (v : Verb) → lacks 61 (name_of v) ≡ true
name_lacks_sign verbs.CatCreate = refl
name_lacks_sign verbs.SelfSetLabel = refl
name_lacks_sign verbs.SelfSetClearance = refl
name_lacks_sign verbs.SelfSetAs = refl
name_lacks_sign verbs.ContainerCreate = refl
name_lacks_sign verbs.SegmentCreate = refl
name_lacks_sign verbs.SegmentCopy = refl
name_lacks_sign verbs.AsCreate = refl
name_lacks_sign verbs.ThreadCreate = refl
name_lacks_sign verbs.GateCreate = refl
name_lacks_sign verbs.Link = refl
name_lacks_sign verbs.Unref = refl
name_lacks_sign verbs.QuotaMove = refl
name_lacks_sign verbs.SetFixed = refl
name_lacks_sign verbs.SetImmutable = refl
name_lacks_sign verbs.MetaSet = refl
name_lacks_sign verbs.SegmentResize = refl
name_lacks_sign verbs.SegmentWrite = refl
name_lacks_sign verbs.AsMap = refl
name_lacks_sign verbs.AsUnmap = refl
name_lacks_sign verbs.Store = refl
name_lacks_sign verbs.GateEnter = refl
name_lacks_sign verbs.DevSend = refl
name_lacks_sign verbs.DevRecv = refl
name_lacks_sign verbs.SelfGet = refl
name_lacks_sign verbs.ObjLabel = refl
name_lacks_sign verbs.ObjQuota = refl
name_lacks_sign verbs.ContainerList = refl
name_lacks_sign verbs.ContainerParent = refl
name_lacks_sign verbs.SegmentLen = refl
name_lacks_sign verbs.SegmentRead = refl
name_lacks_sign verbs.MetaGet = refl
name_lacks_sign verbs.AsGet = refl
name_lacks_sign verbs.Load = refl

call_lacks_sign : (c : Call) → IsCall c → lacks 61 (call_text c) ≡ true
call_lacks_sign c is = spoken_lacks_it 61 sign_apart (λ e. omega arith) (spoken_of c) is (name_lacks_sign (spoken_of c).verb)

pub query_lacks_sign : (q : Query) → IsQuery q → lacks 61 (query_text q) ≡ true
query_lacks_sign q is = spoken_lacks_it 61 sign_apart (λ e. omega arith) (query_spoken q) is (name_lacks_sign (query_spoken q).verb)

-- where the sign stands
answer_shape : (call reply : List ℕ) → call ++ codes " => " ++ reply ≡ (call ++ 32 ∷ []) ++ 61 ∷ 62 ∷ 32 ∷ reply
answer_shape call reply = append_assoc call (codes " => ") reply ∙ sym (append_assoc call (32 ∷ []) (61 ∷ 62 ∷ 32 ∷ reply))

spaced_lacks : (call : List ℕ) → lacks 61 call ≡ true → lacks 61 (call ++ 32 ∷ []) ≡ true
spaced_lacks call l = lacks-append 61 call (32 ∷ []) l refl

pub lacks_front : (c : ℕ) (xs ys : List ℕ) → lacks c (xs ++ ys) ≡ true → lacks c xs ≡ true
lacks_front c [] ys h = refl
lacks_front c (x ∷ xs) ys h = let p = cond_false (eqb x c) (lacks c (xs ++ ys)) h in rw p.0 (lacks_front c xs ys p.1)

pub no_answer : (text call reply : List ℕ) → lacks 61 text ≡ true → text ≡ call ++ codes " => " ++ reply → ⊥
no_answer text call reply l e = not_in 61 (call ++ 32 ∷ []) (62 ∷ 32 ∷ reply) (subst (λ (x : List ℕ). lacks 61 x ≡ true) (e ∙ answer_shape call reply) l)

pub answer_first : (text before behind call reply : List ℕ) → text ≡ before ++ 61 ∷ behind → lacks 61 before ≡ true → lacks 61 call ≡ true → text ≡ call ++ codes " => " ++ reply → (before ≡ call ++ 32 ∷ []) × (behind ≡ 62 ∷ 32 ∷ reply)
answer_first text before behind call reply parts lb lc e = first_part 61 before (call ++ 32 ∷ []) behind (62 ∷ 32 ∷ reply) lb (spaced_lacks call lc) (sym parts ∙ e ∙ answer_shape call reply)

-- what parts them stands where it does
pub parts_same : (rest first behind call reply : List ℕ) → lacks 61 first ≡ true → lacks 61 call ≡ true → rest ≡ first ++ codes " => " ++ behind → rest ≡ call ++ codes " => " ++ reply → (call ≡ first) × (reply ≡ behind)
parts_same rest first behind call reply lf lc spelled parts =
    let f = answer_first rest (first ++ 32 ∷ []) (62 ∷ 32 ∷ behind) call reply (spelled ∙ answer_shape first behind) (spaced_lacks first lf) lc parts in
    (before_last call first 32 (sym f.0), cc)

pub answer_same : (rest : List ℕ) (a : Answered) → IsAnswered a → rest ≡ answered_text a → (call reply : List ℕ) → rest ≡ call ++ codes " => " ++ reply → lacks 61 call ≡ true → (call ≡ call_text a.call) × (reply ≡ report_text a.reply)
answer_same rest a is spelled call reply parts lack = parts_same rest (call_text a.call) (report_text a.reply) call reply (call_lacks_sign a.call is.call) lack spelled parts

pub no_call : (rest : List ℕ) (a : Answered) → IsAnswered a → rest ≡ answered_text a → ((call reply : List ℕ) → lacks 61 call ≡ true → rest ≡ call ++ codes " => " ++ reply → ⊥) → ⊥
no_call rest a is at none = none (call_text a.call) (report_text a.reply) (call_lacks_sign a.call is.call) at

pub answered_lacks_end : (a : Answered) → IsAnswered a → lacks 10 (answered_text a) ≡ true
answered_lacks_end a is = lacks-append 10 (call_text a.call ++ codes " => ") (report_text a.reply) (lacks-append 10 (call_text a.call) (codes " => ") (spoken_lacks_end (spoken_of a.call) is.call) refl) (report_lacks_end a.reply is.reply)

-- no two calls with their replies have one spelling
pub answered_is_one : (a b : Answered) → IsAnswered a → IsAnswered b → answered_text a ≡ answered_text b → a ≡ b
answered_is_one a b ia ib same =
    let p = answer_same (answered_text a) b ib same (call_text a.call) (report_text a.reply) refl (call_lacks_sign a.call ia.call) in
    let r = call_is_one a.call b.call ia.call ib.call p.0 in
    let s = report_is_one a.reply b.reply ia.reply ib.reply p.1 in
    (λ i. record { call = r i; reply = s i })

-- the parts of an event, one by one
module _ (text thread more : List ℕ) (e : Single) (is : IsSingle e) (spelled : text ≡ single_text e) where
  pub no_thread : lacks 32 text ≡ true → ⊥
  no_thread l = not_in 32 (decimal e.thread) (decimal e.number ++ 32 ∷ answered_text e.answered) (subst (λ (x : List ℕ). lacks 32 x ≡ true) spelled l)

  module _ (parts : text ≡ thread ++ 32 ∷ more) (lack : lacks 32 thread ≡ true) where
    pub thread_is : (thread ≡ decimal e.thread) × (more ≡ decimal e.number ++ 32 ∷ answered_text e.answered)
    thread_is = first_part 32 thread (decimal e.thread) more (decimal e.number ++ 32 ∷ answered_text e.answered) lack (number_lacks e.thread is.thread) (sym parts ∙ spelled)

    pub no_number : lacks 32 more ≡ true → ⊥
    no_number l = not_in 32 (decimal e.number) (answered_text e.answered) (subst (λ (x : List ℕ). lacks 32 x ≡ true) thread_is.1 l)

    module _ (number rest : List ℕ) (parts' : more ≡ number ++ 32 ∷ rest) (lack' : lacks 32 number ≡ true) where
      pub number_is : (number ≡ decimal e.number) × (rest ≡ answered_text e.answered)
      number_is = first_part 32 number (decimal e.number) rest (answered_text e.answered) lack' (number_lacks e.number is.number) (sym parts' ∙ thread_is.1)

pub single_lacks_end : (e : Single) → IsSingle e → lacks 10 (single_text e) ≡ true
single_lacks_end e is =
    lacks-append 10 (decimal e.thread) (32 ∷ (decimal e.number ++ 32 ∷ answered_text e.answered)) (number_lacks_end e.thread is.thread)
    (lacks-append 10 (decimal e.number) (32 ∷ answered_text e.answered) (number_lacks_end e.number is.number) (answered_lacks_end e.answered is.answered))
  where
    number_lacks_end : (n : ℕ) → n < 2 ^ 64 → lacks 10 (decimal n) ≡ true
    number_lacks_end n lt = decimal_lacks 10 n (lit< tt) lt

-- no two events have one spelling
pub single_is_one : (e f : Single) → IsSingle e → IsSingle f → single_text e ≡ single_text f → e ≡ f
single_is_one e f ie if' same =
    let t = thread_is (single_text e) (decimal e.thread) (decimal e.number ++ 32 ∷ answered_text e.answered) f if' same refl (number_lacks e.thread ie.thread) in
    let n = number_is (single_text e) (decimal e.thread) (decimal e.number ++ 32 ∷ answered_text e.answered) f if' same refl (number_lacks e.thread ie.thread) (decimal e.number) (answered_text e.answered) refl (number_lacks e.number ie.number) in
    let p = decimal_injective e.thread f.thread ie.thread if'.thread t.0 in
    let q = decimal_injective e.number f.number ie.number if'.number n.0 in
    let r = answered_is_one e.answered f.answered ie.answered if'.answered n.1 in
    (λ i. record { thread = p i; number = q i; answered = r i })

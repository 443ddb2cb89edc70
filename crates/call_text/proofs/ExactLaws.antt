-- The lines of an exact script have no quotes, and each says something.
use Rattle.std.proofs.Common.{◌≡◌, ℕ, ◌+◌, ◌≤◌, ◌<◌, ◌^◌, true, false, eqb, leb, Bool, List, [], ◌∷◌, ◌++◌, length, Option, Some, None, map, refl, sym, ap, ◌∙◌, arith}
use Rattle.std.specs.List.{AllByRecursion, list_all}
use Rattle.std.proofs.lemmas.Bool.{leb-false, eq-eqb}
use Rattle.std.proofs.lemmas.List.{append_assoc}
use Rattle.base.specs.declared.sets.TypeSet.{TypeSet}
use Rattle.text_words.specs.Lacks.{lacks, AllLack}
use Rattle.text_words.specs.Name.{IsName}
use Rattle.text_words.specs.TypeWord.{types_text}
use Rattle.text_words.proofs.LackLemmas.{lacks-append, join_lacks, name_lacks}
use Rattle.text_words.proofs.OneLemmas.{at_set, of_each_set}
use Rattle.text_words.proofs.Outside.{IsOutside, name_outside}
use Rattle.text_words.proofs.SignedLemmas.{rights_lack}
use Rattle.text_words.proofs.Split.{cond_false}
use Rattle.text_words.specs.Arg.{arg_text}
use Rattle.text_words.specs.Spoken.{AreArgs, IsSpoken, Spoken, spoken_text}
use Rattle.text_words.specs.Verb.{kinds_of, name_of}
use Rattle.text_words.specs.declared.spoken_calls.args.Arg.{Arg}
use Rattle.text_words.specs.declared.spoken_calls.args.ArgKind.{ArgKind}
use Rattle.text_words.specs.declared.spoken_calls.verbs.Verb.{Verb}
use Rattle.text_words.specs.declared.spoken_calls.verbs.Verb.TheVariants as verbs
use Rattle.text_words.proofs.SpokenLemmas.{arg_outside}
use Rattle.call_text.specs.Line.{Written, Break, Said, Saying, mark, said_text, IsSaid, written_text, IsWritten, FitsWritten}
use Rattle.call_text.specs.Script.{Earlier, bind, binds_of, next, with_both}
use Rattle.call_text.specs.Batch.{opens_after}
use Rattle.call_text.specs.declared.batches.Open.{Open}
use Rattle.call_text.specs.Text.{lines_text, run}
use Rattle.call_text.proofs.LineLemmas.{script_grammar}
use Rattle.call_text.specs.Lines.{is_silent, plain_line}
use Rattle.call_text.specs.Scripts.{counts_from, line_number, line_text, next_number, numbers_from, text_from, plain_text}
use Rattle.call_text.proofs.LineLaws.{numbers_after, text_after, unquoted}

types_lack : (s : TypeSet) → lacks 34 (types_text s) ≡ true
unfolding of_each_set
types_lack s = at_set (λ x. lacks 34 (types_text x)) s refl

quote_outside : IsOutside 34
quote_outside = record { low = omega arith; digits = refl; names = refl; types = types_lack; rights = rights_lack 34 refl }

verb_lacks : (v : Verb) → lacks 34 (name_of v) ≡ true
verb_lacks verbs.CatCreate = refl
verb_lacks verbs.SelfSetLabel = refl
verb_lacks verbs.SelfSetClearance = refl
verb_lacks verbs.SelfSetAs = refl
verb_lacks verbs.ContainerCreate = refl
verb_lacks verbs.SegmentCreate = refl
verb_lacks verbs.SegmentCopy = refl
verb_lacks verbs.AsCreate = refl
verb_lacks verbs.ThreadCreate = refl
verb_lacks verbs.GateCreate = refl
verb_lacks verbs.Link = refl
verb_lacks verbs.Unref = refl
verb_lacks verbs.QuotaMove = refl
verb_lacks verbs.SetFixed = refl
verb_lacks verbs.SetImmutable = refl
verb_lacks verbs.MetaSet = refl
verb_lacks verbs.SegmentResize = refl
verb_lacks verbs.SegmentWrite = refl
verb_lacks verbs.AsMap = refl
verb_lacks verbs.AsUnmap = refl
verb_lacks verbs.Store = refl
verb_lacks verbs.GateEnter = refl
verb_lacks verbs.DevSend = refl
verb_lacks verbs.DevRecv = refl
verb_lacks verbs.SelfGet = refl
verb_lacks verbs.ObjLabel = refl
verb_lacks verbs.ObjQuota = refl
verb_lacks verbs.ContainerList = refl
verb_lacks verbs.ContainerParent = refl
verb_lacks verbs.SegmentLen = refl
verb_lacks verbs.SegmentRead = refl
verb_lacks verbs.MetaGet = refl
verb_lacks verbs.AsGet = refl
verb_lacks verbs.Load = refl

args_lack : (ks : List ArgKind) (found : List Arg) → AreArgs ks found → AllLack 34 (map arg_text found)
args_lack [] [] h = tt
args_lack [] (a ∷ more) h = absurd h
args_lack (k ∷ ks) [] h = absurd h
args_lack (k ∷ ks) (a ∷ more) h = (arg_outside 34 k a quote_outside h.0, args_lack ks more h.1)

spoken_lacks : (v : Spoken) → IsSpoken v → lacks 34 (spoken_text v) ≡ true
spoken_lacks v is =
    join_lacks 34 32 (name_of v.verb) (map arg_text v.args) (λ e. cc) (verb_lacks v.verb, args_lack (kinds_of v.verb) v.args is)

mark_lacks : (m : Bool) → lacks 34 (mark m) ≡ true
mark_lacks false = refl
mark_lacks true = refl

said_lacks : (v : Saying) → IsSaid v → lacks 34 (said_text v) ≡ true
said_lacks v is =
    lacks-append 34 (v.0 ++ mark v.1) (32 ∷ spoken_text v.2)
    (lacks-append 34 v.0 (mark v.1) (name_outside 34 v.0 quote_outside is.0) (mark_lacks v.1)) (spoken_lacks v.2 is.1)

written_lacks : (a : Written) → IsWritten a → lacks 34 (written_text a) ≡ true
written_lacks Break is = refl
written_lacks (Said None w m c) is = said_lacks (w, m, c) is
written_lacks (Said (Some n) w m c) is =
    lacks-append 34 (n ++ 32 ∷ 61 ∷ 32 ∷ []) (said_text (w, m, c))
    (lacks-append 34 n (32 ∷ 61 ∷ 32 ∷ []) (name_outside 34 n quote_outside is.0) refl) (said_lacks (w, m, c) is.1)

-- a text that begins with a name is no comment
name_is_loud : (name more : List ℕ) → IsName name → is_silent (name ++ more) ≡ false
name_is_loud [] more is = absurd cc
name_is_loud (b ∷ name) more is = (cond_false (eqb b 35) (lacks 35 name) (name_lacks 35 (b ∷ name) refl is)).0

written_is_loud : (a : Written) → IsWritten a → is_silent (written_text a) ≡ false
written_is_loud Break is = refl
written_is_loud (Said None w m c) is =
    ap is_silent (append_assoc w (mark m) (32 ∷ spoken_text c)) ∙ name_is_loud w (mark m ++ 32 ∷ spoken_text c) is.0
written_is_loud (Said (Some n) w m c) is =
    ap is_silent (append_assoc n (32 ∷ 61 ∷ 32 ∷ []) (said_text (w, m, c))) ∙ name_is_loud n (32 ∷ 61 ∷ 32 ∷ said_text (w, m, c)) is.0

-- a line that says something, and has no quotes
loud_text : (line : List ℕ) → is_silent line ≡ false → lacks 34 line ≡ true → line_text line ≡ line ++ 10 ∷ []
loud_text line loud lack = rw loud (ap (λ l. l ++ 10 ∷ []) (unquoted line lack))

pub lines_are_plain : (vs : List Written) → AllByRecursion FitsWritten vs → plain_text (lines_text written_text vs) ≡ lines_text written_text vs
lines_are_plain [] all = refl
lines_are_plain (v ∷ vs) all =
    let text = written_text v in
    let rest = lines_text written_text vs in
    ap plain_text (append_assoc text (10 ∷ []) rest)
    ∙ text_after [] text rest (script_grammar.lacks_end v all.0)
    ∙ ap (λ (l : List ℕ). l ++ plain_text rest)
    (loud_text text (written_is_loud v all.0.written) (written_lacks v all.0.written))
    ∙ ap (λ (l : List ℕ). (text ++ 10 ∷ []) ++ l) (lines_are_plain vs all.1)

-- what may stand after so many lines makes one more of them
both_lines : (n : ℕ) (bound : Option (List (List ℕ))) (batches : Option (List Open)) (t : Earlier)
    → with_both n bound batches ≡ Some t → t.lines ≡ n
both_lines n (Some bound) (Some batches) t e = let k : t ≡ record { lines = n; bound = bound; open_batches = batches } = cc in ap (λ (x : Earlier). x.lines) k
both_lines n (Some bound) None t e = absurd cc
both_lines n None batches t e = absurd cc

one_more : (s t : Earlier) (l : Written) → next s l ≡ Some t → (t.lines ≡ s.lines + 1) × (s.lines < 65536)
unfolding next
one_more s t l e = go (leb 65536 s.lines) refl
  where
    go : (b : Bool) → leb 65536 s.lines ≡ b → (t.lines ≡ s.lines + 1) × (s.lines < 65536)
    go true h = absurd (let k : None ≡ Some t = rw h at e in cc)
    go false h =
        let k : with_both (s.lines + 1) (bind s.bound (binds_of l)) (opens_after (s.lines + 1) s.open_batches l) ≡ Some t = rw h at e in
        (both_lines (s.lines + 1) (bind s.bound (binds_of l)) (opens_after (s.lines + 1) s.open_batches l) t k, omega (arith, leb-false 65536 s.lines h))

none_runs : (vs : List Written) (t : Earlier) → run next None vs ≡ Some t → ⊥
none_runs vs t e = cc

-- a script has at most 65,536 lines
pub few_lines : (s t : Earlier) (vs : List Written) → run next (Some s) vs ≡ Some t → s.lines ≤ 65536 → s.lines + length vs ≤ 65536
few_lines s t [] e small = omega arith
few_lines s t (v ∷ vs) e small = go (next s v) refl (λ u. few_lines u t vs)
  where
    go : (o : Option Earlier) → next s v ≡ o
        → ((u : Earlier) → run next (Some u) vs ≡ Some t → u.lines ≤ 65536 → u.lines + length vs ≤ 65536)
        → s.lines + length (v ∷ vs) ≤ 65536
    go None h later = absurd (none_runs vs t (ap (λ (x : Option Earlier). run next x vs) (sym h) ∙ e))
    go (Some u) h later =
        let one = one_more s u v h in
        let rest = later u (ap (λ (x : Option Earlier). run next x vs) (sym h) ∙ e) (omega (arith, one.0, one.1)) in
        omega (arith, one.0, rest)

-- the lines of an exact script keep their numbers
pub lines_count : (n : ℕ) (vs : List Written) → AllByRecursion FitsWritten vs → n + length vs < 2 ^ 32
    → counts_from n (numbers_from n [] (lines_text written_text vs)) ≡ true
lines_count n [] all few = refl
lines_count n (v ∷ vs) all few =
    let text = written_text v in
    let rest = lines_text written_text vs in
    let number : line_number n text ≡ n ∷ [] = rw (written_is_loud v all.0.written) refl in
    let later : next_number n ≡ n + 1 = omega arith in
    let same : numbers_from n [] (lines_text written_text (v ∷ vs)) ≡ n ∷ numbers_from (n + 1) [] rest =
    ap (numbers_from n []) (append_assoc text (10 ∷ []) rest) ∙ numbers_after n [] text rest (script_grammar.lacks_end v all.0)
    ∙ ap (λ (l : List ℕ). l ++ numbers_from (next_number n) [] rest) number
    ∙ ap (λ m. n ∷ numbers_from m [] rest) later in
    ap (counts_from n) same ∙ rw (eq-eqb n n refl) (lines_count (n + 1) vs all.1 (omega arith))

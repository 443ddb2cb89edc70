-- Where a text stops being the beginning of a well-formed one: right at its beginning, or after what is right.
use Rattle.std.proofs.Common.{◌≡◌, ◌∙◌, ◌+◌, ℕ, zero, suc, ◌<◌, ◌≤◌, drop, true, false, Bool, get_or, slice_index_or, List, [], ◌∷◌, ◌++◌, length, take, Option, Some, None, inl, inr, refl, sym, ap, subst, arith, append_assoc, length-append}
use Rattle.std.proofs.Math.Seq.{take-append-add, drop-append-add}
use Rattle.text_words.specs.Lacks.{lacks}
use Rattle.text_words.proofs.LackLemmas.{lacks-append}
use Rattle.text_words.proofs.Outside.{space_outside, name_outside}
use Rattle.text_words.specs.declared.spoken_calls.args.Arg.{Arg}
use Rattle.text_words.specs.declared.spoken_calls.args.ArgKind.{ArgKind}
use Rattle.text_words.specs.declared.spoken_calls.verbs.Verb.{Verb}
use Rattle.text_words.specs.Spoken.{IsRest, AreArgs, arguments_text}
use Rattle.text_words.proofs.FurtherLemmas.{word_is}
use Rattle.text_words.proofs.SpokenLemmas.{arg_outside, name_lacks_space}
use Rattle.call_text.specs.Line.{mark}
use Rattle.check_text.specs.declared.line_faults.expected.Expected.{Expected}
use Rattle.check_text.specs.declared.line_faults.expected.Expected.TheVariants as expected
use Rattle.check_text.specs.declared.line_faults.expected.LineFault.{LineFault}
use Rattle.check_text.specs.Faults.{IsWorker, IsExpected, IsArgument, AllFollow, BeginsWith, EndsWord, GoesOn, MayFollow, StopsAt, TellsFault, further, space_before}

pub mark_lacks : (m : Bool) → lacks 32 (mark m) ≡ true
mark_lacks false = refl
mark_lacks true = refl

worker_lacks : (m : Bool) (word : List ℕ) → IsWorker m word → lacks 32 word ≡ true
worker_lacks m word is = rw is.2 (lacks-append 32 is.0 (mark m) (name_outside 32 is.0 space_outside is.1) (mark_lacks m))

-- no space stands in a word that is expected
expected_lacks : (e : Expected) (word : List ℕ) → IsExpected e word → lacks 32 word ≡ true
expected_lacks expected.Beginning word (inl is) = rw is refl
expected_lacks expected.Beginning word (inr (inl is)) = name_outside 32 word space_outside is
expected_lacks expected.Beginning word (inr (inr (inl is))) = worker_lacks false word is
expected_lacks expected.Beginning word (inr (inr (inr is))) = worker_lacks true word is
expected_lacks expected.Equals word is = rw is refl
expected_lacks expected.Worker word (inl is) = worker_lacks false word is
expected_lacks expected.Worker word (inr is) = worker_lacks true word is
expected_lacks (expected.Call binds more) word is = rw is.2 (name_lacks_space is.0)
expected_lacks (expected.Argument kind) word is = rw is.2 (arg_outside 32 kind is.0 space_outside is.1)
expected_lacks expected.End word is = absurd is

-- what a text begins with, after the space that stands before it
after_space : (e : Expected) (rest word : List ℕ) → space_before e ++ rest ≡ space_before e ++ word → rest ≡ word
after_space expected.Beginning rest word e = e
after_space expected.Equals rest word e = cc
after_space expected.Worker rest word e = cc
after_space (expected.Call binds more) rest word e = cc
after_space (expected.Argument kind) rest word e = cc
after_space expected.End rest word e = cc

-- a text whose first word is none that is expected
pub other_word : (e : Expected) (text word rest : List ℕ) → text ≡ space_before e ++ (word ++ rest) → lacks 32 word ≡ true → IsRest rest
    → (IsExpected e word → ⊥) → BeginsWith e text → ⊥
other_word e text word rest parts lack is none (begun, more, fits, more_is, same) =
    let texts : word ++ rest ≡ begun ++ more = after_space e (word ++ rest) (begun ++ more) (sym parts ∙ same) in
    let first : word ≡ begun = (word_is word begun rest more lack (expected_lacks e begun fits) is more_is texts).0 in
    none (subst (IsExpected e) (sym first) fits)

-- a text that begins with no space
pub no_word : (e : Expected) (text : List ℕ) → space_before e ≡ 32 ∷ [] → ((r : List ℕ) → text ≡ 32 ∷ r → ⊥) → BeginsWith e text → ⊥
no_word e text space none (begun, more, fits, more_is, same) = none (begun ++ more) (same ∙ ap (λ (s : List ℕ). s ++ (begun ++ more)) space)

-- a text that stops right at its beginning
pub stops_here : {V : Type 0} (text : V → List ℕ) (Fits : V → Type 0) (bytes : List ℕ) (e : Expected) → ((v : V) → Fits v → GoesOn e (text v))
    → AllFollow e (MayFollow text Fits []) → (GoesOn e bytes → ⊥) → StopsAt text Fits bytes (record { before = 0; expected = e })
stops_here text Fits bytes e follows all stops = record {
  within = omega arith;
  ends = tt;
  follows = λ more may. subst (GoesOn e) may.2 (follows may.0 may.1);
  all = all;
  stops = stops;
}

-- Well-formed texts that begin with these words go on with the rest of one, and all rests follow them. A rest begins with a space.
pub record Continues {U V : Type 0} (front : List ℕ) (part : U → List ℕ) (PartFits : U → Type 0) (text : V → List ℕ) (Fits : V → Type 0) : Type 0 where
  pub spaced : (u : U) → PartFits u → IsRest (part u)
  pub on : (u : U) → PartFits u → (v : V) × Fits v × (text v ≡ front ++ part u)
  pub back : (v : V) → Fits v → (after : List ℕ) → IsRest after → text v ≡ front ++ after → (u : U) × PartFits u × (part u ≡ after)

-- where words end
ends_to : (front other more : List ℕ) → 1 ≤ length front → IsRest more → EndsWord (front ++ other) more
ends_to [] other more some is = absurd (omega arith)
ends_to (b ∷ front) other more some is = is

ends_from : (front other more : List ℕ) → 1 ≤ length front → EndsWord (front ++ other) more → IsRest more
ends_from [] other more some is = absurd (omega arith)
ends_from (b ∷ front) other more some is = is

ends_any : (front more : List ℕ) → IsRest more → EndsWord front more
ends_any [] more is = tt
ends_any (b ∷ front) more is = is

ends_of : (front more : List ℕ) → IsRest (front ++ more) → EndsWord front more → IsRest more
ends_of [] more is ends = is
ends_of (b ∷ front) more is ends = ends

rest_before : (rest : List ℕ) (k : ℕ) (more : List ℕ) → IsRest rest → IsRest more → IsRest (take k rest ++ more)
rest_before [] zero more is then = then
rest_before [] (suc k) more is then = then
rest_before (b ∷ rest) zero more is then = then
rest_before (b ∷ rest) (suc k) more is then = is

rest_after : (rest : List ℕ) (k : ℕ) → IsRest rest → EndsWord (take k rest) (drop k rest) → IsRest (drop k rest)
rest_after [] zero is ends = is
rest_after [] (suc k) is ends = tt
rest_after (b ∷ rest) zero is ends = is
rest_after (b ∷ rest) (suc k) is ends = ends

-- what all follow where others do
all_follow : (e : Expected) (F G : List ℕ → Type 0) → ((more : List ℕ) → F more → G more) → AllFollow e F → AllFollow e G
all_follow expected.Beginning F G on all = λ word is. let one = all word is in (one.0, one.1, on (word ++ one.0) one.2)
all_follow expected.Equals F G on all = λ word is. let one = all word is in (one.0, one.1, on (32 ∷ (word ++ one.0)) one.2)
all_follow expected.Worker F G on all = λ word is. let one = all word is in (one.0, one.1, on (32 ∷ (word ++ one.0)) one.2)
all_follow (expected.Call binds more) F G on all = λ word is. let one = all word is in (one.0, one.1, on (32 ∷ (word ++ one.0)) one.2)
all_follow (expected.Argument kind) F G on all = λ word is. let one = all word is in (one.0, one.1, on (32 ∷ (word ++ one.0)) one.2)
all_follow expected.End F G on all = on [] all

-- a fault of the rest is one of the whole
pub stops_after : {U V : Type 0} (front rest bytes : List ℕ) (n : ℕ) (part : U → List ℕ) (PartFits : U → Type 0) (text : V → List ℕ) (Fits : V → Type 0)
    → Continues front part PartFits text Fits → 1 ≤ length front → IsRest rest → bytes ≡ front ++ rest → n ≡ length front
    → (found : Option LineFault) → TellsFault part PartFits rest found → TellsFault text Fits bytes (further n found)
stops_after front rest bytes n part PartFits text Fits continues some spaced is len None told =
    let v = continues.on told.0 told.1 in
    (v.0, v.1, is ∙ ap (λ (r : List ℕ). front ++ r) told.2 ∙ sym v.2)
stops_after front rest bytes n part PartFits text Fits continues some spaced is len (Some f) told =
    let t : take (length front + f.before) (front ++ rest) ≡ front ++ take f.before rest = take-append-add front rest f.before in
    let d : drop (length front + f.before) (front ++ rest) ≡ drop f.before rest = drop-append-add front rest f.before in
    rw (is, len) (record {
      within = let k = told.within in let l = length-append front rest in omega arith;
      ends = rw (t, d) (ends_to front (take f.before rest) (drop f.before rest) some (rest_after rest f.before spaced told.ends));
      follows = rw t (λ more may.
          let then : IsRest more = ends_from front (take f.before rest) more some may.3 in
          let u = continues.back may.0 may.1 (take f.before rest ++ more) (rest_before rest f.before more spaced then)
          (may.2 ∙ append_assoc front (take f.before rest) more) in
          told.follows more (u.0, u.1, u.2, ends_any (take f.before rest) more then));
      all = rw t (all_follow f.expected (MayFollow part PartFits (take f.before rest)) (MayFollow text Fits (front ++ take f.before rest)) (λ more may.
          let v = continues.on may.0 may.1 in
          let then : IsRest more = ends_of (take f.before rest) more (subst IsRest may.2 (continues.spaced may.0 may.1)) may.3 in (
            v.0,
            v.1,
            v.2 ∙ ap (λ (r : List ℕ). front ++ r) may.2 ∙ sym (append_assoc front (take f.before rest) more),
            ends_to front (take f.before rest) more some then,
          )) told.all);
      stops = λ h. told.stops (subst (GoesOn f.expected) d h);
    })

-- one word that was read as an argument
pub one_argument : (k : ArgKind) (word : List ℕ) (found : List Arg) → AreArgs (k ∷ []) found → word ≡ arguments_text found → IsArgument k word
one_argument k word [] are is = absurd are
one_argument k word (a ∷ []) are is = (a, are.0, is)
one_argument k word (a ∷ b ∷ more) are is = absurd are.1

-- and one that was not
pub no_argument : (k : ArgKind) (word : List ℕ) → ((found : List Arg) → AreArgs (k ∷ []) found → word ≡ arguments_text found → ⊥) → IsArgument k word → ⊥
no_argument k word none is = none (is.0 ∷ []) (is.1, tt) is.2

-- a call that stands at a place of a list
pub in_place : (vs : List Verb) (k : ℕ) (v d : Verb) → k < length vs → slice_index_or vs k v ≡ v → get_or vs k d ≡ v
in_place [] k v d lt is = absurd (omega arith)
in_place (x ∷ vs) zero v d lt is = is
in_place (x ∷ vs) (suc k) v d lt is = in_place vs k v d (omega arith) is

-- a text that goes on with an expected word does so whatever follows the word
same_begins : (e : Expected) (word rest more : List ℕ) → lacks 32 word ≡ true → IsRest rest → IsRest more
    → BeginsWith e (space_before e ++ (word ++ more)) → BeginsWith e (space_before e ++ (word ++ rest))
same_begins e word rest more lack rest_is more_is (begun, other, fits, other_is, same) =
    let p = word_is word begun more other lack (expected_lacks e begun fits) more_is other_is (after_space e (word ++ more) (begun ++ other) same) in
    (word, rest, subst (IsExpected e) (sym p.0) fits, rest_is, refl)

pub same_goes_on : (e : Expected) (word rest more : List ℕ) → lacks 32 word ≡ true → IsRest rest → IsRest more
    → GoesOn e (space_before e ++ (word ++ more)) → GoesOn e (space_before e ++ (word ++ rest))
same_goes_on expected.Beginning word rest more lack rest_is more_is goes = same_begins expected.Beginning word rest more lack rest_is more_is goes
same_goes_on expected.Equals word rest more lack rest_is more_is goes = same_begins expected.Equals word rest more lack rest_is more_is goes
same_goes_on expected.Worker word rest more lack rest_is more_is goes = same_begins expected.Worker word rest more lack rest_is more_is goes
same_goes_on (expected.Call binds goes_on) word rest more lack rest_is more_is goes =
    same_begins (expected.Call binds goes_on) word rest more lack rest_is more_is goes
same_goes_on (expected.Argument kind) word rest more lack rest_is more_is goes =
    same_begins (expected.Argument kind) word rest more lack rest_is more_is goes
same_goes_on expected.End word rest more lack rest_is more_is goes = absurd cc

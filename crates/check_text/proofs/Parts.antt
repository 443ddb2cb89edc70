-- The fault of each part of a line: a word is missing or another one, or the fault is that of the rest.
use Rattle.std.proofs.Common.{◌≡◌, eqb, length-append, ◌≤◌, ◌+◌, ◌-◌, ◌∙◌, ℕ, true, false, Bool, List, [], ◌∷◌, ◌++◌, length, take, drop, get_or, codes, Option, Some, None, inl, inr, refl, sym, ap, subst, arith, append_assoc, not, ◌||◌}
use Rattle.std.proofs.Math.Seq.{take-length}
use Rattle.text_words.specs.Lacks.{lacks}
use Rattle.text_words.specs.Name.{is_name, IsName}
use Rattle.text_words.proofs.LackLemmas.{lacks-append, name_lacks}
use Rattle.text_words.proofs.Outside.{space_outside, name_outside}
use Rattle.text_words.proofs.Split.{both_true, cond_false}
use Rattle.text_words.specs.declared.spoken_calls.args.Arg.{Arg}
use Rattle.text_words.specs.declared.spoken_calls.args.ArgKind.{ArgKind}
use Rattle.text_words.specs.declared.spoken_calls.verbs.Verb.{Verb}
use Rattle.text_words.specs.Spoken.{AreArgs, IsRest, further_text, call_with, spoken_text}
use Rattle.text_words.specs.Verb.{name_of, kinds_of, makes, writes}
use Rattle.text_words.specs.Arg.{arg_text}
use Rattle.text_words.specs.Spoken.{Spoken}
use Rattle.text_words.proofs.FurtherLemmas.{word_is}
use Rattle.text_words.proofs.SpokenLemmas.{arg_outside, name_lacks_space, spoken_text_is, verb_is}
use Rattle.call_text.specs.Line.{Break, Said, Saying, Written, mark, said_text, written_text, IsWritten}
use Rattle.call_text.proofs.LineLemmas.{mark_same}
use Rattle.check_text.specs.declared.line_faults.expected.Expected.{Expected}
use Rattle.check_text.specs.declared.line_faults.expected.Expected.TheVariants as expected
use Rattle.check_text.specs.declared.line_faults.expected.LineFault.{LineFault}
use Rattle.check_text.specs.Faults.{suits, IsWorker, IsArgument, IsVerb, IsExpected, TellsFault, TellsArgument, further, call_after, IsCall, making_after, IsMaking, bound_after}
use Rattle.check_text.proofs.FaultLemmas.{Continues, mark_lacks, stops_here, stops_after, other_word, no_word}
use Rattle.check_text.proofs.Samples.{further_is_rest, args_go_on, args_follow, calls_go_on, calls_follow, makings_go_on, makings_follow, bounds_go_on, bounds_follow, lines_go_on, lines_follow}

-- what is told right where a text begins
abbrev pub told_here : Expected → Option LineFault
told_here e = Some (record { before = 0; expected = e })

pub missing_arg : (ks : List ArgKind) (d : ArgKind) (text : List ℕ) (r : Option LineFault) → 1 ≤ length ks → ((more : List ℕ) → text ≡ 32 ∷ more → ⊥)
    → r ≡ told_here (expected.Argument (get_or ks 0 d)) → TellsFault further_text (AreArgs ks) text r
missing_arg [] d text r some none is = absurd (omega arith)
missing_arg (k ∷ ks) d text r some none is =
    rw is (stops_here further_text (AreArgs (k ∷ ks)) text (expected.Argument k) (args_go_on k ks) (args_follow k ks)
    (no_word (expected.Argument k) text refl none))

no_such : (k : ArgKind) (word : List ℕ) (is_so : Bool) → is_so ≡ false → TellsArgument k word is_so → IsArgument k word → ⊥
no_such k word true e told = absurd cc
no_such k word false e told = told

such : (k : ArgKind) (word : List ℕ) (is_so : Bool) → is_so ≡ true → TellsArgument k word is_so → IsArgument k word
such k word true e told = told
such k word false e told = absurd cc

pub other_arg : (ks : List ArgKind) (d : ArgKind) (text word rest : List ℕ) (is_so : Bool) (r : Option LineFault) → 1 ≤ length ks → text ≡ 32 ∷ (word ++ rest)
    → lacks 32 word ≡ true → IsRest rest → is_so ≡ false → TellsArgument (get_or ks 0 d) word is_so
    → r ≡ told_here (expected.Argument (get_or ks 0 d)) → TellsFault further_text (AreArgs ks) text r
other_arg [] d text word rest is_so r some parts lack is isnt told e = absurd (omega arith)
other_arg (k ∷ ks) d text word rest is_so r some parts lack is isnt told e =
    rw e (stops_here further_text (AreArgs (k ∷ ks)) text (expected.Argument k) (args_go_on k ks) (args_follow k ks)
    (other_word (expected.Argument k) text word rest parts lack is (no_such k word is_so isnt told)))

others_are : (k : ArgKind) (ks : List ArgKind) → take (length (k ∷ ks) - 1) (drop 1 (k ∷ ks)) ≡ ks
others_are k ks = let n : length (k ∷ ks) - 1 ≡ length ks = omega arith in rw (n, take-length ks) refl

-- arguments that begin with this word go on with the others
args_after : (k : ArgKind) (ks : List ArgKind) (word : List ℕ) → lacks 32 word ≡ true
    → (xs : List Arg) → AreArgs (k ∷ ks) xs → (after : List ℕ) → IsRest after → further_text xs ≡ 32 ∷ (word ++ after)
    → (others : List Arg) × AreArgs ks others × (further_text others ≡ after)
args_after k ks word lack [] are after is e = absurd are
args_after k ks word lack (x ∷ xs) are after is e =
    let texts : arg_text x ++ further_text xs ≡ word ++ after = cc in
    let p = word_is (arg_text x) word (further_text xs) after (arg_outside 32 k x space_outside are.0) lack (further_is_rest xs) is texts in
    (xs, are.1, p.1)

pub next_arg : (ks : List ArgKind) (d : ArgKind) (text word rest : List ℕ) (is_so : Bool) (found r : Option LineFault) → 1 ≤ length ks → text ≡ 32 ∷ (word ++ rest)
    → lacks 32 word ≡ true → IsRest rest → is_so ≡ true → TellsArgument (get_or ks 0 d) word is_so
    → TellsFault further_text (AreArgs (take (length ks - 1) (drop 1 ks))) rest found
    → r ≡ further (1 + length word) found → TellsFault further_text (AreArgs ks) text r
next_arg [] d text word rest is_so found r some parts lack spaced ok told more e = absurd (omega arith)
next_arg (k ∷ ks) d text word rest is_so found r some parts lack spaced ok told more e =
    let one = such k word is_so ok told in
    let on : Continues (32 ∷ word) further_text (AreArgs ks) further_text (AreArgs (k ∷ ks)) = record {
      spaced = λ xs are. further_is_rest xs;
      on = λ xs are. (one.0 ∷ xs, (one.1, are), ap (λ (w : List ℕ). 32 ∷ (w ++ further_text xs)) (sym one.2));
      back = args_after k ks word lack;
    } in
    let there : TellsFault further_text (AreArgs ks) rest found =
    subst (λ (l : List ArgKind). TellsFault further_text (AreArgs l) rest found) (others_are k ks) more in
    rw e (stops_after (32 ∷ word) rest text (1 + length word) further_text (AreArgs ks) further_text (AreArgs (k ∷ ks)) on (omega arith) spaced parts
    (omega arith) found there)

pub missing_call : (binds more : Bool) (text : List ℕ) (r : Option LineFault) → ((rest : List ℕ) → text ≡ 32 ∷ rest → ⊥)
    → r ≡ told_here (expected.Call binds more) → TellsFault call_after (IsCall binds more) text r
missing_call binds more text r none is =
    rw is (stops_here call_after (IsCall binds more) text (expected.Call binds more) (calls_go_on binds more) (calls_follow binds more)
    (no_word (expected.Call binds more) text refl none))

pub other_call : (binds more : Bool) (text word rest : List ℕ) (r : Option LineFault) → text ≡ 32 ∷ (word ++ rest)
    → lacks 32 word ≡ true → IsRest rest → (IsVerb binds more word → ⊥)
    → r ≡ told_here (expected.Call binds more) → TellsFault call_after (IsCall binds more) text r
other_call binds more text word rest r parts lack is none e =
    rw e (stops_here call_after (IsCall binds more) text (expected.Call binds more) (calls_go_on binds more) (calls_follow binds more)
    (other_word (expected.Call binds more) text word rest parts lack is none))

-- a call that may not stand there
pub not_suited : (binds more : Bool) (word : List ℕ) (verb : Verb) (is_so : Bool) → word ≡ name_of verb → is_so ≡ suits binds more verb → is_so ≡ false
    → IsVerb binds more word → ⊥
not_suited binds more word verb is_so named is isnt other =
    let same : other.0 ≡ verb = verb_is other.0 verb (sym other.2 ∙ named) in
    let e : true ≡ false = sym other.1 ∙ ap (suits binds more) same ∙ sym is ∙ isnt in absurd cc

-- calls whose word this is go on with arguments
call_args_after : (binds more : Bool) (word : List ℕ) (verb : Verb) (ks : List ArgKind) → lacks 32 word ≡ true → word ≡ name_of verb → ks ≡ kinds_of verb
    → (call : Spoken) → IsCall binds more call → (after : List ℕ) → IsRest after → call_after call ≡ 32 ∷ (word ++ after)
    → (xs : List Arg) × AreArgs ks xs × (further_text xs ≡ after)
call_args_after binds more word verb ks lack named kinds call fits after is e =
    let texts : spoken_text call ≡ word ++ after = cc in
    let p = word_is (name_of call.verb) word (further_text call.args) after (name_lacks_space call.verb) lack (further_is_rest call.args) is
    (spoken_text_is (name_of call.verb) call.args ∙ texts) in
    let same : call.verb ≡ verb = verb_is call.verb verb (p.0 ∙ named) in
    (call.args, subst (λ (l : List ArgKind). AreArgs l call.args) (ap kinds_of same ∙ sym kinds) fits.0, p.1)

pub next_call : (binds more : Bool) (text word rest : List ℕ) (verb : Verb) (ks : List ArgKind) (is_so : Bool) (found r : Option LineFault) → text ≡ 32 ∷ (word ++ rest)
    → lacks 32 word ≡ true → IsRest rest → word ≡ name_of verb → is_so ≡ suits binds more verb → is_so ≡ true → ks ≡ kinds_of verb
    → TellsFault further_text (AreArgs ks) rest found
    → r ≡ further (1 + length word) found → TellsFault call_after (IsCall binds more) text r
next_call binds more text word rest verb ks is_so found r parts lack spaced named is ok kinds told e =
    let on : Continues (32 ∷ word) further_text (AreArgs ks) call_after (IsCall binds more) = record {
      spaced = λ xs are. further_is_rest xs;
      on = λ xs are. (
        call_with verb xs,
        (subst (λ (l : List ArgKind). AreArgs l xs) kinds are, sym is ∙ ok),
        ap (λ (t : List ℕ). 32 ∷ t) (sym (spoken_text_is (name_of verb) xs) ∙ ap (λ (w : List ℕ). w ++ further_text xs) (sym named)),
      );
      back = call_args_after binds more word verb ks lack named kinds;
    } in
    rw e (stops_after (32 ∷ word) rest text (1 + length word) further_text (AreArgs ks) call_after (IsCall binds more) on (omega arith) spaced parts
    (omega arith) found told)

pub missing_worker : (text : List ℕ) (r : Option LineFault) → ((rest : List ℕ) → text ≡ 32 ∷ rest → ⊥)
    → r ≡ told_here expected.Worker → TellsFault making_after IsMaking text r
missing_worker text r none is =
    rw is (stops_here making_after IsMaking text expected.Worker makings_go_on makings_follow (no_word expected.Worker text refl none))

no_worker : (word : List ℕ) → ((more : Bool) → IsWorker more word → ⊥) → IsExpected expected.Worker word → ⊥
no_worker word none (inl is) = none false is
no_worker word none (inr is) = none true is

pub other_worker : (text word rest : List ℕ) (r : Option LineFault) → text ≡ 32 ∷ (word ++ rest)
    → lacks 32 word ≡ true → IsRest rest → ((more : Bool) → IsWorker more word → ⊥)
    → r ≡ told_here expected.Worker → TellsFault making_after IsMaking text r
other_worker text word rest r parts lack is none e =
    rw e (stops_here making_after IsMaking text expected.Worker makings_go_on makings_follow
    (other_word expected.Worker text word rest parts lack is (no_worker word none)))

-- where a worker is this word, its name and its mark are
worker_parts : (more : Bool) (word name : List ℕ) (goes_on : Bool) (rest after : List ℕ) → lacks 32 word ≡ true → IsWorker more word → IsName name
    → IsRest rest → IsRest after → (name ++ mark goes_on) ++ rest ≡ word ++ after → (goes_on ≡ more) × (rest ≡ after)
worker_parts more word name goes_on rest after lack is name_is spaced then e =
    let p = word_is (name ++ mark goes_on) word rest after (lacks-append 32 name (mark goes_on) (name_outside 32 name space_outside name_is) (mark_lacks goes_on))
    lack spaced then e in
    ((mark_same name is.0 goes_on more (p.0 ∙ is.2)).1, p.1)

making_call_after : (more : Bool) (word : List ℕ) → lacks 32 word ≡ true → IsWorker more word
    → (said : Saying) → IsMaking said → (after : List ℕ) → IsRest after → making_after said ≡ 32 ∷ (word ++ after)
    → (call : Spoken) × IsCall true more call × (call_after call ≡ after)
making_call_after more word lack is said fits after then e =
    let texts : (said.0 ++ mark said.1) ++ 32 ∷ spoken_text said.2 ≡ word ++ after = cc in
    let p = worker_parts more word said.0 said.1 (32 ∷ spoken_text said.2) after lack is fits.0.0 refl then texts in
    let goes : (not more || writes said.2.verb) ≡ true = subst (λ (m : Bool). (not m || writes said.2.verb) ≡ true) p.0 fits.0.2 in
    (said.2, (fits.0.1, rw (fits.1, goes) refl), p.1)

pub next_worker : (more : Bool) (text word rest : List ℕ) (found r : Option LineFault) → text ≡ 32 ∷ (word ++ rest) → lacks 32 word ≡ true → IsRest rest
    → IsWorker more word → TellsFault call_after (IsCall true more) rest found
    → r ≡ further (1 + length word) found → TellsFault making_after IsMaking text r
next_worker more text word rest found r parts lack spaced is told e =
    let on : Continues (32 ∷ word) call_after (IsCall true more) making_after IsMaking = record {
      spaced = λ call fits. refl;
      on = λ call fits. (
        (is.0, more, call),
        (
          (is.1, fits.0, (both_true (makes call.verb) (not more || writes call.verb) fits.1).1),
          (both_true (makes call.verb) (not more || writes call.verb) fits.1).0,
        ),
        ap (λ (w : List ℕ). 32 ∷ (w ++ 32 ∷ spoken_text call)) (sym is.2),
      );
      back = making_call_after more word lack is;
    } in
    rw e (stops_after (32 ∷ word) rest text (1 + length word) call_after (IsCall true more) making_after IsMaking on (omega arith) spaced parts (omega arith)
    found told)

pub missing_equals : (text : List ℕ) (r : Option LineFault) → ((rest : List ℕ) → text ≡ 32 ∷ rest → ⊥)
    → r ≡ told_here expected.Equals → TellsFault bound_after IsMaking text r
missing_equals text r none is =
    rw is (stops_here bound_after IsMaking text expected.Equals bounds_go_on bounds_follow (no_word expected.Equals text refl none))

pub other_equals : (text word rest : List ℕ) (r : Option LineFault) → text ≡ 32 ∷ (word ++ rest)
    → lacks 32 word ≡ true → IsRest rest → (word ≡ codes "=" → ⊥)
    → r ≡ told_here expected.Equals → TellsFault bound_after IsMaking text r
other_equals text word rest r parts lack is none e =
    rw e (stops_here bound_after IsMaking text expected.Equals bounds_go_on bounds_follow
    (other_word expected.Equals text word rest parts lack is none))

pub next_equals : (text word rest : List ℕ) (found r : Option LineFault) → text ≡ 32 ∷ (word ++ rest) → IsRest rest → word ≡ codes "="
    → TellsFault making_after IsMaking rest found → r ≡ further 2 found → TellsFault bound_after IsMaking text r
next_equals text word rest found r parts spaced is told e =
    let on : Continues (codes " =") making_after IsMaking bound_after IsMaking = record {
      spaced = λ said fits. refl;
      on = λ said fits. (said, fits, refl);
      back = λ said fits after then e. (said, fits, cc);
    } in
    rw e (stops_after (codes " =") rest text 2 making_after IsMaking bound_after IsMaking on (omega arith) spaced
    (parts ∙ ap (λ (w : List ℕ). 32 ∷ (w ++ rest)) is) refl found told)

no_more : (xs : List Arg) → AreArgs [] xs → codes "--" ≡ codes "--" ++ further_text xs
no_more [] are = refl
no_more (x ∷ xs) are = absurd are

none_are_rest : (xs : List Arg) → AreArgs [] xs → IsRest (further_text xs)
none_are_rest xs are = further_is_rest xs

-- a name is no --, and has no colon
no_dash : (name more rest : List ℕ) → IsName name → name ++ more ≡ 45 ∷ rest → ⊥
no_dash [] more rest is e = absurd cc
no_dash (b ∷ name) more rest is e = let same : b ≡ 45 = cc in let no : is_name (45 ∷ name) ≡ true = subst (λ (c : ℕ). is_name (c ∷ name) ≡ true) same is in absurd cc

has_colon : (name : List ℕ) (more : Bool) → lacks 58 (name ++ mark more) ≡ true → ⊥
has_colon [] false h = absurd cc
has_colon [] true h = absurd cc
has_colon (b ∷ name) more h = has_colon name more (cond_false (eqb b 58) (lacks 58 (name ++ mark more)) h).1

no_worker_name : (name other : List ℕ) (more : Bool) → IsName name → name ≡ other ++ mark more → ⊥
no_worker_name name other more is e = has_colon other more (subst (λ (w : List ℕ). lacks 58 w ≡ true) e (name_lacks 58 name refl is))

name_lacks_spaces : (name : List ℕ) → IsName name → lacks 32 name ≡ true
name_lacks_spaces name is = name_outside 32 name space_outside is

some_name : (name : List ℕ) → IsName name → 1 ≤ length name
some_name [] is = absurd cc
some_name (b ∷ name) is = omega arith

some_worker : (more : Bool) (word : List ℕ) → IsWorker more word → 1 ≤ length word
some_worker more word is = let n = some_name is.0 is.1 in rw (is.2, length-append is.0 (mark more)) (omega (arith, n))

-- what follows -- is nothing
break_after : (line : Written) → IsWritten line → (after : List ℕ) → IsRest after → written_text line ≡ codes "--" ++ after
    → (xs : List Arg) × AreArgs [] xs × (further_text xs ≡ after)
break_after Break is after then e = ([], tt, cc)
break_after (Said None worker more call) is after then e =
    absurd (no_dash worker (mark more ++ 32 ∷ spoken_text call) (45 ∷ after) is.0 (sym (append_assoc worker (mark more) (32 ∷ spoken_text call)) ∙ e))
break_after (Said (Some name) worker more call) is after then e =
    absurd (no_dash name (codes " = " ++ said_text (worker, more, call)) (45 ∷ after) is.0
    (sym (append_assoc name (codes " = ") (said_text (worker, more, call))) ∙ e))

-- a line that parts phases
pub next_break : (line word rest : List ℕ) (found r : Option LineFault) → line ≡ word ++ rest → IsRest rest → word ≡ codes "--"
    → TellsFault further_text (AreArgs []) rest found → r ≡ further 2 found → TellsFault written_text IsWritten line r
next_break line word rest found r parts spaced is told e =
    let on : Continues (codes "--") further_text (AreArgs []) written_text IsWritten = record {
      spaced = none_are_rest;
      on = λ xs are. (Break, tt, no_more xs are);
      back = break_after;
    } in
    rw e (stops_after (codes "--") rest line 2 further_text (AreArgs []) written_text IsWritten on (omega arith) spaced
    (parts ∙ ap (λ (w : List ℕ). w ++ rest) is) refl found told)

-- what follows a worker is its call
saying_call_after : (more : Bool) (word : List ℕ) → lacks 32 word ≡ true → IsWorker more word
    → (line : Written) → IsWritten line → (after : List ℕ) → IsRest after → written_text line ≡ word ++ after
    → (call : Spoken) × IsCall false more call × (call_after call ≡ after)
saying_call_after more word lack w Break is after then e =
    absurd (no_dash w.0 (mark more ++ after) (codes "-") w.1
    (sym (append_assoc w.0 (mark more) after) ∙ ap (λ (t : List ℕ). t ++ after) (sym w.2) ∙ sym e))
saying_call_after more word lack w (Said None worker goes_on call) is after then e =
    let p = worker_parts more word worker goes_on (32 ∷ spoken_text call) after lack w is.0 refl then e in
    let goes : (not more || writes call.verb) ≡ true = subst (λ (m : Bool). (not m || writes call.verb) ≡ true) p.0 is.2 in
    (call, (is.1, goes), p.1)
saying_call_after more word lack w (Said (Some name) worker goes_on call) is after then e =
    let p = word_is name word (bound_after (worker, goes_on, call)) after (name_lacks_spaces name is.0) lack refl then
    (sym (append_assoc name (codes " = ") (said_text (worker, goes_on, call))) ∙ e) in
    absurd (no_worker_name name w.0 more is.0 (p.0 ∙ w.2))

-- a line that binds no name
pub next_saying : (more : Bool) (line word rest : List ℕ) (found r : Option LineFault) → line ≡ word ++ rest → lacks 32 word ≡ true → IsRest rest
    → IsWorker more word
    → TellsFault call_after (IsCall false more) rest found → r ≡ further (length word) found → TellsFault written_text IsWritten line r
next_saying more line word rest found r parts lack spaced is told e =
    let on : Continues word call_after (IsCall false more) written_text IsWritten = record {
      spaced = λ call fits. refl;
      on = λ call fits. (
        Said None is.0 more call,
        (is.1, fits.0, fits.1),
        ap (λ (w : List ℕ). w ++ 32 ∷ spoken_text call) (sym is.2),
      );
      back = saying_call_after more word lack is;
    } in
    rw e (stops_after word rest line (length word) call_after (IsCall false more) written_text IsWritten on (some_worker more word is) spaced parts refl
    found told)

-- what follows a name that is bound
bound_saying_after : (word : List ℕ) → lacks 32 word ≡ true → IsName word
    → (line : Written) → IsWritten line → (after : List ℕ) → IsRest after → written_text line ≡ word ++ after
    → (said : Saying) × IsMaking said × (bound_after said ≡ after)
bound_saying_after word lack name_is Break is after then e = absurd (no_dash word after (codes "-") name_is (sym e))
bound_saying_after word lack name_is (Said None worker goes_on call) is after then e =
    let p = word_is (worker ++ mark goes_on) word (32 ∷ spoken_text call) after
    (lacks-append 32 worker (mark goes_on) (name_lacks_spaces worker is.0) (mark_lacks goes_on)) lack refl then e in
    absurd (no_worker_name word worker goes_on name_is (sym p.0))
bound_saying_after word lack name_is (Said (Some name) worker goes_on call) is after then e =
    let p = word_is name word (bound_after (worker, goes_on, call)) after (name_lacks_spaces name is.0) lack refl then
    (sym (append_assoc name (codes " = ") (said_text (worker, goes_on, call))) ∙ e) in
    ((worker, goes_on, call), (is.1, is.2), p.1)

-- a line that binds one
pub next_bound : (line word rest : List ℕ) (found r : Option LineFault) → line ≡ word ++ rest → lacks 32 word ≡ true → IsRest rest → IsName word
    → TellsFault bound_after IsMaking rest found → r ≡ further (length word) found → TellsFault written_text IsWritten line r
next_bound line word rest found r parts lack spaced is told e =
    let on : Continues word bound_after IsMaking written_text IsWritten = record {
      spaced = λ said fits. refl;
      on = λ said fits. (
        Said (Some word) said.0 said.1 said.2,
        (is, fits.0, fits.1),
        append_assoc word (codes " = ") (said_text said),
      );
      back = bound_saying_after word lack is;
    } in
    rw e (stops_after word rest line (length word) bound_after IsMaking written_text IsWritten on (some_name word is) spaced parts refl found told)

no_beginning : (word : List ℕ) → (word ≡ codes "--" → ⊥) → (IsName word → ⊥) → ((more : Bool) → IsWorker more word → ⊥) → IsExpected expected.Beginning word → ⊥
no_beginning word dash name worker (inl is) = dash is
no_beginning word dash name worker (inr (inl is)) = name is
no_beginning word dash name worker (inr (inr (inl is))) = worker false is
no_beginning word dash name worker (inr (inr (inr is))) = worker true is

-- a line that begins with another word
pub other_line : (line word rest : List ℕ) (r : Option LineFault) → line ≡ word ++ rest → lacks 32 word ≡ true → IsRest rest
    → (word ≡ codes "--" → ⊥) → (IsName word → ⊥) → ((more : Bool) → IsWorker more word → ⊥)
    → r ≡ told_here expected.Beginning → TellsFault written_text IsWritten line r
other_line line word rest r parts lack is dash name worker e =
    rw e (stops_here written_text IsWritten line expected.Beginning lines_go_on lines_follow
    (other_word expected.Beginning line word rest parts lack is (no_beginning word dash name worker)))

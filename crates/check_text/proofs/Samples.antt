-- Well-formed texts go on with what is expected, and with all of it.
use Rattle.std.proofs.Common.{◌∙◌, ℕ, true, false, Bool, List, [], ◌∷◌, ◌++◌, codes, pos, Some, None, inl, inr, refl, sym, ap, arith, append_assoc}
use Rattle.std.proofs.lemmas.List.{append-nil}
use Rattle.base.specs.declared.levels.Level.TheVariants.{L1}
use Rattle.base.specs.Sets.{no_kind, no_right}
use Rattle.text_words.specs.declared.references.Reference.TheVariants.{Number}
use Rattle.text_words.specs.declared.spoken_calls.args.Arg.{Arg}
use Rattle.text_words.specs.declared.spoken_calls.args.Arg.TheVariants as args
use Rattle.text_words.specs.declared.spoken_calls.args.ArgKind.{ArgKind}
use Rattle.text_words.specs.declared.spoken_calls.args.ArgKind.TheVariants as kinds
use Rattle.text_words.specs.declared.spoken_calls.verbs.Verb.TheVariants.{CatCreate}
use Rattle.text_words.specs.Arg.{arg_text, IsArg}
use Rattle.text_words.specs.Spoken.{Spoken, AreArgs, IsRest, further_text, call_with, spoken_text}
use Rattle.text_words.specs.Verb.{name_of, kinds_of}
use Rattle.text_words.proofs.SpokenLemmas.{spoken_text_is}
use Rattle.text_words.specs.Name.{IsName}
use Rattle.call_text.specs.Line.{Break, Said, Saying, Written, IsWritten, mark, said_text, written_text}
use Rattle.check_text.specs.declared.line_faults.expected.Expected.TheVariants as expected
use Rattle.check_text.specs.Faults.{AllFollow, IsCall, IsExpected, IsMaking, GoesOn, MayFollow, call_after, making_after, bound_after}

-- an argument of each kind
abbrev pub some_arg : ArgKind → Arg
some_arg kinds.Object = args.Object (Number 1)
some_arg kinds.Number = args.Number 1
some_arg kinds.Wide = args.Wide 1
some_arg kinds.Signed = args.Signed (pos 1)
some_arg kinds.Label = args.Label (record { pairs = []; default = L1 })
some_arg kinds.Data = args.Data []
some_arg kinds.Types = args.Types no_kind
some_arg kinds.Rights = args.Rights no_right

pub some_is : (k : ArgKind) → IsArg k (some_arg k)
some_is kinds.Object = record { kind_is = refl; fits = omega arith }
some_is kinds.Number = record { kind_is = refl; fits = omega arith }
some_is kinds.Wide = record { kind_is = refl; fits = omega arith }
some_is kinds.Signed = record { kind_is = refl; fits = omega arith }
some_is kinds.Label = record { kind_is = refl; fits = record { pairs = tt; few = omega arith } }
some_is kinds.Data = record { kind_is = refl; fits = record { few = omega arith; bytes = λ i. omega arith } }
some_is kinds.Types = record { kind_is = refl; fits = tt }
some_is kinds.Rights = record { kind_is = refl; fits = tt }

-- and of each list of kinds
abbrev pub some_args : List ArgKind → List Arg
some_args [] = []
some_args (k ∷ ks) = some_arg k ∷ some_args ks

pub some_are : (ks : List ArgKind) → AreArgs ks (some_args ks)
some_are [] = tt
some_are (k ∷ ks) = (some_is k, some_are ks)

pub further_is_rest : (xs : List Arg) → IsRest (further_text xs)
further_is_rest [] = tt
further_is_rest (x ∷ xs) = refl

pub args_go_on : (k : ArgKind) (ks : List ArgKind) (xs : List Arg) → AreArgs (k ∷ ks) xs → GoesOn (expected.Argument k) (further_text xs)
args_go_on k ks [] are = absurd are
args_go_on k ks (x ∷ xs) are = (arg_text x, further_text xs, (x, are.0, refl), further_is_rest xs, refl)

pub args_follow : (k : ArgKind) (ks : List ArgKind) → AllFollow (expected.Argument k) (MayFollow further_text (AreArgs (k ∷ ks)) [])
args_follow k ks = λ word is.
    let xs = some_args ks in (
      further_text xs,
      further_is_rest xs,
      (is.0 ∷ xs, (is.1, some_are ks), ap (λ (w : List ℕ). 32 ∷ (w ++ further_text xs)) (sym is.2), tt),
    )

pub calls_go_on : (binds more : Bool) (call : Spoken) → IsCall binds more call → GoesOn (expected.Call binds more) (call_after call)
calls_go_on binds more call fits = (
  name_of call.verb,
  further_text call.args,
  (call.verb, fits.1, refl),
  further_is_rest call.args,
  ap (λ (t : List ℕ). 32 ∷ t) (sym (spoken_text_is (name_of call.verb) call.args)),
)

pub calls_follow : (binds more : Bool) → AllFollow (expected.Call binds more) (MayFollow call_after (IsCall binds more) [])
calls_follow binds more = λ word is.
    let xs = some_args (kinds_of is.0) in (
      further_text xs,
      further_is_rest xs,
      (
        call_with is.0 xs,
        (some_are (kinds_of is.0), is.1),
        ap (λ (t : List ℕ). 32 ∷ t) (sym (spoken_text_is (name_of is.0) xs) ∙ ap (λ (w : List ℕ). w ++ further_text xs) (sym is.2)),
        tt,
      ),
    )

-- a call that makes something, with a worker
abbrev any_call : Spoken
any_call = call_with CatCreate []

abbrev after_worker : List ℕ
after_worker = 32 ∷ spoken_text any_call

abbrev any_saying : Saying
any_saying = (codes "a", false, any_call)

saying_fits : IsMaking any_saying
saying_fits = ((refl, tt, refl), refl)

worker_is : (more : Bool) (name : List ℕ) → IsName name → IsExpected expected.Worker (name ++ mark more)
worker_is false name is = inl (name, is, refl)
worker_is true name is = inr (name, is, refl)

pub makings_go_on : (said : Saying) → IsMaking said → GoesOn expected.Worker (making_after said)
makings_go_on said fits = (said.0 ++ mark said.1, 32 ∷ spoken_text said.2, worker_is said.1 said.0 fits.0.0, refl, refl)

pub makings_follow : AllFollow expected.Worker (MayFollow making_after IsMaking [])
makings_follow word (inl is) =
    (after_worker, refl, ((is.0, false, any_call), ((is.1, tt, refl), refl), ap (λ (w : List ℕ). 32 ∷ (w ++ after_worker)) (sym is.2), tt))
makings_follow word (inr is) =
    (after_worker, refl, ((is.0, true, any_call), ((is.1, tt, refl), refl), ap (λ (w : List ℕ). 32 ∷ (w ++ after_worker)) (sym is.2), tt))

pub bounds_go_on : (said : Saying) → IsMaking said → GoesOn expected.Equals (bound_after said)
bounds_go_on said fits = (codes "=", 32 ∷ said_text said, refl, refl, refl)

pub bounds_follow : AllFollow expected.Equals (MayFollow bound_after IsMaking [])
bounds_follow = λ word is. (
  32 ∷ said_text any_saying,
  refl,
  (any_saying, saying_fits, ap (λ (w : List ℕ). 32 ∷ (w ++ 32 ∷ said_text any_saying)) (sym is), tt),
)

pub lines_go_on : (line : Written) → IsWritten line → GoesOn expected.Beginning (written_text line)
lines_go_on Break is = (codes "--", [], inl refl, tt, refl)
lines_go_on (Said None worker false call) is = (worker ++ mark false, 32 ∷ spoken_text call, inr (inr (inl (worker, is.0, refl))), refl, refl)
lines_go_on (Said None worker true call) is = (worker ++ mark true, 32 ∷ spoken_text call, inr (inr (inr (worker, is.0, refl))), refl, refl)
lines_go_on (Said (Some name) worker more call) is =
    (name, bound_after (worker, more, call), inr (inl is.0), refl, append_assoc name (codes " = ") (said_text (worker, more, call)))

pub lines_follow : AllFollow expected.Beginning (MayFollow written_text IsWritten [])
lines_follow word (inl is) = ([], tt, (Break, tt, sym (append-nil word ∙ is), tt))
lines_follow word (inr (inl is)) = (
  bound_after any_saying,
  refl,
  (Said (Some word) (codes "a") false any_call, (is, saying_fits.0, saying_fits.1), append_assoc word (codes " = ") (said_text any_saying), tt),
)
lines_follow word (inr (inr (inl is))) =
    (after_worker, refl, (Said None is.0 false any_call, (is.1, tt, refl), ap (λ (w : List ℕ). w ++ after_worker) (sym is.2), tt))
lines_follow word (inr (inr (inr is))) =
    (after_worker, refl, (Said None is.0 true any_call, (is.1, tt, refl), ap (λ (w : List ℕ). w ++ after_worker) (sym is.2), tt))

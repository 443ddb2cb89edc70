-- Reading what stands after a line's first word.
use Rattle.std.proofs.Common.{◌≡◌, ℕ, ◌<◌, List, [], ◌∷◌, ◌++◌, length, Bool, false, Option, Some, None, ap, ◌∙◌, sym, subst}
use Rattle.std.specs.Global.{Vec}
use Rattle.text_words.specs.Reading.{Reads}
use Rattle.text_words.specs.declared.spoken_calls.args.ArgKind.{ArgKind}
use Rattle.text_words.specs.declared.spoken_calls.args.Arg.{Arg}
use Rattle.text_words.specs.Spoken.{AreArgs, ReadsArguments, arguments_text}
use Rattle.text_words.proofs.SpokenLemmas.{arguments_are_one}
use Rattle.dump_text.specs.declared.words.Word.{Word}
use Rattle.dump_text.specs.Word.{args_of, words_text}
use Rattle.dump_text.specs.Making.{Makes, Fills}
use Rattle.dump_text.specs.Allowed.{AreAllowed}

-- what comes after one beginning
pub cancel : (b x y : List ℕ) → b ++ x ≡ b ++ y → x ≡ y
cancel [] x y e = e
cancel (c ∷ b) x y e = cancel b x y cc

-- no arguments of the kinds
pub no_args : {V : Type 0} (words : V → List Word) (Allows : V → Type 0) (ks : List ArgKind) (b text rest : List ℕ) (r : Option (Vec Arg)) → r ≡ None → ReadsArguments ks rest r → text ≡ b ++ rest → (v : V) → AreAllowed ks words Allows v → text ≡ b ++ words_text (words v) → ⊥
no_args words Allows ks b text rest r none read is v allowed e =
    let h = subst (λ (x : Option (Vec Arg)). ReadsArguments ks rest x) none read in
    h (args_of (words v)) allowed.0 (cancel b rest (words_text (words v)) (sym is ∙ e))

some_args : (ks : List ArgKind) (rest : List ℕ) (r : Option (Vec Arg)) (v : Vec Arg) → r ≡ Some v → ReadsArguments ks rest r → AreArgs ks v.items × (rest ≡ arguments_text v.items)
some_args ks rest r v some read = subst (λ (x : Option (Vec Arg)). ReadsArguments ks rest x) some read

-- what is made of the arguments is what the text spells
pub made : {V : Type 0} (words : V → List Word) (Allows : V → Type 0) (ks : List ArgKind) (b text rest : List ℕ) (r : Option (Vec Arg)) (args : Vec Arg) (found : List Arg) (o : Option V) → 0 < length ks → r ≡ Some args → ReadsArguments ks rest r → text ≡ b ++ rest → found ≡ args.items → Makes words Allows found o → Reads (λ v. b ++ words_text (words v)) (AreAllowed ks words Allows) text o
made words Allows ks b text rest r args found (Some v) positive some read is same m =
    let p = some_args ks rest r args some read in
    let args_are : args.items ≡ args_of (words v) = sym same ∙ m.0 in
    ((subst (λ (xs : List Arg). AreArgs ks xs) args_are p.0, m.1), is ∙ ap (λ (x : List ℕ). b ++ x) (p.1 ∙ ap arguments_text args_are))
made words Allows ks b text rest r args found None positive some read is same m = λ v allowed e.
    let p = some_args ks rest r args some read in
    m v allowed.1 (same ∙ arguments_are_one ks args.items (args_of (words v)) positive p.0 allowed.0 (sym p.1 ∙ cancel b rest (words_text (words v)) (sym is ∙ e)))

-- what was not filled in is not spelled
pub not_filled : {V : Type 0} (text : V → List ℕ) (Fits : V → Type 0) (word : List ℕ) (v : V) (b : Bool) → b ≡ false → Fills text Fits word v b → (w : V) → Fits w → word ≡ text w → ⊥
not_filled text Fits word v b not h = subst (λ (x : Bool). Fills text Fits word v x) not h

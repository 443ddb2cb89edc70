-- The arguments of a call, one by one.
use Rattle.std.proofs.Common.{◌≡◌, ℕ, suc, ◌+◌, ◌-◌, ◌<◌, ◌≤◌, Bool, true, false, eqb, List, [], ◌∷◌, ◌++◌, length, get_or, take, drop, take_at, Some, refl, ap, ◌∙◌, sym, subst, arith, append_assoc}
use Rattle.std.proofs.lemmas.List.{take_more, append-nil}
use Rattle.std.proofs.lemmas.Bool.{eqb-false}
use Rattle.std.proofs.lemmas.Grind.{flat_map-append}
use Rattle.std.proofs.Math.Seq.{drop-cons, take-length}
use Rattle.text_words.specs.Lacks.{lacks}
use Rattle.text_words.proofs.Split.{cond_false}
use Rattle.text_words.proofs.Outside.{space_outside}
use Rattle.text_words.specs.declared.spoken_calls.args.ArgKind.{ArgKind}
use Rattle.text_words.specs.declared.spoken_calls.args.Arg.{Arg}
use Rattle.text_words.specs.Arg.{arg_text, IsArg, AddsArg}
use Rattle.text_words.specs.declared.spoken_calls.verbs.Verb.{Verb}
use Rattle.text_words.specs.Verb.{name_of, kinds_of}
use Rattle.text_words.specs.Spoken.{AreArgs, IsRest, further_text, arguments_text, AddsArgs, ReadsInto, Spoken, IsSpoken, spoken_text, call_with}
use Rattle.text_words.proofs.SpokenLemmas.{AreArgs-push, arg_outside, spoken_text_is, name_lacks_space}

further_is_rest : (xs : List Arg) → IsRest (further_text xs)
further_is_rest [] = tt
further_is_rest (x ∷ xs) = refl

-- a rest begins with no other byte
begins : (b : ℕ) (bytes r : List ℕ) → IsRest r → r ≡ b ∷ bytes → b ≡ 32
begins b bytes [] is e = absurd cc
begins b bytes (c ∷ r) is e = let k : c ≡ b = cc in sym k ∙ is

-- a word and its rest stand in a text in one way
pub word_is : (w x r m : List ℕ) → lacks 32 w ≡ true → lacks 32 x ≡ true → IsRest r → IsRest m → w ++ r ≡ x ++ m → (w ≡ x) × (r ≡ m)
word_is [] [] r m lw lx ir im e = (refl, e)
word_is [] (d ∷ x) r m lw lx ir im e = absurd (eqb-false d 32 (cond_false (eqb d 32) (lacks 32 x) lx).0 (begins d (x ++ m) r ir e))
word_is (d ∷ w) [] r m lw lx ir im e = absurd (eqb-false d 32 (cond_false (eqb d 32) (lacks 32 w) lw).0 (begins d (w ++ r) m im (sym e)))
word_is (c ∷ w) (d ∷ x) r m lw lx ir im e =
    let p = word_is w x r m (cond_false (eqb c 32) (lacks 32 w) lw).1 (cond_false (eqb d 32) (lacks 32 x) lx).1 ir im cc in
    let h : c ≡ d = cc in
    (cc, p.1)

-- a word that was read as the first of these
pub record FirstArg (k : ArgKind) (ks : List ArgKind) (word left : List ℕ) : Type 0 where
  pub arg : Arg
  pub is_arg : IsArg k arg
  pub word_is_its : word ≡ arg_text arg
  pub more : List Arg
  pub are : AreArgs ks more
  pub left_is : left ≡ further_text more

pub first_arg : (k : ArgKind) (ks : List ArgKind) (word left : List ℕ) (a : Arg) (more : List Arg) → lacks 32 word ≡ true → IsRest left → IsArg k a → AreArgs ks more → word ++ left ≡ arg_text a ++ further_text more → FirstArg k ks word left
first_arg k ks word left a more lack rest is are e =
    let p = word_is word (arg_text a) left (further_text more) lack (arg_outside 32 k a space_outside is) rest (further_is_rest more) e in
    record { arg = a; is_arg = is; word_is_its = p.0; more = more; are = are; left_is = p.1 }

-- the arguments so far, and what may come after them
pub record ArgsRead (ks : List ArgKind) (text : List ℕ) (old items : List Arg) (i : ℕ) (rest : List ℕ) : Type 0 where
  pub found : List Arg
  pub are : AreArgs (take i ks) found
  pub front : text ≡ further_text found ++ rest
  pub items_are : items ≡ old ++ found
  pub onward : (all : List Arg) → AreArgs ks all → text ≡ further_text all
      → (more : List Arg) × AreArgs (drop i ks) more × (rest ≡ further_text more)

next_of : (k : ArgKind) (ks : List ArgKind) (rest after word left : List ℕ) (more : List Arg) → rest ≡ 32 ∷ after → after ≡ word ++ left → lacks 32 word ≡ true → IsRest left → AreArgs (k ∷ ks) more → rest ≡ further_text more → FirstArg k ks word left
next_of k ks rest after word left [] space parts lack is are e = absurd are
next_of k ks rest after word left (a ∷ more) space parts lack is are e =
    let h : after ≡ arg_text a ++ further_text more = (let j = sym space ∙ e in cc) in
    first_arg k ks word left a more lack is are.0 are.1 (sym parts ∙ h)

-- an argument that comes next
pub next_arg : (ks : List ArgKind) (text rest after word left : List ℕ) (old items : List Arg) (i : ℕ) (d : ArgKind) → ArgsRead ks text old items i rest → i < length ks → rest ≡ 32 ∷ after → after ≡ word ++ left → lacks 32 word ≡ true → IsRest left
    → (all : List Arg) → AreArgs ks all → text ≡ further_text all → FirstArg (get_or ks i d) (drop (i + 1) ks) word left
next_arg ks text rest after word left old items i d read lt space parts lack is all are e =
    let on = read.onward all are e in
    let n : i + 1 ≡ suc i = omega arith in
    let k : drop i ks ≡ get_or ks i d ∷ drop (i + 1) ks = rw n (drop-cons ks i d lt) in
    next_of (get_or ks i d) (drop (i + 1) ks) rest after word left on.0 space parts lack is (subst (λ (xs : List ArgKind). AreArgs xs on.0) k on.1) on.2

-- where no space comes, no argument does
pub no_space : (ks : List ArgKind) (text rest : List ℕ) (old items : List Arg) (i : ℕ) (d : ArgKind) → ArgsRead ks text old items i rest → i < length ks → ((r : List ℕ) → rest ≡ 32 ∷ r → ⊥) → (all : List Arg) → AreArgs ks all → text ≡ further_text all → ⊥
no_space ks text rest old items i d read lt none all are e =
    let on = read.onward all are e in
    go on.0 (subst (λ (xs : List ArgKind). AreArgs xs on.0) (drop-cons ks i d lt) on.1) on.2
  where
    go : (more : List Arg) → AreArgs (get_or ks i d ∷ drop (suc i) ks) more → rest ≡ further_text more → ⊥
    go [] are h = are
    go (a ∷ more) are h = none (arg_text a ++ further_text more) h

pub one_read : (ks : List ArgKind) (text rest after word left : List ℕ) (old items more : List Arg) (i : ℕ) (d : ArgKind) (a : Arg) → ArgsRead ks text old items i rest → i < length ks → rest ≡ 32 ∷ after → after ≡ word ++ left → lacks 32 word ≡ true → IsRest left
    → IsArg (get_or ks i d) a → word ≡ arg_text a → more ≡ items ++ a ∷ [] → ArgsRead ks text old more (i + 1) left
one_read ks text rest after word left old items more i d a read lt space parts lack is fits word_is_its e = record {
  found = read.found ++ a ∷ [];
  are = rw (take_more ks i d lt) (AreArgs-push (take i ks) read.found (get_or ks i d) a read.are fits);
  front = read.front ∙ rw (flat_map-append (λ x. 32 ∷ arg_text x) read.found (a ∷ []), space, parts, word_is_its) (simp (append-nil, append_assoc));
  items_are = e ∙ ap (λ (xs : List Arg). xs ++ a ∷ []) read.items_are ∙ append_assoc old read.found (a ∷ []);
  onward = λ all are h. let n = next_arg ks text rest after word left old items i d read lt space parts lack is all are h in (n.more, n.are, n.left_is);
}

-- arguments whose first stands at the beginning
pub arguments_are : (a : Arg) (more : List Arg) → arg_text a ++ further_text more ≡ arguments_text (a ∷ more)
arguments_are a more = spoken_text_is (arg_text a) more

-- what adding an argument answered
pub adds_not : (k : ArgKind) (word : List ℕ) (old new : List Arg) (b : Bool) → b ≡ false → AddsArg k word old new b → (a : Arg) → IsArg k a → word ≡ arg_text a → ⊥
adds_not k word old new true e h = absurd cc
adds_not k word old new false e h = h.0

pub adds_same : (k : ArgKind) (word : List ℕ) (old new : List Arg) (b : Bool) → b ≡ false → AddsArg k word old new b → new ≡ old
adds_same k word old new true e h = absurd cc
adds_same k word old new false e h = h.1

pub record Added (k : ArgKind) (word : List ℕ) (old new : List Arg) : Type 0 where
  pub arg : Arg
  pub is_arg : IsArg k arg
  pub word_is_its : word ≡ arg_text arg
  pub new_is : new ≡ old ++ arg ∷ []

pub adds_one : (k : ArgKind) (word : List ℕ) (old new : List Arg) (b : Bool) → b ≡ true → AddsArg k word old new b → Added k word old new
adds_one k word old new true e h = record { arg = h.0; is_arg = h.1; word_is_its = h.2; new_is = h.3 }
adds_one k word old new false e h = absurd cc

pub adds_none : (ks : List ArgKind) (text : List ℕ) (old new : List Arg) (b : Bool) → b ≡ false → AddsArgs ks text old new b → (found : List Arg) → AreArgs ks found → text ≡ further_text found → ⊥
adds_none ks text old new true e h = absurd cc
adds_none ks text old new false e h = h.0

-- where not all were added, the old ones stand before those that were
pub adds_some : (ks : List ArgKind) (text : List ℕ) (old new : List Arg) (b : Bool) → b ≡ false → AddsArgs ks text old new b → take (length old) new ≡ old
adds_some ks text old new true e h = absurd cc
adds_some ks text old new false e h = rw h.2 (take_at old h.1 (length old) refl)

pub record AddedAll (ks : List ArgKind) (text : List ℕ) (old new : List Arg) : Type 0 where
  pub found : List Arg
  pub are : AreArgs ks found
  pub text_is : text ≡ further_text found
  pub new_is : new ≡ old ++ found

pub adds_all : (ks : List ArgKind) (text : List ℕ) (old new : List Arg) (b : Bool) → b ≡ true → AddsArgs ks text old new b → AddedAll ks text old new
adds_all ks text old new true e h = record { found = h.0; are = h.1; text_is = h.2; new_is = h.3 }
adds_all ks text old new false e h = absurd cc

-- the first kind and the others
kinds_parted : (ks : List ArgKind) (d : ArgKind) → 1 ≤ length ks → ks ≡ get_or ks 0 d ∷ take (length ks - 1) (drop 1 ks)
kinds_parted [] d some = absurd (omega arith)
kinds_parted (k ∷ ks) d some = let n : length (k ∷ ks) - 1 ≡ length ks = omega arith in rw (n, take-length ks) refl

first_of : (k : ArgKind) (ks : List ArgKind) (text word rest : List ℕ) (found : List Arg) → text ≡ word ++ rest → lacks 32 word ≡ true → IsRest rest → AreArgs (k ∷ ks) found → text ≡ arguments_text found → FirstArg k ks word rest
first_of k ks text word rest [] parts lack is are e = absurd are
first_of k ks text word rest (a ∷ more) parts lack is are e = first_arg k ks word rest a more lack is are.0 are.1 (sym parts ∙ e ∙ sym (arguments_are a more))

pub first_of_text : (ks : List ArgKind) (d : ArgKind) (text word rest : List ℕ) (found : List Arg) → 1 ≤ length ks → text ≡ word ++ rest → lacks 32 word ≡ true → IsRest rest → AreArgs ks found → text ≡ arguments_text found
    → FirstArg (get_or ks 0 d) (take (length ks - 1) (drop 1 ks)) word rest
first_of_text ks d text word rest found some parts lack is are e =
    first_of (get_or ks 0 d) (take (length ks - 1) (drop 1 ks)) text word rest found parts lack is (subst (λ (xs : List ArgKind). AreArgs xs found) (kinds_parted ks d some) are) e

pub text_of_all : (ks : List ArgKind) (d : ArgKind) (text word rest : List ℕ) (none one all : List Arg) → 1 ≤ length ks → text ≡ word ++ rest → none ≡ [] → Added (get_or ks 0 d) word none one → AddedAll (take (length ks - 1) (drop 1 ks)) rest one all
    → AreArgs ks all × (text ≡ arguments_text all)
text_of_all ks d text word rest none one all some parts empty a more =
    let items : all ≡ a.arg ∷ more.found = more.new_is ∙ ap (λ (xs : List Arg). xs ++ more.found) (a.new_is ∙ ap (λ (xs : List Arg). xs ++ a.arg ∷ []) empty) in
    let are : AreArgs ks (a.arg ∷ more.found) = subst (λ (xs : List ArgKind). AreArgs xs (a.arg ∷ more.found)) (sym (kinds_parted ks d some)) (a.is_arg, more.are) in
    let is : text ≡ arguments_text (a.arg ∷ more.found) = parts ∙ (λ i. a.word_is_its i ++ more.text_is i) ∙ arguments_are a.arg more.found in
    (subst (AreArgs ks) (sym items) are, is ∙ ap arguments_text (sym items))

-- a call's verb and what is after it
pub call_parts : (line word rest : List ℕ) (v : Spoken) → line ≡ word ++ rest → lacks 32 word ≡ true → IsRest rest → line ≡ spoken_text v → (word ≡ name_of v.verb) × (rest ≡ further_text v.args)
call_parts line word rest v parts lack is e =
    word_is word (name_of v.verb) rest (further_text v.args) lack (name_lacks_space v.verb) is (further_is_rest v.args) (sym parts ∙ e ∙ sym (spoken_text_is (name_of v.verb) v.args))

pub call_whole : (line word rest : List ℕ) (verb : Verb) (old new : List Arg) (ks : List ArgKind) → ks ≡ kinds_of verb → line ≡ word ++ rest → word ≡ name_of verb → AddedAll ks rest old new
    → ReadsInto call_with spoken_text IsSpoken line old new (Some verb)
call_whole line word rest verb old new ks kinds parts first more =
    let is : line ≡ name_of verb ++ further_text more.found = parts ∙ (λ i. first i ++ more.text_is i) in
    (more.found, more.new_is, subst (λ (k : List ArgKind). AreArgs k more.found) kinds more.are, is ∙ spoken_text_is (name_of verb) more.found)

-- Maps and sets of names.
use Rattle.std.proofs.Common.{◌≡◌, ℕ, true, false, Bool, cond, ◌||◌, ◌+◌, ◌<◌, fold, if◌then◌else◌, List, [], ◌∷◌, ◌++◌, length, take, get_or, Option, Some, None, refl, ap, ◌∙◌, sym}
use Rattle.std.proofs.lemmas.List.{take_more}
use Rattle.std.specs.Str.{bytes_eq}
use Rattle.text_words.proofs.NameLemmas.{same_other}
use Rattle.text_words.specs.contracts.names.NamePartialEq.TheImpl.{eq-value}
use Rattle.check_text.specs.Binders.{is_name, binder, is_used}
use Rattle.check_text.specs.declared.script_checks.mentions.Mention.{Mention}
use Rattle.check_text.specs.declared.script_checks.outlines.Outline.{Outline}

-- the last line that binds a name, of a line more
abbrev binder_with : List ℕ → Option Outline → Outline → Option Outline
binder_with name found o = if is_name name o.binds then Some o else found

fold_push : (name : List ℕ) (found : Option Outline) (os : List Outline) (o : Outline)
    → fold (binder_with name) found (os ++ o ∷ []) ≡ binder_with name (fold (binder_with name) found os) o
fold_push name found [] o = refl
fold_push name found (p ∷ os) o = fold_push name (binder_with name found p) os o

binder_more : (name : List ℕ) (os : List Outline) (i : ℕ) (o : Outline) → i < length os → o ≡ get_or os i o
    → binder name (take (i + 1) os) ≡ binder_with name (binder name (take i os)) o
binder_more name os i o lt is =
    ap (binder name) (take_more os i o lt) ∙ ap (λ (x : Outline). binder name (take i os ++ x ∷ [])) (sym is)
    ∙ fold_push name None (take i os) o

-- a line that binds a name is kept for it
pub binds_more : (name key : List ℕ) (os : List Outline) (i : ℕ) (o : Outline) (old new : Option Outline) → i < length os → o ≡ get_or os i o
    → o.binds ≡ Some key → new ≡ cond (eq-value.it key name) (Some o) old → old ≡ binder name (take i os)
    → new ≡ binder name (take (i + 1) os)
binds_more name key os i o old new lt is binds updated before =
    updated ∙ (λ j. cond (same_other key name j) (Some o) (before j))
    ∙ ap (λ (b : Option (List ℕ)). if is_name name b then Some o else binder name (take i os)) (sym binds)
    ∙ sym (binder_more name os i o lt is)

-- and one that binds none changes nothing
pub binds_none : (name : List ℕ) (os : List Outline) (i : ℕ) (o : Outline) (old : Option Outline) → i < length os → o ≡ get_or os i o
    → o.binds ≡ None → old ≡ binder name (take i os) → old ≡ binder name (take (i + 1) os)
binds_none name os i o old lt is binds before =
    before ∙ ap (λ (b : Option (List ℕ)). if is_name name b then Some o else binder name (take i os)) (sym binds)
    ∙ sym (binder_more name os i o lt is)

used_push : (name : List ℕ) (ms : List Mention) (m : Mention) → is_used name (ms ++ m ∷ []) ≡ cond (bytes_eq name m.name) true (is_used name ms)
used_push name [] m = last (bytes_eq name m.name)
  where
    last : (b : Bool) → (b || false) ≡ cond b true false
    last true = refl
    last false = refl
used_push name (n ∷ ms) m = more (bytes_eq name n.name) (bytes_eq name m.name) (is_used name (ms ++ m ∷ [])) (is_used name ms) (used_push name ms m)
  where
    more : (a b x y : Bool) → x ≡ cond b true y → (a || x) ≡ cond b true (a || y)
    more true true x y e = refl
    more true false x y e = refl
    more false b x y e = e

-- a name more is used
pub uses_more : (name : List ℕ) (ms : List Mention) (i : ℕ) (m : Mention) (old new : Bool) → i < length ms → m ≡ get_or ms i m
    → new ≡ cond (eq-value.it m.name name) true old → old ≡ is_used name (take i ms)
    → new ≡ is_used name (take (i + 1) ms)
uses_more name ms i m old new lt is updated before =
    updated ∙ (λ j. cond (same_other m.name name j) true (before j)) ∙ sym (used_push name (take i ms) m)
    ∙ ap (λ (x : Mention). is_used name (take i ms ++ x ∷ [])) is ∙ ap (is_used name) (sym (take_more ms i m lt))

-- The entries of a map as a list of names with their values.
use Rattle.std.proofs.Common.{◌≡◌, ℕ, true, false, cond, List, [], ◌∷◌, ◌++◌, map, nat_eq, Option, Some, None, is_some, refl, sym, ap, subst, ◌∙◌}
use Rattle.std.specs.List.{IsDistinct}
use Rattle.std.specs.Map.{lookup, keys_of}
use Rattle.std.specs.Option.{option_or}
use Rattle.std.specs.Str.{bytes_eq}
use Rattle.std.proofs.lemmas.List.{map_push}
use Rattle.indexmap.specs.IndexMap.{get, insert_entry}
use Rattle.indexmap.proofs.MapLemmas.{insert_entry-absent, absent_from_lookup}
use Rattle.base.specs.declared.ids.Category.{Category as CategoryNumber}
use Rattle.text_words.proofs.NameLemmas.{same_other}
use Rattle.text_words.specs.contracts.names.NamePartialEq.TheImpl.{eq-value}
use Rattle.call_text.specs.declared.known_names.Named.{Named}
use Rattle.call_text.specs.declared.known_names.Value.{Value}
use Rattle.call_text.specs.declared.known_names.Value.TheVariants.{Object, Category}
use Rattle.call_text.specs.Known.{value_of, name_of, is_value}
use Rattle.call_text.specs.RunNames.{StandOnce}
use Rattle.script_runner.specs.declared.names.FirstNames.{FirstNames}
use Rattle.script_rules.specs.Names.{unless_bound, bound}
use Rattle.script_runner.specs.Names.{named, named_of, first_name, AreFirst}
use Rattle.script_runner.proofs.NumberLaws.{distinct_as_bytes}

-- a look-up finds the value of the first entry with the name
pub lookup_is : (name : List ℕ) (entries : List (List ℕ × Value)) → lookup (eq-value.it name) entries ≡ value_of name (named_of entries)
lookup_is name [] = refl
lookup_is name (e ∷ es) = (λ i. cond (same_other name e.0 i) (Some e.1) (lookup_is name es i))

names_are_keys : (entries : List (List ℕ × Value)) → map (λ n. n.name) (named_of entries) ≡ keys_of entries
names_are_keys [] = refl
names_are_keys (e ∷ es) = ap (λ (keys : List (List ℕ)). e.0 ∷ keys) (names_are_keys es)

-- no name of a map stands twice
pub entries_stand_once : (entries : List (List ℕ × Value)) (names : List Named) → names ≡ named_of entries → IsDistinct eq-value.it (keys_of entries) → StandOnce names
entries_stand_once entries names are distinct =
    subst (λ (keys : List (List ℕ)). IsDistinct bytes_eq keys) (sym (ap (λ (ns : List Named). map (λ n. n.name) ns) are ∙ names_are_keys entries))
    (distinct_as_bytes (keys_of entries) distinct)

none_of : (v : Option Value) → is_some v ≡ false → v ≡ None
none_of None e = refl
none_of (Some x) e = absurd cc

stays : (v : Option Value) (n : Named) (names : List Named) → is_some v ≡ true → names ≡ unless_bound v n names
stays None n names e = absurd cc
stays (Some x) n names e = refl

-- a name that is bound already stays bound to what it was
pub bound_already : (entries : List (List ℕ × Value)) (n : Named) (names : List Named) → named_of entries ≡ names → is_some (lookup (eq-value.it n.name) entries) ≡ true → names ≡ bound n names
bound_already entries n names view has =
    let v : lookup (eq-value.it n.name) entries ≡ value_of n.name names = lookup_is n.name entries ∙ ap (value_of n.name) view in
    stays (value_of n.name names) n names (sym (ap is_some v) ∙ has)

-- a new name comes last, where the place that it takes is made first
pub comes_last : (entries with_room after : List (List ℕ × Value)) (n : Named) → is_some (lookup (eq-value.it n.name) entries) ≡ false → with_room ≡ entries
    → after ≡ insert_entry eq-value.it with_room n.name n.value → named_of after ≡ named_of entries ++ n ∷ []
comes_last entries with_room after n has room e =
    let none = none_of (lookup (eq-value.it n.name) entries) has in
    let inserted : after ≡ insert_entry eq-value.it entries n.name n.value = e ∙ ap (λ (es : List (List ℕ × Value)). insert_entry eq-value.it es n.name n.value) room in
    let last : after ≡ entries ++ (n.name, n.value) ∷ [] = inserted ∙ insert_entry-absent eq-value.it n.name n.value entries (absent_from_lookup (eq-value.it n.name) entries none) in
    ap named_of last ∙ map_push named entries (n.name, n.value)

-- and so it is bound
pub bound_last : (entries : List (List ℕ × Value)) (n : Named) (names after : List Named) → named_of entries ≡ names → is_some (lookup (eq-value.it n.name) entries) ≡ false
    → after ≡ named_of entries ++ n ∷ [] → after ≡ bound n names
bound_last entries n names after view has last =
    let v : value_of n.name names ≡ None = sym (ap (value_of n.name) view) ∙ sym (lookup_is n.name entries) ∙ none_of (lookup (eq-value.it n.name) entries) has in
    last ∙ ap (λ (ns : List Named). ns ++ n ∷ []) view ∙ sym (ap (λ (x : Option Value). unless_bound x n names) v)

-- what a name is bound to in two lists, one after the other
pub value_of-append : (name : List ℕ) (xs ys : List Named)
    → value_of name (xs ++ ys) ≡ option_or (value_of name xs) (value_of name ys)
value_of-append name [] ys = refl
value_of-append name (n ∷ ns) ys =
    elim (bytes_eq n.name name)
    as (λ b. cond b (Some n.value) (value_of name (ns ++ ys))
    ≡ option_or (cond b (Some n.value) (value_of name ns)) (value_of name ys)) [
      | true ↦ refl
      | false ↦ value_of-append name ns ys
    ]

-- the first name that has a value in two lists, one after the other
pub name_of-append : (value : Value) (xs ys : List Named)
    → name_of value (xs ++ ys) ≡ option_or (name_of value xs) (name_of value ys)
name_of-append value [] ys = refl
name_of-append value (n ∷ ns) ys =
    elim (is_value n.value value)
    as (λ b. cond b (Some n.name) (name_of value (ns ++ ys))
    ≡ option_or (cond b (Some n.name) (name_of value ns)) (name_of value ys)) [
      | true ↦ refl
      | false ↦ name_of-append value ns ys
    ]

or_none : {X : Type 0} (x : Option X) → x ≡ option_or x None
or_none None = refl
or_none (Some x) = refl

-- a name that is noted last is the first of those values alone that had none
noted_last : (before after : FirstNames) (n : Named)
    → ((value : Value) → first_name after value ≡ option_or (first_name before value) (name_of value (n ∷ [])))
    → (names : List Named) → AreFirst before names → AreFirst after (names ++ n ∷ [])
noted_last before after n step names first value =
    step value ∙ ap (λ (x : Option (List ℕ)). option_or x (name_of value (n ∷ []))) (first value)
    ∙ sym (name_of-append value names (n ∷ []))

-- so is one that is noted for an object
pub noted_object : (before after : FirstNames) (n : Named) (id : ℕ) → n.value ≡ Object id → after.categories ≡ before.categories
    → ((m : ℕ) → get nat_eq after.objects m ≡ option_or (get nat_eq before.objects m) (cond (nat_eq id m) (Some n.name) None))
    → (names : List Named) → AreFirst before names → AreFirst after (names ++ n ∷ [])
noted_object before after n id is same noted = noted_last before after n by
  where
    by : (value : Value) → first_name after value ≡ option_or (first_name before value) (name_of value (n ∷ []))
    by (Object m) =
        noted m
        ∙ sym (ap (λ (v : Value). option_or (get nat_eq before.objects m) (cond (is_value v (Object m)) (Some n.name) None)) is)
    by (Category c) =
        (λ i. get nat_eq (same i) c.0) ∙ or_none (get nat_eq before.categories c.0)
        ∙ sym (ap (λ (v : Value). option_or (get nat_eq before.categories c.0) (cond (is_value v (Category c)) (Some n.name) None)) is)

-- and one that is noted for a category
pub noted_category : (before after : FirstNames) (n : Named) (category : CategoryNumber) → n.value ≡ Category category → after.objects ≡ before.objects
    → ((m : ℕ) → get nat_eq after.categories m ≡ option_or (get nat_eq before.categories m) (cond (nat_eq category.0 m) (Some n.name) None))
    → (names : List Named) → AreFirst before names → AreFirst after (names ++ n ∷ [])
noted_category before after n category is same noted = noted_last before after n by
  where
    by : (value : Value) → first_name after value ≡ option_or (first_name before value) (name_of value (n ∷ []))
    by (Object m) =
        (λ i. get nat_eq (same i) m) ∙ or_none (get nat_eq before.objects m)
        ∙ sym (ap (λ (v : Value). option_or (get nat_eq before.objects m) (cond (is_value v (Object m)) (Some n.name) None)) is)
    by (Category c) =
        noted c.0
        ∙ sym (ap (λ (v : Value). option_or (get nat_eq before.categories c.0) (cond (is_value v (Category c)) (Some n.name) None)) is)

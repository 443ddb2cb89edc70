-- What the places of a spoken call note is its first unbound name.
use Rattle.std.proofs.Common.{◌≡◌, ℕ, suc, List, [], ◌∷◌, Option, Some, None, refl, ap, ◌∙◌, sym}
use Rattle.std.specs.Prelude.{slice_get, OnSome}
use Rattle.kernel_rules.specs.declared.calls.Call.{Call}
use Rattle.kernel_rules.specs.declared.calls.Query.{Query}
use Rattle.text_words.specs.declared.spoken_labels.SpokenPair.{SpokenPair}
use Rattle.text_words.specs.declared.spoken_calls.args.Arg.{Arg}
use Rattle.text_words.specs.declared.spoken_calls.args.Arg.TheVariants as args
use Rattle.text_words.specs.declared.spoken_calls.args.ArgKind.{ArgKind}
use Rattle.text_words.specs.declared.spoken_calls.args.ArgKind.TheVariants as kinds
use Rattle.text_words.specs.Arg.{kind_of}
use Rattle.text_words.specs.Spoken.{Spoken, AreArgs, IsSpoken}
use Rattle.call_text.specs.declared.known_names.Named.{Named}
use Rattle.text_words.specs.declared.spoken_calls.verbs.Verb.{Verb}
use Rattle.call_text.specs.declared.asking.Asked.{Asked}
use Rattle.call_text.specs.Asked.{asked_of, asked_by}
use Rattle.call_text.specs.Resolve.{or_else, or_unbound, resolved, written, unbound_object, unbound_category, unbound_pair, unbound_in, first_unbound}
use Rattle.call_text.specs.Unbound.{noted, noted_object, noted_pairs, noted_label, noted_kinds, noted_all}

or_else_none : (a : Option (List ℕ)) → a ≡ or_else a None
or_else_none None = refl
or_else_none (Some name) = refl

-- what is noted is the first so far, or else what was found
noted_is : (found so_far : Option (List ℕ)) → noted found so_far ≡ or_else so_far found
noted_is None so_far = or_else_none so_far
noted_is (Some name) so_far = refl

or_else_more : (a b c : Option (List ℕ)) → or_else (or_else a b) c ≡ or_else a (or_else b c)
or_else_more None b c = refl
or_else_more (Some name) b c = refl

-- one more before the rest
noted_before : (found so_far rest : Option (List ℕ)) → or_else (noted found so_far) rest ≡ or_else so_far (or_else found rest)
noted_before found so_far rest =
    ap (λ (x : Option (List ℕ)). or_else x rest) (noted_is found so_far) ∙ or_else_more so_far found rest

pairs_note : (ps : List SpokenPair) (names : List Named) (so_far : Option (List ℕ))
    → noted_pairs ps names so_far ≡ or_else so_far (unbound_pair ps names)
pairs_note [] names so_far = or_else_none so_far
pairs_note (p ∷ ps) names so_far =
    pairs_note ps names (noted (unbound_category p.category names) so_far)
    ∙ noted_before (unbound_category p.category names) so_far (unbound_pair ps names)

-- what the places after the first note
after_first : (ks : List ArgKind) (i : ℕ) (a : Arg) (xs : List Arg) (names : List Named) (so_far : Option (List ℕ))
    → noted_kinds ks (suc i) (a ∷ xs) names so_far ≡ noted_kinds ks i xs names so_far
after_first [] i a xs names so_far = refl
after_first (kinds.Object ∷ ks) i a xs names so_far = after_first ks (suc i) a xs names (noted_object (slice_get xs i) names so_far)
after_first (kinds.Label ∷ ks) i a xs names so_far = after_first ks (suc i) a xs names (noted_label (slice_get xs i) names so_far)
after_first (kinds.Number ∷ ks) i a xs names so_far = after_first ks (suc i) a xs names so_far
after_first (kinds.Wide ∷ ks) i a xs names so_far = after_first ks (suc i) a xs names so_far
after_first (kinds.Signed ∷ ks) i a xs names so_far = after_first ks (suc i) a xs names so_far
after_first (kinds.Data ∷ ks) i a xs names so_far = after_first ks (suc i) a xs names so_far
after_first (kinds.Types ∷ ks) i a xs names so_far = after_first ks (suc i) a xs names so_far
after_first (kinds.Rights ∷ ks) i a xs names so_far = after_first ks (suc i) a xs names so_far

-- the first place notes what its argument has, which is of the place's kind
first_notes : (a : Arg) (ks : List ArgKind) (xs : List Arg) (names : List Named) (so_far : Option (List ℕ))
    → noted_kinds (kind_of a ∷ ks) 0 (a ∷ xs) names so_far ≡ noted_kinds ks 0 xs names (or_else so_far (unbound_in a names))
first_notes (args.Object r) ks xs names so_far =
    after_first ks 0 (args.Object r) xs names (noted (unbound_object r names) so_far)
    ∙ ap (noted_kinds ks 0 xs names) (noted_is (unbound_object r names) so_far)
first_notes (args.Label l) ks xs names so_far =
    after_first ks 0 (args.Label l) xs names (noted_pairs l.pairs names so_far)
    ∙ ap (noted_kinds ks 0 xs names) (pairs_note l.pairs names so_far)
first_notes (args.Number n) ks xs names so_far = after_first ks 0 (args.Number n) xs names so_far ∙ ap (noted_kinds ks 0 xs names) (or_else_none so_far)
first_notes (args.Wide n) ks xs names so_far = after_first ks 0 (args.Wide n) xs names so_far ∙ ap (noted_kinds ks 0 xs names) (or_else_none so_far)
first_notes (args.Signed z) ks xs names so_far = after_first ks 0 (args.Signed z) xs names so_far ∙ ap (noted_kinds ks 0 xs names) (or_else_none so_far)
first_notes (args.Data d) ks xs names so_far = after_first ks 0 (args.Data d) xs names so_far ∙ ap (noted_kinds ks 0 xs names) (or_else_none so_far)
first_notes (args.Types s) ks xs names so_far = after_first ks 0 (args.Types s) xs names so_far ∙ ap (noted_kinds ks 0 xs names) (or_else_none so_far)
first_notes (args.Rights r) ks xs names so_far = after_first ks 0 (args.Rights r) xs names so_far ∙ ap (noted_kinds ks 0 xs names) (or_else_none so_far)

kinds_note : (ks : List ArgKind) (xs : List Arg) (names : List Named) (so_far : Option (List ℕ)) → AreArgs ks xs
    → noted_kinds ks 0 xs names so_far ≡ or_else so_far (first_unbound xs names)
kinds_note [] [] names so_far are = or_else_none so_far
kinds_note [] (a ∷ xs) names so_far are = absurd are
kinds_note (k ∷ ks) [] names so_far are = absurd are
kinds_note (k ∷ ks) (a ∷ xs) names so_far are =
    let first : noted_kinds (k ∷ ks) 0 (a ∷ xs) names so_far ≡ noted_kinds ks 0 xs names (or_else so_far (unbound_in a names))
    = ap (λ (j : ArgKind). noted_kinds (j ∷ ks) 0 (a ∷ xs) names so_far) (sym are.0.kind_is) ∙ first_notes a ks xs names so_far in
    first ∙ kinds_note ks xs names (or_else so_far (unbound_in a names)) are.1
    ∙ or_else_more so_far (unbound_in a names) (first_unbound xs names)

-- a spoken call notes its first unbound name
pub spoken_notes : (call : Spoken) (names : List Named) → IsSpoken call → noted_all call.verb call.args names None ≡ first_unbound call.args names
spoken_notes call names is = kinds_note _ call.args names None is

-- what a spoken call asks, by what its places note
pub resolves : (call : Spoken) (names : List Named) (verb : Verb) (xs : List Arg) (unbound : Option (List ℕ)) → IsSpoken call
    → verb ≡ call.verb → xs ≡ call.args → unbound ≡ noted_all verb xs names None
    → or_unbound unbound (asked_of verb xs names) ≡ resolved call names
resolves call names verb xs unbound is v x found =
    let first : unbound ≡ first_unbound call.args names = found ∙ (λ i. noted_all (v i) (x i) names None) ∙ spoken_notes call names is in
    λ i. or_unbound (first i) (asked_of (v i) (x i) names)

-- what is written, by what is asked
is_written : (query : Option Query) (call old : Call) (asked : Asked) → asked_by query call ≡ asked → OnSome query (call ≡ old)
    → call ≡ written asked old
is_written (Some query) call old asked by kept = kept ∙ ap (λ (x : Asked). written x old) by
is_written None call old asked by kept = ap (λ (x : Asked). written x old) by

-- so it is by what is asked of the call
pub is_written_of : (call : Spoken) (names : List Named) (verb : Verb) (xs : List Arg) (query : Option Query) (new old : Call) → verb ≡ call.verb
    → xs ≡ call.args → asked_by query new ≡ asked_of verb xs names → OnSome query (new ≡ old)
    → new ≡ written (asked_of call.verb call.args names) old
is_written_of call names verb xs query new old v x by kept =
    is_written query new old (asked_of verb xs names) by kept ∙ (λ i. written (asked_of (v i) (x i) names) old)

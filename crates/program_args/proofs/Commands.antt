-- What a command comes to as its parts join it.
use Rattle.std.proofs.Common.{◌≡◌, ◌∙◌, ◌||◌, ◌&&◌, Bool, List, [], ◌∷◌, ◌++◌, Option, Some, None, ap, ap₂, true, false, refl, arith, is_some, option_map}
use Rattle.std.proofs.lemmas.Bool.{ne_eqb}
use Rattle.std.specs.Prelude.{unwrap_or}
use Rattle.std.specs.Borrow.{Bor}
use Rattle.clap.specs.Simple.{App, app_of_fields, new_app, on_top, subcommand_rows_of, with_rule, with_subcommand}
use Rattle.clap.specs.Matches.{found_of, has_subcommand, subcommand_name_of}
use Rattle.clap.specs.Walk.{Row, Rule, Text, is_empty, rows_of, rule_of}
use Rattle.clap.specs.Words.{AddsArg, AddsRequirements, AddsSubcommand, IsParsedFrom}
use Rattle.clap.specs.declared.builder.Arg.{Arg}
use Rattle.clap.specs.declared.builder.ArgPredicate.{ArgPredicate}
use Rattle.clap.specs.declared.builder.Command.{Command}
use Rattle.clap.specs.declared.builder.Command.TheViews.{out-Command}
use Rattle.clap.specs.declared.parser.ArgMatches.{ArgMatches}
use Rattle.program_args.specs.Commands.{IsCommand, with_verbs}

pub arg_added : (app : App) (rule : Rule) (old new : Command) (a : Arg) → AddsArg old a new → rule_of a ≡ rule → a.global ≡ false
    → IsCommand app old → IsCommand (with_rule app rule) new
arg_added app rule old new a added ruled local is =
    (added.shape local ∙ ap₂ with_rule is.0 ruled, added.globals ∙ ap₂ ◌||◌ is.1 local)

pub verb_added : (app sub : App) (old new s : Command) → AddsSubcommand old s new → IsCommand sub s
    → IsCommand app old → IsCommand (with_subcommand app sub.top) new
verb_added app sub old new s added is_sub is =
    (added.shape is_sub.1 ∙ ap₂ (λ a (b : App). with_subcommand a b.top) is.0 is_sub.0, added.globals ∙ ap₂ ◌||◌ is.1 is_sub.1)

pub about_told : (app : App) (old new : Command) (text : Bor Text) → out-Command new ≡ record (out-Command old) { about = Some text }
    → IsCommand app old → IsCommand app new
about_told app old new text told is = (ap app_of_fields told ∙ is.0, ap (λ f. f.has_globals) told ∙ is.1)

-- a new command with its name, what it is about, its version, and that a verb is needed
pub verbs_told : (name : Text) (new named about versioned required : Command) (text version : Bor Text)
    → IsCommand (new_app name) new
    → out-Command named ≡ record (out-Command new) { bin_name = (out-Command named).bin_name }
    → out-Command about ≡ record (out-Command named) { about = Some text }
    → out-Command versioned ≡ record (out-Command about) { version = Some version }
    → out-Command required ≡ record (out-Command versioned) { subcommand_required = true }
    → IsCommand (with_verbs name) required
verbs_told name new named about versioned required text version is e₁ e₂ e₃ e₄ = (
  ap app_of_fields e₄
      ∙ ap (λ f. app_of_fields (record f { subcommand_required = true })) e₃
      ∙ ap (λ f. app_of_fields (record f { version = Some version; subcommand_required = true })) e₂
      ∙ ap (λ f. app_of_fields (record f { version = Some version; subcommand_required = true })) e₁
      ∙ ap (on_top (λ s. record s { has_version = true; subcommand_required = true })) is.0,
  ap (λ f. f.has_globals) e₄ ∙ ap (λ f. f.has_globals) e₃ ∙ ap (λ f. f.has_globals) e₂ ∙ ap (λ f. f.has_globals) e₁ ∙ is.1,
)

-- an argument that needs another one is not free
not_free : (a b c : Bool) (rest : Bool) → c ≡ false → (a && (b && (c && rest))) ≡ false
not_free true true c rest e = rw e refl
not_free true false c rest e = refl
not_free false b c rest e = refl

has_last : {X : Type 0} (xs : List X) (x : X) → is_empty (xs ++ x ∷ []) ≡ false
has_last [] x = refl
has_last (y ∷ ys) x = ne_eqb _ _ (λ e. omega arith)

pub needs_added : (rule : Rule) (old new : Arg) (need : ArgPredicate × Bor Text) → AddsRequirements old new (need ∷ []) → rule_of old ≡ rule
    → rule_of new ≡ record rule { is_free = false }
needs_added rule old new need added ruled =
    ap rule_of added.0
    ∙ ap (λ b. record (rule_of old) { is_free = b }) (not_free _ _ _ _ (ap is_empty added.1 ∙ has_last old.needs.items need))
    ∙ ap (λ (r : Rule). record r { is_free = false }) ruled

-- where a verb is needed, one was met
pub verb_met : (app : App) (command : Command) (m : ArgMatches) → IsParsedFrom command m → IsCommand app command
    → app.top.subcommand_required ≡ true → has_subcommand m ≡ true
verb_met app command m p is needed =
    (p.parsed (p.from.globals ∙ is.1)).checked.subcommand (p.from.needs_subcommand ∙ ap (λ (a : App). a.top.subcommand_required) is.0 ∙ needed)

some_is : {X : Type 0} (x y : X) → Some x ≡ Some y → x ≡ y
some_is x y e = ap (λ o. unwrap_or o x) e

both_are : {X Y A B : Type 0} (f : X → A) (g : X → B) (h : Y → A) (k : Y → B) (r : Option X) (s : Option Y)
    → option_map f r ≡ option_map h s → option_map g r ≡ option_map (λ (p : A × B). p.1) (option_map {U = A × B} (λ y. (h y, k y)) s)
    → option_map {U = A × B} (λ x. (f x, g x)) r ≡ option_map {U = A × B} (λ y. (h y, k y)) s
both_are f g h k None None e d = refl
both_are f g h k (Some x) None e d = cc
both_are f g h k None (Some y) e d = cc
both_are {A = A} {B = B} f g h k (Some x) (Some y) e d = ap₂ (λ (a : A) (b : B). Some (a, b)) (some_is _ _ e) (some_is _ _ d)

-- the name and the rows of the verb that was met
pub verb_is : (m : ArgMatches) (r : Option (Bor Text × Bor ArgMatches)) → option_map (λ p. p.0.now) r ≡ subcommand_name_of m
    → option_map (λ p. rows_of (found_of p.1.now)) r ≡ option_map (λ p. p.1) (subcommand_rows_of m)
    → option_map {U = Text × List Row} (λ p. (p.0.now, rows_of (found_of p.1.now))) r ≡ subcommand_rows_of m
verb_is m r named found = both_are _ _ _ _ r _ named found

pub none_is : {X : Type 0} (o : Option X) → ((x : X) → o ≡ Some x → ⊥) → is_some o ≡ false
none_is None h = refl
none_is (Some x) h = absurd (h x refl)

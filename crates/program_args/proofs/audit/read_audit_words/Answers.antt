use Rattle.std.proofs.Common.{◌≡◌, ◌∙◌, ℕ, Bool, cond, true, false, true≢false, ◌&&◌, List, [], ◌∷◌, Option, Some, None, ap, ap₂, arith, is_some, refl, subst, sym, map, codes, option_map, ◌==◌}
use Rattle.std.specs.Prelude.{unwrap_or}
use Rattle.std.specs.Borrow.{Bor}
use Rattle.base.specs.declared.ids.Category.{Category}
use Rattle.program_args.proofs.Found.{is_told, no_number}
use Rattle.program_args.specs.Told.{IsAuditOf, audit_rows, flow_in, number_in, text_in}
use Rattle.program_args.specs.declared.audit.AuditArgs.{AuditArgs}
use Rattle.std.specs.List.{list_all}
use Rattle.program_args.specs.Commands.{audit_command}
use Rattle.program_args.specs.Path.{path_of}
use Rattle.clap.proofs.OnLiterals.{clap_on_literals}
use Rattle.clap.proofs.TakesLemmas.{leaf_takes}
use Rattle.clap.specs.Simple.{built, App, HasMatchesOf, Shape, app_of, is_simple, matches_of}
use Rattle.clap.specs.Takes.{takes, default_passes, is_valid, settle_passes, step_passes, word_passes}
use Rattle.clap.specs.Matches.{found_of}
use Rattle.clap.specs.Values.{kind_of}
use Rattle.clap.specs.Walk.{Held, Row, Rule, Step, Text, after_step, finished, first_of, idle, nothing_held, rows_of, value, walk_from, word_met}
use Rattle.clap.specs.declared.builder.Command.{Command}
use Rattle.clap.specs.declared.parser.ArgMatches.{ArgMatches}
use Rattle.clap.specs.declared.error.ErrorKind.TheVariants.{OutOfMemory}
use mathlib.Core.Bool.{beq}
use Rattle.program_args.proofs.audit.read_audit_words.Goals as goal

abbrev audit : App
audit = audit_command false

abbrev top : Shape
top = (built audit).top

-- what is found of the six arguments
pub record Values : Type 0 where
  file : Option Text
  migrate : Option Text
  «from» : Option Text
  category : Option Text
  hidden : Option Text
  names : Option Text

abbrev values_in : List Row → Values
values_in rows = record {
  file = first_of (codes "FILE") rows;
  migrate = first_of (codes "migrate") rows;
  «from» = first_of (codes "from") rows;
  category = first_of (codes "category") rows;
  hidden = first_of (codes "hidden") rows;
  names = first_of (codes "names") rows;
}

abbrev found_in : List Text → Values
found_in words = values_in (matches_of audit words)

-- a path alone
abbrev alone : Option Text → Values
alone path = record { file = path; migrate = None; «from» = None; category = None; hidden = None; names = None }

is_plain : is_simple audit ≡ true
unfolding clap_on_literals
is_plain = refl

-- a word that begins with no hyphen is no flag, and passes
no_flag : (c : List Rule) (h : Held) (x : ℕ) (rest : Text) → (x == 45) ≡ false → word_met c [] false idle 1 (x ∷ rest) h ≡ (h, value)
no_flag c h x rest e = rw e (rw e refl)

passes : (s : Shape) (h : Held) (x : ℕ) (rest : Text) → (x == 45) ≡ false → word_passes s [] false idle (x ∷ rest) h ≡ true
passes s h x rest e = rw e (rw e refl)

-- what is found, and whether the words are taken, by what the walk makes of the second word
abbrev held_after : Held × Step → Text → Held
held_after met word = (after_step top.rules word (walk_from nothing_held) met.0 met.1).held

abbrev found_after : Held × Step → Text → Values
found_after met word = values_in (finished top.rules (held_after met word))

abbrev passes_after : Bool → Held × Step → Text → Bool
passes_after pass met word = ((pass && step_passes top 1 met.0 met.1) && true)
    && (settle_passes top.rules top.args_override_self (held_after met word)
    && (list_all default_passes top.rules && is_valid top (finished top.rules (held_after met word)) false))

value_found : (word : Text) → found_after (nothing_held, value) word ≡ alone (Some word)
unfolding clap_on_literals
value_found word = refl

value_passes : (word : Text) → passes_after true (nothing_held, value) word ≡ true
unfolding clap_on_literals
value_passes word = refl

empty_found : (name : Text) → found_in (name ∷ [] ∷ []) ≡ alone (Some [])
unfolding clap_on_literals
empty_found name = refl

empty_taken : (name : Text) → takes audit (name ∷ [] ∷ []) ≡ true
unfolding clap_on_literals
empty_taken name = refl

other_found : (name : Text) (x : ℕ) (rest : Text) → (x == 45) ≡ false → found_in (name ∷ (x ∷ rest) ∷ []) ≡ alone (Some (x ∷ rest))
unfolding clap_on_literals
other_found name x rest e = ap (λ met. found_after met (x ∷ rest)) (no_flag top.rules nothing_held x rest e) ∙ value_found (x ∷ rest)

other_taken : (name : Text) (x : ℕ) (rest : Text) → (x == 45) ≡ false → takes audit (name ∷ (x ∷ rest) ∷ []) ≡ true
unfolding clap_on_literals
other_taken name x rest e = leaf_takes (built audit) nothing_held ((x ∷ rest) ∷ []) refl
    (ap₂ (λ pass met. passes_after pass met (x ∷ rest)) (passes top nothing_held x rest e) (no_flag top.rules nothing_held x rest e) ∙ value_passes (x ∷ rest))

-- what the words name is found, and taken
found : (words : List Text) (path : Text) → path_of words ≡ Some path → found_in words ≡ alone (Some path)
found [] path e = cc
found (name ∷ []) path e = cc
found (name ∷ [] ∷ []) path e = empty_found name ∙ ap alone e
found (name ∷ (x ∷ rest) ∷ []) path e = go (x == 45) refl
  where
    go : (b : Bool) → (x == 45) ≡ b → found_in (name ∷ (x ∷ rest) ∷ []) ≡ alone (Some path)
    go true h = let bad : None ≡ Some path = rw h at e in cc
    go false h = let named : Some (x ∷ rest) ≡ Some path = rw h at e in other_found name x rest h ∙ ap alone named
found (name ∷ word ∷ other ∷ more) path e = cc

taken : (words : List Text) (path : Text) → path_of words ≡ Some path → takes audit words ≡ true
taken [] path e = cc
taken (name ∷ []) path e = cc
taken (name ∷ [] ∷ []) path e = empty_taken name
taken (name ∷ (x ∷ rest) ∷ []) path e = go (x == 45) refl
  where
    go : (b : Bool) → (x == 45) ≡ b → takes audit (name ∷ (x ∷ rest) ∷ []) ≡ true
    go true h = let bad : None ≡ Some path = rw h at e in cc
    go false h = other_taken name x rest h
taken (name ∷ word ∷ other ∷ more) path e = cc

-- what is found in words that name a path is what `clap` finds in them at first
named_rows : (words : List Text) (path : Text) → path_of words ≡ Some path → audit_rows words ≡ matches_of audit words
named_rows words path e =
    let values = found words path e in
    ap (λ test. cond test (matches_of audit words) (matches_of (audit_command true) words))
    (ap₂ (λ x y. beq (is_some x) (is_some y)) (ap (λ (v : Values). v.«from») values) (ap (λ (v : Values). v.category) values))

-- what such words tell
path_told : (words : List Text) (told : AuditArgs) (path : Text) → IsAuditOf (audit_rows words) told → path_of words ≡ Some path → told.dump.now ≡ path
path_told words told path is e =
    is.0 ∙ ap (text_in (codes "FILE")) (named_rows words path e) ∙ ap (λ (v : Values). unwrap_or v.file []) (found words path e)

no_flow : (rows : List Row) → number_in 64 (codes "from") rows ≡ None → flow_in rows ≡ None
no_flow rows e = rw e refl

options_told : (words : List Text) (told : AuditArgs) (path : Text) → IsAuditOf (audit_rows words) told → path_of words ≡ Some path
    → told.options ≡ record { migrate = false; flow = None }
options_told words told path is e =
    let values = found words path e in
    is.1 ∙ ap₂ (λ (m : Bool) (f : Option (ℕ × Category)). record { migrate = m; flow = f })
    (ap (λ rows. is_some (first_of (codes "migrate") rows)) (named_rows words path e) ∙ ap (λ (v : Values). is_some v.migrate) values)
    (ap flow_in (named_rows words path e)
    ∙ no_flow (matches_of audit words) (no_number 64 (codes "from") (matches_of audit words) (ap (λ (v : Values). v.«from») values)))

hidden_told : (words : List Text) (told : AuditArgs) (path : Text) → IsAuditOf (audit_rows words) told → path_of words ≡ Some path
    → is_some told.hidden ≡ false
hidden_told words told path is e =
    is_told (λ label. label.now) told.hidden (first_of (codes "hidden") (audit_rows words)) is.3
    ∙ ap (λ rows. is_some (first_of (codes "hidden") rows)) (named_rows words path e) ∙ ap (λ (v : Values). is_some v.hidden) (found words path e)

names_told : (words : List Text) (told : AuditArgs) (path : Text) → IsAuditOf (audit_rows words) told → path_of words ≡ Some path
    → is_some told.names ≡ false
names_told words told path is e =
    is_told (λ path. path.now) told.names (first_of (codes "names") (audit_rows words)) is.4
    ∙ ap (λ rows. is_some (first_of (codes "names") rows)) (named_rows words path e) ∙ ap (λ (v : Values). is_some v.names) (found words path e)

-- what the parses of a command are
rows_are : (flows : Bool) (words : List Text) (command : Command) (matches : ArgMatches) → app_of command ≡ audit_command flows
    → is_simple (audit_command flows) ≡ true → HasMatchesOf (app_of command) words matches
    → rows_of (found_of matches) ≡ matches_of (audit_command flows) words
rows_are flows words command matches is simple has = (has (ap is_simple is ∙ simple)).0 ∙ ap (λ a. matches_of a words) is

both_simple : is_simple (audit_command true) ≡ true
unfolding clap_on_literals
both_simple = refl

-- whether an object and a category are both there, or neither
test_is : (rows : List Row) (words : List Text) (from category : Option (Bor Text)) (x y : Bool) → rows ≡ matches_of audit words
    → x ≡ is_some from → option_map (λ t. t.now) from ≡ first_of (codes "from") rows
    → y ≡ is_some category → option_map (λ t. t.now) category ≡ first_of (codes "category") rows
    → beq x y ≡ beq (is_some (first_of (codes "from") (matches_of audit words))) (is_some (first_of (codes "category") (matches_of audit words)))
test_is rows words from category x y is fx ft cx ct =
    ap₂ beq (fx ∙ is_told (λ t. t.now) from _ ft) (cx ∙ is_told (λ t. t.now) category _ ct)
    ∙ ap (λ r. beq (is_some (first_of (codes "from") r)) (is_some (first_of (codes "category") r))) is

-- one parse is enough where both are there, or neither
one_told : (words : List Text) (rows : List Row) (told : AuditArgs) → rows ≡ matches_of audit words
    → beq (is_some (first_of (codes "from") (matches_of audit words))) (is_some (first_of (codes "category") (matches_of audit words))) ≡ true
    → IsAuditOf rows told → IsAuditOf (audit_rows words) told
one_told words rows told is test = subst (λ r. IsAuditOf r told) (is ∙ sym (ap (λ t. cond t (matches_of audit words) (matches_of (audit_command true) words)) test))

two_told : (words : List Text) (rows : List Row) (told : AuditArgs) → rows ≡ matches_of (audit_command true) words
    → beq (is_some (first_of (codes "from") (matches_of audit words))) (is_some (first_of (codes "category") (matches_of audit words))) ≡ false
    → IsAuditOf rows told → IsAuditOf (audit_rows words) told
two_told words rows told is test = subst (λ r. IsAuditOf r told) (is ∙ sym (ap (λ t. cond t (matches_of audit words) (matches_of (audit_command true) words)) test))

-- words that name a path alone need no second parse
no_second : (words : List Text) (path : Text) → path_of words ≡ Some path
    → beq (is_some (first_of (codes "from") (matches_of audit words))) (is_some (first_of (codes "category") (matches_of audit words))) ≡ false → ⊥
no_second words path e test =
    let values = found words path e in
    true≢false (sym (ap₂ (λ x y. beq (is_some x) (is_some y)) (ap (λ (v : Values). v.«from») values) (ap (λ (v : Values). v.category) values)) ∙ test)

pub returns-in_err-found-clause-memory : goal.returns-in_err-found-clause-memory
returns-in_err-found-clause-memory g c = λ path named.
    let words = map g.S.AsStr.text c.args.words.now in
    let kind : kind_of c.in_err-found.field-0.0 ≡ OutOfMemory =
    c.in_err-found.ensures.passes (ap (λ a. takes a words) c.in_ok-either.ensures.app ∙ taken words path named) in
    grind (arith, kind)

pub returns-in_err-complete-clause-memory : goal.returns-in_err-complete-clause-memory
returns-in_err-complete-clause-memory g c = λ path named.
    let words = map g.S.AsStr.text c.args.words.now in
    let rows = rows_are false words _ _ c.in_ok-either.ensures.app is_plain c.in_ok-found.ensures.matches in
    absurd (no_second words path named
    (sym (test_is _ words c.text_of.result c.text_of-2.result c.is_some.result c.is_some-2.result rows c.is_some.ensures c.text_of.ensures c.is_some-2.ensures c.text_of-2.ensures)
    ∙ c.if-is_some.false))

pub returns-then-is_some-clause-told : goal.returns-then-is_some-clause-told
returns-then-is_some-clause-told g c =
    let words = map g.S.AsStr.text c.args.words.now in
    let rows = rows_are false words _ _ c.in_ok-either.ensures.app is_plain c.in_ok-found.ensures.matches in
    one_told words _ c.told_of.result rows
    (sym (test_is _ words c.text_of.result c.text_of-2.result c.is_some.result c.is_some-2.result rows c.is_some.ensures c.text_of.ensures c.is_some-2.ensures c.text_of-2.ensures)
    ∙ c.if-is_some.true)
    c.told_of.ensures.told

pub returns-then-is_some-clause-path : goal.returns-then-is_some-clause-path
returns-then-is_some-clause-path g c = λ path named.
    path_told (map g.S.AsStr.text c.args.words.now) c.told_of.result path (returns-then-is_some-clause-told g c) named

pub returns-then-is_some-clause-alone : goal.returns-then-is_some-clause-alone
returns-then-is_some-clause-alone g c = λ path named.
    options_told (map g.S.AsStr.text c.args.words.now) c.told_of.result path (returns-then-is_some-clause-told g c) named

pub returns-then-is_some-clause-hidden : goal.returns-then-is_some-clause-hidden
returns-then-is_some-clause-hidden g c = λ path named.
    hidden_told (map g.S.AsStr.text c.args.words.now) c.told_of.result path (returns-then-is_some-clause-told g c) named

pub returns-then-is_some-clause-names : goal.returns-then-is_some-clause-names
returns-then-is_some-clause-names g c = λ path named.
    names_told (map g.S.AsStr.text c.args.words.now) c.told_of.result path (returns-then-is_some-clause-told g c) named

pub returns-clause-told : goal.returns-clause-told
returns-clause-told g c =
    let words = map g.S.AsStr.text c.args.words.now in
    let rows = rows_are false words _ _ c.in_ok-either.ensures.app is_plain c.in_ok-found.ensures.matches in
    two_told words _ c.told_of-2.result (rows_are true words _ _ c.in_ok-both.ensures.app both_simple c.in_ok-complete.ensures.matches)
    (sym (test_is _ words c.text_of.result c.text_of-2.result c.is_some.result c.is_some-2.result rows c.is_some.ensures c.text_of.ensures c.is_some-2.ensures c.text_of-2.ensures)
    ∙ c.if-is_some.false)
    c.told_of-2.ensures.told

pub returns-clause-path : goal.returns-clause-path
returns-clause-path g c = λ path named.
    path_told (map g.S.AsStr.text c.args.words.now) c.told_of-2.result path (returns-clause-told g c) named

pub returns-clause-alone : goal.returns-clause-alone
returns-clause-alone g c = λ path named.
    options_told (map g.S.AsStr.text c.args.words.now) c.told_of-2.result path (returns-clause-told g c) named

pub returns-clause-hidden : goal.returns-clause-hidden
returns-clause-hidden g c = λ path named.
    hidden_told (map g.S.AsStr.text c.args.words.now) c.told_of-2.result path (returns-clause-told g c) named

pub returns-clause-names : goal.returns-clause-names
returns-clause-names g c = λ path named.
    names_told (map g.S.AsStr.text c.args.words.now) c.told_of-2.result path (returns-clause-told g c) named

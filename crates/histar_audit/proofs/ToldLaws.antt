-- That a verdict is told, with where the dump begins, what is reached and what hidden threads changed.
use Rattle.std.proofs.Common.{◌≡◌, ℕ, Bool, [], List, Option, Some, None, true, false, ◌∙◌, refl, sym, subst}
use Rattle.std.specs.Io.KnownBytes.{Appends}
use Rattle.std.specs.Option.{IfSome}
use Rattle.dump_text.specs.Dump.{DumpFaultsAt, IsDump}
use Rattle.dump_text.specs.Lists.{DumpLists}
use Rattle.base.specs.declared.ids.Category.{Category}
use Rattle.histar_audit.specs.Told.{begins_later, is_asked, nothing, told_text, IsFound, IsHiddenIn, IsMigration, IsReachedIn, IsStart, IsTold}
use Rattle.histar_audit.specs.declared.audit_program.program.Asked.{Asked}
use Rattle.auditor.specs.declared.verdicts.Verdict.{Verdict}
use Rattle.auditor.specs.declared.verdicts.Verdict.TheVariants as is
use Rattle.label_lattice.specs.Label.{LabelValue}

-- where a dump that was read begins
pub start_told : (bytes : List ℕ) (dump : DumpLists) (verdict : Verdict) (later : Bool) → IsDump bytes dump
    → later ≡ is_asked (begins_later dump.limits dump.checkpoint) verdict → IsStart bytes verdict later
start_told bytes dump is.Clean later spelt told = (dump, spelt, told)
start_told bytes dump (is.False n) later spelt told = told
start_told bytes dump (is.Unreadable n) later spelt told = told

none_reached : (asked : Option (ℕ × Category)) (bytes : List ℕ) (n : ℕ) → IsReachedIn asked bytes (is.Unreadable n) []
none_reached None bytes n = refl
none_reached (Some flow) bytes n = refl

none_hidden : (asked : Option LabelValue) (bytes : List ℕ) (n : ℕ) → IsHiddenIn asked bytes (is.Unreadable n) []
none_hidden None bytes n = refl
none_hidden (Some label) bytes n = refl

none_migrated : (asked : Bool) (bytes file : List ℕ) (n : ℕ) → file ≡ [] → IsMigration asked bytes (is.Unreadable n) file
none_migrated true bytes file n none = none
none_migrated false bytes file n none = none

-- of bytes that are no dump from a line on, that is found
pub none_found : (asked : Asked) (verdict : Verdict) (file text bytes : List ℕ) (line : ℕ)
    → DumpFaultsAt bytes line → verdict ≡ is.Unreadable line → file ≡ []
    → text ≡ told_text [] (is.Unreadable line) nothing → IsFound asked verdict file text bytes
none_found asked verdict file text bytes line faults is none told =
    subst (λ (v : Verdict). IsFound asked v file text bytes) (sym is) (record {
      verdict_is = faults;
      tells = tt;
      later = false;
      is_start = refl;
      reached = [];
      is_reached = none_reached asked.options.flow bytes line;
      told = [];
      is_hidden = none_hidden asked.hidden bytes line;
      text_is = told;
      migration = none_migrated asked.options.migrate bytes file line none;
    })

-- what was found of what was read is told, where its lines were added
pub told_if : (read : Option (List ℕ)) (bytes given text added file : List ℕ) (asked : Asked)
    (verdict : Verdict) (before after : Option (List ℕ)) → IfSome read (λ left. bytes ≡ left) → given ≡ bytes
    → IsFound asked verdict file text given → added ≡ text → Appends before after added
    → IfSome read (IsTold before after asked verdict file)
told_if None bytes given text added file asked verdict before after read_is same found told appends = tt
told_if (Some left) bytes given text added file asked verdict before after read_is same found told appends = record {
  text = text;
  found = subst (λ (b : List ℕ). IsFound asked verdict file text b) (same ∙ read_is) found;
  added = subst (λ (l : List ℕ). Appends before after l) told appends;
}

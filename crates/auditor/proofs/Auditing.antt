-- What is known of a dump that was compared with its true dump.
use Rattle.std.proofs.Common.{◌≡◌, ℕ, List, Option, Some, None, refl, sym, subst}
use Rattle.dump_text.specs.Dump.{IsDump}
use Rattle.dump_text.specs.Lists.{DumpLists}
use Rattle.auditor.specs.Audited.{verdict_of, IsAudited}
use Rattle.auditor.specs.Told.{IsFound}
use Rattle.auditor.specs.Verdict.{IsVerdict, TellsFalse}
use Rattle.auditor.specs.declared.audits.Audited.{Audited}
use Rattle.auditor.proofs.LineLaws.{LegalIsDump}
use Rattle.auditor.proofs.ToldLaws.{found_clean, found_false, found_tells}

-- the verdict that a line is found by
verdict_at : (bytes : List ℕ) (d : DumpLists) → LegalIsDump → ((a b : DumpLists) → IsDump bytes a → IsDump bytes b → a ≡ b)
    → IsDump bytes d → (line : Option ℕ) → IsFound bytes d line → IsVerdict bytes (verdict_of line) × TellsFalse bytes (verdict_of line)
verdict_at bytes d law one spelt None found = (found_clean bytes d law spelt None one found refl, tt)
verdict_at bytes d law one spelt (Some n) found =
    (found_false bytes d law spelt (Some n) n found refl, found_tells bytes d law spelt (Some n) n found refl)

pub audited_is : (bytes : List ℕ) (d : DumpLists) (a : Audited) → LegalIsDump
    → ((x y : DumpLists) → IsDump bytes x → IsDump bytes y → x ≡ y) → IsDump bytes d → a.bytes.now ≡ bytes → a.dump ≡ d
    → IsFound bytes d a.false_line → IsAudited a
audited_is bytes d a law one spelt same kept found =
    let told = verdict_at bytes d law one spelt a.false_line found in
    record {
      spelt = subst (λ (b : List ℕ). IsDump b a.dump) (sym same) (subst (λ (x : DumpLists). IsDump bytes x) (sym kept) spelt);
      found = subst (λ (b : List ℕ). IsVerdict b (verdict_of a.false_line)) (sym same) told.0;
      tells = subst (λ (b : List ℕ). TellsFalse b (verdict_of a.false_line)) (sym same) told.1;
    }

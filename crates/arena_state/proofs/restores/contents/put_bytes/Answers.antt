use Rattle.std.proofs.Common.{◌≡◌, ℕ, ◌+◌, ◌*◌, ◌/◌, List, [], ◌++◌, length, drop, set, replicate, ap, ◌∙◌, arith, get_or-set_same}
use Rattle.std.proofs.lemmas.List.{set-set, length-replicate, drop_all, append-nil}
use Rattle.arena_memory.specs.Segments.{bytes_in}
use Rattle.kernel_rules.specs.Written.{written, resized}
use Rattle.arena_state.proofs.WholeCreateLaws.{from_none}
use Rattle.arena_state.proofs.restores.contents.put_bytes.Goals as goal

pub returns : goal.returns
returns c =
    let bytes = c.args.bytes.now in
    let n : ℕ = 256 * (length bytes / 256) in
    let old = c.args.segments.now in
    let s = c.args.slot.0 in
    let zeros : List ℕ = replicate n 0 in
    let first : c.resize.new.self ≡ set old s zeros =
    c.resize.ensures.after ∙ ap (λ (xs : List ℕ). set old s (resized n xs)) c.requires.blank ∙ ap (set old s) (from_none n) in
    let were : bytes_in c.resize.new.self s ≡ zeros = ap (λ (xs : List (List ℕ)). bytes_in xs s) first ∙ get_or-set_same old s zeros [] c.requires.slot in
    let none : drop (0 + length bytes) zeros ≡ [] = drop_all (0 + length bytes) zeros (omega (arith, length-replicate {A = ℕ} n 0, c.requires.whole)) in
    let over : written 0 bytes zeros ≡ bytes = ap (λ (xs : List ℕ). [] ++ bytes ++ xs) none ∙ append-nil bytes in
    c.write.ensures.after
    ∙ ap (λ (xs : List ℕ). set c.resize.new.self s (written 0 bytes xs)) were
    ∙ ap (set c.resize.new.self s) over
    ∙ ap (λ (xs : List (List ℕ)). set xs s bytes) first
    ∙ set-set old s zeros bytes

use Rattle.std.proofs.Common.{◌≡◌, ◌<◌, ◌≤◌, ◌+◌, ◌-◌, ◌*◌, ◌/◌, ◌%◌, ◌++◌, [], get_or, ℕ, List, length, take, drop, sym, ap, ◌∙◌, arith}
use Rattle.std.proofs.lemmas.List.{take_all, length-drop}
use Rattle.arena_memory.specs.Pages.{pages_at}
use Rattle.arena_memory.specs.Segments.{bytes_in}
use Rattle.arena_memory.proofs.Parts.{page_in, next_in, in_page, in_pages}
use Rattle.arena_memory.proofs.Seen.{bytes_is, length-bytes}
use Rattle.arena_memory.proofs.segments.segments.Segments.read.Goals as goal

pub page-page-requires-clause-place : goal.page-page-requires-clause-place
page-page-requires-clause-place c =
    let f = c.self.inside.frames in
    let within : c.args.from + c.args.count ≤ 256 * length (pages_at f c.args.slot.0) = omega (arith, c.requires.within, length-bytes f c.paged.ensures _ c.self.view_is c.args.slot.0) in
    page_in (pages_at f c.args.slot.0) (c.paged.ensures.whole c.args.slot.0) c.args.from c.args.count (omega (arith, c.if-count-eq0.false)) within

pub returns-then-count-first-clause-value : goal.returns-then-count-first-clause-value
returns-then-count-first-clause-value c =
    let f = c.self.inside.frames in
    let within : c.args.from + c.args.count ≤ 256 * length (pages_at f c.args.slot.0) = omega (arith, c.requires.within, length-bytes f c.paged.ensures _ c.self.view_is c.args.slot.0) in
    let off = c.args.from % 256 in
    let n : off + c.args.count - off ≡ c.args.count = omega arith in
    let m : c.args.count ≡ c.args.from + c.args.count - c.args.from = omega arith in
    c.part.ensures
    ∙ ap (λ (k : ℕ). take k (drop off c.page-page.result.now)) n
    ∙ ap (λ (p : List ℕ). take c.args.count (drop off p)) c.page-page.ensures.value
    ∙ in_page (pages_at f c.args.slot.0) (c.paged.ensures.whole c.args.slot.0) c.args.from c.args.count (omega (arith, c.if-count-eq0.false)) within c.if-count-first.true
    ∙ ap (λ (b : List ℕ). take c.args.count (drop c.args.from b)) (sym (bytes_is f c.paged.ensures _ c.self.view_is c.args.slot.0))
    ∙ ap (λ (k : ℕ). take k (drop c.args.from (bytes_in c.args.self.now c.args.slot.0))) m

pub page-next-requires-clause-place : goal.page-next-requires-clause-place
page-next-requires-clause-place c =
    let f = c.self.inside.frames in
    let within : c.args.from + c.args.count ≤ 256 * length (pages_at f c.args.slot.0) = omega (arith, c.requires.within, length-bytes f c.paged.ensures _ c.self.view_is c.args.slot.0) in
    next_in (pages_at f c.args.slot.0) (c.paged.ensures.whole c.args.slot.0) c.args.from c.args.count (omega (arith, c.if-count-eq0.false)) within c.if-count-first.false

pub returns-clause-value : goal.returns-clause-value
returns-clause-value c =
    let f = c.self.inside.frames in
    let within : c.args.from + c.args.count ≤ 256 * length (pages_at f c.args.slot.0) = omega (arith, c.requires.within, length-bytes f c.paged.ensures _ c.self.view_is c.args.slot.0) in
    let ps = pages_at f c.args.slot.0 in
    let whole = c.paged.ensures.whole c.args.slot.0 in
    let some : 0 < c.args.count = omega (arith, c.if-count-eq0.false) in
    let off = c.args.from % 256 in
    let rest = c.args.count - (256 - off) in
    let m : c.args.count ≡ c.args.from + c.args.count - c.args.from = omega arith in
    let first = ap (λ (p : List ℕ). take (256 - off) (drop off p)) c.page-page.ensures.value ∙ take_all (256 - off) (drop off (get_or ps (c.args.from / 256) [])) (omega (arith, length-drop off (get_or ps (c.args.from / 256) []), whole (c.args.from / 256) (page_in ps whole c.args.from c.args.count some within))) in
    let second = ap (λ (p : List ℕ). take rest p) c.page-next.ensures.value in
    c.joined.ensures
    ∙ ap (λ (p : List ℕ). p ++ take rest c.page-next.result.now) first
    ∙ ap (λ (p : List ℕ). drop off (get_or ps (c.args.from / 256) []) ++ p) second
    ∙ in_pages ps whole c.args.from c.args.count some within c.if-count-first.false (omega (arith, c.requires.few))
    ∙ ap (λ (b : List ℕ). take c.args.count (drop c.args.from b)) (sym (bytes_is f c.paged.ensures _ c.self.view_is c.args.slot.0))
    ∙ ap (λ (k : ℕ). take k (drop c.args.from (bytes_in c.args.self.now c.args.slot.0))) m

use Rattle.std.proofs.Common.{◌≡◌, ◌∙◌, refl, sym, ap, subst, arith, ℕ, ◌<◌, false, List, [], Option, Some, None, is_some, length, get_or, set, replicate}
use Rattle.std.proofs.lemmas.List.{get_or_read, set-get_or}
use Rattle.arena_memory.specs.Rows.{BySlot, Shows, with_row}
use Rattle.arena_memory.proofs.translation_rows.rows.Rows.clear.Goals as goal

is_none : (v : Option ℕ) → false ≡ is_some v → v ≡ None
is_none None h = refl
is_none (Some x) h = absurd (cc)

-- what is so already is written over with the same
same_row : (a : BySlot) (slot : ℕ) → get_or a.threads slot None ≡ None → get_or a.rows slot [] ≡ replicate 16 None
    → a ≡ with_row a slot None (replicate 16 None)
same_row a slot none blank =
    sym (ap (λ (v : Option ℕ). with_row a slot v (replicate 16 None)) (sym none)
    ∙ ap (λ (v : List Shows). with_row a slot (get_or a.threads slot None) v) (sym blank)
    ∙ ap (λ (v : List (Option ℕ)). record { threads = v; rows = set a.rows slot (get_or a.rows slot []) }) (set-get_or a.threads slot None)
    ∙ ap (λ (v : List (List Shows)). record { threads = a.threads; rows = v }) (set-get_or a.rows slot []))

pub returns-else-is_some-clause-all : goal.returns-else-is_some-clause-all
returns-else-is_some-clause-all c =
    let slot = c.args.slot.0 in
    let fields = c.self.inside in
    let rows : BySlot = record { threads = fields.threads.items; rows = fields.rows.items } in
    let is : rows ≡ c.args.self.now = c.self.view_is in
    let within : slot < length rows.rows = subst (λ (a : BySlot). slot < length a.rows) (sym is) c.requires in
    let none : get_or rows.threads slot None ≡ None
    = sym (get_or_read rows.threads slot c.index.result.now (omega (arith, within, c.self.invariant.0)) c.index.ensures None)
    ∙ is_none c.index.result.now c.if-is_some.ensures in
    subst (λ (a : BySlot). a ≡ with_row a slot None (replicate 16 None)) is
    (same_row rows slot none (c.self.invariant.5 slot within none))

use Rattle.std.proofs.Common.{sym, subst, ℕ}
use Rattle.std.specs.Prelude.{option_copied}
use Rattle.containers.specs.Tree.{HasSlot}
use Rattle.kernel_rules.specs.Step.{made_of}
use Rattle.kernel_store.specs.NewBodies.{new_body}
use Rattle.arena_state.specs.Shown.{SameAt, Tells}
use Rattle.arena_state.specs.States.{state_of, Stands}
use Rattle.arena_state.specs.declared.locations.Location.{Location}
use Rattle.arena_state.proofs.StockLaws.{whole_formed}
use Rattle.kernel_laws.specs.Names.{IsNamedRightly}
use Rattle.kernel_laws.proofs.Names.{named_created}
use Rattle.kernel_laws.proofs.Touched.{created_row}
use Rattle.syscall_core.proofs.NamedLaws.{new_named}
use Rattle.syscall_core.proofs.RowLaws.{made_limits, made_space, row_remade}
use Rattle.syscall_core.proofs.stores.KeptStateStore.create.Goals as goal

pub invariant_of-self : goal.invariant_of-self
invariant_of-self c =
    let k = c.args.self.now in
    let s = state_of k.state in
    let d = c.args.container.id in
    let l = option_copied c.args.label in
    let q = c.args.quota in
    let body = new_body (λ (l : Location). l.id) s c.args.body.now in
    let b = c.create-id.new.self in
    let new = c.remake_row.new.rows in
    let formed = whole_formed k.state.pieces k.state.sound k.state.stocked in
    record {
      kept = row_remade k.state b k.rows new s.next_id k.kept (made_of s d l q body)
          c.create-id.ensures.state c.create-id.ensures.slots (made_limits s d l q body)
          (made_space s d l q body formed c.requires.fitting.container)
          (λ t i off. created_row s d l q body t i formed k.named c.requires.fitting.container off)
          c.remake_row.ensures.size
          (subst (λ (t : ℕ). (slot : ℕ) → HasSlot b.pieces.places t slot → Tells (state_of b) t new slot)
          c.create-id.ensures.id c.remake_row.ensures.row)
          (subst (λ (t : ℕ). (slot : ℕ) → (HasSlot b.pieces.places t slot → ⊥) → SameAt k.rows new slot)
          c.create-id.ensures.id c.remake_row.ensures.others);
      named = subst IsNamedRightly (sym c.create-id.ensures.state)
          (named_created s d l q body k.named
          (new_named (λ (l : Location). l.id) (Stands k.state) s c.args.body.now formed c.requires.sourced));
    }

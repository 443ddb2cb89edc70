use Rattle.std.proofs.Common.{◌≡◌, ℕ, Bool, refl, sym, subst, ap, arith, ◌∙◌, length, true, false}
use Rattle.std.specs.Global.{Vec}
use Rattle.std.proofs.lemmas.List.{get_or_read}
use Rattle.std.specs.Vec.{with_item}
use Rattle.arena_state.specs.declared.pieces.Pieces.{Pieces}
use Rattle.arena_state.specs.declared.records.Record.{Record}
use Rattle.arena_state.specs.Assembled.{blank, record_in}
use Rattle.base.specs.Live.{has, links}
use Rattle.kernel_rules.specs.State.{list_at}
use Rattle.arena_state.specs.Assembled.{pieces_state}
use Rattle.arena_state.specs.Sound.{IsSound}
use Rattle.arena_state.specs.States.{state_of}
use Rattle.arena_state.specs.Stocked.{IsStocked, kept_pages, keeps_space, whole_state}
use Rattle.arena_state.proofs.SoundLaws.{slot_within}
use Rattle.arena_state.proofs.DeathLaws.{IsGone}
use Rattle.arena_state.proofs.HeldLaws.{read_set}
use Rattle.arena_state.proofs.WholeEditLaws.{reuse_pages, reuse_space}
use Rattle.arena_state.proofs.WholeLaws.{listed_bare, told_listed}
use Rattle.arena_state.proofs.WholeUnlinkLaws.{unlinked_stocked, unlinked_whole}
use Rattle.arena_state.proofs.StepLaws.{held_is, rises, container_within, enough, sound_then, state_then}
use Rattle.arena_state.proofs.StockLaws.{whole_formed}
use Rattle.arena_state.proofs.UnlistedLaws.{unlisted_state}
use Rattle.arena_state.proofs.states.ArenaState.unlink.Goals as goal

is_listed : (p : Pieces) (s : IsSound p) (d o : ℕ) (told : Bool) → told ≡ links p.places.lists d o → told ≡ true
    → has (list_at (pieces_state p) d) o ≡ true
is_listed p s d o told h is = listed_bare p d o true (told_listed p s d o told true h is)

pub unref_found-requires-clause-tree : goal.unref_found-requires-clause-tree
unref_found-requires-clause-tree c = rises c.args.self.now.pieces c.args.self.now.sound

pub index_mut-requires : goal.index_mut-requires
index_mut-requires c =
    let h = c.unref_found.ensures.handed c.if-unref_found.true in
    container_within c.args.self.now.pieces c.args.self.now.sound c.args.lister.id c.args.listed.id
    (is_listed c.args.self.now.pieces c.args.self.now.sound c.args.lister.id c.args.listed.id
    c.unref_found.result c.unref_found.ensures.told c.if-unref_found.true) c.args.lister.slot.0 c.args.listed.slot.0 c.requires.container.has
    c.requires.object.has c.unref_found.new.visitor h.0 h.1 h.3

pub discharge-requires : goal.discharge-requires
discharge-requires c =
    let h = c.unref_found.ensures.handed c.if-unref_found.true in
    enough c.args.self.now.pieces c.args.self.now.sound c.args.lister.id c.args.listed.id
    (is_listed c.args.self.now.pieces c.args.self.now.sound c.args.lister.id c.args.listed.id
    c.unref_found.result c.unref_found.ensures.told c.if-unref_found.true) c.args.lister.slot.0 c.args.listed.slot.0 c.requires.container.has
    c.requires.object.has c.unref_found.new.visitor h.0 h.1 h.3
    c.index.result.now c.index_mut.result.now c.index.ensures c.index_mut.ensures.value

pub invariant_of-self : goal.invariant_of-self
invariant_of-self c =
    let h = c.unref_found.ensures.handed c.if-unref_found.true in
    let gone : IsGone c.args.self.now.pieces.holdings h.1 c.unref_found.new.visitor = held_is c.args.self.now.pieces c.args.self.now.sound c.args.lister.id c.args.listed.id
    (is_listed c.args.self.now.pieces c.args.self.now.sound c.args.lister.id c.args.listed.id
    c.unref_found.result c.unref_found.ensures.told c.if-unref_found.true) c.args.lister.slot.0 c.args.listed.slot.0 c.requires.container.has
    c.requires.object.has c.unref_found.new.visitor h.0 h.1 h.3 in
    let q : Pieces = record c.args.self.now.pieces {
      places = c.unref_found.new.self;
      holdings = record c.unref_found.new.visitor {
        records = with_item c.unref_found.new.visitor.records c.args.lister.slot.0 c.discharge.new.given;
      };
    } in
    record {
      sound = sound_then c.args.self.now.pieces c.args.self.now.sound c.args.lister.id c.args.listed.id
          (is_listed c.args.self.now.pieces c.args.self.now.sound c.args.lister.id c.args.listed.id
          c.unref_found.result c.unref_found.ensures.told c.if-unref_found.true) c.args.lister.slot.0 c.args.listed.slot.0 c.requires.container.has
          c.requires.object.has c.unref_found.new.visitor h.0 h.1 h.3
          c.index.result.now c.index_mut.result.now c.index.ensures c.index_mut.ensures.value
          _ refl refl refl (c.unref_found.ensures.lists c.if-unref_found.true) (λ id slot at. (c.unref_found.ensures.kept c.if-unref_found.true id slot at).0) c.unref_found.ensures.pool
          c.len-count.ensures.well_formed h.2 h.4 refl c.discharge.new.given c.discharge.ensures refl;
      stocked = unlinked_stocked c.args.self.now.pieces c.args.self.now.sound c.args.self.now.stocked q
          (sound_then c.args.self.now.pieces c.args.self.now.sound c.args.lister.id c.args.listed.id
          (is_listed c.args.self.now.pieces c.args.self.now.sound c.args.lister.id c.args.listed.id
          c.unref_found.result c.unref_found.ensures.told c.if-unref_found.true) c.args.lister.slot.0 c.args.listed.slot.0 c.requires.container.has
          c.requires.object.has c.unref_found.new.visitor h.0 h.1 h.3
          c.index.result.now c.index_mut.result.now c.index.ensures c.index_mut.ensures.value
          _ refl refl refl (c.unref_found.ensures.lists c.if-unref_found.true) (λ id slot at. (c.unref_found.ensures.kept c.if-unref_found.true id slot at).0) c.unref_found.ensures.pool
          c.len-count.ensures.well_formed h.2 h.4 refl c.discharge.new.given c.discharge.ensures refl) h.1 c.unref_found.new.visitor gone h.4 refl refl refl refl (λ id slot at. (c.unref_found.ensures.kept c.if-unref_found.true id slot at).0)
          (λ x. read_set kept_pages c.unref_found.new.visitor.records.items c.args.lister.slot.0 c.discharge.new.given
          (omega (
            arith,
            slot_within c.args.self.now.pieces c.args.self.now.sound c.args.lister.id c.args.lister.slot.0 c.requires.container.has,
            ap (λ (rs : Vec Record). length rs.items) gone.records,
          ))
          (ap (λ (r : Record). kept_pages r.body) c.discharge.ensures ∙ reuse_pages _ c.index_mut.result.now.body
          ∙ ap (λ (r : Record). kept_pages r.body) (get_or_read c.unref_found.new.visitor.records.items c.args.lister.slot.0 c.index_mut.result.now
          (omega (
            arith,
            slot_within c.args.self.now.pieces c.args.self.now.sound c.args.lister.id c.args.lister.slot.0 c.requires.container.has,
            ap (λ (rs : Vec Record). length rs.items) gone.records,
          )) c.index_mut.ensures.value blank)) x
          ∙ ap (λ (rs : Vec Record). kept_pages (record_in rs.items x).body) gone.records)
          (λ x. read_set keeps_space c.unref_found.new.visitor.records.items c.args.lister.slot.0 c.discharge.new.given
          (omega (
            arith,
            slot_within c.args.self.now.pieces c.args.self.now.sound c.args.lister.id c.args.lister.slot.0 c.requires.container.has,
            ap (λ (rs : Vec Record). length rs.items) gone.records,
          ))
          (ap (λ (r : Record). keeps_space r.body) c.discharge.ensures ∙ reuse_space _ c.index_mut.result.now.body
          ∙ ap (λ (r : Record). keeps_space r.body) (get_or_read c.unref_found.new.visitor.records.items c.args.lister.slot.0 c.index_mut.result.now
          (omega (
            arith,
            slot_within c.args.self.now.pieces c.args.self.now.sound c.args.lister.id c.args.lister.slot.0 c.requires.container.has,
            ap (λ (rs : Vec Record). length rs.items) gone.records,
          )) c.index_mut.ensures.value blank)) x
          ∙ ap (λ (rs : Vec Record). keeps_space (record_in rs.items x).body) gone.records);
    }

pub returns-then-unref_found-clause-state : goal.returns-then-unref_found-clause-state
returns-then-unref_found-clause-state c =
    let h = c.unref_found.ensures.handed c.if-unref_found.true in
    let gone : IsGone c.args.self.now.pieces.holdings h.1 c.unref_found.new.visitor = held_is c.args.self.now.pieces c.args.self.now.sound c.args.lister.id c.args.listed.id
    (is_listed c.args.self.now.pieces c.args.self.now.sound c.args.lister.id c.args.listed.id
    c.unref_found.result c.unref_found.ensures.told c.if-unref_found.true) c.args.lister.slot.0 c.args.listed.slot.0 c.requires.container.has
    c.requires.object.has c.unref_found.new.visitor h.0 h.1 h.3 in
    let q : Pieces = record c.args.self.now.pieces {
      places = c.unref_found.new.self;
      holdings = record c.unref_found.new.visitor {
        records = with_item c.unref_found.new.visitor.records c.args.lister.slot.0 c.discharge.new.given;
      };
    } in
    unlinked_whole c.args.self.now.pieces c.args.self.now.sound c.args.self.now.stocked q
    (sound_then c.args.self.now.pieces c.args.self.now.sound c.args.lister.id c.args.listed.id
    (is_listed c.args.self.now.pieces c.args.self.now.sound c.args.lister.id c.args.listed.id
    c.unref_found.result c.unref_found.ensures.told c.if-unref_found.true) c.args.lister.slot.0 c.args.listed.slot.0 c.requires.container.has
    c.requires.object.has c.unref_found.new.visitor h.0 h.1 h.3
    c.index.result.now c.index_mut.result.now c.index.ensures c.index_mut.ensures.value
    _ refl refl refl (c.unref_found.ensures.lists c.if-unref_found.true) (λ id slot at. (c.unref_found.ensures.kept c.if-unref_found.true id slot at).0) c.unref_found.ensures.pool
    c.len-count.ensures.well_formed h.2 h.4 refl c.discharge.new.given c.discharge.ensures refl) h.1 c.unref_found.new.visitor gone h.4 refl refl refl refl (λ id slot at. (c.unref_found.ensures.kept c.if-unref_found.true id slot at).0)
    (λ x. read_set kept_pages c.unref_found.new.visitor.records.items c.args.lister.slot.0 c.discharge.new.given
    (omega (
      arith,
      slot_within c.args.self.now.pieces c.args.self.now.sound c.args.lister.id c.args.lister.slot.0 c.requires.container.has,
      ap (λ (rs : Vec Record). length rs.items) gone.records,
    ))
    (ap (λ (r : Record). kept_pages r.body) c.discharge.ensures ∙ reuse_pages _ c.index_mut.result.now.body
    ∙ ap (λ (r : Record). kept_pages r.body) (get_or_read c.unref_found.new.visitor.records.items c.args.lister.slot.0 c.index_mut.result.now
    (omega (
      arith,
      slot_within c.args.self.now.pieces c.args.self.now.sound c.args.lister.id c.args.lister.slot.0 c.requires.container.has,
      ap (λ (rs : Vec Record). length rs.items) gone.records,
    )) c.index_mut.ensures.value blank)) x
    ∙ ap (λ (rs : Vec Record). kept_pages (record_in rs.items x).body) gone.records)
    (λ x. read_set keeps_space c.unref_found.new.visitor.records.items c.args.lister.slot.0 c.discharge.new.given
    (omega (
      arith,
      slot_within c.args.self.now.pieces c.args.self.now.sound c.args.lister.id c.args.lister.slot.0 c.requires.container.has,
      ap (λ (rs : Vec Record). length rs.items) gone.records,
    ))
    (ap (λ (r : Record). keeps_space r.body) c.discharge.ensures ∙ reuse_space _ c.index_mut.result.now.body
    ∙ ap (λ (r : Record). keeps_space r.body) (get_or_read c.unref_found.new.visitor.records.items c.args.lister.slot.0 c.index_mut.result.now
    (omega (
      arith,
      slot_within c.args.self.now.pieces c.args.self.now.sound c.args.lister.id c.args.lister.slot.0 c.requires.container.has,
      ap (λ (rs : Vec Record). length rs.items) gone.records,
    )) c.index_mut.ensures.value blank)) x
    ∙ ap (λ (rs : Vec Record). keeps_space (record_in rs.items x).body) gone.records)
    c.args.lister.id c.args.listed.id
    (state_then c.args.self.now.pieces c.args.self.now.sound c.args.lister.id c.args.listed.id
    (is_listed c.args.self.now.pieces c.args.self.now.sound c.args.lister.id c.args.listed.id
    c.unref_found.result c.unref_found.ensures.told c.if-unref_found.true) c.args.lister.slot.0 c.args.listed.slot.0 c.requires.container.has
    c.requires.object.has c.unref_found.new.visitor h.0 h.1 h.3
    c.index.result.now c.index_mut.result.now c.index.ensures c.index_mut.ensures.value
    q refl refl refl (c.unref_found.ensures.lists c.if-unref_found.true) (λ id slot at. (c.unref_found.ensures.kept c.if-unref_found.true id slot at).0) c.unref_found.ensures.pool
    c.len-count.ensures.well_formed h.2 h.4 refl c.discharge.new.given c.discharge.ensures refl)

pub invariant_of-self-else-unref_found : goal.invariant_of-self-else-unref_found
invariant_of-self-else-unref_found c =
    let p = c.args.self.now.pieces in
    let same : p ≡ record p { places = c.unref_found.new.self; holdings = c.unref_found.new.visitor }
    = (λ i. record p {
      places = sym (c.unref_found.ensures.none c.if-unref_found.false) i;
      holdings = sym (c.unref_found.ensures.unseen c.if-unref_found.false) i;
    }) in
    record {
      sound = subst IsSound same c.args.self.now.sound;
      stocked = subst IsStocked same c.args.self.now.stocked;
    }

pub returns-else-unref_found-clause-state : goal.returns-else-unref_found-clause-state
returns-else-unref_found-clause-state c =
    let p = c.args.self.now.pieces in
    let same : p ≡ record p { places = c.unref_found.new.self; holdings = c.unref_found.new.visitor }
    = (λ i. record p {
      places = sym (c.unref_found.ensures.none c.if-unref_found.false) i;
      holdings = sym (c.unref_found.ensures.unseen c.if-unref_found.false) i;
    }) in
    ap whole_state (sym same)
    ∙ unlisted_state (state_of c.args.self.now) c.args.lister.id c.args.listed.id
    (whole_formed p c.args.self.now.sound c.args.self.now.stocked)
    (told_listed p c.args.self.now.sound c.args.lister.id c.args.listed.id
    c.unref_found.result false c.unref_found.ensures.told c.if-unref_found.false)

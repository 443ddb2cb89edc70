use Rattle.std.proofs.Common.{◌≡◌, ℕ, List, [], ◌∷◌, ◌++◌, sym, ◌∙◌, ap, subst}
use Rattle.std.specs.BTreeMap.{BTreeMap}
use Rattle.kernel_rules.specs.Events.{Event}
use Rattle.logged_kernel.proofs.EntryLaws.{events_append}
use Rattle.logged_kernel.proofs.LastLaws.{last_more}
use Rattle.logged_kernel.specs.Entries.{events_of}
use Rattle.logged_kernel.specs.Numbers.{AreLast}
use Rattle.logged_kernel.specs.declared.entries.Entry.{Entry}
use Rattle.logged_kernel.specs.declared.entries.Entry.TheVariants as entries
use Rattle.logged_kernel.proofs.logging.make_kept.Goals as goal

pub returns-clause-last : goal.returns-clause-last
returns-clause-last c =
    let first = c.args.origin.now.next in
    let kept = c.args.log.now.entries.items in
    let e = c.event-event.result in
    let old = c.keep_call.new.log.last in
    let items : c.push_reserved.new.self.items ≡ kept ++ entries.Event e ∷ [] =
    c.push_reserved.ensures.items ∙ ap (λ (l : List Entry). l ++ entries.Event e ∷ []) c.keep_call.ensures.same in
    let events : events_of c.push_reserved.new.self.items ≡ events_of kept ++ e ∷ [] =
    ap events_of items ∙ events_append kept (entries.Event e ∷ []) in
    subst (λ (l : List Event). AreLast first c.note_last.new.last l) (sym events)
    (last_more first old c.note_last.new.last (events_of kept) e c.args.thread c.in-Some.number c.event-event.ensures.thread
    c.in_ok-note_last.ensures.noted c.in-Some.ensures
    (subst (λ (m : BTreeMap ℕ ℕ). AreLast first m (events_of kept)) (sym c.keep_call.ensures.last) c.requires))

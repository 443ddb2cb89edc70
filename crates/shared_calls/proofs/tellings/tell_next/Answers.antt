use Rattle.std.proofs.Common.{◌≡◌, ◌++◌, ◌∷◌, [], List, refl, ap, ◌∙◌}
use Rattle.shared_calls.specs.Lists.{made}
use Rattle.shared_calls.specs.declared.rules.Made.{Made}
use Rattle.shared_calls.proofs.TellingLaws.{telling_more}
use Rattle.shared_calls.proofs.tellings.tell_next.Goals as goal

pub returns : goal.returns
returns c =
    let t = c.args.telling.now in
    let next = c.in-Some.next.now in
    let told = c.in-Some.ensures.log in
    let event = c.in_ok-event.ensures in
    let cursor = c.step.new.self in
    let m : Made = made told.0 next.thread (next.call ∷ next.more.items) in
    let log : cursor.seen.log ≡ t.cursor.seen.log ++ m ∷ [] =
    ap (λ s. s.log) c.step.ensures.seen ∙ (ap (λ s. s.log) c.again-seen.ensures
    ∙ (told.1 ∙ ap (λ (l : List Made). l ++ m ∷ []) (ap (λ s. s.log) c.reach.ensures.seen))) in
    let book : cursor.seen.book ≡ t.cursor.seen.book =
    ap (λ s. s.book) c.step.ensures.seen ∙ (ap (λ s. s.book) c.again-seen.ensures
    ∙ (c.in-Some.ensures.list ∙ ap (λ s. s.book) c.reach.ensures.seen)) in
    let all = telling_more t cursor c.next_event.new.journal m c.in_ok-event.event c.requires log book c.step.ensures.placed told.2
    event.thread event.number event.calls event.state event.counted in
    record {
      telling = all.0;
      same = (refl, refl, refl, refl);
      event = all.1;
      count = all.2;
    }

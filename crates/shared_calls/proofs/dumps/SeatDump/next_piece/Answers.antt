use Rattle.std.proofs.Common.{◌≡◌, ℕ, ◌+◌, Option, Some, None, option_map, subst, arith}
use Rattle.std.specs.Arc.{arc_value}
use Rattle.std.specs.Global.{Vec}
use Rattle.shared_calls.specs.Dumps.{DumpView, IsDumpAfter, IsPieceOf, IsTold, dump_in}
use Rattle.shared_calls.specs.declared.tellings.Telling.{Telling}
use Rattle.shared_calls.proofs.TellingLaws.{after_is, few_after, last_is, over_is, piece_is}
use Rattle.shared_calls.proofs.dumps.SeatDump.next_piece.Goals as goal

-- what was told, where that is a piece, and where it is nothing
of_some : (t u : Telling) (number : ℕ) (text : Option (Vec ℕ)) (piece : Vec ℕ) → text ≡ Some piece
    → IsTold t u number (option_map (λ (v : Vec ℕ). v.items) text) → IsTold t u number (Some piece.items)
of_some t u number text piece is told =
    subst (λ (o : Option (Vec ℕ)). IsTold t u number (option_map (λ (v : Vec ℕ). v.items) o)) is told

of_none : (t u : Telling) (number : ℕ) (text : Option (Vec ℕ)) → text ≡ None
    → IsTold t u number (option_map (λ (v : Vec ℕ). v.items) text) → IsTold t u number None
of_none t u number text is told =
    subst (λ (o : Option (Vec ℕ)). IsTold t u number (option_map (λ (v : Vec ℕ). v.items) o)) is told

pub overflow_add-result : goal.overflow_add-result
overflow_add-result c =
    let told = of_some c.self.inside.telling c.tell_piece.new.telling c.self.inside.number c.in-Ok-Some.field-0 c.in-Ok-Some.text
    c.in-Ok-Some.field-0-is c.in-Ok-Some.ensures.piece in
    let ended = c.self.invariant.0.ended in
    omega (arith, told.5, ended.at, ended.within, (arc_value c.self.inside.telling.end.block).few)

pub invariant_of-result : goal.invariant_of-result
invariant_of-result c =
    let t = c.self.inside.telling in
    let u = c.tell_piece.new.telling in
    let number = c.self.inside.number in
    let told = of_some t u number c.in-Ok-Some.field-0 c.in-Ok-Some.text c.in-Ok-Some.field-0-is c.in-Ok-Some.ensures.piece in
    (told.0, told.1, few_after t u number c.in-Ok-Some.text.items c.in-Ok-Some.ensures.same told)

pub returns-in-Ok-Some : goal.returns-in-Ok-Some
returns-in-Ok-Some c =
    let t = c.self.inside.telling in
    let u = c.tell_piece.new.telling in
    let number = c.self.inside.number in
    let bytes = c.in-Ok-Some.text.items in
    let told = of_some t u number c.in-Ok-Some.field-0 c.in-Ok-Some.text c.in-Ok-Some.field-0-is c.in-Ok-Some.ensures.piece in
    record {
      piece = subst (λ (d : DumpView). IsPieceOf d bytes) c.self.view_is (piece_is t u number bytes told);
      after = subst (λ (d : DumpView). IsDumpAfter d bytes (Some (dump_in u (number + 1)))) c.self.view_is
          (after_is t u number bytes c.in-Ok-Some.ensures.same told);
    }

pub returns-in-Ok-None : goal.returns-in-Ok-None
returns-in-Ok-None c =
    let t = c.self.inside.telling in
    let u = c.tell_piece.new.telling in
    let number = c.self.inside.number in
    let bytes = c.new.result.items in
    let told = of_none t u number c.in-Ok-None.field-0 c.in-Ok-None.field-0-is c.in-Ok-None.ensures.piece in
    record {
      piece = subst (λ (d : DumpView). IsPieceOf d bytes) c.self.view_is (last_is t u number bytes c.new.ensures.items told);
      after = subst (λ (d : DumpView). IsDumpAfter d bytes None) c.self.view_is (over_is t u number bytes c.new.ensures.items told);
    }

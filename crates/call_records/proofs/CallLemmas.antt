-- Numbers of no write call.
use Rattle.std.proofs.Common.{◌≡◌, ◌≢◌, ◌<◌, ◌≤◌, ℕ, zero, suc, nat_le, true, false, refl, ap, Some, None, slice_get, arith}
use borrow.Author.Tests.{leb-true}
use Rattle.kernel_rules.specs.declared.calls.Call.{Call}
use Rattle.call_records.specs.Queries.{query_of}
use Rattle.std.specs.Option.{option_and_then}
use Rattle.std.proofs.lemmas.Option.{slice_get_past}
use Rattle.call_records.specs.declared.records.Request.{Request}
use Rattle.call_records.specs.Calls.{all, call_of}

-- 0, or a number past the table, asks for no write call
pub none_at : (n : ℕ) (r : Request) → (n ≢ 0 → 24 < n)
    → option_and_then (λ asks. asks r) (slice_get all n) ≡ None
none_at zero r outside = refl
none_at (suc n) r outside =
    let past : 24 < suc n = outside (λ e. omega arith) in
    ap (option_and_then (λ asks. asks r)) (slice_get_past all (suc n) (omega arith))

-- what asks for a write call has a number below 25
few : (r : Request) (c : Call) → call_of r ≡ Some c → nat_le 25 r.call ≡ false
few r c e =
    elim (nat_le 25 r.call) as (λ b. nat_le 25 r.call ≡ b → b ≡ false) [
      | true ↦ λ past.
          let none : call_of r ≡ None =
          none_at r.call r (λ some. let h : 25 ≤ r.call = leb-true 25 r.call past in omega arith) in
          cc
      | false ↦ λ past. refl
    ] refl

-- what asks for a write call asks for no read call
pub no_read : (r : Request) (c : Call) → call_of r ≡ Some c → query_of r ≡ None
no_read r c e = rw (few r c e) refl

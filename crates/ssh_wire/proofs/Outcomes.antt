-- Errors that a `?` passes on.
use Rattle.std.proofs.Common.{◌≡◌, ◌↔◌, true, false, Result, Ok, Err, IfErr, IsErrAnd, sym, subst}
use Rattle.std.proofs.Common.{true≢false}

pub passed_on : {T E : Type 0} (r : Result T E) (why : E) (P : E → Type 0)
    → IsErrAnd r (λ e. e ≡ why) → P why → IfErr r P
passed_on (Ok x) why P is holds = tt
passed_on (Err e) why P is holds = subst P (sym is) holds

-- an answer that is Ok exactly where something holds, and is not Ok
pub not_so : {P : Type 0} → ((false ≡ true) ↔ P) → P → ⊥
not_so exactly holds = true≢false (sym (exactly.1 holds))

-- What a script's exchange of keys answers.
use Rattle.std.proofs.Common.{◌≡◌, List, [], ◌∷◌, ◌++◌, Option, Some, None, Result, Ok, Err, Bool}
use Rattle.std.proofs.Common.{false, refl, sym, ◌∙◌, ap, subst}
use Rattle.std.specs.Prelude.{ℕ, OnOk, OnErr}
use Rattle.std.proofs.lemmas.List.{append-nil}
use Rattle.ssh_link.specs.declared.kex.KexCall.{KexCall}
use Rattle.ssh_link.specs.declared.kex.KexCall.TheVariants.{Begun, Stepped}
use Rattle.ssh_link.specs.declared.kex.KexFault.{KexFault}
use Rattle.ssh_link.specs.declared.kex.KexFault.TheVariants.{Refused, NoMemory}
use Rattle.ssh_link.specs.declared.kex.KexStep.{KexStep}
use Rattle.ssh_link.specs.declared.plain_kex.PlainKexError.{PlainKexError}
use Rattle.ssh_link.specs.Exchange.{TellsStep, IsOwed, plain_turn, plain_answer, plain_both}
use Rattle.ssh_auth.specs.declared.question.Question.TheVariants as ask
use Rattle.ssh_auth.specs.Plan.{asked_in_step}
use Rattle.ssh_players.specs.Exchanged.{answered_as, after, as_answered, left_after, IsExchanged}

abbrev PlainCall : Type 0
PlainCall = KexCall PlainKexError

-- ---- calls one after another

-- one more call
answered_more : (both : Bool) (calls : List PlainCall) (call : PlainCall) →
    as_answered both (calls ++ call ∷ [])
    ≡ as_answered both calls ++ answered_as (left_after both calls) call ∷ []
answered_more both [] call = refl
answered_more both (first ∷ calls) call = ap (λ l. answered_as both first ∷ l)
    (answered_more (after both first) calls call)

left_more : (both : Bool) (calls : List PlainCall) (call : PlainCall) →
    left_after both (calls ++ call ∷ []) ≡ after (left_after both calls) call
left_more both [] call = refl
left_more both (first ∷ calls) call = left_more (after both first) calls call

pub first_exchanged : (both : Bool) (call : PlainCall) (calls : List PlainCall)
    → IsExchanged both (call ∷ calls) → answered_as both call ≡ call
first_exchanged both call calls h =
    let e : answered_as both call ∷ as_answered (after both call) calls ≡ call ∷ calls = h in cc

pub rest_exchanged : (both : Bool) (call : PlainCall) (calls : List PlainCall)
    → IsExchanged both (call ∷ calls) → IsExchanged (after both call) calls
rest_exchanged both call calls h =
    let e : answered_as both call ∷ as_answered (after both call) calls ≡ call ∷ calls = h in cc

-- the answer depends on what was asked
same_answer : (both : Bool) (x y : PlainCall) → asked_in_step x ≡ asked_in_step y
    → answered_as both x ≡ answered_as both y
same_answer both (Begun a) (Begun b) e = refl
same_answer both (Begun a) (Stepped payload b) e =
    absurd (let z : ask.Begins ≡ ask.Steps payload = e in cc)
same_answer both (Stepped payload a) (Begun b) e =
    absurd (let z : ask.Steps payload ≡ ask.Begins = e in cc)
same_answer both (Stepped p a) (Stepped q b) e =
    let z : ask.Steps p ≡ ask.Steps q = e in
    let same : p ≡ q = cc in
    ap (λ payload. Stepped payload (plain_answer (plain_turn both payload))) same

pub one_step : (both : Bool) (x y : PlainCall) → asked_in_step x ≡ asked_in_step y
    → answered_as both x ≡ x → answered_as both y ≡ y → x ≡ y
one_step both x y e h k = sym h ∙ (same_answer both x y e ∙ k)

-- ---- the calls of an exchange without cryptography

-- they were answered as they are told, and it stands where they left it
pub record Plays (both : Bool) (calls : List PlainCall) : Type 0 where
  pub exchanged : IsExchanged false calls
  pub left : left_after false calls ≡ both

plays_more : (both both' : Bool) (calls calls' : List PlainCall) (call : PlainCall)
    → Plays both calls → answered_as both call ≡ call → Some calls' ≡ Some (calls ++ call ∷ [])
    → both' ≡ after both call → Plays both' calls'
plays_more both both' calls calls' call p g t b =
    let e : calls' ≡ calls ++ call ∷ [] = cc in
    let one : answered_as (left_after false calls) call ≡ call =
    ap (λ x. answered_as x call) p.left ∙ g in record {
      exchanged = ap (as_answered false) e ∙ (answered_more false calls call
          ∙ (ap (λ l. l ++ answered_as (left_after false calls) call ∷ []) p.exchanged
          ∙ (ap (λ c. calls ++ c ∷ []) one ∙ sym e)));
      left = ap (left_after false) e ∙ (left_more false calls call
          ∙ (ap (λ x. after x call) p.left ∙ sym b));
    }

plays_same : (both both' : Bool) (calls calls' : List PlainCall) → Plays both calls
    → Some calls' ≡ Some (calls ++ []) → both' ≡ both → Plays both' calls'
plays_same both both' calls calls' p t b =
    let e : calls' ≡ calls ++ [] = cc in
    let same : calls' ≡ calls = e ∙ append-nil calls in record {
      exchanged = subst (IsExchanged false) (sym same) p.exchanged;
      left = ap (left_after false) same ∙ (p.left ∙ sym b);
    }

pub plays_begun : (result : Result (List ℕ) (KexFault PlainKexError)) (both both' : Bool)
    (calls calls' : List PlainCall) → Plays both calls →
    TellsStep (Some calls) (Some calls') Begun result → IsOwed (Ok (20 ∷ [])) result
    → both' ≡ both → Plays both' calls'
plays_begun (Ok payload) both both' calls calls' p t o b =
    plays_more both both' calls calls' (Begun (Ok payload)) p (ap Begun o) t b
plays_begun (Err (Refused error)) both both' calls calls' p t o b =
    absurd (let z : Ok (20 ∷ []) ≡ Err error = o in cc)
plays_begun (Err NoMemory) both both' calls calls' p t o b = plays_same both both' calls calls' p t
    b

-- a refusal leaves it where it was
refused_same : (both : Bool) (turn : Option Bool) (error : PlainKexError)
    → plain_answer turn ≡ Err error → both ≡ plain_both both turn
refused_same both None error h = refl
refused_same both (Some done) error h = absurd (let z = h in cc)

pub plays_stepped : (result : Result KexStep (KexFault PlainKexError)) (payload : List ℕ)
    (both both' : Bool) (calls calls' : List PlainCall) → Plays both calls →
    TellsStep (Some calls) (Some calls') (Stepped payload) result →
    IsOwed (plain_answer (plain_turn both payload)) result →
    OnOk result (both' ≡ plain_both both (plain_turn both payload)) → OnErr result (both' ≡ both)
    → Plays both' calls'
plays_stepped (Ok step) payload both both' calls calls' p t o b f =
    plays_more both both' calls calls' (Stepped payload (Ok step)) p (ap (Stepped payload) o) t b
plays_stepped (Err (Refused error)) payload both both' calls calls' p t o b f =
    plays_more both both' calls calls' (Stepped payload (Err error)) p (ap (Stepped payload) o) t
    (f ∙ refused_same both (plain_turn both payload) error o)
plays_stepped (Err NoMemory) payload both both' calls calls' p t o b f =
    plays_same both both' calls calls' p t f
